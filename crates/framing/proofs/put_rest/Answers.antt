use Rattle.framing.proofs.WordsLaws.{put_more}
use Rattle.framing.proofs.put_rest.Goals as goal

pub returns : goal.returns
returns c = search put_more
