use Rattle.changes.proofs.ChangesSteps.{change_none, change_room, change_put}
use Rattle.changes.proofs.put_change.Goals as goal

pub returns-then-old-new : goal.returns-then-old-new
returns-then-old-new c = search change_none

pub put_words-requires : goal.put_words-requires
put_words-requires c = search change_room

pub returns : goal.returns
returns c = search change_put
