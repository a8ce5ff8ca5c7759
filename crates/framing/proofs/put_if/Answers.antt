use Rattle.framing.proofs.WordsLaws.{room_as, put_as, put_nothing, there, not_there}
use Rattle.framing.proofs.put_if.Goals as goal

pub put-requires : goal.put-requires
put-requires c = room_as _ _ _ _ c.requires _ (there _ _ c.if-there.true)

pub returns-then-there : goal.returns-then-there
returns-then-there c = search (put_as, there)

pub returns : goal.returns
returns c = search (put_nothing, not_there)
