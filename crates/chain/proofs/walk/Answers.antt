use Rattle.header.proofs.HeaderAnswered.{judged_header}
use Rattle.chain.proofs.Down.{first_ends}
use Rattle.chain.proofs.walk.Goals as goal

pub judged_layer-judged-requires : goal.judged_layer-judged-requires
judged_layer-judged-requires c = search first_ends

pub walk_from-requires-clause-first_value : goal.walk_from-requires-clause-first_value
walk_from-requires-clause-first_value c = search judged_header
