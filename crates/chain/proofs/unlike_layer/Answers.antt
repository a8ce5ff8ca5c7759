use Rattle.chain.proofs.Down.{unlike_known, never_unknown}
use Rattle.chain.proofs.unlike_layer.Goals as goal

pub returns-in-Ok : goal.returns-in-Ok
returns-in-Ok c = search unlike_known

pub returns-in-Err : goal.returns-in-Err
returns-in-Err c = search never_unknown
