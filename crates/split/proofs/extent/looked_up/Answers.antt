use Rattle.split.proofs.ExtentLaws.{looked_found, looked_refused}
use Rattle.split.proofs.extent.looked_up.Goals as goal

pub returns-in-Ok : goal.returns-in-Ok
returns-in-Ok c = search looked_found

pub returns-in-Err : goal.returns-in-Err
returns-in-Err c = search looked_refused
