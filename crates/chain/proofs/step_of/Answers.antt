use Rattle.chain.proofs.Down.{step_as, step_found}
use Rattle.chain.specs.LayerSteps.{step_of}
use Rattle.chain.proofs.step_of.Goals as goal

pub returns-in-Err : goal.returns-in-Err
unfolding step_of
returns-in-Err c = search (step_as, step_found)

pub returns-in-Absent : goal.returns-in-Absent
unfolding step_of
returns-in-Absent c = search (step_as, step_found)

pub returns-in-Zero : goal.returns-in-Zero
unfolding step_of
returns-in-Zero c = search (step_as, step_found)

pub returns-in-Stored : goal.returns-in-Stored
unfolding step_of
returns-in-Stored c = search (step_as, step_found)

pub returns-in-Packed : goal.returns-in-Packed
unfolding step_of
returns-in-Packed c = search (step_as, step_found)
