use Rattle.kdmv.proofs.KdmvKept.{kdmv_sized}
use Rattle.format.proofs.Faults.{fault_found, fault_none}
use Rattle.format.specs.Header.{judge_kdmv_start}
use Rattle.base.proofs.GivenBack.{given_back}
use Rattle.base.proofs.Steps.{steps}
use Rattle.kdmv.proofs.judge_start.Goals as goal

pub returns-then-image-lt512 : goal.returns-then-image-lt512
unfolding judge_kdmv_start
returns-then-image-lt512 c = search steps

pub header-requires : goal.header-requires
header-requires c = search (kdmv_sized, c.in_ok-fault.was)

pub returns-in_err-fault : goal.returns-in_err-fault
unfolding judge_kdmv_start
returns-in_err-fault c =
    let refused = given_back c.from_residual.result c.in_err-fault.field-0.0 c.from_residual.ensures.1 in
    rw (← c.fields-k.ensures) (search (fault_found, steps, c.in_err-fault.was) depth 8)

pub returns : goal.returns
unfolding judge_kdmv_start
returns c = rw (c.header.ensures, ← c.fields-k.ensures) (search (fault_none, steps, c.in_ok-fault.was) depth 8)
