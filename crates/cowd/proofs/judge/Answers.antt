use Rattle.format.proofs.Faults.{fault_found, fault_none}
use Rattle.format.specs.Header.{judge_cowd}
use Rattle.base.proofs.GivenBack.{given_back}
use Rattle.base.proofs.Steps.{steps}
use Rattle.cowd.proofs.judge.Goals as goal

pub returns-then-image-lt2048 : goal.returns-then-image-lt2048
unfolding judge_cowd
returns-then-image-lt2048 c = search steps

pub returns-then-kind_gone : goal.returns-then-kind_gone
unfolding judge_cowd
returns-then-kind_gone c = search steps

pub returns-in_err-fault : goal.returns-in_err-fault
unfolding judge_cowd
returns-in_err-fault c =
    let refused = given_back c.from_residual.result c.in_err-fault.field-0.0 c.from_residual.ensures.1 in
    rw (← c.fields-k.ensures.0) (search (fault_found, steps, c.in_err-fault.was) depth 8)

pub returns : goal.returns
unfolding judge_cowd
returns c = rw (← c.fields-k.ensures.0) (search (fault_none, steps, c.in_ok-fault.was) depth 8)
