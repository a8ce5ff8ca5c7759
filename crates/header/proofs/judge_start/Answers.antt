use native.Mathlib.Omega.{arith}
use Rattle.header.proofs.HeaderAnswered.{not_kdmv}
use Rattle.format.specs.Header.{judge_start}
use Rattle.base.proofs.Steps.{steps}
use Rattle.header.proofs.judge_start.Goals as goal

pub returns-then-image-lt4 : goal.returns-then-image-lt4
unfolding judge_start
returns-then-image-lt4 c = search steps depth 8

pub returns-then-same_at : goal.returns-then-same_at
unfolding judge_start
returns-then-same_at c = search steps depth 8

pub returns : goal.returns
unfolding judge_start
returns c = not_kdmv _ _ c.judge.ensures (omega arith) c.same_at.ensures c.if-same_at.false
