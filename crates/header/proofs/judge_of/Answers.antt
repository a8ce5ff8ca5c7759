use Rattle.format.specs.Header.{judge_of}
use Rattle.base.proofs.Steps.{steps}
use Rattle.header.proofs.judge_of.Goals as goal

pub returns-then-image-lt4 : goal.returns-then-image-lt4
unfolding judge_of
returns-then-image-lt4 c = search steps depth 8

pub returns-then-same_at : goal.returns-then-same_at
unfolding judge_of
returns-then-same_at c = search steps depth 8

pub returns-then-same_at-2 : goal.returns-then-same_at-2
unfolding judge_of
returns-then-same_at-2 c = search steps depth 8

pub returns : goal.returns
unfolding judge_of
returns c = search steps depth 8
