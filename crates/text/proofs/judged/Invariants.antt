-- `judged`: at each turn the lines that are left say the same as all.
use Rattle.std.proofs.Common.{◌≤◌, ◌-◌, ◌+◌, length}
use Rattle.text.specs.StateBounds.{Few}
use Rattle.text.proofs.Lines.{Left}
use Rattle.text.proofs.judged.Given as goal

abbrev pub invariant-loop-from : goal.invariant-loop-from
invariant-loop-from l = record {
  inside : l.from ≤ length l.text + 1;
  few : Few l.from l.st;
  left : Left l.text l.st l.from;
}

abbrev pub decreases-loop-from : goal.decreases-loop-from
decreases-loop-from l = length l.text + 1 - l.from
