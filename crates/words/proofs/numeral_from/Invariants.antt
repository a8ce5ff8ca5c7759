-- `numeral_from`: at each turn the number, read on from what the digits so far make, is that of all.
use Rattle.std.proofs.Common.{◌<◌, ◌^◌}
use Rattle.words.proofs.Numerals.{Digits}
use Rattle.words.proofs.numeral_from.Given as goal

abbrev pub invariant-loop-x : goal.invariant-loop-x
invariant-loop-x l = (l.n < 16 ^ l.x-index) × Digits l.base l.w l.n l.x-index
