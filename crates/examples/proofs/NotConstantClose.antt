-- No constant answer meets the contract of closing: no bytes are refused, and of header and descriptor two sectors are kept.
use Prim.Native.Nat.{ℕ}
use mathlib.Core.Path.{◌≡◌, refl}
use mathlib.Core.List.{List}
use native.Mathlib.Omega.{arith}
use Rattle.base.specs.Pick.{pick}
use Rattle.base.specs.Rounding.{power_up_to}
use Rattle.base.specs.Numbers.{le_at, le_bytes}
use Rattle.base.specs.Strings.{same_at}
use Rattle.base.specs.Bytes.{over, zeros}
use Rattle.base.specs.SumsBelow.{sum_below}
use Rattle.format.specs.Geometry.{directory_entries, directory_sectors}
use Rattle.format.specs.Kdmv.{kdmv_fields, kdmv_fault}
use Rattle.format.specs.Header.{kdmv_header, unless_fault, judge_kdmv_start, judge_start}
use Rattle.format.specs.Entries.{grain_sectors}
use Rattle.format.specs.Stream.{if_whole, block_at, walk_on, walk, grains_end}
use Rattle.format.specs.Tail.{has_grains}
use Rattle.format.specs.Close.{close_from, close_judged, close}
use Rattle.format.specs.Answers.{closed_numbers}
use Rattle.format.specs.declared.closing.Closed.{Closed}
use Rattle.examples.specs.Images.{start}
use Rattle.examples.proofs.NotConstant.{differ}

pub close_varies : (r : Closed) → ((s : List ℕ) (room : ℕ) → r ≡ closed_numbers (close s room)) → ⊥
unfolding pick power_up_to le_at le_bytes same_at over zeros sum_below directory_entries directory_sectors kdmv_fields kdmv_fault kdmv_header unless_fault judge_kdmv_start judge_start grain_sectors if_whole block_at walk_on walk grains_end has_grains close_from close_judged
close_varies r same =
    differ (λ s. closed_numbers (close s 2560)) (λ (v : Closed). v.sectors) start 2 (omega arith) refl refl r
    (λ s. same s 2560)
