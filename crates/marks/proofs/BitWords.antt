-- What the words say of their sectors.
use Prim.Native.Nat.{ℕ, ◌+◌, ◌*◌, ◌/◌, ◌%◌, ◌<◌}
use mathlib.Core.Path.{◌≡◌, ap, ◌∙◌}
use mathlib.Core.List.{List}
use native.Mathlib.Omega.{arith}
use lib.ListN.{length, get_or, set, replicate}
use lib.Seq.{get_or-set_same, get_or-set_other}
use Rattle.base.specs.Bytes.{zeros}
use Rattle.base.proofs.Over.{zeros_at}
use Rattle.marks.specs.Marks.{bit, marked}
use Rattle.marks.proofs.Bits.{bit_zero}

-- ---- words of 0 mark nothing
pub none_marked : (n s : ℕ) → marked (replicate n 0) s ≡ 0
unfolding zeros
none_marked n s = ap (λ (w : ℕ). bit w (s % 64)) (zeros_at n (s / 64)) ∙ bit_zero (s % 64)

-- ---- bit k of word j is its sector k
pub sector_at : (ws : List ℕ) (j k s : ℕ) → k < 64 → s ≡ j * 64 + k → marked ws s ≡ bit (get_or ws j 0) k
sector_at ws j k s h e =
    let at : s / 64 ≡ j = omega arith in
    let rest : s % 64 ≡ k = omega arith in
    rw (at, rest)

-- ---- a store to word j changes its sectors and no others
module _ (ws : List ℕ) (j v s : ℕ) where
  pub set_here : j < length ws → s / 64 ≡ j → marked (set ws j v) s ≡ bit v (s % 64)
  set_here h e = rw (e, get_or-set_same)

  pub set_there : (s / 64 ≡ j → ⊥) → marked (set ws j v) s ≡ marked ws s
  set_there n = rw get_or-set_other
