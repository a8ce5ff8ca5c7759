-- A grain's bytes: those below capacity, and zeros past it.
use Prim.Native.Nat.{ℕ, ◌+◌, ◌*◌, ◌-◌, ◌≤◌, ◌<◌, min}
use mathlib.Core.Path.{◌≡◌, sym, ap, ◌∙◌}
use mathlib.Core.List.{List, ◌++◌}
use mathlib.Core.Logic.{⊎_elim}
use native.Mathlib.Omega.{arith}
use lib.ListN.{length, get_or, take, length-append, get_or-append}
use lib.Seq.{ext_get_or, get_or-take, get_or-append-add, length-take-le}
use borrow.Author.Tests.{lt-ltb, le-ltb}
use Rattle.base.specs.Bytes.{over, zeros}
use Rattle.base.proofs.Over.{first, last, zeros_length, zeros_at}
use Rattle.base.proofs.Rows.{tabulate_length, tabulate_at}
use Rattle.base.proofs.Steps.{lt_or_ge}
use Rattle.format.proofs.Picked.{pick_then, pick_else}
use Rattle.format.specs.Grains.{clip, clip_at}

module _ (c z g : ℕ) where
  module _ (s : List ℕ) (keep : ℕ) (e : keep ≡ min (512 * z) (512 * c - 512 * (g * z))) (h : 512 * z ≤ length s) where
    abbrev bytes : List ℕ
    bytes = take keep s ++ zeros (512 * z - keep)

    front_length : length (take keep s) ≡ keep
    front_length = length-take-le keep s (omega arith)

    bytes_length : length bytes ≡ 512 * z
    bytes_length = rw (length-append, front_length, zeros_length) (omega arith)

    below : (i : ℕ) → i < keep → get_or bytes i 0 ≡ clip_at c z g s i
    below i l =
        get_or-append (take keep s) _ 0 i (omega (arith, front_length)) ∙ get_or-take keep s i 0 l
        ∙ sym (pick_then _ _ _ (lt-ltb (512 * (g * z) + i) (512 * c) (omega arith)))

    past : (i : ℕ) → keep ≤ i → i < 512 * z → get_or bytes i 0 ≡ clip_at c z g s i
    past i l b =
        let q : i ≡ length (take keep s) + (i - keep) = omega (arith, front_length) in
        ap (λ (k : ℕ). get_or bytes k 0) q ∙ get_or-append-add (take keep s) _ (i - keep) 0 ∙ zeros_at (512 * z - keep)
        (i - keep)
        ∙ sym (pick_else _ _ _ (le-ltb (512 * (g * z) + i) (512 * c) (omega arith)))

    clip_is : bytes ≡ clip c z g s
    unfolding clip
    clip_is =
        ext_get_or 0 bytes _ (bytes_length ∙ sym (tabulate_length (512 * z) (clip_at c z g s)))
        (λ i l.
        let b : i < 512 * z = omega (arith, bytes_length) in
        ⊎_elim (below i) (λ k. past i k b) (lt_or_ge i keep) ∙ sym (tabulate_at (512 * z) (clip_at c z g s) i b))

    pub grain_join : (d x y : List ℕ) → y ≡ over x keep (zeros (512 * z - keep)) → x ≡ over d 0 (take keep s)
        → y ≡ over d 0 (clip c z g s)
    grain_join d x y q p =
        last _ _ _ _ _ _ _ q (first _ _ _ _ keep p (omega arith) (omega (arith, front_length))) ∙ ap (over d 0) clip_is
