-- One grain put: its entry, and its bytes if it is stored, each premise as the code gives it.
use Prim.Native.Nat.{ℕ, ◌+◌, ◌*◌, ◌-◌, ◌≤◌}
use mathlib.Core.Path.{◌≡◌, refl, sym, ◌∙◌}
use mathlib.Core.List.{List, []}
use native.Mathlib.Omega.{arith}
use native.Mathlib.Nat.{zero-mul, one-mul, add-zero}
use lib.ListN.{length, take, drop, length-drop}
use lib.Seq.{take_all}
use borrow.Rule.Slice.PartMut.{mid_of, put_mid}
use Rattle.base.specs.Numbers.{le_bytes}
use Rattle.base.specs.Bytes.{over}
use Rattle.base.proofs.Over.{over_none, over_lent}
use Rattle.format.specs.Grains.{Grain, clip, bytes_of, one_if_stored, entry_for}
use Rattle.format.specs.Grains.Grain.{absent, zeroed, stored}
use Rattle.layers.specs.declared.GrainSource.{GrainSource}
use Rattle.layers.specs.declared.GrainSource.TheVariants.{Absent, Zero, Lower, Upper}
use Rattle.layers.specs.TwoLayers.{grain_at, Standing}
use Rattle.writer.specs.Put.{Ready, Put}

-- the rest of the output was lent, and came back with the grain, which was read from the rest of its layer
pub grain_lent : (c z g e : ℕ) (image v xs ys : List ℕ) (here : ℕ) → xs ≡ v
    → ys ≡ over (mid_of here (length xs - here) xs) 0 (clip c z g (take (length image - 512 * e) (drop (512 * e) image)))
    → put_mid here (length xs - here) xs ys ≡ over v here (clip c z g (drop (512 * e) image))
grain_lent c z g e image v xs ys here q p =
    let k : length (drop (512 * e) image) ≤ length image - 512 * e = simp length-drop (omega arith) in
    over_lent xs ys (clip c z g (drop (512 * e) image)) here
    (rw (take_all (length image - 512 * e) (drop (512 * e) image) k) at p)
    ∙ rw q

-- ---- what is left in the output
pub stored_put : (z at next r : ℕ) (b d y : List ℕ) → r ≡ next + z → y ≡ over (over d at (le_bytes 4 next)) (512 * next) b
    → Put (stored b) z at next r d y
unfolding one_if_stored entry_for bytes_of
stored_put z at next r b d y e p = record { sector = e ∙ rw one-mul; bytes = p }

-- a grain that is not stored has an entry only
entry_put : (x : Grain) (z at next : ℕ) (d y : List ℕ) → one_if_stored x ≡ 0 → bytes_of x ≡ []
    → y ≡ over d at (le_bytes 4 (entry_for x next)) → Put x z at next next d y
entry_put x z at next d y n b p = record {
  sector = rw n (sym (simp (zero-mul, add-zero)));
  bytes = rw b (p ∙ over_none _ (512 * next));
}

module _ (lower upper : List ℕ) (c z g at next : ℕ) (source : GrainSource) where
  abbrev x : Grain
  x = grain_at lower upper c z g source

  pub absent_put : (d y : List ℕ) → source ≡ Absent → y ≡ over d at (le_bytes 4 0) → Put x z at next next d y
  unfolding grain_at one_if_stored entry_for bytes_of
  absent_put d y e p = rw e (entry_put absent z at next d y refl refl p)

  pub zero_put : (d y : List ℕ) → source ≡ Zero → y ≡ over d at (le_bytes 4 1) → Put x z at next next d y
  unfolding grain_at one_if_stored entry_for bytes_of
  zero_put d y e p = rw e (entry_put zeroed z at next d y refl refl p)

  module _ (e : ℕ) where
    lower_is : source ≡ Lower e → stored (clip c z g (drop (512 * e) lower)) ≡ x
    unfolding grain_at
    lower_is q = rw q

    upper_is : source ≡ Upper e → stored (clip c z g (drop (512 * e) upper)) ≡ x
    unfolding grain_at
    upper_is q = rw q

    module _ {d y : List ℕ} {r : ℕ} where
      pub lower_put : source ≡ Lower e → Put (stored (clip c z g (drop (512 * e) lower))) z at next r d y
          → Put x z at next r d y
      lower_put q p = rw (lower_is q) at p

      pub upper_put : source ≡ Upper e → Put (stored (clip c z g (drop (512 * e) upper))) z at next r d y
          → Put x z at next r d y
      upper_put q p = rw (upper_is q) at p

    -- ---- and what putting it asks, where the output has n bytes
    module _ {n : ℕ} (k : Ready x c z g at next n) (h : Standing lower upper z source) where
      pub lower_ready : source ≡ Lower e
          → Ready (stored (clip c z g (drop (512 * e) lower))) c z g at next n × (512 * e + 512 * z ≤ length lower)
      lower_ready q = (rw (lower_is q) k, h.below e q)

      pub upper_ready : source ≡ Upper e
          → Ready (stored (clip c z g (drop (512 * e) upper))) c z g at next n × (512 * e + 512 * z ≤ length upper)
      upper_ready q = (rw (upper_is q) k, h.above e q)
