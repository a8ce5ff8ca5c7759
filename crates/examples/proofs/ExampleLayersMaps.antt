-- The grains of the two layers of ExampleLayers.
use Prim.Native.Nat.{ℕ, zero, suc, ◌+◌, ◌-◌, ◌*◌, ◌≤◌, ◌<◌, min}
use mathlib.Core.Path.{◌≡◌, refl, sym, ap, ◌∙◌}
use mathlib.Core.Logic.{⊎_elim}
use mathlib.Core.List.{List, [], ◌∷◌, ◌++◌}
use native.Mathlib.Omega.{arith}
use lib.ListN.{length, get_or, take, drop, replicate, length-append, length-replicate, get_or-replicate, get_or-append}
use lib.Seq.{get_or-append-add, get_or-take, ext_get_or}
use borrow.Author.Tests.{lt-ltb, le-ltb}
use Rattle.base.specs.Pick.{pick}
use Rattle.base.specs.Numbers.{le_at, le_bytes}
use Rattle.base.specs.Strings.{same_at}
use Rattle.base.specs.Bytes.{zeros}
use Rattle.base.proofs.Steps.{lt_or_ge}
use Rattle.base.proofs.Rows.{tabulate_at}
use Rattle.base.proofs.Over.{zeros_length}
use Rattle.format.specs.Geometry.{grains}
use Rattle.format.specs.Kdmv.{kdmv_fields}
use Rattle.format.specs.Header.{kdmv_header, directory_of, header_of}
use Rattle.format.specs.Entries.{meaning, in_table, entry_of_grain}
use Rattle.format.specs.Grains.{Grain, stored, Map, clip, clip_at, grain_from}
use Rattle.format.specs.Collapse.{map_of}
use Rattle.format.proofs.Grains.{clip_length}
use Rattle.laws.specs.Layers.{SameGrains, end_to_end}
use Rattle.examples.specs.ExampleLayers.{filled, lower, upper, cut, listed, lower_grains, upper_grains}

-- ---- a grain of one byte, where `kept` of its bytes stand below capacity
module _ (c size g byte : ℕ) (s : List ℕ) (e : take (512 * size) s ≡ replicate (512 * size) byte) where
  abbrev kept : ℕ
  kept = min (512 * size) (512 * c - 512 * (g * size))

  below : (i : ℕ) → i < kept → get_or s i 0 ≡ get_or (replicate kept byte ++ zeros (512 * size - kept)) i 0
  below i h =
      sym (get_or-take (512 * size) s i 0 (omega arith))
      ∙ rw e (get_or-replicate (512 * size) i byte 0 (omega arith))
      ∙ sym (get_or-append (replicate kept byte) _ 0 i (rw length-replicate h) ∙ get_or-replicate kept i byte 0 h)

  past : (i : ℕ) → kept ≤ i → i < 512 * size → get_or (replicate kept byte ++ zeros (512 * size - kept)) i 0 ≡ 0
  unfolding zeros
  past i h l =
      let at : i ≡ length (replicate kept byte) + (i - kept) = rw length-replicate (omega arith) in
      ap (λ (n : ℕ). get_or (replicate kept byte ++ zeros (512 * size - kept)) n 0) at
      ∙ get_or-append-add (replicate kept byte) _ (i - kept) 0
      ∙ get_or-replicate (512 * size - kept) (i - kept) 0 0 (omega arith)

  clip_byte : clip c size g s ≡ replicate kept byte ++ zeros (512 * size - kept)
  unfolding clip pick
  clip_byte =
      ext_get_or 0 _ _ (clip_length c size g s ∙ simp (length-append, length-replicate, zeros_length) (omega arith))
      (λ i b.
      let l : i < 512 * size = omega (arith, clip_length c size g s) in
      tabulate_at (512 * size) (clip_at c size g s) i l
      ∙ ⊎_elim (λ h. rw (lt-ltb (512 * (g * size) + i) (512 * c) (omega arith)) (below i h))
      (λ h. rw (le-ltb (512 * (g * size) + i) (512 * c) (omega arith)) (sym (past i h l))) (lt_or_ge i kept))

-- ---- grain by grain
-- a map has the grains of a list, from grain 0 on
data Has : Map → List Grain → Type 0 where
  none : {m : Map} → Has m []
  more : {m : Map} {a : Grain} {l : List Grain} → m 0 ≡ a → Has (λ g. m (suc g)) l → Has m (a ∷ l)

has_each : {m : Map} {l : List Grain} → Has m l → (g : ℕ) → g < length l → m g ≡ listed l g
has_each none g b = absurd (omega arith)
has_each (more e h) zero b = e
has_each (more e h) (suc g) b = has_each h g (omega arith)

pub lower_map : SameGrains 69 8 (map_of lower) (listed lower_grains)
unfolding end_to_end filled cut lower pick le_at le_bytes same_at zeros grains kdmv_fields kdmv_header directory_of header_of meaning in_table entry_of_grain grain_from
lower_map =
    has_each
    (more refl (more refl (more refl
    (more refl (more refl (more refl
    (more (ap stored (clip_byte 69 8 6 0x16 (drop (512 * 14) lower) refl))
    (more (ap stored (clip_byte 69 8 7 0x17 (drop (512 * 22) lower) refl))
    (more (ap stored (clip_byte 69 8 8 0x18 (drop (512 * 6) lower) refl)) none)))))))))

pub upper_map : SameGrains 69 8 (map_of upper) (listed upper_grains)
unfolding end_to_end filled cut upper pick le_at le_bytes same_at zeros grains kdmv_fields kdmv_header directory_of header_of meaning in_table entry_of_grain grain_from
upper_map =
    has_each
    (more refl (more refl (more (ap stored (clip_byte 69 8 2 0x22 (drop (512 * 23) upper) refl))
    (more refl (more refl (more (ap stored (clip_byte 69 8 5 0x25 (drop (512 * 7) upper) refl))
    (more refl (more refl (more (ap stored (clip_byte 69 8 8 0x28 (drop (512 * 15) upper) refl)) none)))))))))
