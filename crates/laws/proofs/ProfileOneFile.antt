-- An image's sectors decide its normal form, so two profile images of one capacity whose sectors are the same are one file.
use Prim.Native.Nat.{ℕ, ◌+◌, ◌*◌, ◌/◌, ◌%◌, ◌≤◌, ◌<◌}
use mathlib.Core.Path.{◌≡◌, refl, sym, ap, ◌∙◌}
use mathlib.Core.Logic.{⊎_elim}
use mathlib.Core.List.{List}
use native.Mathlib.Omega.{arith}
use native.Mathlib.Nat.{mul-add-div_right, mul-add-mod_self_right, div-eq_of_lt, mod-eq_of_lt, add-zero}
use lib.ListN.{get_or, drop}
use lib.Seq.{get_or-take, get_or-drop}
use borrow.Author.Tests.{le-ltb}
use Rattle.base.specs.Pick.{pick}
use Rattle.base.proofs.Steps.{lt_or_ge}
use Rattle.base.proofs.Rows.{rows_same}
use Rattle.base.proofs.Rounding.{below_ceil}
use Rattle.format.specs.Geometry.{grains, bytes_at}
use Rattle.format.specs.Header.{header_of}
use Rattle.format.specs.Grains.{Grain, absent, zeroed, stored, clip, Whole}
use Rattle.format.specs.Collapse.{map_of, normal_form}
use Rattle.format.specs.declared.Kind.TheVariants.{Kdmv}
use Rattle.format.specs.declared.Source.{Source}
use Rattle.format.proofs.Geometry.{grain_of_lem}
use Rattle.laws.specs.Layers.{Layer, SameGrains}
use Rattle.laws.specs.Served.{SameSource, absent as same_absent, zero as same_zero, stored as same_stored}
use Rattle.laws.specs.MovedImages.{SameSector}
use Rattle.laws.specs.ProfileImages.{Meets}
use Rattle.laws.proofs.LayoutNumbers.{some_size}
use Rattle.laws.proofs.CollapsedMaps.{layout_same}
use Rattle.laws.proofs.CollapsedLayers.{layer_sizes, map_fits}
use Rattle.laws.proofs.CollapsedSectors.{sector_in, Tells, tells_absent, tells_zero, tells_stored, told_same}
use Rattle.laws.proofs.CollapsedSectors.{layer_tells}
use Rattle.laws.proofs.CollapsedImages.{normal_is, normal_accepted, normal_map}
use Rattle.laws.proofs.ProfileMet.{meets_layer}

-- sources that are the same tell the same
same_told : {s t : List ℕ} {a b : Source} {g k : Grain} → SameSource s t a b → Tells s a g → Tells t b k → g ≡ k
same_told same_absent tells_absent tells_absent = refl
same_told same_zero tells_zero tells_zero = refl
same_told (same_stored q l) (tells_stored e i) (tells_stored f j) = ap stored (sym e ∙ q ∙ f)

-- ---- a whole grain is decided by its sectors below capacity
module _ (c size g : ℕ) (first : g * size < c) (some : 1 ≤ size) where
  -- sector o of two grains, wherever it is below capacity
  abbrev Sectors : Grain → Grain → Type 0
  Sectors a b = (o : ℕ) → o < size → g * size + o < c → sector_in o a ≡ sector_in o b

  byte_in : (b : List ℕ) (i : ℕ) → get_or b i 0 ≡ get_or (bytes_at b (512 * (i / 512)) 512) (i % 512) 0
  byte_in b i =
      let q : 512 * (i / 512) + i % 512 ≡ i = omega arith in
      rw (get_or-take 512 (drop (512 * (i / 512)) b) (i % 512) 0 (omega arith), get_or-drop (512 * (i / 512)) b (i % 512) 0, q)

  bytes_same : (b d : List ℕ) → Sectors (stored b) (stored d) → (i : ℕ) → i < 512 * size → 512 * (g * size) + i < 512 * c
      → get_or b i 0 ≡ get_or d i 0
  unfolding sector_in
  bytes_same b d same i l h =
      let e = same (i / 512) (omega arith) (omega arith) in
      let q : bytes_at b (512 * (i / 512)) 512 ≡ bytes_at d (512 * (i / 512)) 512 = cc in
      byte_in b i ∙ ap (λ (x : List ℕ). get_or x (i % 512) 0) q ∙ sym (byte_in d i)

  clip_sectors : (b d : List ℕ) → Sectors (stored b) (stored d) → clip c size g b ≡ clip c size g d
  unfolding clip pick
  clip_sectors b d same =
      rows_same _ _ _
      (λ i l.
      ⊎_elim (λ h. rw (bytes_same b d same i l h)) (λ h. rw (le-ltb (512 * (g * size) + i) (512 * c) h))
      (lt_or_ge (512 * (g * size) + i) (512 * c)))

  grain_same : (a b : Grain) → Whole c size g a → Whole c size g b → Sectors a b → a ≡ b
  unfolding sector_in
  grain_same absent absent v w same = refl
  grain_same zeroed zeroed v w same = refl
  grain_same (stored b) (stored d) v w same = ap stored (sym v ∙ clip_sectors b d same ∙ w)
  grain_same absent zeroed v w same = let e = same 0 (omega arith) (omega arith) in cc
  grain_same absent (stored d) v w same = let e = same 0 (omega arith) (omega arith) in cc
  grain_same zeroed absent v w same = let e = same 0 (omega arith) (omega arith) in cc
  grain_same zeroed (stored d) v w same = let e = same 0 (omega arith) (omega arith) in cc
  grain_same (stored b) absent v w same = let e = same 0 (omega arith) (omega arith) in cc
  grain_same (stored b) zeroed v w same = let e = same 0 (omega arith) (omega arith) in cc

-- ---- two layers of one capacity and grain size
module _ {c size : ℕ} {s t : List ℕ} (p : Layer c size s) (q : Layer c size t) (same : (x : ℕ) → x < c → SameSector s t x) where
  sector_same : (g o : ℕ) → o < size → g * size + o < c → sector_in o (map_of s g) ≡ sector_in o (map_of t g)
  sector_same g o l h =
      let d : (g * size + o) / size ≡ g = mul-add-div_right (omega arith) g o ∙ rw (div-eq_of_lt l, add-zero) in
      let m : (g * size + o) % size ≡ o = mul-add-mod_self_right g size o ∙ mod-eq_of_lt l in
      rw (d, m) at (same_told (same (g * size + o) h) (layer_tells p (g * size + o) h) (layer_tells q (g * size + o) h))

  maps_same : SameGrains c size (map_of s) (map_of t)
  unfolding grains
  maps_same g h =
      let some = some_size (layer_sizes p) in
      grain_same c size g (below_ceil c size some g h) some (map_of s g) (map_of t g) (map_fits p g h) (map_fits q g h)
      (sector_same g)

  -- the same sectors have one normal form
  pub one_form : normal_form s ≡ normal_form t
  one_form = normal_is p ∙ layout_same Kdmv c size (map_of s) (map_of t) maps_same ∙ sym (normal_is q)

-- and the normal form has them
pub normal_same : {c size : ℕ} {s : List ℕ} → Layer c size s → (x : ℕ) → x < c → SameSector s (normal_form s) x
normal_same {c} {size} p x low =
    let g = grain_of_lem c size (some_size (layer_sizes p)) x low in
    told_same (layer_tells p x low) (rw (normal_map p (x / size) g) at (layer_tells (normal_accepted p) x low))

-- ---- profile images
-- the one profile image with an image's sectors is its normal form
pub only_form : {c : ℕ} {s t : List ℕ} → Layer c 128 s → Meets t → (header_of t).capacity ≡ c
    → ((x : ℕ) → x < c → SameSector s t x) → t ≡ normal_form s
only_form p q same sectors = q.form ∙ sym (one_form p (rw same at (meets_layer q)) sectors)

-- two profile images of one capacity whose sectors have the same kind of source and the same 512 bytes are the same file
pub one_file : {s t : List ℕ} → Meets s → Meets t → (header_of s).capacity ≡ (header_of t).capacity
    → ((x : ℕ) → x < (header_of s).capacity → SameSector s t x) → s ≡ t
one_file p q same sectors = p.form ∙ sym (only_form (meets_layer p) q (sym same) sectors)
