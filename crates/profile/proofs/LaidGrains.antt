-- An image whose bytes up to V are those of its normal form: each stored grain stands where the form has it, so its bytes are
-- the form's too, and they lie in the file.
use Prim.Native.Nat.{ℕ, zero, suc, ◌+◌, ◌*◌, ◌-◌, ◌≤◌, ◌<◌}
use mathlib.Core.Path.{◌≡◌, refl, sym, ap, ◌∙◌}
use mathlib.Core.Bool.{true}
use mathlib.Core.List.{List}
use mathlib.Core.Logic.{⊎_elim}
use native.Mathlib.Omega.{arith}
use lib.ListN.{length, get_or, drop}
use lib.Seq.{get_or-drop}
use Rattle.base.specs.Bytes.{SameBytes}
use Rattle.base.proofs.Steps.{lt_or_ge}
use Rattle.base.proofs.SameBytes.{within, number_same}
use Rattle.base.proofs.Stands.{Stands}
use Rattle.format.specs.Geometry.{grains}
use Rattle.format.specs.Entries.{meaning, grain_entry}
use Rattle.format.specs.Grains.{Grain, absent, zeroed, stored, Map, clip, grain_from, bytes_of, one_if_stored, stored_below}
use Rattle.format.specs.Layout.{Fits, table_count, tables_at, sector_v, sector_of, sectors_laid, layout_as}
use Rattle.format.specs.declared.Kind.TheVariants.{Kdmv}
use Rattle.format.specs.declared.Entry.TheVariants.{Sector}
use Rattle.format.proofs.Grains.{clip_length, clip_below}
use Rattle.format.proofs.Lengths.{next_sector}
use Rattle.layers.specs.TwoLayers.{Readable}
use Rattle.layout.proofs.PartSizes.{directory_fits, entries_before}
use Rattle.laws.proofs.LayoutNumbers.{Sizes, some_size}
use Rattle.laws.proofs.LayoutHeader.{laid_header}
use Rattle.laws.proofs.LayoutBack.{entry_told, entry_read, grain_stands}
use Rattle.profile.proofs.LaidFront.{entry_flat}

module _ {c size : ℕ} (z : Sizes c size) (m : Map) (s : List ℕ) (fits : Fits c size m)
    (own : (g : ℕ) → m g ≡ grain_from s c size g (grain_entry s (laid_header Kdmv c size) g))
    (read : Readable s (laid_header Kdmv c size)) (full : (g : ℕ) → g < grains c size → g * size + size ≤ c)
    (same : SameBytes s (layout_as Kdmv c size m) 0 (512 * sector_v Kdmv c size))
    (inside : 512 * sector_v Kdmv c size ≤ length s)
  where
    abbrev laid : List ℕ
    laid = layout_as Kdmv c size m

    abbrev at : ℕ → ℕ
    at g = sector_of Kdmv c size m g

    directory_before : 512 + 4 * table_count Kdmv c size ≤ 512 * sector_v Kdmv c size
    directory_before = omega (arith, directory_fits Kdmv c size, entries_before Kdmv c size (some_size z))

    entry_told_lem : (g : ℕ) → g < grains c size → grain_entry s (laid_header Kdmv c size) g ≡ entry_told (m g) (at g)
    entry_told_lem g l =
        entry_flat z m s (within s laid 0 _ 0 _ same (omega arith) (omega (arith, directory_before))) g l
        ∙ ap (meaning true)
        (number_same s laid (512 * tables_at Kdmv c size + 4 * g) 4
        (within s laid 0 _ _ 4 same (omega arith) (omega (arith, entries_before Kdmv c size (some_size z)))))
        ∙ sym (entry_flat z m laid (λ k b n. refl) g l)
        ∙ entry_read Kdmv z m g l tt

    -- ---- a stored grain
    module _ (g : ℕ) (l : g < grains c size) (b : List ℕ) (is : m g ≡ stored b) where
      named : grain_entry s (laid_header Kdmv c size) g ≡ Sector (at g)
      unfolding entry_told
      named = entry_told_lem g l ∙ ap (λ (a : Grain). entry_told a (at g)) is

      in_file : 512 * at g + 512 * size ≤ length s
      in_file = read.grain g (at g) l named

      bytes : b ≡ clip c size g (drop (512 * at g) s)
      unfolding grain_from
      bytes =
          let q : stored b ≡ stored (clip c size g (drop (512 * at g) s)) =
          sym is ∙ own g ∙ ap (grain_from s c size g) named in
          cc

      stands : Stands laid (512 * at g) b
      unfolding bytes_of
      stands = rw is at (grain_stands Kdmv z m fits g l)

      own_byte : (i : ℕ) → i < 512 * size → get_or s (512 * at g + i) 0 ≡ get_or laid (512 * at g + i) 0
      own_byte i k =
          let long : length b ≡ 512 * size = ap length bytes ∙ clip_length c size g _ in
          sym
          (stands.same i (omega arith)
          ∙ ap (λ (w : List ℕ). get_or w i 0) bytes
          ∙ clip_below c size g (drop (512 * at g) s) i k (omega (arith, full g l))
          ∙ get_or-drop (512 * at g) s i 0)

      stored_on : SameBytes s laid 0 (512 * at g) → SameBytes s laid 0 (512 * at g + 512 * size)
      stored_on before k y n =
          ⊎_elim (λ j. before k y (omega arith))
          (λ j.
          let q : k ≡ 512 * at g + (k - 512 * at g) = omega arith in
          ap (λ (i : ℕ). get_or s i 0) q
          ∙ own_byte (k - 512 * at g) (omega arith)
          ∙ ap (λ (i : ℕ). get_or laid i 0) (sym q))
          (lt_or_ge k (512 * at g))

    -- ---- all of them
    abbrev Upto : ℕ → Type 0
    Upto v = (SameBytes s laid 0 (512 * v)) × (512 * v ≤ length s)

    upto_as : (v w : ℕ) → v ≡ w → Upto v → Upto w
    upto_as v w e p = rw e at p

    next : (g : ℕ) → g < grains c size → (a : Grain) → m g ≡ a → Upto (at g) → Upto (at g + one_if_stored a * size)
    unfolding one_if_stored
    next g l absent is p = upto_as _ _ (omega arith) p
    next g l zeroed is p = upto_as _ _ (omega arith) p
    next g l (stored b) is p =
        (λ k y n. stored_on g l b is p.0 k y (omega arith), omega (arith, in_file g l b is))

    none : Upto (at 0)
    unfolding sector_of stored_below
    none = upto_as _ _ (omega arith) (same, inside)

    upto : (g : ℕ) → g ≤ grains c size → Upto (at g)
    upto zero l = none
    upto (suc g) l = upto_as _ _ (sym (next_sector Kdmv c size m g)) (next g (omega arith) (m g) refl (upto g (omega arith)))

    pub grains_alike : (SameBytes s laid 0 (512 * sectors_laid Kdmv c size m))
        × (512 * sectors_laid Kdmv c size m ≤ length s)
    unfolding sectors_laid sector_of
    grains_alike = upto (grains c size) (omega arith)
