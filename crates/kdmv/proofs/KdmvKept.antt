-- What is known of a KDMV header where no rule is broken.
use Prim.Native.Nat.{ℕ, ◌≤◌}
use mathlib.Core.Path.{◌≡◌, sym, ap, ◌∙◌}
use mathlib.Core.List.{List}
use mathlib.Core.Bool.{Bool, false, not}
use native.Mathlib.Omega.{arith}
use lib.Dec.{ltb, eqb}
use lib.ListN.{length}
use borrow.Author.Tests.{ltb-false, eq-eqb, ne_eqb}
use Rattle.base.specs.Pick.{pick}
use Rattle.base.proofs.Steps.{or_no}
use Rattle.format.specs.Geometry.{file_sectors}
use Rattle.format.specs.Kdmv.{all_ones, version_broken, newline_broken, flags_broken, capacity_broken, grain_size_broken}
use Rattle.format.specs.Kdmv.{kdmv_sizes_broken, kdmv_fault, footer_directory, footer_broken}
use Rattle.format.specs.Header.{kdmv_header, directory_of}
use Rattle.format.specs.declared.KdmvFields.{KdmvFields}
use Rattle.format.specs.declared.Header.{Header}
use Rattle.format.proofs.Picked.{none_found, true_no}
use Rattle.format.specs.Judged.{Sized}
use Rattle.sizes.proofs.Sizes.{sized}
use Rattle.std.specs.Prelude.{Result, Ok}
use Rattle.format.specs.declared.Refusal.{Refusal}

pub kdmv_sized : (f : Result (Unit {0}) Refusal) (k : KdmvFields) → f ≡ kdmv_fault k → f ≡ (Ok tt)
    → Sized k.capacity k.grain_size
unfolding kdmv_fault
kdmv_sized f k q e =
    let a = none_found (version_broken k) _ _ (sym q ∙ e) in
    let b = none_found (newline_broken k) _ _ a.1 in
    let d = none_found (flags_broken k) _ _ b.1 in
    let g = none_found (kdmv_sizes_broken k) _ _ d.1 in
    let s = or_no (capacity_broken k.capacity) _ g.0 in
    let t = or_no (grain_size_broken 8 k.grain_size) (not (eqb k.entries_per_table 512)) s.1 in
    sized 8 _ _ s.0 t.0

-- ---- the footer
pub footer_long : {r : Bool} (s : List ℕ) → r ≡ footer_broken s → r ≡ false → 1024 ≤ length s
unfolding footer_broken
footer_long s e f =
    let a = true_no _ _ (sym e ∙ f) in
    let b = true_no (ltb (file_sectors s) 4) _ a.1 in
    omega (arith, ltb-false (file_sectors s) 4 b.0)

-- the header where the directory is at the end, and where not
module _ (s : List ℕ) (k : KdmvFields) (h : Header) where
  pub at_end_lem : {d : ℕ} → h ≡ kdmv_header k d → d ≡ footer_directory s → k.directory ≡ all_ones
      → ◌≡◌ {A = Result Header Refusal} (Ok h)
      (Ok (kdmv_header k (directory_of s k)))
  unfolding directory_of pick
  at_end_lem e q p = rw (eq-eqb _ _ p, ← q) (ap Ok e)

  pub not_at_end : h ≡ kdmv_header k k.directory → (k.directory ≡ all_ones → ⊥) → ◌≡◌ {A = Result Header Refusal} (Ok h)
      (Ok (kdmv_header k (directory_of s k)))
  unfolding directory_of pick
  not_at_end e n = rw (ne_eqb _ _ n) (ap Ok e)
