-- A start that is not refused 1 to 6 and 43: what is known of its header.
use Prim.Native.Nat.{ℕ, ◌*◌, ◌≤◌}
use mathlib.Core.Path.{◌≡◌, refl, sym, ◌∙◌}
use mathlib.Core.List.{List}
use mathlib.Core.Bool.{true, not, true≢false}
use mathlib.Core.Logic.{⊎_elim}
use native.Mathlib.Omega.{arith}
use lib.Dec.{ltb, eqb}
use lib.ListN.{length}
use borrow.Author.Tests.{ltb-false}
use Rattle.base.specs.Pick.{pick}
use Rattle.base.specs.Strings.{same_at}
use Rattle.base.proofs.Steps.{or_no, true_or_false}
use Rattle.base.proofs.Rounding.{ceil_most}
use Rattle.format.specs.Geometry.{directory_entries, directory_sectors}
use Rattle.format.specs.Kdmv.{kdmv_magic, kdmv_fields, version_broken, newline_broken, flags_broken, capacity_broken}
use Rattle.format.specs.Kdmv.{grain_size_broken, kdmv_sizes_broken, kdmv_fault}
use Rattle.format.specs.Cowd.{cowd_magic}
use Rattle.format.specs.Header.{kdmv_header, start_of, judge_kdmv_start, kind_gone, judge_cowd, judge_start}
use Rattle.format.specs.Accepted.{Capacity, GrainSize}
use Rattle.format.specs.declared.Taken.TheVariants.{KdmvAlone}
use Rattle.format.specs.declared.KdmvFields.{KdmvFields}
use Rattle.format.specs.declared.Header.{Header}
use Rattle.format.specs.declared.Refusal.TheVariants.{Magic}
use Rattle.format.proofs.Picked.{pick_then, pick_else, known_past, none_found}
use Rattle.format.proofs.HeaderJudged.{known_same, known_fault}
use Rattle.format.proofs.HeaderSizes.{capacity_kept, grain_size_kept}
use Rattle.std.specs.Prelude.{Ok, Err}

pub record Started (s : List ℕ) (h : Header) : Type 0 where
  pub long : 512 ≤ length s
  pub magic : same_at s 0 kdmv_magic ≡ true
  pub kept : kdmv_fault (kdmv_fields s) ≡ (Ok tt)
  pub is : h ≡ start_of s

module _ (s : List ℕ) (h : Header) where
  kdmv_started : same_at s 0 kdmv_magic ≡ true → judge_kdmv_start s ≡ Ok h → Started s h
  unfolding judge_kdmv_start
  kdmv_started m e =
      let a = known_past (ltb (length s) 512) _ _ h e in
      let b = known_fault (kdmv_fault (kdmv_fields s)) _ h a.1 in
      record { long = ltb-false _ _ a.0; magic = m; kept = b.0; is = sym (known_same _ h b.1) }

  no_cowd : judge_cowd KdmvAlone s ≡ Ok h → ⊥
  unfolding judge_cowd kind_gone
  no_cowd e =
      let a = known_past (ltb (length s) 2048) _ _ h e in true≢false (known_past (kind_gone KdmvAlone) _ _ h a.1).0

  pub started : judge_start s ≡ Ok h → Started s h
  unfolding judge_start
  started e =
      let a = known_past (ltb (length s) 4) _ _ h e in
      ⊎_elim
      (λ m. kdmv_started m (sym (pick_then (same_at s 0 kdmv_magic) _ _ m) ∙ a.1))
      (λ n.
      let b : pick (same_at s 0 cowd_magic) (judge_cowd KdmvAlone s) (Err Magic) ≡ Ok h =
      sym (pick_else (same_at s 0 kdmv_magic) _ _ n) ∙ a.1 in
      ⊎_elim (λ c. absurd (no_cowd (sym (pick_then (same_at s 0 cowd_magic) _ _ c) ∙ b)))
      (λ m. let q : Err Magic ≡ Ok h = sym (pick_else (same_at s 0 cowd_magic) _ _ m)
      ∙ b in let z : ◌≡◌ {A = ℕ} 0 1 = cc in absurd (omega arith))
      (true_or_false (same_at s 0 cowd_magic)))
      (true_or_false (same_at s 0 kdmv_magic))

-- its sizes
sizes_kept : (k : KdmvFields) → kdmv_fault k ≡ (Ok tt) → Capacity k.capacity × GrainSize 8 k.grain_size
unfolding kdmv_fault
sizes_kept k e =
    let a = none_found (version_broken k) _ _ e in
    let b = none_found (newline_broken k) _ _ a.1 in
    let d = none_found (flags_broken k) _ _ b.1 in
    let g = none_found (kdmv_sizes_broken k) _ _ d.1 in
    let c = or_no (capacity_broken k.capacity) _ g.0 in
    let z = or_no (grain_size_broken 8 k.grain_size) (not (eqb k.entries_per_table 512)) c.1 in
    (capacity_kept k.capacity c.0, grain_size_kept 8 k.grain_size z.0)

pub record StartSizes (h : Header) : Type 0 where
  pub low : 8 ≤ h.grain_size
  pub high : h.grain_size ≤ 2048
  pub small : h.capacity ≤ 0x80000000
  pub table : h.entries_per_table ≡ 512
  pub few : h.directory_sectors ≤ 0x80000000
  pub room : h.directory_sectors ≡ directory_sectors (directory_entries h.capacity 512 h.grain_size)

few_sectors : (c size : ℕ) → 1 ≤ 512 * size → c ≤ 0x80000000 → directory_sectors (directory_entries c 512 size) ≤ 0x80000000
unfolding directory_sectors directory_entries
few_sectors c size one small = omega (arith, ceil_most c (512 * size) one)

start_sizes : (s : List ℕ) → kdmv_fault (kdmv_fields s) ≡ (Ok tt) → StartSizes (start_of s)
unfolding kdmv_header
start_sizes s e =
    let z = sizes_kept (kdmv_fields s) e in
    record {
      low = z.1.low;
      high = z.1.high;
      small = z.0.high;
      table = refl;
      few = few_sectors (kdmv_fields s).capacity (kdmv_fields s).grain_size (omega (arith, z.1.low)) z.0.high;
      room = refl;
    }

pub started_sizes : (s : List ℕ) (h : Header) → Started s h → StartSizes h
started_sizes s h t = rw t.is (start_sizes s t.kept)
