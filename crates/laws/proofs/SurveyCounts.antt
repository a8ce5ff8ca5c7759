-- What a survey's numbers count: of an accepted image the four add up to its grains, and each is the number of grains for which
-- the lookup gives that kind; the totals are the rows' sums.
use Prim.Native.Nat.{ℕ, zero, suc, ◌+◌, ◌*◌, ◌/◌, ◌%◌, ◌≤◌, ◌<◌}
use mathlib.Core.Path.{◌≡◌, refl, sym, ap, ◌∙◌}
use mathlib.Core.List.{List}
use mathlib.Core.Bool.{Bool, true, false}
use native.Mathlib.Omega.{arith}
use native.Mathlib.Nat.{mul_comm, mul-div_right}
use lib.Dec.{eqb}
use lib.ListN.{get_or}
use Rattle.base.specs.Pick.{pick}
use Rattle.base.proofs.Rounding.{below_ceil}
use Rattle.base.proofs.Rows.{tabulate_at}
use Rattle.format.specs.Geometry.{grains}
use Rattle.format.specs.Header.{header_of, grains_of}
use Rattle.format.specs.Entries.{grain_entry}
use Rattle.format.specs.Check.{check}
use Rattle.format.specs.Source.{grain_source, entry_source, sector_lookup}
use Rattle.format.specs.Survey.{entry_kind, grain_kind, count_of, grains_of_kind, row_from, row_of, row_at, tally_below}
use Rattle.format.specs.Survey.{add_row, totals_below}
use Rattle.format.specs.Answers.{located}
use Rattle.format.specs.declared.Entry.{Entry}
use Rattle.format.specs.declared.Entry.TheVariants.{Absent, Zero, Sector}
use Rattle.format.specs.Accepted.{AcceptedKdmv}
use Rattle.laws.proofs.Counts.{count_same}
use Rattle.laws.proofs.AcceptedImage.{accepted_sound}
use Rattle.laws.proofs.ServedSectors.{accepted_good, served}
use Rattle.base.specs.SumsBelow.{sum_below}
use Rattle.std.specs.Prelude.{Result, Ok}
use Rattle.format.specs.declared.Source.{Source}
use Rattle.format.specs.declared.Refusal.{Refusal}
use Rattle.format.specs.AnswerParts.{accepted_as}

-- ---- each number below n has one of four values
one_of_four : (v : ℕ) → v ≤ 3
    → pick (eqb v 2) 1 0 + pick (eqb v 1) 1 0 + pick (eqb v 0) 1 0 + pick (eqb v 3) 1 0 ≡ 1
unfolding pick
one_of_four zero h = refl
one_of_four (suc zero) h = refl
one_of_four (suc (suc zero)) h = refl
one_of_four (suc (suc (suc zero))) h = refl
one_of_four (suc (suc (suc (suc v)))) h = absurd (omega arith)

counts_all : (f : ℕ → ℕ) → ((g : ℕ) → f g ≤ 3) → (n : ℕ)
    → count_of f 2 n + count_of f 1 n + count_of f 0 n + count_of f 3 n ≡ n
unfolding count_of
counts_all f few zero = refl
counts_all f few (suc n) = omega (arith, counts_all f few n, one_of_four (f n) (few n))

kind_few : (packed : Bool) (d : Entry) → entry_kind packed d ≤ 3
unfolding entry_kind pick
kind_few packed Absent = omega arith
kind_few packed Zero = omega arith
kind_few true (Sector e) = omega arith
kind_few false (Sector e) = omega arith

-- ---- the kind by the entry table is the lookup's
kind_served : (s : List ℕ) (packed : Bool) (o : ℕ) (d : Entry) → (located (Ok (entry_source s packed o d))).kind
    ≡ entry_kind packed d
unfolding entry_source grain_source entry_kind pick
kind_served s packed o Absent = refl
kind_served s packed o Zero = refl
kind_served s true o (Sector e) = refl
kind_served s false o (Sector e) = refl

number_served : (s : List ℕ) (packed : Bool) (o : ℕ) (d : Entry) → (located (Ok (entry_source s packed o d))).number ≡ 0
unfolding entry_source grain_source pick
number_served s packed o Absent = refl
number_served s packed o Zero = refl
number_served s true o (Sector e) = refl
number_served s false o (Sector e) = refl

module _ (s : List ℕ) (c size : ℕ) (a : check s ≡ accepted_as c size) where
  meets : AcceptedKdmv s
  meets = (accepted_sound s c size a).0

  -- the row is made of counts over the grains
  row_counts : ((row_of s).stored ≡ grains_of_kind s (header_of s) 2)
      × ((row_of s).zero ≡ grains_of_kind s (header_of s) 1)
      × ((row_of s).absent ≡ grains_of_kind s (header_of s) 0)
      × ((row_of s).packed ≡ grains_of_kind s (header_of s) 3)
  unfolding row_from
  row_counts = (rw a, rw a, rw a, rw a)

  pub survey_grains : (row_of s).stored + (row_of s).zero + (row_of s).absent + (row_of s).packed ≡ grains_of (header_of s)
  survey_grains =
      let r = row_counts in
      rw (r.0, r.1, r.2, r.3) (counts_all (grain_kind s (header_of s)) (λ g. kind_few _ _) (grains_of (header_of s)))

  -- every sector of the disk is found, and its kind is that of its grain
  pub sector_kinds : (x : ℕ) → x < (header_of s).capacity → ((located (sector_lookup s x)).number ≡ 0)
      × ((located (sector_lookup s x)).kind ≡ grain_kind s (header_of s) (x / (header_of s).grain_size))
  sector_kinds x low =
      let found = served s meets x low in
      let o = x % (header_of s).grain_size in
      let d = grain_entry s (header_of s) (x / (header_of s).grain_size) in (
        ap (λ (r : Result Source Refusal). (located r).number) found ∙ number_served s (header_of s).packed o d,
        ap (λ (r : Result Source Refusal). (located r).kind) found ∙ kind_served s (header_of s).packed o d,
      )

  -- the lookup of a grain's first sector
  abbrev lookup_kind : ℕ → ℕ
  lookup_kind g = (located (sector_lookup s (g * (header_of s).grain_size))).kind

  kind_is : (g : ℕ) → g < grains_of (header_of s) → grain_kind s (header_of s) g ≡ lookup_kind g
  unfolding grains
  kind_is g l =
      let h = header_of s in
      let some = (accepted_good s meets).sound.sizes.low in
      let low : g * h.grain_size < h.capacity = below_ceil h.capacity h.grain_size some g l in
      let own : g * h.grain_size / h.grain_size ≡ g =
      ap (λ (x : ℕ). x / h.grain_size) (mul_comm g h.grain_size) ∙ mul-div_right g some in
      sym ((sector_kinds (g * h.grain_size) low).1 ∙ ap (grain_kind s h) own)

  counted : (v : ℕ) → grains_of_kind s (header_of s) v ≡ count_of lookup_kind v (grains_of (header_of s))
  counted v = count_same (grain_kind s (header_of s)) lookup_kind v (grains_of (header_of s)) kind_is

  pub survey_kinds : ((row_of s).stored ≡ count_of lookup_kind 2 (grains_of (header_of s)))
      × ((row_of s).zero ≡ count_of lookup_kind 1 (grains_of (header_of s)))
      × ((row_of s).absent ≡ count_of lookup_kind 0 (grains_of (header_of s)))
      × ((row_of s).packed ≡ count_of lookup_kind 3 (grains_of (header_of s)))
  survey_kinds =
      let r = row_counts in (r.0 ∙ counted 2, r.1 ∙ counted 1, r.2 ∙ counted 0, r.3 ∙ counted 3)

-- ---- totals are the rows' sums
pub survey_totals : (s l : List ℕ) (n : ℕ)
    → ((totals_below s l n).stored ≡ sum_below (λ k. (row_at s l k).stored) n)
    × ((totals_below s l n).zero ≡ sum_below (λ k. (row_at s l k).zero) n)
    × ((totals_below s l n).absent ≡ sum_below (λ k. (row_at s l k).absent) n)
    × ((totals_below s l n).packed ≡ sum_below (λ k. (row_at s l k).packed) n)
unfolding totals_below add_row sum_below
survey_totals s l zero = (refl, refl, refl, refl)
survey_totals s l (suc n) = let r = survey_totals s l n in (rw r.0, rw r.1, rw r.2, rw r.3)

-- ---- word i of the tally is the number of rows with number i + 1
pub survey_tally_lem : (s l : List ℕ) (n i : ℕ) → i < 63 → get_or (tally_below s l n) i 0
    ≡ count_of (λ k. (row_at s l k).number) (i + 1) n
survey_tally_lem s l n i b = tabulate_at 63 (λ j. count_of (λ k. (row_at s l k).number) (j + 1) n) i b
