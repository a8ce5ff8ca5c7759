-- The comparison from the tables on, each premise as the code gives it.
use Prim.Native.Nat.{ℕ, zero, suc, ◌+◌, ◌*◌, ◌-◌, ◌≤◌, ◌<◌, min}
use mathlib.Core.Path.{◌≡◌, refl, sym, ap, ◌∙◌}
use mathlib.Core.List.{List}
use native.Mathlib.Omega.{arith}
use native.Mathlib.Nat.{add-zero}
use lib.ListN.{length}
use Rattle.base.specs.Pick.{pick}
use Rattle.base.specs.Numbers.{le_at, le_bytes}
use Rattle.base.specs.Bytes.{SameBytes, zeros}
use Rattle.base.proofs.Stands.{Stands}
use Rattle.base.proofs.Numbers.{le_ends}
use Rattle.base.proofs.Over.{zeros_at, zeros_ends}
use Rattle.format.specs.Geometry.{grains}
use Rattle.format.specs.Grains.{grain_map, entry_for, stored_below}
use Rattle.format.specs.Layout.{table_count, tables_at, sector_v, sector_of, sectors_laid}
use Rattle.format.specs.declared.Kind.TheVariants.{Kdmv}
use Rattle.format.specs.declared.Header.{Header}
use Rattle.format.specs.declared.Refusal.TheVariants.{NotNormal}
use Rattle.layout.specs.WrittenParts.{entries_end}
use Rattle.layout.proofs.PartSizes.{directory_fits, unused_ends, entries_before}
use Rattle.laws.proofs.LayoutNumbers.{some_size, sector_small}
use Rattle.laws.proofs.LayoutBack.{entry_stands}
use Rattle.blocks.specs.Blocks.{Passed}
use Rattle.alike.specs.FirstOther.{FirstOther}
use Rattle.alike.proofs.Compared.{ended, zero_bytes}
use Rattle.profile.specs.FormCompared.{form_of, compared, entry_meant, next_meant, Published, AlikeTo, Laid}
use Rattle.profile.proofs.FirstDifference.{shorter, longer, same_file_lem}
use Rattle.profile.proofs.Parts.{zeros_less}
use Rattle.profile.proofs.LaidFront.{gap_unused, entry_is, next_is}
use Rattle.profile.proofs.LaidGrains.{grains_alike}
use Rattle.profile.proofs.Stages.{sizes, fits, form_long, full, laid_readable, own}
use Rattle.profile.proofs.EntryTurns.{alike_as, alike_on, alike_not, earlier, tables_room}
use Rattle.std.specs.Prelude.{Err}
use Rattle.format.specs.AnswerParts.{accepted_as}

-- ---- the tables
pub first_sector : (s : List ℕ) (h : Header) (v : ℕ) → v ≡ sector_v Kdmv h.capacity h.grain_size
    → v ≡ sector_of Kdmv h.capacity h.grain_size (grain_map s h) 0
unfolding sector_of stored_below
first_sector s h v e = omega arith

module _ {s : List ℕ} {h : Header} (first all g next entry r : ℕ) (a : AlikeTo (first + 4 * g) s h)
    (i : first ≡ 512 * tables_at Kdmv h.capacity h.grain_size) (j : all ≡ grains h.capacity h.grain_size)
    (l : g < all) (v : next ≡ sector_of Kdmv h.capacity h.grain_size (grain_map s h) g) where
  before : 512 + 4 * table_count Kdmv h.capacity h.grain_size ≤ first + 4 * g
  before = omega (arith, directory_fits Kdmv h.capacity h.grain_size)

  pub entries_room : first + 4 * all ≤ length s
  entries_room =
      omega (
        arith,
        tables_room a before,
        unused_ends Kdmv h.capacity h.grain_size (some_size (sizes s h a.published)),
      )

  pub entry_room : first + 4 * g + 4 ≤ length s
  entry_room = omega (arith, entries_room)

  pub next_small : next ≤ 0x100000000
  next_small = omega (arith, sector_small Kdmv (sizes s h a.published) (grain_map s h) g (omega arith))

  module _ (q : entry ≡ le_at s (first + 4 * g) 4) where
    read : entry ≡ le_at s (512 * tables_at Kdmv h.capacity h.grain_size + 4 * g) 4
    read = q ∙ ap (λ (k : ℕ). le_at s (k + 4 * g) 4) i

    head : SameBytes s (form_of s h) 0 512
    head = earlier a 512 (omega (arith, before))

    pub next_sector : next_meant entry next ≡ sector_of Kdmv h.capacity h.grain_size (grain_map s h) (g + 1)
    next_sector =
        next_is (sizes s h a.published) (grain_map s h) s (own s h a.published head) (earlier a _ before) g (omega arith)
        entry read a.published.size next v

    meant : entry_meant entry next
        ≡ entry_for (grain_map s h g) (sector_of Kdmv h.capacity h.grain_size (grain_map s h) g)
    meant =
        sym (entry_is (sizes s h a.published) (grain_map s h) s (own s h a.published head) (earlier a _ before) g
        (omega arith) entry read next)
        ∙ ap (entry_for (grain_map s h g)) v

    entry_there : Stands (form_of s h) (first + 4 * g) (le_bytes 4 (entry_meant entry next))
    entry_there = rw (meant, i) (entry_stands Kdmv (sizes s h a.published) (grain_map s h) g (omega arith))

    module _ (f : FirstOther s (first + 4 * g) (le_bytes 4 (entry_meant entry next)) r) where
      pub entry_on : first + 4 * g + 4 ≤ r → AlikeTo (first + 4 * (g + 1)) s h
      entry_on b = alike_on a _ entry_there r f _ (le_ends _ 4 (entry_meant entry next) _ (omega arith)) (omega arith)

      pub entry_not : r < first + 4 * g + 4 → Err (NotNormal r) ≡ compared s h
      entry_not b =
          alike_not a _ entry_there r f (first + 4 * g + 4) (le_ends _ 4 (entry_meant entry next) _ refl) b entry_room

-- ---- entries that are 0, which mean themselves
-- after g entries, where the next stored grain stands at sector `next`
abbrev pub After : List ℕ → Header → ℕ → ℕ → ℕ → Type 0
After s h first next g =
    (AlikeTo (first + 4 * g) s h) × (next ≡ sector_of Kdmv h.capacity h.grain_size (grain_map s h) g)

module _ (s : List ℕ) (h : Header) (first all next : ℕ) (i : first ≡ 512 * tables_at Kdmv h.capacity h.grain_size)
    (j : all ≡ grains h.capacity h.grain_size) where
  absent_on : (g : ℕ) → After s h first next g → g < all → le_at s (first + 4 * g) 4 ≡ 0 → After s h first next (g + 1)
  unfolding entry_meant next_meant pick le_bytes zeros
  absent_on g a l e = (
    entry_on first all g next 0 (first + 4 * g + 4) a.0 i j l a.1 (sym e)
        (ended s (first + 4 * g) (le_bytes 4 0) 4 (λ k b. zero_bytes s _ 4 e k b ∙ sym (zeros_at 4 k)) (omega arith)
        (omega arith))
        (omega arith),
    next_sector first all g next 0 0 a.0 i j l a.1 (sym e),
  )

  absents_on : (g d : ℕ) → After s h first next g → g + d ≤ all
      → ((k : ℕ) → g ≤ k → k < g + d → le_at s (first + 4 * k) 4 ≡ 0) → After s h first next (g + d)
  absents_on g zero a l z = rw add-zero a
  absents_on g (suc d) a l z =
      let q : g + d + 1 ≡ g + suc d = omega arith in
      rw (← q)
      (absent_on (g + d) (absents_on g d a (omega arith) (λ k m b. z k m (omega arith))) (omega arith)
      (z (g + d) (omega arith) (omega arith)))

  pub passed_on : (tables g r : ℕ) → first ≡ 512 * tables → Passed s tables g all r → After s h first next g
      → After s h first next r
  passed_on tables g r e p a =
      let q : g + (r - g) ≡ r = omega (arith, p.low) in
      rw q at (absents_on g (r - g) a (omega (arith, p.high))
      (λ k m b. rw e (p.zeros k m (omega arith))))

-- the number that the code looked for
pub meant_as : (s : List ℕ) (at x y r : ℕ) → x ≡ y → FirstOther s at (le_bytes 4 x) r → FirstOther s at (le_bytes 4 y) r
meant_as s at x y r e f = rw e at f

-- all of them
pub tables_done : {s : List ℕ} {h : Header} (first all g next : ℕ) → AlikeTo (first + 4 * g) s h
    → first ≡ 512 * tables_at Kdmv h.capacity h.grain_size → all ≡ grains h.capacity h.grain_size → g ≤ all
    → all ≤ g → next ≡ sector_of Kdmv h.capacity h.grain_size (grain_map s h) g
    → Laid (entries_end Kdmv h.capacity h.grain_size) next s h
unfolding sectors_laid sector_of
tables_done {s} {h} first all g next a i j l b v =
    let q : g ≡ grains h.capacity h.grain_size = omega arith in
    record {
      alike = alike_as a _ (omega arith);
      inside =
          omega (
            arith,
            tables_room a (omega (arith, directory_fits Kdmv h.capacity h.grain_size)),
            unused_ends Kdmv h.capacity h.grain_size (some_size (sizes s h a.published)),
          );
      laid = rw q at v;
    }

-- ---- unused entries and the gap
module _ {s : List ℕ} {h : Header} (sectors first all v end r : ℕ)
    (a : Laid (entries_end Kdmv h.capacity h.grain_size) sectors s h)
    (i : first ≡ tables_at Kdmv h.capacity h.grain_size) (j : all ≡ grains h.capacity h.grain_size)
    (k : v ≡ sector_v Kdmv h.capacity h.grain_size) (e : end ≡ min (512 * v) (length s)) where
  abbrev from : ℕ
  from = 512 * first + 4 * all

  starts : from ≡ entries_end Kdmv h.capacity h.grain_size
  starts = rw (i, j)

  pub gap_fits : (from ≤ end) × (end ≤ length s) × (end ≤ 512 * v)
  gap_fits =
      let late = entries_before Kdmv h.capacity h.grain_size (some_size (sizes s h a.alike.published)) in
      let room = a.inside in
      (omega (arith, starts), omega arith, omega arith)

  module _ (f : FirstOther s from (zeros (end - from)) r) where
    gap_there : Stands (form_of s h) from (zeros (end - from))
    gap_there =
        zeros_less (512 * v - from) (end - from)
        (rw (i, j, k) (gap_unused (sizes s h a.alike.published) (grain_map s h))) (omega (arith, gap_fits.2))

    abbrev upto : AlikeTo from s h
    upto = alike_as a.alike _ (sym starts)

    pub gap_not : r < end → Err (NotNormal r) ≡ compared s h
    gap_not b =
        alike_not upto _ gap_there r f end (zeros_ends _ _ _ (omega (arith, gap_fits.0))) b gap_fits.1

    gap_on : end ≤ r → AlikeTo end s h
    gap_on b = alike_on upto _ gap_there r f end (zeros_ends _ _ _ (omega (arith, gap_fits.0))) b

    -- the image ends before V
    pub gap_short : end ≤ r → end < 512 * v → Err (NotNormal end) ≡ compared s h
    unfolding sectors_laid
    gap_short b l =
        let q : end ≡ length s = omega arith in
        let long = form_long s h a.alike.published in
        rw q (shorter h s (form_of s h) (rw q at (gap_on b).same) (omega arith))

    pub gap_laid : end ≤ r → 512 * v ≤ end → Laid (512 * sector_v Kdmv h.capacity h.grain_size) sectors s h
    gap_laid b l =
        let q : end ≡ 512 * sector_v Kdmv h.capacity h.grain_size = omega (arith, gap_fits.2) in
        record { alike = alike_as (gap_on b) _ q; inside = omega (arith, gap_fits.1); laid = a.laid }

-- ---- the lengths
module _ {s : List ℕ} {h : Header} (sectors : ℕ)
    (a : Laid (512 * sector_v Kdmv h.capacity h.grain_size) sectors s h) where
  abbrev p : Published s h
  p = a.alike.published

  before_v : 512 ≤ 512 * sector_v Kdmv h.capacity h.grain_size
  before_v =
      omega (
        arith,
        directory_fits Kdmv h.capacity h.grain_size,
        entries_before Kdmv h.capacity h.grain_size (some_size (sizes s h p)),
      )

  all_same : (SameBytes s (form_of s h) 0 (512 * sectors_laid Kdmv h.capacity h.grain_size (grain_map s h)))
      × (512 * sectors_laid Kdmv h.capacity h.grain_size (grain_map s h) ≤ length s)
  all_same =
      let head = earlier a.alike 512 before_v in
      grains_alike (sizes s h p) (grain_map s h) s (fits s h p) (own s h p head) (laid_readable s h p head) (full s h p)
      a.alike.same a.inside

  pub laid_small : sectors ≤ 0x100000000
  unfolding sectors_laid sector_of
  laid_small =
      omega (
        arith,
        a.laid,
        sector_small Kdmv (sizes s h p) (grain_map s h) (grains h.capacity h.grain_size) (omega arith),
      )

  pub too_long : 512 * sectors < length s → Err (NotNormal (512 * sectors)) ≡ compared s h
  too_long l =
      let q : 512 * sectors_laid Kdmv h.capacity h.grain_size (grain_map s h) ≡ 512 * sectors = omega (arith, a.laid) in
      longer h s (form_of s h) (512 * sectors) (omega (arith, form_long s h p)) (rw q at all_same.0) l

  pub as_long : length s ≤ 512 * sectors → accepted_as h.capacity h.grain_size ≡ compared s h
  as_long l =
      let q : 512 * sectors_laid Kdmv h.capacity h.grain_size (grain_map s h) ≡ length s =
      omega (arith, a.laid, all_same.1) in
      same_file_lem h s (form_of s h) (omega (arith, form_long s h p)) (rw q at all_same.0)
