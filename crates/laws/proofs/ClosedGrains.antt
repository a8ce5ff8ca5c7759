-- The kept grains (request A12), one by one: each is whole, its entry is its own sector, and in the closed image its marker
-- says what it said in the start.
use Prim.Native.Nat.{ℕ, ◌+◌, ◌*◌, ◌≤◌, ◌<◌}
use mathlib.Core.Path.{◌≡◌, refl, ◌∙◌}
use mathlib.Core.List.{List, [], ◌∷◌}
use mathlib.Core.Logic.{◌⊎◌, inl, inr, ⊎_elim}
use native.Mathlib.Omega.{arith}
use lib.Dec.{eqb}
use borrow.Author.Tests.{eqb-true, eqb-false}
use Rattle.base.proofs.Steps.{true_or_false}
use Rattle.base.proofs.SameBytes.{within, number_same}
use Rattle.format.specs.Header.{start_of, grains_of}
use Rattle.format.specs.Entries.{grain_entry, marker_first, marker_size}
use Rattle.format.specs.Stream.{overhead, KeptGrain, kept_grains, grains_end, kept_sectors}
use Rattle.format.specs.Tail.{kept_entry}
use Rattle.format.specs.Close.{closed_image}
use Rattle.format.specs.declared.Header.{Header}
use Rattle.format.specs.declared.Entry.TheVariants.{Absent, Sector}
use Rattle.format.proofs.StreamKept.{WholeGrain, Ascends}
use Rattle.format.proofs.StreamKept.Ascends.{none, some}
use Rattle.format.proofs.StreamEntries.{entry_first, entry_other}
use Rattle.laws.specs.Closed.{Among, first, later, closed_header}
use Rattle.laws.proofs.LayoutBack.{sector_told}
use Rattle.laws.proofs.ClosedStart.{Closing, end_late, kept_ascends, kept_same}
use Rattle.laws.proofs.ClosedEntries.{none_told, closed_entry}

-- a kept grain lies between where the walk started and where the grains end
pub record Lies (s : List ℕ) (h : Header) (p next last : ℕ) (k : KeptGrain) : Type 0 where
  pub whole : WholeGrain s h k
  pub from : p ≤ k.sector
  pub above : next ≤ k.number
  pub to : k.sector + k.sectors ≤ last

module _ (s : List ℕ) (h : Header) where
  pub among_lies : {p next : ℕ} {l : List KeptGrain} {k : KeptGrain} → Ascends s h p next l → Among k l
      → Lies s h p next (grains_end p l) k
  unfolding grains_end
  among_lies (none {p = p} {next = next}) x5 = elim x5 [ ]
  among_lies (some e n w a) first = record { whole = w; from = e; above = n; to = end_late s h a }
  among_lies (some {k = j} e n w a) (later m) =
      let r = among_lies a m in
      record { whole = r.whole; from = omega (arith, r.from); above = omega (arith, r.above); to = r.to }

  -- its number is its own, so its entry is its sector
  pub among_entry : {p next : ℕ} {l : List KeptGrain} {k : KeptGrain} → Ascends s h p next l → Among k l
      → kept_entry l k.number ≡ k.sector
  among_entry (none {p = p} {next = next}) x5 = elim x5 [ ]
  among_entry (some {k = k} {l = l} e n w a) first = entry_first k l
  among_entry {k = k} (some {k = j} {l = l} e n w a) (later m) =
      entry_other j l k.number (omega (arith, (among_lies a m).above)) ∙ among_entry a m

-- a number has a grain, or its entry is 0
pub entry_cases : (l : List KeptGrain) (g : ℕ)
    → (kept_entry l g ≡ 0) ⊎ ((k : KeptGrain) × Among k l × (k.number ≡ g))
unfolding kept_entry
entry_cases [] g = inl refl
entry_cases (j ∷ l) g =
    ⊎_elim (λ t. inr (j, first, eqb-true j.number g t))
    (λ f.
    ⊎_elim (λ z. inl (entry_other j l g (eqb-false _ _ f) ∙ z)) (λ r. inr (r.0, later r.1, r.2)) (entry_cases l g))
    (true_or_false (eqb j.number g))

-- ---- markers of the kept part
module _ (s : List ℕ) (z : Closing s) (e : ℕ) (low : e < kept_sectors s (start_of s)) where
  pub size_same : marker_size (closed_image s) e ≡ marker_size s e
  size_same =
      number_same (closed_image s) s _ 4
      (within (closed_image s) s 0 _ (512 * e + 8) 4 (kept_same s z) (omega arith) (omega arith))

  pub first_same : marker_first (closed_image s) e ≡ marker_first s e
  first_same =
      number_same (closed_image s) s _ 8
      (within (closed_image s) s 0 _ (512 * e) 8 (kept_same s z) (omega arith) (omega arith))

-- ---- entries of the closed image
module _ (s : List ℕ) (z : Closing s) where
  pub kept_lies : {k : KeptGrain} → Among k (kept_grains s (start_of s))
      → Lies s (start_of s) (overhead s) 0 (kept_sectors s (start_of s)) k
  kept_lies m = among_lies s (start_of s) (kept_ascends s z) m

  pub kept_entry_lem : {k : KeptGrain} → Among k (kept_grains s (start_of s))
      → grain_entry (closed_image s) (closed_header s) k.number ≡ Sector k.sector
  kept_entry_lem {k} m =
      let r = kept_lies m in
      closed_entry s z k.number r.whole.used
      ∙ rw (
        among_entry s (start_of s) (kept_ascends s z) m,
        sector_told (closed_header s).one_is_zero k.sector (omega (arith, r.from, z.late)),
      )

  pub other_entry_lem : (g : ℕ) → g < grains_of (start_of s) → kept_entry (kept_grains s (start_of s)) g ≡ 0
      → grain_entry (closed_image s) (closed_header s) g ≡ Absent
  other_entry_lem g low e = closed_entry s z g low ∙ rw (e, none_told (closed_header s).one_is_zero)
