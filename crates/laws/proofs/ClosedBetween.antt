-- The areas of a closed image one after the other (request A12): header, descriptor, the kept grains, tables, the directory,
-- the footer, the last sector.
use Prim.Native.Nat.{ℕ, suc, ◌+◌, ◌*◌, ◌≤◌, ◌<◌}
use mathlib.Core.Path.{◌≡◌, refl, sym, ◌∙◌}
use mathlib.Core.List.{List, [], ◌∷◌}
use mathlib.Core.Bool.{Bool, true}
use mathlib.Core.Logic.{⊎_elim}
use native.Mathlib.Omega.{arith}
use lib.Dec.{ltb}
use borrow.Author.Tests.{lt-ltb, le-ltb}
use Rattle.base.specs.Pick.{pick}
use Rattle.base.specs.Rows.{rows}
use Rattle.base.specs.SumsBelow.{sum_below}
use Rattle.base.proofs.Steps.{lt_or_ge, true_or_false}
use Rattle.format.specs.Header.{grains_of}
use Rattle.format.specs.Entries.{meaning, grain_sectors}
use Rattle.format.specs.Areas.{named}
use Rattle.format.specs.Stream.{KeptGrain, grains_end}
use Rattle.format.specs.Tail.{kept_entry, has_grains, tables_below, new_table, new_directory_entry}
use Rattle.format.specs.declared.Header.{Header}
use Rattle.format.proofs.Picked.{pick_then, pick_else}
use Rattle.format.proofs.StreamKept.{Ascends}
use Rattle.format.proofs.StreamKept.Ascends.{none, some}
use Rattle.format.proofs.StreamEntries.{entry_first, entry_other, entry_none}
use Rattle.laws.proofs.LayoutBack.{sector_told}
use Rattle.laws.proofs.LayoutBetween.{Between, between_one, between_wide, between_rows}
use Rattle.laws.proofs.ClosedStart.{end_late}
use Rattle.laws.proofs.ClosedEntries.{none_told}

-- ---- the kept grains
-- where those with numbers below g end
unfoldable end_below : ℕ → List KeptGrain → ℕ → ℕ
end_below start [] g = start
end_below start (k ∷ l) g = pick (ltb k.number g) (end_below (k.sector + k.sectors) l g) start

module _ (p : ℕ) (k : KeptGrain) (l : List KeptGrain) (g : ℕ) where
  end_later : k.number < g → end_below p (k ∷ l) g ≡ end_below (k.sector + k.sectors) l g
  unfolding end_below
  end_later b = pick_then _ _ _ (lt-ltb k.number g b)

  end_none : g ≤ k.number → end_below p (k ∷ l) g ≡ p
  unfolding end_below
  end_none b = pick_else _ _ _ (le-ltb k.number g b)

-- what an entry names where nothing is
none_between : (sectors : ℕ → ℕ) (b : Bool) (p e : ℕ) → e ≡ 0 → Between p (named sectors (meaning b e)) p
unfolding Between named
none_between sectors b p e q = rw (q, none_told b) (omega arith)

sector_between : (sectors : ℕ → ℕ) (b : Bool) (p e n : ℕ) → 2 ≤ e → p ≤ e → sectors e ≡ n
    → Between p (named sectors (meaning b e)) (e + n)
unfolding named
sector_between sectors b p e n late low q = rw (sector_told b e late, ← q) (between_one p e (sectors e) low)

module _ (s : List ℕ) (h : Header) (b : Bool) (sectors : ℕ → ℕ) where
  -- none below the first number, and all below a number that is past all
  end_start : {p next : ℕ} {l : List KeptGrain} → Ascends s h p next l → (start g : ℕ) → g ≤ next → end_below start l g ≡ start
  unfolding end_below
  end_start none start g low = refl
  end_start (some {k = k} e n w a) start g low = pick_else _ _ _ (le-ltb k.number g (omega arith))

  end_all : {p next : ℕ} {l : List KeptGrain} → Ascends s h p next l → (start : ℕ) → end_below start l (grains_of h)
      ≡ grains_end start l
  unfolding end_below grains_end
  end_all none start = refl
  end_all (some {k = k} e n w a) start =
      pick_then _ _ _ (lt-ltb k.number (grains_of h) w.used) ∙ end_all a (k.sector + k.sectors)

  -- `sectors` says of each kept grain how many it takes
  abbrev pub Takes : List KeptGrain → Type 0
  Takes [] = Unit
  Takes (k ∷ l) = (sectors k.sector ≡ k.sectors) × Takes l

  pub takes_all : {p next : ℕ} {l : List KeptGrain} → Ascends s h p next l → (last : ℕ) → grains_end p l ≤ last
      → ((e : ℕ) → e < last → sectors e ≡ grain_sectors s true h.grain_size e) → Takes l
  unfolding grains_end
  takes_all none last low same = tt
  takes_all (some {k = k} e n w a) last low same =
      (same k.sector (omega (arith, w.one, end_late s h a)) ∙ sym w.takes, takes_all a last low same)

  grain_between : {p next : ℕ} {l : List KeptGrain} → Ascends s h p next l → Takes l → 2 ≤ p → (g : ℕ)
      → Between (end_below p l g) (named sectors (meaning b (kept_entry l g))) (end_below p l (suc g))
  unfolding kept_entry end_below
  grain_between none t late g = none_between sectors b _ 0 refl
  grain_between (some {p = p} {k = k} {l = l} e n w a) t late g =
      ⊎_elim
      (λ (low : k.number < g).
      rw (end_later p k l g low, end_later p k l (suc g) (omega arith), entry_other k l g (omega arith))
      (grain_between a t.1 (omega (arith, w.one)) g))
      (λ (high : g ≤ k.number).
      ⊎_elim
      (λ (under : g < k.number).
      rw (end_none p k l g high, end_none p k l (suc g) (omega arith))
      (none_between sectors b p _ (entry_other k l g (omega arith) ∙ entry_none s h a g (omega arith))))
      (λ (same : k.number ≤ g).
      let q : k.number ≡ g = omega arith in
      let f : kept_entry (k ∷ l) g ≡ k.sector = rw (← q) (entry_first k l) in
      rw (
        end_none p k l g high,
        end_later p k l (suc g) (omega arith),
        end_start a (k.sector + k.sectors) (suc g) (omega arith),
        f,
      )
      (sector_between sectors b p k.sector k.sectors (omega arith) e t.0))
      (lt_or_ge g k.number))
      (lt_or_ge k.number g)

  -- all of them, up to where they end
  pub grains_between : {p next : ℕ} {l : List KeptGrain} → Ascends s h p next l → Takes l → 2 ≤ p
      → Between p (rows (grains_of h) (λ g. named sectors (meaning b (kept_entry l g)))) (grains_end p l)
  grains_between {p} {next} {l} a t late =
      between_wide _ (end_below p l 0) _ p _ (omega (arith, end_start a p 0 (omega arith))) (omega (arith, end_all a p))
      (between_rows (grains_of h) _ (end_below p l) (λ g low. grain_between a t late g))

-- ---- the tables behind their markers
module _ (b : Bool) (end : ℕ) (l : List KeptGrain) (late : 2 ≤ end) where
  table_between_lem : (d : ℕ) → Between (end + 5 * tables_below l d) (named (λ e. 4) (meaning b (new_directory_entry end l d)))
      (end + 5 * tables_below l (suc d))
  unfolding sum_below
  table_between_lem d =
      ⊎_elim
      (λ t.
      rw (pick_then (has_grains l d) (new_table end l d) 0 t, pick_then {A = ℕ} (has_grains l d) 1 0 t)
      (between_wide _ (end + 5 * tables_below l d) (new_table end l d + 4) _ _ (omega arith) (omega arith)
      (sector_between (λ e. 4) b _ (new_table end l d) 4 (omega arith) (omega arith) refl)))
      (λ f.
      rw (pick_else (has_grains l d) (new_table end l d) 0 f, pick_else {A = ℕ} (has_grains l d) 1 0 f)
      (between_wide _ (end + 5 * tables_below l d) (end + 5 * tables_below l d) _ _ (omega arith) (omega arith)
      (none_between (λ e. 4) b _ 0 refl)))
      (true_or_false (has_grains l d))

  pub tables_between : (n : ℕ)
      → Between end (rows n (λ d. named (λ e. 4) (meaning b (new_directory_entry end l d)))) (end + 5 * tables_below l n)
  unfolding sum_below
  tables_between n =
      between_wide _ (end + 5 * tables_below l 0) _ _ _ (omega arith) (omega arith)
      (between_rows n _ (λ d. end + 5 * tables_below l d) (λ d low. table_between_lem d))
