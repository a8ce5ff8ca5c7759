-- What the lookup finds lies in the file.
use Prim.Native.Nat.{ℕ, ◌+◌, ◌-◌, ◌*◌, ◌^◌, ◌≤◌, ◌<◌}
use mathlib.Core.Path.{◌≡◌, refl, sym, subst, ◌∙◌}
use mathlib.Core.List.{List}
use mathlib.Core.Bool.{Bool, true, false}
use native.Mathlib.Omega.{arith}
use lib.ListN.{length, take, drop}
use borrow.Author.Tests.{ltb-false}
use Rattle.base.specs.Pick.{pick}
use Rattle.base.proofs.Steps.{cond_all}
use Rattle.format.specs.Geometry.{file_sectors}
use Rattle.format.specs.Header.{judge}
use Rattle.format.specs.Entries.{grain_sectors}
use Rattle.format.specs.Source.{grain_source, lookup_grain, lookup_entry, lookup_table, lookup_in, lookup_from, sector_lookup}
use Rattle.format.specs.Source.{source_part, answer_part, answer_bytes, read}
use Rattle.format.specs.declared.numbers.Part.{Part}
use Rattle.format.specs.declared.Header.{Header}
use Rattle.format.specs.declared.Entry.{Entry}
use Rattle.format.specs.declared.Entry.TheVariants.{Absent, Zero, Sector}
use Rattle.format.specs.declared.Source.{Source}
use Rattle.format.specs.declared.Source.TheVariants.{Absent as no_source, Zero as zero_source, Stored, Packed}
use Rattle.format.specs.declared.Refusal.{Refusal}
use Rattle.format.specs.Judged.{Sound}
use Rattle.header.proofs.HeaderAnswered.{judged_sound}
use Rattle.reader.specs.PartEnd.{part_end}
use Rattle.lookup.proofs.LookupLaws.{sector_of_lem}
use Rattle.std.specs.Prelude.{Result, Ok, Err}

pub data Served (s : List ℕ) : Result Source Refusal → Type 0 where
  refused : {r : Refusal} → Served s (Err r)
  found : {source : Source} → part_end source ≤ length s → Served s (Ok source)

source_end : (s : List ℕ) (packed : Bool) (size o e : ℕ) → o < size → e + grain_sectors s packed size e ≤ file_sectors s
    → part_end (grain_source s packed o e) ≤ length s
unfolding grain_source grain_sectors pick
source_end s true size o e l h = omega arith
source_end s false size o e l h = omega arith

module _ (s : List ℕ) (h : Header) where
  grain_served : (g o e : ℕ) → o < h.grain_size → Served s (lookup_grain s h g o e)
  unfolding lookup_grain
  grain_served g o e l =
      cond_all (Served s) _ _ _ (λ p. refused)
      (λ n.
      cond_all (Served s) _ _ _ (λ p. refused)
      (λ m. found (source_end s h.packed h.grain_size o e l
      (ltb-false (file_sectors s) (e + grain_sectors s h.packed h.grain_size e) n))))

  entry_served : (g o : ℕ) (d : Entry) → o < h.grain_size → Served s (lookup_entry s h g o d)
  unfolding lookup_entry
  entry_served g o Absent l = found {source = no_source} (omega arith)
  entry_served g o Zero l = found {source = zero_source} (omega arith)
  entry_served g o (Sector e) l = grain_served g o e l

  table_served : (g o : ℕ) (d : Entry) → o < h.grain_size → Served s (lookup_table s h g o d)
  unfolding lookup_table
  table_served g o Absent l = found {source = no_source} (omega arith)
  table_served g o Zero l = found {source = zero_source} (omega arith)
  table_served g o (Sector t) l = cond_all (Served s) _ _ _ (λ p. refused) (λ n. entry_served g o _ l)

  in_served : Sound h → (x : ℕ) → Served s (lookup_in s h x)
  unfolding lookup_in
  in_served z x =
      cond_all (Served s) _ _ _ (λ p. refused)
      (λ n. cond_all (Served s) _ _ _ (λ p. refused) (λ m. table_served _ _ _ (sector_of_lem h x z)))

from_served : (s : List ℕ) (x : ℕ) (a : Result Header Refusal) → a ≡ judge s → Served s (lookup_from s x a)
unfolding lookup_from
from_served s x (Err r) e = refused
from_served s x (Ok h) e = in_served s h (judged_sound (Ok h) s h e refl) x

found_of : {s : List ℕ} {source : Source} → Served s (Ok source) → part_end source ≤ length s
found_of (found l) = l

served_inside : (a : Result Source Refusal) (s : List ℕ) (x : ℕ) (source : Source) → a ≡ sector_lookup s x → a ≡ Ok source
    → part_end source ≤ length s
served_inside a s x source e q = found_of (subst (Served s) (sym e ∙ q) (from_served s x (judge s) refl))

pub served_fits : (a : Result Source Refusal) (s : List ℕ) (x : ℕ) (source : Source) → a ≡ sector_lookup s x → a ≡ Ok source
    → length s < 2 ^ 64 → part_end source < 2 ^ 64
served_fits a s x source e q l = omega (arith, served_inside a s x source e q)

-- ---- at an arm of a match
module _ (r : Source) (n : ℕ) (l : part_end r < n) where
  pub stored_inside : (sector : ℕ) → r ≡ Stored sector → 512 * sector + 512 < n
  stored_inside sector e = rw e at l

  pub packed_inside : (marker size o : ℕ) → r ≡ Packed marker size o → 512 * marker + 12 + size < n
  packed_inside marker size o e = rw e at l

pub source_as : (z : Part) (r v : Source) → r ≡ v → z ≡ source_part v → z ≡ source_part r
source_as z r v e t = rw e t

pub part_as : (z : Part) (a r v : Result Source Refusal) → r ≡ a → r ≡ v → z ≡ answer_part v → z ≡ answer_part a
part_as z a r v e q t = rw (← e, q) t

-- ---- the part that the reader hands back
served_end : (s : List ℕ) (a : Result Source Refusal) → Served s a → (answer_part a).at + (answer_part a).length ≤ length s
served_end s (Err r) v = omega arith
served_end s (Ok source) (found l) = l

pub part_inside : (r : Part) (s : List ℕ) (x : ℕ) → r ≡ answer_part (sector_lookup s x) → r.at + r.length ≤ length s
part_inside r s x e = rw e (served_end s (sector_lookup s x) (from_served s x (judge s) refl))

pub part_fits : (r : Part) (s : List ℕ) (x : ℕ) → r ≡ answer_part (sector_lookup s x) → length s < 2 ^ 64 → r.at + r.length
    < 2 ^ 64
part_fits r s x e l = omega (arith, part_inside r s x e)

-- a part by its ends is a part by its start and length
pub part_read : (r : Part) (s : List ℕ) (x : ℕ) → r ≡ answer_part (sector_lookup s x)
    → take (r.at + r.length - r.at) (drop r.at s) ≡ read s x
unfolding answer_bytes
part_read r s x e = let n : r.at + r.length - r.at ≡ r.length = omega arith in rw (n, e)
