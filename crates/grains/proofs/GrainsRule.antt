-- The rule that the walk judges of a grain's entry: 10 of markers, else 9.
use Prim.Native.Nat.{ℕ, ◌+◌, ◌*◌, ◌≤◌, ◌<◌}
use mathlib.Core.Path.{◌≡◌, refl, sym}
use mathlib.Core.List.{List}
use mathlib.Core.Bool.{Bool, true, false, ◌&&◌, and-false}
use lib.Dec.{ltb}
use lib.ListN.{length}
use Rattle.base.specs.Pick.{pick}
use Rattle.format.specs.Geometry.{file_sectors}
use Rattle.format.specs.Header.{grains_of}
use Rattle.format.specs.Entries.{grain_entry, grain_sectors, marker_broken}
use Rattle.format.specs.Areas.{area, named, runs_past}
use Rattle.format.specs.Check.{grain_past, marker_broken_at, bad_marker, lowest_past, lowest_bad_marker}
use Rattle.format.specs.declared.Header.{Header}
use Rattle.format.specs.declared.Entry.{Entry}
use Rattle.format.specs.declared.Entry.TheVariants.{Absent, Zero, Sector}
use Rattle.format.proofs.Inside.{past_one}
use Rattle.format.proofs.LowestGrain.{none_lowest, lowest_none}
use Rattle.format.proofs.Picked.{and_no}
use Rattle.entries.proofs.EntriesRead.{grain_read}
use Rattle.std.specs.Prelude.{None}

-- the rule that is judged, of grain g and its entry: 10 of markers, else 9
abbrev pub broken : List ℕ → Bool → Bool → ℕ → ℕ → Entry → Bool
broken s markers packed size g entry =
    pick markers (packed && marker_broken_at s size g entry)
    (runs_past (file_sectors s) (named (grain_sectors s packed size) entry))

-- of a grain by its number
abbrev pub rule_of : List ℕ → Header → Bool → ℕ → Bool
rule_of s h markers g = broken s markers h.packed h.grain_size g (grain_entry s h g)

-- ---- at an arm of a match on the entry
neither : (markers packed : Bool) → false ≡ pick markers (packed && false) false
unfolding pick
neither true packed = sym (and-false packed)
neither false packed = refl

one_past : (f : ℕ) (sectors : ℕ → ℕ) (e : ℕ) → runs_past f (named sectors (Sector e)) ≡ ltb f (e + sectors e)
unfolding named
one_past f sectors e = past_one f (area e (sectors e))

module _ (s : List ℕ) (markers packed : Bool) (size : ℕ) (entry : Entry) where
  module _ (g : ℕ) where
    pub absent_kept : entry ≡ Absent → false ≡ broken s markers packed size g entry
    unfolding marker_broken_at runs_past named
    absent_kept q = rw q (neither markers packed)

    pub zero_kept : entry ≡ Zero → false ≡ broken s markers packed size g entry
    unfolding marker_broken_at runs_past named
    zero_kept q = rw q (neither markers packed)

  module _ (e : ℕ) (q : entry ≡ Sector e) where
    pub sector_broken : (g : ℕ) (r : Bool) → r ≡ pick markers (packed && marker_broken s size g e)
        (ltb (file_sectors s) (e + grain_sectors s packed size e)) → r ≡ broken s markers packed size g entry
    unfolding marker_broken_at
    sector_broken g r t = rw (q, one_past) t

    pub sector_filed : (markers && runs_past (file_sectors s) (named (grain_sectors s packed size) entry)) ≡ false
        → (markers && ltb (file_sectors s) (e + grain_sectors s packed size e)) ≡ false
    sector_filed t = rw (q, one_past) at t

-- where markers are judged no grain runs past F, so a marker can be read
pub marker_in : (s : List ℕ) (markers packed : Bool) (size e : ℕ)
    → (markers && ltb (file_sectors s) (e + grain_sectors s packed size e)) ≡ false → markers ≡ true → 1 ≤ size → 512 * e + 12
    ≤ length s
marker_in s markers packed size e b m one = grain_read s packed size e one refl (and_no _ _ b m)

-- ---- of a whole image
module _ (s : List ℕ) (h : Header) where
  -- where 9 is judged first, no grain runs past F
  pub all_filed : lowest_past s h ≡ None → (g : ℕ) → g < grains_of h → grain_past s h g ≡ false
  all_filed e = none_lowest (grain_past s h) (grains_of h) e

  -- grains that are not packed have no marker
  pub none_packed : h.packed ≡ false → None ≡ lowest_bad_marker s h
  none_packed e = sym (lowest_none (bad_marker s h) (grains_of h) (λ g b. rw e))
