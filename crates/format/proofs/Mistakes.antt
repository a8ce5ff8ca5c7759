-- Mistakes that document 01 shuts out, as laws. That unused entries refuse no image is a theorem of `laws` (`unused_free`).
use Prim.Native.Nat.{ℕ, ◌+◌, ◌<◌}
use mathlib.Core.Path.{◌≡◌, refl}
use mathlib.Core.List.{List, [], ◌∷◌}
use mathlib.Core.Bool.{true, false}
use native.Mathlib.Omega.{arith}
use borrow.Author.Tests.{eqb-true, lt-ltb}
use Rattle.base.specs.Pick.{pick}
use Rattle.base.proofs.Steps.{not_no}
use Rattle.format.specs.Entries.{entry_at, meaning, grain_entry, grain_sectors}
use Rattle.format.specs.Areas.{area, named, grain_area, runs_past}
use Rattle.format.specs.Check.{tables_differ}
use Rattle.format.specs.Chain.{unless_absent}
use Rattle.format.specs.Grains.{Grain, zeroed, upper_unless_absent}
use Rattle.format.specs.declared.Header.{Header}
use Rattle.format.specs.declared.Entry.TheVariants.{Zero as no_sector, Sector}
use Rattle.format.specs.declared.Source.TheVariants.{Zero}
use Rattle.format.proofs.Entries.{some_no}
use Rattle.std.specs.Prelude.{Result, Ok}
use Rattle.format.specs.declared.LayerSource.{LayerSource}
use Rattle.format.specs.declared.LayerRefusal.{LayerRefusal}

-- stopping a comparison at a zero byte: tables that do not differ are equal in every entry that is compared
pub all_compared : (s : List ℕ) (t u n : ℕ) → tables_differ s t u n ≡ false → (k : ℕ) → k < n → entry_at s t k ≡ entry_at s u k
all_compared s t u n e k h = eqb-true _ _ (not_no _ (some_no _ _ e k (omega arith)))

-- taking entry 1 for file sector 1 where it means zeros, or for zeros where it is sector 1
pub one_zero : meaning true 1 ≡ no_sector
unfolding meaning pick
one_zero = refl

pub one_sector : meaning false 1 ≡ Sector 1
unfolding meaning pick
one_sector = refl

-- giving the last grain a short area: each stored grain takes grain-size sectors, whatever capacity is
pub grain_whole : (s : List ℕ) (h : Header) (g e : ℕ) → h.packed ≡ false → grain_entry s h g ≡ Sector e → grain_area s h g
    ≡ area e h.grain_size ∷ []
unfolding named grain_sectors pick
grain_whole s h g e p q = rw (q, p)

-- adding 64-bit sector numbers so that a sum wraps under F: an area that ends past f runs past it, however large its numbers
pub past_exact : (f first count : ℕ) → f < first + count → runs_past f (area first count ∷ []) ≡ true
unfolding runs_past
past_exact f first count h = rw (lt-ltb f (first + count) h)

-- taking the parent for a grain marked zero: not in a collapse, and not in a chain
pub zero_hides : (lower : Grain) → upper_unless_absent lower zeroed ≡ zeroed
unfolding upper_unless_absent
zero_hides lower = refl

pub zero_serves : (layer : ℕ) (below : Result LayerSource LayerRefusal) → unless_absent layer (Ok Zero) below
    ≡ Ok (record { layer = layer; source = Zero })
unfolding unless_absent
zero_serves layer below = refl
