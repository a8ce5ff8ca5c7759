-- What the lookup asks on its way, each premise as the code gives it.
use Prim.Native.Nat.{ℕ, ◌+◌, ◌*◌, ◌/◌, ◌%◌, ◌≤◌, ◌<◌}
use mathlib.Core.Path.{◌≡◌, sym, ◌∙◌}
use mathlib.Core.List.{List}
use mathlib.Core.Bool.{Bool, true, false}
use native.Mathlib.Omega.{arith}
use native.Mathlib.Nat.{mod-lt, div-le_self}
use lib.Dec.{ltb}
use lib.ListN.{length}
use borrow.Author.Tests.{ltb-false}
use Rattle.base.specs.Pick.{pick}
use Rattle.format.specs.Geometry.{file_sectors}
use Rattle.format.specs.Entries.{marker_size}
use Rattle.format.specs.Check.{directory_misplaced}
use Rattle.format.specs.Source.{grain_source, lookup_entry, lookup_table, lookup_from}
use Rattle.format.specs.declared.Header.{Header}
use Rattle.format.specs.declared.Entry.{Entry}
use Rattle.format.specs.declared.Source.TheVariants.{Packed}
use Rattle.format.proofs.Geometry.{grain_of_lem, entry_used}
use Rattle.format.proofs.Places.{directory_in}
use Rattle.format.specs.Judged.{Sound}
use Rattle.std.specs.Prelude.{Result}
use Rattle.format.specs.declared.Source.{Source}
use Rattle.format.specs.declared.Refusal.{Refusal}

-- ---- markers
pub packed_source : (s : List ℕ) (packed : Bool) (e m : ℕ) → packed ≡ true → m ≡ marker_size s e → (o : ℕ) → Packed e m o
    ≡ grain_source s packed o e
unfolding grain_source pick
packed_source s packed e m p q o = rw (p, ← q)

-- ---- what is read lies in the file
-- the entry of grain g in a table that does not run past F
pub table_read : {r : Bool} (s : List ℕ) (h : Header) (t g : ℕ) → Sound h → r ≡ ltb (file_sectors s) (t + h.table_sectors)
    → r ≡ false → 512 * t + 4 * (g % h.entries_per_table) + 4 ≤ length s
table_read s h t g z e b =
    let k : g % h.entries_per_table < h.entries_per_table = mod-lt g z.some in
    omega (arith, z.table, ltb-false (file_sectors s) (t + h.table_sectors) (sym e ∙ b))

-- the directory entry of a sector's grain, where the directory does not run past F
pub directory_read : {r : Bool} (s : List ℕ) (h : Header) (x : ℕ) → Sound h → x < h.capacity → r
    ≡ directory_misplaced (file_sectors s) h → r ≡ false
    → 512 * h.directory + 4 * (x / h.grain_size / h.entries_per_table) + 4 ≤ length s
directory_read s h x z l e b =
    let g = grain_of_lem h.capacity h.grain_size z.sizes.low x l in
    let d = entry_used h.capacity h.grain_size z.sizes.low h.entries_per_table z.some
    (x / h.grain_size) g in
    omega (arith, z.directory, directory_in (file_sectors s) h (sym e ∙ b))

-- a sector below capacity: its grain's number is small, and it is one of the grain's sectors
pub grain_small : (h : Header) (x : ℕ) → Sound h → x < h.capacity → x / h.grain_size ≤ 0x80000000
grain_small h x z l = omega (arith, z.sizes.small, div-le_self x h.grain_size)

pub sector_of_lem : (h : Header) (x : ℕ) → Sound h → x % h.grain_size < h.grain_size
sector_of_lem h x z = mod-lt x z.sizes.low

-- ---- at an arm of a match
pub entry_as : (s : List ℕ) (h : Header) (g o : ℕ) (z : Result Source Refusal) (r v : Entry) → r ≡ v → z
    ≡ lookup_entry s h g o v → z
    ≡ lookup_entry s h g o r
entry_as s h g o z r v e t = rw e t

pub table_as : (s : List ℕ) (h : Header) (g o : ℕ) (z : Result Source Refusal) (r v : Entry) → r ≡ v → z
    ≡ lookup_table s h g o v → z
    ≡ lookup_table s h g o r
table_as s h g o z r v e t = rw e t

pub judged_as : (s : List ℕ) (x : ℕ) (z : Result Source Refusal) (a r v : Result Header Refusal) → r ≡ a → r ≡ v → z
    ≡ lookup_from s x v → z
    ≡ lookup_from s x a
judged_as s x z a r v e q t = rw (← e, q) t
