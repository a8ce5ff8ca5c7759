-- Entries: what each means, which ones a grain uses, and what a grain takes in the file. In all definitions s is an image's
-- bytes, h its header, g a grain, e the sector that an entry names, x the virtual sector asked for and o = x mod grain size.
use Rattle.std.specs.Prelude.{ℕ, zero, suc, ◌+◌, ◌-◌, ◌*◌, ◌/◌, ◌%◌, min, List, Bool, false, not, ◌&&◌, ◌||◌, eqb}
use Rattle.base.specs.Pick.{pick}
use Rattle.base.specs.Rounding.{ceil}
use Rattle.base.specs.Numbers.{le_at}
use Rattle.format.specs.Header.{grains_of}
use Rattle.format.specs.declared.Header.{Header}
use Rattle.format.specs.declared.Entry.{Entry}
use Rattle.format.specs.declared.Entry.TheVariants.{Absent, Zero, Sector}

-- entry k of the directory or table that starts at sector t: its first byte, and its number; entries are u32
abbrev pub entry_byte : ℕ → ℕ → ℕ
entry_byte t k = 512 * t + 4 * k

abbrev pub entry_at : List ℕ → ℕ → ℕ → ℕ
entry_at s t k = le_at s (entry_byte t k) 4

-- the entry table: 0 is absent; 1 is zero, if `one_is_zero`; else the entry is a sector
unfoldable pub meaning : Bool → ℕ → Entry
meaning one_is_zero e = pick (eqb e 0) Absent (pick (one_is_zero && eqb e 1) Zero (Sector e))

-- a directory entry that names no table says it of all its grains; else entry k of the table counts
unfoldable pub in_table : List ℕ → Bool → ℕ → Entry → Entry
in_table s one_is_zero k Absent = Absent
in_table s one_is_zero k Zero = Zero
in_table s one_is_zero k (Sector t) = meaning one_is_zero (entry_at s t k)

-- what entry k of the directory or table at sector t means
abbrev pub meaning_at : List ℕ → Bool → ℕ → ℕ → Entry
meaning_at s one_is_zero t k = meaning one_is_zero (entry_at s t k)

-- grain g uses directory entry g / 512 and table entry g mod 512 (4,096 for COWD): for any number of entries per table
unfoldable pub entry_of_grain : List ℕ → Bool → ℕ → ℕ → ℕ → Entry
entry_of_grain s one_is_zero per_table directory g =
    in_table s one_is_zero (g % per_table) (meaning_at s one_is_zero directory (g / per_table))

abbrev pub grain_entry : List ℕ → Header → ℕ → Entry
grain_entry s h g = entry_of_grain s h.one_is_zero h.entries_per_table h.directory g

-- the entries of the table of directory entry d that are in use: those of grains below the number of grains
abbrev pub entries_in_use : Header → ℕ → ℕ
entries_in_use h d = min h.entries_per_table (grains_of h - d * h.entries_per_table)

-- ---- what a grain takes
-- a compressed grain starts with a marker: u64 first virtual sector, u32 size, then that many bytes
abbrev pub marker_first : List ℕ → ℕ → ℕ
marker_first s e = le_at s (512 * e) 8

abbrev pub marker_size : List ℕ → ℕ → ℕ
marker_size s e = le_at s (512 * e + 8) 4

-- a stored grain takes grain-size sectors, also where capacity ends inside it; a packed one (12 + size) / 512, rounded up
unfoldable pub grain_sectors : List ℕ → Bool → ℕ → ℕ → ℕ
grain_sectors s packed grain_size e = pick packed (ceil (12 + marker_size s e) 512) grain_size

-- the size is at least 1, and the first number is g x grain size
unfoldable pub marker_broken : List ℕ → ℕ → ℕ → ℕ → Bool
marker_broken s grain_size g e = eqb (marker_size s e) 0 || not (eqb (marker_first s e) (g * grain_size))

-- ---- a rule that is broken by one of the numbers below n
unfoldable pub any_below : (ℕ → Bool) → ℕ → Bool
any_below broken zero = false
any_below broken (suc n) = any_below broken n || broken n
