-- The grain map, which is the meaning of an image: for each grain absent, zero, or its bytes.
use Rattle.std.specs.Prelude.{ℕ, zero, suc, ◌+◌, ◌*◌, ◌≡◌, List, [], ltb, get_or, drop}
use Rattle.base.specs.Pick.{pick}
use Rattle.base.specs.Rows.{tabulate}
use Rattle.format.specs.Entries.{grain_entry}
use Rattle.format.specs.declared.Header.{Header}
use Rattle.format.specs.declared.Entry.{Entry}
use Rattle.format.specs.declared.Entry.TheVariants.{Absent, Zero, Sector}

pub data Grain : Type 0 where
  absent : Grain
  zeroed : Grain
  stored : List ℕ → Grain

abbrev pub Map : Type 0
Map = ℕ → Grain

-- a grain is the upper's unless absent there, else the lower's
unfoldable pub upper_unless_absent : Grain → Grain → Grain
upper_unless_absent lower absent = lower
upper_unless_absent lower zeroed = zeroed
upper_unless_absent lower (stored b) = stored b

abbrev pub merge : Map → Map → Map
merge lower upper g = upper_unless_absent (lower g) (upper g)

-- the map of an image whose grains are all absent
abbrev pub all_absent : Map
all_absent g = absent

-- ---- what an image says, uncompressed
-- byte i of grain g, where s starts at the grain: 0 from capacity on
abbrev pub clip_at : ℕ → ℕ → ℕ → List ℕ → ℕ → ℕ
clip_at capacity grain_size g s i = pick (ltb (512 * (g * grain_size) + i) (512 * capacity)) (get_or s i 0) 0

unfoldable pub clip : ℕ → ℕ → ℕ → List ℕ → List ℕ
clip capacity grain_size g s = tabulate (512 * grain_size) (clip_at capacity grain_size g s)

unfoldable pub grain_from : List ℕ → ℕ → ℕ → ℕ → Entry → Grain
grain_from s capacity grain_size g Absent = absent
grain_from s capacity grain_size g Zero = zeroed
grain_from s capacity grain_size g (Sector e) = stored (clip capacity grain_size g (drop (512 * e) s))

abbrev pub grain_map : List ℕ → Header → Map
grain_map s h g = grain_from s h.capacity h.grain_size g (grain_entry s h g)

-- ---- what a grain takes in a written image
unfoldable pub bytes_of : Grain → List ℕ
bytes_of absent = []
bytes_of zeroed = []
bytes_of (stored b) = b

unfoldable pub one_if_stored : Grain → ℕ
one_if_stored absent = 0
one_if_stored zeroed = 0
one_if_stored (stored b) = 1

-- the stored grains below g
unfoldable pub stored_below : Map → ℕ → ℕ
stored_below m zero = 0
stored_below m (suc g) = stored_below m g + one_if_stored (m g)

-- a grain's table entry: 0 absent, 1 zero, else the sector where it stands
unfoldable pub entry_for : Grain → ℕ → ℕ
entry_for absent sector = 0
entry_for zeroed sector = 1
entry_for (stored b) sector = sector

-- clipping changes nothing: 512 x grain size bytes, and zeros past capacity
abbrev pub Whole : ℕ → ℕ → ℕ → Grain → Type 0
Whole capacity grain_size g absent = Unit
Whole capacity grain_size g zeroed = Unit
Whole capacity grain_size g (stored b) = clip capacity grain_size g b ≡ b
