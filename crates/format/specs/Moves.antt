-- Moves from COWD to KDMV and back (request A9): the normal form of an image as an image of either kind.
use Rattle.std.specs.Prelude.{ℕ, List, Bool, true, false, not, ◌||◌, ltb, length}
use Rattle.base.specs.Pick.{pick}
use Rattle.format.specs.Header.{grains_of, header_of}
use Rattle.format.specs.Entries.{grain_entry, any_below}
use Rattle.format.specs.Check.{check_of}
use Rattle.format.specs.Grains.{Map}
use Rattle.format.specs.Layout.{layout_as, length_as}
use Rattle.format.specs.Collapse.{map_of, if_accepted, still_open, written_if_room, output}
use Rattle.format.specs.declared.Taken.TheVariants.{Either}
use Rattle.format.specs.declared.Kind.{Kind}
use Rattle.format.specs.declared.Kind.TheVariants.{Kdmv, Cowd}
use Rattle.format.specs.declared.Header.{Header}
use Rattle.format.specs.declared.Entry.{Entry}
use Rattle.format.specs.declared.Entry.TheVariants.{Absent, Zero, Sector}
use Rattle.format.specs.declared.Refusal.TheVariants.{NotCollapsible, StillOpen, NotMovable}
use Rattle.std.specs.Prelude.{Result, Err}
use Rattle.format.specs.declared.Refusal.{Refusal}

-- ---- the image: the layout of a kind, of an image's capacity, grain size and map. As KDMV it is document 01's normal form
abbrev pub laid_as : Kind → Header → Map → List ℕ
laid_as kind h m = layout_as kind h.capacity h.grain_size m

abbrev pub form_as : Kind → List ℕ → List ℕ
form_as kind s = laid_as kind (header_of s) (map_of s)

abbrev pub laid_length_as : Kind → Header → Map → ℕ
laid_length_as kind h m = length_as kind h.capacity h.grain_size m

-- ---- what a move to a kind does not take
-- 23: the wrong magic, which is that of the kind itself, or flag 0x10000
abbrev pub is_kind : Kind → Header → Bool
is_kind Kdmv h = not h.cowd
is_kind Cowd h = h.cowd

abbrev pub not_taken : Kind → Header → Bool
not_taken kind h = is_kind kind h || h.packed

-- a grain that the entry table says is zero, and any such grain
unfoldable pub says_zero : Entry → Bool
says_zero Absent = false
says_zero Zero = true
says_zero (Sector e) = false

abbrev pub zero_grain : List ℕ → Header → ℕ → Bool
zero_grain s h g = says_zero (grain_entry s h g)

abbrev pub any_zero : List ℕ → Header → Bool
any_zero s h = any_below (zero_grain s h) (grains_of h)

-- 44: a grain size under 8 or, on the way to COWD, any zero grain
abbrev pub zero_lost : Kind → List ℕ → Header → Bool
zero_lost Kdmv s h = false
zero_lost Cowd s h = any_zero s h

abbrev pub not_movable : Kind → List ℕ → Header → Bool
not_movable kind s h = ltb h.grain_size 8 || zero_lost kind s h

-- ---- the answer, where the output has `room` bytes
-- where the image is accepted: 23, 27, 44, 21
unfoldable pub move_from : Kind → List ℕ → Header → Map → ℕ → Result ℕ Refusal
move_from kind s h m room =
    pick (not_taken kind h) (Err NotCollapsible)
    (pick (still_open h) (Err StillOpen)
    (pick (not_movable kind s h) (Err NotMovable) (written_if_room room (laid_length_as kind h m))))

-- the image's check, which here takes either kind, 23, 27, 44, 21
abbrev pub move_to : Kind → List ℕ → ℕ → Result ℕ Refusal
move_to kind s room = if_accepted (check_of Either s) (move_from kind s (header_of s) (map_of s) room)

-- ---- the output: the image from its start on, and what it held past that; on a refusal all that it held
abbrev pub move_output : Kind → List ℕ → List ℕ → List ℕ
move_output kind s out = output (move_to kind s (length out)) (form_as kind s) out

-- ---- the two calls
abbrev pub to_kdmv : List ℕ → ℕ → Result ℕ Refusal
to_kdmv s room = move_to Kdmv s room

abbrev pub to_kdmv_output : List ℕ → List ℕ → List ℕ
to_kdmv_output s out = move_output Kdmv s out

abbrev pub to_cowd : List ℕ → ℕ → Result ℕ Refusal
to_cowd s room = move_to Cowd s room

abbrev pub to_cowd_output : List ℕ → List ℕ → List ℕ
to_cowd_output s out = move_output Cowd s out
