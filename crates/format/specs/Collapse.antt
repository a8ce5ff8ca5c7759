-- Collapse of a lower and an upper image, and the normal form of one.
use Rattle.std.specs.Prelude.{ℕ, List, Bool, not, ◌||◌, ltb, eqb, length}
use Rattle.base.specs.Pick.{pick}
use Rattle.base.specs.Bytes.{over}
use Rattle.format.specs.Header.{header_of}
use Rattle.format.specs.Check.{check}
use Rattle.format.specs.Chain.{unlike}
use Rattle.format.specs.Grains.{Map, merge, grain_map}
use Rattle.format.specs.Layout.{layout_of, layout_length}
use Rattle.format.specs.declared.Header.{Header}
use Rattle.format.specs.declared.Refusal.TheVariants.{TooLittleRoom, LayersDiffer, NotCollapsible, StillOpen}
use Rattle.std.specs.Prelude.{Result, Ok, Err}
use Rattle.format.specs.declared.Shape.{Shape}
use Rattle.format.specs.declared.Refusal.{Refusal}

-- ---- the images: the layout of the map, or of the two maps merged
-- the map of an uncompressed image; 23 refuses any other before its map counts
abbrev pub map_of : List ℕ → Map
map_of s = grain_map s (header_of s)

-- the layout of a map, of an image's capacity and grain size, and its length
abbrev pub laid_out : Header → Map → List ℕ
laid_out h m = layout_of h.capacity h.grain_size m

abbrev pub laid_length : Header → Map → ℕ
laid_length h m = layout_length h.capacity h.grain_size m

abbrev pub normal_form : List ℕ → List ℕ
normal_form s = laid_out (header_of s) (map_of s)

-- the lower's capacity and grain size: after 22 they are the upper's too
abbrev pub collapsed : List ℕ → List ℕ → List ℕ
collapsed lower upper = laid_out (header_of lower) (merge (map_of lower) (map_of upper))

-- ---- answers, where the output has `room` bytes
unfoldable pub if_accepted : Result Shape Refusal → Result ℕ Refusal → Result ℕ Refusal
if_accepted (Err r) a = Err r
if_accepted (Ok sizes) a = a

-- 23: flag 0x10000
abbrev pub not_collapsible : Header → Bool
not_collapsible h = h.packed

-- 27: the disk was still open, whatever number but 0 says so
abbrev pub still_open : Header → Bool
still_open h = not (eqb h.dirty 0)

-- 21: the output is too short
unfoldable pub written_if_room : ℕ → ℕ → Result ℕ Refusal
written_if_room room long = pick (ltb room long) (Err TooLittleRoom) (Ok long)

-- where the image is accepted: 23, 27, 21
unfoldable pub normal_from : Header → Map → ℕ → Result ℕ Refusal
normal_from h m room =
    pick (not_collapsible h) (Err NotCollapsible)
    (pick (still_open h) (Err StillOpen) (written_if_room room (laid_length h m)))

-- the check, 23, 27, 21
abbrev pub normal : List ℕ → ℕ → Result ℕ Refusal
normal s room = if_accepted (check s) (normal_from (header_of s) (map_of s) room)

-- where both images are accepted: 23, 22, 27, 21
unfoldable pub collapse_from : Header → Header → Map → ℕ → Result ℕ Refusal
collapse_from lower upper m room =
    pick (not_collapsible lower || not_collapsible upper) (Err NotCollapsible)
    (pick (unlike lower upper) (Err LayersDiffer)
    (pick (still_open lower || still_open upper) (Err StillOpen) (written_if_room room (laid_length lower m))))

-- the lower's check, the upper's check, 23, 22, 27, 21
abbrev pub collapse : List ℕ → List ℕ → ℕ → Result ℕ Refusal
collapse lower upper room =
    if_accepted (check lower)
    (if_accepted (check upper) (collapse_from (header_of lower) (header_of upper) (merge (map_of lower) (map_of upper)) room))

-- ---- the output: the image from its start on, and what it held past that; on a refusal all that it held
unfoldable pub output : Result ℕ Refusal → List ℕ → List ℕ → List ℕ
output (Ok long) image out = over out 0 image
output (Err r) image out = out

abbrev pub normal_output : List ℕ → List ℕ → List ℕ
normal_output s out = output (normal s (length out)) (normal_form s) out

abbrev pub collapse_output : List ℕ → List ℕ → List ℕ → List ℕ
collapse_output lower upper out = output (collapse lower upper (length out)) (collapsed lower upper) out
