-- The profile: refusals 23, 27, 47 and 42 in their order, 42's place on both sides of each edge, and how long a profile image
-- is at least.
use Prim.Native.Nat.{ℕ}
use mathlib.Core.List.{List, [], ◌∷◌}
use mathlib.Core.Path.{refl}
use mathlib.Core.Bool.{Bool, true, false}
use Rattle.base.specs.Pick.{pick}
use Rattle.base.specs.Strings.{same_at}
use Rattle.base.specs.Bytes.{zeros}
use Rattle.format.specs.Geometry.{grains, directory_entries, directory_sectors}
use Rattle.format.specs.Header.{judge_of}
use Rattle.format.specs.Check.{check_from}
use Rattle.format.specs.Grains.{all_absent, one_if_stored, stored_below}
use Rattle.format.specs.Layout.{table_count, tables_at, tables_end, sector_v, sectors_laid, layout_length}
use Rattle.format.specs.Profile.{same_file, first_difference, profile_form, profile_from, profile_if_accepted, profile}
use Rattle.format.specs.Answers.{number, place}
use Rattle.format.specs.declared.Kind.TheVariants.{Kdmv}
use Rattle.format.specs.declared.Header.{Header}
use Rattle.format.specs.declared.Refusal.TheVariants.{TooShort, Magic, NotCollapsible, StillOpen, NotNormal, ProfileSizes}
use Rattle.examples.specs.Examples.{Example, example, Hold}
use Rattle.examples.specs.Images.{sized_header, open_header, stream_header}
use Rattle.std.specs.Prelude.{Result, Err}
use Rattle.format.specs.declared.Shape.{Shape}
use Rattle.format.specs.declared.Refusal.{Refusal}
use Rattle.format.specs.AnswerParts.{accepted_as}

-- ---- answers
abbrev answers : List (Example (Result Shape Refusal))
answers =
    -- the image's check comes first
    example (profile []) (Err TooShort)
    ∷ example (profile (zeros 4)) (Err Magic)
    ∷ example (profile_if_accepted (Err Magic) (accepted_as 128 128)) (Err Magic)
    ∷ example (profile_if_accepted (accepted_as 128 128) (Err ProfileSizes)) (Err ProfileSizes)
    -- 23: compressed; it comes before 27, 47 and 42
    ∷ example (profile_from (stream_header 1) [] (7 ∷ [])) (Err NotCollapsible)
    -- 27: any number but 0; it comes before 47 and 42
    ∷ example (profile_from (open_header 128 128 1) (7 ∷ []) (7 ∷ [])) (Err StillOpen)
    ∷ example (profile_from (open_header 129 64 255) [] (7 ∷ [])) (Err StillOpen)
    -- 47: another grain size, a capacity that is no multiple of 128, or both; it comes before 42
    ∷ example (profile_from (sized_header 128 64) (7 ∷ []) (7 ∷ [])) (Err ProfileSizes)
    ∷ example (profile_from (sized_header 256 256) (7 ∷ []) (7 ∷ [])) (Err ProfileSizes)
    ∷ example (profile_from (sized_header 127 128) (7 ∷ []) (7 ∷ [])) (Err ProfileSizes)
    ∷ example (profile_from (sized_header 129 128) (7 ∷ []) (7 ∷ [])) (Err ProfileSizes)
    ∷ example (profile_from (sized_header 64 128) (7 ∷ []) (7 ∷ [])) (Err ProfileSizes)
    ∷ example (profile_from (sized_header 129 64) [] (7 ∷ [])) (Err ProfileSizes)
    -- 42: the first byte that differs, or the shorter length
    ∷ example (profile_from (sized_header 128 128) (7 ∷ 9 ∷ []) (7 ∷ 8 ∷ [])) (Err (NotNormal 1))
    ∷ example (profile_from (sized_header 128 128) (7 ∷ 9 ∷ []) (7 ∷ [])) (Err (NotNormal 1))
    ∷ example (profile_from (sized_header 128 128) (7 ∷ []) (7 ∷ 9 ∷ [])) (Err (NotNormal 1))
    ∷ example (profile_from (sized_header 0x80000000 128) [] (0 ∷ [])) (Err (NotNormal 0))
    -- met
    ∷ example (profile_from (sized_header 128 128) (7 ∷ 9 ∷ []) (7 ∷ 9 ∷ [])) (accepted_as 128 128)
    ∷ example (profile_from (sized_header 0x80000000 128) (7 ∷ []) (7 ∷ [])) (accepted_as 0x80000000 128)
    ∷ []

pub profiles_answered : Hold answers
unfolding pick zeros same_at judge_of check_from same_file first_difference profile_form profile_from profile_if_accepted
profiles_answered = refl

-- ---- two files
abbrev files : List (Example Bool)
files =
    example (same_file [] []) true
    ∷ example (same_file (7 ∷ 9 ∷ []) (7 ∷ 9 ∷ [])) true
    -- the last byte, the first, and lengths
    ∷ example (same_file (7 ∷ 9 ∷ []) (7 ∷ 8 ∷ [])) false
    ∷ example (same_file (6 ∷ 9 ∷ []) (7 ∷ 9 ∷ [])) false
    ∷ example (same_file [] (0 ∷ [])) false
    ∷ example (same_file (7 ∷ 0 ∷ []) (7 ∷ [])) false
    ∷ []

pub files_compared : Hold files
unfolding same_file
files_compared = refl

-- ---- places and numbers
abbrev numbers : List (Example ℕ)
numbers =
    -- the first of two that differ, the last byte, and the byte before
    example (first_difference (6 ∷ 8 ∷ 9 ∷ []) (7 ∷ 8 ∷ 8 ∷ [])) 0
    ∷ example (first_difference (7 ∷ 8 ∷ 9 ∷ []) (7 ∷ 9 ∷ 8 ∷ [])) 1
    ∷ example (first_difference (7 ∷ 8 ∷ 9 ∷ []) (7 ∷ 8 ∷ 8 ∷ [])) 2
    -- one is a start of the other, also where what follows is zero
    ∷ example (first_difference (7 ∷ 9 ∷ []) (7 ∷ 9 ∷ 0 ∷ [])) 2
    ∷ example (first_difference (7 ∷ 9 ∷ 0 ∷ 0 ∷ []) (7 ∷ 9 ∷ [])) 2
    ∷ example (first_difference [] (0 ∷ [])) 0
    ∷ example (first_difference (0 ∷ []) []) 0
    -- a byte differs before the shorter one ends
    ∷ example (first_difference (7 ∷ 8 ∷ []) (7 ∷ 9 ∷ 0 ∷ [])) 1
    -- 42 with its place, and 47 with none
    ∷ example (number (NotNormal 0xffffffffffffffff)) 42
    ∷ example (place (NotNormal 0xffffffffffffffff)) 0xffffffffffffffff
    ∷ example (place (NotNormal 0)) 0
    ∷ example (number ProfileSizes) 47
    ∷ example (place ProfileSizes) 0
    -- one absent grain: header, directory and table, and the gap up to V, which is 128
    ∷ example (tables_end Kdmv 128 128) 6
    ∷ example (sector_v Kdmv 128 128) 128
    ∷ example (layout_length 128 128 all_absent) 65536
    ∷ []

pub profile_numbers : Hold numbers
unfolding pick grains directory_entries directory_sectors one_if_stored stored_below table_count tables_at tables_end sector_v sectors_laid first_difference
profile_numbers = refl
