-- Chains: refusals 24, 22 and 20, headers from the top down, and the topmost layer not absent.
use Prim.Native.Nat.{ℕ}
use mathlib.Core.List.{List, [], ◌∷◌}
use mathlib.Core.Path.{refl}
use lib.ListN.{replicate}
use Rattle.base.specs.Pick.{pick}
use Rattle.base.specs.Rounding.{power_up_to}
use Rattle.base.specs.Numbers.{le_at, le_bytes}
use Rattle.base.specs.Strings.{same_at}
use Rattle.base.specs.Bytes.{zeros}
use Rattle.format.specs.Geometry.{directory_entries, directory_sectors}
use Rattle.format.specs.Kdmv.{kdmv_fields, kdmv_fault}
use Rattle.format.specs.Header.{kdmv_header, directory_of, header_of, unless_fault, with_footer, judge_kdmv, judge_of}
use Rattle.format.specs.Entries.{meaning, any_below}
use Rattle.format.specs.Source.{lookup_table, lookup_in, lookup_from}
use Rattle.format.specs.Chain.{lengths_sum, if_known, headers_down, unlike, unless_absent, walk_down, walk, chain_lookup}
use Rattle.format.specs.declared.Source.{Source}
use Rattle.format.specs.declared.Source.TheVariants.{Absent, Zero, Stored, Packed}
use Rattle.format.specs.declared.MisplacedPart.TheVariants.{Directory}
use Rattle.format.specs.declared.Refusal.TheVariants.{TooShort, Magic, Misplaced, GrainPast, SectorPast, LayersDiffer}
use Rattle.format.specs.declared.Refusal.TheVariants.{LayerLengths}
use Rattle.examples.specs.Examples.{Example, example, Hold}
use Rattle.examples.specs.Images.{joined, kdmv_sector}
use Rattle.std.specs.Prelude.{Result, Ok, Err}
use Rattle.format.specs.declared.LayerSource.{LayerSource}
use Rattle.format.specs.declared.LayerRefusal.{LayerRefusal}
use Rattle.format.specs.AnswerParts.{refused_at}

-- capacity 8, grain size 8, a directory at sector 1 with one entry: 1,024 bytes
abbrev layer : ℕ → List ℕ
layer entry = joined (kdmv_sector 8 8 1 ∷ le_bytes 4 entry ∷ zeros 508 ∷ [])

-- two of them, base first
abbrev two : ℕ → ℕ → ℕ → Result LayerSource LayerRefusal
two lower upper x = chain_lookup (joined (layer lower ∷ layer upper ∷ [])) (1024 ∷ 1024 ∷ []) x

-- headers alone, of 512 bytes each: a chain of two
abbrev heads : List ℕ → List ℕ → ℕ → Result LayerSource LayerRefusal
heads lower upper x = chain_lookup (joined (lower ∷ upper ∷ [])) (512 ∷ 512 ∷ []) x

-- a source in a layer
abbrev found : ℕ → Source → Result LayerSource LayerRefusal
found k source = Ok (record { layer = k; source = source })

abbrev chains : List (Example (Result LayerSource LayerRefusal))
chains =
    -- 24: 1 to 16 lengths, whose sum is the slice's length
    example (chain_lookup [] [] 0) (refused_at 0 LayerLengths)
    ∷ example (chain_lookup [] (replicate 16 0) 0) (refused_at 15 TooShort)
    ∷ example (chain_lookup [] (replicate 17 0) 0) (refused_at 0 LayerLengths)
    ∷ example (chain_lookup (zeros 4) (3 ∷ []) 0) (refused_at 0 LayerLengths)
    ∷ example (chain_lookup (zeros 4) (5 ∷ []) 0) (refused_at 0 LayerLengths)
    -- a refused header names its layer, the topmost one met
    ∷ example (chain_lookup (zeros 4) (4 ∷ []) 0) (refused_at 0 Magic)
    ∷ example (chain_lookup (zeros 4) (4 ∷ 0 ∷ []) 0) (refused_at 1 TooShort)
    ∷ example (chain_lookup (zeros 4) (0 ∷ 4 ∷ []) 0) (refused_at 1 Magic)
    ∷ example (chain_lookup (joined (zeros 4 ∷ kdmv_sector 8 8 1 ∷ [])) (4 ∷ 512 ∷ []) 0) (refused_at 0 Magic)
    -- 22: capacities or grain sizes differ, in any layer; it comes before 20
    ∷ example (heads (kdmv_sector 8 8 1) (kdmv_sector 9 8 1) 9) (refused_at 0 LayersDiffer)
    ∷ example (heads (kdmv_sector 8 8 1) (kdmv_sector 8 16 1) 9) (refused_at 0 LayersDiffer)
    -- 20 names layer 0; the lookup in the topmost layer names that one
    ∷ example (heads (kdmv_sector 8 8 1) (kdmv_sector 8 8 1) 8) (refused_at 0 SectorPast)
    ∷ example (heads (kdmv_sector 8 8 1) (kdmv_sector 8 8 1) 7) (refused_at 1 (Misplaced Directory))
    -- the topmost layer not absent, else layer 0 and absent
    ∷ example (two 0 0 7) (found 0 Absent)
    ∷ example (two 1 0 7) (found 0 Zero)
    ∷ example (two 0 1 7) (found 1 Zero)
    ∷ example (two 1 1 7) (found 1 Zero)
    ∷ []

pub chains_hold : Hold chains
unfolding pick power_up_to le_at le_bytes same_at zeros directory_entries directory_sectors kdmv_fields kdmv_fault kdmv_header directory_of header_of unless_fault with_footer judge_kdmv judge_of meaning any_below lookup_table lookup_in lookup_from lengths_sum if_known headers_down unlike unless_absent walk_down walk chain_lookup
chains_hold = refl

-- what a layer says of a sector, where the layers below say absent
abbrev layers : List (Example (Result LayerSource LayerRefusal))
layers =
    example (unless_absent 3 (Ok Absent) (found 0 Absent)) (found 0 Absent)
    ∷ example (unless_absent 3 (Ok Zero) (found 0 Absent)) (found 3 Zero)
    ∷ example (unless_absent 3 (Ok (Stored 9)) (found 0 Absent)) (found 3 (Stored 9))
    ∷ example (unless_absent 3 (Ok (Packed 6 500 7)) (found 0 Absent)) (found 3 (Packed 6 500 7))
    ∷ example (unless_absent 3 (Err (GrainPast 5)) (found 0 Absent)) (refused_at 3 (GrainPast 5))
    ∷ []

pub layers_hold : Hold layers
unfolding unless_absent
layers_hold = refl
