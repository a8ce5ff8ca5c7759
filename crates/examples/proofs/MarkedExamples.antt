-- The examples that document 01 marks, as one statement over a list.
use Prim.Native.Nat.{ℕ}
use mathlib.Core.Path.{◌≡◌, refl}
use mathlib.Core.List.{List, [], ◌∷◌}
use Rattle.base.specs.Pick.{pick}
use Rattle.base.specs.Rounding.{power_up_to}
use Rattle.base.specs.Numbers.{le_at, le_bytes}
use Rattle.base.specs.Strings.{same_at}
use Rattle.base.specs.Bytes.{zeros}
use Rattle.base.specs.Rows.{rows}
use Rattle.format.specs.Geometry.{grains, directory_entries, directory_sectors}
use Rattle.format.specs.Kdmv.{kdmv_fields, kdmv_fault, footer_broken}
use Rattle.format.specs.Cowd.{cowd_fields, cowd_fault}
use Rattle.format.specs.Header.{kdmv_header, cowd_header, directory_of, header_of, grains_of, directory_entries_of}
use Rattle.format.specs.Header.{unless_fault}
use Rattle.format.specs.Header.{with_footer, judge_kdmv, judge_cowd, judge_of}
use Rattle.format.specs.Entries.{meaning, in_table, entry_of_grain, grain_sectors, marker_broken, any_below}
use Rattle.format.specs.Areas.{if_there, named, redundant_tables, areas, runs_past, shares, shares_any, meet}
use Rattle.format.specs.Check.{misplaced, lowest_from, marker_broken_at, copy_differs, copies_differ, unless_grain, check_apart}
use Rattle.format.specs.Check.{check_copies, check_grains, check_layout, check_from, check}
use Rattle.format.specs.Source.{grain_source, lookup_grain, lookup_entry, lookup_table, lookup_in, lookup_from, sector_lookup}
use Rattle.format.specs.Grains.{grain_from, one_if_stored, stored_below}
use Rattle.format.specs.Layout.{table_count, tables_at, tables_end, sector_v, sectors_laid}
use Rattle.format.specs.Collapse.{if_accepted, written_if_room, normal_from, normal}
use Rattle.format.specs.Answers.{verdict, located, written}
use Rattle.format.specs.declared.Kind.TheVariants.{Kdmv}
use Rattle.format.specs.declared.Header.{Header}
use Rattle.examples.specs.Images.{kdmv_sector, cowd_sectors, sample, small}
use Rattle.laws.specs.Layers.{Every, none, more}
use Rattle.std.specs.Prelude.{Result}
use Rattle.format.specs.declared.Shape.{Shape}
use Rattle.format.specs.declared.Source.{Source}
use Rattle.format.specs.declared.Refusal.{Refusal}

-- an example: the numbers that the definitions give, and those of document 01
pub record Example : Type 0 where
  pub gives : List ℕ
  pub wants : List ℕ

abbrev example : List ℕ → List ℕ → Example
example gives wants = record { gives = gives; wants = wants }

-- ---- answers as numbers
-- grains and n
abbrev counted : Header → List ℕ
counted h = grains_of h ∷ directory_entries_of h ∷ []

-- number and place, then capacity and grain size
abbrev checked : Result Shape Refusal → List ℕ
checked a = (verdict a).number ∷ (verdict a).place ∷ (verdict a).capacity ∷ (verdict a).grain_size ∷ []

-- number and place, then the kind of source (0 absent, 2 stored) and its sector
abbrev looked : Result Source Refusal → List ℕ
looked a = (located a).number ∷ (located a).place ∷ (located a).kind ∷ (located a).sector ∷ []

-- number and place, then the result's length
abbrev wrote : Result ℕ Refusal → List ℕ
wrote a = (written a).number ∷ (written a).place ∷ (written a).length ∷ []

-- ---- the examples
abbrev examples : List Example
examples =
    -- KDMV capacity 200, grain 128: 2 grains, n 1; capacity 8,323,072: n 127
    example (counted (header_of (kdmv_sector 200 128 1))) (2 ∷ 1 ∷ [])
    ∷ example (counted (header_of (kdmv_sector 8323072 128 1))) (65024 ∷ 127 ∷ [])
    -- 000's sample: sector 2 is file sector 130, sector 128 absent, sector 256 file sector 256; sector 8,192 refused 20
    ∷ example (looked (sector_lookup sample 2)) (0 ∷ 0 ∷ 2 ∷ 130 ∷ [])
    ∷ example (looked (sector_lookup sample 128)) (0 ∷ 0 ∷ 0 ∷ 0 ∷ [])
    ∷ example (looked (sector_lookup sample 256)) (0 ∷ 0 ∷ 2 ∷ 256 ∷ [])
    ∷ example (looked (sector_lookup sample 8192)) (20 ∷ 0 ∷ 0 ∷ 0 ∷ [])
    -- capacity 16, grain 8, one stored grain: V 8, result 8,192 bytes; output of 8,191 refused 21
    ∷ example (sector_v Kdmv 16 8 ∷ []) (8 ∷ [])
    ∷ example (wrote (normal (small 8 0 0 10) 8192)) (0 ∷ 0 ∷ 8192 ∷ [])
    ∷ example (wrote (normal (small 8 0 0 10) 8191)) (21 ∷ 0 ∷ 0 ∷ [])
    -- COWD capacity 4,097, grain 1: n 2
    ∷ example (counted (header_of (cowd_sectors 4097 1 4 2))) (4097 ∷ 2 ∷ [])
    -- KDMV grain size 4: 6; 12: 6
    ∷ example (checked (check (kdmv_sector 200 4 1))) (6 ∷ 0 ∷ 0 ∷ 0 ∷ [])
    ∷ example (checked (check (kdmv_sector 200 12 1))) (6 ∷ 0 ∷ 0 ∷ 0 ∷ [])
    ∷ []

pub all_right : Every (λ (e : Example). e.gives ≡ e.wants) examples
unfolding pick power_up_to le_at le_bytes same_at zeros rows grains directory_entries directory_sectors kdmv_fields kdmv_fault footer_broken cowd_fields cowd_fault kdmv_header cowd_header directory_of header_of unless_fault with_footer judge_kdmv judge_cowd judge_of meaning in_table entry_of_grain grain_sectors marker_broken any_below if_there named redundant_tables areas runs_past shares shares_any meet misplaced lowest_from marker_broken_at copy_differs copies_differ unless_grain check_apart check_copies check_grains check_layout check_from grain_source lookup_grain lookup_entry lookup_table lookup_in lookup_from grain_from one_if_stored stored_below table_count tables_at tables_end sector_v sectors_laid if_accepted written_if_room normal_from
all_right =
    more refl (more refl (more refl (more refl (more refl
    (more refl (more refl (more refl (more refl (more refl (more refl (more refl none)))))))))))
