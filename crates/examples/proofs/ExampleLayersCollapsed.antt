-- What the two layers of ExampleLayers collapse to, and the normal form of the lower one, byte by byte.
use Prim.Native.Nat.{ℕ, zero, suc, ◌+◌, ◌*◌, ◌≤◌, ◌<◌}
use mathlib.Core.Path.{◌≡◌, refl, sym, ap, ◌∙◌}
use mathlib.Core.List.{List, ◌++◌, append-nil, append_assoc}
use native.Mathlib.Omega.{arith}
use native.Mathlib.Nat.{add-zero, add-suc, mul-suc}
use lib.ListN.{length, drop}
use borrow.Author.Tests.{lt-ltb, le-ltb}
use Rattle.base.specs.Pick.{pick}
use Rattle.base.specs.Numbers.{le_bytes}
use Rattle.base.specs.Bytes.{zeros, over}
use Rattle.base.specs.Rows.{rows, entry_bytes}
use Rattle.base.proofs.Over.{zeros_add}
use Rattle.format.specs.Geometry.{grains, directory_entries, directory_sectors}
use Rattle.format.specs.Grains.{Map, upper_unless_absent, merge, bytes_of, one_if_stored, stored_below, entry_for}
use Rattle.format.specs.Layout.{table_count, tables_at, tables_end, sector_v, sector_of, table_entry, header_bytes}
use Rattle.format.specs.Layout.{directory_bytes}
use Rattle.format.specs.Layout.{table_bytes, gap_bytes, grain_bytes, sectors_laid, layout_of, layout_as}
use Rattle.format.specs.Collapse.{map_of, normal_form, collapsed, written_if_room, collapse, output, collapse_output}
use Rattle.format.specs.declared.Kind.TheVariants.{Kdmv}
use Rattle.format.specs.declared.Refusal.TheVariants.{TooLittleRoom}
use Rattle.format.proofs.Picked.{pick_then, pick_else}
use Rattle.format.proofs.Grains.{onto_self}
use Rattle.laws.proofs.CollapsedMaps.{layout_same}
use Rattle.laws.proofs.CollapsedImages.{collapsed_self, collapsed_is}
use Rattle.laws.proofs.CollapsedAnswer.{layers_collapse}
use Rattle.examples.proofs.ExampleLayers.{layers}
use Rattle.examples.proofs.ExampleLayersMaps.{lower_map, upper_map}
use Rattle.examples.specs.ExampleLayers.{filled, lower, upper, cut, listed, lower_grains, upper_grains, header_sector}
use Rattle.examples.specs.ExampleLayers.{directory_sector, collapsed_table, normal_table, gap_sectors, image, collapsed_grains}
use Rattle.examples.specs.ExampleLayers.{normal_grains}
use Rattle.std.specs.Prelude.{Ok, Err}

-- ---- they are what is written
header_is : (sectors : ℕ) → header_bytes Kdmv 69 8 sectors ≡ header_sector
unfolding header_sector le_bytes zeros rows directory_entries directory_sectors table_count tables_at tables_end sector_v header_bytes
header_is sectors = refl

directory_is : directory_bytes Kdmv 69 8 ≡ directory_sector
unfolding directory_sector pick le_bytes zeros rows directory_entries directory_sectors table_count tables_at directory_bytes
directory_is = refl

gap_is : gap_bytes Kdmv 69 8 ≡ gap_sectors
unfolding gap_sectors directory_entries directory_sectors table_count tables_at tables_end sector_v gap_bytes
gap_is = refl

-- entries that are 0 are zeros
zeros_follow : (e : ℕ → ℕ) (used : ℕ) → ((k : ℕ) → e (used + k) ≡ 0) → (n : ℕ)
    → entry_bytes (used + n) e ≡ entry_bytes used e ++ zeros (4 * n)
unfolding le_bytes zeros rows
zeros_follow e used z zero = rw (add-zero, append-nil)
zeros_follow e used z (suc n) =
    rw (add-suc, zeros_follow e used z n, z n)
    (append_assoc (entry_bytes used e) (zeros (4 * n)) (zeros 4) ∙ rw (zeros_add (4 * n) 4, mul-suc))

-- nine entries are in use
table_is : (m : Map) → table_bytes Kdmv 69 8 m ≡ entry_bytes 9 (table_entry Kdmv 69 8 m) ++ zeros 2012
unfolding grains directory_entries table_count table_bytes
table_is m = zeros_follow (table_entry Kdmv 69 8 m) 9 (λ k. pick_else _ _ _ (le-ltb (9 + k) 9 (omega arith))) 503

laid : (m : Map) (table grains : List ℕ) → entry_bytes 9 (table_entry Kdmv 69 8 m) ++ zeros 2012 ≡ table
    → grain_bytes 69 8 m ≡ grains → layout_of 69 8 m ≡ image table grains
unfolding rows layout_as
laid m table grains t g = λ i. header_is (sectors_laid Kdmv 69 8 m) i ++ directory_is i ++ (table_is m ∙ t) i ++ gap_is i ++ g i

abbrev merged : Map
merged = merge (listed lower_grains) (listed upper_grains)

pub collapsed_bytes : collapsed lower upper ≡ image collapsed_table collapsed_grains
unfolding collapsed_table collapsed_grains filled cut pick le_bytes zeros rows grains directory_entries directory_sectors upper_unless_absent bytes_of one_if_stored stored_below entry_for table_count tables_at tables_end sector_v sector_of grain_bytes
collapsed_bytes =
    collapsed_is layers.0 layers.1
    ∙ layout_same Kdmv 69 8 _ merged (λ g b. rw (lower_map g b, upper_map g b))
    ∙ laid merged collapsed_table collapsed_grains refl refl

pub normal_bytes : normal_form lower ≡ image normal_table normal_grains
unfolding normal_table normal_grains filled cut pick le_bytes zeros rows grains directory_entries directory_sectors bytes_of one_if_stored stored_below entry_for table_count tables_at tables_end sector_v sector_of grain_bytes
normal_bytes =
    sym (collapsed_self layers.0)
    ∙ collapsed_is layers.0 layers.0
    ∙ layout_same Kdmv 69 8 _ (listed lower_grains) (λ g b. onto_self (map_of lower g) ∙ lower_map g b)
    ∙ laid (listed lower_grains) normal_table normal_grains refl refl

-- ---- the call
collapsed_long : length (collapsed lower upper) ≡ 20480
unfolding header_sector directory_sector collapsed_table gap_sectors collapsed_grains filled cut zeros
collapsed_long = ap length collapsed_bytes

answer : (room : ℕ) → collapse lower upper room ≡ written_if_room room 20480
answer room = layers_collapse layers.0 layers.1 room ∙ ap (written_if_room room) collapsed_long

module _ (out : List ℕ) where
  -- where there is room the answer is the length, and the output's bytes past these keep what they held
  pub collapse_writes : 20480 ≤ length out → (collapse lower upper (length out) ≡ Ok 20480)
      × (collapse_output lower upper out ≡ image collapsed_table collapsed_grains ++ drop 20480 out)
  unfolding over output written_if_room
  collapse_writes h =
      let e : collapse lower upper (length out) ≡ Ok 20480 = answer _ ∙ pick_else _ _ _ (le-ltb _ _ h) in
      (e, rw (e, collapsed_long, collapsed_bytes))

  -- one byte short, or more, it is 21, and nothing changes
  pub collapse_refuses : length out < 20480 → (collapse lower upper (length out) ≡ Err TooLittleRoom)
      × (collapse_output lower upper out ≡ out)
  unfolding output written_if_room
  collapse_refuses h =
      let e : collapse lower upper (length out) ≡ Err TooLittleRoom = answer _ ∙ pick_then _ _ _ (lt-ltb _ _ h) in
      (e, rw e)
