-- The two layers of the example are accepted, uncompressed, clean KDMV images of capacity 69 and grain size 8.
use mathlib.Core.Path.{refl}
use Rattle.base.specs.Pick.{pick}
use Rattle.base.specs.Rounding.{power_up_to}
use Rattle.base.specs.Numbers.{le_at, le_bytes}
use Rattle.base.specs.Strings.{same_at}
use Rattle.base.specs.Bytes.{zeros}
use Rattle.base.specs.Rows.{rows}
use Rattle.format.specs.Geometry.{grains, directory_entries, directory_sectors}
use Rattle.format.specs.Kdmv.{kdmv_fields, kdmv_fault}
use Rattle.format.specs.Header.{kdmv_header, directory_of, header_of, unless_fault, with_footer, judge_kdmv, judge_of}
use Rattle.format.specs.Entries.{meaning, in_table, entry_of_grain, grain_sectors, any_below}
use Rattle.format.specs.Areas.{if_there, named, redundant_tables, areas, runs_past, shares, shares_any, meet}
use Rattle.format.specs.Check.{misplaced, lowest_from, copies_differ, unless_grain, check_apart, check_copies, check_grains}
use Rattle.format.specs.Check.{check_layout, check_from}
use Rattle.laws.specs.Layers.{Layer, end_to_end}
use Rattle.examples.specs.ExampleLayers.{filled, lower, upper}

pub layers : (Layer 69 8 lower) × (Layer 69 8 upper)
unfolding end_to_end filled lower upper pick power_up_to le_at le_bytes same_at zeros rows grains directory_entries directory_sectors kdmv_fields kdmv_fault kdmv_header directory_of header_of unless_fault with_footer judge_kdmv judge_of meaning in_table entry_of_grain grain_sectors any_below if_there named redundant_tables areas runs_past shares shares_any meet misplaced lowest_from copies_differ unless_grain check_apart check_copies check_grains check_layout check_from
layers = (
  record { accepted = refl; collapsible = refl; clean = refl },
  record { accepted = refl; collapsible = refl; clean = refl },
)
