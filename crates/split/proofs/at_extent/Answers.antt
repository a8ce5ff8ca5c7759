use Rattle.std.proofs.Common.{sym, arith}
use Rattle.split.proofs.FoundExtents.{found_listed, found_first, found_sector, found_at_lem, found_past}
use Rattle.split.proofs.at_extent.Goals as goal

pub overflow_sub-sector : goal.overflow_sub-sector
overflow_sub-sector c =
    omega (arith, found_first c.args.extents.now c.args.sector c.in-Some.i (sym c.in-Some.ensures))

pub in_file-requires : goal.in_file-requires
in_file-requires c =
    let e = sym c.in-Some.ensures in
    (c.requires.0, found_listed _ _ _ e _ c.requires.1, found_sector _ _ _ e)

pub returns-in-Some : goal.returns-in-Some
returns-in-Some c = found_at_lem _ _ _ (sym c.in-Some.ensures) _ _ _ c.in_file.ensures

pub returns-in-None : goal.returns-in-None
returns-in-None c = found_past _ _ _ _ (sym c.in-None.ensures)
