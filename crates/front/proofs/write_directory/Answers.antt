use Rattle.layout.proofs.PartSizes.{directory_ends}
use Rattle.layout.proofs.Padded.{directory_join}
use native.Mathlib.Omega.{arith}
use Rattle.front.proofs.write_directory.Goals as goal

pub put_directory-requires : goal.put_directory-requires
put_directory-requires c = let fits = directory_ends _ _ _ _ _ _ c.head_sectors-from.ensures.0 c.tables_of-n.ensures.0
    c.tables_at-first.ensures.0 in
    (omega arith, omega arith, omega arith, omega arith)

pub overflow_sub-first : goal.overflow_sub-first
overflow_sub-first c = let fits = directory_ends _ _ _ _ _ _ c.head_sectors-from.ensures.0 c.tables_of-n.ensures.0
    c.tables_at-first.ensures.0 in
    omega arith

pub fill-requires : goal.fill-requires
fill-requires c = let fits = directory_ends _ _ _ _ _ _ c.head_sectors-from.ensures.0 c.tables_of-n.ensures.0
    c.tables_at-first.ensures.0 in
    omega arith

pub returns : goal.returns
returns c = let fits = directory_ends _ _ _ _ _ _ c.head_sectors-from.ensures.0 c.tables_of-n.ensures.0
    c.tables_at-first.ensures.0 in
    directory_join _ _ _ _ _ _ _ _ _ _ c.fill.ensures c.put_directory.ensures
    c.head_sectors-from.ensures.0 c.sectors_per_table.ensures.0 c.tables_of-n.ensures.0
    c.tables_at-first.ensures.0 (omega arith)
