use mathlib.Core.Path.{refl}
use native.Mathlib.Omega.{arith}
use Rattle.format.proofs.Mendable.{sided_placed}
use Rattle.mend.proofs.CopyLaws.{entries_of_lem, entry_copied, none_copied, all_copied, copied_long}
use Rattle.mend.proofs.copy_tables.Goals as goal

pub grains_of-all-requires : goal.grains_of-all-requires
grains_of-all-requires c = (sided_placed _ _ c.requires.0).sound.sizes

pub directory_entries-n-requires : goal.directory_entries-n-requires
directory_entries-n-requires c = let q = (sided_placed _ _ c.requires.0).sound in (q.sizes, q.some, q.few)

pub loop-d-init : goal.loop-d-init
loop-d-init c = (refl, none_copied _ _)

pub copy_at-requires : goal.copy_at-requires
copy_at-requires c = entries_of_lem _ _ c.requires.0 c.requires.1 _ _ c.grains_of-all.ensures.0 (omega (
  arith,
  c.directory_entries-n.ensures.0,
)) _ c.loop-d.invariant.1

pub loop-d-preserved : goal.loop-d-preserved
loop-d-preserved c = let next = entry_copied _ _ c.requires.0 c.requires.1 _ _ c.grains_of-all.ensures.0 (omega (
  arith,
  c.directory_entries-n.ensures.0,
)) _ _ c.loop-d.invariant.1 c.copy_at.ensures in (
  copied_long _ _ c.requires.0 _ _ next (omega (arith, c.directory_entries-n.ensures.0)),
  next,
)

pub returns : goal.returns
returns c = search all_copied
