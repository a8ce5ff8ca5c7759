use mathlib.Core.Path.{refl}
use native.Mathlib.Omega.{arith}
use Rattle.base.specs.SumsBelow.{sum_below}
use Rattle.format.proofs.Mendable.{sided_placed}
use Rattle.changes.proofs.ChangesSteps.{counted_more, counted_all}
use borrow.Author.Rules.{rules}
use Rattle.changes.proofs.count_changes.Goals as goal

pub grains_of-all-requires : goal.grains_of-all-requires
unfolding sum_below
grains_of-all-requires c = (sided_placed _ _ c.requires).sound.sizes

pub directory_entries-n-requires : goal.directory_entries-n-requires
unfolding sum_below
directory_entries-n-requires c = let q = (sided_placed _ _ c.requires).sound in (q.sizes, q.some, q.few)

pub loop-d-init : goal.loop-d-init
unfolding sum_below
loop-d-init c = (
  omega (
    arith,
    c.directory_entries-n.ensures.1,
    (sided_placed _ _ c.requires
        ).sound.sizes.small,
  ),
  search rules,
  refl,
)

pub loop-d-preserved : goal.loop-d-preserved
unfolding sum_below
loop-d-preserved c = (search rules, search rules, search counted_more)

pub returns : goal.returns
unfolding sum_below
returns c = (search counted_all, search rules)
