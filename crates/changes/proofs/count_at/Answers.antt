use native.Mathlib.Omega.{arith}
use Rattle.changes.proofs.ChangesSteps.{first_below, all_few, good_in, other_in, used_few, good_table_in}
use Rattle.changes.proofs.ChangesSteps.{other_table_in, entry_counted}
use Rattle.changes.proofs.count_at.Goals as goal

pub overflow_mul-d : goal.overflow_mul-d
overflow_mul-d c = let q = c.requires in omega (
  arith,
  first_below _ _ q.0 _ _ q.1 q.2,
  all_few _ _ q.0 _ _ q.1 q.2,
)

pub overflow_sub-all : goal.overflow_sub-all
overflow_sub-all c = let q = c.requires in omega (arith, first_below _ _ q.0 _ _ q.1 q.2)

pub meaning_at-good-requires : goal.meaning_at-good-requires
meaning_at-good-requires c = search good_in

pub meaning_at-other-requires : goal.meaning_at-other-requires
meaning_at-other-requires c = search other_in

pub returns : goal.returns
returns c = let q = c.requires in entry_counted _ _ q.0 _ _ q.1 q.2 _ c.entries_in_use-n.ensures c.meaning_at-good.ensures
    c.meaning_at-other.ensures c.count_named.ensures

pub count_named-requires-clause-n_bound : goal.count_named-requires-clause-n_bound
count_named-requires-clause-n_bound c = let q = c.requires in omega (
  arith,
  used_few _ _ q.0 _ _ q.1 q.2 _ c.entries_in_use-n.ensures,
)

pub count_named-requires-clause-by_index : goal.count_named-requires-clause-by_index
count_named-requires-clause-by_index c = let q = c.requires in search good_table_in

pub count_named-requires-clause-by_index_2 : goal.count_named-requires-clause-by_index_2
count_named-requires-clause-by_index_2 c = let q = c.requires in search other_table_in
