use native.Mathlib.Omega.{arith}
use Rattle.changes.proofs.ChangesSteps.{first_below, all_few, good_in, other_in, used_few, good_table_in}
use Rattle.changes.proofs.ChangesSteps.{other_table_in, entry_room, entry_put}
use Rattle.changes.proofs.put_at.Goals as goal

pub overflow_mul-first : goal.overflow_mul-first
overflow_mul-first c = let q = c.requires.sided in omega (
  arith,
  first_below _ _ q.0 _ _ q.1 q.2,
  all_few _ _ q.0 _ _ q.1 q.2,
)

pub overflow_sub-all : goal.overflow_sub-all
overflow_sub-all c = let q = c.requires.sided in omega (arith, first_below _ _ q.0 _ _ q.1 q.2)

pub meaning_at-good-requires : goal.meaning_at-good-requires
meaning_at-good-requires c = search good_in

pub meaning_at-other-requires : goal.meaning_at-other-requires
meaning_at-other-requires c = search other_in

pub returns : goal.returns
returns c = let l = c.requires.sided in entry_put _ _ l.0 _ _ l.1 l.2 _ c.entries_in_use-n.ensures c.meaning_at-good.ensures
    c.meaning_at-other.ensures c.put_named.ensures

pub put_named-requires-clause-n_bound : goal.put_named-requires-clause-n_bound
put_named-requires-clause-n_bound c = let q = c.requires in let l = q.sided in let used = c.entries_in_use-n.ensures in
    let good = c.meaning_at-good.ensures in let other = c.meaning_at-other.ensures in omega (
      arith,
      first_below _ _ l.0 _ _ l.1 l.2,
      all_few _ _ l.0 _ _ l.1 l.2,
      used_few _ _ l.0 _ _ l.1 l.2 _ used,
    )

pub put_named-requires-clause-by_index : goal.put_named-requires-clause-by_index
put_named-requires-clause-by_index c = let q = c.requires in let l = q.sided in let used = c.entries_in_use-n.ensures in
    let good = c.meaning_at-good.ensures in
    let other = c.meaning_at-other.ensures in good_table_in _ _ l.0 _ _ l.1 l.2 _ used good

pub put_named-requires-clause-by_index_2 : goal.put_named-requires-clause-by_index_2
put_named-requires-clause-by_index_2 c = let q = c.requires in let l = q.sided in let used = c.entries_in_use-n.ensures in
    let good = c.meaning_at-good.ensures in
    let other = c.meaning_at-other.ensures in other_table_in _ _ l.0 _ _ l.1 l.2 _ used other

pub put_named-requires-clause-other_in_bounds : goal.put_named-requires-clause-other_in_bounds
put_named-requires-clause-other_in_bounds c = let q = c.requires in let l = q.sided in
    let used = c.entries_in_use-n.ensures in let good = c.meaning_at-good.ensures in
    let other = c.meaning_at-other.ensures in entry_room _ _ l.0 _ _ l.1 l.2 _ used good other _ _ q.d_in_bounds
