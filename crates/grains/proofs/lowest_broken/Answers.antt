use Prim.Native.Nat.{◌*◌}
use mathlib.Core.Path.{◌≡◌, refl}
use native.Mathlib.Omega.{arith}
use native.Mathlib.Nat.{add-zero}
use borrow.Author.Rules.{rules}
use Rattle.base.proofs.Rounding.{next_base}
use Rattle.format.proofs.PlacesKept.{grains_left}
use Rattle.grains.proofs.GrainsLeft.{left_start, left_table, left_end}
use Rattle.grains.proofs.GrainsWalk.{directory_in, no_table, table_named, table_in, entry_filed}
use Rattle.grains.proofs.GrainsWalk.{zeros_passed, walk_here, walk_more, walk_none}
use Rattle.grains.proofs.lowest_broken.Goals as goal
use Rattle.grains.proofs.lowest_broken.Goals.{in-Sector+else-loop-next-test, in_default}

pub loop-d-init : goal.loop-d-init
loop-d-init c = let e : 0 * c.args.h.entries_per_table ≡ 0 = omega arith in rw e (left_start _ _)

pub meaning_at-table-requires : goal.meaning_at-table-requires
meaning_at-table-requires c = directory_in _ _ _ _ refl _ c.requires.placed c.grains_of-all.ensures.0
    (grains_left _ _ c.requires.placed _ c.directory_entries-n.ensures.0 _ c.grains_of-all.ensures.0 _ c.loop-d-test.true)

pub overflow_sub-all : goal.overflow_sub-all
overflow_sub-all c = let b = grains_left _ _ c.requires.placed _ c.directory_entries-n.ensures.0 _ c.grains_of-all.ensures.0 _
    c.loop-d-test.true in omega (arith, b)

pub loop-next-init : goal.loop-next-init
loop-next-init c = let b = grains_left _ _ c.requires.placed _ c.directory_entries-n.ensures.0 _ c.grains_of-all.ensures.0 _
    c.loop-d-test.true in (
      search rules,
      table_named _ _ _ _ refl _ c.meaning_at-table.ensures _ _ _ c.in-Sector.is c.requires.placed c.grains_of-all.ensures.0 b
          c.entries_in_use-used.ensures,
      rw add-zero c.loop-d.invariant,
    )

pub past_zeros-from-requires : goal.past_zeros-from-requires
past_zeros-from-requires c = (c.loop-next.invariant.0, c.loop-next.invariant.1.reads)

pub loop-k-init : goal.loop-k-init
loop-k-init c = let i = c.loop-next.invariant in let z = c.past_zeros-from.ensures in (
  omega arith,
  omega (arith, z.high, c.block_entries.ensures),
  i.1,
  zeros_passed _ _ _ i.1 i.2 z,
)

pub loop-next-preserved : goal.loop-next-preserved
loop-next-preserved c = let i = c.loop-k.invariant in (i.1, i.2, left_end _ _ _ _ _ i.3 (omega arith) (omega arith))

pub meaning_at-entry-requires : goal.meaning_at-entry-requires
meaning_at-entry-requires c = let i = c.loop-k.invariant in table_in i.2 i.1 c.loop-k-test.true

pub entry_broken-requires-clause-value : goal.entry_broken-requires-clause-value
entry_broken-requires-clause-value c = let i = c.loop-k.invariant in entry_filed i.2 i.1 c.loop-k-test.true _
    c.meaning_at-entry.ensures c.grains_of-all.ensures.0 c.requires.by_index

pub returns-then-entry_broken : goal.returns-then-entry_broken
returns-then-entry_broken c = let i = c.loop-k.invariant in walk_here i.2 i.1 c.loop-k-test.true _ c.meaning_at-entry.ensures
    c.entry_broken.ensures i.3 c.if-entry_broken.true c.grains_of-all.ensures.0

pub loop-k-preserved : goal.loop-k-preserved
loop-k-preserved c = let i = c.loop-k.invariant in (
  i.0,
  i.1,
  i.2,
  walk_more i.2 i.1 c.loop-k-test.true _ c.meaning_at-entry.ensures c.entry_broken.ensures i.3 c.if-entry_broken.false,
)

pub loop-d-preserved : goal.loop-d-preserved
loop-d-preserved c = let b = grains_left _ _ c.requires.placed _ c.directory_entries-n.ensures.0 _ c.grains_of-all.ensures.0 _
    c.loop-d-test.true in rw (← next_base _ c.loop-d.d _ refl)
    (elim c.match-table.branch [
      | in-Sector+else-loop-next-test w ↦ let i = w.loop-next.invariant in left_table _ _ _ _ _ _ i.2 b i.0
          w.loop-next-test.false w.entries_in_use-used.ensures
      | in_default w ↦ no_table c.args.image.now c.args.h c.loop-d.d _ refl _ c.meaning_at-table.ensures _ _
          c.loop-d.invariant w.in_default.not-Sector
    ])

pub returns : goal.returns
returns c = walk_none _ _ _ _ _ _ c.requires.placed c.grains_of-all.ensures.0 c.directory_entries-n.ensures.0
    c.loop-d.auto.d-end c.loop-d-test.false c.loop-d.invariant
