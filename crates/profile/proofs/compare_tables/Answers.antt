use mathlib.Core.Path.{refl, ◌∙◌}
use native.Mathlib.Omega.{arith}
use Rattle.profile.proofs.EntryTurns.{alike_as}
use Rattle.profile.proofs.TableTurns.{first_sector, entries_room, entry_room, next_small, next_sector, entry_on}
use Rattle.profile.proofs.TableTurns.{entry_not, meant_as, passed_on, tables_done}
use borrow.Author.Rules.{rules}
use Rattle.profile.proofs.compare_tables.Goals as goal

pub loop-g-init : goal.loop-g-init
loop-g-init c = (
  search rules,
  alike_as c.requires _ (omega (arith, c.tables_at-tables.ensures.0)),
  first_sector c.args.image.now c.args.h _ c.sector_v-next.ensures.0,
)

pub number_at-entry-requires : goal.number_at-entry-requires
number_at-entry-requires c = (
  entry_room _ _ _ _ 0 0 c.loop-g.invariant.1 (omega (arith, c.tables_at-tables.ensures.0)) c.grains_of-all.ensures.0
      (omega arith) c.loop-g.invariant.2,
  omega arith,
)

pub first_of_number-place-requires : goal.first_of_number-place-requires
first_of_number-place-requires c = entry_room _ _ _ _ 0 0 c.loop-g.invariant.1 (omega (arith, c.tables_at-tables.ensures.0))
    c.grains_of-all.ensures.0
    (omega arith) c.loop-g.invariant.2

pub returns-then-place-at : goal.returns-then-place-at
returns-then-place-at c = c.not_normal.ensures
    ∙ entry_not _ _ _ _ _ _ c.loop-g.invariant.1 (omega (arith, c.tables_at-tables.ensures.0)) c.grains_of-all.ensures.0
    (omega arith) c.loop-g.invariant.2 c.number_at-entry.ensures.0
    (meant_as _ _ _ _ _ c.entry_meant.ensures c.first_of_number-place.ensures) (omega arith)

pub next_meant-next-requires : goal.next_meant-next-requires
next_meant-next-requires c = next_small _ _ _ _ 0 0 c.loop-g.invariant.1 (omega (arith, c.tables_at-tables.ensures.0))
    c.grains_of-all.ensures.0
    (omega arith) c.loop-g.invariant.2

pub past_absent-g-requires : goal.past_absent-g-requires
past_absent-g-requires c = let room = entries_room _ _ _ _ 0 0 c.loop-g.invariant.1
    (omega (arith, c.tables_at-tables.ensures.0))
    c.grains_of-all.ensures.0 (omega arith) c.loop-g.invariant.2 in
    (omega arith, omega arith)

pub loop-g-smaller : goal.loop-g-smaller
loop-g-smaller c = omega (arith, c.past_absent-g.ensures.low)

pub loop-g-preserved : goal.loop-g-preserved
loop-g-preserved c = let first = c.tables_at-tables.ensures.0 in
    let on = passed_on _ _ _ _ _ (omega (arith, first)) c.grains_of-all.ensures.0 _ _ _ refl c.past_absent-g.ensures (
      entry_on _ _ _ _ _ _ c.loop-g.invariant.1 (omega (arith, first)) c.grains_of-all.ensures.0 (omega arith)
          c.loop-g.invariant.2 c.number_at-entry.ensures.0
          (meant_as _ _ _ _ _ c.entry_meant.ensures c.first_of_number-place.ensures) (omega arith),
      c.next_meant-next.ensures
          ∙ next_sector _ _ _ _ _ 0 c.loop-g.invariant.1 (omega (arith, first)) c.grains_of-all.ensures.0 (omega arith)
          c.loop-g.invariant.2 c.number_at-entry.ensures.0,
    ) in
    (c.past_absent-g.ensures.high, on.0, on.1)

pub compare_gap-requires : goal.compare_gap-requires
compare_gap-requires c = tables_done _ _ _ _ c.loop-g.invariant.1 (omega (arith, c.tables_at-tables.ensures.0))
    c.grains_of-all.ensures.0
    (omega arith) (omega arith) c.loop-g.invariant.2
