-- `take_entry`: an entry that names nothing, or one area.
use borrow.Author.Rules.{rules}
use Rattle.named.proofs.Named.{entry_read, entry_end, area_none, area_one}
use Rattle.named.proofs.take_entry.Goals as goal

pub returns-then-e-least : goal.returns-then-e-least
returns-then-e-least g c = (
  c.requires.ready.0,
  rw (area_none _ _ _ _ _ _ _ c.entry_at-e.ensures.0 c.if-e-least.true) (g.met.T.Taker.none _),
)

pub grain_sectors-sectors-requires : goal.grain_sectors-sectors-requires
grain_sectors-sectors-requires g c = entry_read _ _ _ _ _ _ _ c.entry_at-e.ensures.0 c.requires.ready.2 c.requires.k_value
    c.if-e-least.false

pub take-requires : goal.take-requires
take-requires g c = (c.requires.ready.0, search (entry_end, rules))

pub returns : goal.returns
returns g c = (
  c.take.ensures.0,
  rw (area_one _ _ _ _ _ _ _ c.entry_at-e.ensures.0 _ c.if-e-least.false c.grain_sectors-sectors.ensures) c.take.ensures.1,
)
