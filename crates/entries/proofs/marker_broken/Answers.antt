use borrow.Author.Tests.{ne_eqb}
use Rattle.format.specs.Entries.{marker_broken}
use Rattle.entries.proofs.marker_broken.Goals as goal

pub returns-then-marker_size-eq0 : goal.returns-then-marker_size-eq0
unfolding marker_broken
returns-then-marker_size-eq0 c = rw (← c.marker_size.ensures.0, c.if-marker_size-eq0.true)

pub returns-else-marker_size-eq0 : goal.returns-else-marker_size-eq0
unfolding marker_broken
returns-else-marker_size-eq0 c = rw (
  ← c.marker_size.ensures.0,
  ne_eqb c.marker_size.result 0 c.if-marker_size-eq0.false,
  c.number_at.ensures.0,
)
