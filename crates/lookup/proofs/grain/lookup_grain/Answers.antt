use Rattle.entries.proofs.EntriesRead.{grain_read}
use Rattle.format.specs.Source.{lookup_grain}
use Rattle.base.proofs.Steps.{steps}
use borrow.Author.Rules.{rules}
use Rattle.lookup.proofs.grain.lookup_grain.Goals as goal

pub returns-then-grain_past : goal.returns-then-grain_past
unfolding lookup_grain
returns-then-grain_past c = search steps

pub bad_marker-requires : goal.bad_marker-requires
unfolding lookup_grain
bad_marker-requires c = (search grain_read, search rules, search rules)

pub returns-then-bad_marker : goal.returns-then-bad_marker
unfolding lookup_grain
returns-then-bad_marker c = search steps

pub grain_source-requires : goal.grain_source-requires
unfolding lookup_grain
grain_source-requires c = (search grain_read, search rules)

pub returns : goal.returns
unfolding lookup_grain
returns c = search steps
