use Rattle.lookup.proofs.LookupLaws.{entry_as}
use Rattle.format.specs.Source.{lookup_entry}
use Rattle.lookup.proofs.grain.lookup_entry.Goals as goal

pub returns-in-Absent : goal.returns-in-Absent
unfolding lookup_entry
returns-in-Absent c = search entry_as

pub returns-in-Zero : goal.returns-in-Zero
unfolding lookup_entry
returns-in-Zero c = search entry_as

pub returns-in-Sector : goal.returns-in-Sector
unfolding lookup_entry
returns-in-Sector c = search entry_as
