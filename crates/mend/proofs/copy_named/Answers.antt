use Rattle.changes.proofs.Unpaired.{none_written}
use Rattle.mend.proofs.CopyLaws.{tables_of_lem, tables_copied}
use Rattle.mend.proofs.copy_named.Goals as goal

pub returns-in_default : goal.returns-in_default
returns-in_default c = none_written _ _ _ _ _ (λ t u e q. c.in_default.not-Sector t e)

pub returns-in_default-other : goal.returns-in_default-other
returns-in_default-other c = none_written _ _ _ _ _ (λ t u e q. c.in_default-other.not-Sector u q)

pub copy_table-requires : goal.copy_table-requires
copy_table-requires c = tables_of_lem _ _ _ _ _ _ c.in-Sector.is c.in-Sector-other.is c.requires

pub returns : goal.returns
returns c = tables_copied _ _ _ _ _ _ c.in-Sector.is c.in-Sector-other.is c.copy_table.ensures
