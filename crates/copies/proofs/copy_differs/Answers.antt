use Rattle.copies.proofs.CopiesLaws.{both_absent, both_zero, both_named, absent_alone, zero_alone, named_alone}
use Rattle.copies.proofs.copy_differs.Goals as goal

pub returns-in-Absent-Absent : goal.returns-in-Absent-Absent
returns-in-Absent-Absent c = search (both_absent, both_zero)

pub returns-in-Absent-Absent-2 : goal.returns-in-Absent-Absent-2
returns-in-Absent-Absent-2 c = search (both_absent, both_zero)

pub returns-in-Sector-Sector : goal.returns-in-Sector-Sector
returns-in-Sector-Sector c = search both_named

pub returns-in_default : goal.returns-in_default
returns-in_default c = search absent_alone

pub returns-in_default-2 : goal.returns-in_default-2
returns-in_default-2 c = search zero_alone

pub returns-in_default-3 : goal.returns-in_default-3
returns-in_default-3 c = search named_alone
