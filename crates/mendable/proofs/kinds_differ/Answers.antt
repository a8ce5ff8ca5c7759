use Rattle.mendable.proofs.MendableLaws.{both_absent, both_zero, both_named, absent_alone, zero_alone, named_alone}
use Rattle.mendable.proofs.kinds_differ.Goals as goal
use Rattle.mendable.proofs.kinds_differ.Goals.{in_default, in_default-2, in_default-3}
use Rattle.mendable.proofs.kinds_differ.Goals.{in-Absent-Absent, in-Absent-Absent-2, in-Absent-Absent-3}

pub returns : goal.returns
returns c =
    elim c.match-matches.branch [
      | in_default w ↦ search (absent_alone, zero_alone, named_alone)
      | in_default-2 w ↦ search (absent_alone, zero_alone, named_alone)
      | in_default-3 w ↦ search (absent_alone, zero_alone, named_alone)
      | in-Absent-Absent w ↦ search (both_absent, both_zero, both_named)
      | in-Absent-Absent-2 w ↦ search (both_absent, both_zero, both_named)
      | in-Absent-Absent-3 w ↦ search (both_absent, both_zero, both_named)
    ]
