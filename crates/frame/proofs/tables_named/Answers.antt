use Rattle.frame.proofs.FrameCounts.{tables_none, tables_more, tables_same}
use mathlib.Core.Path.{◌∙◌}
use native.Mathlib.Omega.{arith}
use borrow.Author.Rules.{rules}
use Rattle.frame.proofs.tables_named.Goals as goal
use Rattle.frame.proofs.tables_named.Goals.{in-Sector, in_default}

pub loop-d-init : goal.loop-d-init
loop-d-init c = (search rules, tables_none _ _ _)

pub loop-d-preserved : goal.loop-d-preserved
loop-d-preserved c =
    elim c.match-meaning_at.branch [
      | in-Sector w ↦ (
        omega arith,
        λ sectors. w.count-is ∙ tables_more _ _ _ _ _ c.loop-d.invariant.1 _ c.meaning_at.ensures _ w.in-Sector.is sectors,
      )
      | in_default w ↦ (
        omega arith,
        λ sectors. w.count-is
            ∙ tables_same _ _ _ _ _ c.loop-d.invariant.1 _ c.meaning_at.ensures w.in_default.not-Sector sectors,
      )
    ]
