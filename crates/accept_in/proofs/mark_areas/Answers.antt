-- `mark_areas`: words cleared, marked, counted and cleared again.
use Rattle.accept_in.proofs.CountedRun.{marked_told}
use Rattle.accept_in.proofs.mark_areas.Goals as goal

pub returns : goal.returns
returns c = let p = c.requires in
    marked_told _ _ _ _ _ _ _ _ p.1 p.0.inside c.clear.ensures c.mark_all-met.ensures c.empty-marked.ensures
