use Rattle.split.proofs.lengths_broken.Goals as goal

pub returns : goal.returns
returns c = rw c.sum_is-all.ensures
