use Rattle.format.proofs.HeaderSound.{sound_of}
use Rattle.mend.proofs.MendSteps.{misplaced_told, single_told, sided_of, sided_told}
use Rattle.mend.proofs.mend_known.Goals as goal

pub misplaced-requires : goal.misplaced-requires
misplaced-requires c = search sound_of

pub lowest_misplaced-requires : goal.lowest_misplaced-requires
lowest_misplaced-requires c = search sound_of

pub returns-then-misplaced : goal.returns-then-misplaced
returns-then-misplaced c = search misplaced_told

pub returns-then-h-eq0 : goal.returns-then-h-eq0
returns-then-h-eq0 c = single_told _ _ _ _ c.misplaced.ensures c.if-misplaced.false c.if-h-eq0.true

pub mend_good-requires : goal.mend_good-requires
mend_good-requires c = sided_of _ _ _ c.args.list.now c.misplaced.ensures c.if-misplaced.false c.if-h-eq0.false
    c.from_good-g.ensures c.requires

pub returns : goal.returns
returns c = sided_told _ _ _ _ c.misplaced.ensures c.if-misplaced.false c.if-h-eq0.false c.from_good-g.ensures
    c.mend_good.ensures
