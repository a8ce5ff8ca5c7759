use Rattle.moves.proofs.MoveSteps.{not_taken_lem, not_clean, then_sized, read_taken}
use Rattle.moves.proofs.move_accepted.Goals as goal

pub returns-then-not_taken : goal.returns-then-not_taken
returns-then-not_taken c = let a = c.args in
    not_taken_lem a.kind a.image.now a.h _ _ _ c.not_taken.ensures c.if-not_taken.true

pub returns-then-still_open : goal.returns-then-still_open
returns-then-still_open c = let a = c.args in
    not_clean a.kind a.image.now a.h _ _ _ c.not_taken.ensures c.if-not_taken.false
    c.still_open.ensures c.if-still_open.true

pub move_sized-requires : goal.move_sized-requires
move_sized-requires c = read_taken c.args.kind _ c.args.h c.requires c.not_taken.ensures c.if-not_taken.false

pub returns : goal.returns
returns c = let a = c.args in
    then_sized a.kind a.image.now a.h _ _ _ c.not_taken.ensures c.if-not_taken.false
    c.still_open.ensures c.if-still_open.false c.move_sized.ensures
