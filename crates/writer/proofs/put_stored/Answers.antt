use Rattle.format.specs.Grains.{one_if_stored}
use mathlib.Core.Path.{refl}
use Rattle.writer.proofs.GrainPut.{grain_lent, stored_put}
use borrow.Author.Rules.{rules}
use Rattle.writer.proofs.put_stored.Goals as goal

pub write_grain-requires : goal.write_grain-requires
unfolding one_if_stored
write_grain-requires c = search rules

pub returns : goal.returns
unfolding one_if_stored
returns c = let a = c.args in
    stored_put _ _ _ _ _ _ _ refl (grain_lent _ _ _ a.e a.image.now _ _ _ _ c.put_number.ensures
    c.write_grain.ensures)
