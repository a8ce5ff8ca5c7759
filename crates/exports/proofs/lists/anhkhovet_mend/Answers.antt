use Rattle.exports.proofs.lists.anhkhovet_mend.Goals as goal

pub returns : goal.returns
returns c =
    let told = c.mend.ensures in
    rw (← c.from-side.ensures) (rw (c.from.ensures, told.value), (told.image_after, told.changes_after))
