use mathlib.Core.Path.{◌∙◌}
use native.Mathlib.Omega.{arith}
use Rattle.profile.proofs.Stages.{image_long}
use Rattle.profile.proofs.EntryTurns.{header_on, header_not}
use borrow.Author.Rules.{rules}
use Rattle.profile.proofs.compare_header.Goals as goal

pub first_other-place-requires : goal.first_other-place-requires
first_other-place-requires c = let long = image_long _ _ c.requires in
    omega arith

pub returns-then-place-lt512 : goal.returns-then-place-lt512
returns-then-place-lt512 c = c.not_normal.ensures
    ∙ header_not c.requires _ _ _ c.write_kdmv.ensures (search rules) c.first_other-place.ensures
    (omega arith)

pub compare_directory-requires : goal.compare_directory-requires
compare_directory-requires c = header_on c.requires _ _ _ c.write_kdmv.ensures (search rules) c.first_other-place.ensures
    (omega arith)
