use mathlib.Core.Path.{◌∙◌}
use borrow.Author.Tests.{le-leb}
use Rattle.entries.proofs.EntriesRead.{past_out}
use Rattle.entries.proofs.grain_past.Goals as goal

pub returns-then-f-e : goal.returns-then-f-e
returns-then-f-e c = let a = c.args in let l = c.if-f-e.true in
    le-leb _ _ l ∙ past_out a.image.now a.packed a.size a.e c.requires _ c.file_sectors-f.ensures l
