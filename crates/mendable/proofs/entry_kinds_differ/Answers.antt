use Rattle.mendable.proofs.entry_kinds_differ.Goals as goal

pub returns : goal.returns
returns c = rw (c.kinds_differ.ensures, c.meaning_at-other.ensures, c.meaning_at-good.ensures)
