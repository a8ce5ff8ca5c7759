use Rattle.mend.proofs.CopyLaws.{entry_tables, entry_written}
use Rattle.mend.proofs.copy_at.Goals as goal

pub copy_named-requires : goal.copy_named-requires
copy_named-requires c = entry_tables _ _ _ _ c.entries_in_use-n.ensures c.meaning_at-good.ensures c.meaning_at-other.ensures
    c.requires

pub returns : goal.returns
returns c = entry_written _ c.args.g _ _ c.entries_in_use-n.ensures c.meaning_at-good.ensures c.meaning_at-other.ensures
    c.copy_named.ensures
