use Rattle.std.proofs.Common.{rules}
use Rattle.std.proofs.iter.runs.Made.{chains}
use Rattle.words.proofs.WordRuns.{kept_last}
use Rattle.words.proofs.kept.Goals as goal

pub returns : goal.returns
returns c = kept_last c.args.w.now c.rposition.result c.map_or.result (search (rules, chains)) (search rules)
