use Rattle.mendable.proofs.MendableLaws.{kinds_refused, rest_refused}
use Rattle.mendable.proofs.unmendable.Goals as goal

pub returns-then-directories_differ : goal.returns-then-directories_differ
returns-then-directories_differ c = search kinds_refused

pub returns : goal.returns
returns c = search rest_refused
