use Rattle.grains.proofs.GrainsRule.{all_filed, none_packed}
use Rattle.base.specs.Pick.{pick}
use borrow.Author.Rules.{rules}
use Rattle.grains.proofs.lowest_bad_marker.Goals as goal

pub returns-then-h : goal.returns-then-h
unfolding pick
returns-then-h c = search rules

pub returns : goal.returns
unfolding pick
returns c = search none_packed

pub lowest_broken-requires-clause-by_index : goal.lowest_broken-requires-clause-by_index
unfolding pick
lowest_broken-requires-clause-by_index c = search all_filed
