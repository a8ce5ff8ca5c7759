use Rattle.base.proofs.Steps.{steps}
use Rattle.format.specs.Profile.{profile_from}
use Rattle.profile.proofs.Taking.{published_of}
use borrow.Author.Rules.{rules}
use Rattle.profile.proofs.profile_accepted.Goals as goal

pub returns-then-not_collapsible : goal.returns-then-not_collapsible
unfolding profile_from
returns-then-not_collapsible c = search (steps, rules)

pub returns-then-still_open : goal.returns-then-still_open
unfolding profile_from
returns-then-still_open c = search (steps, rules)

pub returns-then-sizes_broken : goal.returns-then-sizes_broken
unfolding profile_from
returns-then-sizes_broken c = search (steps, rules)

pub compare_header-requires : goal.compare_header-requires
unfolding profile_from
compare_header-requires c = published_of _ _ c.requires c.not_collapsible.ensures c.if-not_collapsible.false
    c.still_open.ensures c.if-still_open.false c.sizes_broken.ensures c.if-sizes_broken.false

pub returns : goal.returns
unfolding profile_from
returns c = search (steps, rules)
