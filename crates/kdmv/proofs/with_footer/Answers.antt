use Rattle.kdmv.proofs.KdmvKept.{footer_long, at_end_lem, not_at_end}
use Rattle.format.specs.Header.{with_footer}
use Rattle.base.proofs.Steps.{steps}
use Rattle.kdmv.proofs.with_footer.Goals as goal

pub returns-then-footer_broken : goal.returns-then-footer_broken
unfolding with_footer
returns-then-footer_broken c = search steps

pub footer_directory-requires : goal.footer_directory-requires
unfolding with_footer
footer_directory-requires c = search footer_long

pub returns-then-k-eq-ALL_ONES : goal.returns-then-k-eq-ALL_ONES
unfolding with_footer
returns-then-k-eq-ALL_ONES c = search (at_end_lem, steps)

pub returns : goal.returns
unfolding with_footer
returns c = search (not_at_end, steps)
