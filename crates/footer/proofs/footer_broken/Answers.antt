use Rattle.base.proofs.Steps.{given_eq, steps}
use Rattle.format.specs.Kdmv.{footer_broken}
use Rattle.footer.proofs.footer_broken.Goals.{then-image-gt0-via-then-image-gt0}
use Rattle.footer.proofs.footer_broken.Goals.{then-image-gt0-via-else-image-gt0+then-sectors-lt4}
use Rattle.footer.proofs.footer_broken.Goals.{then-footer_differs-via-then-footer_differs}
use Rattle.footer.proofs.footer_broken.Goals.{then-footer_differs-via-else-footer_differs+then-sector_not_zero}
use Rattle.footer.proofs.footer_broken.Goals as goal

pub returns-then-image-gt0 : goal.returns-then-image-gt0
unfolding footer_broken
returns-then-image-gt0 c = elim c.then-image-gt0.branch [
  | then-image-gt0-via-then-image-gt0 w ↦ search steps depth 10
  | then-image-gt0-via-else-image-gt0+then-sectors-lt4 w ↦ search steps depth 10
]

pub returns-then-footer_differs : goal.returns-then-footer_differs
unfolding footer_broken
returns-then-footer_differs c = elim c.then-footer_differs.branch [
  | then-footer_differs-via-then-footer_differs w ↦ search steps depth 10
  | then-footer_differs-via-else-footer_differs+then-sector_not_zero w ↦ search steps depth 10
]

pub returns : goal.returns
unfolding footer_broken
returns c = search (given_eq, steps, c.number_at.ensures.0) depth 10
