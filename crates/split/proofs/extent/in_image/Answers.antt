use Rattle.disk.specs.Split.{in_image}
use Rattle.split.proofs.ExtentLaws.{checked_image}
use Rattle.base.proofs.Steps.{steps}
use Rattle.split.proofs.extent.in_image.Goals as goal

pub returns-then-begins_cowd : goal.returns-then-begins_cowd
unfolding in_image
returns-then-begins_cowd c = search steps

pub returns : goal.returns
unfolding in_image
returns c = search (checked_image, steps)
