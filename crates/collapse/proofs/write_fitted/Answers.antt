use native.Mathlib.Omega.{arith}
use Rattle.collapse.proofs.CollapseSteps.{too_short, written}
use Rattle.collapse.proofs.write_fitted.Goals as goal

pub returns-then-out-long : goal.returns-then-out-long
returns-then-out-long c = too_short _ _ _ c.image_sectors-sectors.ensures.0 _ _ (omega arith)

pub returns : goal.returns
returns c = written _ _ _ c.image_sectors-sectors.ensures.0 _ _ (omega arith) _ c.write_image.ensures

pub write_image-requires-clause-layers : goal.write_image-requires-clause-layers
write_image-requires-clause-layers c = let e = c.image_sectors-sectors.ensures.0 in (c.requires, omega arith)

pub write_image-requires-clause-sectors_value : goal.write_image-requires-clause-sectors_value
write_image-requires-clause-sectors_value c = let e = c.image_sectors-sectors.ensures.0 in e
