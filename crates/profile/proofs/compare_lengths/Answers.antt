use mathlib.Core.Path.{◌∙◌}
use native.Mathlib.Omega.{arith}
use Rattle.profile.proofs.TableTurns.{laid_small, too_long, as_long}
use Rattle.profile.proofs.compare_lengths.Goals as goal

pub overflow_mul-long : goal.overflow_mul-long
overflow_mul-long c = omega (arith, laid_small _ c.requires)

pub returns-then-long-image : goal.returns-then-long-image
returns-then-long-image c = c.not_normal.ensures ∙ too_long _ c.requires (omega arith)

pub returns : goal.returns
returns c = as_long _ c.requires (omega arith)
