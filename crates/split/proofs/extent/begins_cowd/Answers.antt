use native.Mathlib.Omega.{arith}
use Rattle.split.proofs.ExtentLaws.{short_magic}
use borrow.Author.Rules.{rules}
use Rattle.split.proofs.extent.begins_cowd.Goals as goal

pub returns-then-file-lt4 : goal.returns-then-file-lt4
returns-then-file-lt4 c = short_magic _ _ _ _ _ (λ q. omega (arith, q)) (search rules)
