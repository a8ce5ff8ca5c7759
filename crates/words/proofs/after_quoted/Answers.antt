use Prim.Native.Nat.{ℕ}
use mathlib.Core.Path.{ap, ◌∙◌}
use native.Mathlib.Omega.{arith}
use lib.ListN.{drop}
use lib.Seq.{drop-drop}
use Rattle.words.proofs.after_quoted.Goals as goal

pub returns : goal.returns
returns c = (
  c.after-2.ensures.0
      ∙ rw c.after.ensures.0 (drop-drop 2 c.args.n c.args.w.now ∙ ap (λ (k : ℕ). drop k c.args.w.now) (omega arith)),
  omega (arith, c.after.ensures.1, c.after-2.ensures.1),
)
