-- `fill`: the part that was lent holds zeros now.
use Prim.Native.Nat.{ℕ}
use mathlib.Core.Path.{◌≡◌, ◌∙◌, ap}
use native.Mathlib.Omega.{arith}
use lib.ListN.{replicate, length-take, length-drop}
use Rattle.base.specs.Bytes.{zeros}
use Rattle.base.proofs.Over.{over_part, zeros_length}
use Rattle.base.proofs.fill.Goals as goal

pub returns : goal.returns
unfolding zeros
returns c = let a = c.args in
    let e : c.fill.new.self ≡ zeros a.n = c.fill.ensures.after (λ y h. h)
    ∙ ap (λ (k : ℕ). replicate k 0) (simp (length-take, length-drop) (omega arith)) in
    rw e (over_part a.out.now (zeros a.n) a.at _ (omega (arith, zeros_length a.n)))
