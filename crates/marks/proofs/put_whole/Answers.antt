-- `put_whole`: the part that was lent is full now.
use Prim.Native.Nat.{ℕ, ◌+◌, ◌-◌}
use mathlib.Core.Path.{◌≡◌, ap, ◌∙◌}
use native.Mathlib.Omega.{arith}
use lib.ListN.{replicate, length-take, length-drop, length-replicate}
use Rattle.base.proofs.Over.{over_part}
use Rattle.marks.proofs.Wholes.{whole_put}
use Rattle.marks.proofs.put_whole.Goals as goal

pub returns : goal.returns
returns c = let a = c.args in
    let n = a.stop - a.first in
    let full : c.fill.new.self ≡ replicate n 18446744073709551615 =
    c.fill.ensures.after (λ y h. h)
    ∙ ap (λ (k : ℕ). replicate k 18446744073709551615) (simp (length-take, length-drop) (omega arith)) in
    let part = over_part a.words.now (replicate n 18446744073709551615) a.first n (length-replicate _ _) in
    let whole : a.first + n ≡ a.stop = omega arith in
    rw (full, part) (rw whole at (whole_put a.words.now a.first n (omega arith)))
