use mathlib.Core.Path.{◌≡◌, ap, ◌∙◌}
use native.Mathlib.Omega.{arith}
use lib.ListN.{take, length}
use Rattle.base.specs.Bytes.{over}
use Rattle.base.proofs.Over.{over_none, copy_more}
use Rattle.base.proofs.SliceParts.{to_eight, le_front}
use Rattle.base.proofs.put_number.Goals as goal

pub loop-i-init : goal.loop-i-init
loop-i-init g c = over_none _ _

pub loop-i-preserved : goal.loop-i-preserved
loop-i-preserved g c = let a = c.args in
    copy_more a.out.now c.loop-i.out a.at c.loop-i.i c.to_le_bytes-bytes.result g.row.N c.loop-i.invariant c.loop-i-test.true
    (omega (arith, ap length c.to_le_bytes-bytes.ensures)) (omega arith)

pub returns : goal.returns
returns g c = let a = c.args in
    let all : c.loop-i.i ≡ g.row.N = omega arith in
    let bytes = ap (take g.row.N) (c.to_le_bytes-bytes.ensures ∙ to_eight a.v) ∙ le_front g.row.N 8 a.v (omega arith) in
    rw all at c.loop-i.invariant ∙ ap (over a.out.now a.at) bytes
