use mathlib.Core.Path.{refl}
use Rattle.tail.proofs.TailRows.{table_fits, row_yes, row_no}
use native.Mathlib.Omega.{arith}
use Rattle.tail.proofs.put_row.Goals as goal

pub put_table-next-requires : goal.put_table-next-requires
put_table-next-requires c = let p = c.requires.row_ready in
    let fits = table_fits _ _ 0 _ _ _ _ _ p _ c.next_in.ensures c.if-next_in.true in
    (p.walking, omega (arith, p.space), p.few, p.left)

pub returns-then-next_in : goal.returns-then-next_in
returns-then-next_in c = let p = c.requires.row_ready in
    row_yes _ _ _ _ _ _ _ _ p _ c.next_in.ensures _ _ _ _ c.if-next_in.true c.put_table-next.ensures.0
    c.put_table-next.ensures.1 c.put_number.ensures

pub returns : goal.returns
returns c = let p = c.requires.row_ready in
    row_no _ _ _ _ _ _ _ _ p _ c.next_in.ensures _ _ _ c.if-next_in.false c.put_number-2.ensures refl
