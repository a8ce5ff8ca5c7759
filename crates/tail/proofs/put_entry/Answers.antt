use mathlib.Core.Path.{◌≡◌, sym, ◌∙◌}
use native.Mathlib.Omega.{arith}
use Rattle.std.specs.Prelude.{Some}
use Rattle.walk.specs.declared.NextGrain.{NextGrain}
use Rattle.tail.proofs.TailLeft.{here, left_here, left_next, left_absent, left_on}
use Rattle.tail.proofs.put_entry.Goals as goal
use Rattle.tail.proofs.put_entry.Goals.{in_default-via-in-Some+else-c-g, in_default-via-in_default}

pub overflow_add-c : goal.overflow_add-c
overflow_add-c c = let p = c.requires in omega (arith, here _ _ p.0 _ _ p.3 _ c.in-Some.is c.if-c-g.true)

pub returns-in-Some : goal.returns-in-Some
returns-in-Some c = let p = c.requires in
    let e = left_here _ _ p.0 _ _ p.3 _ c.in-Some.is c.if-c-g.true in
    (rw e c.put_number.ensures, left_next _ _ p.0 _ _ p.3 _ c.in-Some.is c.if-c-g.true _ c.next_grain.ensures)

pub returns-in_default : goal.returns-in_default
returns-in_default c = let p = c.requires in
    let other : (r : NextGrain) → c.args.next ≡ Some r → r.number ≡ c.args.g → ⊥ =
    elim c.in_default.branch [
      | in_default-via-in-Some+else-c-g w ↦ λ r q e. w.if-c-g.false (cc)
      | in_default-via-in_default w ↦ λ r q e. w.in_default.not-Some r q
    ] in
    let e = left_absent _ _ p.0 _ _ p.3 other in
    let same : c.in_default.next ≡ c.args.next =
    elim c.in_default.branch [
      | in_default-via-in-Some+else-c-g w ↦ w.next-is ∙ sym w.in-Some.is
      | in_default-via-in_default w ↦ w.next-is
    ] in
    (rw e c.put_number-in_default.ensures, rw same (left_on _ _ p.0 _ _ p.3 other))
