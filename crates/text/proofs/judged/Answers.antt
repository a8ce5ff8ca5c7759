use Rattle.std.proofs.Common.{rules, arith, refl}
use Rattle.std.proofs.lemmas.Result.{err_from_is_err_and}
use Rattle.text.proofs.Lines.{left_start, left_more, left_stop, left_end}
use Rattle.text.proofs.judged.Goals as goal

pub loop-from-init : goal.loop-from-init
loop-from-init c = record {
  inside = omega arith;
  few = c.requires.few;
  left = left_start _ _ _ c.requires.begins refl;
}

pub returns-in_err-step : goal.returns-in_err-step
returns-in_err-step c =
    let p = err_from_is_err_and c.from_residual.result c.from_residual.ensures.1 in
    rw (p.1, p.2)
    (left_stop _ _ _ _ c.loop-from.invariant.left (search rules) (search rules) (search rules) _ c.in_err-step.ensures.said)

pub loop-from-preserved : goal.loop-from-preserved
loop-from-preserved c = record {
  inside = search rules;
  few = record {
    lines = omega (arith, c.in_ok-step.ensures.few.lines);
    extent_count = c.in_ok-step.ensures.few.extent_count;
    total = c.in_ok-step.ensures.few.total;
    slots = c.in_ok-step.ensures.few.slots;
  };
  left = search (left_more, rules);
}

pub returns : goal.returns
returns c = search (left_end, rules)
