use Rattle.std.proofs.Common.{rules, ◌≡◌, true, false, sym, ◌∙◌}
use Rattle.std.proofs.lemmas.Iterator.{IsFirst-from_position, YieldsList-from_slice}
use borrow.Author.Tests.{tests}
use Rattle.descriptor.specs.Words.{stops}
use Rattle.words.proofs.WordRuns.{run_length, run_inside}
use Rattle.words.proofs.count_before.Goals as goal

pub returns : goal.returns
returns c =
    let first = IsFirst-from_position _ _ _ (λ x. stops c.args.stop x ≡ true) (λ x. stops c.args.stop x ≡ false)
    c.position.ensures.ran (YieldsList-from_slice c.args.w.now cc) (λ x q k. search (rules, tests))
    (λ x q k. search (rules, tests)) in
    let e = c.unwrap_or.ensures ∙ sym (run_length c.args.stop c.args.w.now c.position.result first) in
    (e, rw e (run_inside c.args.stop c.args.w.now))
