use Rattle.std.proofs.Common.{rules, ◌≡◌, true, false}
use Rattle.std.proofs.lemmas.Iterator.{IsFirst-from_position, YieldsList-from_slice}
use borrow.Author.Tests.{tests}
use Rattle.descriptor.specs.declared.Stop.TheVariants.{Byte}
use Rattle.descriptor.specs.Words.{quote, stops}
use Rattle.words.proofs.WordRuns.{quote_first}
use Rattle.words.proofs.to_quote.Goals as goal

pub returns : goal.returns
returns c =
    quote_first c.args.w.now c.position.result
    (IsFirst-from_position _ _ _ (λ x. stops (Byte quote) x ≡ true) (λ x. stops (Byte quote) x ≡ false)
    c.position.ensures.ran (YieldsList-from_slice c.args.w.now cc) (λ x q k. search (rules, tests))
    (λ x q k. search (rules, tests)))
