use Rattle.lengths.proofs.Sums.{layer_fits, layer_is}
use Rattle.format.specs.Header.{judge}
use mathlib.Core.Path.{ap, ◌∙◌}
use Rattle.chain.proofs.judged_layer.Goals as goal

pub overflow_sub-start : goal.overflow_sub-start
overflow_sub-start c = search layer_fits

pub returns : goal.returns
returns c = c.judge.ensures ∙ ap judge (search layer_is)
