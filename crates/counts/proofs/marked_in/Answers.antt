-- `marked_in`: the bits of a word are its binary digits.
use mathlib.Core.Path.{◌∙◌}
use Rattle.counts.proofs.WordsCounted.{bits_ones}
use Rattle.counts.proofs.marked_in.Goals as goal

pub returns : goal.returns
returns c = c.from.ensures ∙ bits_ones 64 c.args.word c.ranges.word.fits
