-- `window_meets`: a run from words of 0 on tells of one window.
use Rattle.overlap.proofs.Told.{window_told}
use mathlib.Core.Path.{refl}
use Rattle.overlap.proofs.window_meets.Goals as goal

pub returns : goal.returns
returns c = window_told _ 131072 refl c.mark_walk.ensures
