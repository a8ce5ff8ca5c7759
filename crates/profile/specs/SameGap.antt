-- What two images agree in, beside the frame of the one, that have the same profile: the gap of its normal form.
use Rattle.std.specs.Prelude.{ℕ, ◌-◌, ◌*◌, List}
use Rattle.base.specs.Bytes.{SameBytes}
use Rattle.format.specs.Layout.{tables_end, sector_v}
use Rattle.format.specs.declared.Header.{Header}
use Rattle.format.specs.declared.Kind.TheVariants.{Kdmv}

-- the sectors between the tables of the normal form of an image with header h and its first grain, whether or not they lie in
-- the file
abbrev pub SameGap : List ℕ → List ℕ → Header → Type 0
SameGap s t h =
    SameBytes s t (512 * tables_end Kdmv h.capacity h.grain_size)
    (512 * (sector_v Kdmv h.capacity h.grain_size - tables_end Kdmv h.capacity h.grain_size))
