-- No sum wraps: an image has at most 2^31 grains, and there are at most 1,024 images.
use Rattle.std.specs.Prelude.{ℕ, ◌*◌, ◌≤◌}
use Rattle.format.specs.declared.Row.{Row}
use Rattle.format.specs.declared.Totals.{Totals}

pub record SmallRow (r : Row) : Type 0 where
  pub stored_few : r.stored ≤ 0x80000000
  pub zero_few : r.zero ≤ 0x80000000
  pub absent_few : r.absent ≤ 0x80000000
  pub packed_few : r.packed ≤ 0x80000000

-- the totals of n images
pub record SmallTotals (n : ℕ) (t : Totals) : Type 0 where
  pub stored_few : t.stored ≤ n * 0x80000000
  pub zero_few : t.zero ≤ n * 0x80000000
  pub absent_few : t.absent ≤ n * 0x80000000
  pub packed_few : t.packed ≤ n * 0x80000000
