-- One grain put into the output.
use Rattle.std.specs.Prelude.{ℕ, ◌+◌, ◌*◌, ◌≤◌, ◌<◌, ◌≡◌, List}
use Rattle.base.specs.Numbers.{le_bytes}
use Rattle.base.specs.Bytes.{over}
use Rattle.format.specs.Grains.{Grain, bytes_of, one_if_stored, entry_for}
use Rattle.format.specs.Judged.{Sized}

-- what it asks: x is grain g, and an output of `room` bytes has room for its entry at byte `at` and for its bytes at sector
-- `next`
pub record Ready (x : Grain) (capacity size g at next room : ℕ) : Type 0 where
  pub sizes : Sized capacity size
  pub starts : g * size < capacity
  pub entry : at + 4 ≤ room
  pub bytes : 512 * (next + one_if_stored x * size) ≤ room

-- what it leaves: the next stored grain goes to sector r
pub record Put (x : Grain) (size at next r : ℕ) (before after : List ℕ) : Type 0 where
  pub sector : r ≡ next + one_if_stored x * size
  pub bytes : after ≡ over (over before at (le_bytes 4 (entry_for x next))) (512 * next) (bytes_of x)
