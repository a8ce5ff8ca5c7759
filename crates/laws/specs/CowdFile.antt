-- A COWD file with room for its header, whatever else it holds: what every call but the moves refuses 43.
use Rattle.std.specs.Prelude.{ℕ, ◌≤◌, ◌≡◌, List, length}
use Rattle.format.specs.Geometry.{bytes_at}
use Rattle.format.specs.Cowd.{cowd_magic}

pub record CowdFile (s : List ℕ) : Type 0 where
  pub long : 2048 ≤ length s
  pub magic : bytes_at s 0 4 ≡ cowd_magic
