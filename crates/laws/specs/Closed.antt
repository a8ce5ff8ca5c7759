-- Closing a download that broke off (request A12): the starts that it takes, and the grains that it keeps.
use Rattle.std.specs.Prelude.{ℕ, ◌+◌, ◌≤◌, ◌≡◌, List, ◌∷◌, false, length}
use Rattle.format.specs.Kdmv.{kdmv_fields}
use Rattle.format.specs.Header.{kdmv_header, start_of, judge_start}
use Rattle.format.specs.Stream.{KeptGrain, kept_grains, kept_sectors}
use Rattle.format.specs.Tail.{new_directory, tail_sectors}
use Rattle.format.specs.Close.{not_closable, tail_of}
use Rattle.format.specs.declared.Header.{Header}
use Rattle.std.specs.Prelude.{Ok}

-- a start that is refused neither 1 to 6 nor 41
pub record Closable (s : List ℕ) : Type 0 where
  pub known : judge_start s ≡ Ok (start_of s)
  pub closable : not_closable s (start_of s) ≡ false

-- what the numbers of an answer are, where the output has `room` bytes
pub record AnsweredAs (s : List ℕ) (room sectors grains long : ℕ) : Type 0 where
  pub closable : Closable s
  pub kept : sectors ≡ kept_sectors s (start_of s)
  pub grain_count : grains ≡ length (kept_grains s (start_of s))
  pub tail_long : long ≡ length (tail_of s (start_of s))
  pub fits : long ≤ room

-- a grain is one of those of a list
pub data Among (k : KeptGrain) : List KeptGrain → Type 0 where
  first : {l : List KeptGrain} → Among k (k ∷ l)
  later : {j : KeptGrain} {l : List KeptGrain} → Among k l → Among k (j ∷ l)

-- ---- the closed image: its sectors, where its directory stands, and the header that it tells
abbrev pub closed_sectors : List ℕ → ℕ
closed_sectors s = kept_sectors s (start_of s) + tail_sectors (start_of s) (kept_grains s (start_of s))

abbrev pub closed_directory : List ℕ → ℕ
closed_directory s = new_directory (start_of s) (kept_sectors s (start_of s)) (kept_grains s (start_of s))

abbrev pub closed_header : List ℕ → Header
closed_header s = kdmv_header (kdmv_fields s) (closed_directory s)
