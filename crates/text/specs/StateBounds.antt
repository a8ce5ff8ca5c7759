-- Bounds that the code needs so that no number of a state wraps, and what a call on a state comes to. No answer is defined by
-- them.
use Rattle.std.specs.Prelude.{ℕ, ◌*◌, ◌≤◌, ◌≡◌, length, Result, Ok, Err}
use Rattle.descriptor.specs.declared.State.{State}
use Rattle.descriptor.specs.declared.Described.{Described}
use Rattle.descriptor.specs.declared.Parsed.{Parsed}
use Rattle.descriptor.specs.declared.TextRefusal.{TextRefusal}

-- at most `most` lines were met, each of them at most one extent of at most 2^31 sectors; there is room for 32 records
pub record Few (most : ℕ) (st : State) : Type 0 where
  pub lines : st.line ≤ most
  pub extent_count : st.extents ≤ st.line
  pub total : st.sum ≤ 0x80000000 * st.line
  pub slots : length st.records ≡ 32

-- the state after a call, unless it refused
abbrev pub state_after : Result (Unit {0}) TextRefusal → State → Result State TextRefusal
state_after (Ok u) st = Ok st
state_after (Err r) st = Err r

-- the state's records with the answer, unless the call refused
abbrev pub parsed_after : Result Described TextRefusal → State → Result Parsed TextRefusal
parsed_after (Ok answer) st = Ok (record { records = st.records; count = st.extents; answer = answer })
parsed_after (Err r) st = Err r
