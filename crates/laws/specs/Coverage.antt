-- Coverage (request A10): which file sector of which layer a virtual sector comes from, and how many grains are stored. All of
-- it goes by the entry table of each layer; how a lookup works is no part of it.
use Rattle.std.specs.Prelude.{ℕ, ◌+◌, ◌*◌, ◌/◌, ◌%◌, ◌≤◌, ◌<◌, ◌≡◌, List, [], ◌∷◌, false}
use Rattle.base.specs.SumsBelow.{sum_below}
use Rattle.format.specs.Header.{header_of}
use Rattle.format.specs.Entries.{grain_entry, marker_size}
use Rattle.format.specs.Check.{check}
use Rattle.format.specs.declared.Entry.{Entry}
use Rattle.format.specs.declared.Entry.TheVariants.{Absent, Zero, Sector}
use Rattle.format.specs.declared.Source.{Source}
use Rattle.format.specs.declared.Source.TheVariants.{Absent as absent_source, Zero as zero_source, Stored, Packed}
use Rattle.std.specs.Prelude.{Result, Ok, Err}
use Rattle.format.specs.declared.LayerSource.{LayerSource}
use Rattle.format.specs.declared.LayerRefusal.{LayerRefusal}
use Rattle.format.specs.AnswerParts.{accepted_as}

-- ---- layers
-- accepted with this capacity and grain size, and uncompressed
pub record Uncompressed (capacity grain_size : ℕ) (s : List ℕ) : Type 0 where
  pub accepted : check s ≡ accepted_as capacity grain_size
  pub unpacked : (header_of s).packed ≡ false

-- what an image's entry of grain g means
abbrev pub own_entry : List ℕ → ℕ → Entry
own_entry s g = grain_entry s (header_of s) g

-- of n layers, told by their numbers from the base, 0, on: virtual sector x comes from sector e of layer k. The grain of x is
-- absent in each layer above k, and stored in k
pub record ComesFrom (n : ℕ) (layer : ℕ → List ℕ) (grain_size x k e : ℕ) : Type 0 where
  pub inside : k < n
  pub above : (j : ℕ) → k < j → j < n → own_entry (layer j) (x / grain_size) ≡ Absent
  pub first : ℕ
  pub stored : own_entry (layer k) (x / grain_size) ≡ Sector first
  pub is : e ≡ first + x % grain_size

-- ---- how many grains are stored
unfoldable pub one_if_sector : Entry → ℕ
one_if_sector Absent = 0
one_if_sector Zero = 0
one_if_sector (Sector e) = 1

-- among the first n grains, by what the entry of each means
abbrev pub stored_grains : ℕ → (ℕ → Entry) → ℕ
stored_grains n entry = sum_below (λ g. one_if_sector (entry g)) n

-- what a chain answers for a grain, base first: the topmost entry that is not absent
unfoldable pub upper_entry : Entry → Entry → Entry
upper_entry lower Absent = lower
upper_entry lower Zero = Zero
upper_entry lower (Sector e) = Sector e

unfoldable pub chain_entry : List (List ℕ) → ℕ → Entry
chain_entry [] g = Absent
chain_entry (s ∷ l) g = upper_entry (own_entry s g) (chain_entry l g)

-- 1 where a chain lookup answers with a stored sector
unfoldable pub one_if_source : Source → ℕ
one_if_source absent_source = 0
one_if_source zero_source = 0
one_if_source (Stored sector) = 1
one_if_source (Packed marker size o) = 0

unfoldable pub one_if_answered : Result LayerSource LayerRefusal → ℕ
one_if_answered (Ok a) = one_if_source a.source
one_if_answered (Err refused) = 0

-- ---- packed grains: byte i of the file is one of the payload of grain g
pub record PayloadByte (s : List ℕ) (g i : ℕ) : Type 0 where
  pub first : ℕ
  pub names : own_entry s g ≡ Sector first
  pub from : 512 * first + 12 ≤ i
  pub to : i < 512 * first + 12 + marker_size s first
