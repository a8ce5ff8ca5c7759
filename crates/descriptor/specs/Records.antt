-- The two calls: their answers, and the lent list of records.
use Rattle.std.specs.Prelude.{ℕ, ◌+◌, Bool, ◌&&◌, List, [], ◌∷◌, ◌++◌, ltb, leb, length, take, drop}
use Rattle.std.specs.Prelude.{unwrap_or, Result, Ok, Err}
use Rattle.std.specs.Result.{result_map_both}
use Rattle.base.specs.Pick.{pick}
use Rattle.descriptor.specs.declared.Extent.{Extent}
use Rattle.descriptor.specs.declared.TextRefusal.{TextRefusal}
use Rattle.descriptor.specs.declared.State.{State}
use Rattle.descriptor.specs.declared.Parsed.{Parsed}
use Rattle.descriptor.specs.declared.Described.{Described}
use Rattle.descriptor.specs.declared.Found.{Found}
use Rattle.descriptor.specs.Said.{text_number, text_place}
use Rattle.descriptor.specs.Descriptor.{described, read_text}

-- ---- the first call: a text is read, and its extents are handed over
-- a refusal returns its number and a place
abbrev pub refusal : ℕ → ℕ → Described
refusal number place = described number place 0 0 0 0 0 0

-- the records have room in the list. Over 32 never come here, since they are 35: who stores them need not know that
abbrev pub fits : List Extent → ℕ → Bool
fits list count = leb count 32 && leb count (length list)

-- records past the last keep what they held; all do where they do not fit
abbrev pub stored : List Extent → List Extent → ℕ → List Extent
stored list records count = pick (fits list count) (take count records ++ drop count list) list

-- list too short: 21
unfoldable pub answered : Result Parsed TextRefusal → List Extent → Described
answered (Ok p) list = pick (fits list p.count) p.answer (refusal 21 0)
answered (Err r) list = refusal (text_number r) (text_place r)

-- on a refusal no record is stored
abbrev pub stored_from : Result Parsed TextRefusal → List Extent → List Extent
stored_from (Ok p) list = stored list p.records p.count
stored_from (Err r) list = list

-- the first call's answer
abbrev pub descriptor_answer : List ℕ → List Extent → Described
descriptor_answer s list = answered (read_text s) list

-- the lent list after the first call
abbrev pub descriptor_list : List ℕ → List Extent → List Extent
descriptor_list s list = stored_from (read_text s) list

-- ---- the second call: which record holds a sector
-- the record's sectors, counted exactly, hold the sector
abbrev pub holding : Extent → ℕ → Bool
holding e sector = leb e.first sector && ltb sector (e.first + e.sectors)

-- the record with the number i holds it
abbrev pub found_at : ℕ → Found
found_at i = record { number = 0; place = 0; extent = i }

-- 20 if none does
abbrev pub not_found : Found
not_found = record { number = 20; place = 0; extent = 0 }

-- the first record that holds the sector, of a list that begins with the record i
unfoldable pub found_from : List Extent → ℕ → ℕ → Found
found_from [] i sector = not_found
found_from (e ∷ list) i sector = pick (holding e sector) (found_at i) (found_from list (i + 1) sector)

-- the second call's answer: the record's number in the list, from 0
abbrev pub find_answer : List Extent → ℕ → Found
find_answer list sector = found_from list 0 sector
