-- A line that is key = value. A line of no form is 32, a required key that is malformed 33. `end` is the place where the line
-- ends.
use Rattle.std.specs.Prelude.{ℕ, ◌+◌, List, Bool, ◌||◌, ltb, eqb, length, take, drop, Option, None, Some, Ok, Err}
use Rattle.std.specs.Prelude.{option_and_then, option_map}
use Rattle.std.specs.Option.{ok_or}
use Rattle.base.specs.Pick.{pick}
use Rattle.base.specs.Strings.{same_word, ascii}
use Rattle.descriptor.specs.declared.Stop.TheVariants.{Byte}
use Rattle.descriptor.specs.declared.Key.{Key as RequiredKey}
use Rattle.descriptor.specs.declared.Key.TheVariants.{Version, Cid, ParentCid, CreateType}
use Rattle.descriptor.specs.declared.Quoted.{Quoted}
use Rattle.descriptor.specs.declared.KeyValue.{KeyValue}
use Rattle.descriptor.specs.declared.KeyValue.TheVariants.{Version as version_value, Cid as cid_value}
use Rattle.descriptor.specs.declared.KeyValue.TheVariants.{ParentCid as parent_cid_value, CreateType as create_type_value}
use Rattle.descriptor.specs.declared.Line.TheVariants.{Skip, Key}
use Rattle.descriptor.specs.declared.LineFault.TheVariants.{NoForm, BadKey}
use Rattle.descriptor.specs.Words.{equals, empty, count_before, trim_start, trim_end, decimal_value, hex, quoted_length}
use Rattle.descriptor.specs.Words.{quoted_place}
use Rattle.descriptor.specs.Said.{Said}

-- ---- keys
-- version, CID, parentCID and createType are required
unfoldable pub key_of : List ℕ → Option RequiredKey
key_of w =
    pick (same_word w (ascii "version")) (Some Version)
    (pick (same_word w (ascii "cid")) (Some Cid)
    (pick (same_word w (ascii "parentcid")) (Some ParentCid)
    (pick (same_word w (ascii "createtype")) (Some CreateType) None)))

-- ---- values
-- version is 1 to 3
abbrev pub version_bad : ℕ → Bool
version_bad n = eqb n 0 || ltb 3 n

-- the version is judged
unfoldable pub version_is : ℕ → Option ℕ
version_is n = pick (version_bad n) None (Some n)

-- createType is quoted, no quote inside: its n bytes and the two quotes are all `long` bytes of the value
unfoldable pub create_type_is : ℕ → ℕ → ℕ → Option Quoted
create_type_is place long n = pick (eqb long (n + 2)) (Some (record { at = place; length = n })) None

-- the value v of a key; CID and parentCID are 1 to 8 hex digits; none if it is malformed
unfoldable pub value_of : ℕ → RequiredKey → List ℕ → Option KeyValue
value_of end Version v = option_map version_value (option_and_then version_is (decimal_value v))
value_of end Cid v = option_map cid_value (hex v)
value_of end ParentCid v = option_map parent_cid_value (hex v)
value_of end CreateType v =
    option_map create_type_value
    (option_and_then (create_type_is (quoted_place end v) (length v)) (quoted_length v))

-- keys that are not required are skipped; a malformed value is 33
abbrev pub key_says : ℕ → Option RequiredKey → List ℕ → Said
key_says end None v = Ok Skip
key_says end (Some key) v = ok_or (option_map Key (value_of end key v)) BadKey

-- ---- the line
-- n of `long` bytes stand before the first =; if all do, the line has none and is of no form (32); an empty key w is 32 too
unfoldable pub with_key : ℕ → ℕ → ℕ → List ℕ → Option RequiredKey → List ℕ → Said
with_key end n long w key v = pick (eqb n long) (Err NoForm) (pick (empty w) (Err NoForm) (key_says end key v))

-- split behind n bytes, both sides trimmed: the line is trimmed already, so the key's end and the value's start are left
unfoldable pub split_at : ℕ → List ℕ → ℕ → Said
split_at end w n =
    with_key end n (length w) (trim_end (take n w)) (key_of (trim_end (take n w))) (trim_start (drop (n + 1) w))

-- split at the first =
abbrev pub key_line : ℕ → List ℕ → Said
key_line end w = split_at end w (count_before (Byte equals) w)
