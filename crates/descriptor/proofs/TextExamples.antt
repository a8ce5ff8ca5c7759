-- Small texts on both sides of the grammar's edges and what the definitions say of them: one statement over a list, by
-- computation.
use Prim.Native.Nat.{ℕ}
use Prim.Native.String.{String}
use mathlib.Core.Path.{◌≡◌, refl}
use mathlib.Core.List.{List, [], ◌∷◌, ◌++◌, map}
use lib.ListN.{replicate}
use Rattle.base.specs.Pick.{pick}
use Rattle.base.specs.Strings.{same_word, ascii}
use Rattle.descriptor.specs.declared.Extent.{Extent}
use Rattle.descriptor.specs.Words.{count_before, kept, digit_value, numeral_from, numeral, to_quote_at, quoted_length}
use Rattle.descriptor.specs.Text.{lines_from}
use Rattle.descriptor.specs.Extents.{access_of, type_of, blanks_then_decimal_at, blanks_then_decimal, offset_of, extent}
use Rattle.descriptor.specs.Extents.{with_name}
use Rattle.descriptor.specs.Extents.{from_name, with_type, with_sectors}
use Rattle.descriptor.specs.Keys.{key_of, version_is, create_type_is, value_of, with_key, split_at}
use Rattle.descriptor.specs.Line.{line_with}
use Rattle.descriptor.specs.Descriptor.{skipped, opened, added, noted, once, judged_line, step, judged_end, ended}
use Rattle.descriptor.specs.Descriptor.{judged, judged_text, needed, accepted, read_text}
use Rattle.descriptor.specs.Records.{answered, descriptor_answer, descriptor_list, found_from, find_answer}

-- ---- texts
-- lines, each ended by 0a
abbrev text : List String → List ℕ
text [] = []
text (l ∷ ls) = ascii l ++ 0x0a ∷ text ls

-- a first line, the required keys, and more lines, the next of which is line 6
abbrev under : String → List String → List ℕ
under first ls = text (first ∷ "version=1" ∷ "CID=1f" ∷ "parentCID=ffffffff" ∷ "createType=\"custom\"" ∷ ls)

-- the same under the right first line: createType's place is 70, and that of line 6 is 78
abbrev keyed : List String → List ℕ
keyed ls = under "# Disk DescriptorFile" ls

-- ---- what is said of a text
-- what the definitions give, and what document 01 has
pub record Example (A : Type 0) : Type 0 where
  pub gives : A
  pub wants : A

abbrev pub example : {A : Type 0} → A → A → Example A
example gives wants = record { gives = gives; wants = wants }

abbrev pub Hold : {A : Type 0} → List (Example A) → Type 0
Hold {A} examples = map (λ (e : Example A). e.gives) examples ≡ map (λ (e : Example A). e.wants) examples

-- the values of records
abbrev values : List Extent → List ℕ
values [] = []
values (e ∷ es) =
    e.first ∷ e.sectors ∷ e.access ∷ e.kind ∷ e.name_at ∷ e.name_length ∷ e.offset ∷ values es

-- n records of a lent list, whose values are all 9
abbrev lent : ℕ → List Extent
lent n =
    replicate n (record { first = 9; sectors = 9; access = 9; kind = 9; name_at = 9; name_length = 9; offset = 9 })

-- the first call's whole answer, and the n lent records after it
abbrev tells : ℕ → List ℕ → List ℕ → Example (List ℕ)
tells n s wanted =
    let d = descriptor_answer s (lent n) in
    example
    (d.number ∷ d.place ∷ d.extents ∷ d.version ∷ d.cid ∷ d.parent_cid ∷ d.type_at ∷ d.type_length ∷ values
    (descriptor_list s (lent n)))
    wanted

-- the first call's number and place
abbrev refuses : ℕ → ℕ → List ℕ → Example (List ℕ)
refuses number place s = let d = descriptor_answer s (lent 32) in example (d.number ∷ d.place ∷ []) (number ∷ place ∷ [])

-- no refusal
abbrev accepts : List ℕ → Example (List ℕ)
accepts s = refuses 0 0 s

-- a list of two records; the second one's first sector and sectors add up to more than 2^64
abbrev listed : List Extent
listed =
    record { first = 0; sectors = 4; access = 1; kind = 5; name_at = 0; name_length = 0; offset = 0 }
    ∷ record { first = 0xffffffffffffffff; sectors = 2; access = 1; kind = 5; name_at = 0; name_length = 0; offset = 0 }
    ∷ []

-- the second call's number, place and record on that list
abbrev finds : ℕ → List ℕ → Example (List ℕ)
finds sector wanted = let f = find_answer listed sector in example (f.number ∷ f.place ∷ f.extent ∷ []) wanted

-- ---- the examples
-- two extents
abbrev two : List String
two = "RW 4 FLAT \"a b\" 63" ∷ "rdonly 6 VMFS \"c\"" ∷ []

-- texts in pairs, one on each side of an edge
abbrev examples : List (Example (List ℕ))
examples =
    -- a whole text: names' places and lengths; VMFS without an offset has 0; the record past the last keeps what it held
    tells 3 (keyed two)
    ((0 ∷ 0 ∷ 2 ∷ 1 ∷ 0x1f ∷ 0xffffffff ∷ 70 ∷ 6 ∷ [])
    ++ (0 ∷ 4 ∷ 1 ∷ 1 ∷ 89 ∷ 3 ∷ 63 ∷ [])
    ++ (4 ∷ 6 ∷ 2 ∷ 2 ∷ 112 ∷ 1 ∷ 0 ∷ [])
    ++ replicate 7 9)
    -- the list is too short: all records keep what they held
    ∷ tells 1 (keyed two) (21 ∷ replicate 7 0 ++ replicate 7 9)
    -- the first line in another case; another first line
    ∷ accepts (under "\t# disk DESCRIPTORFILE\r" ("RW 4 ZERO" ∷ []))
    ∷ refuses 30 0 (under "# Disk Descriptor File" ("RW 4 ZERO" ∷ []))
    -- empty lines before it; none but empty lines; no text
    ∷ accepts (0x0a ∷ 0x20 ∷ 0x0a ∷ keyed ("RW 4 ZERO" ∷ []))
    ∷ refuses 30 0 (0x0a ∷ 0x20 ∷ 0x0a ∷ [])
    ∷ refuses 30 0 []
    -- zero bytes after a zero byte; text after one
    ∷ accepts (keyed ("RW 4 ZERO" ∷ []) ++ 0 ∷ 0 ∷ [])
    ∷ refuses 31 0 (keyed ("RW 4 ZERO" ∷ []) ++ 0 ∷ 0x0a ∷ [])
    -- an empty line and a comment are skipped; a line of no form, where both were counted
    ∷ accepts (keyed ("" ∷ "# note" ∷ "RW 4 ZERO" ∷ []))
    ∷ refuses 32 8 (keyed ("" ∷ "# note" ∷ "word" ∷ "RW 4 ZERO" ∷ []))
    -- a key line that starts with an access; an extent line
    ∷ accepts (keyed ("RW=1" ∷ "RW 4 ZERO" ∷ []))
    ∷ refuses 34 6 (keyed ("RW = 1" ∷ "RW 4 ZERO" ∷ []))
    -- a required key twice, whichever it is; malformed
    ∷ refuses 33 6 (keyed ("version = 1" ∷ []))
    ∷ refuses 33 7 (keyed ("RW 4 ZERO" ∷ "cid = 2" ∷ []))
    ∷ refuses 33 6 (keyed ("parentCID=0" ∷ []))
    ∷ refuses 33 6 (keyed ("createType=\"\"" ∷ []))
    ∷ tells 1 (text ("# Disk DescriptorFile" ∷ "version=4" ∷ [])) (33 ∷ 2 ∷ replicate 6 0 ++ replicate 7 9)
    -- one of them missing
    ∷ refuses 33 0 (text ("# Disk DescriptorFile" ∷ "CID=1" ∷ "parentCID=1" ∷ "createType=\"\"" ∷ "RW 4 ZERO" ∷ []))
    ∷ refuses 33 0 (text ("# Disk DescriptorFile" ∷ "version=3" ∷ "parentCID=1" ∷ "createType=\"\"" ∷ "RW 4 ZERO" ∷ []))
    ∷ refuses 33 0 (text ("# Disk DescriptorFile" ∷ "version=3" ∷ "CID=1" ∷ "createType=\"\"" ∷ "RW 4 ZERO" ∷ []))
    ∷ refuses 33 0 (text ("# Disk DescriptorFile" ∷ "version=3" ∷ "CID=1" ∷ "parentCID=1" ∷ "RW 4 ZERO" ∷ []))
    -- no extent, 32 and 33 of them
    ∷ refuses 35 0 (keyed [])
    ∷ accepts (keyed (replicate 32 "RW 1 ZERO"))
    ∷ refuses 35 0 (keyed (replicate 33 "RW 1 ZERO"))
    -- ZERO with a name; FLAT with no blank before its offset; 0d separates nothing
    ∷ refuses 34 6 (keyed ("RW 4 ZERO \"a\"" ∷ []))
    ∷ refuses 34 6 (keyed ("RW 4 FLAT \"a\"0" ∷ []))
    ∷ refuses 34 6 (keyed ("RW 4 FLAT\r\"a\" 0" ∷ []))
    -- a sum of 2^31, and above; so many sectors in one line
    ∷ accepts (keyed ("RW 2147483647 ZERO" ∷ "RW 1 ZERO" ∷ []))
    ∷ refuses 35 0 (keyed ("RW 2147483648 ZERO" ∷ "RW 1 ZERO" ∷ []))
    ∷ refuses 34 6 (keyed ("RW 2147483649 ZERO" ∷ []))
    -- the second call: a record's first and last sector, the one after it, and two that a sum of 64 bits would miss
    ∷ finds 0 (0 ∷ 0 ∷ 0 ∷ [])
    ∷ finds 3 (0 ∷ 0 ∷ 0 ∷ [])
    ∷ finds 4 (20 ∷ 0 ∷ 0 ∷ [])
    ∷ finds 0xffffffffffffffff (0 ∷ 0 ∷ 1 ∷ [])
    ∷ finds 0x10000000000000000 (0 ∷ 0 ∷ 1 ∷ [])
    ∷ finds 0x10000000000000001 (20 ∷ 0 ∷ 0 ∷ [])
    ∷ []

-- the definitions say of each what is wanted
pub examples_hold : Hold examples
unfolding pick same_word count_before kept digit_value numeral_from numeral to_quote_at quoted_length lines_from access_of type_of blanks_then_decimal_at offset_of from_name with_type with_sectors key_of version_is create_type_is value_of with_key split_at line_with skipped opened added noted once judged_line step judged_end ended judged read_text answered found_from
examples_hold = refl
