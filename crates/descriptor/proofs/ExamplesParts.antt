-- Parts of a text on both sides of the grammar's edges: numbers, quoted parts, lines, and the length of a text.
use Prim.Native.Nat.{ℕ, ◌<◌}
use Prim.Native.String.{String}
use mathlib.Core.Path.{◌≡◌, refl}
use mathlib.Core.List.{List, [], ◌∷◌, map}
use mathlib.Core.Bool.{Bool, true, false}
use lib.ListN.{length, replicate}
use borrow.Author.Tests.{lt-ltb}
use Rattle.base.specs.Pick.{pick}
use Rattle.base.specs.Strings.{same_word, ascii}
use Rattle.std.specs.Prelude.{Option, None, Some, option_map, Ok, Err}
use Rattle.std.specs.Option.{ok_or}
use Rattle.descriptor.specs.declared.Access.TheVariants.{ReadWrite}
use Rattle.descriptor.specs.declared.Kind.TheVariants.{Sparse}
use Rattle.descriptor.specs.declared.Extent.{Extent}
use Rattle.descriptor.specs.declared.Quoted.{Quoted}
use Rattle.descriptor.specs.declared.KeyValue.TheVariants.{Version, Cid, ParentCid, CreateType}
use Rattle.descriptor.specs.declared.Line.TheVariants.{Skip, Holds, Key}
use Rattle.descriptor.specs.declared.LineFault.TheVariants.{NoForm, BadKey, BadExtent}
use Rattle.descriptor.specs.declared.TextRefusal.{TextRefusal}
use Rattle.descriptor.specs.declared.TextRefusal.TheVariants.{NoFirstLine, ByteAfterZero, InLine, KeyMissing, BadExtents}
use Rattle.descriptor.specs.declared.TextRefusal.TheVariants.{TextTooLong}
use Rattle.descriptor.specs.declared.State.{State}
use Rattle.descriptor.specs.Words.{count_before, kept, trim_end, trim, digit_value, numeral_from, numeral, decimal_value, hex}
use Rattle.descriptor.specs.Words.{to_quote_at, quoted_length}
use Rattle.descriptor.specs.Text.{Span, text_of, tail_of, lines_from, lines}
use Rattle.descriptor.specs.Said.{Said, text_number, text_place}
use Rattle.descriptor.specs.Extents.{access_of, type_of, blanks_then_decimal_at, blanks_then_decimal, offset_of, extent}
use Rattle.descriptor.specs.Extents.{with_name, from_name, with_type, with_sectors}
use Rattle.descriptor.specs.Keys.{key_of, version_is, create_type_is, value_of, with_key, split_at}
use Rattle.descriptor.specs.Line.{line_with, line}
use Rattle.descriptor.specs.Descriptor.{start, skipped, opened, added, noted, judged_line, step, ended, judged, judged_text}
use Rattle.descriptor.specs.Descriptor.{read_text}
use Rattle.descriptor.proofs.TextExamples.{Example, example, Hold}

-- ---- numbers
abbrev decimals : List String → List (Option ℕ)
decimals ws = map (λ w. decimal_value (ascii w)) ws

abbrev hexes : List String → List (Option ℕ)
hexes ws = map (λ w. hex (ascii w)) ws

abbrev numbers : List (Example (List (Option ℕ)))
numbers =
    -- 1 to 10 digits
    example (decimals ("" ∷ "0" ∷ "0000000012" ∷ "00000000012" ∷ [])) (None ∷ Some 0 ∷ Some 12 ∷ None ∷ [])
    -- 0 to 9, and the bytes before and after them
    ∷ example (decimals ("9876543210" ∷ "1/" ∷ "1:" ∷ "1a" ∷ [])) (Some 9876543210 ∷ None ∷ None ∷ None ∷ [])
    -- 1 to 8 hex digits
    ∷ example (hexes ("" ∷ "f" ∷ "ffffffff" ∷ "0ffffffff" ∷ [])) (None ∷ Some 15 ∷ Some 0xffffffff ∷ None ∷ [])
    -- a to f of either case, and the bytes before and after them
    ∷ example (hexes ("12345678" ∷ "90abcdef" ∷ "90ABCDEF" ∷ []))
    (Some 0x12345678 ∷ Some 0x90abcdef ∷ Some 0x90abcdef ∷ [])
    ∷ example (hexes ("/" ∷ ":" ∷ "@" ∷ "G" ∷ "`" ∷ "g" ∷ [])) (replicate 6 None)
    ∷ []

pub numbers_read : Hold numbers
unfolding pick digit_value numeral_from numeral
numbers_read = refl

-- ---- the text and its lines
abbrev cuts : List (Example (List ℕ))
cuts =
    -- the text ends at the first zero byte
    example (text_of (7 ∷ 8 ∷ 0 ∷ 9 ∷ 0 ∷ [])) (7 ∷ 8 ∷ [])
    ∷ example (tail_of (7 ∷ 8 ∷ 0 ∷ 9 ∷ 0 ∷ [])) (0 ∷ 9 ∷ 0 ∷ [])
    ∷ example (tail_of (7 ∷ 8 ∷ [])) []
    -- spaces, tabs and 0d are trimmed at both ends, and no other byte
    ∷ example (trim (ascii " \t\ra \t\rb\r\t ")) (ascii "a \t\rb")
    ∷ example (trim_end (ascii " \t\r")) []
    ∷ example (trim (0x0b ∷ 0x0c ∷ 0x0e ∷ 0x1f ∷ 0x21 ∷ 0x08 ∷ [])) (0x0b ∷ 0x0c ∷ 0x0e ∷ 0x1f ∷ 0x21 ∷ 0x08 ∷ [])
    ∷ []

pub cuts_made : Hold cuts
unfolding pick count_before kept
cuts_made = refl

-- lines end at 0a or with the text, also an empty one
pub lines_cut : map (λ (l : Span). l.from ∷ l.to ∷ []) (lines (ascii "ab\n\nc\n"))
    ≡ (0 ∷ 2 ∷ []) ∷ (3 ∷ 3 ∷ []) ∷ (4 ∷ 5 ∷ []) ∷ (6 ∷ 6 ∷ []) ∷ []
unfolding pick lines_from
lines_cut = refl

-- ---- lines, each ending at place 60, where 100 sectors came before
abbrev said : List String → List Said
said ws = map (λ w. line 100 60 (ascii w)) ws

-- access, sectors, type, name's place and length, offset
abbrev holds : ℕ → ℕ → ℕ → ℕ → ℕ → ℕ → Said
holds access sectors kind name_at name_length offset =
    Ok
    (Holds
    (record {
      first = 100;
      sectors = sectors;
      access = access;
      kind = kind;
      name_at = name_at;
      name_length = name_length;
      offset = offset;
    }))

-- an extent whose name has n bytes
abbrev named : ℕ → Said
named n = ok_or (option_map Holds (with_name 100 ReadWrite 4 Sparse 9 n 0)) BadExtent

-- createType's place and length
abbrev type_at : ℕ → ℕ → Said
type_at at length = Ok (Key (CreateType (record { at = at; length = length })))

abbrev line_examples : List (Example (List Said))
line_examples =
    -- access, sectors, type, name, offset
    example (said ("RW 1 FLAT \"a b\" 63" ∷ "RdOnly\t2 \t vmfs \"c\"" ∷ []))
    (holds 1 1 1 53 3 63 ∷ holds 2 2 2 58 1 0 ∷ [])
    ∷ example (said ("NOACCESS 2147483648 SPARSE \"c\"" ∷ "rw 0000000003 VMFSSPARSE \"c\"" ∷ "RW 4 ZERO" ∷ []))
    (holds 3 2147483648 3 58 1 0 ∷ holds 1 3 4 58 1 0 ∷ holds 1 4 5 0 0 0 ∷ [])
    ∷ example (said ("RW 4 VMFS \"c\" 4294967295" ∷ "RW 4 VMFS \"c\" 4294967296" ∷ []))
    (holds 1 4 2 47 1 4294967295 ∷ Err BadExtent ∷ [])
    -- sectors
    ∷ example (said ("RW" ∷ "RW 4" ∷ "RW x ZERO" ∷ "RW 0 ZERO" ∷ "RW 2147483649 ZERO" ∷ [])) (replicate 5 (Err BadExtent))
    -- the type, and what it has
    ∷ example (said ("RW 4 DISK \"c\"" ∷ "RW 4 ZERO 0" ∷ "RW 4 ZERO \"c\"" ∷ "RW 4 FLAT \"c\"" ∷ []))
    (replicate 4 (Err BadExtent))
    ∷ example (said ("RW 4 SPARSE \"c\" 0" ∷ "RW 4 VMFSSPARSE \"c\" 0" ∷ "RW 4 FLAT\"c\" 0" ∷ [])) (replicate 3 (Err BadExtent))
    -- a name: in quotes, closed, a byte at least; then blanks before the offset
    ∷ example (said ("RW 4 SPARSE" ∷ "RW 4 SPARSE c" ∷ "RW 4 SPARSE \"c" ∷ "RW 4 SPARSE \"\"" ∷ []))
    (replicate 4 (Err BadExtent))
    ∷ example (said ("RW 4 FLAT \"c\"0" ∷ "RW 4 FLAT \"c\" x" ∷ "RW 4 FLAT \"c\" 0 0" ∷ [])) (replicate 3 (Err BadExtent))
    -- names of 255 bytes and of 256
    ∷ example (named 255 ∷ named 256 ∷ []) (holds 1 4 3 9 255 0 ∷ Err BadExtent ∷ [])
    -- keys, and version 1 to 3
    ∷ example (said ("version = 1" ∷ "VERSION=3" ∷ "version=0" ∷ "version=4" ∷ "version=" ∷ []))
    (Ok (Key (Version 1)) ∷ Ok (Key (Version 3)) ∷ Err BadKey ∷ Err BadKey ∷ Err BadKey ∷ [])
    ∷ example (said ("CID=ffffffff" ∷ "cid \r=\r 0" ∷ "CID=100000000" ∷ "CID=" ∷ "parentCID=1F" ∷ "parentCID=x" ∷ []))
    (Ok (Key (Cid 0xffffffff)) ∷ Ok (Key (Cid 0)) ∷ Err BadKey ∷ Err BadKey ∷ Ok (Key (ParentCid 0x1f)) ∷ Err BadKey ∷ [])
    -- createType is quoted, maybe empty, and nothing stands after it
    ∷ example (said ("createType=\"custom\"" ∷ "CREATETYPE = \"\"" ∷ [])) (type_at 53 6 ∷ type_at 59 0 ∷ [])
    ∷ example (said ("createType=custom" ∷ "createType=\"custom" ∷ "createType=\"a\"b" ∷ "createType=" ∷ []))
    (replicate 4 (Err BadKey))
    -- other keys, comments and empty lines are skipped; RW=1 is a key; a line of no form
    ∷ example (said ("other=" ∷ "a=b=c" ∷ "#version=9" ∷ "" ∷ "RW=1" ∷ [])) (replicate 5 (Ok Skip))
    ∷ example (said ("word" ∷ "=1" ∷ "version 1" ∷ [])) (replicate 3 (Err NoForm))
    ∷ []

pub lines_said : Hold line_examples
unfolding pick same_word count_before kept digit_value numeral_from numeral to_quote_at quoted_length access_of type_of blanks_then_decimal_at offset_of from_name with_type with_sectors key_of version_is create_type_is value_of with_key split_at line_with
lines_said = refl

-- ---- what is known before all lines, and after one
abbrev none : Extent
none = record { first = 0; sectors = 0; access = 0; kind = 0; name_at = 0; name_length = 0; offset = 0 }

abbrev four : Extent
four = record { first = 0; sectors = 4; access = 1; kind = 5; name_at = 0; name_length = 0; offset = 0 }

abbrev state : ℕ → Bool → ℕ → ℕ → List Extent → Option ℕ → Option ℕ → Option ℕ → Option Quoted → State
state line begun extents sum records version cid parent_cid create_type =
    record {
      line = line;
      begun = begun;
      extents = extents;
      sum = sum;
      records = records;
      version = version;
      cid = cid;
      parent_cid = parent_cid;
      create_type = create_type;
    }

abbrev quoted : Quoted
quoted = record { at = 7; length = 9 }

abbrev states : List (Example State)
states =
    example start (state 0 false 0 0 (replicate 32 none) None None None None)
    ∷ example (skipped start) (state 1 false 0 0 (replicate 32 none) None None None None)
    ∷ example (opened start) (state 1 true 0 0 (replicate 32 none) None None None None)
    ∷ example (added four start) (state 1 false 1 4 (four ∷ replicate 31 none) None None None None)
    ∷ example (noted (Version 7) start) (state 1 false 0 0 (replicate 32 none) (Some 7) None None None)
    ∷ example (noted (Cid 7) start) (state 1 false 0 0 (replicate 32 none) None (Some 7) None None)
    ∷ example (noted (ParentCid 7) start) (state 1 false 0 0 (replicate 32 none) None None (Some 7) None)
    ∷ example (noted (CreateType quoted) start) (state 1 false 0 0 (replicate 32 none) None None None (Some quoted))
    ∷ []

pub states_known : Hold states
unfolding skipped opened added noted
states_known = refl

-- ---- refusals: number and place
abbrev told : TextRefusal → List ℕ
told r = text_number r ∷ text_place r ∷ []

pub refusals_told : map told
    (NoFirstLine ∷ ByteAfterZero ∷ InLine NoForm 7 ∷ InLine BadKey 7 ∷ InLine BadExtent 7 ∷ KeyMissing ∷ BadExtents ∷ [])
    ≡ (30 ∷ 0 ∷ []) ∷ (31 ∷ 0 ∷ []) ∷ (32 ∷ 7 ∷ []) ∷ (33 ∷ 7 ∷ []) ∷ (34 ∷ 7 ∷ []) ∷ (33 ∷ 0 ∷ []) ∷ (35 ∷ 0 ∷ []) ∷ []
refusals_told = refl

pub long_told : told TextTooLong ≡ 36 ∷ 0 ∷ []
long_told = refl

-- ---- the length of a text: 65,536 bytes at most
pub lengths_judged : judged_text 65536 0 0 [] ∷ judged_text 65537 0 0 [] ∷ [] ≡ Err NoFirstLine ∷ Err TextTooLong ∷ []
unfolding pick kept count_before lines_from skipped judged_line step ended judged
lengths_judged = refl

pub long_refused : (s : List ℕ) → 65536 < length s → read_text s ≡ Err TextTooLong
unfolding pick read_text
long_refused s h = rw (lt-ltb 65536 (length s) h)
