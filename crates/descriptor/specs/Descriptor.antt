-- A descriptor: what its lines say together. Refused in the order 36, 31, 30, first faulty line, missing keys, 35.
use Rattle.std.specs.Prelude.{ℕ, ◌+◌, List, [], ◌∷◌, Bool, true, false, ◌||◌, ltb, eqb, length, set, replicate}
use Rattle.std.specs.Prelude.{Option, None, Some, is_none, Result, Ok, Err}
use Rattle.base.specs.Pick.{pick}
use Rattle.base.specs.Strings.{same_word, ascii}
use Rattle.descriptor.specs.declared.Stop.TheVariants.{NotByte}
use Rattle.descriptor.specs.declared.Extent.{Extent}
use Rattle.descriptor.specs.declared.Line.TheVariants.{Skip, Holds, Key}
use Rattle.descriptor.specs.declared.KeyValue.{KeyValue}
use Rattle.descriptor.specs.declared.KeyValue.TheVariants.{Version, Cid, ParentCid, CreateType}
use Rattle.descriptor.specs.declared.LineFault.{LineFault}
use Rattle.descriptor.specs.declared.LineFault.TheVariants.{BadKey}
use Rattle.descriptor.specs.declared.TextRefusal.{TextRefusal}
use Rattle.descriptor.specs.declared.TextRefusal.TheVariants.{NoFirstLine, ByteAfterZero, InLine, KeyMissing, BadExtents}
use Rattle.descriptor.specs.declared.TextRefusal.TheVariants.{TextTooLong}
use Rattle.descriptor.specs.declared.State.{State}
use Rattle.descriptor.specs.declared.Quoted.{Quoted}
use Rattle.descriptor.specs.declared.Described.{Described}
use Rattle.descriptor.specs.declared.Parsed.{Parsed}
use Rattle.descriptor.specs.Words.{empty, count_before, trim}
use Rattle.descriptor.specs.Text.{Span, text_of, tail_of, lines, bytes_of, end_of}
use Rattle.descriptor.specs.Said.{Said}
use Rattle.descriptor.specs.Line.{line}

-- ---- what is known after some lines
-- a record before an extent fills it
abbrev pub no_extent : Extent
no_extent = record { first = 0; sectors = 0; access = 0; kind = 0; name_at = 0; name_length = 0; offset = 0 }

-- before all lines: no key has come
abbrev pub start : State
start =
    record {
      line = 0;
      begun = false;
      extents = 0;
      sum = 0;
      records = replicate 32 no_extent;
      version = None;
      cid = None;
      parent_cid = None;
      create_type = None;
    }

-- a line is skipped
unfoldable pub skipped : State → State
skipped st = record st { line = st.line + 1 }

-- a line is "# Disk DescriptorFile"
unfoldable pub opened : State → State
opened st = record st { line = st.line + 1; begun = true }

-- a line is an extent; past 32 there is no record for it
unfoldable pub added : Extent → State → State
added e st =
    record st {
      line = st.line + 1;
      extents = st.extents + 1;
      sum = st.sum + e.sectors;
      records = set st.records st.extents e;
    }

-- a line is a required key
unfoldable pub noted : KeyValue → State → State
noted (Version n) st = record st { line = st.line + 1; version = Some n }
noted (Cid n) st = record st { line = st.line + 1; cid = Some n }
noted (ParentCid n) st = record st { line = st.line + 1; parent_cid = Some n }
noted (CreateType part) st = record st { line = st.line + 1; create_type = Some part }

-- the key has not come before
abbrev pub is_new : KeyValue → State → Bool
is_new (Version n) st = is_none st.version
is_new (Cid n) st = is_none st.cid
is_new (ParentCid n) st = is_none st.parent_cid
is_new (CreateType part) st = is_none st.create_type

-- the fault of the next line
abbrev pub at_fault : LineFault → State → Result State TextRefusal
at_fault fault st = Err (InLine fault (st.line + 1))

-- required keys come once each: a second line is 33, as a malformed one is
unfoldable pub once : KeyValue → State → Result State TextRefusal
once key st = pick (is_new key st) (Ok (noted key st)) (at_fault BadKey st)

-- what a line says is taken in
abbrev pub taken : State → Said → Result State TextRefusal
taken st (Ok Skip) = Ok (skipped st)
taken st (Ok (Holds e)) = Ok (added e st)
taken st (Ok (Key key)) = once key st
taken st (Err fault) = at_fault fault st

-- ---- the lines
-- "# Disk DescriptorFile", written in small letters for `same_word`
abbrev pub signature : List ℕ
signature = ascii "# disk descriptorfile"

-- the first line that isn't empty is "# Disk DescriptorFile", else 30; later ones are taken in, an extent's first sector being
-- the sum so far
unfoldable pub judged_line : State → ℕ → List ℕ → Result State TextRefusal
judged_line st end w =
    pick st.begun (taken st (line st.sum end w))
    (pick (empty w) (Ok (skipped st)) (pick (same_word w signature) (Ok (opened st)) (Err NoFirstLine)))

-- spaces, tabs and 0d at both ends of a line are trimmed
unfoldable pub step : List ℕ → State → Span → Result State TextRefusal
step text st l = judged_line st (end_of text l) (trim (bytes_of text l))

-- ---- the end
-- no extent, over 32, or sum above 2^31
abbrev pub extents_bad : State → Bool
extents_bad st = eqb st.extents 0 || (ltb 32 st.extents || ltb 0x80000000 st.sum)

-- the answer holds the number of extents, version, CID, parentCID and createType's place and length
abbrev pub described : ℕ → ℕ → ℕ → ℕ → ℕ → ℕ → ℕ → ℕ → Described
described number place extents version cid parent_cid type_at type_length =
    record {
      number = number;
      place = place;
      extents = extents;
      version = version;
      cid = cid;
      parent_cid = parent_cid;
      type_at = type_at;
      type_length = type_length;
    }

-- no refusal: number and place 0, what the text says, and as many records as there are extents
abbrev pub accepted : State → ℕ → ℕ → ℕ → Quoted → Parsed
accepted st version cid parent_cid create_type =
    record {
      records = st.records;
      count = st.extents;
      answer = described 0 0 st.extents version cid parent_cid create_type.at create_type.length;
    }

-- a key that must have come, else 33, place 0
abbrev pub needed : {A : Type 0} → Option A → (A → Result Parsed TextRefusal) → Result Parsed TextRefusal
needed None f = Err KeyMissing
needed (Some x) f = f x

-- missing keys are 33, place 0; then 35
unfoldable pub judged_end : State → Result Parsed TextRefusal
judged_end st =
    needed st.version
    (λ version. needed st.cid
    (λ cid. needed st.parent_cid
    (λ parent_cid. needed st.create_type
    (λ create_type. pick (extents_bad st) (Err BadExtents) (Ok (accepted st version cid parent_cid create_type))))))

-- the text has ended; where no line but empty ones stood, the first line is missing, 30
unfoldable pub ended : State → Result Parsed TextRefusal
ended st = pick st.begun (judged_end st) (Err NoFirstLine)

-- ---- the whole
-- what comes next, unless there is a refusal
abbrev pub unless_refused : Result State TextRefusal → (State → Result Parsed TextRefusal) → Result Parsed TextRefusal
unless_refused (Ok st) f = f st
unless_refused (Err r) f = Err r

-- line by line, up to the first that is at fault
unfoldable pub judged : List ℕ → State → List Span → Result Parsed TextRefusal
judged text st [] = ended st
judged text st (l ∷ ls) = unless_refused (step text st l) (λ s. judged text s ls)

-- up to 65,536 bytes, else 36; all `left` bytes from the first zero byte on are zero, else 31; then the lines
abbrev pub judged_text : ℕ → ℕ → ℕ → List ℕ → Result Parsed TextRefusal
judged_text byte_count zero_count left text =
    pick (ltb 65536 byte_count) (Err TextTooLong)
    (pick (eqb zero_count left) (judged text start (lines text)) (Err ByteAfterZero))

-- what a descriptor's bytes s come to
unfoldable pub read_text : List ℕ → Result Parsed TextRefusal
read_text s = judged_text (length s) (count_before (NotByte 0) (tail_of s)) (length (tail_of s)) (text_of s)
