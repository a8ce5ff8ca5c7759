-- What a line is made of: bytes, words, numbers, quoted parts. A line and what is left of it are lists of bytes.
use Rattle.std.specs.Prelude.{ℕ, zero, suc, ◌+◌, ◌-◌, ◌*◌, List, [], ◌∷◌, Bool, not, ◌||◌, ltb, eqb, length, get_or, take, drop}
use Rattle.std.specs.Prelude.{Option, None, Some, option_and_then}
use Rattle.base.specs.Pick.{pick}
use Rattle.descriptor.specs.declared.Stop.{Stop}
use Rattle.descriptor.specs.declared.Stop.TheVariants.{Byte, NotByte, Blank, NotBlank, NotTrimmed}

-- ---- bytes
-- the bytes that the grammar calls by a name: tab, space, quote, # and =
abbrev pub tab : ℕ
tab = 0x09

abbrev pub space : ℕ
space = 0x20

abbrev pub quote : ℕ
quote = 0x22

abbrev pub hash : ℕ
hash = 0x23

abbrev pub equals : ℕ
equals = 0x3d

-- spaces or tabs stand between words
abbrev pub blank : ℕ → Bool
blank x = eqb x space || eqb x tab

-- spaces, tabs and 0d are trimmed
abbrev pub trimmed : ℕ → Bool
trimmed x = blank x || eqb x 0x0d

-- a run of bytes stops at the byte x
abbrev pub stops : Stop → ℕ → Bool
stops (Byte b) x = eqb x b
stops (NotByte b) x = not (eqb x b)
stops Blank x = blank x
stops NotBlank x = not (blank x)
stops NotTrimmed x = not (trimmed x)

-- ---- parts of a line
-- w has no byte
abbrev pub empty : List ℕ → Bool
empty w = eqb (length w) 0

-- the first byte of w is b
abbrev pub begins : ℕ → List ℕ → Bool
begins b w = eqb (get_or w 0 0) b

-- how many bytes stand before the first at which a run stops; all of them if it stops at none
unfoldable pub count_before : Stop → List ℕ → ℕ
count_before stop [] = 0
count_before stop (x ∷ w) = pick (stops stop x) 0 (count_before stop w + 1)

-- the bytes before that one
abbrev pub before : Stop → List ℕ → List ℕ
before stop w = take (count_before stop w) w

-- the bytes from that one on
abbrev pub rest : Stop → List ℕ → List ℕ
rest stop w = drop (count_before stop w) w

-- spaces, tabs and 0d trimmed at the start
abbrev pub trim_start : List ℕ → List ℕ
trim_start w = rest NotTrimmed w

-- how many of the first n bytes are left, without those at their end that are trimmed
unfoldable pub kept : List ℕ → ℕ → ℕ
kept w zero = 0
kept w (suc n) = pick (stops NotTrimmed (get_or w n 0)) (suc n) (kept w n)

-- spaces, tabs and 0d trimmed at the end
abbrev pub trim_end : List ℕ → List ℕ
trim_end w = take (kept w (length w)) w

-- trimmed at both ends
abbrev pub trim : List ℕ → List ℕ
trim w = trim_start (trim_end w)

-- the first word is what stands before the first space or tab
abbrev pub word : List ℕ → List ℕ
word w = before Blank w

-- what stands after the first word and after the spaces or tabs behind it
abbrev pub after_word : List ℕ → List ℕ
after_word w = rest NotBlank (rest Blank w)

-- ---- numbers
-- what a digit is worth, 0 to 9 and a to f of either case; nothing for any other byte
unfoldable pub digit_value : ℕ → Option ℕ
digit_value x =
    pick (ltb x 0x30) None
    (pick (ltb x 0x3a) (Some (x - 0x30))
    (pick (ltb x 0x41) None
    (pick (ltb x 0x47) (Some (x - 0x37)) (pick (ltb x 0x61) None (pick (ltb x 0x67) (Some (x - 0x57)) None)))))

-- the number that digits of a base make, read on from n; none if a byte is no digit of the base
unfoldable pub numeral_from : ℕ → ℕ → List ℕ → Option ℕ
numeral_from base n [] = Some n
numeral_from base n (x ∷ w) =
    option_and_then (λ d. pick (ltb d base) (numeral_from base (base * n + d) w) None) (digit_value x)

-- 1 to `most` digits of a base and nothing else; none if w is no such number
unfoldable pub numeral : ℕ → ℕ → List ℕ → Option ℕ
numeral base most w = pick (empty w) None (pick (ltb most (length w)) None (numeral_from base 0 w))

-- decimals have 1 to 10 digits
abbrev pub decimal_value : List ℕ → Option ℕ
decimal_value w = numeral 10 10 w

-- 1 to 8 hex digits
abbrev pub hex : List ℕ → Option ℕ
hex w = numeral 16 8 w

-- ---- quoted parts
-- n of `long` bytes stand before the next quote; none if n is all of them, since then there is no quote
unfoldable pub to_quote_at : ℕ → ℕ → Option ℕ
to_quote_at n long = pick (eqb n long) None (Some n)

-- how many bytes stand before the closing quote, the next one: so a quoted part has no quote inside
abbrev pub to_quote : List ℕ → Option ℕ
to_quote w = to_quote_at (count_before (Byte quote) w) (length w)

-- the length of the quoted part that w begins with, its quotes not counted; none if w, empty or not, begins with no such part
unfoldable pub quoted_length : List ℕ → Option ℕ
quoted_length w = pick (empty w) None (pick (begins quote w) (to_quote (drop 1 w)) None)

-- its place is that of the byte after the opening quote: w is the end of a line, which ends at `end`
abbrev pub quoted_place : ℕ → List ℕ → ℕ
quoted_place end w = end - length w + 1

-- what stands after the closing quote of a quoted part of n bytes
abbrev pub after_quoted : ℕ → List ℕ → List ℕ
after_quoted n w = drop (n + 2) w
