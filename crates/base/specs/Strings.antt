-- Fixed byte strings: a comparison goes through all their bytes, zeros too.
use Rattle.std.specs.Prelude.{ℕ, ◌+◌, List, [], ◌∷◌, Bool, true, false, ◌&&◌, ltb, eqb, get_or}
use Prim.Native.Char.{code}
use Prim.Native.String.{String, [] as none, ◌∷◌ as ◌then◌}
use Rattle.base.specs.Pick.{pick}

-- the bytes of w stand in s from `at` on
unfoldable pub same_at : List ℕ → ℕ → List ℕ → Bool
same_at s at [] = true
same_at s at (x ∷ w) = eqb (get_or s at 0) x && same_at s (at + 1) w

-- a byte, as a small letter if it is a capital one
abbrev pub small_letter : ℕ → ℕ
small_letter x = pick (ltb x 65) x (pick (ltb x 91) (x + 32) x)

-- w is the fixed word v, written in small letters, without regard to ASCII case
unfoldable pub same_word : List ℕ → List ℕ → Bool
same_word [] [] = true
same_word [] (y ∷ v) = false
same_word (x ∷ w) [] = false
same_word (x ∷ w) (y ∷ v) = eqb (small_letter x) y && same_word w v

-- the bytes of a text that is written out
abbrev pub ascii : String → List ℕ
ascii none = []
ascii (c then s) = code c ∷ ascii s
