-- The n bytes of an image from a place on: how many there are, what a comparison there says of them, and those of two images.
use Prim.Native.Nat.{ℕ, ◌+◌, ◌≤◌}
use mathlib.Core.Path.{◌≡◌, sym, ◌∙◌}
use mathlib.Core.List.{List}
use mathlib.Core.Bool.{true}
use native.Mathlib.Omega.{arith}
use lib.ListN.{length, drop, length-take, length-drop}
use lib.Seq.{get_or-take, get_or-drop}
use Rattle.base.specs.Bytes.{SameBytes}
use Rattle.base.specs.Strings.{same_at}
use Rattle.base.proofs.Stands.{Stands, read_bytes}
use Rattle.base.proofs.Strings.{same_bytes, bytes_same}
use Rattle.format.specs.Geometry.{bytes_at}

pub part_long : (s : List ℕ) (at n : ℕ) → at + n ≤ length s → length (bytes_at s at n) ≡ n
part_long s at n h = simp (length-take, length-drop) (omega arith)

module _ (s : List ℕ) (at n : ℕ) (w : List ℕ) (long : length w ≡ n) where
  pub same_part : at + n ≤ length s → same_at s at w ≡ true → bytes_at s at n ≡ w
  same_part h e = rw (← long) (same_bytes s at w (rw long h) e)

  pub part_same : bytes_at s at n ≡ w → same_at s at w ≡ true
  part_same e = bytes_same s at w (rw long e)

-- a part of n bytes that stands, and one in which two images agree
pub read_part : {s : List ℕ} {at : ℕ} {w : List ℕ} (n : ℕ) → length w ≡ n → Stands s at w → bytes_at s at n ≡ w
read_part n e t = rw (← e) (read_bytes t)

pub part_alike : (s t : List ℕ) (at n : ℕ) → at + n ≤ length s → at + n ≤ length t → SameBytes s t at n
    → bytes_at s at n ≡ bytes_at t at n
part_alike s t at n a b same =
    let long = part_long t at n b in
    let stands : Stands s at (bytes_at t at n) =
    record {
      inside = omega arith;
      same = λ i l.
          same (at + i) (omega arith) (omega arith)
          ∙ sym (get_or-take n (drop at t) i 0 (omega arith) ∙ get_or-drop at t i 0);
    } in
    read_part n long stands
