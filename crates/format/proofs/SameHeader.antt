-- What a header is read from: the first sector and, where there is a footer, the last two. Images of one length that agree
-- there have the same header.
use Prim.Native.Nat.{ℕ, ◌+◌, ◌≤◌}
use mathlib.Core.Path.{◌≡◌, refl, sym, ◌∙◌}
use mathlib.Core.List.{List}
use mathlib.Core.Bool.{true, true≢false}
use native.Mathlib.Omega.{arith}
use lib.ListN.{length}
use Rattle.base.specs.Numbers.{le_at}
use Rattle.base.specs.Pick.{pick}
use Rattle.base.specs.Strings.{same_at}
use Rattle.base.specs.Bytes.{zeros}
use Rattle.base.proofs.Over.{zeros_length}
use Rattle.base.proofs.Steps.{pick_both}
use Rattle.format.specs.Geometry.{file_sectors, bytes_at}
use Rattle.format.specs.Kdmv.{kdmv_magic, newline_bytes, kdmv_fields, at_end, footer_at, last_at, footer_directory}
use Rattle.format.specs.Kdmv.{footer_broken}
use Rattle.format.specs.Cowd.{cowd_magic, cowd_fields}
use Rattle.format.specs.Header.{kdmv_header, cowd_header, directory_of, header_of, with_footer, judge_kdmv, kind_gone}
use Rattle.format.specs.Header.{judge_cowd}
use Rattle.format.specs.Header.{judge_of, judge}
use Rattle.format.specs.declared.Taken.TheVariants.{KdmvAlone}
use Rattle.format.specs.declared.Header.{Header}
use Rattle.format.proofs.BytesAt.{part_long}
use Rattle.base.specs.Bytes.{SameBytes}
use Rattle.base.proofs.SameBytes.{within, number_same, string_same, part_same}

-- the sizes stand in the first 28 bytes
pub front_sizes : (s t : List ℕ) → SameBytes s t 0 28
    → ((header_of s).capacity ≡ (header_of t).capacity) × ((header_of s).grain_size ≡ (header_of t).grain_size)
unfolding header_of kdmv_header cowd_header kdmv_fields cowd_fields
front_sizes s t front =
    let number : (at n : ℕ) → at + n ≤ 28 → le_at s at n ≡ le_at t at n =
    λ at n l. number_same s t at n (within s t 0 28 at n front (omega arith) l) in
    rw (← string_same s t 0 kdmv_magic (within s t 0 28 0 4 front (omega arith) (omega arith)))
    (pick_both (λ (h k : Header). (h.capacity ≡ k.capacity) × (h.grain_size ≡ k.grain_size)) (same_at s 0 kdmv_magic)
    _ _ _ _ (λ m. (number 12 8 (omega arith), number 20 8 (omega arith)))
    (λ n. (number 12 4 (omega arith), number 16 4 (omega arith))))

-- all that a header tells
pub record SameFields (s t : List ℕ) : Type 0 where
  pub long : length s ≡ length t
  pub some : 1 ≤ file_sectors s
  pub head : SameBytes s t 0 512
  pub foot : same_at s 0 kdmv_magic ≡ true → at_end (kdmv_fields s) ≡ true → SameBytes s t (footer_at s) 512

-- and all that is judged of it
pub record SameHead (s t : List ℕ) : Type 0 where
  pub fields : SameFields s t
  pub last : same_at s 0 kdmv_magic ≡ true → at_end (kdmv_fields s) ≡ true → SameBytes s t (last_at s) 512

-- ---- what stands in the first sector
module _ (s t : List ℕ) (head : SameBytes s t 0 512) where
  number : (at n : ℕ) → at + n ≤ 512 → le_at s at n ≡ le_at t at n
  number at n l = number_same s t at n (within s t 0 512 at n head (omega arith) l)

  pub string : (at : ℕ) (w : List ℕ) → at + length w ≤ 512 → same_at s at w ≡ same_at t at w
  string at w l = string_same s t at w (within s t 0 512 at (length w) head (omega arith) l)

  pub kdmv_same : kdmv_fields s ≡ kdmv_fields t
  unfolding kdmv_fields
  kdmv_same =
      rw (
        number 4 4 (omega arith),
        number 8 4 (omega arith),
        number 12 8 (omega arith),
        number 20 8 (omega arith),
        number 28 8 (omega arith),
        number 36 8 (omega arith),
        number 44 4 (omega arith),
        number 48 8 (omega arith),
        number 56 8 (omega arith),
        number 72 1 (omega arith),
        string 73 newline_bytes (omega arith),
        number 77 2 (omega arith),
      )

module _ (s t : List ℕ) (both : SameFields s t) where
  footer_directory_lem : SameBytes s t (footer_at s) 512 → footer_directory s ≡ footer_directory t
  footer_directory_lem foot =
      rw (
        number_same s t (footer_at s + 56) 8
            (within s t (footer_at s) 512 (footer_at s + 56) 8 foot (omega arith) (omega arith)),
        both.long,
      )

  directory_same : same_at s 0 kdmv_magic ≡ true → directory_of s (kdmv_fields s) ≡ directory_of t (kdmv_fields s)
  unfolding directory_of
  directory_same kdmv =
      pick_both ◌≡◌ (at_end (kdmv_fields s)) _ _ _ _ (λ e. footer_directory_lem (both.foot kdmv e)) (λ n. refl)

  pub kdmv_header_same : same_at s 0 kdmv_magic ≡ true → header_of s ≡ header_of t
  unfolding header_of
  kdmv_header_same kdmv =
      rw (← string s t both.head 0 kdmv_magic (omega arith), ← kdmv_same s t both.head, ← directory_same kdmv)
      (pick_both ◌≡◌ (same_at s 0 kdmv_magic) _ _ _ _ (λ m. refl) (λ n. absurd (true≢false (sym kdmv ∙ n))))

  pub head_sizes : ((header_of s).capacity ≡ (header_of t).capacity) × ((header_of s).grain_size ≡ (header_of t).grain_size)
  head_sizes = front_sizes s t (within s t 0 512 0 28 both.head (omega arith) (omega arith))

module _ (s t : List ℕ) (all : SameHead s t) where
  both : SameFields s t
  both = all.fields

  -- ---- where there is a footer
  footer_same : SameBytes s t (footer_at s) 512 → SameBytes s t (last_at s) 512 → footer_broken s ≡ footer_broken t
  unfolding footer_broken
  footer_same foot last =
      let f : 512 ≤ length s = omega (arith, both.some) in
      let a : length (bytes_at s 0 56) ≡ 56 = part_long s 0 56 (omega arith) in
      let b : length (bytes_at s 64 448) ≡ 448 = part_long s 64 448 (omega arith) in
      rw (
        string_same s t (footer_at s) (bytes_at s 0 56)
            (within s t (footer_at s) 512 (footer_at s) _ foot (omega arith) (omega arith)),
        string_same s t (footer_at s + 64) (bytes_at s 64 448)
            (within s t (footer_at s) 512 (footer_at s + 64) _ foot (omega arith) (omega arith)),
        part_same s t 0 56 both.long (within s t 0 512 0 56 both.head (omega arith) (omega arith)),
        part_same s t 64 448 both.long (within s t 0 512 64 448 both.head (omega arith) (omega arith)),
        string_same s t (last_at s) (zeros 512) (rw (zeros_length 512) last),
        footer_directory_lem s t both foot,
        both.long,
      )

  module _ (kdmv : same_at s 0 kdmv_magic ≡ true) where
    with_footer_same : (h : Header) → with_footer s (at_end (kdmv_fields s)) h ≡ with_footer t (at_end (kdmv_fields s)) h
    unfolding with_footer
    with_footer_same h =
        pick_both ◌≡◌ (at_end (kdmv_fields s)) _ _ _ _ (λ e. rw (footer_same (both.foot kdmv e) (all.last kdmv e)))
        (λ n. refl)

    judge_kdmv_same : judge_kdmv s ≡ judge_kdmv t
    unfolding judge_kdmv
    judge_kdmv_same = rw (← both.long, ← kdmv_same s t both.head, directory_same s t both kdmv, with_footer_same)

  -- COWD is judged by its length alone
  pub judge_cowd_same : judge_cowd KdmvAlone s ≡ judge_cowd KdmvAlone t
  unfolding judge_cowd kind_gone pick
  judge_cowd_same = rw both.long

  pub judge_same : judge s ≡ judge t
  unfolding judge_of
  judge_same =
      rw (
        ← both.long,
        ← string s t both.head 0 kdmv_magic (omega arith),
        ← string s t both.head 0 cowd_magic (omega arith),
      )
      (pick_both ◌≡◌ _ _ _ _ _ (λ q. refl)
      (λ n.
      pick_both ◌≡◌ (same_at s 0 kdmv_magic) _ _ _ _ judge_kdmv_same
      (λ m. pick_both ◌≡◌ (same_at s 0 cowd_magic) _ _ _ _ (λ c. judge_cowd_same) (λ c. refl))))
