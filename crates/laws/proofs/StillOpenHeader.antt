-- The header of an image with another dirty number is its header with that number, where the footer, if it has one, is judged
-- alike.
use Prim.Native.Nat.{ℕ, ◌+◌, ◌≤◌}
use mathlib.Core.Path.{◌≡◌, refl, sym, ◌∙◌}
use mathlib.Core.List.{List}
use mathlib.Core.Bool.{true, true≢false}
use native.Mathlib.Omega.{arith}
use lib.Dec.{ltb}
use lib.ListN.{length}
use Rattle.base.specs.Numbers.{le_at}
use Rattle.base.specs.Strings.{same_at}
use Rattle.base.proofs.Steps.{pick_both}
use Rattle.format.specs.Kdmv.{kdmv_magic, newline_bytes, kdmv_fields, at_end, kdmv_fault, footer_broken, footer_directory}
use Rattle.format.specs.Header.{kdmv_header, directory_of, kdmv_header_of, unless_fault, with_footer}
use Rattle.format.specs.Header.{judge_kdmv, judge_of, judge}
use Rattle.format.specs.declared.KdmvFields.{KdmvFields}
use Rattle.format.specs.declared.Header.{Header}
use Rattle.base.specs.Bytes.{SameBytes}
use Rattle.base.proofs.SameBytes.{within, number_same, string_same}
use Rattle.laws.proofs.StillOpenUsed.{with_dirty, answer_with}
use Rattle.std.specs.Prelude.{Result, Ok, Err}
use Rattle.format.specs.declared.Refusal.{Refusal}

-- ---- the steps of a judgement
abbrev With : ℕ → Result Header Refusal → Result Header Refusal → Type 0
With n a b = a ≡ answer_with n b

fault_with : (n : ℕ) (f : Result (Unit {0}) Refusal) (a b : Result Header Refusal) → With n a b
    → With n (unless_fault f a) (unless_fault f b)
unfolding unless_fault answer_with
fault_with n (Ok tt) a b e = e
fault_with n (Err r) a b e = refl

-- ---- KDMV: sector 0 but for byte 72
module _ (s t : List ℕ) (long : length s ≡ length t) (front : SameBytes s t 0 72) (back : SameBytes s t 73 6)
    (magic : same_at s 0 kdmv_magic ≡ true)
    -- the footer is judged alike, and tells the same directory
    (foot : at_end (kdmv_fields s) ≡ true → (footer_directory s ≡ footer_directory t) × (footer_broken s ≡ footer_broken t))
  where
    number : (at n : ℕ) → at + n ≤ 72 → le_at s at n ≡ le_at t at n
    number at n l = number_same s t at n (within s t 0 72 at n front (omega arith) l)

    unfoldable kdmv_with : KdmvFields
    kdmv_with =
        record {
          version = (kdmv_fields s).version;
          flags = (kdmv_fields s).flags;
          capacity = (kdmv_fields s).capacity;
          grain_size = (kdmv_fields s).grain_size;
          descriptor = (kdmv_fields s).descriptor;
          descriptor_sectors = (kdmv_fields s).descriptor_sectors;
          entries_per_table = (kdmv_fields s).entries_per_table;
          redundant = (kdmv_fields s).redundant;
          directory = (kdmv_fields s).directory;
          dirty = le_at t 72 1;
          newline = (kdmv_fields s).newline;
          compression = (kdmv_fields s).compression;
        }

    kdmv_fields_with : kdmv_fields t ≡ kdmv_with
    unfolding kdmv_fields kdmv_with
    kdmv_fields_with =
        rw (
          number 4 4 (omega arith),
          number 8 4 (omega arith),
          number 12 8 (omega arith),
          number 20 8 (omega arith),
          number 28 8 (omega arith),
          number 36 8 (omega arith),
          number 44 4 (omega arith),
          number 48 8 (omega arith),
          number 56 8 (omega arith),
          string_same s t 73 newline_bytes (within s t 73 6 73 4 back (omega arith) (omega arith)),
          number_same s t 77 2 (within s t 73 6 77 2 back (omega arith) (omega arith)),
        )

    directory_with : directory_of t kdmv_with ≡ directory_of s (kdmv_fields s)
    unfolding directory_of kdmv_with
    directory_with = pick_both ◌≡◌ (at_end (kdmv_fields s)) _ _ _ _ (λ e. sym (foot e).0) (λ n. refl)

    header_with : kdmv_header_of t ≡ with_dirty (le_at t 72 1) (kdmv_header_of s)
    unfolding kdmv_header with_dirty kdmv_with
    header_with = rw (kdmv_fields_with, directory_with)

    footer_with : (h : Header) → With (le_at t 72 1) (with_footer t (at_end (kdmv_fields s)) (with_dirty (le_at t 72 1) h))
        (with_footer s (at_end (kdmv_fields s)) h)
    unfolding with_footer answer_with
    footer_with h =
        pick_both (With (le_at t 72 1)) (at_end (kdmv_fields s)) _ _ _ _
        (λ e. rw (← (foot e).1) (pick_both (With (le_at t 72 1)) (footer_broken s) _ _ _ _ (λ b. refl) (λ b. refl)))
        (λ n. refl)

    judge_kdmv_with : With (le_at t 72 1) (judge_kdmv t) (judge_kdmv s)
    unfolding judge_kdmv answer_with kdmv_with kdmv_fault
    judge_kdmv_with =
        rw (← long, header_with, kdmv_fields_with)
        (pick_both (With (le_at t 72 1)) (ltb (length s) 512) _ _ _ _ (λ q. refl)
        (λ q. fault_with _ (kdmv_fault (kdmv_fields s)) _ _ (footer_with (kdmv_header_of s))))

    pub kdmv_with_lem : judge t ≡ answer_with (le_at t 72 1) (judge s)
    unfolding judge_of answer_with
    kdmv_with_lem =
        rw (← long, ← string_same s t 0 kdmv_magic (within s t 0 72 0 4 front (omega arith) (omega arith)))
        (pick_both (With (le_at t 72 1)) (ltb (length s) 4) _ _ _ _ (λ q. refl)
        (λ q.
        pick_both (With (le_at t 72 1)) (same_at s 0 kdmv_magic) _ _ _ _ (λ m. judge_kdmv_with)
        (λ n. absurd (true≢false (sym magic ∙ n)))))
