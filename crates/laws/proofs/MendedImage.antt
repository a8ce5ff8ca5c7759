-- Mending (request A7): after an answer the image is accepted, no byte differs but in entries in use of the other side's
-- tables, these have the good side's entries, and the good side has what it had; on a refusal all is as lent.
use Prim.Native.Nat.{ℕ, ◌+◌, ◌*◌, ◌/◌, ◌≤◌, ◌<◌}
use mathlib.Core.Path.{◌≡◌, refl, sym, ap, ◌∙◌}
use mathlib.Core.List.{List}
use mathlib.Core.Bool.{Bool, false}
use mathlib.Core.Logic.{inl, inr, ⊎_elim}
use native.Mathlib.Omega.{arith}
use lib.Dec.{ltb, eqb}
use lib.ListN.{length, get_or}
use borrow.Author.Tests.{ltb-false, eqb-false}
use Rattle.base.specs.Bytes.{over}
use Rattle.base.specs.Pick.{pick}
use Rattle.format.specs.Header.{header_of, directory_entries_of, judge}
use Rattle.format.specs.Entries.{entry_at, entries_in_use}
use Rattle.format.specs.Areas.{Apart, meet}
use Rattle.format.specs.Check.{misplaced, check_layout, check}
use Rattle.format.specs.Mend.{from_good, good_entry, other_entry, mended, kinds_differ, directories_differ, areas_kept_apart}
use Rattle.format.specs.Mend.{is_refused}
use Rattle.format.specs.Mend.{unmendable, changes, mended_if_room, mend_good, mend_from, mend, after_mend, mended_image}
use Rattle.format.specs.Mend.{mended_list}
use Rattle.format.specs.Judged.{Sided, Passed}
use Rattle.format.specs.declared.Header.{Header}
use Rattle.format.specs.declared.Side.{Side}
use Rattle.format.specs.declared.Entry.TheVariants.{Sector}
use Rattle.format.specs.declared.Refusal.{Refusal}
use Rattle.format.proofs.Areas.{meet_apart}
use Rattle.format.proofs.HeaderJudged.{judged_header}
use Rattle.format.proofs.Entries.{some_no}
use Rattle.format.proofs.Mendable.{not_refused, sided_placed, sided_two, same_header}
use Rattle.format.proofs.MendedApart.{Changed, mended_changed}
use Rattle.format.proofs.MendedBytes.{mended_spared}
use Rattle.format.proofs.MendedRead.{good_entry_lem, other_entry_lem, good_table}
use Rattle.format.proofs.Passed.{header_passed, layout_passed}
use Rattle.format.proofs.Picked.{passed, true_no}
use Rattle.base.proofs.Steps.{lt_or_ge}
use Rattle.laws.specs.StillOpen.{SomeAccepted}
use Rattle.laws.specs.Mended.{InUse}
use Rattle.std.specs.Prelude.{Result, Ok, Err}
use Rattle.format.specs.AnswerParts.{accepted_as}

-- ---- what an answer tells of the way to it
mended_past : (b : Bool) (r : Refusal) (y : Result ℕ Refusal) (n : ℕ) → pick b (Err r) y ≡ Ok n
    → (b ≡ false) × (y ≡ Ok n)
mended_past b r y n e = passed b (Err r) y (Ok n) (λ q. let z : ◌≡◌ {A = ℕ} 0 1 = cc in omega arith) e

same_count : (m n : ℕ) → ◌≡◌ {A = Result ℕ Refusal} (Ok m) (Ok n) → m ≡ n
same_count m n e = cc

-- s is mended from a side: g is its header as read from there
pub record Answered (s : List ℕ) (side : Side) (room n : ℕ) (g : Header) : Type 0 where
  pub sided : Sided s g
  pub is : g ≡ from_good side (header_of s)
  pub mendable : unmendable s g ≡ false
  pub fits : length (changes s g) ≤ room
  pub count : length (changes s g) / 3 ≡ n

from_answered : (s : List ℕ) (side : Side) (room n : ℕ) (a : Result Header Refusal) → judge s ≡ a → mend_from s side room a
    ≡ Ok n
    → Answered s side room n (from_good side (header_of s))
unfolding mend_from mend_good mended_if_room
from_answered s side room n (Err r) j e = let z : ◌≡◌ {A = ℕ} 0 1 = cc in absurd (omega arith)
from_answered s side room n (Ok h) j e =
    let a = mended_past (misplaced s h) _ _ n e in
    let b = mended_past (eqb h.redundant 0) _ _ n a.1 in
    let g = from_good side h in
    let c = mended_past (unmendable s g) _ _ n b.1 in
    let d = mended_past (ltb room (length (changes s g))) _ _ n c.1 in
    let two = eqb-false h.redundant 0 b.0 in
    rw (← judged_header s h j)
    (record {
      sided = record { side = side; header = h; judged = j; kept = a.0; two = two; is = refl };
      is = ap (from_good side) (judged_header s h j);
      mendable = c.0;
      fits = ltb-false room (length (changes s g)) d.0;
      count = same_count _ n d.1;
    })

module _ (s : List ℕ) (side : Side) (list : List ℕ) where
  abbrev good : Header
  good = from_good side (header_of s)

  -- ---- on a refusal all is as lent
  pub refused_kept : (r : Refusal) → mend s side (length list) ≡ Err r
      → (mended_image s side list ≡ s) × (mended_list s side list ≡ list)
  unfolding after_mend
  refused_kept r e = rw e (refl, refl)

  -- ---- after an answer
  module _ (n : ℕ) (e : mend s side (length list) ≡ Ok n) where
    pub told : Answered s side (length list) n good
    told = from_answered s side (length list) n (judge s) refl e

    pub image_is : mended_image s side list ≡ mended s good
    unfolding after_mend
    image_is = rw e

    pub list_is : mended_list s side list ≡ over list 0 (changes s good)
    unfolding after_mend
    list_is = rw e

    pub parts : (meet (areas_kept_apart s good) ≡ false) × (is_refused (check (mended s good)) ≡ false)
    unfolding unmendable
    parts = true_no _ _ (true_no (directories_differ s good) _ told.mendable).1

    pub apart : Apart (areas_kept_apart s good)
    apart = meet_apart (areas_kept_apart s good) parts.0

    pub changed : Changed s good (mended s good)
    changed =
        mended_changed s good (sided_placed s good told.sided) (sided_two s good told.sided) apart

    -- no kind of entry differs between the directories
    pub kinds : (d : ℕ) → d < directory_entries_of good → kinds_differ (good_entry s good d) (other_entry s good d) ≡ false
    unfolding unmendable
    kinds = some_no _ (directory_entries_of good) (true_no (directories_differ s good) _ told.mendable).0

    -- ---- the image is accepted, with the header that it had
    pub accepted : SomeAccepted (mended s good)
    accepted = not_refused (check (mended s good)) parts.1

    known : (h : Header) × (judge (mended s good) ≡ Ok h)
        × (check_layout (mended s good) h ≡ accepted_as accepted.0 accepted.1)
    known = header_passed (mended s good) (judge (mended s good)) accepted.0 accepted.1 accepted.2

    same : known.0 ≡ header_of s
    same =
        same_header s good told.sided (mended s good) apart changed kinds known.0 known.1
        ∙ judged_header s told.sided.header told.sided.judged

    pub mended_judged : judge (mended s good) ≡ Ok (header_of s)
    mended_judged = known.1 ∙ ap Ok same

    pub mended_passed : Passed (mended s good) (header_of s) accepted.0 accepted.1
    mended_passed = rw same at (layout_passed (mended s good) known.0 accepted.0 accepted.1 known.2)

    pub mended_accepted : check (mended_image s side list) ≡ accepted_as (header_of s).capacity (header_of s).grain_size
    mended_accepted = rw image_is (rw (mended_passed.capacity, mended_passed.size) at accepted.2)

    pub header_kept : header_of (mended_image s side list) ≡ header_of s
    header_kept = rw image_is (sym (judged_header (mended s good) (header_of s) mended_judged))

    pub mended_as_long : length (mended_image s side list) ≡ length s
    mended_as_long = rw image_is changed.rest.long

    -- no byte differs but those of the entries in use of the other side's tables
    pub else_kept : (i : ℕ) → (InUse s good i → ⊥) → get_or (mended_image s side list) i 0 ≡ get_or s i 0
    else_kept i free =
        rw image_is
        (mended_spared s good (sided_placed s good told.sided) (sided_two s good told.sided) (directory_entries_of good)
        (omega arith) i
        (λ d l u names.
        ⊎_elim (λ b. inl b)
        (λ b.
        ⊎_elim (λ c. absurd (free (record { d = d; below = l; u = u; names = names; from = b; to = c }))) (λ c. inr c)
        (lt_or_ge i (512 * u + 4 * entries_in_use good d)))
        (lt_or_ge i (512 * u))))

    -- both directories have what they had
    module _ (d : ℕ) (l : d < directory_entries_of good) where
      pub good_entry_kept : good_entry (mended_image s side list) good d ≡ good_entry s good d
      good_entry_kept =
          rw image_is
          (good_entry_lem s good (mended s good) (sided_placed s good told.sided) (sided_two s good told.sided) apart
          changed.rest d l)

      pub other_entry_kept : other_entry (mended_image s side list) good d ≡ other_entry s good d
      other_entry_kept =
          rw image_is
          (other_entry_lem s good (mended s good) (sided_placed s good told.sided) (sided_two s good told.sided) apart
          changed.rest d l)

    module _ (d : ℕ) (l : d < directory_entries_of good) (t : ℕ) (is : good_entry s good d ≡ Sector t) where
      -- the good side's tables are unchanged
      pub good_kept : (k : ℕ) → k < good.entries_per_table → entry_at (mended_image s side list) t k ≡ entry_at s t k
      good_kept k b =
          rw image_is
          (good_table s good (mended s good) (sided_placed s good told.sided) (sided_two s good told.sided) apart
          changed.rest d l t is k b)

      -- and the other side's have their entries in use
      pub other_written : (u : ℕ) → other_entry s good d ≡ Sector u → (k : ℕ) → k < entries_in_use good d
          → entry_at (mended_image s side list) u k ≡ entry_at s t k
      other_written u names k b = rw image_is (changed.moved d t u l is names k b)
