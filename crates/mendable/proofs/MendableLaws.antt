-- What judging asks on its way, each premise as the code gives it.
use Prim.Native.Nat.{ℕ, ◌+◌, ◌*◌, ◌≤◌}
use mathlib.Core.Path.{◌≡◌, refl, sym, ◌∙◌}
use mathlib.Core.List.{List}
use mathlib.Core.Bool.{Bool, true, false, not, true≢false}
use lib.ListN.{length}
use Rattle.base.specs.Pick.{pick}
use Rattle.format.specs.Areas.{areas, meet}
use Rattle.format.specs.Header.{directory_entries_of}
use Rattle.format.specs.Check.{lowest_past, lowest_bad_marker, check}
use Rattle.format.specs.Mend.{from_good, good_entry, other_entry, kinds_differ, directories_differ, mended, areas_kept_apart}
use Rattle.format.specs.Mend.{is_refused}
use Rattle.format.specs.Mend.{unmendable}
use Rattle.format.specs.Judged.{Filed, Sided}
use Rattle.format.specs.declared.Header.{Header}
use Rattle.format.specs.declared.Side.{Side}
use Rattle.format.specs.declared.Entry.{Entry}
use Rattle.format.specs.declared.Entry.TheVariants.{Absent, Zero, Sector}
use Rattle.format.proofs.Areas.{meet_apart}
use Rattle.format.proofs.Entries.{some_no}
use Rattle.format.proofs.Mendable.{not_refused, frame_apart, sided_placed, sided_two, sided_inside, accepted_unbroken}
use Rattle.format.proofs.Mendable.{unbroken_accepted}
use Rattle.format.proofs.MendedApart.{mended_changed}
use Rattle.format.proofs.PlacesKept.{primary_room, copies_room}
use Rattle.format.proofs.Picked.{true_no, no_true}
use Rattle.format.proofs.ReadAlike.{Unbroken}
use Rattle.base.proofs.Steps.{pick_both}
use Rattle.overlap.specs.InFile.{InFile}
use Rattle.mendable.specs.ChangedRefused.{unless_none, changed_refused}
use Rattle.std.specs.Prelude.{Option, Some, None}

-- ---- the law: of an image whose directories are alike in kind, 40 is 9, 10 and 12 from the good side
same_no : (a b : Bool) → (a ≡ false → b ≡ false) → (b ≡ false → a ≡ false) → a ≡ b
same_no true true f g = refl
same_no true false f g = g refl
same_no false true f g = sym (f refl)
same_no false false f g = refl

unless_no : (l : Option ℕ) (rest : Bool) → unless_none l rest ≡ false → (l ≡ None) × (rest ≡ false)
unfolding unless_none
unless_no None rest e = (refl, e)
unless_no (Some x) rest e = absurd (true≢false e)

module _ (s : List ℕ) (g : Header) (z : Sided s g) where
  unbroken_of : changed_refused s g ≡ false → Unbroken s g
  unfolding changed_refused
  unbroken_of e =
      let a = unless_no (lowest_past s g) _ e in
      let b = unless_no (lowest_bad_marker s g) _ a.1 in
      record { grains = a.0; markers = b.0; apart = b.1 }

  of_unbroken : Unbroken s g → changed_refused s g ≡ false
  unfolding changed_refused unless_none
  of_unbroken r = rw (r.grains, r.markers, r.apart)

  judged_changed : directories_differ s g ≡ false
      → pick (meet (areas_kept_apart s g)) true (is_refused (check (mended s g))) ≡ changed_refused s g
  unfolding is_refused
  judged_changed same =
      let kinds = some_no (λ d. kinds_differ (good_entry s g d) (other_entry s g d)) (directory_entries_of g) same in
      let p = sided_placed s g z in
      let two = sided_two s g z in
      same_no _ _
      (λ e.
      let both = true_no (meet (areas_kept_apart s g)) _ e in
      let apart = meet_apart (areas_kept_apart s g) both.0 in
      let a = not_refused (check (mended s g)) both.1 in
      of_unbroken (accepted_unbroken s g z (mended s g) apart (mended_changed s g p two apart) kinds a.0 a.1 a.2))
      (λ e.
      let r = unbroken_of e in
      let apart = meet_apart (areas_kept_apart s g) (frame_apart s g r.apart) in
      no_true _ _ (frame_apart s g r.apart)
      (rw (unbroken_accepted s g z (mended s g) apart (mended_changed s g p two apart) kinds r)))

  pub mendable_law : unmendable s g ≡ pick (directories_differ s g) true (changed_refused s g)
  unfolding unmendable
  mendable_law = pick_both ◌≡◌ (directories_differ s g) _ _ _ _ (λ t. refl) judged_changed

  -- ---- the code's steps
  pub good_room : (n : ℕ) → n ≡ directory_entries_of g → 512 * g.directory + 4 * n ≤ length s
  good_room n e = primary_room s g (sided_placed s g z) n e

  pub other_room : (n : ℕ) → n ≡ directory_entries_of g → 512 * g.redundant + 4 * n ≤ length s
  other_room n e = copies_room s g (sided_placed s g z) n e (sided_two s g z)

  module _ (l : Option ℕ) (e : l ≡ lowest_past s g) where
    pub past_found : (x : ℕ) → l ≡ Some x → true ≡ changed_refused s g
    unfolding changed_refused unless_none
    past_found x q = rw (← e, q)

    module _ (q : l ≡ None) where
      pub filed_of : Filed s g
      filed_of = record { placed = sided_placed s g z; none = sym e ∙ q }

      pub in_file_of : InFile s g
      in_file_of =
          record { sound = (sided_placed s g z).sound; inside = sided_inside s g z (sym e ∙ q) }

      pub past_none : {r : Bool} → r ≡ unless_none (lowest_bad_marker s g) (meet (areas s g)) → r ≡ changed_refused s g
      unfolding changed_refused unless_none
      past_none p = rw (← e, q) p

  module _ {b : Bool} (e : b ≡ directories_differ s g) where
    pub kinds_refused : b ≡ true → true ≡ unmendable s g
    unfolding pick
    kinds_refused t = sym (mendable_law ∙ rw (← e, t))

    pub rest_refused : b ≡ false → {r : Bool} → r ≡ changed_refused s g → r ≡ unmendable s g
    unfolding pick
    rest_refused f p = p ∙ sym (mendable_law ∙ rw (← e, f))

-- ---- at an arm of a match
pub side_as : (side v : Side) (h r : Header) → side ≡ v → r ≡ from_good v h → r ≡ from_good side h
side_as side v h r e q = rw e q

module _ (a b : Entry) {r : Bool} where
  pub both_absent : a ≡ Absent → b ≡ Absent → r ≡ true → not r ≡ kinds_differ a b
  unfolding kinds_differ
  both_absent e q t = rw (e, q, t)

  pub both_zero : a ≡ Zero → b ≡ Zero → r ≡ true → not r ≡ kinds_differ a b
  unfolding kinds_differ
  both_zero e q t = rw (e, q, t)

  pub both_named : (t u : ℕ) → a ≡ Sector t → b ≡ Sector u → r ≡ true → not r ≡ kinds_differ a b
  unfolding kinds_differ
  both_named t u e q y = rw (e, q, y)

  pub absent_alone : a ≡ Absent → (b ≡ Absent → ⊥) → r ≡ false → not r ≡ kinds_differ a b
  unfolding kinds_differ
  absent_alone e other f = rw (e, f) (alone b other)
    where
      alone : (b : Entry) → (b ≡ Absent → ⊥) → true ≡ kinds_differ Absent b
      alone Absent other = absurd (other refl)
      alone Zero other = refl
      alone (Sector u) other = refl

  pub zero_alone : a ≡ Zero → (b ≡ Zero → ⊥) → r ≡ false → not r ≡ kinds_differ a b
  unfolding kinds_differ
  zero_alone e other f = rw (e, f) (alone b other)
    where
      alone : (b : Entry) → (b ≡ Zero → ⊥) → true ≡ kinds_differ Zero b
      alone Absent other = refl
      alone Zero other = absurd (other refl)
      alone (Sector u) other = refl

  pub named_alone : (t : ℕ) → a ≡ Sector t → ((u : ℕ) → b ≡ Sector u → ⊥) → r ≡ false → not r ≡ kinds_differ a b
  unfolding kinds_differ
  named_alone t e other f = rw (e, f) (alone b other)
    where
      alone : (b : Entry) → ((u : ℕ) → b ≡ Sector u → ⊥) → true ≡ kinds_differ (Sector t) b
      alone Absent other = refl
      alone Zero other = refl
      alone (Sector u) other = absurd (other u refl)

module _ (l k : Option ℕ) (e : l ≡ k) (rest : Bool) where
  pub marker_found : (x : ℕ) → l ≡ Some x → true ≡ unless_none k rest
  unfolding unless_none
  marker_found x q = rw (← e, q)

  pub marker_none : l ≡ None → {r : Bool} → r ≡ rest → r ≡ unless_none k rest
  unfolding unless_none
  marker_none q p = rw (← e, q) p
