-- An accepted text's extents: each first sector is the sum of the sectors before it; each sector below the sum of all has one
-- extent that holds it, and the second call, on the list that the first one handed over, finds it; any other sector is 20.
use Prim.Native.Nat.{ℕ, ◌≤◌, ◌<◌}
use mathlib.Core.Path.{◌≡◌, refl, sym, ap, subst, ◌∙◌}
use mathlib.Core.List.{List, [], ◌++◌, append-nil}
use mathlib.Core.Bool.{true, false}
use mathlib.Core.Logic.{⊎_elim}
use native.Mathlib.Omega.{arith}
use native.Mathlib.Nat.{zero-add}
use lib.ListN.{length, get_or, take, drop}
use lib.Seq.{length-take-le, take-append_seam}
use Rattle.base.specs.Pick.{pick}
use Rattle.base.proofs.Steps.{true_or_false}
use Rattle.descriptor.specs.declared.Extent.{Extent}
use Rattle.descriptor.specs.declared.State.{State}
use Rattle.std.specs.Prelude.{Result, Ok, Err}
use Rattle.std.specs.Result.{result_map_both}
use Rattle.descriptor.specs.declared.Parsed.{Parsed}
use Rattle.descriptor.specs.declared.LineFault.TheVariants.{NoForm, BadKey, BadExtent}
use Rattle.descriptor.specs.declared.TextRefusal.{TextRefusal}
use Rattle.descriptor.specs.declared.TextRefusal.TheVariants.{NoFirstLine, ByteAfterZero, InLine, KeyMissing, BadExtents}
use Rattle.descriptor.specs.declared.TextRefusal.TheVariants.{TextTooLong}
use Rattle.descriptor.specs.Said.{text_number}
use Rattle.descriptor.specs.Descriptor.{no_extent, read_text}
use Rattle.descriptor.specs.Records.{fits, answered, descriptor_answer, descriptor_list}
use Rattle.descriptor.specs.Records.{found_at, not_found, find_answer}
use Rattle.laws.proofs.ExtentsLaid.{sectors_of, Holder, Laid, laid_sum, laid_first, none_past, Met, meets}
use Rattle.laws.proofs.ExtentsRead.{Read, text_read}

-- ---- an answer without a refusal
-- a refusal's number is none of an answer
some_number : (r : TextRefusal) → text_number r ≡ 0 → ⊥
some_number NoFirstLine e = omega arith
some_number ByteAfterZero e = omega arith
some_number (InLine NoForm line) e = omega arith
some_number (InLine BadKey line) e = omega arith
some_number (InLine BadExtent line) e = omega arith
some_number KeyMissing e = omega arith
some_number BadExtents e = omega arith
some_number TextTooLong e = omega arith

-- what the text comes to, whose records had room in the list
pub record Taken (r : Result Parsed TextRefusal) (list : List Extent) : Type 0 where
  pub p : Parsed
  pub read : r ≡ Ok p
  pub room : fits list p.count ≡ true

taken_of : (r : Result Parsed TextRefusal) (list : List Extent) → (answered r list).number ≡ 0 → Taken r list
unfolding answered pick
taken_of (Ok p) list e =
    ⊎_elim (λ t. record { p = p; read = refl; room = t }) (λ f. let z : 21 ≡ 0 = rw f at e in absurd (omega arith))
    (true_or_false (fits list p.count))
taken_of (Err r) list e = absurd (some_number r e)

-- ---- of an accepted text
module _ (s : List ℕ) (list : List Extent) (ok : (descriptor_answer s list).number ≡ 0) where
  -- the records that the first call stored
  abbrev pub handed_over : List Extent
  handed_over = take (descriptor_answer s list).extents (descriptor_list s list)

  pub taken : Taken (read_text s) list
  taken = taken_of (read_text s) list ok

  abbrev pub p : Parsed
  p = taken.p

  read : Read p
  read = text_read s p taken.read

  -- the answer's number of extents is theirs: 1 to 32
  pub extents_are : (descriptor_answer s list).extents ≡ p.count
  unfolding answered pick
  extents_are = rw (taken.read, taken.room) read.told

  pub some_are : 0 < (descriptor_answer s list).extents
  some_are = subst (λ (n : ℕ). 0 < n) (sym extents_are) read.some

  pub few_are : (descriptor_answer s list).extents ≤ 32
  few_are = subst (λ (n : ℕ). n ≤ 32) (sym extents_are) read.few

  -- ---- the list
  list_is : descriptor_list s list ≡ take p.count p.records ++ drop p.count list
  unfolding pick
  list_is = rw (taken.read, taken.room)

  front_long : length (take p.count p.records) ≡ (descriptor_answer s list).extents
  front_long =
      length-take-le p.count p.records (subst (λ (n : ℕ). p.count ≤ n) (sym read.slots) read.few)
      ∙ sym extents_are

  handed_is : handed_over ≡ take p.count p.records
  handed_is =
      rw (list_is, ← front_long) (take-append_seam (take p.count p.records) (drop p.count list))

  handed_long : length handed_over ≡ (descriptor_answer s list).extents
  handed_long = rw handed_is front_long

  laid : Laid 0 handed_over read.sum
  laid = subst (λ (es : List Extent). Laid 0 es read.sum) (sym handed_is) read.laid

  sum_is : sectors_of handed_over ≡ read.sum
  sum_is = sym (zero-add _) ∙ laid_sum 0 read.sum handed_over laid

  -- ---- the promises
  -- each extent's first sector is the sum of those before it
  pub first_sectors : (i : ℕ)
      → i < (descriptor_answer s list).extents
      → (get_or handed_over i no_extent).first ≡ sectors_of (take i handed_over)
  first_sectors i h =
      laid_first 0 read.sum handed_over i laid (subst (λ (n : ℕ). i < n) (sym handed_long) h) ∙ zero-add _

  -- the sum of all is at most 2^31
  pub sum_small : sectors_of handed_over ≤ 0x80000000
  sum_small = subst (λ (n : ℕ). n ≤ 0x80000000) (sym sum_is) read.small

  module _ (sector : ℕ) where
    -- below it, exactly one extent holds the sector
    met : sector < sectors_of handed_over → Met handed_over sector
    met h = meets 0 read.sum handed_over sector laid (omega arith) (subst (λ (n : ℕ). sector < n) sum_is h)

    pub one_holds : sector < sectors_of handed_over → Holder handed_over sector
    one_holds h = (met h).holder

    -- and the second call finds it, also in the whole list, whatever the records past the last held
    pub found : (h : sector < sectors_of handed_over) → find_answer handed_over sector ≡ found_at (one_holds h).number
    unfolding one_holds
    found h =
        ap (λ (es : List Extent). find_answer es sector) (sym (append-nil handed_over))
        ∙ (met h).found [] 0 ∙ ap found_at (zero-add _)

    pub found_in_list : (h : sector < sectors_of handed_over)
        → find_answer (descriptor_list s list) sector ≡ found_at (one_holds h).number
    unfolding one_holds
    found_in_list h =
        ap (λ (es : List Extent). find_answer es sector)
        (list_is ∙ ap (λ (es : List Extent). es ++ drop p.count list) (sym handed_is))
        ∙ (met h).found (drop p.count list) 0
        ∙ ap found_at (zero-add _)

    -- at or past it, none does: 20
    pub none_found : sectors_of handed_over ≤ sector → find_answer handed_over sector ≡ not_found
    none_found h = none_past 0 read.sum handed_over sector 0 laid (subst (λ (n : ℕ). n ≤ sector) sum_is h)
