-- The numbers lose nothing: two answers that are told alike are equal.
use Prim.Native.Nat.{ℕ}
use mathlib.Core.Path.{◌≡◌, refl, sym, ap, ◌∙◌}
use mathlib.Core.Bool.{false}
use lib.Dec.{eqb}
use Rattle.base.specs.Pick.{pick}
use Rattle.format.specs.Answers.{number, place, verdict, marked_numbers, located, chained, written, framed, surveyed}
use Rattle.format.specs.Answers.{mended_numbers, closed_numbers}
use Rattle.format.specs.declared.MisplacedPart.{MisplacedPart}
use Rattle.format.specs.declared.MisplacedPart.TheVariants.{Descriptor, Directory, RedundantDirectory}
use Rattle.format.specs.declared.MisplacedPart.TheVariants.{PrimaryTable, RedundantTable}
use Rattle.format.specs.declared.Refusal.{Refusal}
use Rattle.format.specs.declared.Refusal.TheVariants.{TooShort, Magic, Version, Newline, Flags, Sizes, Footer, Misplaced}
use Rattle.format.specs.declared.Refusal.TheVariants.{GrainPast, Marker, CopiesDiffer, SharedSector, SectorPast}
use Rattle.format.specs.declared.Refusal.TheVariants.{TooLittleRoom, LayersDiffer, NotCollapsible, LayerLengths}
use Rattle.format.specs.declared.Refusal.TheVariants.{StillOpen, NotMendable, NotClosable, NotNormal, KindGone}
use Rattle.format.specs.declared.Refusal.TheVariants.{NotMovable, ProfileSizes}
use Rattle.format.specs.declared.Source.{Source}
use Rattle.format.specs.declared.Source.TheVariants.{Absent, Zero, Stored, Packed}
use Rattle.format.specs.declared.MarkedAnswer.{MarkedAnswer}
use Rattle.format.specs.declared.numbers.Mended.{Mended}
use Rattle.format.specs.declared.closing.Closed.{Closed}
use Rattle.format.specs.declared.numbers.Verdict.{Verdict}
use Rattle.format.specs.declared.numbers.Marked.{Marked}
use Rattle.format.specs.declared.numbers.Located.{Located}
use Rattle.format.specs.declared.numbers.Written.{Written}
use Rattle.format.specs.declared.numbers.Framed.{Framed}
use Rattle.format.specs.declared.numbers.Surveyed.{Surveyed}
use Rattle.std.specs.Prelude.{Result, Ok, Err}
use Rattle.format.specs.declared.Shape.{Shape}
use Rattle.format.specs.declared.LayerSource.{LayerSource}
use Rattle.format.specs.declared.LayerRefusal.{LayerRefusal}
use Rattle.format.specs.declared.Totals.{Totals}
use Rattle.format.specs.declared.closing.Kept.{Kept}
use Rattle.format.specs.AnswerParts.{accepted_as}
use Rattle.format.specs.AnswerParts.{refused_at}
use Rattle.format.specs.AnswerParts.{closed_as}

-- what can be told back is told without loss
lossless : {A B : Type 0} (tell : A → B) (back : B → A) → ((a : A) → back (tell a) ≡ a) → (a b : A) → tell a ≡ tell b → a ≡ b
lossless tell back h a b e = sym (h a) ∙ ap back e ∙ h b

-- ---- refusals
part_of : ℕ → MisplacedPart
part_of p =
    pick (eqb p 1) Descriptor
    (pick (eqb p 2) Directory
    (pick (eqb p 3) RedundantDirectory (pick (eqb p 4) PrimaryTable RedundantTable)))

refusal_of : ℕ → ℕ → Refusal
refusal_of n p =
    pick (eqb n 1) TooShort
    (pick (eqb n 2) Magic
    (pick (eqb n 3) Version
    (pick (eqb n 4) Newline
    (pick (eqb n 5) Flags
    (pick (eqb n 6) Sizes
    (pick (eqb n 7) Footer
    (pick (eqb n 8) (Misplaced (part_of p))
    (pick (eqb n 9) (GrainPast p)
    (pick (eqb n 10) (Marker p)
    (pick (eqb n 11) CopiesDiffer
    (pick (eqb n 12) SharedSector
    (pick (eqb n 20) SectorPast
    (pick (eqb n 21) TooLittleRoom
    (pick (eqb n 22) LayersDiffer
    (pick (eqb n 23) NotCollapsible
    (pick (eqb n 24) LayerLengths
    (pick (eqb n 27) StillOpen
    (pick (eqb n 40) NotMendable
    (pick (eqb n 41) NotClosable
    (pick (eqb n 42) (NotNormal p)
    (pick (eqb n 43) KindGone (pick (eqb n 44) NotMovable ProfileSizes))))))))))))))))))))))

-- a refusal has its number and place, and the number is not 0
record Told (r : Refusal) : Type 0 where
  back : refusal_of (number r) (place r) ≡ r
  some : eqb (number r) 0 ≡ false

told : (r : Refusal) → Told r
unfolding pick part_of refusal_of
told TooShort = record { back = refl; some = refl }
told Magic = record { back = refl; some = refl }
told Version = record { back = refl; some = refl }
told Newline = record { back = refl; some = refl }
told Flags = record { back = refl; some = refl }
told Sizes = record { back = refl; some = refl }
told Footer = record { back = refl; some = refl }
told (Misplaced Descriptor) = record { back = refl; some = refl }
told (Misplaced Directory) = record { back = refl; some = refl }
told (Misplaced RedundantDirectory) = record { back = refl; some = refl }
told (Misplaced PrimaryTable) = record { back = refl; some = refl }
told (Misplaced RedundantTable) = record { back = refl; some = refl }
told (GrainPast g) = record { back = refl; some = refl }
told (Marker g) = record { back = refl; some = refl }
told CopiesDiffer = record { back = refl; some = refl }
told SharedSector = record { back = refl; some = refl }
told SectorPast = record { back = refl; some = refl }
told TooLittleRoom = record { back = refl; some = refl }
told LayersDiffer = record { back = refl; some = refl }
told NotCollapsible = record { back = refl; some = refl }
told LayerLengths = record { back = refl; some = refl }
told StillOpen = record { back = refl; some = refl }
told NotMendable = record { back = refl; some = refl }
told NotClosable = record { back = refl; some = refl }
told (NotNormal byte) = record { back = refl; some = refl }
told KindGone = record { back = refl; some = refl }
told NotMovable = record { back = refl; some = refl }
told ProfileSizes = record { back = refl; some = refl }

pub refusal_alike : (r q : Refusal) → number r ≡ number q → place r ≡ place q → r ≡ q
refusal_alike r q e p = sym (told r).back ∙ rw (e, p) (told q).back

-- ---- the check
abbrev check_of : Verdict → Result Shape Refusal
check_of v = pick (eqb v.number 0) (accepted_as v.capacity v.grain_size) (Err (refusal_of v.number v.place))

check_back : (a : Result Shape Refusal) → check_of (verdict a) ≡ a
unfolding pick
check_back (Ok sizes) = refl
check_back (Err r) = rw ((told r).some, (told r).back)

pub check_alike : (a b : Result Shape Refusal) → verdict a ≡ verdict b → a ≡ b
check_alike = lossless verdict check_of check_back

-- ---- the check in a lent list
abbrev marked_of : Marked → MarkedAnswer
marked_of m =
    record {
      checked =
          check_of
          (record { number = m.number; place = m.place; capacity = m.capacity; grain_size = m.grain_size });
      marked = m.marked;
    }

marked_back : (a : MarkedAnswer) → marked_of (marked_numbers a) ≡ a
marked_back a = rw check_back

pub marked_alike : (a b : MarkedAnswer) → marked_numbers a ≡ marked_numbers b → a ≡ b
marked_alike = lossless marked_numbers marked_of marked_back

-- ---- the lookups
abbrev source_is : Located → Source
source_is l =
    pick (eqb l.kind 0) Absent
    (pick (eqb l.kind 1) Zero (pick (eqb l.kind 2) (Stored l.sector) (Packed l.sector l.size l.offset)))

abbrev chain_of : Located → Result LayerSource LayerRefusal
chain_of l =
    pick (eqb l.number 0) (Ok (record { layer = l.layer; source = source_is l }))
    (refused_at l.layer (refusal_of l.number l.place))

found_back : (layer : ℕ) (s : Source) → chain_of (chained (Ok (record { layer = layer; source = s })))
    ≡ Ok (record { layer = layer; source = s })
unfolding pick
found_back layer Absent = refl
found_back layer Zero = refl
found_back layer (Stored f) = refl
found_back layer (Packed m n o) = refl

chain_back : (a : Result LayerSource LayerRefusal) → chain_of (chained a) ≡ a
unfolding pick
chain_back (Ok a) = found_back a.layer a.source
chain_back (Err refused) = rw ((told refused.refusal).some, (told refused.refusal).back)

pub chain_alike : (a b : Result LayerSource LayerRefusal) → chained a ≡ chained b → a ≡ b
chain_alike = lossless chained chain_of chain_back

-- a lookup is told as a chain of one layer is
abbrev in_chain : Result Source Refusal → Result LayerSource LayerRefusal
in_chain (Ok s) = Ok (record { layer = 0; source = s })
in_chain (Err r) = refused_at 0 r

abbrev out_of_chain : Result LayerSource LayerRefusal → Result Source Refusal
out_of_chain (Ok a) = Ok a.source
out_of_chain (Err refused) = Err refused.refusal

lookup_back : (a : Result Source Refusal) → out_of_chain (chain_of (located a)) ≡ a
lookup_back (Ok s) = ap out_of_chain (chain_back (in_chain (Ok s)))
lookup_back (Err r) = ap out_of_chain (chain_back (in_chain (Err r)))

pub lookup_alike : (a b : Result Source Refusal) → located a ≡ located b → a ≡ b
lookup_alike = lossless located (λ l. out_of_chain (chain_of l)) lookup_back

-- ---- collapse and normal form
abbrev collapse_of : Written → Result ℕ Refusal
collapse_of w = pick (eqb w.number 0) (Ok w.length) (Err (refusal_of w.number w.place))

collapse_back : (a : Result ℕ Refusal) → collapse_of (written a) ≡ a
unfolding pick
collapse_back (Ok n) = refl
collapse_back (Err r) = rw ((told r).some, (told r).back)

pub collapse_alike : (a b : Result ℕ Refusal) → written a ≡ written b → a ≡ b
collapse_alike = lossless written collapse_of collapse_back

-- ---- the frame
abbrev frame_of : Framed → Result ℕ Refusal
frame_of f = pick (eqb f.number 0) (Ok f.count) (Err (refusal_of f.number f.place))

frame_back : (a : Result ℕ Refusal) → frame_of (framed a) ≡ a
unfolding pick
frame_back (Ok n) = refl
frame_back (Err r) = rw ((told r).some, (told r).back)

pub frame_alike : (a b : Result ℕ Refusal) → framed a ≡ framed b → a ≡ b
frame_alike = lossless framed frame_of frame_back

-- ---- the survey
abbrev survey_of : Surveyed → Result Totals Refusal
survey_of s =
    pick (eqb s.number 0)
    (Ok (record { stored = s.stored; zero = s.zero; absent = s.absent; packed = s.packed }))
    (Err (refusal_of s.number s.place))

survey_back : (a : Result Totals Refusal) → survey_of (surveyed a) ≡ a
unfolding pick
survey_back (Ok t) = refl
survey_back (Err r) = rw ((told r).some, (told r).back)

pub survey_alike : (a b : Result Totals Refusal) → surveyed a ≡ surveyed b → a ≡ b
survey_alike = lossless surveyed survey_of survey_back

-- ---- mending
abbrev mend_of : Mended → Result ℕ Refusal
mend_of m = pick (eqb m.number 0) (Ok m.count) (Err (refusal_of m.number m.place))

mend_back : (a : Result ℕ Refusal) → mend_of (mended_numbers a) ≡ a
unfolding pick
mend_back (Ok n) = refl
mend_back (Err r) = rw ((told r).some, (told r).back)

pub mend_alike : (a b : Result ℕ Refusal) → mended_numbers a ≡ mended_numbers b → a ≡ b
mend_alike = lossless mended_numbers mend_of mend_back

-- ---- closing
abbrev close_of : Closed → Result Kept Refusal
close_of c =
    pick (eqb c.number 0) (closed_as c.sectors c.grains c.length) (Err (refusal_of c.number c.place))

close_back : (a : Result Kept Refusal) → close_of (closed_numbers a) ≡ a
unfolding pick
close_back (Ok kept) = refl
close_back (Err r) = rw ((told r).some, (told r).back)

pub close_alike : (a b : Result Kept Refusal) → closed_numbers a ≡ closed_numbers b → a ≡ b
close_alike = lossless closed_numbers close_of close_back
