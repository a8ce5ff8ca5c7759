-- Each contract of the C face determines its answer and all lent memory.
use mathlib.Core.Path.{◌≡◌, refl, subst, ap, ◌∙◌}
use seplogic.Ra.Ura.{Ura}
use base.Logic.{SProp, ent, sep, emp, id⊢, via, mono∗, fst∗, snd∗, emp∗, ex_e}
use types.Logic.{Logic, sem}
use contract.Monad.{fact, fact_i, fact_mono, fact_use}
use denote.Triple.Clauses.{Ended, AtExit, Lasts, at_exit, lasts}
use denote.Triple.Spec.{exits}
use Rattle.exports.specs.Outcome.{ContractOf, Lifetimes, Arguments, Answer, Determined}
use Rattle.exports.specs.contracts.anhkhovet_check as check
use Rattle.exports.specs.contracts.anhkhovet_check_in as check_in
use Rattle.exports.specs.contracts.anhkhovet_header as header
use Rattle.exports.specs.contracts.anhkhovet_lookup as lookup
use Rattle.exports.specs.contracts.anhkhovet_steps as steps
use Rattle.exports.specs.contracts.anhkhovet_chain as chain
use Rattle.exports.specs.contracts.anhkhovet_read as read
use Rattle.exports.specs.contracts.anhkhovet_frame as frame
use Rattle.exports.specs.contracts.anhkhovet_normal as normal
use Rattle.exports.specs.contracts.anhkhovet_collapse as collapse
use Rattle.exports.specs.contracts.anhkhovet_to_kdmv as to-kdmv
use Rattle.exports.specs.contracts.anhkhovet_to_cowd as to-cowd
use Rattle.exports.specs.contracts.anhkhovet_profile as profile
use Rattle.exports.specs.contracts.anhkhovet_close as close
use Rattle.exports.specs.contracts.lists.anhkhovet_survey as survey
use Rattle.exports.specs.contracts.lists.anhkhovet_mend as mend
use Rattle.exports.specs.contracts.extents.anhkhovet_descriptor as descriptor
use Rattle.exports.specs.contracts.extents.anhkhovet_find as find
use Rattle.exports.specs.contracts.extents.anhkhovet_split as split

-- what is ensured at exit says one answer and one last content, where all that a clause allows is these
module _ {M : Type 1} {𝓤 : Ura M} (𝓛 : Logic 𝓤) (T : Ended) (κs : Lifetimes T) (a : Arguments T κs)
    (r x : Answer T κs) (last : Lasts T κs a) (Q : AtExit T κs → SProp 𝓤) where
  abbrev Ends : Lasts T κs a → SProp 𝓤
  Ends ws = sem 𝓛 (lasts T κs a ws)

  abbrev Said : Lasts T κs a → SProp 𝓤
  Said ws = Q (at_exit T κs a ws)

  settled : ((ws : Lasts T κs a) → ent 𝓤 (Said ws) (fact 𝓤 ((r ≡ x) × (ws ≡ last))))
      → ent 𝓤 (exits 𝓛 T.signature T.kept κs a Q) (sep 𝓤 (fact 𝓤 (r ≡ x)) (Ends last))
  settled told = ex_e 𝓤 (λ ws. sep 𝓤 (Ends ws) (Said ws)) (λ ws.
      fact_use 𝓤 ((r ≡ x) × (ws ≡ last)) (via 𝓤 (Said ws) (snd∗ 𝓤 (Ends ws) (Said ws)) (told ws))
      (λ e. via 𝓤 (Ends ws) (fst∗ 𝓤 (Ends ws) (Said ws)) (via 𝓤 (sep 𝓤 (emp 𝓤) (Ends ws)) (emp∗ 𝓤 (Ends ws))
      (mono∗ 𝓤 (fact_i 𝓤 (r ≡ x) (emp 𝓤) e.0) (subst (λ us. ent 𝓤 (Ends ws) (Ends us)) e.1 (id⊢ 𝓤 (Ends ws)))))))

module _ (T : Ended) where
  abbrev Clause : Type 2
  Clause = (M : Type 1) (𝓤 : Ura M) (κs : Lifetimes T) → Arguments T κs → Answer T κs → AtExit T κs → SProp 𝓤

  -- the contract with no `requires`, and one `ensures`
  abbrev Ensures : Clause → ContractOf T
  Ensures Q M 𝓤 𝓛 mem run κs a = record {
    ghost = Unit {0};
    requires = λ g. emp 𝓤;
    ensures = λ g r. exits 𝓛 T.signature T.kept κs a (Q M 𝓤 κs a r);
  }

  module _ (answer : (κs : Lifetimes T) → Arguments T κs → Answer T κs) where
    determined : (Q : Clause) (last : (κs : Lifetimes T) (a : Arguments T κs) → Lasts T κs a)
        → ((M : Type 1) (𝓤 : Ura M) (κs : Lifetimes T) (a : Arguments T κs) (r : Answer T κs) (ws : Lasts T κs a)
        → ent 𝓤 (Q M 𝓤 κs a r (at_exit T κs a ws)) (fact 𝓤 ((r ≡ answer κs a) × (ws ≡ last κs a))))
        → Determined T (Ensures Q)
    determined Q last told κs a = (
      answer κs a,
      last κs a,
      λ M 𝓤 𝓛 mem run. (
        tt,
        id⊢ 𝓤 (emp 𝓤),
        λ r.
            settled 𝓛 T κs a r (answer κs a) (last κs a) (Q M 𝓤 κs a r) (told M 𝓤 κs a r),
      ),
    )

    -- it says the answer, and no lent memory may be written
    answered : (last : (κs : Lifetimes T) (a : Arguments T κs) → Lasts T κs a)
        → ((κs : Lifetimes T) (a : Arguments T κs) (ws : Lasts T κs a) → ws ≡ last κs a)
        → Determined T (Ensures (λ M 𝓤 κs a r e. fact 𝓤 (r ≡ answer κs a)))
    answered last none = determined (λ M 𝓤 κs a r e. fact 𝓤 (r ≡ answer κs a)) last (λ M 𝓤 κs a r ws.
        fact_mono 𝓤 (r ≡ answer κs a) ((r ≡ answer κs a) × (ws ≡ last κs a)) (λ e. (e, none κs a ws)))

    -- it says the answer and the last content of the one slice that may be written
    module _ (X : Type 0) (content : (κs : Lifetimes T) → Arguments T κs → X) (see : (κs : Lifetimes T) → AtExit T κs → X)
        (put : (κs : Lifetimes T) (a : Arguments T κs) → X → Lasts T κs a)
        (all : (κs : Lifetimes T) (a : Arguments T κs) (ws : Lasts T κs a) → ws ≡ put κs a (see κs (at_exit T κs a ws))) where
      abbrev last : (κs : Lifetimes T) (a : Arguments T κs) → Lasts T κs a
      last κs a = put κs a (content κs a)

      follows : (κs : Lifetimes T) (a : Arguments T κs) (ws : Lasts T κs a) → see κs (at_exit T κs a ws) ≡ content κs a
          → ws ≡ last κs a
      follows κs a ws e = all κs a ws ∙ ap (put κs a) e

      -- in one clause
      written : Determined T (Ensures (λ M 𝓤 κs a r e. fact 𝓤 ((r ≡ answer κs a) × (see κs e ≡ content κs a))))
      written = determined (λ M 𝓤 κs a r e. fact 𝓤 ((r ≡ answer κs a) × (see κs e ≡ content κs a))) last (λ M 𝓤 κs a r ws.
          fact_mono 𝓤 ((r ≡ answer κs a) × (see κs (at_exit T κs a ws) ≡ content κs a)) ((r ≡ answer κs a) × (ws ≡ last κs a))
          (λ e. (e.0, follows κs a ws e.1)))

      -- in two
      written_apart : Determined T
          (Ensures (λ M 𝓤 κs a r e. sep 𝓤 (fact 𝓤 (r ≡ answer κs a)) (fact 𝓤 (see κs e ≡ content κs a))))
      written_apart = determined (λ M 𝓤 κs a r e. sep 𝓤 (fact 𝓤 (r ≡ answer κs a)) (fact 𝓤 (see κs e ≡ content κs a)))
          last (λ M 𝓤 κs a r ws.
          let φ : Type 0 = r ≡ answer κs a in let ψ : Type 0 = see κs (at_exit T κs a ws) ≡ content κs a in
          fact_use 𝓤 ψ (snd∗ 𝓤 (fact 𝓤 φ) (fact 𝓤 ψ)) (λ o. via 𝓤 (fact 𝓤 φ) (fst∗ 𝓤 (fact 𝓤 φ) (fact 𝓤 ψ))
          (fact_mono 𝓤 φ (φ × (ws ≡ last κs a)) (λ e. (e, follows κs a ws o)))))

    -- it says the answer and the last contents of the two slices that may be written
    module _ (X Y : Type 0) (content : (κs : Lifetimes T) → Arguments T κs → X)
        (other : (κs : Lifetimes T) → Arguments T κs → Y)
        (see : (κs : Lifetimes T) → AtExit T κs → X) (see_other : (κs : Lifetimes T) → AtExit T κs → Y)
        (put : (κs : Lifetimes T) (a : Arguments T κs) → X → Y → Lasts T κs a)
        (all : (κs : Lifetimes T) (a : Arguments T κs) (ws : Lasts T κs a)
        → ws ≡ put κs a (see κs (at_exit T κs a ws)) (see_other κs (at_exit T κs a ws))) where
      written_both : Determined T
          (Ensures (λ M 𝓤 κs a r e.
          fact 𝓤 ((r ≡ answer κs a) × ((see κs e ≡ content κs a) × (see_other κs e ≡ other κs a)))))
      written_both = determined
          (λ M 𝓤 κs a r e. fact 𝓤 ((r ≡ answer κs a) × ((see κs e ≡ content κs a) × (see_other κs e ≡ other κs a))))
          (λ κs a. put κs a (content κs a) (other κs a)) (λ M 𝓤 κs a r ws.
          let e = at_exit T κs a ws in
          fact_mono 𝓤 ((r ≡ answer κs a) × ((see κs e ≡ content κs a) × (see_other κs e ≡ other κs a)))
          ((r ≡ answer κs a) × (ws ≡ put κs a (content κs a) (other κs a)))
          (λ p. (p.0, all κs a ws ∙ (λ i. put κs a (p.1.0 i) (p.1.1 i)))))

-- ---- the calls: each `_` is what the contract itself says
pub check_determined : Determined check.ended (λ M 𝓤. check.spec)
check_determined = answered check.ended _ (λ κs a. (tt, tt)) (λ κs a ws. refl)

pub profile_determined : Determined profile.ended (λ M 𝓤. profile.spec)
profile_determined = answered profile.ended _ (λ κs a. (tt, tt)) (λ κs a ws. refl)

pub header_determined : Determined header.ended (λ M 𝓤. header.spec)
header_determined = answered header.ended _ (λ κs a. (tt, tt)) (λ κs a ws. refl)

pub lookup_determined : Determined lookup.ended (λ M 𝓤. lookup.spec)
lookup_determined = answered lookup.ended _ (λ κs a. (tt, (tt, tt))) (λ κs a ws. refl)

pub steps_determined : Determined steps.ended (λ M 𝓤. steps.spec)
steps_determined = answered steps.ended _ (λ κs a. (tt, (tt, tt))) (λ κs a ws. refl)

pub chain_determined : Determined chain.ended (λ M 𝓤. chain.spec)
chain_determined = answered chain.ended _ (λ κs a. (tt, (tt, (tt, tt)))) (λ κs a ws. refl)

pub read_determined : Determined read.ended (λ M 𝓤. read.spec)
read_determined = answered read.ended _ (λ κs a. (tt, (tt, tt))) (λ κs a ws. refl)

pub find_determined : Determined find.ended (λ M 𝓤. find.spec)
find_determined = answered find.ended _ (λ κs a. (tt, (tt, tt))) (λ κs a ws. refl)

pub split_determined : Determined split.ended (λ M 𝓤. split.spec)
split_determined = answered split.ended _ (λ κs a. (tt, (tt, (tt, (tt, tt))))) (λ κs a ws. refl)

pub check_in_determined : Determined check_in.ended (λ M 𝓤. check_in.spec)
check_in_determined =
    written_apart check_in.ended _ _ _ (λ κs e. e.1.0.now) (λ κs a x. (tt, (x, tt))) (λ κs a ws. refl)

pub frame_determined : Determined frame.ended (λ M 𝓤. frame.spec)
frame_determined =
    written_apart frame.ended _ _ _ (λ κs e. e.1.0.now) (λ κs a x. (tt, (x, tt))) (λ κs a ws. refl)

pub normal_determined : Determined normal.ended (λ M 𝓤. normal.spec)
normal_determined =
    written_apart normal.ended _ _ _ (λ κs e. e.1.0.now) (λ κs a x. (tt, (x, tt))) (λ κs a ws. refl)

pub collapse_determined : Determined collapse.ended (λ M 𝓤. collapse.spec)
collapse_determined =
    written_apart collapse.ended _ _ _ (λ κs e. e.1.1.0.now) (λ κs a x. (tt, (tt, (x, tt)))) (λ κs a ws. refl)

pub to_kdmv_determined : Determined to-kdmv.ended (λ M 𝓤. to-kdmv.spec)
to_kdmv_determined =
    written_apart to-kdmv.ended _ _ _ (λ κs e. e.1.0.now) (λ κs a x. (tt, (x, tt))) (λ κs a ws. refl)

pub to_cowd_determined : Determined to-cowd.ended (λ M 𝓤. to-cowd.spec)
to_cowd_determined =
    written_apart to-cowd.ended _ _ _ (λ κs e. e.1.0.now) (λ κs a x. (tt, (x, tt))) (λ κs a ws. refl)

pub close_determined : Determined close.ended (λ M 𝓤. close.spec)
close_determined =
    written_apart close.ended _ _ _ (λ κs e. e.1.0.now) (λ κs a x. (tt, (x, tt))) (λ κs a ws. refl)

pub survey_determined : Determined survey.ended (λ M 𝓤. survey.spec)
survey_determined =
    written_both survey.ended _ _ _ _ _ (λ κs e. e.1.1.0.now) (λ κs e. e.1.1.1.0.now)
    (λ κs a x y. (tt, (tt, (x, (y, tt))))) (λ κs a ws. refl)

pub mend_determined : Determined mend.ended (λ M 𝓤. mend.spec)
mend_determined =
    written_both mend.ended _ _ _ _ _ (λ κs e. e.0.now) (λ κs e. e.1.1.0.now)
    (λ κs a x y. (x, (tt, (y, tt)))) (λ κs a ws. refl)

pub descriptor_determined : Determined descriptor.ended (λ M 𝓤. descriptor.spec)
descriptor_determined =
    written descriptor.ended _ _ _ (λ κs e. e.1.0.now) (λ κs a x. (tt, (x, tt))) (λ κs a ws. refl)
