-- Headers: a header is judged good exactly where the rules of its kind hold.
use Prim.Native.Nat.{ℕ}
use mathlib.Core.Path.{◌≡◌, refl, sym, ◌∙◌}
use mathlib.Core.List.{List}
use mathlib.Core.Bool.{Bool, true, false, true≢false, false≢true}
use mathlib.Core.Logic.{◌⊎◌, inl, inr, ⊎_elim}
use native.Mathlib.Omega.{arith}
use lib.Dec.{ltb, eqb}
use lib.ListN.{length, get_or}
use borrow.Author.Tests.{ltb-false, le-ltb, eqb-true}
use Rattle.base.specs.Pick.{pick}
use Rattle.base.specs.Strings.{same_at}
use Rattle.base.proofs.Steps.{and_yes, true_or_false}
use Rattle.format.specs.Kdmv.{kdmv_magic, kdmv_fields, at_end, kdmv_fault, footer_broken}
use Rattle.format.specs.Cowd.{cowd_magic, cowd_fields, cowd_fault}
use Rattle.format.specs.Header.{kdmv_header_of, cowd_header_of, header_of, unless_fault, with_footer, judge_kdmv, judge_cowd}
use Rattle.format.specs.Header.{kind_gone, judge_of, judge}
use Rattle.format.specs.Accepted.{KdmvRules, CowdRules}
use Rattle.format.specs.declared.Header.{Header}
use Rattle.format.specs.declared.Taken.{Taken}
use Rattle.format.specs.declared.Taken.TheVariants.{KdmvAlone, Either}
use Rattle.format.specs.declared.Refusal.TheVariants.{Magic, Footer}
use Rattle.format.proofs.Picked.{pick_then, pick_else, known_past}
use Rattle.format.proofs.HeaderKdmv.{kdmv_kept, kept_kdmv, kept_magic, kept_end}
use Rattle.format.proofs.HeaderCowd.{cowd_kept, kept_cowd, cowd_magic_lem}
use Rattle.std.specs.Prelude.{Result, Ok, Err}
use Rattle.format.specs.declared.Refusal.{Refusal}

-- ---- the steps of a judgement
pub known_same : (h l : Header) → ◌≡◌ {A = Result Header Refusal} (Ok h) (Ok l) → h ≡ l
known_same h l e = cc

pub known_fault : (f : Result (Unit {0}) Refusal) (a : Result Header Refusal) (h : Header) → unless_fault f a ≡ Ok h
    → (f ≡ (Ok tt)) × (a ≡ Ok h)
unfolding unless_fault
known_fault (Ok tt) a h e = (refl, e)
known_fault (Err r) a h e = let z : ◌≡◌ {A = ℕ} 0 1 = cc in absurd (omega arith)

known_footer : (s : List ℕ) (end : Bool) (l h : Header) → with_footer s end l ≡ Ok h → (end ≡ true → footer_broken s ≡ false)
    × (l ≡ h)
unfolding with_footer pick
known_footer s true l h e =
    let b = known_past (footer_broken s) Footer (Ok l) h e in (λ t. b.0, known_same l h b.1)
known_footer s false l h e = (λ t. absurd (false≢true t), known_same l h e)

footer_known : (s : List ℕ) (end : Bool) (h : Header) → (end ≡ true → footer_broken s ≡ false) → with_footer s end h ≡ Ok h
unfolding with_footer pick
footer_known s true h f = rw (f refl)
footer_known s false h f = refl

no_fault : (f : Result (Unit {0}) Refusal) (a : Result Header Refusal) → f ≡ (Ok tt) → unless_fault f a ≡ a
unfolding unless_fault
no_fault f a e = rw e

-- an image has one magic
pub one_magic : (s : List ℕ) → same_at s 0 cowd_magic ≡ true → same_at s 0 kdmv_magic ≡ false
unfolding same_at
one_magic s e =
    let first : get_or s 0 0 ≡ 0x43 = eqb-true _ _ (and_yes (eqb (get_or s 0 0) 0x43) _ e).0 in rw first

-- ---- each kind
module _ (s : List ℕ) where
  kdmv_judged : (h : Header) → same_at s 0 kdmv_magic ≡ true → judge_kdmv s ≡ Ok h → (KdmvRules s (kdmv_fields s))
      × (h ≡ kdmv_header_of s)
  unfolding judge_kdmv kdmv_fields
  kdmv_judged h m e =
      let a = known_past (ltb (length s) 512) _ _ h e in
      let b = known_fault (kdmv_fault (kdmv_fields s)) _ h a.1 in
      let d = known_footer s (at_end (kdmv_fields s)) _ h b.1 in
      (kdmv_kept s (kdmv_fields s) refl (ltb-false _ _ a.0) m b.0 d.0, sym d.1)

  cowd_judged : (taken : Taken) (h : Header) → same_at s 0 cowd_magic ≡ true → judge_cowd taken s ≡ Ok h
      → (kind_gone taken ≡ false) × (CowdRules s (cowd_fields s)) × (h ≡ cowd_header_of s)
  unfolding judge_cowd
  cowd_judged taken h m e =
      let a = known_past (ltb (length s) 2048) _ _ h e in
      let k = known_past (kind_gone taken) _ _ h a.1 in
      let b = known_fault (cowd_fault (cowd_fields s)) _ h k.1 in
      (k.0, cowd_kept s (cowd_fields s) (ltb-false _ _ a.0) m b.0, sym (known_same _ h b.1))

  -- ---- both
  -- a header that is not refused is that of the image's kind, which is one that is taken, and all its rules hold
  pub taken_rules : (taken : Taken) (h : Header) → judge_of taken s ≡ Ok h
      → ((KdmvRules s (kdmv_fields s)) × (h ≡ kdmv_header_of s))
      ⊎ ((kind_gone taken ≡ false) × (CowdRules s (cowd_fields s)) × (h ≡ cowd_header_of s))
  unfolding judge_of
  taken_rules taken h e =
      let a = known_past (ltb (length s) 4) _ _ h e in
      ⊎_elim
      (λ k. inl (kdmv_judged h k (sym (pick_then (same_at s 0 kdmv_magic) _ _ k) ∙ a.1)))
      (λ n.
      let b : pick (same_at s 0 cowd_magic) (judge_cowd taken s) (Err Magic) ≡ Ok h =
      sym (pick_else (same_at s 0 kdmv_magic) _ _ n) ∙ a.1 in
      inr (⊎_elim (λ c. cowd_judged taken h c (sym (pick_then (same_at s 0 cowd_magic) _ _ c) ∙ b))
      (λ m. let q : Err Magic ≡ Ok h = sym (pick_else (same_at s 0 cowd_magic) _ _ m)
      ∙ b in let z : ◌≡◌ {A = ℕ} 0 1 = cc in absurd (omega arith))
      (true_or_false (same_at s 0 cowd_magic))))
      (true_or_false (same_at s 0 kdmv_magic))

  -- COWD is not taken but by the moves
  pub judged_rules : (h : Header) → judge s ≡ Ok h → (KdmvRules s (kdmv_fields s)) × (h ≡ kdmv_header_of s)
  unfolding kind_gone
  judged_rules h e = ⊎_elim (λ r. r) (λ r. absurd (true≢false r.0)) (taken_rules KdmvAlone h e)

  -- a KDMV image whose header rules hold is not refused 1 to 7
  pub taken_kdmv : (taken : Taken) → KdmvRules s (kdmv_fields s) → judge_of taken s ≡ Ok (kdmv_header_of s)
  unfolding judge_of judge_kdmv kdmv_fields
  taken_kdmv taken r =
      pick_else _ _ _ (le-ltb (length s) 4 (omega (arith, r.long)))
      ∙ pick_then _ _ _ (kept_magic s (kdmv_fields s) refl r)
      ∙ pick_else _ _ _ (le-ltb (length s) 512 r.long)
      ∙ no_fault _ _ (kept_kdmv s (kdmv_fields s) refl r)
      ∙ footer_known s _ _ (kept_end s (kdmv_fields s) refl r)

  pub kdmv_known : KdmvRules s (kdmv_fields s) → judge s ≡ Ok (kdmv_header_of s)
  kdmv_known r = taken_kdmv KdmvAlone r

  -- nor is a COWD image, where it is taken
  pub cowd_known : CowdRules s (cowd_fields s) → judge_of Either s ≡ Ok (cowd_header_of s)
  unfolding judge_of judge_cowd kind_gone
  cowd_known r =
      let m : same_at s 0 cowd_magic ≡ true = cowd_magic_lem s (cowd_fields s) r in
      pick_else _ _ _ (le-ltb (length s) 4 (omega (arith, r.long)))
      ∙ pick_else _ _ _ (one_magic s m)
      ∙ pick_then _ _ _ m
      ∙ pick_else _ _ _ (le-ltb (length s) 2048 r.long)
      ∙ pick_else _ _ _ refl
      ∙ no_fault _ _ (kept_cowd s (cowd_fields s) r)

  -- ---- which header that is
  pub kdmv_is : KdmvRules s (kdmv_fields s) → header_of s ≡ kdmv_header_of s
  unfolding header_of kdmv_fields
  kdmv_is r = pick_then _ _ _ (kept_magic s (kdmv_fields s) refl r)

  pub cowd_is : CowdRules s (cowd_fields s) → header_of s ≡ cowd_header_of s
  unfolding header_of
  cowd_is r = pick_else _ _ _ (one_magic s (cowd_magic_lem s (cowd_fields s) r))

  -- a header that is not refused is the image's header
  pub taken_header : (taken : Taken) (h : Header) → judge_of taken s ≡ Ok h → h ≡ header_of s
  taken_header taken h e =
      ⊎_elim (λ r. r.1 ∙ sym (kdmv_is r.0)) (λ r. r.2 ∙ sym (cowd_is r.1)) (taken_rules taken h e)

  pub judged_header : (h : Header) → judge s ≡ Ok h → h ≡ header_of s
  judged_header h e = taken_header KdmvAlone h e
