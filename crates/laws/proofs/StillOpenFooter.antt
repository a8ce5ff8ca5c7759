-- The footer of an image whose dirty byte is another one, in sector 0 and in the footer alike, is as good as it was.
use Prim.Native.Nat.{ℕ, ◌+◌, ◌≤◌, ◌<◌}
use mathlib.Core.Path.{◌≡◌, sym, ap, ◌∙◌}
use mathlib.Core.List.{List}
use mathlib.Core.Logic.{⊎_elim}
use native.Mathlib.Omega.{arith}
use lib.Dec.{eqb}
use lib.ListN.{drop, get_or, length-take, length-drop}
use lib.Seq.{get_or-take, get_or-drop, ext_get_or}
use borrow.Author.Tests.{eqb-true, eqb-false}
use Rattle.base.proofs.Steps.{true_or_false}
use Rattle.format.specs.Geometry.{bytes_at}
use Rattle.format.specs.Kdmv.{footer_at, last_at, footer_directory, footer_broken}
use Rattle.format.specs.Accepted.{FooterRules}
use Rattle.format.proofs.HeaderFooter.{kept_footer}
use Rattle.base.specs.Bytes.{SameBytes}
use Rattle.laws.specs.StillOpen.{SameButTwice}
use Rattle.base.proofs.SameBytes.{number_same, part_same}

-- byte i of a part
part_at : (s : List ℕ) (at n i : ℕ) → i < n → get_or (bytes_at s at n) i 0 ≡ get_or s (at + i) 0
part_at s at n i l = get_or-take n (drop at s) i 0 l ∙ get_or-drop at s i 0

module _ (s t : List ℕ) (both : SameButTwice s t) (rules : FooterRules s) where
  -- the bytes from `at` on, where neither of the two is among them
  pub spared : (at n : ℕ) → ((i : ℕ) → at ≤ i → i < at + n → (i ≡ 72 → ⊥) × (i ≡ footer_at s + 72 → ⊥)) → SameBytes s t at n
  spared at n other i l b = both.same i (other i l b).0 (other i l b).1

  pub same_directory : footer_directory s ≡ footer_directory t
  same_directory =
      rw (
        number_same s t (footer_at s + 56) 8
            (spared _ 8 (λ i l b. (λ z. omega (arith, rules.long), λ z. omega arith))),
        both.long,
      )

  back_at : (i : ℕ) → i < 448 → get_or t (footer_at s + 64 + i) 0 ≡ get_or t (64 + i) 0
  back_at i l =
      ⊎_elim
      (λ e.
      let q : i ≡ 8 = eqb-true i 8 e in
      let a : footer_at s + 64 + i ≡ footer_at s + 72 = omega arith in
      let b : 64 + i ≡ 72 = omega arith in
      rw (a, b) both.again)
      (λ n.
      let other : i ≡ 8 → ⊥ = eqb-false i 8 n in
      sym (both.same (footer_at s + 64 + i) (λ z. omega (arith, rules.long)) (λ z. other (omega arith)))
      ∙ sym (part_at s (footer_at s + 64) 448 i l)
      ∙ ap (λ w. get_or w i 0) rules.back
      ∙ part_at s 64 448 i l
      ∙ both.same (64 + i) (λ z. other (omega arith)) (λ z. omega (arith, rules.long)))
      (true_or_false (eqb i 8))

  rules_other : FooterRules t
  rules_other = record {
    multiple = rw (← both.long) rules.multiple;
    long = rw (← both.long) rules.long;
    front =
        rw (
          ← both.long,
          ← part_same s t (footer_at s) 56 both.long
              (spared _ 56 (λ i l b. (λ z. omega (arith, rules.long), λ z. omega arith))),
          ← part_same s t 0 56 both.long (spared _ 56 (λ i l b. (λ z. omega arith, λ z. omega arith))),
        )
        rules.front;
    back =
        rw (← both.long)
        (ext_get_or 0 _ _ (simp (length-take, length-drop) (omega (arith, rules.long, both.long)))
        (λ i b.
        let l : i < 448 = omega (arith, simp (length-take, length-drop) at b) in
        part_at t (footer_at s + 64) 448 i l ∙ back_at i l ∙ sym (part_at t 64 448 i l)));
    last =
        rw (
          ← both.long,
          ← part_same s t (last_at s) 512 both.long
              (spared _ 512 (λ i l b. (λ z. omega (arith, rules.long), λ z. omega (arith, rules.long)))),
        )
        rules.last;
    directory = rw (← same_directory) rules.directory;
  }

  pub same_broken : footer_broken s ≡ footer_broken t
  same_broken = kept_footer s rules ∙ sym (kept_footer t rules_other)
