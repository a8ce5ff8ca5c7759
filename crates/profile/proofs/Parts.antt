-- A part of the normal form against what the image has there.
use Prim.Native.Nat.{ℕ, ◌+◌, ◌*◌, ◌-◌, ◌≤◌, ◌<◌}
use mathlib.Core.Path.{◌≡◌, sym, ap, ◌∙◌}
use mathlib.Core.List.{List}
use mathlib.Core.Logic.{⊎_elim}
use native.Mathlib.Omega.{arith}
use lib.Dec.{ltb}
use lib.ListN.{length, get_or}
use Rattle.base.specs.Pick.{pick}
use Rattle.base.specs.Bytes.{SameBytes, zeros}
use Rattle.base.specs.Rows.{entry_bytes}
use Rattle.base.proofs.Steps.{lt_or_ge}
use Rattle.base.proofs.Stands.{Stands, stands_in, stands_at, stands_right}
use Rattle.base.proofs.Over.{zeros_length, zeros_at}
use Rattle.base.proofs.Rows.{entries_length}
use Rattle.layout.proofs.Padded.{entries_padded}
use Rattle.format.specs.Profile.{profile_form}
use Rattle.format.specs.declared.Header.{Header}
use Rattle.format.specs.declared.Refusal.TheVariants.{NotNormal}
use Rattle.alike.specs.FirstOther.{FirstOther}
use Rattle.profile.proofs.FirstDifference.{differs}
use Rattle.std.specs.Prelude.{Err}

-- w stands in t from `at` on, and before it s and t are alike
module _ (s t : List ℕ) (at : ℕ) (w : List ℕ) (stands : Stands t at w) (same : SameBytes s t 0 at) (r : ℕ)
    (p : FirstOther s at w r) where
  here : (k : ℕ) → at ≤ k → k < r → get_or s k 0 ≡ get_or t k 0
  here k l b =
      let q : k ≡ at + (k - at) = omega arith in
      ap (λ (j : ℕ). get_or s j 0) q
      ∙ p.same (k - at) (omega arith)
      ∙ sym (stands.same (k - at) (omega (arith, p.high)))
      ∙ ap (λ (j : ℕ). get_or t j 0) (sym q)

  below : SameBytes s t 0 r
  below k z b = ⊎_elim (λ l. same k z (omega arith)) (λ l. here k l (omega arith)) (lt_or_ge k at)

  pub part_same : (end : ℕ) → at + length w ≡ end → end ≤ r → SameBytes s t 0 end
  part_same end e l k z b = below k z (omega arith)

  pub part_other : (h : Header) (end : ℕ) → at + length w ≡ end → r < end → end ≤ length s
      → Err (NotNormal r) ≡ profile_form h s t
  part_other h end e l room =
      differs h s t r below
      (record {
        first = omega arith;
        second = omega (arith, stands.inside);
        bytes = λ m n q.
            let i : at + (r - at) ≡ r = omega (arith, p.low) in
            p.other (r - at) i (omega (arith, p.low))
            (ap (λ (j : ℕ). get_or s j 0) i
            ∙ q
            ∙ ap (λ (j : ℕ). get_or t j 0) (sym i)
            ∙ stands.same (r - at) (omega (arith, p.low)));
        ends = λ m n. omega arith;
      })

-- ---- zeros
module _ {t : List ℕ} {at : ℕ} where
  pub zeros_as : (n k : ℕ) → n ≡ k → Stands t at (zeros n) → Stands t at (zeros k)
  zeros_as n k e h = rw e at h

  -- fewer of them
  pub zeros_less : (n k : ℕ) → Stands t at (zeros n) → k ≤ n → Stands t at (zeros k)
  zeros_less n k h l =
      record {
        inside = omega (arith, h.inside, zeros_length n, zeros_length k);
        same = λ i b. h.same i (omega (arith, zeros_length n, zeros_length k)) ∙ zeros_at n i ∙ sym (zeros_at k i);
      }

  -- and as many as follow
  pub zeros_join : (n k end : ℕ) → Stands t at (zeros n) → Stands t (at + n) (zeros k) → n + k ≡ end → Stands t at (zeros end)
  zeros_join n k end h g e =
      record {
        inside = omega (arith, g.inside, zeros_length k, zeros_length end);
        same = λ i b.
            ⊎_elim (λ l. h.same i (omega (arith, zeros_length n)) ∙ zeros_at n i)
            (λ l.
            let q : at + i ≡ at + n + (i - n) = omega arith in
            ap (λ (j : ℕ). get_or t j 0) q ∙ g.same (i - n) (omega (arith, zeros_length k, zeros_length end))
            ∙ zeros_at k (i - n))
            (lt_or_ge i n)
            ∙ sym (zeros_at end i);
      }

-- entries past those in use
pub unused_stand : {t : List ℕ} {at : ℕ} (used all : ℕ) (e : ℕ → ℕ)
    → Stands t at (entry_bytes all (λ k. pick (ltb k used) (e k) 0)) → used ≤ all
    → Stands t (at + 4 * used) (zeros (4 * (all - used)))
unused_stand used all e h l =
    let long : length (entry_bytes used e) ≡ 4 * used = omega (arith, entries_length used e) in
    stands_at _ (rw long)
    (stands_in (rw (entries_padded used e all l) at h) (stands_right (entry_bytes used e) (zeros (4 * (all - used)))))
