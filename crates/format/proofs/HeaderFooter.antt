-- The footer: 7 is kept exactly where the declared rules hold.
use Prim.Native.Nat.{ℕ, ◌+◌, ◌%◌, ◌≤◌}
use mathlib.Core.Path.{◌≡◌}
use mathlib.Core.List.{List}
use mathlib.Core.Bool.{false}
use native.Mathlib.Omega.{arith}
use lib.Dec.{ltb}
use lib.ListN.{length}
use borrow.Author.Tests.{ltb-false, le-ltb, eqb-false, ne_eqb}
use Rattle.base.specs.Strings.{same_at}
use Rattle.base.proofs.Steps.{and_yes, not_no}
use Rattle.base.proofs.Over.{zeros_length}
use Rattle.format.specs.Geometry.{file_sectors, bytes_at}
use Rattle.format.specs.Kdmv.{footer_at, last_at, footer_differs, last_not_zero, footer_broken}
use Rattle.format.specs.Accepted.{FooterRules}
use Rattle.format.proofs.Picked.{true_no, no_true}
use Rattle.format.proofs.BytesAt.{part_long, same_part, part_same}

module _ (s : List ℕ) where
  pub footer_kept : footer_broken s ≡ false → FooterRules s
  unfolding footer_broken
  footer_kept e =
      let a = true_no (ltb 0 (length s % 512)) _ e in
      let b = true_no (ltb (file_sectors s) 4) _ a.1 in
      let d = true_no (footer_differs s) _ b.1 in
      let g = true_no (last_not_zero s) _ d.1 in
      let same = and_yes (same_at s (footer_at s) (bytes_at s 0 56)) (same_at s (footer_at s + 64) (bytes_at s 64 448))
      (not_no _ d.0) in
      let f : 4 ≤ file_sectors s = ltb-false (file_sectors s) 4 b.0 in
      record {
        multiple = omega (arith, ltb-false 0 (length s % 512) a.0);
        long = f;
        front = same_part s (footer_at s) 56 _ (part_long s 0 56 (omega arith)) (omega arith) same.0;
        back = same_part s (footer_at s + 64) 448 _ (part_long s 64 448 (omega arith)) (omega arith) same.1;
        last = same_part s (last_at s) 512 _ (zeros_length 512) (omega arith) (not_no _ g.0);
        directory = eqb-false _ _ g.1;
      }

  pub kept_footer : FooterRules s → footer_broken s ≡ false
  unfolding footer_broken
  kept_footer r =
      let f : 4 ≤ file_sectors s = r.long in
      let front = part_same s (footer_at s) 56 _ (part_long s 0 56 (omega arith)) r.front in
      let back = part_same s (footer_at s + 64) 448 _ (part_long s 64 448 (omega arith)) r.back in
      no_true _ _ (le-ltb 0 (length s % 512) (omega (arith, r.multiple)))
      (no_true _ _ (le-ltb (file_sectors s) 4 f)
      (no_true (footer_differs s) _ (rw (front, back))
      (no_true (last_not_zero s) _ (rw (part_same s (last_at s) 512 _ (zeros_length 512) r.last)) (ne_eqb _ _ r.directory))))
