-- Accepted images with a footer: the sectors that have the dirty number are no other area's, so another number
-- changes it alone.
use Prim.Native.Nat.{ℕ, ◌+◌, ◌-◌, ◌/◌, ◌≤◌}
use mathlib.Core.Path.{◌≡◌}
use mathlib.Core.List.{List}
use mathlib.Core.Bool.{true}
use mathlib.Core.Logic.{◌⊎◌, inl, inr}
use native.Mathlib.Omega.{arith}
use lib.ListN.{get_or}
use borrow.Author.Tests.{eqb-true}
use Rattle.base.specs.Pick.{pick}
use Rattle.base.specs.Strings.{same_at}
use Rattle.format.specs.Geometry.{file_sectors}
use Rattle.format.specs.Kdmv.{kdmv_magic, kdmv_fields, at_end}
use Rattle.format.specs.Header.{kdmv_header, header_of}
use Rattle.format.specs.Areas.{area, if_there, header_area, footer_area, holders}
use Rattle.format.specs.Accepted.{FooterRules}
use Rattle.format.specs.Check.{check}
use Rattle.format.proofs.Areas.{holds_in}
use Rattle.format.proofs.HeaderJudged.{judged_header}
use Rattle.laws.specs.StillOpen.{SameButTwice}
use Rattle.laws.proofs.AcceptedImage.{accepted_sound}
use Rattle.laws.proofs.ServedSectors.{accepted_good}
use Rattle.laws.proofs.StillOpenUsed.{SameElse}
use Rattle.laws.proofs.StillOpenHeader.{kdmv_with_lem}
use Rattle.laws.proofs.StillOpenFooter.{spared, same_directory, same_broken}
use Rattle.laws.proofs.StillOpenRead.{clear_used}
use Rattle.laws.proofs.StillOpenApart.{clear_apart}
use Rattle.format.specs.AnswerParts.{accepted_as}

-- ---- KDMV with a footer: sector 0 and sector F-2
abbrev Ends : List ℕ → ℕ → Type 0
Ends s x = (x ≡ 0) ⊎ (x ≡ file_sectors s - 2)

ends_held : (s : List ℕ) → same_at s 0 kdmv_magic ≡ true → at_end (kdmv_fields s) ≡ true → (x : ℕ) → Ends s x
    → 1 ≤ holders (header_area (header_of s)) x + holders (footer_area s (header_of s)) x
unfolding header_of kdmv_header holders if_there pick
ends_held s m e x (inl z) = rw m (omega (arith, holds_in (area 0 1) x (omega arith) (omega arith)))
ends_held s m e x (inr z) =
    rw (m, e) (omega (arith, holds_in (area (file_sectors s - 2) 1) x (omega arith) (omega arith)))

module _ (s t : List ℕ) (both : SameButTwice s t) (magic : same_at s 0 kdmv_magic ≡ true) (end : at_end (kdmv_fields s) ≡ true)
    (capacity grain_size : ℕ) (accepted : check s ≡ accepted_as capacity grain_size) where
  rules : FooterRules s
  rules = ((accepted_sound s capacity grain_size accepted).0.rules.at_end (eqb-true _ _ end)).1

  other_bytes : (i : ℕ) → (Ends s (i / 512) → ⊥) → get_or s i 0 ≡ get_or t i 0
  other_bytes i n = both.same i (λ z. n (inl (omega arith))) (λ z. n (inr (omega arith)))

  pub else_footer : SameElse s t
  else_footer = record {
    long = both.long;
    number = _;
    judged =
        kdmv_with_lem s t both.long
        (spared s t both rules 0 72 (λ i l b. (λ z. omega arith, λ z. omega arith)))
        (spared s t both rules 73 6 (λ i l b. (λ z. omega arith, λ z. omega (arith, rules.long)))) magic
        (λ e. (same_directory s t both rules, same_broken s t both rules));
    used = λ h e some.
        let good = accepted_good s (accepted_sound s capacity grain_size accepted).0 in
        rw (judged_header s h e)
        (clear_used s t both.long (Ends s) other_bytes (header_of s) good.sound
        (clear_apart s (header_of s) good.sound good.areas (Ends s) (ends_held s magic end)));
  }
