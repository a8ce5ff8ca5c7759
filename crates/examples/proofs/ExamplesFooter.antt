-- Streams, whose directory a footer tells: refusal 7 on both sides of each rule, and what is told. A comparison of sectors by
-- `same_at` takes long to compute, so each rule is computed in the form that `Accepted` declares.
use Prim.Native.Nat.{ℕ}
use mathlib.Core.List.{List, [], ◌++◌}
use mathlib.Core.Path.{◌≡◌, refl, ap, ◌∙◌}
use native.Mathlib.Omega.{arith}
use lib.ListN.{get_or, replicate}
use Rattle.base.specs.Pick.{pick}
use Rattle.base.specs.Rounding.{power_up_to}
use Rattle.base.specs.Numbers.{le_at, le_bytes}
use Rattle.base.specs.Strings.{same_at}
use Rattle.base.specs.Bytes.{over, zeros}
use Rattle.base.proofs.Steps.{cond_all}
use Rattle.format.specs.Geometry.{directory_entries, directory_sectors}
use Rattle.format.specs.Kdmv.{kdmv_fields, kdmv_fault, footer_broken}
use Rattle.format.specs.Header.{kdmv_header, directory_of, unless_fault, with_footer, judge_kdmv, judge_of, judge}
use Rattle.format.specs.Accepted.{FooterRules}
use Rattle.format.specs.declared.Header.{Header}
use Rattle.format.specs.declared.Refusal.TheVariants.{Footer}
use Rattle.examples.specs.Images.{with, stream, stream_header}
use Rattle.format.proofs.HeaderFooter.{footer_kept, kept_footer}
use Rattle.std.specs.Prelude.{Ok, Err}

-- four sectors: sector 0, one that nothing judges, the footer and the last one
abbrev four : ℕ → List ℕ
four directory = stream (replicate 512 0x99) directory

four_kept : FooterRules (four 0x1112131415161718)
unfolding le_at le_bytes over zeros
four_kept =
    record { multiple = refl; long = omega arith; front = refl; back = refl; last = refl; directory = λ e. omega (arith, e) }

-- the footer's directory sector counts
pub footer_told : judge (four 0x1112131415161718) ≡ Ok (stream_header 0x1112131415161718)
unfolding pick power_up_to le_at le_bytes same_at over zeros directory_entries directory_sectors kdmv_fields kdmv_fault kdmv_header directory_of unless_fault with_footer judge_kdmv judge_of
footer_told = rw (kept_footer _ four_kept)

-- ---- streams that break one rule: 7
broken : (s : List ℕ) (h : Header) → judge s ≡ pick (footer_broken s) (Err Footer) (Ok h) → (FooterRules s → ⊥)
    → judge s ≡ Err Footer
broken s h e n =
    e ∙ cond_all (λ a. a ≡ Err Footer) (footer_broken s) _ _ (λ t. refl) (λ f. absurd (n (footer_kept s f)))

-- byte i of two parts that are equal
byte_same : (i : ℕ) {v w : List ℕ} → v ≡ w → get_or v i 0 ≡ get_or w i 0
byte_same i e = ap (λ (l : List ℕ). get_or l i 0) e

-- one byte of the four sectors is another
abbrev changed : ℕ → List ℕ
changed at = with at 1 0x77 (four 5)

-- a length that is no multiple of 512, F 3, a byte of the footer or of the last sector, the directory all ones again
pub footers_refused :
    (judge (four 5 ++ zeros 1) ≡ Err Footer)
    × (judge (stream [] 5) ≡ Err Footer)
    × (judge (changed 1079) ≡ Err Footer)
    × (judge (changed 1088) ≡ Err Footer)
    × (judge (changed 1535) ≡ Err Footer)
    × (judge (changed 1536) ≡ Err Footer)
    × (judge (changed 2047) ≡ Err Footer)
    × (judge (four 0xffffffffffffffff) ≡ Err Footer)
unfolding pick power_up_to le_at le_bytes same_at over zeros directory_entries directory_sectors kdmv_fields kdmv_fault kdmv_header directory_of unless_fault with_footer judge_kdmv judge_of
footers_refused = (
  broken (four 5 ++ zeros 1) (stream_header 5) refl (λ r. omega (arith, r.multiple)),
  broken (stream [] 5) (stream_header 5) refl (λ r. omega (arith, r.long)),
  broken (changed 1079) (stream_header 5) refl (λ r. omega (arith, byte_same 55 r.front)),
  broken (changed 1088) (stream_header 5) refl (λ r. omega (arith, byte_same 0 r.back)),
  broken (changed 1535) (stream_header 5) refl (λ r. omega (arith, byte_same 447 r.back)),
  broken (changed 1536) (stream_header 5) refl (λ r. omega (arith, byte_same 0 r.last)),
  broken (changed 2047) (stream_header 5) refl (λ r. omega (arith, byte_same 511 r.last)),
  broken (four 0xffffffffffffffff) (stream_header 0xffffffffffffffff) refl (λ r. r.directory refl),
)
