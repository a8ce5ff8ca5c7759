-- Equal answers of several parts have equal parts.
use Rattle.std.specs.Prelude.{◌≡◌, ℕ, Result, Ok}
use Rattle.std.proofs.Common.{ap}
use Rattle.format.specs.AnswerParts.{accepted_as, closed_as}
use Rattle.format.specs.declared.Shape.{Shape}
use Rattle.format.specs.declared.closing.Kept.{Kept}

pub same_sizes : (a b c d : ℕ) → accepted_as a b ≡ accepted_as c d → (a ≡ c) × (b ≡ d)
same_sizes a b c d e =
    let same : ◌≡◌ {A = Shape} (record { capacity = a; grain_size = b }) (record { capacity = c; grain_size = d }) = cc in
    (ap (λ (z : Shape). z.capacity) same, ap (λ (z : Shape). z.grain_size) same)

pub same_kept : (a b c n g t : ℕ) → closed_as a b c ≡ closed_as n g t → (a ≡ n) × (b ≡ g) × (c ≡ t)
same_kept a b c n g t e =
    let same : ◌≡◌ {A = Kept} (record { sectors = a; grains = b; length = c }) (record { sectors = n; grains = g; length = t })
    = cc
    in
    (ap (λ (k : Kept). k.sectors) same, ap (λ (k : Kept). k.grains) same, ap (λ (k : Kept). k.length) same)
