-- The steps of a lookup in two images that agree in all that decides are the same.
use Prim.Native.Nat.{ℕ, ◌+◌, ◌/◌, ◌%◌, ◌≤◌, ◌<◌}
use mathlib.Core.Path.{◌≡◌, refl, ◌∙◌, ap}
use mathlib.Core.List.{List}
use native.Mathlib.Nat.{mod-lt}
use borrow.Author.Tests.{ltb-false, leb-false}
use Rattle.base.proofs.Steps.{pick_both}
use Rattle.format.specs.Geometry.{file_sectors}
use Rattle.format.specs.Header.{grains_of, judge}
use Rattle.format.specs.Entries.{entry_at, meaning_at}
use Rattle.format.specs.Way.{to_directory, to_table, way_table, way_in, way_from, way, lookup_steps}
use Rattle.format.specs.Judged.{Sound}
use Rattle.format.specs.declared.Header.{Header}
use Rattle.format.specs.declared.Entry.{Entry}
use Rattle.format.specs.declared.Entry.TheVariants.{Absent, Zero, Sector}
use Rattle.format.proofs.Geometry.{grain_of_lem, entry_used}
use Rattle.format.proofs.HeaderSound.{sound_of}
use Rattle.format.proofs.Places.{directory_in}
use Rattle.laws.specs.Unused.{SameInUse, SameUsed}
use Rattle.laws.proofs.UnusedLookup.{in_table_lem}
use Rattle.laws.proofs.UsedAnswers.{used_lookup}
use Rattle.std.specs.Prelude.{Result, Ok, Err}
use Rattle.format.specs.declared.Refusal.{Refusal}

module _ (s t : List ℕ) (h : Header) (sound : Sound h) (same : SameInUse s t h) (x : ℕ) where
  abbrev g : ℕ
  g = x / h.grain_size

  abbrev d : ℕ
  d = g / h.entries_per_table

  module _ (used : g < grains_of h) (own : entry_at s h.directory d ≡ entry_at t h.directory d) where
    directory_same : to_directory s h g ≡ to_directory t h g
    unfolding to_directory
    directory_same = rw own

    table_same : (e : Entry) → meaning_at s h.one_is_zero h.directory d ≡ e → way_table s h g e ≡ way_table t h g e
    unfolding way_table to_table
    table_same Absent q = directory_same
    table_same Zero q = directory_same
    table_same (Sector u) q =
        rw (← same.long)
        (pick_both ◌≡◌ _ _ _ _ _ (λ p. directory_same)
        (λ n.
        let i : u + h.table_sectors ≤ file_sectors s = ltb-false (file_sectors s) (u + h.table_sectors) n in
        let k = in_table_lem s t h sound same (λ b. Unit) (record { absent = tt; zero = tt; grain = λ o e l m. tt }) g
        (x % h.grain_size) used (mod-lt x sound.sizes.low) u q i in
        rw (own, k)))

  way_same : way_in s h x ≡ way_in t h x
  unfolding way_in
  way_same =
      rw (← same.long)
      (pick_both ◌≡◌ _ _ _ _ _ (λ p. refl)
      (λ n.
      pick_both ◌≡◌ _ _ _ _ _ (λ p. refl)
      (λ m.
      let used : g < grains_of h = grain_of_lem h.capacity h.grain_size sound.sizes.low x (leb-false _ _ n) in
      let l = entry_used h.capacity h.grain_size sound.sizes.low h.entries_per_table sound.some g used in
      let own = same.primary.entries (directory_in (file_sectors s) h m) d l in
      rw (← own) (table_same used own _ refl))))

module _ (s t : List ℕ) (both : SameUsed s t) (x : ℕ) where
  from : (a : Result Header Refusal) → judge s ≡ a → way_from s x a ≡ way_from t x a
  unfolding way_from
  from (Err r) e = refl
  from (Ok h) e = way_same s t h (sound_of s h e) (both.used h e) x

  pub used_steps : lookup_steps s x ≡ lookup_steps t x
  used_steps =
      let same : way s x ≡ way t x = from (judge s) refl ∙ ap (way_from t x) both.judged in
      rw (same, used_lookup s t both x)
