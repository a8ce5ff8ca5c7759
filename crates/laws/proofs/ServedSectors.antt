-- On an accepted image no sector below capacity is refused, and its source is what the entry table says. Demand 2, second
-- sentence.
use Prim.Native.Nat.{ℕ, ◌≤◌, ◌<◌}
use mathlib.Core.Path.{◌≡◌, ap, ◌∙◌}
use mathlib.Core.List.{List}
use lib.ListN.{length}
use Rattle.format.specs.Header.{header_of, judge}
use Rattle.format.specs.Accepted.{AreaRules, AcceptedKdmv, Accepted}
use Rattle.format.specs.Accepted.Accepted.{kdmv, cowd}
use Rattle.format.specs.Source.{source_of, lookup_from, sector_lookup, source_bytes, answer_bytes, read}
use Rattle.format.specs.declared.Taken.TheVariants.{Either}
use Rattle.format.specs.declared.Header.{Header}
use Rattle.format.specs.declared.Source.TheVariants.{Stored}
use Rattle.format.specs.declared.Refusal.TheVariants.{SectorPast}
use Rattle.format.proofs.HeaderJudged.{taken_kdmv, kdmv_known, cowd_known, kdmv_is, cowd_is}
use Rattle.format.specs.Judged.{Sound}
use Rattle.format.proofs.HeaderSound.{taken_sound, sound_of}
use Rattle.laws.proofs.ServedLookup.{past_in, found_in}
use Rattle.laws.proofs.ServedBytes.{source_length, source_long}
use Rattle.std.specs.Prelude.{Ok, Err}

-- ---- what an accepted image has
pub record Good (s : List ℕ) (h : Header) : Type 0 where
  pub known : judge s ≡ Ok h
  pub sound : Sound h
  pub areas : AreaRules s h

good_of : (s : List ℕ) (h : Header) → judge s ≡ Ok h → AreaRules s h → Good s h
good_of s h e a = record { known = e; sound = sound_of s h e; areas = a }

pub accepted_good : (s : List ℕ) → AcceptedKdmv s → Good s (header_of s)
accepted_good s a = rw (kdmv_is s a.rules) (good_of s _ (kdmv_known s a.rules) a.areas)

-- and one of either kind, which the moves take
pub either_good : (s : List ℕ) → Accepted s → (Sound (header_of s)) × (AreaRules s (header_of s))
either_good s (kdmv r a) = rw (kdmv_is s r) (taken_sound s Either _ (taken_kdmv s Either r), a)
either_good s (cowd r a) = rw (cowd_is s r) (taken_sound s Either _ (cowd_known s r), a)

-- a sector at or past the end is refused 20
pub past_end : (s : List ℕ) → AcceptedKdmv s → (x : ℕ) → (header_of s).capacity ≤ x → sector_lookup s x ≡ Err SectorPast
unfolding lookup_from
past_end s a x l = rw (accepted_good s a).known (past_in s (header_of s) x l)

module _ (s : List ℕ) (a : AcceptedKdmv s) (x : ℕ) (low : x < (header_of s).capacity) where
  -- no sector below capacity is refused, and the lookup finds the source that its entry gives
  pub served : sector_lookup s x ≡ Ok (source_of s (header_of s) x)
  unfolding lookup_from
  served =
      let g = accepted_good s a in
      rw g.known (found_in s (header_of s) g.sound.sizes.low g.sound.some g.areas x low)

  -- the grain reader returns the bytes of that answer
  pub served_bytes : read s x ≡ source_bytes s (source_of s (header_of s) x)
  unfolding answer_bytes source_bytes
  served_bytes = ap (answer_bytes s) served

  -- all of them lie in the file
  pub served_long : length (read s x) ≡ source_length (source_of s (header_of s) x)
  served_long =
      let g = accepted_good s a in
      ap length served_bytes ∙ source_long s (header_of s) g.sound.sizes.low g.sound.some g.areas x low

  -- 512 for stored
  pub stored_long : (sector : ℕ) → source_of s (header_of s) x ≡ Stored sector → length (read s x) ≡ 512
  stored_long sector e = served_long ∙ ap source_length e
