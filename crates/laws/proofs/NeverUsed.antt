-- Bytes from 512 x F on are never used: images that agree below them agree in all that decides, and in the bytes that are read.
use Prim.Native.Nat.{ℕ, ◌+◌, ◌*◌, ◌≤◌, ◌<◌}
use mathlib.Core.Path.{◌≡◌, refl}
use mathlib.Core.List.{List}
use mathlib.Core.Bool.{Bool, true, false}
use native.Mathlib.Omega.{arith}
use lib.ListN.{length}
use Rattle.base.specs.Pick.{pick}
use Rattle.format.specs.Geometry.{file_sectors}
use Rattle.format.specs.Header.{judge}
use Rattle.format.specs.Check.{check}
use Rattle.format.specs.CheckIn.{check_in, list_after_check}
use Rattle.format.specs.Frame.{frame, frame_list}
use Rattle.format.specs.Survey.{row_of}
use Rattle.format.specs.Entries.{entry_at, grain_sectors, marker_size}
use Rattle.format.specs.Source.{grain_source, lookup_from, sector_lookup, source_bytes, answer_bytes, read}
use Rattle.format.specs.Way.{lookup_steps}
use Rattle.format.specs.Chain.{chain_lookup}
use Rattle.format.specs.declared.Header.{Header}
use Rattle.format.specs.declared.Source.{Source}
use Rattle.format.specs.Judged.{Sound}
use Rattle.format.proofs.HeaderSound.{sound_of}
use Rattle.base.specs.Bytes.{SameBytes}
use Rattle.laws.specs.Unused.{SameTables, SameInUse, SameUsed}
use Rattle.laws.specs.NeverUsed.{SameSectors, SameLayers}
use Rattle.base.proofs.SameBytes.{number_same, part_same}
use Rattle.format.proofs.SameHeader.{SameHead, head_sizes, judge_same}
use Rattle.laws.proofs.UnusedLookup.{SameAnswer, refused, found, InFile, unused_lookup}
use Rattle.laws.proofs.UsedAnswers.{used_check, used_lookup, used_frame, used_list, used_row}
use Rattle.laws.proofs.UsedSteps.{used_steps}
use Rattle.laws.proofs.UsedCheckIn.{used_check_in, used_lent}
use Rattle.laws.proofs.UsedChain.{used_chain}
use Rattle.std.specs.Prelude.{Result, Ok, Err}
use Rattle.format.specs.declared.Refusal.{Refusal}

module _ (s t : List ℕ) (both : SameSectors s t) where
  pub below : (at n : ℕ) → at + n ≤ 512 * file_sectors s → SameBytes s t at n
  below at n h i j k = both.same i (omega arith)

  -- ---- 1 to 7
  pub same_head : SameHead s t
  same_head = record {
    fields = record {
      long = both.long;
      some = both.some;
      head = below 0 512 (omega (arith, both.some));
      foot = λ m e. below _ 512 (omega (arith, both.some));
    };
    last = λ m e. below _ 512 (omega (arith, both.some));
  }

  pub never_used_header : judge s ≡ judge t
  never_used_header = judge_same s t same_head

  -- ---- all that is read of an image of a header
  module _ (h : Header) (sound : Sound h) where
    -- entry k of a directory or table that lies in the file
    entry_same : (u k sectors : ℕ) → 4 * k + 4 ≤ 512 * sectors → u + sectors ≤ file_sectors s → entry_at s u k ≡ entry_at t u k
    entry_same u k sectors l i = number_same s t (512 * u + 4 * k) 4 (below _ 4 (omega arith))

    tables_used : (directory : ℕ) → SameTables s t h directory
    tables_used directory = record {
      entries = λ i d l. entry_same directory d h.directory_sectors (omega (arith, sound.directory)) i;
      tables = λ d u l e i k b. entry_same u k h.table_sectors (omega (arith, sound.table)) i;
    }

    in_use : SameInUse s t h
    in_use = record {
      long = both.long;
      primary = tables_used h.directory;
      copies = λ two. tables_used h.redundant;
      markers = λ p g e l q i. (
        number_same s t (512 * e + 8) 4 (below _ 4 (omega arith)),
        number_same s t (512 * e) 8 (below _ 8 (omega arith)),
      );
    }

    -- ---- sources, with their bytes
    abbrev SameSource : Source → Type 0
    SameSource a = source_bytes s a ≡ source_bytes t a

    source_same : (packed : Bool) (size o e : ℕ) → o < size → e + grain_sectors s packed size e ≤ file_sectors s
        → SameSource (grain_source s packed o e)
    unfolding grain_source grain_sectors source_bytes pick
    source_same true size o e l i =
        part_same s t (512 * e + 12) (marker_size s e) both.long (below _ (marker_size s e) (omega arith))
    source_same false size o e l i = part_same s t (512 * (e + o)) 512 both.long (below _ 512 (omega arith))

    sources_same : InFile s h SameSource
    unfolding source_bytes
    sources_same = record { absent = refl; zero = refl; grain = source_same h.packed h.grain_size }

  pub never_used : SameUsed s t
  never_used = record {
    judged = never_used_header;
    capacity = (head_sizes s t same_head.fields).0;
    grain_size = (head_sizes s t same_head.fields).1;
    used = λ h e. in_use h (sound_of s h e);
  }

  pub never_used_check : check s ≡ check t
  never_used_check = used_check s t never_used

  pub never_used_check_in : (list : List ℕ) → (check_in s (length list) ≡ check_in t (length list))
      × (list_after_check s list ≡ list_after_check t list)
  never_used_check_in list = (used_check_in s t never_used (length list), used_lent s t never_used list)

  pub never_used_lookup : (x : ℕ) → sector_lookup s x ≡ sector_lookup t x
  never_used_lookup = used_lookup s t never_used

  pub never_used_steps : (x : ℕ) → lookup_steps s x ≡ lookup_steps t x
  never_used_steps = used_steps s t never_used

  pub never_used_frame : (list : List ℕ) → (frame s (length list) ≡ frame t (length list))
      × (frame_list s list ≡ frame_list t list)
  never_used_frame list = (used_frame s t never_used (length list), used_list s t never_used list)

  pub never_used_row : row_of s ≡ row_of t
  never_used_row = used_row s t never_used

  -- ---- the bytes that are read
  abbrev SameServed : Result Source Refusal → Result Source Refusal → Type 0
  SameServed = SameAnswer (λ a. source_bytes s a ≡ source_bytes t a)

  from_served : (a : Result Header Refusal) → judge s ≡ a → (x : ℕ) → SameServed (lookup_from s x a) (lookup_from t x a)
  unfolding lookup_from
  from_served (Err r) e x = refused
  from_served (Ok h) e x =
      let sound = sound_of s h e in unused_lookup s t h sound (in_use h sound) _ (sources_same h sound) x

  bytes_same : {a b : Result Source Refusal} → SameServed a b → answer_bytes s a ≡ answer_bytes t b
  unfolding answer_bytes source_bytes
  bytes_same refused = refl
  bytes_same (found e) = e

  pub never_used_read : (x : ℕ) → read s x ≡ read t x
  never_used_read x = rw (← never_used_header) (bytes_same (from_served (judge s) refl x))

-- ---- and so each layer of a chain
pub never_used_chain : (s t lengths : List ℕ) → SameLayers s t lengths → (x : ℕ)
    → chain_lookup s lengths x ≡ chain_lookup t lengths x
never_used_chain s t lengths both = used_chain s t lengths both.long (λ k l. never_used _ _ (both.each k l))
