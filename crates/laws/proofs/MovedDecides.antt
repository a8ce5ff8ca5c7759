-- Header, directory and tables decide the move to KDMV: two COWD files of one length that agree there have the same refusal or
-- the same length written, and what is written differs in the bytes of grains alone.
use Prim.Native.Nat.{ℕ, ◌+◌, ◌≤◌, ◌<◌}
use mathlib.Core.Path.{◌≡◌, refl, sym, ap, ◌∙◌}
use mathlib.Core.List.{List, ◌++◌}
use mathlib.Core.Bool.{or-true, true≢false}
use mathlib.Core.Logic.{⊎_elim}
use native.Mathlib.Omega.{arith}
use lib.Dec.{ltb}
use borrow.Author.Tests.{ltb-true, lt-ltb, le-ltb}
use Rattle.base.specs.Pick.{pick}
use Rattle.base.specs.Numbers.{le_at, le_bytes}
use Rattle.base.specs.Rows.{rows}
use Rattle.base.proofs.Rows.{rows_same}
use Rattle.base.proofs.SameBytes.{within, number_same, part_same}
use Rattle.base.proofs.Steps.{pick_both, lt_or_ge}
use Rattle.format.specs.Geometry.{file_sectors}
use Rattle.format.specs.Cowd.{cowd_fields}
use Rattle.format.specs.Header.{cowd_header, cowd_header_of, header_of, grains_of, judge_of}
use Rattle.format.specs.Entries.{grain_entry}
use Rattle.format.specs.Check.{misplaced, lowest_misplaced, check_layout, check_from, check_of}
use Rattle.format.specs.Grains.{Grain, stored, grain_from, one_if_stored, entry_for, stored_below}
use Rattle.format.specs.Layout.{sector_of, sectors_laid, table_entry, table_bytes, grain_bytes, layout_as}
use Rattle.format.specs.Collapse.{map_of}
use Rattle.format.specs.Moves.{form_as, move_from, to_kdmv}
use Rattle.format.specs.Judged.{Sound, Passed}
use Rattle.format.specs.declared.CowdFields.{CowdFields}
use Rattle.format.specs.declared.Taken.TheVariants.{Either}
use Rattle.format.specs.declared.Kind.TheVariants.{Kdmv}
use Rattle.format.specs.declared.Header.{Header}
use Rattle.format.specs.declared.Entry.{Entry}
use Rattle.format.specs.declared.MisplacedPart.TheVariants.{Directory}
use Rattle.format.specs.declared.Refusal.TheVariants.{Misplaced}
use Rattle.format.proofs.Entries.{by_entry}
use Rattle.format.proofs.HeaderJudged.{known_same, known_fault, taken_header}
use Rattle.format.proofs.HeaderSound.{taken_sound}
use Rattle.format.proofs.Passed.{header_passed, layout_passed}
use Rattle.format.proofs.Places.{places_kept, primary_in}
use Rattle.laws.specs.CowdFile.{CowdFile}
use Rattle.laws.specs.SameCowd.{DirectoryInFile, SameCowd, written_front}
use Rattle.laws.specs.Unused.{SameInUse}
use Rattle.laws.proofs.FrameDecides.{tables_decide}
use Rattle.laws.proofs.KindGone.{moves_judge_cowd}
use Rattle.laws.proofs.Unused.{unused_free, entry_same}
use Rattle.laws.proofs.UsedCollapse.{below_same, if_same}
use Rattle.std.specs.Prelude.{Result, Ok, Err}
use Rattle.format.specs.declared.Refusal.{Refusal}
use Rattle.format.specs.AnswerParts.{accepted_as}

-- a directory that runs past the file is told whatever stands in it
directory_past_lem : (s : List ℕ) (k : CowdFields) → file_sectors s < (cowd_header k).directory
    + (cowd_header k).directory_sectors
    → check_layout s (cowd_header k) ≡ Err (Misplaced Directory)
unfolding check_layout misplaced lowest_misplaced cowd_header pick
directory_past_lem s k l = rw (le-ltb (file_sectors s) 0 (omega arith), lt-ltb _ _ l, or-true)

-- what is told of a grain without its bytes goes by its entry
by_kind : (s t : List ℕ) (c size g : ℕ) (f : Grain → ℕ) → ((a b : List ℕ) → f (stored a) ≡ f (stored b)) → (e : Entry)
    → f (grain_from s c size g e) ≡ f (grain_from t c size g e)
unfolding grain_from
by_kind s t c size g f alike e =
    by_entry (λ d. f (grain_from s c size g d)) (λ d. f (grain_from t c size g d)) refl refl e (λ u q. alike _ _)

-- the image is that front, and then the grains
pub front_and_grains : (s : List ℕ)
    → form_as Kdmv s ≡ written_front s ++ grain_bytes (header_of s).capacity (header_of s).grain_size (map_of s)
unfolding layout_as rows
front_and_grains s = refl

module _ (s t : List ℕ) (both : SameCowd s t) where
  -- ---- the header
  number : (at n : ℕ) → at + n ≤ 2048 → le_at s at n ≡ le_at t at n
  number at n l = number_same s t at n (within s t 0 2048 at n both.header (omega arith) l)

  fields_same : cowd_fields s ≡ cowd_fields t
  unfolding cowd_fields
  fields_same =
      rw (
        number 4 4 (omega arith),
        number 12 4 (omega arith),
        number 16 4 (omega arith),
        number 20 4 (omega arith),
        number 24 4 (omega arith),
        number 1648 4 (omega arith),
      )

  other : CowdFile t
  other = record {
    long = rw (← both.long) both.file.long;
    magic = sym (part_same s t 0 4 both.long (within s t 0 2048 0 4 both.header (omega arith) (omega arith)))
        ∙ both.file.magic;
  }

  pub cowd_decides_header : judge_of Either s ≡ judge_of Either t
  cowd_decides_header = moves_judge_cowd s both.file ∙ rw fields_same (sym (moves_judge_cowd t other))

  -- ---- the check, where the header is known
  module _ (h : Header) (known : judge_of Either s ≡ Ok h) where
    is_cowd_lem : h ≡ cowd_header_of s
    is_cowd_lem = sym (known_same _ h (known_fault _ _ h (sym (moves_judge_cowd s both.file) ∙ known)).1)

    sound : Sound h
    sound = taken_sound s Either h known

    in_use : DirectoryInFile s h → SameInUse s t h
    unfolding cowd_header
    in_use i =
        let is : header_of s ≡ h = sym (taken_header s Either h known) in
        record {
          long = both.long;
          primary = tables_decide s t h sound h.directory (rw is at both.directory i) (rw is at both.tables i);
          copies = λ two. absurd (two (ap (λ (x : Header). x.redundant) is_cowd_lem));
          markers = λ p g e l q j. absurd (true≢false (sym p ∙ ap (λ (x : Header). x.packed) is_cowd_lem));
        }

    layout_same : check_layout s h ≡ check_layout t h
    layout_same =
        ⊎_elim
        (λ l. rw is_cowd_lem (directory_past_lem s (cowd_fields s) (rw is_cowd_lem at l)
        ∙ sym (directory_past_lem t (cowd_fields s) (rw (is_cowd_lem, both.long) at l))))
        (λ i. unused_free s t h sound.sizes.low sound.some (in_use i))
        (lt_or_ge (file_sectors s) (h.directory + h.directory_sectors))

    header_same : header_of s ≡ header_of t
    header_same = sym (taken_header s Either h known) ∙ taken_header t Either h (sym cowd_decides_header ∙ known)

    entries_same : {c size : ℕ} → Passed s h c size → (g : ℕ) → g < grains_of h → grain_entry s h g ≡ grain_entry t h g
    entries_same found g l =
        let p = places_kept s h found.places in
        entry_same s t h sound.sizes.low sound.some (in_use (primary_in s h p)) p g l

  check_from_lem : (a : Result Header Refusal) → judge_of Either s ≡ a → check_from s a ≡ check_from t a
  unfolding check_from
  check_from_lem (Err r) e = refl
  check_from_lem (Ok h) e = layout_same h e

  pub cowd_decides_check : check_of Either s ≡ check_of Either t
  cowd_decides_check = check_from_lem (judge_of Either s) refl ∙ ap (check_from t) cowd_decides_header

  -- ---- what is written, where the check accepts
  module _ (c size : ℕ) (accepted : check_of Either s ≡ accepted_as c size) where
    pub cowd_header_accepted : header_of s ≡ header_of t
    cowd_header_accepted = let k = header_passed s (judge_of Either s) c size accepted in header_same k.0 k.1

    pub cowd_decides_entries : (g : ℕ) → g < grains_of (header_of s)
        → grain_entry s (header_of s) g ≡ grain_entry t (header_of t) g
    cowd_decides_entries g l =
        let k = header_passed s (judge_of Either s) c size accepted in
        let is : k.0 ≡ header_of s = taken_header s Either k.0 k.1 in
        rw (← cowd_header_accepted, ← is)
        (entries_same k.0 k.1 (layout_passed s k.0 c size k.2) g (rw (← is) at l))

    kind_same : (f : Grain → ℕ) → ((a b : List ℕ) → f (stored a) ≡ f (stored b)) → (g : ℕ) → g < grains_of (header_of s)
        → f (map_of s g) ≡ f (map_of t g)
    kind_same f alike g l =
        rw (← cowd_decides_entries g l, ← cowd_header_accepted) (by_kind s t _ _ g f alike (grain_entry s (header_of s) g))

    stored_same : (n : ℕ) → n ≤ grains_of (header_of s) → stored_below (map_of s) n ≡ stored_below (map_of t) n
    unfolding one_if_stored
    stored_same n l = below_same (map_of s) (map_of t) n (λ g b. kind_same one_if_stored (λ x y. refl) g (omega arith))

    sectors_same : sectors_laid Kdmv (header_of s).capacity (header_of s).grain_size (map_of s)
        ≡ sectors_laid Kdmv (header_of t).capacity (header_of t).grain_size (map_of t)
    unfolding sectors_laid
    sectors_same = rw (stored_same (grains_of (header_of s)) (omega arith), cowd_header_accepted)

    move_same : (room : ℕ) → move_from Kdmv s (header_of s) (map_of s) room ≡ move_from Kdmv t (header_of t) (map_of t) room
    unfolding move_from
    move_same room = rw (sectors_same, cowd_header_accepted)

    laid_entry : (g sector : ℕ) → g < grains_of (header_of s) → entry_for (map_of s g) sector ≡ entry_for (map_of t g) sector
    unfolding entry_for
    laid_entry g sector l = kind_same (λ a. entry_for a sector) (λ x y. refl) g l

    table_entry_lem : (g : ℕ) → table_entry Kdmv (header_of s).capacity (header_of s).grain_size (map_of s) g
        ≡ table_entry Kdmv (header_of s).capacity (header_of s).grain_size (map_of t) g
    unfolding sector_of
    table_entry_lem g =
        pick_both ◌≡◌ (ltb g (grains_of (header_of s))) _ _ _ _
        (λ l.
        let low : g < grains_of (header_of s) = ltb-true _ _ l in rw (stored_same g (omega arith)) (laid_entry g _ low))
        (λ n. refl)

    tables_same : table_bytes Kdmv (header_of s).capacity (header_of s).grain_size (map_of s)
        ≡ table_bytes Kdmv (header_of s).capacity (header_of s).grain_size (map_of t)
    unfolding table_bytes
    tables_same = rows_same _ _ _ (λ g b. ap (le_bytes 4) (table_entry_lem g))

    pub cowd_decides_front : written_front s ≡ written_front t
    unfolding rows
    cowd_decides_front = rw (sectors_same, tables_same, cowd_header_accepted)

  pub cowd_decides_move : (room : ℕ) → to_kdmv s room ≡ to_kdmv t room
  cowd_decides_move room = rw (← cowd_decides_check) (if_same (check_of Either s) _ _ (λ c size e. move_same c size e room))
