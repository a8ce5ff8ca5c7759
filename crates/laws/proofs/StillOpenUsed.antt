-- The dirty number is not looked at: images whose headers differ in it alone, and that agree in all else that decides, have the
-- same check, lookups, frame and row.
use Prim.Native.Nat.{ℕ}
use mathlib.Core.Path.{◌≡◌, refl, sym, ap, ◌∙◌}
use mathlib.Core.List.{List}
use mathlib.Core.Bool.{true, false}
use mathlib.Core.Logic.{⊎_elim}
use lib.Dec.{eqb}
use lib.ListN.{length}
use borrow.Author.Tests.{eqb-true, eqb-false, eq-eqb}
use Rattle.base.specs.Pick.{pick}
use Rattle.base.proofs.Steps.{cond_all, pick_both, true_or_false}
use Rattle.format.specs.Geometry.{file_sectors}
use Rattle.format.specs.Header.{header_of, judge}
use Rattle.format.specs.Areas.{areas, redundant_tables}
use Rattle.format.specs.Check.{descriptor_misplaced, directory_misplaced, misplaced, lowest_misplaced, copies_differ}
use Rattle.format.specs.Check.{check_apart}
use Rattle.format.specs.Check.{check_copies, check_grains, check_layout, check_from, check}
use Rattle.format.specs.Source.{lookup_grain, lookup_entry, lookup_table, lookup_in, lookup_from, sector_lookup}
use Rattle.format.specs.Frame.{frame_words, frame_areas, frame_from, frame, list_after, frame_list}
use Rattle.format.specs.Survey.{entry_kind, grains_of_kind, row_from, row_of}
use Rattle.format.specs.declared.Header.{Header}
use Rattle.format.specs.declared.Entry.{Entry}
use Rattle.format.specs.declared.Entry.TheVariants.{Absent, Zero, Sector}
use Rattle.format.specs.declared.MisplacedPart.TheVariants.{Descriptor, Directory}
use Rattle.format.proofs.Picked.{pick_then}
use Rattle.format.proofs.HeaderJudged.{judged_header}
use Rattle.format.proofs.HeaderSound.{sound_of}
use Rattle.format.proofs.Passed.{header_passed, layout_passed}
use Rattle.format.proofs.Places.{places_kept}
use Rattle.laws.specs.Unused.{SameInUse}
use Rattle.laws.proofs.Counts.{count_same}
use Rattle.laws.proofs.Unused.{unused_free, misplaced_same, part_same, entry_same, frame_areas_same, frame_words_same}
use Rattle.laws.proofs.UnusedLookup.{answer_same, unused_lookup}
use Rattle.std.specs.Prelude.{Result, Ok, Err}
use Rattle.format.specs.declared.Shape.{Shape}
use Rattle.format.specs.declared.Refusal.{Refusal}
use Rattle.format.specs.AnswerParts.{accepted_as}

-- a header with another number
unfoldable pub with_dirty : ℕ → Header → Header
with_dirty n h =
    record {
      cowd = h.cowd;
      capacity = h.capacity;
      grain_size = h.grain_size;
      header_sectors = h.header_sectors;
      descriptor = h.descriptor;
      descriptor_sectors = h.descriptor_sectors;
      directory = h.directory;
      directory_sectors = h.directory_sectors;
      redundant = h.redundant;
      entries_per_table = h.entries_per_table;
      table_sectors = h.table_sectors;
      one_is_zero = h.one_is_zero;
      packed = h.packed;
      footer = h.footer;
      dirty = n;
    }

unfoldable pub answer_with : ℕ → Result Header Refusal → Result Header Refusal
answer_with n (Err r) = Err r
answer_with n (Ok h) = Ok (with_dirty n h)

-- ---- nothing looks at it
module _ (s : List ℕ) (n : ℕ) (h : Header) where
  check_blind : check_layout s (with_dirty n h) ≡ check_layout s h
  unfolding with_dirty check_layout misplaced lowest_misplaced check_grains check_copies check_apart copies_differ redundant_tables areas
  check_blind = refl

  entry_blind : (g o : ℕ) (e : Entry) → lookup_entry s (with_dirty n h) g o e ≡ lookup_entry s h g o e
  unfolding with_dirty lookup_entry lookup_grain
  entry_blind g o Absent = refl
  entry_blind g o Zero = refl
  entry_blind g o (Sector e) = refl

  table_blind : (g o : ℕ) (e : Entry) → lookup_table s (with_dirty n h) g o e ≡ lookup_table s h g o e
  unfolding with_dirty lookup_table
  table_blind g o Absent = refl
  table_blind g o Zero = refl
  table_blind g o (Sector u) = rw (entry_blind g o)

  lookup_blind : (x : ℕ) → lookup_in s (with_dirty n h) x ≡ lookup_in s h x
  unfolding with_dirty lookup_in
  lookup_blind x = rw table_blind

  frame_blind : (room : ℕ) → frame_from s room (Ok (with_dirty n h)) ≡ frame_from s room (Ok h)
  unfolding with_dirty frame_from misplaced lowest_misplaced redundant_tables frame_areas
  frame_blind room = refl

  words_blind : frame_words s (with_dirty n h) ≡ frame_words s h
  unfolding with_dirty frame_words redundant_tables
  words_blind = refl

  row_blind : (a : Result Shape Refusal) → row_from s (with_dirty n h) a ≡ row_from s h a
  unfolding with_dirty row_from
  row_blind (Err r) = refl
  row_blind (Ok sizes) = refl

-- ---- a directory at sector 0 is refused before it is read
module _ (s : List ℕ) (h : Header) (zero : h.directory ≡ 0) where
  directory_none : (f : ℕ) → directory_misplaced f h ≡ true
  directory_none f = rw (eq-eqb h.directory 0 zero)

  misplaced_none : misplaced s h ≡ true
  unfolding misplaced
  misplaced_none = cond_all (λ b. b ≡ true) _ _ _ (λ d. refl) (λ d. pick_then _ _ _ (directory_none (file_sectors s)))

  part_none : lowest_misplaced s h ≡ pick (descriptor_misplaced (file_sectors s) h) Descriptor Directory
  unfolding lowest_misplaced pick
  part_none = rw (directory_none (file_sectors s))

-- ---- all that decides but that number: the length, the header's other fields and what is read of an image of that header
pub record SameElse (s t : List ℕ) : Type 0 where
  pub long : length s ≡ length t
  pub number : ℕ
  pub judged : judge t ≡ answer_with number (judge s)
  pub used : (h : Header) → judge s ≡ Ok h → (h.directory ≡ 0 → ⊥) → SameInUse s t h

module _ (s t : List ℕ) (both : SameElse s t) where
  module _ (h : Header) (e : judge s ≡ Ok h) where
    by_directory : {A : Type 0} → (h.directory ≡ 0 → A) → (SameInUse s t h → A) → A
    by_directory none some =
        ⊎_elim (λ z. none (eqb-true h.directory 0 z)) (λ z. some (both.used h e (eqb-false h.directory 0 z)))
        (true_or_false (eqb h.directory 0))

    part_known : lowest_misplaced s h ≡ lowest_misplaced t h
    part_known =
        let sound = sound_of s h e in
        by_directory (λ z. rw (part_none s h z, part_none t h z, both.long))
        (part_same s t h sound.sizes.low sound.some)

    check_known : check_layout s h ≡ check_layout t h
    unfolding check_layout pick
    check_known =
        let sound = sound_of s h e in
        by_directory (λ z. rw (misplaced_none s h z, misplaced_none t h z, part_known))
        (unused_free s t h sound.sizes.low sound.some)

    lookup_known : (x : ℕ) → lookup_in s h x ≡ lookup_in t h x
    unfolding lookup_in pick
    lookup_known x =
        by_directory (λ z. rw (directory_none s h z (file_sectors s), directory_none t h z (file_sectors t)))
        (λ used.
        answer_same (unused_lookup s t h (sound_of s h e) used (λ b. Unit)
        (record { absent = tt; zero = tt; grain = λ o i l m. tt }) x))

    misplaced_known : misplaced s h ≡ misplaced t h
    misplaced_known =
        let sound = sound_of s h e in
        by_directory (λ z. misplaced_none s h z ∙ sym (misplaced_none t h z))
        (misplaced_same s t h sound.sizes.low sound.some)

    -- ---- where nothing is misplaced, the directory is not at sector 0
    module _ (kept : misplaced s h ≡ false) where
      used_kept : SameInUse s t h
      used_kept = both.used h e (places_kept s h kept).some

      areas_kept : frame_areas s h ≡ frame_areas t h
      areas_kept =
          let sound = sound_of s h e in
          frame_areas_same s t h sound.sizes.low sound.some used_kept (places_kept s h kept)

      words_kept : frame_words s h ≡ frame_words t h
      words_kept =
          let sound = sound_of s h e in
          frame_words_same s t h sound.sizes.low sound.some used_kept (places_kept s h kept)

      kinds_kept : (v : ℕ) → grains_of_kind s h v ≡ grains_of_kind t h v
      kinds_kept v =
          let sound = sound_of s h e in
          count_same _ _ v _
          (λ g l.
          ap (entry_kind h.packed) (entry_same s t h sound.sizes.low sound.some used_kept (places_kept s h kept) g l))

    frame_known : (room : ℕ) → frame_from s room (Ok h) ≡ frame_from t room (Ok h)
    unfolding frame_from
    frame_known room =
        rw (← misplaced_known, ← part_known)
        (pick_both ◌≡◌ (misplaced s h) _ _ _ _ (λ q. refl) (λ kept. rw (areas_kept kept)))

    list_known : (room : ℕ) (list : List ℕ) → list_after (frame_from s room (Ok h)) (frame_words s h) list
        ≡ list_after (frame_from t room (Ok h)) (frame_words t h) list
    unfolding frame_from list_after
    list_known room list =
        rw (← misplaced_known)
        (pick_both (λ x y. list_after x (frame_words s h) list ≡ list_after y (frame_words t h) list) (misplaced s h) _ _ _ _
        (λ q. refl) (λ kept. rw (areas_kept kept, words_kept kept)))

    -- the second image's header
    other_known : judge t ≡ Ok (with_dirty both.number h)
    unfolding answer_with
    other_known = both.judged ∙ rw e

    other_header : header_of t ≡ with_dirty both.number h
    other_header = sym (judged_header t _ other_known)

  check_from_lem : (a : Result Header Refusal) → judge s ≡ a → check_from s a ≡ check_from t (answer_with both.number a)
  unfolding check_from answer_with
  check_from_lem (Err r) e = refl
  check_from_lem (Ok h) e = check_known h e ∙ sym (check_blind t both.number h)

  pub else_check : check s ≡ check t
  else_check = rw both.judged (check_from_lem (judge s) refl)

  lookup_from_lem : (x : ℕ) (a : Result Header Refusal) → judge s ≡ a → lookup_from s x a
      ≡ lookup_from t x (answer_with both.number a)
  unfolding lookup_from answer_with
  lookup_from_lem x (Err r) e = refl
  lookup_from_lem x (Ok h) e = lookup_known h e x ∙ sym (lookup_blind t both.number h x)

  pub else_lookup : (x : ℕ) → sector_lookup s x ≡ sector_lookup t x
  else_lookup x = rw both.judged (lookup_from_lem x (judge s) refl)

  frame_from_lem : (room : ℕ) (a : Result Header Refusal) → judge s ≡ a
      → frame_from s room a ≡ frame_from t room (answer_with both.number a)
  unfolding frame_from answer_with
  frame_from_lem room (Err r) e = refl
  frame_from_lem room (Ok h) e = frame_known h e room ∙ sym (frame_blind t both.number h room)

  pub else_frame : (room : ℕ) → frame s room ≡ frame t room
  else_frame room = rw both.judged (frame_from_lem room (judge s) refl)

  list_from : (room : ℕ) (list : List ℕ) (a : Result Header Refusal) → judge s ≡ a
      → list_after (frame_from s room a) (frame_words s (header_of s)) list
      ≡ list_after (frame_from t room (answer_with both.number a)) (frame_words t (header_of t)) list
  unfolding frame_from list_after answer_with
  list_from room list (Err r) e = refl
  list_from room list (Ok h) e =
      rw (
        ← judged_header s h e,
        other_header h e,
        words_blind t both.number h,
        frame_blind t both.number h room,
      )
      (list_known h e room list)

  pub else_list : (list : List ℕ) → frame_list s list ≡ frame_list t list
  else_list list = rw both.judged (list_from (length list) list (judge s) refl)

  -- ---- the row: an accepted image's header is known, and nothing of it is misplaced
  row_from_lem : (a : Result Shape Refusal) → check s ≡ a → row_from s (header_of s) a ≡ row_from t (header_of t) a
  unfolding row_from
  row_from_lem (Err r) e = refl
  row_from_lem (Ok sizes) e =
      let k = header_passed s (judge s) sizes.capacity sizes.grain_size e in
      let known = k.1 in
      let kinds = kinds_kept k.0 known (layout_passed s k.0 sizes.capacity sizes.grain_size k.2).places in
      rw (
        ← judged_header s k.0 known,
        other_header k.0 known,
        row_blind t both.number k.0 (accepted_as sizes.capacity sizes.grain_size),
      )
      (rw (kinds 2, kinds 1, kinds 0, kinds 3))

  pub else_row : row_of s ≡ row_of t
  else_row = row_from_lem (check s) refl ∙ rw else_check
