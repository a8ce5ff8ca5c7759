-- Check, lookup, frame and row of two images that agree in all that decides are the same.
use Prim.Native.Nat.{ℕ, ◌<◌}
use mathlib.Core.Path.{◌≡◌, refl, sym, ap, ◌∙◌}
use mathlib.Core.List.{List}
use Rattle.base.proofs.Steps.{pick_both}
use lib.ListN.{length}
use Rattle.format.specs.Header.{header_of, grains_of, judge}
use Rattle.format.specs.Entries.{grain_entry}
use Rattle.format.specs.Check.{misplaced, check_from, check}
use Rattle.format.specs.Source.{lookup_from, sector_lookup}
use Rattle.format.specs.Frame.{frame_words, frame_from, frame, list_after, frame_list}
use Rattle.format.specs.Survey.{entry_kind, grains_of_kind, row_from, row_of}
use Rattle.format.specs.declared.Header.{Header}
use Rattle.format.proofs.HeaderSound.{sound_of}
use Rattle.format.proofs.Places.{places_kept}
use Rattle.laws.specs.Unused.{SameUsed}
use Rattle.format.proofs.HeaderJudged.{judged_header}
use Rattle.format.proofs.Passed.{layout_passed}
use Rattle.laws.proofs.AcceptedImage.{accepted_sound}
use Rattle.laws.proofs.ServedSectors.{accepted_good}
use Rattle.laws.proofs.Counts.{count_same}
use Rattle.laws.proofs.Unused.{unused_free, misplaced_same, part_same, entry_same, frame_areas_same, frame_words_same}
use Rattle.laws.proofs.UnusedLookup.{SameAnswer, refused, answer_same, unused_lookup}
use Rattle.std.specs.Prelude.{Result, Ok, Err}
use Rattle.format.specs.declared.Shape.{Shape}
use Rattle.format.specs.declared.Refusal.{Refusal}
use Rattle.format.specs.AnswerParts.{accepted_as}

module _ (s t : List ℕ) (both : SameUsed s t) where
  check_from_lem : (a : Result Header Refusal) → judge s ≡ a → check_from s a ≡ check_from t a
  unfolding check_from
  check_from_lem (Err r) e = refl
  check_from_lem (Ok h) e = let sound = sound_of s h e in unused_free s t h sound.sizes.low sound.some (both.used h e)

  pub used_check : check s ≡ check t
  used_check = check_from_lem (judge s) refl ∙ ap (check_from t) both.judged

  lookup_from_lem : (x : ℕ) (a : Result Header Refusal) → judge s ≡ a
      → SameAnswer (λ b. Unit) (lookup_from s x a) (lookup_from t x a)
  unfolding lookup_from
  lookup_from_lem x (Err r) e = refused
  lookup_from_lem x (Ok h) e =
      unused_lookup s t h (sound_of s h e) (both.used h e) (λ b. Unit)
      (record { absent = tt; zero = tt; grain = λ o i l m. tt })
      x

  pub used_lookup : (x : ℕ) → sector_lookup s x ≡ sector_lookup t x
  used_lookup x = answer_same (lookup_from_lem x (judge s) refl) ∙ ap (lookup_from t x) both.judged

  frame_from_lem : (room : ℕ) (a : Result Header Refusal) → judge s ≡ a → frame_from s room a ≡ frame_from t room a
  unfolding frame_from
  frame_from_lem room (Err r) e = refl
  frame_from_lem room (Ok h) e =
      let sound = sound_of s h e in
      let used = both.used h e in
      rw (
        ← misplaced_same s t h sound.sizes.low sound.some used,
        ← part_same s t h sound.sizes.low sound.some used,
      )
      (pick_both ◌≡◌ (misplaced s h) _ _ _ _ (λ q. refl)
      (λ n. rw (frame_areas_same s t h sound.sizes.low sound.some used (places_kept s h n))))

  pub used_frame : (room : ℕ) → frame s room ≡ frame t room
  used_frame room = frame_from_lem room (judge s) refl ∙ ap (frame_from t room) both.judged

  -- a header that is known is the same whole, and so is an accepted image's
  header_known : (h : Header) → judge s ≡ Ok h → header_of s ≡ header_of t
  header_known h e = sym (judged_header s h e) ∙ judged_header t h (sym both.judged ∙ e)

  pub header_accepted : (c size : ℕ) → check s ≡ accepted_as c size → header_of s ≡ header_of t
  header_accepted c size e = header_known (header_of s) (accepted_good s (accepted_sound s c size e).0).known

  list_from : (room : ℕ) (list : List ℕ) (a : Result Header Refusal) → judge s ≡ a
      → list_after (frame_from s room a) (frame_words s (header_of s)) list
      ≡ list_after (frame_from t room a) (frame_words t (header_of t)) list
  unfolding frame_from list_after
  list_from room list (Err r) e = refl
  list_from room list (Ok h) e =
      let sound = sound_of s h e in
      let used = both.used h e in
      rw (← header_known h e, ← judged_header s h e, ← misplaced_same s t h sound.sizes.low sound.some used)
      (pick_both (λ x y. list_after x (frame_words s h) list ≡ list_after y (frame_words t h) list) (misplaced s h) _ _ _ _
      (λ q. refl)
      (λ n.
      let p = places_kept s h n in
      rw (
        frame_areas_same s t h sound.sizes.low sound.some used p,
        frame_words_same s t h sound.sizes.low sound.some used p,
      )))

  pub used_list : (list : List ℕ) → frame_list s list ≡ frame_list t list
  used_list list =
      list_from (length list) list (judge s) refl
      ∙ rw both.judged

  -- ---- the entries of an accepted image, and its row
  pub accepted_entries : (c size : ℕ) → check s ≡ accepted_as c size → (g : ℕ) → g < grains_of (header_of s)
      → grain_entry s (header_of s) g ≡ grain_entry t (header_of s) g
  unfolding check_from
  accepted_entries c size a g l =
      let h = header_of s in
      let good = accepted_good s (accepted_sound s c size a).0 in
      let sound = good.sound in
      let found = layout_passed s h c size (rw good.known at a) in
      entry_same s t h sound.sizes.low sound.some (both.used h good.known) (places_kept s h found.places) g l

  kinds_same : (c size : ℕ) → check s ≡ accepted_as c size → (v : ℕ) → grains_of_kind s (header_of s) v
      ≡ grains_of_kind t (header_of s) v
  kinds_same c size a v =
      count_same _ _ v _ (λ g l. ap (entry_kind (header_of s).packed) (accepted_entries c size a g l))

  row_from_lem : (a : Result Shape Refusal) → check s ≡ a → row_from s (header_of s) a ≡ row_from t (header_of t) a
  unfolding row_from
  row_from_lem (Err r) e = refl
  row_from_lem (Ok sizes) e =
      let same = kinds_same sizes.capacity sizes.grain_size e in rw
      (← header_accepted sizes.capacity sizes.grain_size e, same 2, same 1, same 0, same 3)

  pub used_row : row_of s ≡ row_of t
  used_row = row_from_lem (check s) refl ∙ rw used_check
