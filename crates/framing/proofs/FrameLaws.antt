-- The groups of areas put one after the other: each premise as the code gives it.
use Prim.Native.Nat.{ℕ, ◌+◌, ◌-◌, ◌≤◌}
use mathlib.Core.Path.{◌≡◌, sym, ap, ◌∙◌}
use mathlib.Core.List.{List, [], ◌++◌, append_assoc}
use native.Mathlib.Omega.{arith}
use lib.ListN.{length}
use borrow.Author.Tests.{eq-eqb}
use Rattle.base.specs.Pick.{pick}
use Rattle.format.specs.Geometry.{file_sectors}
use Rattle.format.specs.Header.{directory_entries_of}
use Rattle.format.specs.Areas.{Area, area, if_there, header_area, descriptor_area, directory_area, redundant_area, table_areas}
use Rattle.format.specs.Areas.{primary_tables, redundant_tables, footer_area, last_area}
use Rattle.format.specs.Frame.{told, frame_words}
use Rattle.format.specs.declared.Header.{Header}
use Rattle.format.proofs.Places.{redundant_tables_lem}
use Rattle.framing.specs.WordsPut.{WordsPut, head_words, directory_words, front_words, table_words, back_words}
use Rattle.framing.proofs.WordsLaws.{put_more, room_left, room_right}

-- all groups, as functions put them
regroup : (a b c d e f g i : List ℕ) → a ++ (b ++ (c ++ (d ++ (e ++ (f ++ (g ++ i)))))) ≡ ((a ++ b) ++ (c ++ d))
    ++ ((e ++ f) ++ (g ++ i))
regroup a b c d e f g i = simp append_assoc

frame_grouped : (s : List ℕ) (h : Header) → frame_words s h ≡ front_words h ++ (table_words s h ++ back_words s h)
unfolding frame_words front_words head_words directory_words table_words back_words
frame_grouped s h =
    regroup (told 1 (header_area h)) (told 2 (descriptor_area h)) (told 3 (directory_area h)) (told 4 (redundant_area h))
    (told 5 (primary_tables s h)) (told 6 (redundant_tables s h))
    (told 7 (footer_area s h)) (told 8 (last_area s h))

module _ (s : List ℕ) (h : Header) where
  -- the tables of a directory at a sector, of n entries
  abbrev tables : ℕ → ℕ → List Area
  tables directory n = table_areas s h.one_is_zero h.table_sectors directory n

  pub no_copies : h.redundant ≡ 0 → redundant_tables s h ≡ []
  unfolding redundant_tables pick
  no_copies e = rw (eq-eqb h.redundant 0 e)

  module _ (n : ℕ) (e : n ≡ directory_entries_of h) where
    pub copies_are : (h.redundant ≡ 0 → ⊥) → redundant_tables s h ≡ tables h.redundant n
    copies_are one = redundant_tables_lem s h one ∙ ap (tables h.redundant) (sym e)

    pub copies_fit : (at m : ℕ) → at + length (told 6 (redundant_tables s h)) ≤ m → (h.redundant ≡ 0 → ⊥)
        → at + length (told 6 (tables h.redundant n)) ≤ m
    copies_fit at m room one = rw (copies_are one) at room

    primary_are : primary_tables s h ≡ tables h.directory n
    primary_are = ap (tables h.directory) (sym e)

    module _ (d : List ℕ) (at : ℕ) (room : at + length (table_words s h) ≤ length d) where
      both : at + length (told 5 (tables h.directory n) ++ told 6 (redundant_tables s h)) ≤ length d
      unfolding table_words
      both = rw (← primary_are) room

      pub tables_left : at + length (told 5 (tables h.directory n)) ≤ length d
      tables_left = room_left (told 5 (tables h.directory n)) (told 6 (redundant_tables s h)) d at both

      module _ {x : List ℕ} {m : ℕ} (p : WordsPut (told 5 (tables h.directory n)) d at x m) where
        pub tables_right : m + length (told 6 (redundant_tables s h)) ≤ length x
        tables_right = room_right (told 5 (tables h.directory n)) (told 6 (redundant_tables s h)) d at both p

        pub tables_put : {y : List ℕ} {r : ℕ} → WordsPut (told 6 (redundant_tables s h)) x m y r
            → WordsPut (table_words s h) d at y r
        unfolding table_words
        tables_put q = rw (primary_are) (put_more both p q)

  module _ (d : List ℕ) (at b : ℕ) (room : at + length (back_words s h) ≤ length d) (e : b ≡ file_sectors s - 2) where
    ends : at + length (told 7 (if_there h.footer (area b 1)) ++ told 8 (last_area s h)) ≤ length d
    unfolding back_words
    ends = rw e room

    pub back_left : at + length (told 7 (if_there h.footer (area b 1))) ≤ length d
    back_left = room_left (told 7 (if_there h.footer (area b 1))) (told 8 (last_area s h)) d at ends

    module _ (c : ℕ) (f : c ≡ file_sectors s - 1) {x : List ℕ} {m : ℕ}
        (p : WordsPut (told 7 (if_there h.footer (area b 1))) d at x m) where
      pub back_right : m + length (told 8 (if_there h.footer (area c 1))) ≤ length x
      back_right = rw f (room_right (told 7 (if_there h.footer (area b 1))) (told 8 (last_area s h)) d at ends p)

      pub back_put : {y : List ℕ} {r : ℕ} → WordsPut (told 8 (if_there h.footer (area c 1))) x m y r
          → WordsPut (back_words s h) d at y r
      unfolding back_words
      back_put q = rw (← e) (put_more ends p (rw f at q))

  module _ (d : List ℕ) (room : length (frame_words s h) ≤ length d) where
    whole : 0 + length (front_words h ++ (table_words s h ++ back_words s h)) ≤ length d
    whole = rw (← frame_grouped s h) (omega arith)

    pub frame_left : 0 + length (front_words h) ≤ length d
    frame_left = room_left (front_words h) (table_words s h ++ back_words s h) d 0 whole

    module _ {x : List ℕ} {m : ℕ} (p : WordsPut (front_words h) d 0 x m) where
      pub frame_right : m + length (table_words s h ++ back_words s h) ≤ length x
      frame_right = room_right (front_words h) (table_words s h ++ back_words s h) d 0 whole p

      pub frame_put : {y : List ℕ} {r : ℕ} → WordsPut (table_words s h ++ back_words s h) x m y r
          → WordsPut (frame_words s h) d 0 y r
      frame_put q = rw (frame_grouped s h) (put_more whole p q)
