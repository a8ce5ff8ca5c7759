-- Mending again from the same side: nothing differs, and nothing is written.
use Prim.Native.Nat.{ℕ, zero, suc, ◌+◌, ◌*◌, ◌/◌, ◌%◌, ◌≤◌, ◌<◌}
use mathlib.Core.Path.{◌≡◌, refl, sym, ◌∙◌}
use mathlib.Core.List.{List, []}
use mathlib.Core.Bool.{false}
use native.Mathlib.Omega.{arith}
use lib.ListN.{length, get_or}
use lib.Seq.{get_or-take, get_or-drop}
use borrow.Author.Tests.{ne_eqb, le-ltb}
use Rattle.base.specs.Pick.{pick}
use Rattle.base.specs.Bytes.{over}
use Rattle.base.proofs.Over.{over_none}
use Rattle.base.proofs.OverApart.{over_of}
use Rattle.format.specs.Geometry.{bytes_at}
use Rattle.format.specs.Header.{header_of, directory_entries_of}
use Rattle.format.specs.Entries.{entry_at, entries_in_use}
use Rattle.format.specs.Areas.{meet}
use Rattle.format.specs.Mend.{from_good, good_entry, other_entry, over_table, mended_below, mended, directories_differ}
use Rattle.format.specs.Mend.{areas_kept_apart, unmendable, changes, mended_if_room, mend_good, mend_from, mend}
use Rattle.format.specs.Mend.{after_mend, mended_image, mended_list}
use Rattle.format.specs.Judged.{Placed}
use Rattle.format.specs.declared.Header.{Header}
use Rattle.format.specs.declared.Side.{Side}
use Rattle.format.specs.declared.Entry.{Entry}
use Rattle.format.specs.declared.Entry.TheVariants.{Absent, Zero, Sector}
use Rattle.format.proofs.BytesAt.{part_long}
use Rattle.format.proofs.Entries.{no_some}
use Rattle.format.proofs.HeaderJudged.{judged_header}
use Rattle.format.proofs.Picked.{pick_else}
use Rattle.format.proofs.Mendable.{sided_placed, sided_two}
use Rattle.format.proofs.MendedAlike.{grain_used, grain_in_use}
use Rattle.format.proofs.MendedApart.{Changed, mended_byte}
use Rattle.format.proofs.MendedBytes.{good_room, other_room}
use Rattle.format.proofs.MendedRead.{good_entry_lem, other_entry_lem, good_bytes, good_table, good_tables, other_tables}
use Rattle.laws.proofs.MendedImage.{told, image_is, parts, apart, changed, kinds, mended_judged, mended_passed}
use Rattle.laws.proofs.MendedList.{none_listed}
use Rattle.std.specs.Prelude.{Ok}

-- bytes over bytes that are the same
over_alike : (m : List ℕ) (at from n : ℕ) → at + n ≤ length m → from + n ≤ length m
    → ((j : ℕ) → j < n → get_or m (at + j) 0 ≡ get_or m (from + j) 0) → over m at (bytes_at m from n) ≡ m
over_alike m at from n l k same =
    let long = part_long m from n k in
    sym (over_of m at (bytes_at m from n) (omega arith) m refl (λ i b. refl)
    (λ i b. same i (omega arith) ∙ sym (get_or-take n _ i 0 (omega arith) ∙ get_or-drop from m i 0)) (λ i b. refl))

-- ---- an image whose other tables have the good side's entries in use
module _ (m : List ℕ) (g : Header) where
  table_alike : (n : ℕ) (a b : Entry)
      → ((t u : ℕ) → a ≡ Sector t → b ≡ Sector u → over m (512 * u) (bytes_at m (512 * t) (4 * n)) ≡ m)
      → over_table m n a b m ≡ m
  unfolding over_table
  table_alike n (Sector t) (Sector u) same = same t u refl refl
  table_alike n (Sector t) Absent same = refl
  table_alike n (Sector t) Zero same = refl
  table_alike n Absent b same = refl
  table_alike n Zero b same = refl

  tables_alike : (n : ℕ)
      → ((d : ℕ) → d < n → (t u : ℕ) → good_entry m g d ≡ Sector t → other_entry m g d ≡ Sector u
      → over m (512 * u) (bytes_at m (512 * t) (4 * entries_in_use g d)) ≡ m)
      → mended_below m g n ≡ m
  unfolding mended_below
  tables_alike zero same = refl
  tables_alike (suc d) same =
      rw (tables_alike d (λ k l. same k (omega arith))) (table_alike (entries_in_use g d) _ _ (same d (omega arith)))

module _ (s : List ℕ) (side : Side) (list : List ℕ) (n : ℕ) (e : mend s side (length list) ≡ Ok n) where
  abbrev g : Header
  g = from_good side (header_of s)

  abbrev m : List ℕ
  m = mended s g

  placed : Placed s g
  placed = sided_placed s g (told s side list n e).sided

  two : g.redundant ≡ 0 → ⊥
  two = sided_two s g (told s side list n e).sided

  c : Changed s g m
  c = changed s side list n e

  -- ---- what is read of the changed image
  module _ (d : ℕ) (l : d < directory_entries_of g) where
    good_same : good_entry m g d ≡ good_entry s g d
    good_same = good_entry_lem s g m placed two (apart s side list n e) c.rest d l

    other_same : other_entry m g d ≡ other_entry s g d
    other_same = other_entry_lem s g m placed two (apart s side list n e) c.rest d l

    module _ (t u : ℕ) (a : good_entry s g d ≡ Sector t) (b : other_entry s g d ≡ Sector u) where
      byte_same : (j : ℕ) → j < 4 * entries_in_use g d → get_or m (512 * u + j) 0 ≡ get_or m (512 * t + j) 0
      byte_same j k =
          mended_byte s g placed two (apart s side list n e) d t u l a b j k
          ∙ sym
          (good_bytes s g m placed two (apart s side list n e) c.rest d l t a (512 * t + j) (omega arith) (omega arith))

      entry_same : (k : ℕ) → k < entries_in_use g d → entry_at m u k ≡ entry_at m t k
      entry_same k q =
          c.moved d t u l a b k q
          ∙ sym (good_table s g m placed two (apart s side list n e) c.rest d l t a k (omega arith))

      table_same : over m (512 * u) (bytes_at m (512 * t) (4 * entries_in_use g d)) ≡ m
      table_same =
          over_alike m (512 * u) (512 * t) (4 * entries_in_use g d)
          (omega (arith, c.rest.long, other_room s g placed two d l u b))
          (omega (arith, c.rest.long, good_room s g placed two d l t a)) byte_same

  -- ---- so it is its own changed image, and no change is listed
  pub nothing_written : mended m g ≡ m
  nothing_written =
      tables_alike m g (directory_entries_of g)
      (λ d l t u a b. table_same d l t u (sym (good_same d l) ∙ a) (sym (other_same d l) ∙ b))

  nothing_listed : changes m g ≡ []
  nothing_listed =
      none_listed m g
      (λ x l t u a b.
      let d = x / g.entries_per_table in
      let k = grain_used g placed.sound x l in
      entry_same d k t u (sym (good_same d k) ∙ a) (sym (other_same d k) ∙ b) (x % g.entries_per_table)
      (grain_in_use g placed.sound x l))

  -- ---- 40 is not given
  same_kinds : directories_differ m g ≡ false
  same_kinds =
      no_some _ (directory_entries_of g) (λ d l. rw (good_same d l, other_same d l) (kinds s side list n e d l))

  frame_apart : meet (areas_kept_apart m g) ≡ false
  frame_apart =
      rw (
        good_tables s g m placed two (apart s side list n e) c.rest,
        other_tables s g m placed two (apart s side list n e) c.rest,
        c.rest.long,
      )
      (parts s side list n e).0

  mendable : unmendable m g ≡ false
  unfolding unmendable pick
  mendable = rw (same_kinds, frame_apart, nothing_written) (parts s side list n e).1

  -- ---- the answer
  two_directories : (header_of s).redundant ≡ 0 → ⊥
  two_directories =
      let sided = (told s side list n e).sided in
      rw (← judged_header s sided.header sided.judged) sided.two

  again : (room : ℕ) → mend m side room ≡ Ok 0
  unfolding mend_from mend_good mended_if_room pick
  again room =
      rw (
        mended_judged s side list n e,
        (mended_passed s side list n e).places,
        ne_eqb (header_of s).redundant 0 two_directories,
        mendable,
        nothing_listed,
      )
      (pick_else _ _ _ (le-ltb room 0 (omega arith)))

  pub mended_again : (room : ℕ) → mend (mended_image s side list) side room ≡ Ok 0
  mended_again room = rw (image_is s side list n e) (again room)

  module _ (more : List ℕ) where
    again_image : mended_image m side more ≡ m
    unfolding after_mend
    again_image =
        rw (again (length more), ← judged_header m (header_of s) (mended_judged s side list n e)) nothing_written

    again_list : mended_list m side more ≡ more
    unfolding after_mend
    again_list =
        rw (again (length more), ← judged_header m (header_of s) (mended_judged s side list n e), nothing_listed)
        (sym (over_none more 0))

    pub again_kept : (mended_image (mended_image s side list) side more ≡ mended_image s side list)
        × (mended_list (mended_image s side list) side more ≡ more)
    again_kept = rw (image_is s side list n e) (again_image, again_list)
