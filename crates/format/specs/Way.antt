-- How a lookup comes to its answer, step by step (issue 29): what 1 means and the grain, then the directory's entry, then the
-- table's. A step is told where the lookup reaches it; what is not reached is 0.
use Rattle.std.specs.Prelude.{ℕ, ◌/◌, ◌%◌, List, false, leb}
use Rattle.base.specs.Pick.{pick}
use Rattle.format.specs.Geometry.{file_sectors}
use Rattle.format.specs.Header.{judge}
use Rattle.format.specs.Entries.{entry_byte, entry_at, meaning_at}
use Rattle.format.specs.Areas.{area, ends_past}
use Rattle.format.specs.Check.{directory_misplaced}
use Rattle.format.specs.Source.{sector_lookup}
use Rattle.format.specs.Answers.{steps_numbers}
use Rattle.format.specs.declared.Header.{Header}
use Rattle.format.specs.declared.Entry.{Entry}
use Rattle.format.specs.declared.Entry.TheVariants.{Absent, Zero, Sector}
use Rattle.format.specs.declared.steps.Way.{Way}
use Rattle.format.specs.declared.steps.Steps.{Steps}
use Rattle.std.specs.Prelude.{Result, Ok, Err}
use Rattle.format.specs.declared.Refusal.{Refusal}

-- ---- how far the lookup comes
-- 1 to 7, 43 and 20: nothing is told
unfoldable pub no_way : Way
no_way =
    record {
      one_is_zero = false;
      grain = 0;
      directory_at = 0;
      directory_entry = 0;
      table_at = 0;
      table_entry = 0;
    }

-- to the grain
unfoldable pub to_grain : Header → ℕ → Way
to_grain h g =
    record {
      one_is_zero = h.one_is_zero;
      grain = g;
      directory_at = 0;
      directory_entry = 0;
      table_at = 0;
      table_entry = 0;
    }

-- to the directory's entry
unfoldable pub to_directory : List ℕ → Header → ℕ → Way
to_directory s h g =
    record {
      one_is_zero = h.one_is_zero;
      grain = g;
      directory_at = entry_byte h.directory (g / h.entries_per_table);
      directory_entry = entry_at s h.directory (g / h.entries_per_table);
      table_at = 0;
      table_entry = 0;
    }

-- to the entry of the table at sector t
unfoldable pub to_table : List ℕ → Header → ℕ → ℕ → Way
to_table s h g t =
    record {
      one_is_zero = h.one_is_zero;
      grain = g;
      directory_at = entry_byte h.directory (g / h.entries_per_table);
      directory_entry = entry_at s h.directory (g / h.entries_per_table);
      table_at = entry_byte t (g % h.entries_per_table);
      table_entry = entry_at s t (g % h.entries_per_table);
    }

-- ---- by the lookup's own tests: 8 with place 4, then 20 and 8 with place 2, then 1 to 7 and 43
unfoldable pub way_table : List ℕ → Header → ℕ → Entry → Way
way_table s h g Absent = to_directory s h g
way_table s h g Zero = to_directory s h g
way_table s h g (Sector t) =
    pick (ends_past (file_sectors s) (area t h.table_sectors)) (to_directory s h g) (to_table s h g t)

unfoldable pub way_in : List ℕ → Header → ℕ → Way
way_in s h x =
    let g = x / h.grain_size in
    pick (leb h.capacity x) no_way
    (pick (directory_misplaced (file_sectors s) h) (to_grain h g)
    (way_table s h g (meaning_at s h.one_is_zero h.directory (g / h.entries_per_table))))

unfoldable pub way_from : List ℕ → ℕ → Result Header Refusal → Way
way_from s x (Err r) = no_way
way_from s x (Ok h) = way_in s h x

abbrev pub way : List ℕ → ℕ → Way
way s x = way_from s x (judge s)

-- ---- the call: the way, and the lookup's answer
abbrev pub lookup_steps : List ℕ → ℕ → Steps
lookup_steps s x = steps_numbers (way s x) (sector_lookup s x)
