-- Words put into a list one after the other.
use Rattle.std.specs.Prelude.{ℕ, ◌+◌, ◌≡◌, List, ◌++◌, length}
use Rattle.base.specs.Bytes.{over}
use Rattle.format.specs.Areas.{header_area, descriptor_area, directory_area, redundant_area, primary_tables, redundant_tables}
use Rattle.format.specs.Areas.{footer_area, last_area}
use Rattle.format.specs.Frame.{told}
use Rattle.format.specs.declared.Header.{Header}

-- the words ws stand over what the list held from `at` on, and the next ones go to r
pub record WordsPut (ws before : List ℕ) (at : ℕ) (after : List ℕ) (r : ℕ) : Type 0 where
  pub words : after ≡ over before at ws
  pub next : r ≡ at + length ws

-- ---- the groups of areas that functions put
unfoldable pub head_words : Header → List ℕ
head_words h = told 1 (header_area h) ++ told 2 (descriptor_area h)

unfoldable pub directory_words : Header → List ℕ
directory_words h = told 3 (directory_area h) ++ told 4 (redundant_area h)

unfoldable pub front_words : Header → List ℕ
front_words h = head_words h ++ directory_words h

unfoldable pub table_words : List ℕ → Header → List ℕ
table_words s h = told 5 (primary_tables s h) ++ told 6 (redundant_tables s h)

unfoldable pub back_words : List ℕ → Header → List ℕ
back_words s h = told 7 (footer_area s h) ++ told 8 (last_area s h)
