-- A chain: layers end to end in one slice, base first, with a list of their lengths.
use Rattle.std.specs.Prelude.{ℕ, zero, suc, ◌+◌, List, [], ◌∷◌, Bool, not, ◌&&◌, ◌||◌, ltb, leb, eqb, length, get_or, take}
use Rattle.base.specs.Pick.{pick}
use Rattle.format.specs.Geometry.{bytes_at}
use Rattle.format.specs.Header.{header_of, judge}
use Rattle.format.specs.Entries.{any_below}
use Rattle.format.specs.Source.{sector_lookup}
use Rattle.format.specs.declared.Header.{Header}
use Rattle.format.specs.declared.Source.TheVariants.{Absent, Zero, Stored, Packed}
use Rattle.format.specs.declared.Refusal.TheVariants.{SectorPast, LayersDiffer, LayerLengths}
use Rattle.std.specs.Prelude.{Result, Ok, Err}
use Rattle.format.specs.declared.Source.{Source}
use Rattle.format.specs.declared.LayerSource.{LayerSource}
use Rattle.format.specs.declared.LayerRefusal.{LayerRefusal}
use Rattle.format.specs.declared.Refusal.{Refusal}
use Rattle.format.specs.AnswerParts.{refused_at}

-- ---- layers
unfoldable pub lengths_sum : List ℕ → ℕ
lengths_sum [] = 0
lengths_sum (n ∷ l) = n + lengths_sum l

-- layer k is a part that starts where the last one ended
abbrev pub layer_at : List ℕ → List ℕ → ℕ → List ℕ
layer_at s lengths k = bytes_at s (lengths_sum (take k lengths)) (get_or lengths k 0)

-- 24 unless there are 1 to `most` lengths, and their sum, counted exactly, is the slice's length
abbrev pub lengths_broken : ℕ → List ℕ → List ℕ → Bool
lengths_broken most s lengths =
    eqb (length lengths) 0 || (ltb most (length lengths) || not (eqb (lengths_sum lengths) (length s)))

-- ---- headers, from the top down: of the lowest k + 1 layers the topmost, k, is judged first. `a` is the answer where none is
-- refused
unfoldable pub if_known : ℕ → Result Header Refusal → Result LayerSource LayerRefusal → Result LayerSource LayerRefusal
if_known k (Err r) a = refused_at k r
if_known k (Ok h) a = a

unfoldable pub headers_down : List ℕ → List ℕ → ℕ → Result LayerSource LayerRefusal → Result LayerSource LayerRefusal
headers_down s lengths zero a = a
headers_down s lengths (suc k) a =
    let below = headers_down s lengths k a in if_known k (judge (layer_at s lengths k)) below

-- 22: two capacities or two grain sizes differ; if any two do, one differs from layer 0
unfoldable pub unlike : Header → Header → Bool
unlike a b = not (eqb a.capacity b.capacity && eqb a.grain_size b.grain_size)

abbrev pub layers_differ : List ℕ → List ℕ → Bool
layers_differ s lengths =
    any_below (λ k. unlike (header_of (layer_at s lengths 0)) (header_of (layer_at s lengths k))) (length lengths)

-- ---- the walk: the topmost layer not absent for x, else layer 0 and absent
unfoldable pub unless_absent : ℕ → Result Source Refusal → Result LayerSource LayerRefusal → Result LayerSource LayerRefusal
unless_absent k (Err r) below = refused_at k r
unless_absent k (Ok Absent) below = below
unless_absent k (Ok Zero) below = Ok (record { layer = k; source = Zero })
unless_absent k (Ok (Stored sector)) below = Ok (record { layer = k; source = Stored sector })
unless_absent k (Ok (Packed marker size o)) below = Ok (record { layer = k; source = Packed marker size o })

unfoldable pub walk_down : List ℕ → List ℕ → ℕ → ℕ → Result LayerSource LayerRefusal
walk_down s lengths x zero = Ok (record { layer = 0; source = Absent })
walk_down s lengths x (suc k) =
    let below = walk_down s lengths x k in unless_absent k (sector_lookup (layer_at s lengths k) x) below

-- 22, then 20, then the walk: after 22 layer 0's capacity is every layer's. 20 and 22 name layer 0
unfoldable pub walk : List ℕ → List ℕ → ℕ → Result LayerSource LayerRefusal
walk s lengths x =
    pick (layers_differ s lengths) (refused_at 0 LayersDiffer)
    (pick (leb (header_of (layer_at s lengths 0)).capacity x) (refused_at 0 SectorPast)
    (walk_down s lengths x (length lengths)))

-- ---- the chain lookup: 24, which names layer 0; headers from the top down; 22; 20; the walk
unfoldable pub chain_lookup : List ℕ → List ℕ → ℕ → Result LayerSource LayerRefusal
chain_lookup s lengths x =
    pick (lengths_broken 16 s lengths) (refused_at 0 LayerLengths)
    (headers_down s lengths (length lengths) (walk s lengths x))
