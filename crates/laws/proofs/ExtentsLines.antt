-- What a line says of an extent: its first sector is the one that it was given, and it has one sector or more.
use Prim.Native.Nat.{ℕ, ◌<◌}
use mathlib.Core.Path.{◌≡◌, refl}
use mathlib.Core.List.{List}
use mathlib.Core.Bool.{Bool, true, false}
use native.Mathlib.Omega.{arith}
use lib.Dec.{eqb}
use borrow.Author.Tests.{eqb-false}
use Rattle.base.specs.Pick.{pick}
use Rattle.base.proofs.Steps.{or_no, cond_all}
use Rattle.descriptor.specs.declared.Extent.{Extent}
use Rattle.std.specs.Prelude.{Option, None, Some, IfSome, option_and_then, option_map, Ok, Err}
use Rattle.std.specs.Option.{ok_or}
use Rattle.descriptor.specs.declared.Access.{Access}
use Rattle.descriptor.specs.declared.Kind.{Kind}
use Rattle.descriptor.specs.declared.Kind.TheVariants.{Flat, Vmfs, Sparse, VmfsSparse, Zero}
use Rattle.descriptor.specs.declared.Key.{Key as RequiredKey}
use Rattle.descriptor.specs.declared.KeyValue.{KeyValue}
use Rattle.descriptor.specs.declared.Line.TheVariants.{Skip, Holds, Key}
use Rattle.descriptor.specs.declared.LineFault.{LineFault}
use Rattle.descriptor.specs.declared.LineFault.TheVariants.{BadKey, BadExtent}
use Rattle.descriptor.specs.Words.{word, after_word, decimal_value, quoted_length, after_quoted}
use Rattle.descriptor.specs.Said.{Said}
use Rattle.descriptor.specs.Keys.{value_of, key_says, with_key, split_at}
use Rattle.descriptor.specs.Extents.{access_of, type_of, offset_of, extent, with_name, from_name, with_type, with_sectors}
use Rattle.descriptor.specs.Extents.{from_sectors, sectors_bad}
use Rattle.descriptor.specs.Line.{by_access, line_with, line}

pub data Starts (first : ℕ) : Said → Type 0 where
  skip : Starts first (Ok Skip)
  fault : {number : LineFault} → Starts first (Err number)
  extent_at : {e : Extent} → e.first ≡ first → 0 < e.sectors → Starts first (Ok (Holds e))
  key : {value : KeyValue} → Starts first (Ok (Key value))

module _ (first : ℕ) where
  either : (b : Bool) (x y : Said) → (b ≡ true → Starts first x) → (b ≡ false → Starts first y) → Starts first (pick b x y)
  either b x y f g = cond_all (Starts first) b x y f g

  -- ---- extents
  abbrev Begins : Extent → Type 0
  Begins e = (e.first ≡ first) × (0 < e.sectors)

  begins : (b : Bool) (x y : Option Extent) → (b ≡ true → IfSome x Begins) → (b ≡ false → IfSome y Begins)
      → IfSome (pick b x y) Begins
  begins b x y f g = cond_all (λ o. IfSome o Begins) b x y f g

  -- a value that must be there
  there : {A : Type 0} (o : Option A) (f : A → Option Extent) → ((x : A) → IfSome (f x) Begins)
      → IfSome (option_and_then f o) Begins
  there None f g = tt
  there (Some x) f g = g x

  module _ (access : Access) (sectors : ℕ) (h : 0 < sectors) where
    extent_begins : (kind : Kind) (name_at name_length offset : ℕ)
        → Begins (extent first access sectors kind name_at name_length offset)
    extent_begins kind name_at name_length offset = (refl, h)

    name_begins : (kind : Kind) (name_at name_length offset : ℕ)
        → IfSome (with_name first access sectors kind name_at name_length offset) Begins
    name_begins kind name_at name_length offset =
        begins _ _ _ (λ e. tt) (λ e. begins _ _ _ (λ e. tt) (λ e. extent_begins kind name_at name_length offset))

    from_name_begins : (end : ℕ) (kind : Kind) (v : List ℕ) → IfSome (from_name first end access sectors kind v) Begins
    unfolding from_name
    from_name_begins end kind v =
        there (quoted_length v) _ (λ n. there (offset_of kind (after_quoted n v)) _ (λ o. name_begins kind _ n o))

    type_begins : (end : ℕ) (v : List ℕ) (kind : Kind) → IfSome (with_type first end access sectors v kind) Begins
    unfolding with_type
    type_begins end v Zero = begins _ _ _ (λ e. extent_begins Zero 0 0 0) (λ e. tt)
    type_begins end v Flat = from_name_begins end Flat v
    type_begins end v Vmfs = from_name_begins end Vmfs v
    type_begins end v Sparse = from_name_begins end Sparse v
    type_begins end v VmfsSparse = from_name_begins end VmfsSparse v

  sectors_begin : (end : ℕ) (access : Access) (v : List ℕ) (sectors : ℕ)
      → IfSome (with_sectors first end access v sectors) Begins
  unfolding with_sectors
  sectors_begin end access v sectors =
      begins (sectors_bad sectors) _ _ (λ e. tt)
      (λ e. let n = eqb-false sectors 0 (or_no (eqb sectors 0) _ e).0 in
      there (type_of (word v)) _ (type_begins access sectors (omega (arith, n)) end (after_word v)))

  extent_starts : (o : Option Extent) → IfSome o Begins → Starts first (ok_or (option_map Holds o) BadExtent)
  extent_starts None h = fault
  extent_starts (Some e) h = extent_at h.0 h.1

  -- ---- keys
  key_starts : (o : Option KeyValue) → Starts first (ok_or (option_map Key o) BadKey)
  key_starts None = fault
  key_starts (Some value) = key

  value_starts : (end : ℕ) (name : Option RequiredKey) (v : List ℕ) → Starts first (key_says end name v)
  value_starts end None v = skip
  value_starts end (Some name) v = key_starts (value_of end name v)

  split_starts : (end n : ℕ) (w : List ℕ) → Starts first (split_at end w n)
  unfolding split_at with_key
  split_starts end n w = either _ _ _ (λ e. fault) (λ e. either _ _ _ (λ e. fault) (λ e. value_starts end _ _))

  -- ---- the line
  by_access_starts : (end : ℕ) (w : List ℕ) (access : Option Access) → Starts first (by_access first end w access)
  by_access_starts end w None = split_starts end _ w
  by_access_starts end w (Some access) =
      extent_starts (from_sectors first end access (after_word w))
      (there (decimal_value (word (after_word w))) _ (sectors_begin end access (after_word (after_word w))))

  pub line_starts : (end : ℕ) (w : List ℕ) → Starts first (line first end w)
  unfolding line_with
  line_starts end w =
      either _ _ _ (λ e. skip) (λ e. either _ _ _ (λ e. skip) (λ e. by_access_starts end w (access_of (word w))))
