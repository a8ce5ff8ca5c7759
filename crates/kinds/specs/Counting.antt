-- Entries counted by what they mean, one after the other.
use Rattle.std.specs.Prelude.{ℕ, zero, suc, ◌+◌}
use Rattle.format.specs.declared.Entry.{Entry}
use Rattle.format.specs.declared.Entry.TheVariants.{Absent, Zero, Sector}
use Rattle.kinds.specs.declared.Kinds.{Kinds}

abbrev pub none : Kinds
none = record { absent = 0; zero = 0; named = 0 }

-- n grains more, all of one entry
unfoldable pub with_many : Kinds → Entry → ℕ → Kinds
with_many k Absent n = record { absent = k.absent + n; zero = k.zero; named = k.named }
with_many k Zero n = record { absent = k.absent; zero = k.zero + n; named = k.named }
with_many k (Sector e) n = record { absent = k.absent; zero = k.zero; named = k.named + n }

-- the first n of a row of entries
unfoldable pub with_entries : Kinds → (ℕ → Entry) → ℕ → Kinds
with_entries k entry zero = k
with_entries k entry (suc n) = with_many (with_entries k entry n) (entry n) 1

-- all that were counted
abbrev pub all_of : Kinds → ℕ
all_of k = k.absent + k.zero + k.named
