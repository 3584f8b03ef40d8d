-- The terminals that a run has read.
use Rattle.std.specs.Prelude.{◌≡◌, ℕ, List, Option, IfSome}
use Rattle.parse_tables.specs.declared.table.ParseTable.{ParseTable}
use Rattle.table_parser.specs.Words.{Event, IsRefusalOf}
use Rattle.table_parser.specs.declared.error.Refusal.{Refusal}
use Rattle.expecting_parser.specs.Expecting.{bits_before}
use Rattle.expecting_parser.specs.declared.kept.Kept.{Kept}

-- these bits are kept, unless an allocation has failed
abbrev pub AreKept : List ℕ → Kept → Type 0
AreKept bits kept = IfSome kept.bits (λ list. list.items ≡ bits)

-- a refusal, and the bits of the terminals before the refused token are kept
abbrev pub IsRefusalAfter : {S : Type 0} → (S → Option ℕ → S → Type 0) → S → ParseTable → {H : Type 0} → (H → Event → H → Type 0) → ℕ → H → H → Kept → Refusal → Type 0
IsRefusalAfter gives input table takes limit h i kept refusal = (is : IsRefusalOf gives input table takes limit h i refusal) × AreKept (bits_before gives input table takes limit h i is) kept
