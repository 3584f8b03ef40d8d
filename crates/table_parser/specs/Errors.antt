-- What an error of a run says.
use Rattle.std.specs.Prelude.{◌≡◌, ℕ, Result, Ok, Err}
use Rattle.table_parser.specs.declared.error.Refusal.{Refusal}
use Rattle.table_parser.specs.declared.error.TableParseError.{TableParseError}
use Rattle.table_parser.specs.declared.error.TableParseError.TheVariants.{Limit, Memory, Refused, Stopped, TooLong, Unknown}

-- the property holds if the error is the limit
abbrev pub IfLimit : {S : Type 0} → Type 0 → TableParseError S → Type 0
IfLimit P (Refused refusal) = Unit {0}
IfLimit P (Unknown position bit) = Unit {0}
IfLimit P (Stopped reason) = Unit {0}
IfLimit P Limit = P
IfLimit P TooLong = Unit {0}
IfLimit P Memory = Unit {0}

-- the property holds of a refusal
abbrev pub IfRefused : {S : Type 0} → (Refusal → Type 0) → TableParseError S → Type 0
IfRefused P (Refused refusal) = P refusal
IfRefused P (Unknown position bit) = Unit {0}
IfRefused P (Stopped reason) = Unit {0}
IfRefused P Limit = Unit {0}
IfRefused P TooLong = Unit {0}
IfRefused P Memory = Unit {0}

-- the property holds of the position and the number of a token that is no terminal
abbrev pub IfUnknown : {S : Type 0} → (ℕ → ℕ → Type 0) → TableParseError S → Type 0
IfUnknown P (Refused refusal) = Unit {0}
IfUnknown P (Unknown position bit) = P position bit
IfUnknown P (Stopped reason) = Unit {0}
IfUnknown P Limit = Unit {0}
IfUnknown P TooLong = Unit {0}
IfUnknown P Memory = Unit {0}

-- the result is the error for a token that is no terminal, with its position and its number
abbrev pub IsUnknown : {A S : Type 0} → ℕ → ℕ → Result A (TableParseError S) → Type 0
IsUnknown at token (Ok value) = ⊥
IsUnknown at token (Err (Refused refusal)) = ⊥
IsUnknown at token (Err (Unknown position bit)) = (position ≡ at) × (bit ≡ token)
IsUnknown at token (Err (Stopped reason)) = ⊥
IsUnknown at token (Err Limit) = ⊥
IsUnknown at token (Err TooLong) = ⊥
IsUnknown at token (Err Memory) = ⊥

-- the error is no refusal, and no unknown token
abbrev pub IsNoRefusal : {S : Type 0} → TableParseError S → Type 0
IsNoRefusal (Refused refusal) = ⊥
IsNoRefusal (Unknown position bit) = ⊥
IsNoRefusal (Stopped reason) = Unit {0}
IsNoRefusal Limit = Unit {0}
IsNoRefusal TooLong = Unit {0}
IsNoRefusal Memory = Unit {0}
