-- Refusals with the tokens that may come in place of the refused token.
use Rattle.std.proofs.Common.{inl, inr}
use Rattle.std.specs.Prelude.{◌≡◌, ℕ, List, Option, IfOk, Result}
use Rattle.std.specs.declared.convert.Infallible.{Infallible}
use Rattle.lalrpop_base.specs.Words.{Bits}
use Rattle.parse_tables.specs.declared.table.ParseTable.{ParseTable}
use Rattle.table_parser.specs.Words.{AreExpectedAfter, Event, IfRefused, IsRefusalOf}
use Rattle.table_parser.specs.declared.error.Refusal.{Refusal}
use Rattle.table_parser.specs.declared.error.TableParseError.{TableParseError}
use Rattle.table_parser.specs.declared.error.TableParseError.TheVariants.{Refused as RefusedAlone}
use Rattle.expecting_parser.specs.declared.error.ExpectingError.{ExpectingError}
use Rattle.expecting_parser.specs.declared.error.ExpectingError.TheVariants.{Failed, Refused}

-- the property holds of a refusal and of what was found of the expected tokens
abbrev pub IfRefusedWith : {S : Type 0} → (Refusal → Result Bits (TableParseError Infallible) → Type 0) → ExpectingError S → Type 0
IfRefusedWith P (Refused refusal expected) = P refusal expected
IfRefusedWith P (Failed error) = Unit {0}

-- the property holds of any other error
abbrev pub IfFailed : {S : Type 0} → (TableParseError S → Type 0) → ExpectingError S → Type 0
IfFailed P (Refused refusal expected) = Unit {0}
IfFailed P (Failed error) = P error

-- the error of a run is reported: a refusal with tokens of which the property holds, if they were
-- found, and any other error as it is
abbrev pub IsReport : {S : Type 0} → TableParseError S → (Bits → Type 0) → ExpectingError S → Type 0
IsReport error P (Refused refusal expected) = (error ≡ RefusedAlone refusal) × IfOk expected P
IsReport error P (Failed other) = (error ≡ other) × IfRefused (λ _. ⊥) other

module _ {S : Type 0} (gives : S → Option ℕ → S → Type 0) (input : S) (table : ParseTable) {H : Type 0} (takes : H → Event → H → Type 0) (limit : ℕ) (h i : H) where
  -- the bits of the terminals before the refused token
  abbrev pub bits_before : {refusal : Refusal} → IsRefusalOf gives input table takes limit h i refusal → List ℕ
  bits_before (inl last) = last.bits
  bits_before (inr end) = end.bits

  -- a refusal, and exactly the tokens that may come after the terminals before the refused token, if
  -- they were found
  abbrev pub IsRefusalWith : Refusal → Result Bits (TableParseError Infallible) → Type 0
  IsRefusalWith refusal expected = (is : IsRefusalOf gives input table takes limit h i refusal) × IfOk expected (AreExpectedAfter table (bits_before is))
