-- What follows from the error of a run for the error that is reported.
use Rattle.std.proofs.Common.{subst}
use Rattle.std.specs.Prelude.{IfOk, Result}
use Rattle.std.specs.declared.convert.Infallible.{Infallible}
use Rattle.lalrpop_base.specs.Words.{Bits}
use Rattle.table_parser.specs.Errors.{IfRefused}
use Rattle.table_parser.specs.declared.error.Refusal.{Refusal}
use Rattle.table_parser.specs.declared.error.TableParseError.{TableParseError}
use Rattle.table_parser.proofs.Reports.{both_ok}
use Rattle.expecting_parser.specs.Expecting.{IfFailed, IfRefusedWith, IsReport}
use Rattle.expecting_parser.specs.declared.error.ExpectingError.{ExpectingError}
use Rattle.expecting_parser.specs.declared.error.ExpectingError.TheVariants.{Failed, Refused}

-- what follows from a clause on a value
pub if_ok : {A E : Type 0} {P Q : A → Type 0} → ((x : A) → P x → Q x) → (r : Result A E) → IfOk r P → IfOk r Q
if_ok f r h = both_ok (λ x p same. f x p) r h h

module _ {T : Type 0} (error : TableParseError T) (P : Bits → Type 0) where
  -- what holds of the error holds of the one that is reported, if it is no refusal
  pub failed : (X : TableParseError T → Type 0) (reported : ExpectingError T) → IsReport error P reported → X error → IfFailed X reported
  failed X (Refused refusal expected) is x = tt
  failed X (Failed other) is x = subst X is.0 x

  -- only a refusal is reported as one
  pub no_refusal : (reported : ExpectingError T) → IsReport error P reported → IfFailed (IfRefused (λ _. ⊥)) reported
  no_refusal (Refused refusal expected) is = tt
  no_refusal (Failed other) is = is.1

  -- what is said of a refusal, with the property of the tokens that were found
  pub refused_with : {Q : Refusal → Type 0} {R : Refusal → Result Bits (TableParseError Infallible) → Type 0} → ((refusal : Refusal) (expected : Result Bits (TableParseError Infallible)) → Q refusal → IfOk expected P → R refusal expected) →
      (reported : ExpectingError T) → IsReport error P reported → IfRefused Q error → IfRefusedWith R reported
  refused_with {Q} f (Refused refusal expected) is q = f refusal expected (subst (IfRefused Q) is.0 q) is.1
  refused_with f (Failed other) is q = tt

-- what follows from a clause on a refusal and the tokens
pub if_refused_with : {T : Type 0} {Q R : Refusal → Result Bits (TableParseError Infallible) → Type 0} → ((refusal : Refusal) (expected : Result Bits (TableParseError Infallible)) → Q refusal expected → R refusal expected) → (reported : ExpectingError T) → IfRefusedWith Q reported → IfRefusedWith R reported
if_refused_with f (Refused refusal expected) q = f refusal expected q
if_refused_with f (Failed other) q = tt
