-- Two facts of one result.
use Rattle.std.specs.Prelude.{IfOk, IfErr, MatchResult}
use Rattle.std.specs.declared.result.Result.{Result}
use Rattle.std.specs.declared.result.Result.TheVariants.{Ok, Err}
use Rattle.std.proofs.Common.{◌↔◌}

pub IfOk-both : {T E : Type 0} (r : Result T E) (P Q : T → Type 0) → IfOk r P → IfOk r Q → IfOk r (λ x. P x × Q x)
IfOk-both (Ok x) P Q p q = (p, q)
IfOk-both (Err e) P Q p q = tt

pub MatchResult-both : {T E : Type 0} (r : Result T E) (P : T → Type 0) (Q : E → Type 0) → IfOk r P → IfErr r Q → MatchResult r P Q
MatchResult-both (Ok x) P Q p q = p
MatchResult-both (Err e) P Q p q = q

-- a premise of a fact on the error of a result becomes a part of the fact
pub IfErr-given : {T E Z : Type 0} (r : Result T E) (P : E → Type 0) → (Z → IfErr r P) → IfErr r (λ e. Z → P e)
IfErr-given (Ok x) P h = tt
IfErr-given (Err e) P h = h

pub then_both : {A B C : Type 0} → A ↔ B → B ↔ C → A ↔ C
then_both a b = (λ x. b.0 (a.0 x), λ z. a.1 (b.1 z))

pub turned_both : {A B : Type 0} → A ↔ B → B ↔ A
turned_both a = (a.1, a.0)

pub both_ways : {A B : Type 0} → (A → B) → (B → A) → A ↔ B
both_ways f k = (f, k)
