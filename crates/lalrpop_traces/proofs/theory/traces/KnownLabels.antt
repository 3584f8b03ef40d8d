-- Symbols after others, all of whose terminals are in a list.
use Rattle.std.proofs.Common.{◌≡◌, ℕ, true, List, [], ◌∷◌, ◌++◌, refl, sym, ◌∙◌, ap, subst, zero, suc}
use mathlib.Core.Bool.{true≢false}
use Rattle.std.specs.Prelude.{Contains, IfSome, Option, Some, None, IsNone, is_some, slice_get}
use Rattle.lalrpop_base.specs.Words.{HasKnownTerminals}
use Rattle.lalrpop_traces.proofs.Types.{Symbol, TerminalString}
use Rattle.lalrpop_grammar.specs.declared.repr.Symbol.TheVariants.{Terminal}
use Rattle.lalrpop_collections.proofs.theory.lists.Lists.{place_contains}

pub known_append : (terminals : List TerminalString) (xs ys : List Symbol) → HasKnownTerminals terminals xs → HasKnownTerminals terminals ys → HasKnownTerminals terminals (xs ++ ys)
known_append terminals [] ys a b k t at = b k t at
known_append terminals (x ∷ xs) ys a b zero t at = a zero t at
known_append terminals (x ∷ xs) ys a b (suc k) t at = known_append terminals xs ys (λ j u g. a (suc j) u g) b k t at

pub known_more : (terminals : List TerminalString) (xs ys new : List Symbol) → new ≡ xs ++ ys → HasKnownTerminals terminals xs → HasKnownTerminals terminals ys → HasKnownTerminals terminals new
known_more terminals xs ys new e a b = let P : List Symbol → Type 0 = HasKnownTerminals terminals in subst P (sym e) (known_append terminals xs ys a b)

-- a bit that is not missing is there
pub there_is : (o : Option ℕ) → (IsNone o → ⊥) → is_some o ≡ true
there_is None h = absurd (h refl)
there_is (Some n) h = refl

-- a symbol by itself
pub known_cursor : (terminals : List TerminalString) (x : Symbol) → ((t : TerminalString) → Some x ≡ Some (Terminal t) → Contains terminals t) → HasKnownTerminals terminals (x ∷ [])
known_cursor terminals x h zero t e = h t e
known_cursor terminals x h (suc k) t e = cc

-- if a terminal has a bit, it is in the list
pub known_there : (terminals : List TerminalString) (x : Symbol) (u : TerminalString) (o : Option ℕ) → x ≡ Terminal u → IfSome o (λ bit. slice_get terminals bit ≡ Some u) → is_some o ≡ true → HasKnownTerminals terminals (x ∷ [])
known_there terminals x u None is found h k t e = absurd (true≢false (sym h))
known_there terminals x u (Some n) is found h zero t e =
    let same : Some (Terminal u) ≡ Some (Terminal t) = ap (λ y. Some y) (sym is) ∙ e in
    let one : u ≡ t = cc in
    subst (Contains terminals) one (place_contains terminals n u found)
known_there terminals x u (Some n) is found h (suc k) t e = cc
