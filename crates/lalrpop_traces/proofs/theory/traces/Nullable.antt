-- Symbols derive the empty list if each of them does.
use Rattle.std.proofs.Common.{◌≡◌, ◌↔◌, ℕ, zero, suc, ◌+◌, ◌<◌, List, [], ◌∷◌, length, drop, get_or, sym, ◌∙◌, ap, subst, arith}
use mathlib.Core.List.{nil≢cons}
use Rattle.lalrpop_base.specs.Words.{IsNullable}
use Rattle.lalrpop_traces.proofs.Types.{Production, Symbol, TerminalString}
use Rattle.lalrpop_grammar.specs.declared.repr.Symbol.TheVariants.{Terminal}
use Rattle.lalrpop_grammar.proofs.theory.grammars.Forests.{derives_forest, forest-terminal, nullable-cons}

pub terminal_not_nullable : (g : List Production) (t : TerminalString) → IsNullable g (Terminal t ∷ []) → ⊥
terminal_not_nullable g t d = nil≢cons (forest-terminal (derives_forest d)).1

drop_at : (xs : List Symbol) (i : ℕ) (x : Symbol) → i < length xs → x ≡ get_or xs i x → drop i xs ≡ x ∷ drop (i + 1) xs
drop_at [] i x l e = absurd (omega arith)
drop_at (y ∷ xs) zero x l e = ap (λ z. z ∷ xs) (sym e)
drop_at (y ∷ xs) (suc i) x l e = drop_at xs i x (omega arith) e ∙ ap (λ n. x ∷ drop n (y ∷ xs)) (let up : suc (i + 1) ≡ suc i + 1 = omega arith in up)

module _ (g : List Production) (xs : List Symbol) (i : ℕ) (x : Symbol) (within : i < length xs) (is : x ≡ get_or xs i x) (so_far : IsNullable g (drop i xs) ↔ IsNullable g xs) where
  -- if a symbol is nullable, the list is nullable exactly if the symbols after that one are
  pub null_on : IsNullable g (x ∷ []) → IsNullable g (drop (i + 1) xs) ↔ IsNullable g xs
  null_on h = let N : List Symbol → Type 0 = IsNullable g in (
    λ d. so_far.0 (subst N (sym (drop_at xs i x within is)) ((nullable-cons x (drop (i + 1) xs)).1 (h, d))),
    λ d. ((nullable-cons x (drop (i + 1) xs)).0 (subst N (drop_at xs i x within is) (so_far.1 d))).1,
  )

  -- if a symbol is not nullable, the list is not
  pub null_stops : ¬ IsNullable g (x ∷ []) → ¬ IsNullable g xs
  null_stops out d = let N : List Symbol → Type 0 = IsNullable g in out ((nullable-cons x (drop (i + 1) xs)).0 (subst N (drop_at xs i x within is) (so_far.1 d))).0
