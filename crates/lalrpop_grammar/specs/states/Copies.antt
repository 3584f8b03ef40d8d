-- Copies of states, which are made to split the states of tables.
use Rattle.std.specs.Prelude.{◌≡◌, ◌↔◌, ℕ, Some}
use Rattle.lalrpop_grammar.specs.declared.repr.Production.{Production}
use Rattle.lalrpop_grammar.specs.declared.repr.Symbol.{Symbol}
use Rattle.lalrpop_grammar.specs.states.States.{Contents, leads}
use Rattle.lalrpop_grammar.specs.closures.Closures.{items_of}

-- each state has the dotted productions of its original. Its edges lead to copies of the states to
-- which the edges of the original lead. State 0 is its own original
pub record IsCopying (original : ℕ → ℕ) (states copies : ℕ → Contents) : Type 0 where
  pub first : original 0 ≡ 0
  pub items : (n : ℕ) (p : Production) (dot : ℕ) → items_of copies n p dot ↔ items_of states (original n) p dot
  pub edges : (n m : ℕ) (x : Symbol) → leads (copies n) x ≡ Some m → leads (states (original n)) x ≡ Some (original m)
  pub each : (n k : ℕ) (x : Symbol) → leads (states (original n)) x ≡ Some k → (m : ℕ) × (leads (copies n) x ≡ Some m)
