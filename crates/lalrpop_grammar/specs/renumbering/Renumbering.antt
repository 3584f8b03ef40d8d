-- States under other numbers.
use Rattle.std.specs.Prelude.{◌≡◌, ◌<◌, ℕ, Option, Some, None}
use Rattle.lalrpop_grammar.specs.declared.repr.NonterminalString.{NonterminalString}
use Rattle.lalrpop_grammar.specs.declared.repr.Symbol.{Symbol}
use Rattle.lalrpop_grammar.specs.states.States.{Contents, leads}

-- the new number of a target
abbrev pub renumbered : (ℕ → ℕ) → Option ℕ → Option ℕ
renumbered new None = None
renumbered new (Some n) = Some (new n)

-- a renumbering is a one-to-one change of state numbers. It keeps 0, commutes with shifts and
-- gotos, and changes nothing else
pub record IsRenumbering (new old : ℕ → ℕ) (before after : ℕ → Contents) : Type 0 where
  pub there : (n : ℕ) → old (new n) ≡ n
  pub back : (n : ℕ) → new (old n) ≡ n
  pub fixes : new 0 ≡ 0
  pub commutes : (n : ℕ) (x : Symbol) → leads (after (new n)) x ≡ renumbered new (leads (before n) x)
  pub items : (n : ℕ) → (after (new n)).items ≡ (before n).items
  pub reductions : (n : ℕ) → (after (new n)).reductions ≡ (before n).reductions

-- a state with a goto
abbrev pub HasGoto : Contents → Type 0
HasGoto s = (a : NonterminalString) × (n : ℕ) × (s.goto a ≡ Some n)

-- after state 0, and below a number, the states that have a goto are before those without
abbrev pub PutsGotosFirst : ℕ → (ℕ → Contents) → Type 0
PutsGotosFirst count states = (n m : ℕ) → 0 < n → n < m → m < count → HasGoto (states m) → HasGoto (states n)
