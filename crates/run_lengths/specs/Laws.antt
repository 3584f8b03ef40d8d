-- Theorems on the lengths of runs, which the functions of `laws.rt` state.
use Rattle.std.specs.Prelude.{◌⊎◌, ℕ, List, [], ◌∷◌}
use Rattle.lalrpop_grammar.specs.declared.repr.NonterminalString.{NonterminalString}
use Rattle.lalrpop_grammar.specs.declared.repr.Production.{Production}
use Rattle.lalrpop_grammar.specs.declared.repr.Symbol.TheVariants.{Nonterminal}
use Rattle.lalrpop_grammar.specs.declared.repr.TerminalString.{TerminalString}
use Rattle.lalrpop_grammar.specs.Words.{AreFaithful, Contents, HasOutcome, IsFirst, IsNullable, IsOnNoRightSide, Limit}
use Rattle.lalrpop_parser.specs.Words.{ForEachGrammar, HasEnough}
use Rattle.lalrpop_useful.specs.Words.{IsProductive, IsReachable}

-- a nonterminal is nullable, or has a terminal in FIRST
abbrev pub IsNullableOrHasFirst : List Production → NonterminalString → Type 0
IsNullableOrHasFirst g a = IsNullable g (Nonterminal a ∷ []) ⊎ ((t : TerminalString) × IsFirst g (Nonterminal a ∷ []) t)

-- over faithful states the run of each list ends, if each reachable nonterminal is nullable or has
-- a terminal in FIRST
abbrev pub FaithfulRunsEnd : Type 0
FaithfulRunsEnd = (states : ℕ → Contents) (w : List TerminalString) → ForEachGrammar states (λ g start. ((a : NonterminalString) → IsReachable g start a → IsNullableOrHasFirst g a) → HasEnough states w g start)

-- so it ends if each reachable nonterminal is productive
abbrev pub ProductiveRunsEnd : Type 0
ProductiveRunsEnd = (states : ℕ → Contents) (w : List TerminalString) → ForEachGrammar states (λ g start. ((a : NonterminalString) → IsReachable g start a → IsProductive g a) → HasEnough states w g start)

-- some states are faithful to some grammar and a start symbol on no right side, and yet the outcome
-- of each list is the limit, whatever the limit is
abbrev pub EndlessRunsExist : Type 0
EndlessRunsExist = (g : List Production) × (start : NonterminalString) × (states : ℕ → Contents) × AreFaithful g start states × IsOnNoRightSide g start × ((w : List TerminalString) (limit : ℕ) → HasOutcome states w limit Limit)
