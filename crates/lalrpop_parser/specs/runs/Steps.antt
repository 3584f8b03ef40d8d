-- Runs from any configuration, and the number of steps of a parse.
use Rattle.std.specs.Prelude.{◌≡◌, ◌≢◌, ℕ, suc, ◌<◌, ◌≤◌, List, [], ◌∷◌}
use Rattle.lalrpop_grammar.specs.declared.repr.TerminalString.{TerminalString}
use Rattle.lalrpop_base.specs.Words.{Contents, Tree, Configuration, next_token, Stands, Ends, move, Reaches, begin, Outcome, Parsed, Refused, Limit, IsParse}

-- the outcome of the rest of a run, from a configuration with so many steps left
pub data HasOutcomeFrom (states : ℕ → Contents) (b : Configuration) (left : ℕ) : Outcome → Type 0 where
  parsed_from : (n : ℕ) (c : Configuration) (trees : List Tree) (t : Tree) → n < left → Reaches states n b c → move states c ≡ Ends trees → IsParse trees c.rest t → HasOutcomeFrom states b left (Parsed t)
  stuck_from : (n : ℕ) (c : Configuration) → n ≤ left → Reaches states n b c → move states c ≡ Stands → HasOutcomeFrom states b left (Refused c.state (next_token c.rest))
  other_end_from : (n : ℕ) (c : Configuration) (trees : List Tree) → n < left → Reaches states n b c → move states c ≡ Ends trees → ((t : Tree) → IsParse trees c.rest t → ⊥) → HasOutcomeFrom states b left (Refused c.state (next_token c.rest))
  cut_off_from : (c : Configuration) → Reaches states left b c → move states c ≢ Stands → HasOutcomeFrom states b left Limit

-- the run on w makes so many steps; the last one is final, and leaves only the tree, and no input
pub record IsParsedIn (states : ℕ → Contents) (w : List TerminalString) (steps : ℕ) (t : Tree) : Type 0 where
  pub before : ℕ
  pub last : Configuration
  pub counted : steps ≡ suc before
  pub reached : Reaches states before (begin w) last
  pub ends : move states last ≡ Ends (t ∷ [])
  pub used_up : last.rest ≡ []
