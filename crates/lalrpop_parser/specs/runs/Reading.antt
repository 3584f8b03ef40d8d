-- Runs up to the last terminal of the input, without the end of the input.
use Rattle.std.specs.Prelude.{◌≡◌, ◌≢◌, ℕ, suc, ◌<◌, ◌≤◌, List, [], ◌∷◌, reverse}
use Rattle.lalrpop_grammar.specs.declared.repr.TerminalString.{TerminalString}
use Rattle.lalrpop_grammar.specs.declared.lookahead.token.Token.TheVariants.{Terminal as TokenOf}
use Rattle.lalrpop_base.specs.Words.{Contents, Tree, Configuration, Stands, Goes, Ends, move, Outcome, Refused, Limit}

-- n steps, none of them final and each on a terminal, lead from one configuration to another
pub data Reads (states : ℕ → Contents) : ℕ → Configuration → Configuration → Type 0 where
  read : {c : Configuration} → Reads states 0 c c
  before : {n : ℕ} {c d e : Configuration} (t : TerminalString) (rest : List TerminalString) → c.rest ≡ t ∷ rest → move states c ≡ Goes d → Reads states n d e → Reads states (suc n) c e

-- the run stops while terminals are left: it is refused, or another step would pass the limit
pub data StopsReading (states : ℕ → Contents) (b : Configuration) (limit : ℕ) : Outcome → Type 0 where
  -- a configuration without a step
  stuck : (n : ℕ) (c : Configuration) (t : TerminalString) (rest : List TerminalString) → n ≤ limit → Reads states n b c → c.rest ≡ t ∷ rest → move states c ≡ Stands → StopsReading states b limit (Refused c.state (TokenOf t))
  -- a final step within the limit
  early_end : (n : ℕ) (c : Configuration) (trees : List Tree) (t : TerminalString) (rest : List TerminalString) → n < limit → Reads states n b c → c.rest ≡ t ∷ rest → move states c ≡ Ends trees → StopsReading states b limit (Refused c.state (TokenOf t))
  -- `limit` steps were made, none of them final, and there is another
  cut_off : (c : Configuration) (t : TerminalString) (rest : List TerminalString) → Reads states limit b c → c.rest ≡ t ∷ rest → move states c ≢ Stands → StopsReading states b limit Limit

-- the outcome of a run up to the last terminal: a stack of states, the newest last, or a stop
pub data PartialOutcome : Type 0 where
  Stack : List ℕ → PartialOutcome
  Stop : Outcome → PartialOutcome

-- the outcome of such a run from a configuration, within the limit
pub data HasPartialOutcome (states : ℕ → Contents) (b : Configuration) (limit : ℕ) : PartialOutcome → Type 0 where
  -- the stack after the last terminal was shifted
  all_read : (n : ℕ) (c : Configuration) → n ≤ limit → Reads states n b c → c.rest ≡ [] → HasPartialOutcome states b limit (Stack (reverse (c.state ∷ c.below)))
  stopped : (o : Outcome) → StopsReading states b limit o → HasPartialOutcome states b limit (Stop o)
