use Rattle.std.proofs.Common.{◌≡◌, ℕ, List, sym, subst}
use Rattle.lalrpop_base.specs.Words.{action_on}
use Rattle.parse_calls.specs.Lookups.{action_at}
use Rattle.table_numbers.specs.Words.{numbered_contents}
use Rattle.parse_call_laws.specs.Laws.{entry_by}
use Rattle.parse_call_laws.proofs.Found.{same_action}
use Rattle.parse_call_laws.proofs.laws.actions.Goals as goal

pub returns : goal.returns
returns c = record {
  right = λ lists tables numbers is state bit token next at. subst (λ (ns : List ℕ). entry_by lists.productions (action_at ns state bit) ≡ action_on (numbered_contents lists tables state) token) (sym is.laid_out) (same_action lists tables is.about bit is.terminals token next at state);
}
