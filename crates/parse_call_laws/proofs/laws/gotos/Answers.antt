use Rattle.std.proofs.Common.{◌≡◌, ℕ, List, sym, subst}
use Rattle.parse_calls.specs.Lookups.{goto_at}
use Rattle.table_numbers.specs.Words.{numbered_contents}
use Rattle.parse_call_laws.specs.Laws.{state_by}
use Rattle.parse_call_laws.proofs.Found.{same_goto}
use Rattle.parse_call_laws.proofs.laws.gotos.Goals as goal

pub returns : goal.returns
returns c = record {
  right = λ lists tables numbers is state number name at. subst (λ (ns : List ℕ). state_by (goto_at ns state number) ≡ (numbered_contents lists tables state).goto name) (sym is.laid_out) (same_goto lists tables is.about is.nonterminals state number name at);
}
