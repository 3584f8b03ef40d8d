-- What is shown for a page.
use Rattle.std.proofs.Common.{◌≡◌, ℕ, List, [], Result, Ok, Err, ◌∙◌}
use Rattle.std.specs.Prelude.{IfOk}
use Rattle.lalrpop_base.specs.Words.{Bits}
use Rattle.lalrpop_states.specs.declared.lr1_core.state.Conflict.{Conflict}
use Rattle.lalrpop_states.specs.declared.lr1_core.state.State.{State}
use Rattle.lalrpop_collections.specs.declared.memory.OutOfMemory.{OutOfMemory}
use Rattle.lalrpop_grammar.specs.declared.repr.NonterminalString.{NonterminalString}
use Rattle.lalrpop_grammar.specs.declared.repr.grammar.Grammar.{Grammar}
use Rattle.program_answers.specs.declared.answer.Shown.{Shown}
use Rattle.table_data.specs.Whole.{IsData}
use Rattle.table_pictures.specs.Page.{page}
use Rattle.lrshow_check.specs.Output.{IsOutput}
use Rattle.lrshow_run.specs.Shown.{IsFormShown}
use Rattle.lrshow_arguments.specs.Words.{Page}

-- if a text is the page of some data, then what is shown with that text is what is shown for a page
pub page_shown : (g : Grammar) (start : NonterminalString) (status : ℕ) (states : List (State Bits)) (conflicts : List (Conflict Bits)) (json text : List ℕ) → IsData g start states conflicts json → text ≡ page json → (r : Result Shown OutOfMemory) → IfOk r (IsOutput status text []) →
    IfOk r (IsFormShown g start status states conflicts Page)
page_shown g start status states conflicts json text held is (Ok s) out = (json, held, record { ended = out.ended; whole = out.whole ∙ is; remarked = out.remarked })
page_shown g start status states conflicts json text held is (Err e) out = tt
