-- The text of an explained conflict, and how the text of all grows.
use Rattle.std.specs.Prelude.{◌≡◌, ℕ, List, ◌++◌, codes}
use Rattle.std.specs.List.{flat_map}
use Rattle.lalrpop_base.specs.Words.{terminal_text}
use Rattle.lalrpop_states.specs.declared.lr1_core.state.Action.{Action}
use Rattle.lalrpop_states.specs.declared.lr1_core.state.Action.TheVariants.{Shift, Reduce}
use Rattle.lalrpop_grammar.specs.declared.repr.TerminalString.{TerminalString}
use Rattle.lalrpop_lr1.specs.Words.{production_line, tokens_in}
use Rattle.lalrpop_explain.specs.declared.explain.ExplainedConflict.{ExplainedConflict}
use Rattle.lalrpop_explain.specs.declared.explain.ExplainedItem.{ExplainedItem}
use Rattle.lalrpop_traces.specs.declared.trace.example.Example.{Example}
use Rattle.lrtab_run.specs.Explained.{head_line, indented_line}

-- a text grew by a text of which P holds
pub record AppendsText (P : List ℕ → Type 0) (old new : List ℕ) : Type 0 where
  pub added : List ℕ
  pub holds : P added
  pub grown : new ≡ old ++ added

-- the line of an example
abbrev pub example_line : Example → List ℕ
example_line x = indented_line x.symbols.items x.cursor

-- the lines of the examples of an item
abbrev pub example_lines : ExplainedItem → List ℕ
example_lines item = flat_map example_line item.examples.items

-- a reduction: its production, and the examples of its finished item
abbrev pub reduction_text : ExplainedItem → List ℕ
reduction_text item = codes "  reduce " ++ (production_line item.production.now ++ example_lines item)

-- the other action: a shift with its terminal and the examples of each item, or the reduction of
-- each item
abbrev pub action_text : Action → List ExplainedItem → List ℕ
action_text (Shift t target) items = codes "  shift " ++ (terminal_text t ++ (codes "\n" ++ flat_map example_lines items))
action_text (Reduce p) items = flat_map reduction_text items

-- a conflict with a number: its head, its reduction and its other action
abbrev pub conflict_text : List TerminalString → ℕ → ExplainedConflict → List ℕ
conflict_text terminals number x = head_line number x.conflict.now.state (tokens_in terminals x.conflict.now.lookahead) ++ (reduction_text x.reduction ++ action_text x.conflict.now.action x.others.items)
