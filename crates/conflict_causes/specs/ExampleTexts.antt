-- The text of the examples of a conflict of which no witness of ambiguity was found. The examples are
-- those of Isradisaikul and Myers, "Finding Counterexamples from Parsing Conflicts", section 4: one
-- input for each action.
use Rattle.std.specs.Prelude.{◌≡◌, ◌↔◌, ℕ, Bool, IsTrue, List, [], ◌++◌, codes}
use Rattle.std.specs.List.{flat_map}
use Rattle.lalrpop_ambiguity.specs.declared.search.Search.{Search}
use Rattle.lalrpop_ambiguity.specs.declared.search.Search.TheVariants.{Found, Exhausted, Cut}
use Rattle.lalrpop_collections.specs.lists.Bits.{Bits}
use Rattle.lalrpop_grammar.specs.grammars.WellFormed.{Rules}
use Rattle.lalrpop_states.specs.declared.lr1_core.state.Action.{Action}
use Rattle.lalrpop_states.specs.declared.lr1_core.state.Action.TheVariants.{Shift, Reduce}
use Rattle.lalrpop_states.specs.declared.lr1_core.state.Conflict.{Conflict}
use Rattle.lalrpop_states.specs.declared.lr1_core.state.State.{State}
use Rattle.lalrpop_traces.specs.declared.trace.example.Example.{Example}
use Rattle.lalrpop_traces.specs.traces.ExampleTexts.{example_text}
use Rattle.lalrpop_explain.specs.Words.{AreOwnStates, IsExplained, IsOwnConflict}
use Rattle.lalrpop_explain.specs.declared.explain.ExplainedConflict.{ExplainedConflict}
use Rattle.lalrpop_explain.specs.declared.explain.ExplainedItem.{ExplainedItem}
use Rattle.lalrpop_explain.specs.declared.explain.explainer.Explainer.{Explainer}

-- ---- the lines
-- the name of an action, in six characters
abbrev pub action_name : Action → List ℕ
action_name (Shift t target) = codes "shift "
action_name (Reduce p) = codes "reduce"

-- the line of an example of an action
abbrev pub example_line : List ℕ → Example → List ℕ
example_line action x = codes "    " ++ (action ++ (codes "  " ++ (example_text x.symbols.items x.cursor ++ codes "\n")))

-- the lines of the examples of an item
abbrev pub item_examples : List ℕ → ExplainedItem → List ℕ
item_examples action item = flat_map (example_line action) item.examples.items

-- the examples of the items of both actions, those of the reduction last
abbrev pub explained_text : ExplainedConflict → List ℕ
explained_text x = codes "  an input for each action:\n" ++ (flat_map (item_examples (action_name x.conflict.now.action)) x.others.items ++ item_examples (codes "reduce") x.reduction)

-- ---- what is shown
-- a flag says whether the states of an explainer are over the productions of its grammar
abbrev pub KnowsOwn : Bool → Explainer → Type 0
KnowsOwn are_own e = IsTrue are_own ↔ AreOwnStates e.context.first_sets.now e.context.states.now

-- a text grew by a text of which P holds
pub record AppendsBy (P : List ℕ → Type 0) (old new : List ℕ) : Type 0 where
  pub added : List ℕ
  pub holds : P added
  pub grown : new ≡ old ++ added

-- the rules of a grammar, and states
module _ (g : Rules) (states : List (State Bits)) where
  -- the states and a conflict are over the productions of the grammar
  abbrev pub IsOwn : Conflict Bits → Type 0
  IsOwn c = AreOwnStates g states × IsOwnConflict g.productions c

  -- the text has the first example of each item of a conflict's actions. If the states or the
  -- conflict are not over the productions of the grammar, it is empty
  pub data IsExamplesText (c : Conflict Bits) (text : List ℕ) : Type 0 where
    examples : (x : ExplainedConflict) → IsExplained g states 1 c x → text ≡ explained_text x → IsExamplesText c text
    foreign : (IsOwn c → ⊥) → text ≡ [] → IsExamplesText c text

  -- the text after the result of a search: nothing if there is a witness, and else the examples
  abbrev pub IsAfterSearch : Conflict Bits → Search → List ℕ → Type 0
  IsAfterSearch c (Found found) text = text ≡ []
  IsAfterSearch c Exhausted text = IsExamplesText c text
  IsAfterSearch c Cut text = IsExamplesText c text
