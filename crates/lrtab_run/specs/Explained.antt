-- The explanation of conflicts, as a text: a list of bytes. Each conflict has a head, its reduction
-- and its other action. Both actions have their first examples.
use Rattle.std.specs.Prelude.{◌≡◌, ◌≢◌, ℕ, ◌+◌, List, [], ◌∷◌, ◌++◌, length, take, slice_get, Some, codes}
use Rattle.std.specs.Fmt.{decimal}
use Rattle.std.specs.List.{flat_map}
use Rattle.lalrpop_base.specs.Words.{Bits, Dotted, terminal_text, Rules}
use Rattle.lalrpop_grammar.specs.declared.lookahead.token.Token.{Token}
use Rattle.lalrpop_states.specs.declared.lr1_core.state.Action.{Action}
use Rattle.lalrpop_states.specs.declared.lr1_core.state.Action.TheVariants.{Shift, Reduce}
use Rattle.lalrpop_states.specs.declared.lr1_core.state.Conflict.{Conflict}
use Rattle.lalrpop_states.specs.declared.lr1_core.state.State.{State}
use Rattle.lalrpop_states.specs.declared.lr1_core.state.StateIndex.{StateIndex}
use Rattle.lalrpop_grammar.specs.declared.repr.Production.{Production}
use Rattle.lalrpop_grammar.specs.declared.repr.Symbol.TheVariants.{Terminal}
use Rattle.lalrpop_grammar.specs.declared.repr.TerminalString.{TerminalString}
use Rattle.lalrpop_lr1.specs.Words.{AreFirst, example_text, GoesOnWith, prefixes, spelled, item_node, items_at, paths, production_line, tokens_in, tokens_text, Graph, IsInOrder, IsTraceOf}
use Rattle.lalrpop_lr1.specs.Words.{dotted, shift_traced, reduction_traced}
use Rattle.lalrpop_traces.specs.declared.trace.example.ExampleSymbol.{ExampleSymbol}

-- ---- the lines
-- the head of a conflict: its number, its state and its tokens
abbrev pub head_line : ℕ → StateIndex → List Token → List ℕ
head_line number state tokens = codes "conflict " ++ (decimal number ++ (codes " in state " ++ (decimal state.0 ++ (codes " on" ++ (tokens_text tokens ++ codes "\n")))))

-- an example after four spaces
abbrev pub indented_line : List ExampleSymbol → ℕ → List ℕ
indented_line symbols place = codes "    " ++ (example_text symbols place ++ codes "\n")

-- the line of the example of a path
abbrev pub path_line : Graph → List ℕ → List ℕ
path_line graph path = indented_line (spelled graph path) (length (prefixes graph path))

-- the lines of the examples of paths
abbrev pub path_lines : Graph → List (List ℕ) → List ℕ
path_lines graph shown = flat_map (path_line graph) shown

-- ---- the examples of an item
-- a text has the parts of a list, one after the other, of which the first has the number n
pub data HasParts {X : Type 0} (IsPart : ℕ → X → List ℕ → Type 0) : ℕ → List X → List ℕ → Type 0 where
  no_part : {n : ℕ} → HasParts IsPart n [] []
  part : {n : ℕ} {x : X} {xs : List X} {text : List ℕ} (own rest : List ℕ) → IsPart n x own → HasParts IsPart (n + 1) xs rest → text ≡ own ++ rest → HasParts IsPart n (x ∷ xs) text

-- the rules of a grammar, and the states of its conflicts
module _ (g : Rules) (states : List (State Bits)) where
  -- the text has the first three examples of an item that shifts
  pub record HasShiftExamples (state : StateIndex) (item : Dotted Bits) (text : List ℕ) : Type 0 where
    pub graph : Graph
    pub traced : IsTraceOf (shift_traced g.productions states state (dotted item.production item.index)) graph
    pub ordered : IsInOrder (shift_traced g.productions states state (dotted item.production item.index)) graph
    pub shown : text ≡ path_lines graph (take 3 (paths graph (item_node item)))

  -- the text has the first three examples of a finished item that can go on with a token of its
  -- lookahead
  pub record HasReduceExamples (state : StateIndex) (item : Dotted Bits) (text : List ℕ) : Type 0 where
    pub graph : Graph
    pub traced : IsTraceOf (reduction_traced g.productions states state (dotted item.production item.index)) graph
    pub ordered : IsInOrder (reduction_traced g.productions states state (dotted item.production item.index)) graph
    pub first : List (List ℕ)
    pub are_first : AreFirst (GoesOnWith g graph item.lookahead) 3 (paths graph (item_node item)) first
    pub shown : text ≡ path_lines graph first

  -- ---- the parts of a conflict
  -- the text has the examples of an item, if it shifts the terminal, and else is empty
  pub data IsItemPart (state : StateIndex) (t : TerminalString) (item : Dotted Bits) (text : List ℕ) : Type 0 where
    shifting : slice_get item.production.symbols item.index ≡ Some (Terminal t) → HasShiftExamples state item text → IsItemPart state t item text
    other : slice_get item.production.symbols item.index ≢ Some (Terminal t) → text ≡ [] → IsItemPart state t item text

  -- the text of a shift: its terminal, and the examples of each item of the state that shifts it,
  -- in their order
  pub record IsShiftPart (state : StateIndex) (t : TerminalString) (text : List ℕ) : Type 0 where
    pub examples : List ℕ
    pub of_items : HasParts (λ _ item. IsItemPart state t item) 0 (items_at (slice_get states state.0)) examples
    pub shown : text ≡ codes "  shift " ++ (terminal_text t ++ (codes "\n" ++ examples))

  -- the text of a reduction: its production, and the examples of its finished item on the tokens of
  -- the conflict
  pub record IsReducePart (state : StateIndex) (lookahead : Bits) (p : Production) (text : List ℕ) : Type 0 where
    pub examples : List ℕ
    pub of_item : HasReduceExamples state (record { production = p; index = length p.symbols; lookahead = lookahead }) examples
    pub shown : text ≡ codes "  reduce " ++ (production_line p ++ examples)

  -- the text of an action of a conflict: a shift or a reduction
  abbrev pub IsActionPart : StateIndex → Bits → Action → List ℕ → Type 0
  IsActionPart state lookahead (Shift t target) text = IsShiftPart state t text
  IsActionPart state lookahead (Reduce p) text = IsReducePart state lookahead p.now text

  -- the part of a conflict: its head, its reduction and its other action
  pub record IsConflictPart (number : ℕ) (c : Conflict Bits) (text : List ℕ) : Type 0 where
    pub reduction : List ℕ
    pub action : List ℕ
    pub reduces : IsReducePart c.state c.lookahead c.production.now reduction
    pub acts : IsActionPart c.state c.lookahead c.action action
    pub shown : text ≡ head_line number c.state (tokens_in g.terminals c.lookahead) ++ (reduction ++ action)

  -- the text has the parts of all conflicts, numbered from 1
  abbrev pub IsExplanation : List (Conflict Bits) → List ℕ → Type 0
  IsExplanation conflicts text = HasParts IsConflictPart 1 conflicts text
