-- The blocks of a report: those of its conflicts and of its states.
use Rattle.std.specs.Prelude.{ℕ, List, [], ◌∷◌, ◌++◌, length, map, max, codes, Option, None, Some}
use Rattle.std.specs.Fmt.{decimal}
use Rattle.std.specs.List.{flat_map}
use Rattle.std.specs.Borrow.{Bor}
use Rattle.lalrpop_base.specs.Words.{Bits, Dotted, nonterminal_text, terminal_text}
use Rattle.lalrpop_grammar.specs.declared.repr.NonterminalString.{NonterminalString}
use Rattle.lalrpop_grammar.specs.declared.repr.TerminalString.{TerminalString}
use Rattle.lalrpop_grammar.specs.declared.repr.Production.{Production}
use Rattle.lalrpop_states.specs.declared.lr1_core.state.StateIndex.{StateIndex}
use Rattle.lalrpop_states.specs.declared.lr1_core.state.State.{State}
use Rattle.lalrpop_states.specs.declared.lr1_core.state.Action.{Action}
use Rattle.lalrpop_states.specs.declared.lr1_core.state.Action.TheVariants.{Shift, Reduce}
use Rattle.lalrpop_states.specs.declared.lr1_core.state.Conflict.{Conflict}
use Rattle.lalrpop_report.specs.reports.ReportLines.{filled, longest, production_line, lookahead_line, item_lines, reduction_lines, shift_line, goto_line}

-- the lines of a conflict between a reduction and a shift. The terminal is padded to the length of
-- the nonterminal, if that is longer
abbrev pub shift_reduce_lines : Production → TerminalString → StateIndex → List ℕ
shift_reduce_lines p t target = codes "    shift/reduce conflict\n        reduction " ++ (production_line p ++ (codes "        shift     "
    ++ (filled (max (length (terminal_text t)) (length (nonterminal_text p.nonterminal))) (terminal_text t) ++ (codes "    shift and goto " ++ (decimal target.0 ++ codes "\n")))))

-- the lines of a conflict between two reductions
abbrev pub reduce_reduce_lines : Production → Production → List ℕ
reduce_reduce_lines p other = codes "    reduce/reduce conflict\n        reduction " ++ (production_line p ++ (codes "        reduction " ++ production_line other))

-- the lines of the two actions of a conflict
abbrev pub actions_lines : Production → Action → List ℕ
actions_lines p (Shift t target) = shift_reduce_lines p t target
actions_lines p (Reduce other) = reduce_reduce_lines p other.now

-- the shifts and the gotos of a state, each part after an empty line, with all names in one width.
-- The empty line is there even if the part has no line
abbrev pub edges_lines : List (TerminalString × StateIndex) → List (NonterminalString × StateIndex) → List ℕ
edges_lines shifts gotos =
    let width = max (longest (map (λ e. terminal_text e.0) shifts)) (longest (map (λ e. nonterminal_text e.0) gotos)) in
    codes "\n" ++ (flat_map (shift_line width) shifts ++ (codes "\n" ++ flat_map (goto_line width) gotos))

-- the first line of a state's block
abbrev pub state_line : StateIndex → List ℕ
state_line index = codes "State " ++ (decimal index.0 ++ codes " {\n")

module _ {L : Type 0} (meaning : L → Bits) (terminals : List TerminalString) where
  -- the items, with all nonterminals in one width
  abbrev pub items_block : List (Dotted L) → List ℕ
  items_block items =
      let width = longest (map (λ (i : Dotted L). nonterminal_text i.production.nonterminal) items) in
      flat_map (item_lines meaning terminals width) items

  -- an empty line and the reductions, or no line if there are none
  abbrev pub reductions_block : List (L × Bor Production) → List ℕ
  reductions_block [] = []
  reductions_block (r ∷ reductions) = codes "\n" ++ flat_map (reduction_lines meaning terminals) (r ∷ reductions)

  -- the block of a conflict
  abbrev pub conflict_block : Conflict L → List ℕ
  conflict_block conflict = codes "\n" ++ (actions_lines conflict.production.now conflict.action ++ lookahead_line meaning terminals conflict.lookahead)

  -- the block of the conflict, if there is one
  abbrev pub block_at : Option (Conflict L) → List ℕ
  block_at None = []
  block_at (Some conflict) = conflict_block conflict

  -- the block of a state with its conflicts
  abbrev pub state_block : List (Conflict L) → State L → List ℕ
  state_block conflicts state = state_line state.index ++ (items_block state.items.vec.items ++ (reductions_block state.reductions.items
      ++ (edges_lines state.shifts.entries state.gotos.entries ++ (flat_map conflict_block conflicts ++ codes "}\n"))))
