-- The node of a state in the text of a graph.
use Rattle.std.specs.Prelude.{ℕ, ◌==◌, ◌||◌, ◌&&◌, ◌-◌, nat_lt, Bool, List, [], ◌∷◌, ◌++◌, Option, None, Some, codes, length, slice_get, if◌then◌else◌}
use Rattle.std.specs.Borrow.{Bor}
use Rattle.std.specs.Fmt.{decimal}
use Rattle.std.specs.List.{flat_map, list_any}
use Rattle.lalrpop_base.specs.Words.{Bits, Dotted, nonterminal_text, prefix_of, rest_of}
use Rattle.lalrpop_grammar.specs.contracts.repr.NonterminalStringPartialEq.TheImpl as name_eq
use Rattle.lalrpop_grammar.specs.declared.repr.NonterminalString.{NonterminalString}
use Rattle.lalrpop_grammar.specs.declared.repr.Production.{Production}
use Rattle.lalrpop_grammar.specs.declared.repr.Symbol.{Symbol}
use Rattle.lalrpop_grammar.specs.declared.repr.TerminalString.{TerminalString}
use Rattle.lalrpop_states.specs.declared.lr1_core.state.Action.{Action}
use Rattle.lalrpop_states.specs.declared.lr1_core.state.Action.TheVariants.{Shift, Reduce}
use Rattle.lalrpop_states.specs.declared.lr1_core.state.Conflict.{Conflict}
use Rattle.lalrpop_states.specs.declared.lr1_core.state.State.{State}
use Rattle.table_pictures.specs.Escape.{xml_text}
use Rattle.table_pictures.specs.Symbols.{production_xml, symbol_xml, symbols_xml, tokens_xml}

-- whether an item is in the kernel of its state: its dot is after a symbol, or the state is state 0
-- and the left side is the start symbol
abbrev pub is_kernel_item : NonterminalString → ℕ → Dotted Bits → Bool
is_kernel_item start number item = nat_lt 0 item.index || ((number == 0) && name_eq.ghosts.eq item.production.nonterminal start)

-- the end of a line of a node, which aligns the line to the left
abbrev pub line_end : List ℕ
line_end = codes "<BR ALIGN=\"LEFT\"/>"

-- the line of an item, with the dot between its symbols
abbrev pub item_line : Dotted Bits → List ℕ
item_line item = xml_text (nonterminal_text item.production.nonterminal) ++ (codes " -&gt;" ++ (symbols_xml (prefix_of item) ++ (codes " &bull;" ++ (symbols_xml (rest_of item) ++ line_end))))

-- the line of an item that is in the kernel; other items have none
abbrev pub kernel_line : NonterminalString → ℕ → Dotted Bits → List ℕ
kernel_line start number item = if is_kernel_item start number item then item_line item else []

-- the other action of a conflict, before its reduction
abbrev pub action_xml : Action → List ℕ
action_xml (Shift t target) = codes "shift to " ++ (decimal target.0 ++ codes ", or reduce ")
action_xml (Reduce other) = codes "reduce " ++ (production_xml other.now ++ codes ", or ")

-- the two actions of a conflict, and `on` for the tokens that follow
abbrev pub conflict_xml : Conflict Bits → List ℕ
conflict_xml conflict = action_xml conflict.action ++ (production_xml conflict.production.now ++ codes ", on")

-- whether a state has one of the conflicts
abbrev pub has_conflict : List (Conflict Bits) → ℕ → Bool
has_conflict conflicts number = list_any (λ (c : Conflict Bits). c.state.0 == number) conflicts

-- whether one of the reductions is by a production of the start symbol
abbrev pub accepts : NonterminalString → List (Bits × Bor Production) → Bool
accepts start reductions = list_any (λ (r : Bits × Bor Production). name_eq.ghosts.eq r.1.now.nonterminal start) reductions

-- the end of the label of a node, which has a second frame if its state reduces to the start symbol
abbrev pub accepting_end : NonterminalString → List (Bits × Bor Production) → List ℕ
accepting_end start reductions = codes ">" ++ (if accepts start reductions then codes " peripheries=2" else [])

-- the end of a node, which is red or not
abbrev pub node_end : Bool → List ℕ
node_end red = if red then codes " color=red penwidth=2];\n" else codes "];\n"

-- the head of a node: the number of its state
abbrev pub node_head : ℕ → List ℕ
node_head number = codes "  " ++ (decimal number ++ (codes " [label=<<B>State " ++ (decimal number ++ codes "</B>")))

-- the symbol by which a state is entered, or what the other items give
abbrev pub read_xml : Option Symbol → List ℕ → List ℕ
read_xml None others = others
read_xml (Some symbol) others = codes " by" ++ symbol_xml symbol

-- the symbol by which a state with these items is entered: the last one before the dot of the first
-- item that has one
unfoldable pub entry_xml : List (Dotted Bits) → List ℕ
entry_xml [] = []
entry_xml (item ∷ items) = read_xml (slice_get (prefix_of item) (length (prefix_of item) - 1)) (entry_xml items)

module _ (terminals : List TerminalString) where
  -- the line of a reduction
  abbrev pub reduction_line : Bits × Bor Production → List ℕ
  reduction_line (set, p) = codes "<I>reduce</I> " ++ (production_xml p.now ++ (codes " <I>on</I>" ++ (tokens_xml terminals set ++ line_end)))

  -- the red line of a conflict
  abbrev pub red_line : Conflict Bits → List ℕ
  red_line conflict = codes "<FONT COLOR=\"red\">" ++ (conflict_xml conflict ++ (tokens_xml terminals conflict.lookahead ++ (codes "</FONT>" ++ line_end)))

  -- the line of a conflict in a state; conflicts in other states have none
  abbrev pub conflict_line : ℕ → Conflict Bits → List ℕ
  conflict_line number conflict = if conflict.state.0 == number then red_line conflict else []

  -- the node of a state: its number, its kernel, its reductions and its conflicts
  abbrev pub node : NonterminalString → List (Conflict Bits) → State Bits → List ℕ
  node start conflicts state = node_head state.index.0 ++ (entry_xml state.items.vec.items ++ (line_end ++ (flat_map (kernel_line start state.index.0) state.items.vec.items ++ (flat_map reduction_line state.reductions.items
      ++ (flat_map (conflict_line state.index.0) conflicts ++ (accepting_end start state.reductions.items ++ node_end (has_conflict conflicts state.index.0)))))))
