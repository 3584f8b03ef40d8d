-- The productions of tables that a file has not: those of a hidden nonterminal. That is a new start
-- symbol, which has one production, from it to the old one.
use Rattle.std.specs.Prelude.{Bool, false, cond, Option, None, Some, option_map}
use Rattle.std.specs.BTreeMap.{is_at}
use Rattle.std.specs.Borrow.{Bor}
use Rattle.lalrpop_base.specs.Words.{ReduceBy, ShiftTo, TableEntry, name_cmp}
use Rattle.lalrpop_grammar.specs.declared.repr.NonterminalString.{NonterminalString}
use Rattle.lalrpop_grammar.specs.declared.repr.Production.{Production}

-- the hidden nonterminal to which a reference refers, if there is one
abbrev pub hidden_now : Option (Bor NonterminalString) → Option NonterminalString
hidden_now hidden = option_map (λ (name : Bor NonterminalString). name.now) hidden

-- whether a production is one of the hidden nonterminal, if there is one
abbrev pub is_hidden : Option NonterminalString → Production → Bool
is_hidden None p = false
is_hidden (Some f) p = is_at (name_cmp f) p.nonterminal

-- the action in a file for an action of tables. A reduction by a hidden production accepts the input,
-- as a shift to state 0 would
abbrev pub shown_entry : Option NonterminalString → Option TableEntry → Option TableEntry
shown_entry hidden None = None
shown_entry hidden (Some (ShiftTo state)) = Some (ShiftTo state)
shown_entry hidden (Some (ReduceBy p)) = cond (is_hidden hidden p) (Some (ShiftTo 0)) (Some (ReduceBy p))
