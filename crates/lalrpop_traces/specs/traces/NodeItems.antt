-- Items as nodes of a trace graph.
use Rattle.lalrpop_base.specs.Words.{Dotted}
use Rattle.lalrpop_states.specs.declared.lookahead.nil.Nil.{Nil}

-- the dotted production of an item, without a lookahead
abbrev pub without_lookahead : {L : Type 0} → Dotted L → Dotted Nil
without_lookahead item = record { production = item.production; index = item.index; lookahead = record {} }
