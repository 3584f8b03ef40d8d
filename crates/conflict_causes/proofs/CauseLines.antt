-- Lines of causes.
use Rattle.std.proofs.Common.{ℕ, List, [], ◌∷◌, ◌++◌}
use Rattle.lalrpop_collections.specs.Words.{Bits}
use Rattle.lalrpop_grammar.specs.declared.repr.TerminalString.{TerminalString}
use Rattle.lalrpop_states.specs.declared.lr1_core.state.Conflict.{Conflict}
use Rattle.lalrpop_states.specs.declared.lr1_core.state.State.{State}
use Rattle.conflict_causes.specs.CauseLines.{AreLinesOf, CauseLine, IsCauseLine}

-- lines of causes, and one of another cause at the end
pub one_line_more : (terminals : List TerminalString) (states : List (State Bits)) (conflicts : List (Conflict Bits)) (cs : List (List ℕ)) (ls : List CauseLine) (c : List ℕ) (l : CauseLine) → AreLinesOf terminals states conflicts cs ls → IsCauseLine terminals states conflicts c l → AreLinesOf terminals states conflicts (cs ++ c ∷ []) (ls ++ l ∷ [])
one_line_more terminals states conflicts [] [] c l h is = (is, tt)
one_line_more terminals states conflicts [] (x ∷ ls) c l h is = absurd h
one_line_more terminals states conflicts (d ∷ cs) [] c l h is = absurd h
one_line_more terminals states conflicts (d ∷ cs) (x ∷ ls) c l h is = (h.0, one_line_more terminals states conflicts cs ls c l h.1 is)
