-- The contents of conflicts of the code, to which the definitions of LR(1) parsing apply.
use Rattle.std.specs.Prelude.{List, map}
use Rattle.lalrpop_grammar.specs.conflicts.Conflicts.{ConflictContents}
use Rattle.lalrpop_collections.specs.lists.Bits.{Bits}
use Rattle.lalrpop_grammar.specs.parsing.Validity.{Action, Shift, Reduce}
use Rattle.lalrpop_states.specs.states.Contents.{holds_token}
use Rattle.lalrpop_states.specs.declared.lr1_core.state.Action.{Action as StateAction}
use Rattle.lalrpop_states.specs.declared.lr1_core.state.Action.TheVariants.{Shift as ShiftTo, Reduce as ReduceBy}
use Rattle.lalrpop_states.specs.declared.lr1_core.state.Conflict.{Conflict}
use Rattle.lalrpop_grammar.specs.declared.repr.TerminalString.{TerminalString}

-- the action of the definitions that an action of the code means, without the target of a shift
abbrev pub action_of : StateAction → Action
action_of (ShiftTo t target) = Shift t
action_of (ReduceBy production) = Reduce production.now

-- the contents of a conflict, whose lookahead is a test of tokens
abbrev pub conflict_of : List TerminalString → Conflict Bits → ConflictContents
conflict_of terminals c = record { production = c.production.now; action = action_of c.action; lookahead = holds_token terminals c.lookahead }

-- the contents of each conflict of a list
abbrev pub conflicts_of : List TerminalString → List (Conflict Bits) → List ConflictContents
conflicts_of terminals cs = map (conflict_of terminals) cs
