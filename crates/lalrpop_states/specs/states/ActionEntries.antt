-- The action of a state on a token.
use Rattle.std.specs.Prelude.{ℕ, Option, Some, None, option_map}
use Rattle.lalrpop_grammar.specs.parsing.Runs.{reduction_on}
use Rattle.lalrpop_grammar.specs.states.States.{Contents}
use Rattle.lalrpop_grammar.specs.declared.repr.Production.{Production}
use Rattle.lalrpop_grammar.specs.declared.lookahead.token.Token.{Token}
use Rattle.lalrpop_grammar.specs.declared.lookahead.token.Token.TheVariants.{Eof, Error, Terminal as TokenOf}
use Rattle.lalrpop_states.specs.declared.lr1_core.actions.ActionEntry.{ActionEntry}
use Rattle.lalrpop_states.specs.declared.lr1_core.actions.ActionEntry.TheVariants.{Shift, Reduce}

-- an entry of the action table (Aho, Sethi and Ullman, section 4.7): a shift to the state with a
-- number, or a reduction by a production
pub data TableEntry : Type 0 where
  ShiftTo : ℕ → TableEntry
  ReduceBy : Production → TableEntry

-- the entry of the action table that an entry of the code means
abbrev pub table_entry : ActionEntry → TableEntry
table_entry (Shift target) = ShiftTo target.0
table_entry (Reduce production) = ReduceBy production.now

-- the number of the state to which the shift of a token leads, if the token is a terminal with a
-- shift
abbrev pub shift_of : Contents → Token → Option ℕ
shift_of s Eof = None
shift_of s Error = None
shift_of s (TokenOf t) = s.shift t

-- a shift to the target, if there is one, and otherwise a reduction by the production, if there is
-- one
abbrev pub shift_or : Option ℕ → Option Production → Option TableEntry
shift_or (Some target) reduction = Some (ShiftTo target)
shift_or None reduction = option_map ReduceBy reduction

-- the action of a state on a token: the shift if there is one, and otherwise the first reduction
-- that holds the token
abbrev pub action_on : Contents → Token → Option TableEntry
action_on s t = shift_or (shift_of s t) (reduction_on s.reductions t)
