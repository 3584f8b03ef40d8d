-- The tokens that reductions of a state hold, and the shifts on these tokens.
use Rattle.std.specs.Prelude.{◌≡◌, ◌∷◌, ◌<◌, ℕ, true, cond, List, [], Contains, slice_get, Some}
use Rattle.lalrpop_grammar.specs.grammars.Tokens.{HasToken}
use Rattle.lalrpop_collections.specs.lists.Bits.{Bits, has}
use Rattle.lalrpop_states.specs.states.Contents.{holds_token}
use Rattle.lalrpop_states.specs.conflicts.StateConflicts.{StateReduction}
use Rattle.lalrpop_grammar.specs.declared.lookahead.token.Token.TheVariants.{Terminal as TokenOf}
use Rattle.lalrpop_states.specs.declared.lr1_core.state.Action.{Action}
use Rattle.lalrpop_states.specs.declared.lr1_core.state.Action.TheVariants.{Shift}
use Rattle.lalrpop_states.specs.declared.lr1_core.state.StateIndex.{StateIndex}
use Rattle.lalrpop_grammar.specs.declared.repr.TerminalString.{TerminalString}

-- some reduction holds the bit
abbrev pub IsHeldBit : List StateReduction → ℕ → Type 0
IsHeldBit reductions bit = (r : StateReduction) × Contains reductions r × (has r.0 bit ≡ true)

-- a list with the shift, if the set holds its terminal, and otherwise an empty list
abbrev pub held_shift : List TerminalString → Bits → TerminalString × StateIndex → List Action
held_shift terminals held (t, target) = cond (holds_token terminals held (TokenOf t)) (Shift t target ∷ []) []

-- no two of the reductions hold one bit
abbrev pub ShareNoBit : List StateReduction → Type 0
ShareNoBit reductions = (i j bit : ℕ) (r s : StateReduction) → i < j → slice_get reductions i ≡ Some r → slice_get reductions j ≡ Some s → has r.0 bit ≡ true → has s.0 bit ≡ true → ⊥

-- none of the shifts is on a terminal that the set holds
abbrev pub HoldsNoShift : List TerminalString → Bits → List (TerminalString × StateIndex) → Type 0
HoldsNoShift terminals held shifts = (t : TerminalString) (target : StateIndex) → Contains shifts (t, target) → ¬ HasToken terminals held (TokenOf t)
