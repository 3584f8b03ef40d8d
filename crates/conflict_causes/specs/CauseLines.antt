-- The causes of conflicts, each in one line.
use Rattle.std.specs.Prelude.{◌≡◌, ℕ, List, [], ◌∷◌, ◌++◌, codes, length, map, slice_get, slice_index, string_bytes, Some}
use Rattle.std.specs.BTreeSet.{BTreeSet}
use Rattle.std.specs.List.{flat_map}
use Rattle.lalrpop_collections.specs.lists.Bits.{Bits, rising}
use Rattle.lalrpop_grammar.specs.declared.repr.Production.{Production}
use Rattle.lalrpop_grammar.specs.declared.repr.TerminalString.{TerminalString}
use Rattle.lalrpop_grammar.specs.grammars.Tokens.{token_of}
use Rattle.lalrpop_states.specs.declared.lookahead.nil.Nil.{Nil}
use Rattle.lalrpop_states.specs.declared.lr1_core.state.Action.{Action}
use Rattle.lalrpop_states.specs.declared.lr1_core.state.Action.TheVariants.{Shift, Reduce}
use Rattle.lalrpop_states.specs.declared.lr1_core.state.Conflict.{Conflict}
use Rattle.lalrpop_states.specs.declared.lr1_core.state.State.{State}
use Rattle.lalrpop_states.specs.states.Items.{Dotted}
use Rattle.conflict_causes.specs.declared.text.one_line.CauseLine.{CauseLine as LineWords}
use Rattle.conflict_causes.specs.Causes.{AreCauses}
use Rattle.conflict_causes.specs.CauseTexts.{cause_numbers, cause_tokens, item_text, kind_of, plural, rule_text}
use Rattle.conflict_causes.specs.Extents.{AreCauseStates, AreCauseTokens}
use Rattle.conflict_causes.specs.Keys.{AreItemsOfAction}

-- ---- the parts of a line
-- the kind of a cause, its tokens and its states
abbrev pub extent_text : Action → List TerminalString → Bits → List ℕ → List ℕ
extent_text action terminals tokens states =
    kind_of action ++ (codes " conflict on" ++ (cause_tokens (map (token_of terminals) (rising tokens)) ++ (codes " in state" ++ (plural (length states) ++ cause_numbers states))))

-- an item by which a state may shift, after a comma
abbrev pub shift_choice : Dotted Nil → List ℕ
shift_choice item = codes ", or shift by " ++ item_text item

-- the other action, after a comma: each item that shifts, or the other reduction
abbrev pub other_choice : Action → List (Dotted Nil) → List ℕ
other_choice (Shift t target) items = flat_map shift_choice items
other_choice (Reduce p) items = codes ", or reduce " ++ rule_text p.now

-- the reduction, and the other action
abbrev pub choice_text : Production → Action → List (Dotted Nil) → List ℕ
choice_text p action items = codes ": reduce " ++ (rule_text p ++ other_choice action items)

-- ---- the lines
-- a cause in one line, and the production of its reduction
pub record CauseLine : Type 0 where
  pub reduced : Production
  pub text : List ℕ

-- it, from the type of the code
abbrev pub line_view : LineWords → CauseLine
line_view l = record { reduced = l.reduced.now; text = string_bytes l.text }

-- the line is that of a cause: it has the kind, the tokens, the states and both actions. The actions
-- are those of the first conflict of the cause, as all its conflicts have them
pub record IsCauseLine (terminals : List TerminalString) (states : List (State Bits)) (conflicts : List (Conflict Bits)) (cause : List ℕ) (line : CauseLine) : Type 0 where
  pub first : Conflict Bits
  pub is_first : slice_get conflicts (slice_index cause 0) ≡ Some first
  pub reduction : line.reduced ≡ first.production.now
  pub tokens : Bits
  pub are_tokens : AreCauseTokens conflicts cause tokens
  pub numbers : BTreeSet ℕ
  pub are_states : AreCauseStates conflicts cause numbers.keys
  pub items : BTreeSet (Dotted Nil)
  pub are_items : AreItemsOfAction states first.state first.action items
  pub is_text : line.text ≡ extent_text first.action terminals tokens numbers.keys ++ choice_text first.production.now first.action items.keys

-- the lines are those of causes, in their order
abbrev pub AreLinesOf : List TerminalString → List (State Bits) → List (Conflict Bits) → List (List ℕ) → List CauseLine → Type 0
AreLinesOf terminals states conflicts [] [] = Unit {0}
AreLinesOf terminals states conflicts [] (l ∷ ls) = ⊥
AreLinesOf terminals states conflicts (c ∷ cs) [] = ⊥
AreLinesOf terminals states conflicts (c ∷ cs) (l ∷ ls) = IsCauseLine terminals states conflicts c l × AreLinesOf terminals states conflicts cs ls

-- the lines are those of all causes of the conflicts
pub record AreCauseLines (terminals : List TerminalString) (states : List (State Bits)) (conflicts : List (Conflict Bits)) (lines : List CauseLine) : Type 0 where
  pub causes : List (List ℕ)
  pub are_causes : AreCauses states conflicts causes
  pub each : AreLinesOf terminals states conflicts causes lines
