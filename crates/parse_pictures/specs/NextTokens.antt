-- The tokens with which the beginning of an input goes on, as a run of the parser finds them: Aho,
-- Sethi and Ullman, section 4.7.
use Rattle.std.specs.Prelude.{ℕ, ◌<◌, ◌≤◌, suc, Bool, true, false, List, [], ◌∷◌, ◌++◌, length, take}
use Rattle.lalrpop_grammar.specs.declared.repr.TerminalString.{TerminalString}
use Rattle.lalrpop_base.specs.Words.{Contents, IsBeginning, IsParseTree, HasOutcome, Parsed, Tree, beside, begin, no_trees, nodes}
use Rattle.lalrpop_parser.specs.Words.{ForEachGrammar, HasPartialOutcome, IsCutOff, IsTreeWithin, Stack}

-- the run on a list shifts all of it within the limit
abbrev pub IsAllShifted : (ℕ → Contents) → ℕ → List TerminalString → Type 0
IsAllShifted states limit w = (stack : List ℕ) × HasPartialOutcome states (begin w) limit (Stack stack)

-- the run on a list shifts all of it. If the states are faithful, the list is a beginning of a
-- sentence
pub record ShiftsAll (states : ℕ → Contents) (limit : ℕ) (w : List TerminalString) : Type 0 where
  pub shifted : IsAllShifted states limit w
  pub begins : ForEachGrammar states (λ g start. IsBeginning g start w)

-- the run on a list does not shift all of it. If the states are faithful and the list is a
-- beginning of a sentence, the limit cut the run off
pub record DoesNotShiftAll (states : ℕ → Contents) (limit : ℕ) (w : List TerminalString) : Type 0 where
  pub not_shifted : IsAllShifted states limit w → ⊥
  pub no_beginning : ForEachGrammar states (λ g start. IsBeginning g start w → IsCutOff states w limit)

-- the run shifts all of a list, or it does not, as a test says
abbrev pub IsShiftingAll : (ℕ → Contents) → ℕ → List TerminalString → Bool → Type 0
IsShiftingAll states limit w true = ShiftsAll states limit w
IsShiftingAll states limit w false = DoesNotShiftAll states limit w

-- the run on a list ends with a tree. The tree is a parse tree, if the states are faithful
pub record MayEnd (states : ℕ → Contents) (limit : ℕ) (w : List TerminalString) : Type 0 where
  pub tree : Tree
  pub outcome : HasOutcome states w limit (Parsed tree)
  pub parse : ForEachGrammar states (IsTreeWithin limit w tree)

-- the run on a list ends with no tree. If the states are faithful, each parse tree of the list has
-- more nodes than the limit
pub record MayNotEnd (states : ℕ → Contents) (limit : ℕ) (w : List TerminalString) : Type 0 where
  pub no_outcome : (tree : Tree) → HasOutcome states w limit (Parsed tree) → ⊥
  pub no_parse : ForEachGrammar states (λ g start. (tree : Tree) → IsParseTree g start w tree → limit < nodes (beside tree no_trees))

-- the run ends with a tree, or it does not, as a test says
abbrev pub IsEnding : (ℕ → Contents) → ℕ → List TerminalString → Bool → Type 0
IsEnding states limit w true = MayEnd states limit w
IsEnding states limit w false = MayNotEnd states limit w

-- the second list has those terminals of the first, in their order, that a run shifts after a
-- beginning
pub data AreNext (states : ℕ → Contents) (limit : ℕ) (before : List TerminalString) : List TerminalString → List TerminalString → Type 0 where
  no_next : AreNext states limit before [] []
  next_first : (t : TerminalString) (ts us : List TerminalString) → ShiftsAll states limit (before ++ t ∷ []) → AreNext states limit before ts us → AreNext states limit before (t ∷ ts) (t ∷ us)
  other_first : (t : TerminalString) (ts us : List TerminalString) → DoesNotShiftAll states limit (before ++ t ∷ []) → AreNext states limit before ts us → AreNext states limit before (t ∷ ts) us

-- a run shifts the first terminals of an input, so many as the number says. If there is a next one,
-- a run on these and the next one does not shift all of them
pub record IsShiftedCount (states : ℕ → Contents) (limit : ℕ) (w : List TerminalString) (count : ℕ) : Type 0 where
  pub within : count ≤ length w
  pub shifted : IsAllShifted states limit (take count w)
  pub no_more : count < length w → DoesNotShiftAll states limit (take (suc count) w)
