-- Theorems on the definitions, which the functions of `laws.rt` state.
use Rattle.std.specs.Prelude.{◌≡◌, ◌↔◌, ◌⊎◌, ℕ, suc, Bool, true, ◌≤◌, List, [], ◌∷◌, ◌++◌, Some, Contains}
use Rattle.std.specs.declared.cmp.Ordering.{Ordering}
use Rattle.lalrpop_grammar.specs.declared.repr.NonterminalString.{NonterminalString}
use Rattle.lalrpop_grammar.specs.declared.repr.Production.{Production}
use Rattle.lalrpop_grammar.specs.declared.repr.Symbol.{Symbol}
use Rattle.lalrpop_grammar.specs.declared.repr.TerminalString.{TerminalString}
use Rattle.lalrpop_grammar.specs.declared.lookahead.token.Token.{Token}
use Rattle.lalrpop_grammar.specs.grammars.Grammar.{IsFirst, IsNullable, IsSentence, IsBeginning, IsOnNoRightSide}
use Rattle.lalrpop_grammar.specs.parsing.Validity.{Valid, ValidToken, IsLive, IsLR1, IsLALR1, IsLalrToken, HaveSameItems, HaveSameTokens}
use Rattle.lalrpop_grammar.specs.states.States.{Contents, Reduction, leads, state_after, HasNoRepeat, ReducesFinished, HaveRightItems, AreFaithful}
use Rattle.lalrpop_grammar.specs.parsing.Trees.{Tree, Node, no_trees, beside, nodes, IsParseTree}
use Rattle.lalrpop_grammar.specs.parsing.Runs.{Configuration, move, Stands, Ends, Reaches, begin, Outcome, HasOutcome, Parsed, Refused, Limit, IsFirstWrong, IsRightNext, IsPromptRefusal}
use Rattle.lalrpop_grammar.specs.lanes.Lanes.{AreLr0, IsLaneToken, HoldLaneTokens, HoldLalrTokens}
use Rattle.lalrpop_grammar.specs.conflicts.Conflicts.{IsLess, IsOrder, ConflictContents, HasNoConflict, AreConflictsOf, AreCanonicalConflicts, ReducesInOrder, HasNoCanonicalConflict}
use Rattle.lalrpop_grammar.specs.collapse.Collapse.{IsCollapse}
use Rattle.lalrpop_grammar.specs.conflicts.ConflictLists.{ShiftParts, ReduceParts}
use Rattle.lalrpop_collections.specs.lists.Each.{Ordered}
use Rattle.lalrpop_grammar.specs.renumbering.Renumbering.{IsRenumbering}
use Rattle.lalrpop_grammar.specs.first.FirstSets.{NullableBy, FirstBy, AreFirstSets}
use Rattle.lalrpop_grammar.specs.grammars.Augmented.{IsAugmented}
use Rattle.lalrpop_grammar.specs.closures.Closures.{AreClosed, IsReached, AreChecked, AreCanonical, KernelsDiffer, TokenKernelsDiffer}
use Rattle.lalrpop_grammar.specs.states.Copies.{IsCopying}

-- FIRST of a list has FIRST of its first symbol and, if that symbol is nullable, FIRST of the rest
abbrev pub FirstByCases : Type 0
FirstByCases = (g : List Production) (x : Symbol) (s : List Symbol) (t : TerminalString) → IsFirst g (x ∷ s) t ↔ (IsFirst g (x ∷ []) t ⊎ (IsNullable g (x ∷ []) × IsFirst g s t))

-- the sentences are the lists with a parse tree
abbrev pub SentencesHaveTrees : Type 0
SentencesHaveTrees = (g : List Production) (start : NonterminalString) (w : List TerminalString) → IsSentence g start w ↔ ((t : Tree) × IsParseTree g start w t)

-- first sets, as the code keeps them, give FIRST of each list
abbrev pub FirstSetsAreFirst : Type 0
FirstSetsAreFirst = (g : List Production) (null : NonterminalString → Bool) (first : NonterminalString → TerminalString → Bool) → AreFirstSets g (λ a. null a ≡ true) (λ a t. first a t ≡ true) → (l : List Symbol) (t : TerminalString) → FirstBy (λ a. null a ≡ true) (λ a t. first a t ≡ true) l t ↔ IsFirst g l t

-- first sets, as the code keeps them, say whether a list is nullable
abbrev pub FirstSetsAreNullable : Type 0
FirstSetsAreNullable = (g : List Production) (null : NonterminalString → Bool) (first : NonterminalString → TerminalString → Bool) → AreFirstSets g (λ a. null a ≡ true) (λ a t. first a t ≡ true) → (l : List Symbol) → NullableBy (λ a. null a ≡ true) l ↔ IsNullable g l

-- a run has an outcome
abbrev pub RunsHaveOutcomes : Type 0
RunsHaveOutcomes = (states : ℕ → Contents) (w : List TerminalString) (limit : ℕ) → (o : Outcome) × HasOutcome states w limit o

-- a run has at most one outcome
abbrev pub OutcomesAreUnique : Type 0
OutcomesAreUnique = (states : ℕ → Contents) (w : List TerminalString) (limit : ℕ) (o p : Outcome) → HasOutcome states w limit o → HasOutcome states w limit p → o ≡ p

-- if states are faithful to a grammar whose start symbol is on no right side, a list has at most
-- one parse tree
abbrev pub OneParseTree : Type 0
OneParseTree = (g : List Production) (start : NonterminalString) (states : ℕ → Contents) → AreFaithful g start states → IsOnNoRightSide g start → (w : List TerminalString) (t u : Tree) → IsParseTree g start w t → IsParseTree g start w u → t ≡ u

-- a tree is the outcome exactly if it is a parse tree of the list with no more nodes than the limit
abbrev pub AnswersAreTrees : Type 0
AnswersAreTrees = (g : List Production) (start : NonterminalString) (states : ℕ → Contents) → AreFaithful g start states → IsOnNoRightSide g start → (w : List TerminalString) (t : Tree) (limit : ℕ) → HasOutcome states w limit (Parsed t) ↔ (IsParseTree g start w t × (nodes (beside t no_trees) ≤ limit))

-- the run of a list with a parse tree has as many steps as the tree has nodes, the last step among
-- them
abbrev pub StepsAreNodes : Type 0
StepsAreNodes = (g : List Production) (start : NonterminalString) (states : ℕ → Contents) → AreFaithful g start states → IsOnNoRightSide g start → (w : List TerminalString) (t : Tree) → IsParseTree g start w t → (n : ℕ) × (c : Configuration) × (nodes (beside t no_trees) ≡ suc n) × Reaches states n (begin w) c × (move states c ≡ Ends (t ∷ [])) × (c.rest ≡ [])

-- a refusal names the first wrong token
abbrev pub RefusalsAreRight : Type 0
RefusalsAreRight = (g : List Production) (start : NonterminalString) (states : ℕ → Contents) → AreFaithful g start states → IsOnNoRightSide g start → (w : List TerminalString) (limit s : ℕ) (t : Token) → HasOutcome states w limit (Refused s t) → IsFirstWrong g start w t

-- if a terminal is shifted, the input up to it and with it is a beginning
abbrev pub ShiftsBegin : Type 0
ShiftsBegin = (g : List Production) (start : NonterminalString) (states : ℕ → Contents) → AreFaithful g start states → (v : List TerminalString) (t : TerminalString) (rest : List TerminalString) (n m : ℕ) (c : Configuration) → Reaches states n (begin (v ++ t ∷ rest)) c → c.rest ≡ t ∷ rest → (states c.state).shift t ≡ Some m → IsBeginning g start (v ++ t ∷ [])

-- if the input up to a terminal and with it is a beginning, the terminal is shifted
abbrev pub BeginningsAreShifted : Type 0
BeginningsAreShifted = (g : List Production) (start : NonterminalString) (states : ℕ → Contents) → AreFaithful g start states → (v : List TerminalString) (t : TerminalString) (rest : List TerminalString) → IsBeginning g start (v ++ t ∷ []) → (n : ℕ) × (c : Configuration) × (m : ℕ) × Reaches states n (begin (v ++ t ∷ rest)) c × (c.rest ≡ t ∷ rest) × ((states c.state).shift t ≡ Some m)

-- a grammar with faithful states is LR(1)
abbrev pub FaithfulAreLr1 : Type 0
FaithfulAreLr1 = (g : List Production) (start : NonterminalString) (states : ℕ → Contents) → AreFaithful g start states → IsLR1 g start

-- the states that are reached are those after live prefixes
abbrev pub ReachedAreLive : Type 0
ReachedAreLive = (g : List Production) (start : NonterminalString) (states : ℕ → Contents) → AreClosed g start states → (n : ℕ) → IsReached states n ↔ ((u : List Symbol) × IsLive g start u × (state_after states u ≡ Some n))

-- states built by closures have the right dotted productions, if their reductions are the finished
-- ones
abbrev pub ClosedHaveRightItems : Type 0
ClosedHaveRightItems = (g : List Production) (start : NonterminalString) (states : ℕ → Contents) → AreClosed g start states → ((n : ℕ) → ReducesFinished (states n)) → HaveRightItems g start states

-- states built by closures are LR(0) states if their reductions are the finished ones, each state
-- with an edge is reached, and kernels do not repeat
abbrev pub ClosedAreLr0 : Type 0
ClosedAreLr0 = (g : List Production) (start : NonterminalString) (states : ℕ → Contents) → AreClosed g start states → ((n : ℕ) → ReducesFinished (states n)) → KernelsDiffer states → ((n m : ℕ) (x : Symbol) → leads (states n) x ≡ Some m → IsReached states n) → AreLr0 g start states

-- copies of closed states are closed
abbrev pub CopiesAreClosed : Type 0
CopiesAreClosed = (g : List Production) (start : NonterminalString) (original : ℕ → ℕ) (states copies : ℕ → Contents) → IsCopying original states copies → AreClosed g start states → AreClosed g start copies

-- tracing back over LR(0) states finds exactly the LALR tokens
abbrev pub LaneTokensAreLalr : Type 0
LaneTokensAreLalr = (g : List Production) (start : NonterminalString) (states : ℕ → Contents) → AreLr0 g start states → IsOnNoRightSide g start → (u : List Symbol) (s : ℕ) (p : Production) (dot : ℕ) (t : Token) → state_after states u ≡ Some s → Valid g start u p dot → IsLaneToken g start states s p dot t ↔ IsLalrToken g start u p dot t

-- if the grammar is LALR(1), LR(0) states that hold their lane tokens are faithful
abbrev pub LanesAreFaithful : Type 0
LanesAreFaithful = (g : List Production) (start : NonterminalString) (states : ℕ → Contents) → AreLr0 g start states → IsOnNoRightSide g start → IsLALR1 g start → HoldLaneTokens g start states → AreFaithful g start states

-- if the grammar is LALR(1), LR(0) states that hold their lane tokens pass the check of tables.
-- This requires that they are built by closures, and that each state with a reduction is reached
abbrev pub LanesAreChecked : Type 0
LanesAreChecked = (g : List Production) (start : NonterminalString) (states : ℕ → Contents) → AreClosed g start states → AreLr0 g start states → ((n : ℕ) → ReducesFinished (states n)) → ((n : ℕ) (r : Reduction) → Contains (states n).reductions r → IsReached states n) → IsOnNoRightSide g start → IsLALR1 g start → HoldLaneTokens g start states → AreChecked g start states

-- no state after a live prefix has a conflict
abbrev pub AreLiveStatesConflictFree : List Production → NonterminalString → (ℕ → Contents) → Type 0
AreLiveStatesConflictFree g start states = (u : List Symbol) (n : ℕ) → IsLive g start u → state_after states u ≡ Some n → HasNoConflict (states n)

-- LR(0) states that hold their LALR tokens are faithful exactly if the grammar is LALR(1)
abbrev pub LalrAreFaithful : Type 0
LalrAreFaithful = (g : List Production) (start : NonterminalString) (states : ℕ → Contents) → AreLr0 g start states → HoldLalrTokens g start states → AreFaithful g start states ↔ IsLALR1 g start

-- canonical states, with the tokens that they hold
abbrev pub AreCanonicalWith : List Production → NonterminalString → (ℕ → Contents) → (ℕ → Production → ℕ → Token → Bool) → Type 0
AreCanonicalWith g start states tokens = AreCanonical g start states (λ n p dot t. tokens n p dot t ≡ true)

-- LR(0) states that hold their LALR tokens have no conflict after live prefixes exactly if the
-- grammar is LALR(1)
abbrev pub LalrStatesHaveNoConflict : Type 0
LalrStatesHaveNoConflict = (g : List Production) (start : NonterminalString) (states : ℕ → Contents) → AreLr0 g start states → HoldLalrTokens g start states → AreLiveStatesConflictFree g start states ↔ IsLALR1 g start

-- if canonical states with the same dotted productions are merged, the results are LR(0) states
-- that hold their LALR tokens
abbrev pub CollapsedHoldLalrTokens : Type 0
CollapsedHoldLalrTokens = (g : List Production) (start : NonterminalString) (before after : ℕ → Contents) (tokens : ℕ → Production → ℕ → Token → Bool) (group : ℕ → ℕ) → AreCanonicalWith g start before tokens → IsCollapse group before after → AreLr0 g start after × HoldLalrTokens g start after

-- checked tables are faithful
abbrev pub CheckedAreFaithful : Type 0
CheckedAreFaithful = (g : List Production) (start : NonterminalString) (states : ℕ → Contents) → AreChecked g start states → AreFaithful g start states

-- canonical states hold exactly the valid tokens
abbrev pub CanonicalTokensAreValid : Type 0
CanonicalTokensAreValid = (g : List Production) (start : NonterminalString) (states : ℕ → Contents) (tokens : ℕ → Production → ℕ → Token → Bool) → AreCanonicalWith g start states tokens → (u : List Symbol) (n : ℕ) → state_after states u ≡ Some n → (p : Production) (dot : ℕ) (t : Token) → (tokens n p dot t ≡ true) ↔ ValidToken g start u p dot t

-- canonical states are faithful exactly if the grammar is LR(1)
abbrev pub CanonicalAreFaithful : Type 0
CanonicalAreFaithful = (g : List Production) (start : NonterminalString) (states : ℕ → Contents) (tokens : ℕ → Production → ℕ → Token → Bool) → AreCanonicalWith g start states tokens → AreFaithful g start states ↔ IsLR1 g start

-- canonical states have no conflict after live prefixes exactly if the grammar is LR(1)
abbrev pub CanonicalStatesHaveNoConflict : Type 0
CanonicalStatesHaveNoConflict = (g : List Production) (start : NonterminalString) (states : ℕ → Contents) (tokens : ℕ → Production → ℕ → Token → Bool) → AreCanonicalWith g start states tokens → AreLiveStatesConflictFree g start states ↔ IsLR1 g start

-- two prefixes lead to one canonical state exactly if they have the same valid dotted productions
-- with the same valid tokens, provided that kernels do not repeat
abbrev pub CanonicalStatesAreOne : Type 0
CanonicalStatesAreOne = (g : List Production) (start : NonterminalString) (states : ℕ → Contents) (tokens : ℕ → Production → ℕ → Token → Bool) → AreCanonicalWith g start states tokens → TokenKernelsDiffer states (λ n p dot t. tokens n p dot t ≡ true) → (u v : List Symbol) (n m : ℕ) → state_after states u ≡ Some n → state_after states v ≡ Some m → (n ≡ m) ↔ (HaveSameItems g start u v × HaveSameTokens g start u v)

-- each list has a limit such that its run over canonical states, with that limit or a greater one,
-- never has the outcome Limit
abbrev pub CanonicalRunsEnd : Type 0
CanonicalRunsEnd = (g : List Production) (start : NonterminalString) (states : ℕ → Contents) (tokens : ℕ → Production → ℕ → Token → Bool) → AreCanonicalWith g start states tokens → IsLR1 g start → IsOnNoRightSide g start → (w : List TerminalString) → (enough : ℕ) × ((limit : ℕ) → enough ≤ limit → HasOutcome states w limit Limit → ⊥)

-- over canonical states, a step is made only if the next token is right: the input with it is a
-- beginning, or it is Eof after a sentence
abbrev pub CanonicalStepsAreRight : Type 0
CanonicalStepsAreRight = (g : List Production) (start : NonterminalString) (states : ℕ → Contents) (tokens : ℕ → Production → ℕ → Token → Bool) → AreCanonicalWith g start states tokens → IsLR1 g start → (v rest : List TerminalString) (n : ℕ) (c : Configuration) → Reaches states n (begin (v ++ rest)) c → c.rest ≡ rest → (move states c ≡ Stands) ⊎ IsRightNext g start v rest

-- over canonical states, the state that refuses is the one to which the shift of the last right
-- token leads, or state 0
abbrev pub CanonicalRefusalsArePrompt : Type 0
CanonicalRefusalsArePrompt = (g : List Production) (start : NonterminalString) (states : ℕ → Contents) (tokens : ℕ → Production → ℕ → Token → Bool) → AreCanonicalWith g start states tokens → IsLR1 g start → IsOnNoRightSide g start → (w : List TerminalString) (limit s : ℕ) (t : Token) → HasOutcome states w limit (Refused s t) → IsPromptRefusal g start states w s t

-- a grammar is LR(1) exactly if no live prefix has a canonical conflict
abbrev pub NoConflictIsLr1 : Type 0
NoConflictIsLr1 = (productions : Production → Production → Ordering) → IsOrder productions → (g : List Production) (start : NonterminalString) → HasNoCanonicalConflict productions g start ↔ IsLR1 g start

-- a state whose reductions do not repeat has no conflict exactly if the list of its conflicts is
-- empty
abbrev pub NoConflictIsEmptyList : Type 0
NoConflictIsEmptyList = (terminals : TerminalString → TerminalString → Ordering) (s : Contents) → HasNoRepeat s.reductions → AreConflictsOf terminals s [] ↔ HasNoConflict s

-- the list of a state's conflicts is the one that is made by going through the shifted terminals,
-- ascending, and then through the reductions
abbrev pub ConflictsAreListed : Type 0
ConflictsAreListed = (terminals : TerminalString → TerminalString → Ordering) (s : Contents) → HasNoRepeat s.reductions → (ts : List TerminalString) → Ordered (IsLess terminals) ts → ((t : TerminalString) → Contains ts t ↔ ((n : ℕ) × (s.shift t ≡ Some n))) → (cs ds : List ConflictContents) → ShiftParts s.reductions ts cs → ReduceParts s.reductions ds → AreConflictsOf terminals s (cs ++ ds)

-- a prefix has at most one list of canonical conflicts
abbrev pub OneListOfConflicts : Type 0
OneListOfConflicts = (terminals : TerminalString → TerminalString → Ordering) (productions : Production → Production → Ordering) → IsOrder terminals → IsOrder productions → (g : List Production) (start : NonterminalString) (u : List Symbol) (cs ds : List ConflictContents) → AreCanonicalConflicts terminals productions g start u cs → AreCanonicalConflicts terminals productions g start u ds → cs ≡ ds

-- the list of canonical conflicts of a prefix is that of the canonical state after it
abbrev pub StateConflictsAreCanonical : Type 0
StateConflictsAreCanonical = (terminals : TerminalString → TerminalString → Ordering) (productions : Production → Production → Ordering) → IsOrder productions → (g : List Production) (start : NonterminalString) (states : ℕ → Contents) (tokens : ℕ → Production → ℕ → Token → Bool) → AreCanonicalWith g start states tokens → (u : List Symbol) (n : ℕ) → state_after states u ≡ Some n → ReducesInOrder productions (states n) → (cs : List ConflictContents) → AreConflictsOf terminals (states n) cs ↔ AreCanonicalConflicts terminals productions g start u cs

-- faithful states stay faithful under other numbers
abbrev pub RenumberedAreFaithful : Type 0
RenumberedAreFaithful = (g : List Production) (start : NonterminalString) (new old : ℕ → ℕ) (before after : ℕ → Contents) → IsRenumbering new old before after → AreFaithful g start before → AreFaithful g start after

-- a new start symbol is on no right side
abbrev pub AugmentedStandsAlone : Type 0
AugmentedStandsAlone = (g h : List Production) (start f : NonterminalString) → IsAugmented g h start f → IsOnNoRightSide h f

-- a parse tree from a new start symbol is a node over a parse tree from the old one, and has one
-- more node
abbrev pub AugmentedTrees : Type 0
AugmentedTrees = (g h : List Production) (start f : NonterminalString) → IsAugmented g h start f → (w : List TerminalString) (t : Tree) → IsParseTree h f w t ↔ ((s : Tree) × (t ≡ Node f (beside s no_trees)) × (nodes (beside t no_trees) ≡ suc (nodes (beside s no_trees))) × IsParseTree g start w s)

-- the sentences from a new start symbol are those from the old one
abbrev pub AugmentedSentences : Type 0
AugmentedSentences = (g h : List Production) (start f : NonterminalString) → IsAugmented g h start f → (w : List TerminalString) → IsSentence h f w ↔ IsSentence g start w

-- the beginnings from a new start symbol are those from the old one
abbrev pub AugmentedBeginnings : Type 0
AugmentedBeginnings = (g h : List Production) (start f : NonterminalString) → IsAugmented g h start f → (w : List TerminalString) → IsBeginning h f w ↔ IsBeginning g start w

-- over faithful states for a new start symbol, a tree is the outcome exactly if it is a node over a
-- parse tree from the old one, within the limit. The old one may be on right sides
abbrev pub AugmentedAnswers : Type 0
AugmentedAnswers = (g h : List Production) (start f : NonterminalString) (states : ℕ → Contents) → IsAugmented g h start f → AreFaithful h f states → (w : List TerminalString) (t : Tree) (limit : ℕ) → HasOutcome states w limit (Parsed t) ↔ ((s : Tree) × (t ≡ Node f (beside s no_trees)) × IsParseTree g start w s × (suc (nodes (beside s no_trees)) ≤ limit))

-- over faithful states for a new start symbol, a refusal names the first wrong token for the old
-- one
abbrev pub AugmentedRefusals : Type 0
AugmentedRefusals = (g h : List Production) (start f : NonterminalString) (states : ℕ → Contents) → IsAugmented g h start f → AreFaithful h f states → (w : List TerminalString) (limit s : ℕ) (t : Token) → HasOutcome states w limit (Refused s t) → IsFirstWrong g start w t

-- the conditions of the theorems can be met. Some states of a grammar, whose start symbol is on no
-- right side, pass the check, are canonical, and are LR(0) states that hold their lane tokens. So
-- the grammar is LR(1) and LALR(1), and a list has a tree
abbrev pub DefinitionsAreMet : Type 0
DefinitionsAreMet = (g : List Production) × (start : NonterminalString) × (states : ℕ → Contents) × (tokens : ℕ → Production → ℕ → Token → Bool) × IsOnNoRightSide g start × AreChecked g start states × AreFaithful g start states × AreCanonicalWith g start states tokens × TokenKernelsDiffer states (λ n p dot t. tokens n p dot t ≡ true) × AreLr0 g start states × HoldLaneTokens g start states × HoldLalrTokens g start states × IsLR1 g start × IsLALR1 g start × ((w : List TerminalString) × (t : Tree) × (limit : ℕ) × HasOutcome states w limit (Parsed t))

-- states with the same dotted productions and edges, whatever their reductions are
abbrev pub DifferInReductions : (ℕ → Contents) → (ℕ → Contents) → Type 0
DifferInReductions states others = (n : ℕ) → ((others n).items ≡ (states n).items) × ((others n).shift ≡ (states n).shift) × ((others n).goto ≡ (states n).goto)

-- states that are spoilt are not faithful: some faithful states lose a reduction, have it twice, or
-- have it without its token
abbrev pub SpoiltAreRefused : Type 0
SpoiltAreRefused = (g : List Production) × (start : NonterminalString) × (states dropped repeated idle : ℕ → Contents) × AreFaithful g start states × DifferInReductions states dropped × DifferInReductions states repeated × DifferInReductions states idle × (AreFaithful g start dropped → ⊥) × (AreFaithful g start repeated → ⊥) × (AreFaithful g start idle → ⊥)

-- some states that pass the check, for a start symbol on no right side, have trees of different
-- lists as outcomes
abbrev pub SeveralListsParse : Type 0
SeveralListsParse = (g : List Production) × (start : NonterminalString) × (states : ℕ → Contents) × AreChecked g start states × AreFaithful g start states × IsOnNoRightSide g start × ((v w : List TerminalString) × (t u : Tree) × HasOutcome states v 4 (Parsed t) × HasOutcome states w 5 (Parsed u) × (v ≡ w → ⊥))
