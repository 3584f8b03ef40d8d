-- The first examples of an item of a conflict. The order of the examples is that of the modules
-- `lr1::trace` and `lr1::example` of the Rust crate `lalrpop` 0.23.1.
use Rattle.std.specs.Prelude.{ℕ, suc, List, [], ◌∷◌, take, IsTrue}
use Rattle.lalrpop_base.specs.Words.{Bits, has, IsFirstSet, Dotted, Rules}
use Rattle.lalrpop_states.specs.declared.lr1_core.state.State.{State}
use Rattle.lalrpop_states.specs.declared.lr1_core.state.StateIndex.{StateIndex}
use Rattle.lalrpop_traces.specs.Words.{following, item_node, paths, Graph, IsExampleOf, IsInOrder, IsTraceOf, Meets, dotted, reduction_traced, shift_traced, to_come}
use Rattle.lalrpop_traces.specs.declared.trace.example.Example.{Example}
use Rattle.lalrpop_traces.specs.declared.trace.filtered.FilteredPathEnumerator.{FilteredPathEnumerator}

-- ---- which paths
-- `first` has the first n paths of a list of which P holds, in their order, or all such paths if
-- there are fewer
pub data AreFirst (P : List ℕ → Type 0) : ℕ → List (List ℕ) → List (List ℕ) → Type 0 where
  enough : {all : List (List ℕ)} → AreFirst P 0 all []
  none : {n : ℕ} → AreFirst P n [] []
  skip : {n : ℕ} {path : List ℕ} {all first : List (List ℕ)} → ¬ P path → AreFirst P n all first → AreFirst P n (path ∷ all) first
  keep : {n : ℕ} {path : List ℕ} {all first : List (List ℕ)} → P path → AreFirst P n all first → AreFirst P (suc n) (path ∷ all) (path ∷ first)

-- the symbols that follow the place of the example of a path can begin with a token of the
-- lookahead
abbrev pub GoesOnWith : Rules → Graph → Bits → List ℕ → Type 0
GoesOnWith g graph lookahead path = (first : Bits) × IsFirstSet g (following graph path) first × (bit : ℕ) × IsTrue (has first bit) × IsTrue (has lookahead bit)

-- ---- their examples
-- the examples are those that the paths spell, in their order
pub data AreExamplesOf (graph : Graph) : List (List ℕ) → List Example → Type 0 where
  no_example : AreExamplesOf graph [] []
  one_example : {path : List ℕ} {rest : List (List ℕ)} {x : Example} {xs : List Example} → IsExampleOf graph path x → AreExamplesOf graph rest xs → AreExamplesOf graph (path ∷ rest) (x ∷ xs)

-- the examples are those of the first paths to come that meet the lookahead of a filtered walk
pub record AreFirstMeeting (walk : FilteredPathEnumerator) (most : ℕ) (examples : List Example) : Type 0 where
  pub first : List (List ℕ)
  pub are_first : AreFirst (Meets walk) most (to_come walk.base) first
  pub spelled : AreExamplesOf walk.base.graph.now first examples

-- the rules of a grammar, states over its productions, and the greatest number of examples
module _ (g : Rules) (states : List (State Bits)) (most : ℕ) where
  -- the examples are the first ones of an item of a state that shifts
  pub record AreShiftExamples (state : StateIndex) (item : Dotted Bits) (examples : List Example) : Type 0 where
    pub graph : Graph
    pub traced : IsTraceOf (shift_traced g.productions states state (dotted item.production item.index)) graph
    pub ordered : IsInOrder (shift_traced g.productions states state (dotted item.production item.index)) graph
    pub spelled : AreExamplesOf graph (take most (paths graph (item_node item))) examples

  -- the examples are the first ones of a finished item in a state that can go on with a token of
  -- its lookahead
  pub record AreReduceExamples (state : StateIndex) (item : Dotted Bits) (examples : List Example) : Type 0 where
    pub graph : Graph
    pub traced : IsTraceOf (reduction_traced g.productions states state (dotted item.production item.index)) graph
    pub ordered : IsInOrder (reduction_traced g.productions states state (dotted item.production item.index)) graph
    pub first : List (List ℕ)
    pub are_first : AreFirst (GoesOnWith g graph item.lookahead) most (paths graph (item_node item)) first
    pub spelled : AreExamplesOf graph first examples
