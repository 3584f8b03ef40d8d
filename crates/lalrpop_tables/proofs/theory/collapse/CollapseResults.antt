-- What the result of a collapse says of its states.
use Rattle.std.proofs.Common.{[], sym, subst, ◌≡◌, ◌<◌, List, length}
use Rattle.std.specs.Prelude.{MatchResult, IfOk, IfErr}
use Rattle.std.specs.declared.result.Result.{Result}
use Rattle.std.specs.declared.result.Result.TheVariants.{Ok, Err}
use Rattle.lalrpop_base.specs.Words.{Bits, AreCoherent, FailWith}
use Rattle.lalrpop_tables.specs.Words.{AreOrdered, AreCollapsedTables, FailsByCollapse}
use Rattle.lalrpop_tables.proofs.Types.{BuildError, Conflict, State, TerminalString}
use Rattle.lalrpop_states.specs.declared.lr1_core.state.BuildError.TheVariants.{Conflicts, Memory}
use Rattle.lalrpop_tables.specs.Words.{HasCoherentStates, HasOrderedStates}
use Rattle.lalrpop_tables.proofs.theory.collapse.CollapseCoherent.{Collapsed-coherent}
use Rattle.lalrpop_tables.proofs.theory.collapse.CollapseDots.{Collapsed-some}

coherent_error : (terminals : List TerminalString) (before : List (State Bits)) → AreCoherent before → (error : BuildError Bits) → FailsByCollapse terminals before error → HasOrderedStates error → HasCoherentStates error
coherent_error terminals before coherent (Conflicts error) f ordered = Collapsed-coherent before error.states.items coherent f.0 ordered
coherent_error terminals before coherent Memory f ordered = tt

module _ {T : Type 0} (items : T → List (State Bits)) (terminals : List TerminalString) (before : List (State Bits)) where
  abbrev Merges : Result T (BuildError Bits) → Type 0
  Merges r = MatchResult r (λ t. AreCollapsedTables terminals before (items t)) (FailsByCollapse terminals before)

  pub Collapse-coherent : AreCoherent before → (r : Result T (BuildError Bits)) → Merges r → MatchResult r (λ t. AreOrdered (items t)) HasOrderedStates → MatchResult r (λ t. AreCoherent (items t)) HasCoherentStates
  Collapse-coherent coherent (Ok t) m ordered = Collapsed-coherent before (items t) coherent m.collapsed ordered
  Collapse-coherent coherent (Err e) m ordered = coherent_error terminals before coherent e m ordered

  pub Collapse-some : 0 < length before → (r : Result T (BuildError Bits)) → Merges r → IfOk r (λ t. 0 < length (items t))
  Collapse-some some (Ok t) m = Collapsed-some before (items t) m.collapsed some
  Collapse-some some (Err e) m = tt

-- ---- the states that a collapse returns, with or without conflicts
ordered_error : (after : List (State Bits)) (conflicts : List (Conflict Bits)) → AreOrdered after → (error : BuildError Bits) → FailWith after conflicts error → HasOrderedStates error
ordered_error after conflicts ordered (Conflicts error) f = subst AreOrdered (sym f.0) ordered
ordered_error after conflicts ordered Memory f = tt

pub Answer-ordered : {T : Type 0} (items : T → List (State Bits)) (after : List (State Bits)) (conflicts : List (Conflict Bits)) → AreOrdered after → (r : Result T (BuildError Bits)) → IfOk r (λ t. (items t ≡ after) × (conflicts ≡ [])) → IfErr r (FailWith after conflicts) → MatchResult r (λ t. AreOrdered (items t)) HasOrderedStates
Answer-ordered items after conflicts ordered (Ok t) ok err = subst AreOrdered (sym ok.0) ordered
Answer-ordered items after conflicts ordered (Err e) ok err = ordered_error after conflicts ordered e err
