-- Errors of a construction of states.
use Rattle.lalrpop_states.specs.declared.lr1_core.state.BuildError.{BuildError}
use Rattle.lalrpop_states.specs.declared.lr1_core.state.BuildError.TheVariants.{Conflicts, Memory}
use Rattle.lalrpop_states.specs.declared.lr1_core.state.TableConstructionError.{TableConstructionError}
use Rattle.std.specs.Prelude.{List}
use Rattle.lalrpop_collections.specs.Words.{Bits}
use Rattle.lalrpop_grammar.specs.Words.{IsLALR1}
use Rattle.lalrpop_grammar.specs.declared.repr.NonterminalString.{NonterminalString}
use Rattle.lalrpop_grammar.specs.declared.repr.Production.{Production}

-- if the error has states and conflicts, they have the property; an allocation failure says nothing
abbrev pub IfConflicts : {L : Type 0} → (TableConstructionError L → Type 0) → BuildError L → Type 0
IfConflicts P (Conflicts error) = P error
IfConflicts P Memory = Unit {0}

-- if the error has conflicts, the grammar is not LALR(1); an allocation failure says nothing
abbrev pub TellsNotLALR1 : List Production → NonterminalString → BuildError Bits → Type 0
TellsNotLALR1 g start = IfConflicts (λ error. ¬ IsLALR1 g start)
