-- What is known of cyclic nonterminals while they are looked for.
use Rattle.std.specs.Prelude.{◌≡◌, ◌↔◌, ◌⊎◌, Bool, true, false, List, Contains}
use Rattle.lalrpop_collections.specs.lists.CheckSets.{IsAdded}
use Rattle.lalrpop_grammar.specs.declared.repr.NonterminalString.{NonterminalString}
use Rattle.lalrpop_grammar.specs.declared.repr.grammar.Grammar.{Grammar}
use Rattle.lalrpop_grammar.specs.grammars.WellFormed.{productions, productions_of}
use Rattle.lalrpop_useful.specs.declared.cycles.known.Known.{Known}
use Rattle.lalrpop_useful.specs.useful.Cycles.{DerivesAlone, IsAloneOn, IsCyclic}

-- the names are those to which a nonterminal leads alone in one step
abbrev pub IsNext : Grammar → NonterminalString → List NonterminalString → Type 0
IsNext g a names = (b : NonterminalString) → Contains names b ↔ IsAloneOn (productions g) (productions_of g a) b

-- each of the names is a nonterminal or settled
abbrev pub AreSettledBut : NonterminalString → List NonterminalString → List NonterminalString → Type 0
AreSettledBut a names settled = (b : NonterminalString) → Contains names b → (b ≡ a) ⊎ Contains settled b

-- two lists have a name in common
abbrev pub Meet : List NonterminalString → List NonterminalString → Type 0
Meet xs ys = (b : NonterminalString) × Contains xs b × Contains ys b

-- a name is added to a list, if a test holds, and else the list is the same
abbrev pub AddsIf : Bool → NonterminalString → List NonterminalString → List NonterminalString → Type 0
AddsIf true a old new = IsAdded a old new
AddsIf false a old new = new ≡ old

-- what is known is right
pub record IsKnown (g : Grammar) (k : Known) : Type 0 where
  -- a settled nonterminal leads alone only to settled ones
  pub closed : (a b : NonterminalString) → Contains k.settled.keys a → IsAloneOn (productions g) (productions_of g a) b → Contains k.settled.keys b
  -- it is done
  pub within : (a : NonterminalString) → Contains k.settled.keys a → Contains k.done.keys a
  -- one that is done is found if it is cyclic
  pub found : (a : NonterminalString) → Contains k.done.keys a → IsCyclic (productions g) a → Contains k.cyclic.keys a
  -- those that are found are cyclic
  pub sound : (a : NonterminalString) → Contains k.cyclic.keys a → IsCyclic (productions g) a
  -- each of the last ring derives alone each of those that are after it
  pub back : (a b : NonterminalString) → Contains k.ring.keys a → Contains k.onward.keys b → DerivesAlone (productions g) a b
