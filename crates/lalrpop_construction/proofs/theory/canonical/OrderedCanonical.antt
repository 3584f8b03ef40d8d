-- Canonical states meet the condition of a collapse, as the construction makes them and under other
-- numbers.
use Rattle.std.proofs.Common.{List}
use Rattle.lalrpop_base.specs.Words.{Bits, rules_of}
use Rattle.lalrpop_construction.specs.Words.{AreCanonicalStates, AreOrderedCanonical, AreStatesOf, canonical_of}
use Rattle.lalrpop_construction.proofs.Types.{Grammar, NonterminalString, State}
use Rattle.lalrpop_construction.proofs.theory.canonical.CanonicalConflicts.{reductions_fit}

pub Ordered-canonical : (g : Grammar) (start : NonterminalString) (states : List (State Bits)) → AreStatesOf (canonical_of g start) states → AreCanonicalStates (rules_of g) start states → AreOrderedCanonical g start states
Ordered-canonical g start states made canonical = record {
  canonical = canonical;
  coherent = made.coherent;
  some = made.some;
  ascend = λ n s at. (made.built.each n s at).built.closure.ascend;
  fit = λ n s at r among bit h.
      let b = (made.built.each n s at).built in
      reductions_fit (rules_of g) s.items.vec.items s.reductions.items b.closure.are_items b.finished r among bit h;
}
