-- The number of the conflicts of the states that the canonical construction builds.
use Rattle.std.proofs.Common.{ℕ, List, refl}
use Rattle.std.specs.List.{flat_map}
use Rattle.lalrpop_base.specs.Words.{AllDiffer, AreOwn, Bits, IsLR1, IsWellFormed, productions, state_conflicts}
use Rattle.lalrpop_construction.proofs.theory.canonical.CanonicalAnswers.{Canonical-lacks, Canonical-tables}
use Rattle.lalrpop_construction.proofs.theory.conflicts.GrownConflicts.{free_states}
use Rattle.lalrpop_construction.specs.Words.{IsConflictCount, canonical_of}
use Rattle.lalrpop_grammar.specs.declared.repr.NonterminalString.{NonterminalString}
use Rattle.lalrpop_grammar.specs.declared.repr.grammar.Grammar.{Grammar}
use Rattle.lalrpop_states.specs.declared.lr1_core.state.Conflict.{Conflict}
use Rattle.canonical_by_number.specs.Conflicts.{IsConflictTotal}

-- if a grammar is not LR(1), the number is that of its canonical conflicts
pub Total-counted : (g : Grammar) (start : NonterminalString) → IsWellFormed g → AreOwn g → AllDiffer g.terminals → ¬ IsLR1 (productions g) start → (n : ℕ) → IsConflictTotal (canonical_of g start) n → IsConflictCount g start n
Total-counted g start well own differ not n total =
    let listed : List (Conflict Bits) = flat_map (state_conflicts g.terminals) total.states in
    record {
      states = total.states;
      listed = listed;
      lacks = Canonical-lacks g start well own differ total.states listed total.made (record {
        all = refl;
        some = λ none. not (Canonical-tables g start well own differ total.states (record { made = total.made; free = free_states g.terminals total.states none })).lr1;
      });
      counted = total.counted;
    }
