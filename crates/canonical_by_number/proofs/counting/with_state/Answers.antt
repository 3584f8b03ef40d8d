use Rattle.std.proofs.Common.{List, ℕ, subst, sym}
use Rattle.canonical_by_number.specs.Conflicts.{CountsMore, conflicts_of}
use Rattle.canonical_by_number.specs.Edges.{AreOverSymbols}
use Rattle.canonical_by_number.specs.TokenSets.{AreSetsIn}
use Rattle.canonical_by_number.proofs.counting.with_state.Goals as goal

pub add_conflicts-requires-clause-finished : goal.add_conflicts-requires-clause-finished
add_conflicts-requires-clause-finished c = subst (λ (es : List (ℕ × ℕ)). AreSetsIn c.args.sets.now es) (sym c.deref.ensures.value) c.requires.finished

pub add_conflicts-requires-clause-edges : goal.add_conflicts-requires-clause-edges
add_conflicts-requires-clause-edges c = subst (λ (es : List (ℕ × ℕ)). AreOverSymbols c.args.numbers.now.symbols.items es) (sym c.deref-2.ensures.value) c.requires.edges

pub returns : goal.returns
returns c = λ terminals are.
    let count = conflicts_of c.args.numbers.now c.args.sets.now terminals in
    subst (λ (es : List (ℕ × ℕ)). CountsMore (count c.args.work.now.finished.items es) c.args.old c.add_conflicts.result) c.deref-2.ensures.value
    (subst (λ (fs : List (ℕ × ℕ)). CountsMore (count fs c.deref-2.result.now) c.args.old c.add_conflicts.result) c.deref.ensures.value (c.add_conflicts.ensures terminals are))
