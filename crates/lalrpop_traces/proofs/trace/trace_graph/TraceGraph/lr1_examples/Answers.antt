use Rattle.std.proofs.Common.{◌≡◌, ℕ, List, sym, subst, ◌↔◌}
use Rattle.std.specs.Prelude.{Contains}
use Rattle.lalrpop_base.specs.Words.{AllDiffer}
use Rattle.lalrpop_traces.proofs.Types.{Production}
use Rattle.lalrpop_traces.specs.Words.{IsExampleOf, CarryRightSides, SpellsDerivation, IsGraph, IsPath, item_node, paths, to_come}
use Rattle.lalrpop_traces.specs.declared.trace.filtered.FilteredPathEnumerator.{FilteredPathEnumerator}
use Rattle.lalrpop_traces.specs.declared.trace.example.Example.{Example}
use Rattle.lalrpop_traces.proofs.theory.traces.SpelledDerivations.{derivation}
use Rattle.lalrpop_traces.proofs.theory.traces.PathsExact.{paths_exact, paths_once, if_ok}
use Rattle.lalrpop_traces.proofs.theory.traces.TraceGraphs.{kept_graph}
use Rattle.lalrpop_traces.proofs.trace.trace_graph.TraceGraph.lr1_examples.Goals as goal

pub returns-clause-exact : goal.returns-clause-exact
returns-clause-exact c =
    let g = c.args.self.now in
    let start = item_node c.args.item.now in
    let ok = subst IsGraph c.self.view_is (kept_graph c.self.invariant) in
    if_ok c.new.result (λ (walk : FilteredPathEnumerator). to_come walk.base ≡ paths g start) (λ (walk : FilteredPathEnumerator). (path : List ℕ) → Contains (to_come walk.base) path ↔ IsPath g start path) c.new.ensures.paths
    (λ walk e. subst (λ (ps : List (List ℕ)). (path : List ℕ) → Contains ps path ↔ IsPath g start path) (sym e) (paths_exact g ok start))

pub returns-clause-once : goal.returns-clause-once
returns-clause-once c =
    let g = c.args.self.now in
    let start = item_node c.args.item.now in
    let ok = subst IsGraph c.self.view_is (kept_graph c.self.invariant) in
    if_ok c.new.result (λ (walk : FilteredPathEnumerator). to_come walk.base ≡ paths g start) (λ (walk : FilteredPathEnumerator). AllDiffer (to_come walk.base)) c.new.ensures.paths
    (λ walk e. subst (λ (ps : List (List ℕ)). AllDiffer ps) (sym e) (paths_once g ok start))

pub returns-clause-derivations : goal.returns-clause-derivations
returns-clause-derivations c =
    let g = c.args.self.now in
    let start = item_node c.args.item.now in
    let ok = subst IsGraph c.self.view_is (kept_graph c.self.invariant) in
    let P : List (List ℕ) → Type 0 = λ ps. (productions : List Production) → CarryRightSides productions g.edges → (path : List ℕ) (example : Example) → Contains ps path → IsExampleOf g path example → SpellsDerivation productions example in
    if_ok c.new.result (λ (walk : FilteredPathEnumerator). to_come walk.base ≡ paths g start) (λ (walk : FilteredPathEnumerator). P (to_come walk.base)) c.new.ensures.paths
    (λ walk e. subst P (sym e) (λ productions carry path example there is. derivation g productions start path example carry ((paths_exact g ok start path).0 there) is))
