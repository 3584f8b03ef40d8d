use Rattle.std.proofs.Common.{◌<◌, ◌∙◌, List, length, sym, subst, arith}
use Rattle.lalrpop_grammar.proofs.Types.{NonterminalString}
use Rattle.lalrpop_grammar.specs.Words.{HoldFirstSets, rules_of}
use Rattle.lalrpop_grammar.proofs.theory.first.FirstNumbers.{Ready-all}
use Rattle.lalrpop_grammar.proofs.theory.first.FirstGraphs.{Graph-named, Graph-first}
use Rattle.lalrpop_grammar.proofs.first.FirstSets.new.Goals as goal

pub graph_of-requires : goal.graph_of-requires
graph_of-requires c n l h = c.in_ok-rests.ensures.named n l (rw c.deref.ensures.value at h)

pub spread-requires : goal.spread-requires
spread-requires c =
    let is = rw c.deref.ensures.value at c.in_ok-graph.ensures in
    record {
      counted = rw c.deref-2.ensures.value (is.sized.edges ∙ sym is.sized.sets);
      in_range = λ from to edge.
          let named : to < length c.in_ok-names.names = Graph-named (rules_of c.args.grammar.now) _ _ _ (λ p h. (Ready-all c.args.grammar.now c.requires p h).known) c.in_ok-rests.ensures is from to (rw c.deref-2.ensures.value at edge) in
          let count = is.sized.sets in
          omega arith;
    }

pub invariant_of-result-2 : goal.invariant_of-result-2
invariant_of-result-2 c =
    let is = rw c.deref.ensures.value at c.in_ok-graph.ensures in
    let sets = c.in_ok-spread.field-0.items in
    let nullable = c.in_ok-graph.graph.nullable.items in
    let hold : HoldFirstSets c.args.grammar.now c.in_ok-names.names sets nullable = record {
      named = c.in_ok-names.ensures;
      counted = c.in_ok-spread.ensures.counted ∙ is.sized.sets;
      flagged = is.sized.flags;
      first = Graph-first (rules_of c.args.grammar.now) _ _ _ (λ p h. (Ready-all c.args.grammar.now c.requires p h).known) c.in_ok-rests.ensures is sets (rw c.deref-2.ensures.value at c.in_ok-spread.ensures.least);
    } in
    subst (λ (names : List NonterminalString). HoldFirstSets c.args.grammar.now names sets nullable) (sym c.names.view_is) hold
