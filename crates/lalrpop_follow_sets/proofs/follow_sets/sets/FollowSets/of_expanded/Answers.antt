use Rattle.std.proofs.Common.{inl, inr, ℕ, ◌<◌, List, length, sym, subst}
use Rattle.lalrpop_follow_sets.proofs.Types.{NonterminalString, Symbol}
use Rattle.lalrpop_follow_sets.specs.follow_sets.FollowNodes.{IsNonterminalOrCount, IsNumberOrCount}
use Rattle.lalrpop_follow_sets.proofs.follow_sets.sets.FollowSets.of_expanded.Goals as goal

pub nodes_of-requires-clause-named : goal.nodes_of-requires-clause-named
nodes_of-requires-clause-named c s x target state at edge = subst (λ (symbols : List Symbol). x < length symbols) (sym c.deref.ensures.value) ((c.requires.numbered.each s state at).named x target edge)

-- the number of the start symbol is that of a nonterminal, or the count of the symbols
number_or_count : (symbols : List Symbol) (name : NonterminalString) (x : ℕ) → IsNumberOrCount symbols name x → IsNonterminalOrCount symbols x
number_or_count symbols name x (inl there) = inl (name, there)
number_or_count symbols name x (inr none) = inr none.0

pub nodes_of-requires-clause-start : goal.nodes_of-requires-clause-start
nodes_of-requires-clause-start c =
    subst (λ (symbols : List Symbol). IsNonterminalOrCount symbols c.in_ok-start.start.number) (sym c.deref.ensures.value)
    (number_or_count c.args.numbers.now.symbols.items c.args.name.now c.in_ok-start.start.number c.in_ok-start.ensures.number)
