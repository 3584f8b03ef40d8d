use Rattle.std.proofs.Common.{◌≡◌, ◌∙◌, ◌≤◌, List, ℕ, Some, ap, length, subst, sym}
use Rattle.std.specs.Prelude.{slice_get}
use Rattle.std.specs.declared.alloc.Global.{Global}
use Rattle.std.specs.declared.vec.Vec.{Vec}
use Rattle.lalrpop_grammar.specs.declared.repr.Symbol.TheVariants.{Nonterminal}
use Rattle.lalrpop_base.specs.Words.{AreExpansions}
use Rattle.lalrpop_follow_sets.proofs.theory.follow_sets.FollowNodes.{fronts_listed, fronts_of_start}
use Rattle.lalrpop_collections.proofs.theory.lists.Places.{slice_get_at}
use Rattle.lalrpop_follow_sets.proofs.follow_sets.pass.Pass.expansions.Goals as goal

pub returns-in-Some : goal.returns-in-Some
returns-in-Some c = λ a named.
    let n = c.args.self.now.numbers.now in
    let x = c.args.symbol in
    let found = c.in-Some.ensures.lookup in
    let at : slice_get n.expansions.items x ≡ Some c.in-Some.expansions.now = ap (λ (vs : List (Vec ℕ Global)). slice_get vs x) (sym c.deref.ensures.value) ∙ slice_get_at c.deref.result.now x c.in-Some.expansions.now found.3.0 found.1 in
    subst (AreExpansions n.items.items (Nonterminal a)) (sym c.deref-in-Some.ensures.value) (fronts_listed c.args.self.now c.requires x a c.in-Some.expansions.now named at)

pub returns-in-None : goal.returns-in-None
returns-in-None c = λ a named.
    let n = c.args.self.now.numbers.now in
    let x = c.args.symbol in
    let past : length n.expansions.items ≤ x = subst (λ (vs : List (Vec ℕ Global)). length vs ≤ x) c.deref.ensures.value c.in-None.ensures.lookup.3 in
    subst (AreExpansions n.items.items (Nonterminal a)) (sym c.deref-in-None.ensures.value) (fronts_of_start c.args.self.now c.requires x a named past)
