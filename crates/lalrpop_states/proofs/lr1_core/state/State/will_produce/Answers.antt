use Rattle.std.proofs.Common.{◌≡◌, List, refl, sym, ap, subst}
use Rattle.std.specs.Prelude.{map}
use mathlib.Core.Bool.{true≢false}
use Rattle.lalrpop_states.specs.Words.{Dotted, nonterminal_of, moved, AreAll}
use Rattle.lalrpop_states.proofs.Types.{NonterminalString}
use Rattle.lalrpop_states.proofs.theory.states.ViewLemmas.{all_named, each_named, none_named}
use Rattle.lalrpop_states.proofs.lr1_core.state.State.will_produce.Goals as goal

pub returns-then-have_name : goal.returns-then-have_name
returns-then-have_name g c =
    let found = c.in-Some.ensures.found in
    let name = c.item.inside.production.now.nonterminal in
    let same : c.in-Some.item.now.production.nonterminal ≡ name = ap (λ (d : Dotted g.row.L.Denot). d.production.nonterminal) (sym c.item.view_is) in
    let all : AreAll (map nonterminal_of (moved c.as_slice-items.result.now)) name = all_named c.as_slice-items.result.now found.0 c.in-Some.item.now name found.1 found.2 same (c.if-have_name.ensures.0 refl) in
    record {
      one = subst (λ (n : NonterminalString). AreAll (map nonterminal_of (moved c.args.self.now.items.vec.items)) n) (sym c.in_ok-clone-in-Some.ensures)
          (subst (λ (xs : List (Dotted g.row.L.Denot)). AreAll (map nonterminal_of (moved xs)) name) c.as_slice-items.ensures.value all);
    }

pub returns-else-have_name : goal.returns-else-have_name
returns-else-have_name g c = record {
  one = λ all h.
      let found = c.in-Some.ensures.found in
      let name = c.item.inside.production.now.nonterminal in
      let same : c.in-Some.item.now.production.nonterminal ≡ name = ap (λ (d : Dotted g.row.L.Denot). d.production.nonterminal) (sym c.item.view_is) in
      let there : AreAll (map nonterminal_of (moved c.as_slice-items.result.now)) all = subst (λ (xs : List (Dotted g.row.L.Denot)). AreAll (map nonterminal_of (moved xs)) all) (sym c.as_slice-items.ensures.value) h in
      absurd (true≢false (sym (c.if-have_name.ensures.1 (each_named c.as_slice-items.result.now found.0 c.in-Some.item.now name found.1 found.2 same all there))));
}

pub returns-in-None : goal.returns-in-None
returns-in-None g c = record {
  one = λ all h.
      let there : AreAll (map nonterminal_of (moved c.as_slice-items.result.now)) all = subst (λ (xs : List (Dotted g.row.L.Denot)). AreAll (map nonterminal_of (moved xs)) all) (sym c.as_slice-items.ensures.value) h in
      none_named c.as_slice-items.result.now (c.in-None.ensures.none refl) all there;
}
