use Rattle.std.proofs.Common.{◌≡◌, ◌∙◌, ◌+◌, ℕ, ap, get_or, subst, arith, sym, Some, None, List, Option}
use Rattle.std.specs.Prelude.{Contains}
use Rattle.std.proofs.lemmas.Option.{slice_get-get_or, slice_get_within}
use Rattle.lalrpop_collections.proofs.theory.lists.Places.{contains_at, same_some, slice_get_at}
use Rattle.lalrpop_construction.specs.states.NumberedStates.{listed_items}
use Rattle.lalrpop_construction.specs.declared.construction.numbered_state.NumberedState.{NumberedState}
use Rattle.lalrpop_check.proofs.check.by_number.leading.leads_on.Goals as goal

pub returns-in_default : goal.returns-in_default
returns-in_default c = λ h x at.
    let counted = c.args.numbers.now.counted in
    let here = slice_get_at c.args.numbers.now.behind.items c.args.item c.index.result.now (omega (arith, c.requires.known, counted)) c.index.ensures in
    let none = same_some (Some x) None (sym at ∙ here ∙ ap Some c.in_default.is) in
    absurd (cc)

pub returns : goal.returns
returns c = λ h x at.
    let counted = c.args.numbers.now.counted in
    let edges : List (ℕ × ℕ) = c.args.edges.now in
    let place = c.in-Some-place_of.place in
    let here = slice_get_at c.args.numbers.now.behind.items c.args.item c.index.result.now (omega (arith, c.requires.known, counted)) c.index.ensures in
    let symbol : c.in-Some.symbol ≡ x = same_some c.in-Some.symbol x (same_some (Some c.in-Some.symbol) (Some x) (sym (here ∙ ap Some c.in-Some.is) ∙ at)) in
    let found = c.in-Some-place_of.ensures.found in
    let w = slice_get_within edges place (c.in-Some.symbol, found.0) found.1 in
    let e : ℕ × ℕ = get_or edges place (0, 0) in
    let read = slice_get-get_or edges place (0, 0) w in
    let same : (c.in-Some.symbol, found.0) ≡ e = same_some (c.in-Some.symbol, found.0) e (sym found.1 ∙ read) in
    let target : found.0 ≡ e.1 = ap (λ (d : ℕ × ℕ). d.1) same in
    let state = slice_get_at c.args.states.now e.1 c.index-states-target.result c.if-target-states.false c.index-states-target.is in
    let there = subst (λ (st : NumberedState). Contains st.items.items (c.args.item + 1)) (sym c.index-states-target.is) (subst (λ (ks : List ℕ). Contains ks (c.args.item + 1)) c.deref.ensures.value (c.has_number.ensures h)) in
    record {
      target = e.1;
      edge = subst (λ (y : ℕ). Contains edges (y, e.1)) symbol (subst (λ (m : ℕ). Contains edges (c.in-Some.symbol, m)) target (contains_at edges (c.in-Some.symbol, found.0) place found.1));
      moved = subst (λ (o : Option NumberedState). Contains (listed_items o) (c.args.item + 1)) (sym state) there;
    }
