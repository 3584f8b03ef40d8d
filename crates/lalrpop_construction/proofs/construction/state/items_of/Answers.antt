use Rattle.std.proofs.Common.{◌≡◌, ◌∙◌, ◌<◌, ◌++◌, ◌∷◌, [], ℕ, List, sym, subst, ap, append-nil, arith}
use Rattle.std.specs.Prelude.{Contains}
use Rattle.std.proofs.lemmas.List.{map-append, nil_from_length}
use Rattle.std.proofs.lemmas.List.Elements.{Contains-append_left, Contains-push}
use Rattle.lalrpop_base.specs.Words.{Dotted, dotted_at, item_by, items_by}
use Rattle.lalrpop_construction.proofs.Types.{Nil, Production}
use Rattle.lalrpop_numbers.specs.declared.numbers.numbered.Numbered.{Numbered}
use Rattle.lalrpop_states.proofs.theory.collapse.Merging.{taken}
use Rattle.lalrpop_construction.proofs.theory.closures.PropagatedItems.{read_item}
use Rattle.lalrpop_construction.proofs.construction.state.items_of.Goals as goal

pub loop-item-init : goal.loop-item-init
loop-item-init g c = record { made = c.in_ok-items.ensures.items; left = c.into_iter-item-iterator.ensures.into_iter_gives.0 }

pub index-requires : goal.index-requires
index-requires g c =
    let left = taken _ _ c.loop-item.yielded _ c.in-Some.item c.loop-item.invariant.left c.in-Some.ensures.steps.0 in
    let item : Numbered g.row.L.Denot = c.in-Some.item in
    let here = Contains-append_left (c.loop-item.yielded ++ item ∷ []) c.next.new.self.rest.items item (Contains-push c.loop-item.yielded item) in
    let among = subst (λ (is : List (Numbered g.row.L.Denot)). Contains is item) left here in
    subst (λ (k : ℕ). item.number < k) (sym c.args.numbers.now.items.ok.0) (c.requires item among)

pub loop-item-preserved : goal.loop-item-preserved
loop-item-preserved g c =
    let items = c.args.numbers.now.items.items in
    let item : Numbered g.row.L.Denot = c.in-Some.item in
    let left = taken _ _ c.loop-item.yielded _ c.in-Some.item c.loop-item.invariant.left c.in-Some.ensures.steps.0 in
    let here = Contains-append_left (c.loop-item.yielded ++ item ∷ []) c.next.new.self.rest.items item (Contains-push c.loop-item.yielded item) in
    let known = c.requires item (subst (λ (is : List (Numbered g.row.L.Denot)). Contains is item) left here) in
    let at : c.index.result.now ≡ dotted_at items item.number = read_item items item.number c.index.result.now known c.index.ensures in
    let make : Production → ℕ → g.row.L.Denot → Dotted g.row.L.Denot = λ p k l. record { production = p; index = k; lookahead = l } in
    let e = c.with_lookahead.ensures in
    let same : c.with_lookahead.result ≡ item_by items item =
    ap (λ p. make p c.with_lookahead.result.index c.with_lookahead.result.lookahead) (e.production ∙ ap (λ (d : Dotted Nil). d.production) at)
    ∙ ap (λ k. make (dotted_at items item.number).production k c.with_lookahead.result.lookahead) (e.index ∙ ap (λ (d : Dotted Nil). d.index) at)
    ∙ ap (λ l. make (dotted_at items item.number).production (dotted_at items item.number).index l) e.lookahead in
    record {
      made = c.in_ok-push.ensures.items
          ∙ ap (λ (is : List (Dotted g.row.L.Denot)). is ++ c.with_lookahead.result ∷ []) c.loop-item.invariant.made
          ∙ ap (λ (i : Dotted g.row.L.Denot). items_by items c.loop-item.yielded ++ i ∷ []) same
          ∙ sym (map-append (item_by items) c.loop-item.yielded (item ∷ []));
      left = left;
    }

pub returns : goal.returns
returns g c =
    let h = c.loop-item.invariant in
    let rest = nil_from_length c.loop-item.item-iterator.rest.items (let k = c.loop-item.item-iterator.rest.ok in let none = c.in-None.ensures.steps.0 in omega arith) in
    let all = sym (append-nil c.loop-item.yielded) ∙ ap (λ (ys : List (Numbered g.row.L.Denot)). c.loop-item.yielded ++ ys) (sym rest) ∙ h.left in
    h.made ∙ ap (items_by c.args.numbers.now.items.items) all
