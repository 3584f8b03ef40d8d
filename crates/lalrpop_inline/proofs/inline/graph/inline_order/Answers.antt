use Rattle.std.proofs.Common.{rules, ◌≡◌, ◌↔◌, ◌<◌, ◌+◌, ℕ, ◌∷◌, [], length, get_or, drop, false, true, List, take, arith, sym, ◌∙◌, ap, subst}
use Rattle.std.specs.Prelude.{Contains}
use Rattle.std.specs.List.{list_any}
use Rattle.std.specs.BTreeMap.{is_at}
use Rattle.std.specs.BTreeSet.{contains}
use Rattle.std.proofs.lemmas.List.{drop_more, take_all}
use Rattle.lalrpop_base.specs.Words.{name_cmp}
use Rattle.lalrpop_inline.specs.Words.{AreMarkedAmong, ComesBack, IsComeBackTo}
use Rattle.lalrpop_inline.proofs.theory.inlining.InlineMeetings.{named_by}
use Rattle.lalrpop_inline.proofs.Types.{NonterminalString}
use Rattle.lalrpop_inline.specs.declared.inline.graph.depth_first.Walk.{Walk}
use Rattle.lalrpop_inline.proofs.theory.inlining.InlineWalks.{nothing_walked}
use Rattle.lalrpop_inline.proofs.theory.inlining.InlineFrames.{HasLeft, none_left, one_left, all_left}
use Rattle.lalrpop_inline.proofs.theory.inlining.InlineRings.{no_ring}
use Rattle.lalrpop_inline.proofs.inline.graph.inline_order.Goals as goal

one_on : (names : List NonterminalString) (i : ℕ) (name : NonterminalString) → i < length names → name ≡ get_or names i name → drop i names ≡ name ∷ drop (i + 1) names
one_on names i name less is = drop_more names i name less ∙ ap (λ (x : NonterminalString). x ∷ drop (i + 1) names) (sym is)

pub loop-name-init : goal.loop-name-init
loop-name-init c =
    let g = c.args.grammar.now in
    let start : Walk = record { pending = c.in_ok-pending.pending; visiting = c.new-visiting.result; order = c.new-order.result } in
    let outside : (a : NonterminalString) → contains name_cmp start.visiting a ≡ false = λ a. ap (λ (ks : List NonterminalString). list_any (is_at (name_cmp a)) ks) c.new-visiting.ensures.empty in
    let left : HasLeft g start [] = none_left g start
    (nothing_walked g start c.in_ok-names.names.items c.in_ok-names.ensures.found
    (subst (λ (l : List NonterminalString). (a : NonterminalString) → (contains name_cmp c.in_ok-pending.pending a ≡ true) ↔ Contains l a) c.deref.ensures.value c.in_ok-pending.ensures) outside c.new-order.ensures.items)
    outside
    in
    record {
      left = left;
      back = λ b h. subst (λ (l : List NonterminalString). ComesBack g [] c.deref-name-items.result.now l b) c.new-order.ensures.items h;
    }

pub loop-name-preserved : goal.loop-name-preserved
loop-name-preserved c =
    let g = c.args.grammar.now in
    let names : List NonterminalString = c.deref-name-items.result.now in
    let i = c.loop-name.name-index in
    record {
      left = one_left g c.loop-name.walk c.walk_from.new.walk names i c.name-item.result (omega arith) c.name-item.is c.loop-name.invariant.left c.in_ok-walk_from.ensures.walked c.in_ok-walk_from.ensures.left;
      back = λ b h. c.loop-name.invariant.back b
          (subst (λ (l : List NonterminalString). ComesBack g [] l c.loop-name.walk.order.items b) (sym (one_on names i c.name-item.result (omega arith) c.name-item.is)) (c.in_ok-walk_from.ensures.back (drop (i + 1) names) b h));
    }

pub returns-in_err-walk_from-clause-met : goal.returns-in_err-walk_from-clause-met
returns-in_err-walk_from-clause-met c =
    let g = c.args.grammar.now in
    let names : List NonterminalString = c.deref-name-items.result.now in
    let i = c.loop-name.name-index in
    let name = c.name-item.result in
    let among : AreMarkedAmong g.nonterminals.entries names = subst (AreMarkedAmong g.nonterminals.entries) (sym c.deref-name-items.ensures.value) c.in_ok-names.ensures.among in
    let step = named_by (λ b. (rest : List NonterminalString) → ComesBack g [] (name ∷ rest) c.loop-name.walk.order.items b) (IsComeBackTo g) c.in_err-walk_from.field-0.0
    (λ b k. (
      names,
      among,
      c.loop-name.invariant.back b (subst (λ (l : List NonterminalString). ComesBack g [] l c.loop-name.walk.order.items b) (sym (one_on names i name (omega arith) c.name-item.is)) (k (drop (i + 1) names))),
    )) c.in_err-walk_from.ensures.met in
    search (rules, step)

pub returns-clause-order : goal.returns-clause-order
returns-clause-order c =
    let all : List NonterminalString = c.deref-name-items.result.now in
    let every : take c.loop-name.name-index all ≡ c.in_ok-names.names.items = take_all c.loop-name.name-index all (omega (arith, c.loop-name-test.false)) ∙ c.deref-name-items.ensures.value in
    all_left c.args.grammar.now c.loop-name.walk c.in_ok-names.names.items c.in_ok-names.ensures.found (subst (HasLeft c.args.grammar.now c.loop-name.walk) every c.loop-name.invariant.left)

pub returns-clause-acyclic : goal.returns-clause-acyclic
returns-clause-acyclic c =
    let all : List NonterminalString = c.deref-name-items.result.now in
    let every : take c.loop-name.name-index all ≡ c.in_ok-names.names.items = take_all c.loop-name.name-index all (omega (arith, c.loop-name-test.false)) ∙ c.deref-name-items.ensures.value in
    no_ring c.args.grammar.now c.loop-name.walk.order.items
    (all_left c.args.grammar.now c.loop-name.walk c.in_ok-names.names.items c.in_ok-names.ensures.found (subst (HasLeft c.args.grammar.now c.loop-name.walk) every c.loop-name.invariant.left))
