use Rattle.std.proofs.Common.{◌≡◌, ◌∙◌, ◌+◌, ◌++◌, ◌∷◌, [], ℕ, List, map, take, refl, sym, ap, subst, arith, Option, Some, None}
use Rattle.std.specs.Prelude.{Contains, IsSome, IsNone, slice_get}
use Rattle.std.proofs.lemmas.List.{map-append, take_all}
use Rattle.std.proofs.lemmas.Option.{slice_get_within}
use Rattle.lalrpop_base.specs.Words.{Dotted, lr0_at_start, item_at_start, AreNumbered, dotted_at, item_by, items_by}
use Rattle.lalrpop_construction.proofs.Types.{Nil, Production}
use Rattle.lalrpop_numbers.specs.declared.numbers.numbered.Numbered.{Numbered}
use Rattle.lalrpop_grammar.proofs.theory.grammars.Grammars.{productions_among}
use Rattle.lalrpop_collections.proofs.theory.lists.Members.{Contains-none}
use Rattle.lalrpop_construction.proofs.theory.numbers.Numbers.{at_number}
use Rattle.lalrpop_construction.proofs.theory.construction.NumberedMoves.{more_numbered}
use Rattle.lalrpop_collections.proofs.theory.lists.Growth.{mapped_more}
use Rattle.lalrpop_construction.proofs.construction.lr.numbered_starts.Goals as goal

some_by : (o : Option ℕ) → (IsNone o → ⊥) → IsSome o
some_by None h = absurd (h refl)
some_by (Some k) h = refl

pub loop-production-init : goal.loop-production-init
loop-production-init g c = record {
  known = λ e h. absurd (Contains-none e (rw c.new-items.ensures at h));
  made = ap (items_by c.args.numbers.now.items.items) c.new-items.ensures;
}

pub unwrap-number-requires : goal.unwrap-number-requires
unwrap-number-requires g c =
    let p : Production = c.production-item.result in
    let there : Contains c.productions_for-production-items.result.now p = (c.loop-production.production-index, c.loop-production-test.true, sym c.production-item.is) in
    let among = productions_among c.args.grammar.now c.args.nonterminal.now p (subst (λ (ps : List Production). Contains ps p) c.productions_for-production-items.ensures there) in
    let item = c.requires.items.all p 0 among (omega arith) in
    some_by c.number_of.result (λ none. c.number_of.ensures.none none (subst (Contains c.args.numbers.now.items.items) (sym c.lr0.ensures) item))

pub loop-production-preserved : goal.loop-production-preserved
loop-production-preserved g c =
    let items = c.args.numbers.now.items.items in
    let p : Production = c.production-item.result in
    let ps = c.productions_for-production-items.result.now in
    let i = c.loop-production.production-index in
    let found : slice_get items c.unwrap-number.result ≡ Some c.lr0.result = rw c.unwrap-number.ensures at c.number_of.ensures.found in
    let at : dotted_at items c.unwrap-number.result ≡ lr0_at_start p = at_number items c.unwrap-number.result c.lr0.result found ∙ c.lr0.ensures in
    let number : Numbered g.row.L.Denot = record { number = c.unwrap-number.result; lookahead = c.in_ok-lookahead.lookahead } in
    let same : item_by items number ≡ item_at_start c.args.lookahead.now p =
    ap (λ (d : Dotted Nil). record { production = d.production; index = d.index; lookahead = c.in_ok-lookahead.lookahead }) at ∙ ap (λ (l : g.row.L.Denot). item_at_start l p) c.in_ok-lookahead.ensures in
    let more : map (item_at_start c.args.lookahead.now) (take (i + 1) ps) ≡ map (item_at_start c.args.lookahead.now) (take i ps) ++ item_at_start c.args.lookahead.now p ∷ [] = mapped_more (item_at_start c.args.lookahead.now) ps i p c.loop-production-test.true c.production-item.is in
    record {
      known = subst (AreNumbered items) (sym c.in_ok-push.ensures.ok) (more_numbered items c.loop-production.items number c.loop-production.invariant.known (slice_get_within items c.unwrap-number.result c.lr0.result found));
      made = ap (items_by items) c.in_ok-push.ensures.ok
          ∙ map-append (item_by items) c.loop-production.items (number ∷ [])
          ∙ ap (λ (is : List (Dotted g.row.L.Denot)). is ++ item_by items number ∷ []) c.loop-production.invariant.made
          ∙ ap (λ (j : Dotted g.row.L.Denot). map (item_at_start c.args.lookahead.now) (take i ps) ++ j ∷ []) same
          ∙ sym more;
    }

pub returns-clause-known : goal.returns-clause-known
returns-clause-known g c = c.loop-production.invariant.known

pub returns-clause-items : goal.returns-clause-items
returns-clause-items g c =
    c.loop-production.invariant.made
    ∙ ap (map (item_at_start c.args.lookahead.now)) (take_all c.loop-production.production-index c.productions_for-production-items.result.now c.loop-production-test.false)
    ∙ ap (map (item_at_start c.args.lookahead.now)) c.productions_for-production-items.ensures
