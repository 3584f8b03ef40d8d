use Rattle.std.proofs.Common.{◌≡◌, ◌∙◌, ◌+◌, ◌++◌, ◌∷◌, [], List, ℕ, Some, ap, sym, subst, take, map, refl, inl}
use Rattle.std.specs.Prelude.{slice_get}
use Rattle.std.proofs.lemmas.List.{take_more, take_all, map-append}
use Rattle.lalrpop_base.specs.Words.{Bits, dots, Dotted, bare, AreFirstNumbers}
use Rattle.lalrpop_tables.specs.Words.{dots_in}
use Rattle.lalrpop_tables.proofs.Types.{Nil, State, StateIndex}
use Rattle.lalrpop_numbers.proofs.theory.construction.Contained.{decided_kernel, added_or_not}
use Rattle.lalrpop_tables.proofs.theory.collapse.MergedNumbers.{AreListed, Listed-none, Listed-more, Listed-numbers, mapped_numbers, bare_apart, no_lookahead}
use Rattle.lalrpop_tables.proofs.build_lalr.numbers.merged_numbers.Goals as goal

abbrev bare_in : State Bits → List (Dotted Nil)
bare_in s = map bare (dots_in s)

map_map : (xs : List (State Bits)) → map bare_in xs ≡ map (map bare) (map dots_in xs)
map_map [] = refl
map_map (x ∷ xs) = ap (λ (ks : List (List (Dotted Nil))). bare_in x ∷ ks) (map_map xs)

pub loop-state-init : goal.loop-state-init
loop-state-init c = Listed-none _ _ c.new-numbers.ensures.items (ap (λ k. k.list) c.new-known.ensures)

pub loop-state-preserved : goal.loop-state-preserved
loop-state-preserved c =
    let xs : List (State Bits) = c.args.states.now in
    let i = c.loop-state.state-index in
    let x : State Bits = c.state-item.result in
    let m = c.in_ok-number.field-0.0 in
    let key : List (Dotted Nil) = c.in_ok-items.items in
    let is : key ≡ bare_in x = c.in_ok-items.ensures ∙ ap (λ (is : List (Dotted Bits)). map bare (dots is)) c.deref.ensures.value in
    let state = c.in_ok-number.ensures in
    let there : slice_get c.add_state.new.self.list m ≡ Some key = ap (λ (t : StateIndex). slice_get c.add_state.new.self.list t.0) state.numbered.1 ∙ state.numbered.2 in
    let either = added_or_not (decided_kernel (λ x y. inl (no_lookahead x y))) c.loop-state.known.list c.add_state.new.self.list key state.added in
    let more : take (i + 1) xs ≡ take i xs ++ x ∷ [] = take_more xs i x c.loop-state-test.true ∙ ap (λ (y : State Bits). take i xs ++ y ∷ []) (sym c.state-item.is) in
    let all : map bare_in (take (i + 1) xs) ≡ map bare_in (take i xs) ++ key ∷ [] = ap (map bare_in) more ∙ map-append bare_in (take i xs) (x ∷ []) ∙ ap (λ (k : List (Dotted Nil)). map bare_in (take i xs) ++ k ∷ []) (sym is) in
    Listed-more (map bare_in (take i xs)) c.loop-state.numbers.items c.loop-state.known.list c.add_state.new.self.list key m c.loop-state.invariant either there state.differ (map bare_in (take (i + 1) xs)) c.push.new.self.items all c.in_ok-push.ensures.items

pub returns : goal.returns
returns c =
    let xs : List (State Bits) = c.args.states.now in
    let numbers : List ℕ = c.loop-state.numbers.items in
    let listed = subst (λ (ys : List (State Bits)). AreListed (map bare_in ys) numbers c.loop-state.known.list) (take_all c.loop-state.state-index xs c.loop-state-test.false) c.loop-state.invariant in
    mapped_numbers (map bare) bare_apart (map dots_in xs) numbers (subst (λ (ks : List (List (Dotted Nil))). AreFirstNumbers ks numbers) (map_map xs) (Listed-numbers (map bare_in xs) numbers c.loop-state.known.list listed))
