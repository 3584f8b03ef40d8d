use Rattle.std.proofs.Common.{◌≡◌, ◌∙◌, ◌<◌, ◌++◌, ◌∷◌, [], ℕ, List, ap, map, sym, subst, append-nil, arith, inl, inr}
use Rattle.std.specs.Prelude.{length}
use Rattle.std.specs.Map.{keys_of}
use Rattle.std.proofs.lemmas.List.{map-append, nil_from_length}
use Rattle.std.proofs.lemmas.List.Elements.{Contains-push_cases}
use Rattle.lalrpop_base.specs.Words.{Bits, Dotted, Groups, groups_by, items_by, kernels_by, symbol_at}
use Rattle.lalrpop_grammar.specs.declared.repr.Symbol.{Symbol}
use Rattle.lalrpop_collections.proofs.theory.lists.Members.{Contains-none, contains_map}
use Rattle.lalrpop_construction.proofs.theory.construction.Moves.{AreSomeEdges, Edges-none, Edges-more}
use Rattle.lalrpop_construction.proofs.theory.construction.NumberedEdges.{numbered_by}
use Rattle.lalrpop_construction.proofs.theory.construction.NumberedMoves.{group_by}
use Rattle.canonical_by_number.specs.Closures.{kernel_in}
use Rattle.canonical_by_number.specs.Edges.{AreOverSymbols, entries_of}
use Rattle.canonical_by_number.specs.Kernels.{groups_in, kernels_in}
use Rattle.canonical_by_number.proofs.Edges.{Edges-made, Entry-added, numbers_ascend}
use Rattle.canonical_by_number.proofs.PackedMoves.{Kernels-more, either_items, group_in, items_differ, kernel_there, taken, taken_among}
use Rattle.canonical_by_number.proofs.moves.edges_of.Goals as goal

pub loop-symbol-init : goal.loop-symbol-init
loop-symbol-init c =
    let symbols = c.args.numbers.now.symbols.items in
    let empty = c.clear.ensures.items in
    record {
      edges = Edges-none (groups_by c.args.numbers.now (groups_in c.args.sets.now c.args.groups.items)) (kernels_by c.args.numbers.now.items.items (kernels_in c.args.sets.now c.args.kernels.now)) (entries_of symbols c.clear.new.self.items) (ap (λ (es : List (ℕ × ℕ)). (entries_of symbols es).shifts) empty) (ap (λ (es : List (ℕ × ℕ)). (entries_of symbols es).gotos) empty);
      known = c.requires.kernels;
      over = subst (AreOverSymbols symbols) (sym empty) (λ e d. absurd (Contains-none e d));
      keys = ap (λ (es : List (ℕ × ℕ)). keys_of es) empty;
      left = c.into_iter-symbol-iterator.ensures.into_iter_gives.0;
    }

pub loop-symbol-preserved : goal.loop-symbol-preserved
loop-symbol-preserved c =
    let n = c.args.numbers.now in
    let items = n.items.items in
    let sets : List Bits = c.args.sets.now in
    let groups : List (ℕ × List ℕ) = c.args.groups.items in
    let first : List (ℕ × List ℕ) = c.loop-symbol.yielded in
    let group : ℕ × List ℕ = (c.in-Some.symbol, c.in-Some.items) in
    let edge : ℕ × ℕ = (c.in-Some.symbol, c.in_ok-target.target) in
    let x : Symbol = symbol_at n.symbols.items c.in-Some.symbol in
    let kernel : List (Dotted Bits) = items_by items (kernel_in sets c.in-Some.items) in
    let before = c.loop-symbol.invariant in
    let split = taken groups first c.loop-symbol.symbol-iterator.rest.items c.next.new.self.rest.items group before.left c.in-Some.ensures.steps.0 in
    let among = taken_among groups first c.loop-symbol.symbol-iterator.rest.items c.next.new.self.rest.items group before.left c.in-Some.ensures.steps.0 in
    let among_in = contains_map (group_in sets) groups group among in
    let known = c.requires.known (group_in sets group) among_in in
    let packed = c.requires.packed group among in
    let state = c.in_ok-target.ensures in
    let differ = c.len-count.ensures.differ in
    let ascend = c.requires.numbers.1.items.ascend in
    let old : List (List ℕ) = c.loop-symbol.kernels.list in
    let new : List (List ℕ) = c.add_state.new.self.list in
    let old_edges : List (ℕ × ℕ) = c.loop-symbol.edges.items in
    let push : c.push.new.self.items ≡ old_edges ++ edge ∷ [] = c.in_ok-push.ensures.items in
    record {
      edges = subst (λ (es : List (ℕ × ℕ)). AreSomeEdges (groups_by n (groups_in sets groups)) (groups_by n (groups_in sets (first ++ group ∷ []))) (kernels_by items (kernels_in sets c.args.kernels.now)) (kernels_by items (kernels_in sets c.add_state.new.self)) (entries_of n.symbols.items es)) (sym push)
          (subst (λ (front : Groups Bits). AreSomeEdges (groups_by n (groups_in sets groups)) front (kernels_by items (kernels_in sets c.args.kernels.now)) (kernels_by items (kernels_in sets c.add_state.new.self)) (entries_of n.symbols.items (old_edges ++ edge ∷ []))) (sym (ap (groups_by n) (map-append (group_in sets) first (group ∷ [])) ∙ map-append (group_by n) (groups_in sets first) (group_in sets group ∷ [])))
          (Edges-more (groups_by n (groups_in sets groups)) x kernel (contains_map (group_by n) (groups_in sets groups) (group_in sets group) among_in) (groups_by n (groups_in sets first)) (kernels_by items (kernels_in sets c.args.kernels.now))
          (kernels_by items (kernels_in sets c.loop-symbol.kernels)) (kernels_by items (kernels_in sets c.add_state.new.self)) (entries_of n.symbols.items old_edges) (entries_of n.symbols.items (old_edges ++ edge ∷ [])) c.in_ok-target.target before.edges
          (numbered_by items (map (kernel_in sets) new) c.in_ok-target.target (kernel_in sets c.in-Some.items) (kernel_there sets new c.in_ok-target.target c.in-Some.items state.numbered))
          (either_items n sets differ ascend old new c.in-Some.items before.known packed known.1 state.added) state.handed
          (items_differ n sets differ ascend old new c.in-Some.items before.known packed known.1 state.added state.differ)
          (Entry-added n.symbols.items old_edges c.in-Some.symbol c.in_ok-target.target)));
      known = Kernels-more n sets differ ascend old new c.in-Some.items before.known packed known.1 state.added;
      over = subst (AreOverSymbols n.symbols.items) (sym push) (λ e d. elim (Contains-push_cases old_edges edge e d) [ inl had ↦ before.over e had | inr same ↦ subst (λ (f : ℕ × ℕ). f.0 < length n.symbols.items) same known.0 ]);
      keys = ap (λ (es : List (ℕ × ℕ)). keys_of es) push ∙ map-append (λ (e : ℕ × ℕ). e.0) old_edges (edge ∷ []) ∙ ap (λ (ks : List ℕ). ks ++ c.in-Some.symbol ∷ []) before.keys ∙ sym (map-append (λ (h : ℕ × List ℕ). h.0) first (group ∷ []));
      left = split;
    }

all_yielded : {X : Type 0} (yielded rest all : List X) → length rest ≡ 0 → yielded ++ rest ≡ all → yielded ≡ all
all_yielded {X} yielded rest all none left = sym (append-nil yielded) ∙ ap (λ (t : List X). yielded ++ t) (sym (nil_from_length rest none)) ∙ left

pub returns-clause-kernels : goal.returns-clause-kernels
returns-clause-kernels c = c.loop-symbol.invariant.known

pub returns-clause-edges : goal.returns-clause-edges
returns-clause-edges c =
    let n = c.args.numbers.now in
    let sets : List Bits = c.args.sets.now in
    let groups : List (ℕ × List ℕ) = c.args.groups.items in
    let first : List (ℕ × List ℕ) = c.loop-symbol.yielded in
    let after = c.loop-symbol.invariant in
    let all : first ≡ groups = all_yielded first c.loop-symbol.symbol-iterator.rest.items groups (let k = c.loop-symbol.symbol-iterator.rest.ok in let none = c.in-None.ensures.steps.0 in omega arith) after.left in
    let keys : keys_of groups ≡ keys_of c.loop-symbol.edges.items = ap (λ (gs : List (ℕ × List ℕ)). keys_of gs) (sym all) ∙ sym after.keys in
    Edges-made n.symbols.items c.requires.numbers.1.symbols_ascend (groups_by n (groups_in sets groups)) (groups_by n (groups_in sets first)) (kernels_by n.items.items (kernels_in sets c.args.kernels.now)) (kernels_by n.items.items (kernels_in sets c.loop-symbol.kernels)) c.loop-symbol.edges.items (ap (λ (gs : List (ℕ × List ℕ)). groups_by n (groups_in sets gs)) all) after.edges (numbers_ascend groups c.loop-symbol.edges.items keys c.requires.rising) after.over

pub returns-clause-reached : goal.returns-clause-reached
returns-clause-reached c = c.loop-symbol.invariant.edges.reached

pub returns-clause-known : goal.returns-clause-known
returns-clause-known c = c.loop-symbol.invariant.over
