use Rattle.std.proofs.Common.{◌≡◌, ◌∙◌, ◌<◌, ◌++◌, ◌∷◌, [], ℕ, List, Some, ap, sym, subst, append-nil, arith}
use Rattle.std.proofs.lemmas.Result.{IfOk-weaker}
use Rattle.std.specs.Map.{keys_of}
use Rattle.std.specs.Prelude.{length, slice_get}
use Rattle.std.proofs.lemmas.List.{map-append, nil_from_length}
use Rattle.lalrpop_base.specs.Words.{AddsOnce, Dotted, Groups, IsEntryAdded, list_entries, NumberedGroups, groups_by, items_by, kernels_by, symbol_at}
use Rattle.lalrpop_construction.proofs.Types.{Symbol}
use Rattle.lalrpop_numbers.specs.declared.numbers.numbered.Numbered.{Numbered}
use Rattle.lalrpop_numbers.proofs.theory.construction.Contained.{added_or_not, decided, decided_list, decided_numbered}
use Rattle.lalrpop_collections.proofs.theory.lists.Members.{contains_map}
use Rattle.lalrpop_construction.proofs.theory.construction.Moves.{AreSomeEdges, Edges-none, Edges-more, Edges-all}
use Rattle.lalrpop_construction.proofs.theory.states.EdgesByNumber.{EdgesBy-all, Keys-ascend, Keys-of, ListedBy-more, ListedBy-none}
use Rattle.lalrpop_construction.proofs.theory.construction.NumberedEdges.{all_known, differ_by, either_by, numbered_by, taken, taken_among}
use Rattle.lalrpop_construction.proofs.theory.construction.NumberedMoves.{group_by, symbol_is}
use Rattle.lalrpop_collections.proofs.theory.lists.Places.{slice_get_at}
use Rattle.lalrpop_collections.proofs.theory.collections.JoinedEntries.{on_ok}
use Rattle.lalrpop_construction.proofs.construction.transitions.edges_of.Goals as goal

pub loop-symbol-init : goal.loop-symbol-init
loop-symbol-init g c = record {
  edges = Edges-none (groups_by c.args.numbers.now c.args.moves.items) (kernels_by c.args.numbers.now.items.items c.args.kernels.now) _ c.new.ensures.items c.new-2.ensures.items;
  known = c.requires.kernels;
  listed = ListedBy-none c.args.numbers.now.symbols.items _ _ c.clear.ensures.items c.new.ensures.items c.new-2.ensures.items;
  keys = ap (λ (es : List (ℕ × ℕ)). keys_of es) c.clear.ensures.items;
  left = c.into_iter-symbol-iterator.ensures.into_iter_gives.0;
}

pub index-requires : goal.index-requires
index-requires g c =
    let groups : NumberedGroups g.row.L.Denot = c.args.moves.items in
    let among = taken_among groups c.loop-symbol.yielded c.loop-symbol.symbol-iterator.rest.items c.next.new.self.rest.items (c.in-Some.symbol, c.in-Some.items) c.loop-symbol.invariant.left c.in-Some.ensures.steps.0 in
    subst (λ (k : ℕ). c.in-Some.symbol < k) (sym c.args.numbers.now.symbols.ok.0) (c.requires.known (c.in-Some.symbol, c.in-Some.items) among).0

pub loop-symbol-preserved : goal.loop-symbol-preserved
loop-symbol-preserved g c =
    let n = c.args.numbers.now in
    let items = n.items.items in
    let groups : NumberedGroups g.row.L.Denot = c.args.moves.items in
    let first : NumberedGroups g.row.L.Denot = c.loop-symbol.yielded in
    let group : ℕ × List (Numbered g.row.L.Denot) = (c.in-Some.symbol, c.in-Some.items) in
    let x : Symbol = symbol_at n.symbols.items c.in-Some.symbol in
    let kernel : List (Dotted g.row.L.Denot) = items_by items c.in-Some.items in
    let split = taken groups first c.loop-symbol.symbol-iterator.rest.items c.next.new.self.rest.items group c.loop-symbol.invariant.left c.in-Some.ensures.steps.0 in
    let among = taken_among groups first c.loop-symbol.symbol-iterator.rest.items c.next.new.self.rest.items group c.loop-symbol.invariant.left c.in-Some.ensures.steps.0 in
    let known = c.requires.known group among in
    let state = c.in_ok-target.ensures in
    let kernels : List (List (Numbered g.row.L.Denot)) = c.add_state.new.self.list in
    let numbered : slice_get kernels c.in_ok-target.target.0 ≡ Some c.in-Some.items = state.numbered ∙ ap Some c.new-in-loop-symbol.ensures in
    let either =
    added_or_not (decided_list (decided_numbered (decided g.L.PartialEq.eq g.met.L.Lookahead.equal_is_same (λ x. g.met.L.Eq.laws.refl x)))) c.loop-symbol.kernels.list kernels c.in-Some.items (subst (AddsOnce c.loop-symbol.kernels.list kernels) c.new-in-loop-symbol.ensures state.added) in
    let all = all_known items c.loop-symbol.kernels.list kernels c.in-Some.items c.loop-symbol.invariant.known known.1 either in
    let at = slice_get_at n.symbols.items c.in-Some.symbol c.index.result.now known.0 c.index.ensures in
    let symbol : c.in_ok-clone.field-0 ≡ x = c.in_ok-clone.ensures ∙ sym (symbol_is n.symbols.items c.in-Some.symbol c.index.result.now at) in
    record {
      edges = subst (λ (first : Groups g.row.L.Denot). AreSomeEdges (groups_by n groups) first (kernels_by items c.args.kernels.now) (kernels_by items c.add_state.new.self) (list_entries c.add_edge.new.lists)) (sym (map-append (group_by n) first (group ∷ [])))
          (Edges-more (groups_by n groups) x kernel (contains_map (group_by n) groups group among) (groups_by n first) (kernels_by items c.args.kernels.now)
          (kernels_by items c.loop-symbol.kernels) (kernels_by items c.add_state.new.self) (list_entries c.loop-symbol.lists) (list_entries c.add_edge.new.lists) c.in_ok-target.target.0 c.loop-symbol.invariant.edges
          (numbered_by items kernels c.in_ok-target.target.0 c.in-Some.items numbered) (either_by items c.loop-symbol.kernels.list kernels c.in-Some.items either) state.handed
          (differ_by items c.requires.numbers.1.items.ascend kernels all state.differ) (subst (λ (y : Symbol). IsEntryAdded y c.in_ok-target.target (list_entries c.loop-symbol.lists) (list_entries c.add_edge.new.lists)) symbol c.in_ok-add_edge.ensures));
      known = all;
      listed = rw c.in_ok-push.ensures.items (ListedBy-more n.symbols.items c.requires.numbers.1.differ c.in-Some.symbol c.in_ok-target.target.0 x (at ∙ ap Some (sym (symbol_is n.symbols.items c.in-Some.symbol c.index.result.now at))) c.loop-symbol.list.items (list_entries c.loop-symbol.lists) (list_entries c.add_edge.new.lists) c.loop-symbol.invariant.listed
          (subst (λ (y : Symbol). IsEntryAdded y c.in_ok-target.target (list_entries c.loop-symbol.lists) (list_entries c.add_edge.new.lists)) symbol c.in_ok-add_edge.ensures));
      keys = ap (λ (es : List (ℕ × ℕ)). keys_of es) c.in_ok-push.ensures.items ∙ map-append (λ (e : ℕ × ℕ). e.0) c.loop-symbol.list.items ((c.in-Some.symbol, c.in_ok-target.target.0) ∷ []) ∙ ap (λ (ks : List ℕ). ks ++ c.in-Some.symbol ∷ []) c.loop-symbol.invariant.keys ∙ sym (map-append (λ (e : ℕ × List (Numbered g.row.L.Denot)). e.0) first (group ∷ []));
      left = split;
    }

pub returns-clause-known : goal.returns-clause-known
returns-clause-known g c = on_ok c.edge_maps.result c.loop-symbol.invariant.known

all_yielded : {X : Type 0} (yielded rest all : List X) → length rest ≡ 0 → yielded ++ rest ≡ all → yielded ≡ all
all_yielded {X} yielded rest all none left = sym (append-nil yielded) ∙ ap (λ (t : List X). yielded ++ t) (sym (nil_from_length rest none)) ∙ left

pub returns-clause-edges : goal.returns-clause-edges
returns-clause-edges g c =
    let n = c.args.numbers.now in
    let first : NumberedGroups g.row.L.Denot = c.loop-symbol.yielded in
    let all = all_yielded first c.loop-symbol.symbol-iterator.rest.items c.args.moves.items (let k = c.loop-symbol.symbol-iterator.rest.ok in let none = c.in-None.ensures.steps.0 in omega arith) c.loop-symbol.invariant.left in
    IfOk-weaker c.edge_maps.result _ _ (λ edges made. Edges-all (groups_by n c.args.moves.items) (groups_by n first) (kernels_by n.items.items c.args.kernels.now) (kernels_by n.items.items c.loop-symbol.kernels) c.loop-symbol.lists edges (ap (groups_by n) all) c.loop-symbol.invariant.edges made) c.edge_maps.ensures

pub returns-clause-reached : goal.returns-clause-reached
returns-clause-reached g c = on_ok c.edge_maps.result c.loop-symbol.invariant.edges.reached

pub returns-clause-by_number : goal.returns-clause-by_number
returns-clause-by_number g c =
    let n = c.args.numbers.now in
    let all = all_yielded c.loop-symbol.yielded c.loop-symbol.symbol-iterator.rest.items c.args.moves.items (let k = c.loop-symbol.symbol-iterator.rest.ok in let none = c.in-None.ensures.steps.0 in omega arith) c.loop-symbol.invariant.left in
    let ascend = Keys-ascend c.loop-symbol.list.items c.args.moves.items (Keys-of c.loop-symbol.list.items c.args.moves.items (c.loop-symbol.invariant.keys ∙ ap keys_of all)) c.requires.rising in
    IfOk-weaker c.edge_maps.result _ _ (λ edges made. EdgesBy-all n.symbols.items c.loop-symbol.list.items c.loop-symbol.lists edges c.loop-symbol.invariant.listed made ascend) c.edge_maps.ensures
