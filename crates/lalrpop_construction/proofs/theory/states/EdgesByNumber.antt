-- The transitions of a state by the numbers of their symbols, and the order of these numbers.
use Rattle.std.proofs.Common.{◌≡◌, ◌∙◌, ◌<◌, ℕ, inl, inr, length, List, [], ◌∷◌, ◌++◌, sym, ap, subst, Some, map, option_map, append_assoc, append-nil, refl, arith}
use Rattle.std.specs.Prelude.{Contains, slice_get}
use Rattle.std.specs.Map.{keys_of}
use Rattle.std.proofs.lemmas.List.Elements.{Contains-append_left, Contains-push, Contains-push_cases}
use Rattle.std.proofs.lemmas.Option.{slice_get-map, slice_get_within}
use Rattle.lalrpop_base.specs.Words.{AllDiffer, NumbersAscend, AreEdgesListed, StateEdge, Entries, HasEntry, IsEntryAdded, edge_entries, goto_edge, list_entries, shift_edge}
use Rattle.lalrpop_grammar.specs.declared.repr.Symbol.TheVariants.{Nonterminal, Terminal}
use Rattle.lalrpop_collections.proofs.theory.lists.Members.{Contains-none, place}
use Rattle.lalrpop_collections.proofs.theory.lists.Places.{one_place, places_apart, push_cases, same_some}
use Rattle.lalrpop_collections.proofs.theory.lists.Lists.{some_of_map}
use Rattle.lalrpop_construction.proofs.Types.{NonterminalString, StateIndex, Symbol, TerminalString}
use Rattle.lalrpop_construction.proofs.theory.construction.Moves.{edge_of, entry_from, entry_kept, entry_there, listed_of, no_entry}
use Rattle.lalrpop_construction.specs.states.NumberedStates.{AddsEdges, AreEdgesBy, AreListedBy, EdgesAscend, HasKeys, IsKeyAt, with_edge, with_edges}
use Rattle.lalrpop_states.specs.declared.lr1_core.transitions.TransitionLists.{TransitionLists}
use Rattle.lalrpop_states.specs.declared.lr1_core.transitions.Transitions.{Transitions}

-- ---- the transitions
pub ListedBy-none : (symbols : List Symbol) (list : List (ℕ × ℕ)) (entries : Entries) → list ≡ [] → entries.shifts ≡ [] → entries.gotos ≡ [] → AreListedBy symbols list entries
ListedBy-none symbols list entries none s t = record {
  named = λ x m c. absurd (Contains-none (x, m) (subst (λ (es : List (ℕ × ℕ)). Contains es (x, m)) none c));
  there = λ x m y at c. absurd (Contains-none (x, m) (subst (λ (es : List (ℕ × ℕ)). Contains es (x, m)) none c));
  back = λ x y target at h. absurd (no_entry entries s t y target h);
}

-- the list has the transitions after one more transition
pub ListedBy-more : (symbols : List Symbol) → AllDiffer symbols → (x m : ℕ) (s : Symbol) → slice_get symbols x ≡ Some s → (list : List (ℕ × ℕ)) (old new : Entries) → AreListedBy symbols list old → IsEntryAdded s (record { 0 = m }) old new → AreListedBy symbols (list ++ (x, m) ∷ []) new
ListedBy-more symbols differ x m s at list old new before adds =
    let target : StateIndex = record { 0 = m } in
    record {
      named = λ y k c. elim (Contains-push_cases list (x, m) (y, k) c) [
        | inl was ↦ before.named y k was
        | inr same ↦ subst (λ (p : ℕ × ℕ). p.0 < length symbols) same (slice_get_within symbols x s at)
      ];
      there = λ y k t at_t c. elim (Contains-push_cases list (x, m) (y, k) c) [
        | inl was ↦ entry_kept s target old new adds t (record { 0 = k }) (before.there y k t at_t was)
        | inr same ↦
            let symbol : s ≡ t = same_some s t (sym at ∙ ap (λ (p : ℕ × ℕ). slice_get symbols p.0) same ∙ at_t) in
            subst (λ (n : ℕ). HasEntry new t (record { 0 = n })) (ap (λ (p : ℕ × ℕ). p.1) same) (subst (λ (u : Symbol). HasEntry new u target) symbol (entry_there s target old new adds))
      ];
      back = λ y t other at_t h. elim (entry_from s target old new adds t other h) [
        | inl had ↦ Contains-append_left list ((x, m) ∷ []) (y, other.0) (before.back y t other at_t had)
        | inr is ↦
            let place : x ≡ y = one_place symbols differ x y s at (at_t ∙ ap Some is.0) in
            let number : m ≡ other.0 = ap (λ (n : StateIndex). n.0) (sym is.1) in
            subst (λ (k : ℕ). Contains (list ++ (x, m) ∷ []) (y, k)) number (subst (λ (z : ℕ). Contains (list ++ (x, m) ∷ []) (z, m)) place (Contains-push list (x, m)))
      ];
    }

-- the last edge is added after the others of its kind
with_last : (entries : Entries) (done : List StateEdge) (s : Symbol) (target : StateIndex) → IsEntryAdded s target (with_edges entries done) (with_edges entries (done ++ (s, target) ∷ []))
with_last entries [] (Nonterminal a) target = (refl, refl)
with_last entries [] (Terminal t) target = (refl, refl)
with_last entries (e ∷ es) s target = with_last (with_edge entries e) es s target

-- the list has one edge more
pub Edges-more : (symbols : List Symbol) (old middle new : List (ℕ × ℕ)) (done : List StateEdge) (s : Symbol) (x m : ℕ) → slice_get symbols x ≡ Some s → new ≡ middle ++ (x, m) ∷ [] → AddsEdges symbols old middle done → AddsEdges symbols old new (done ++ (s, record { 0 = m }) ∷ [])
Edges-more symbols old middle new done s x m at push before differ entries was =
    let all : List StateEdge = done ++ (s, record { 0 = m }) ∷ [] in
    subst (λ (es : List (ℕ × ℕ)). AreListedBy symbols es (with_edges entries all)) (sym push) (ListedBy-more symbols differ x m s at middle (with_edges entries done) (with_edges entries all) (before differ entries was) (with_last entries done s (record { 0 = m })))

-- gotos and shifts, as edges, are added to the entries of their kind
pub with_gotos : (entries : Entries) (gotos : List (NonterminalString × StateIndex)) → with_edges entries (map goto_edge gotos) ≡ record { shifts = entries.shifts; gotos = entries.gotos ++ gotos }
with_gotos entries [] = ap (λ (gs : List (NonterminalString × StateIndex)). let all : Entries = record { shifts = entries.shifts; gotos = gs } in all) (sym (append-nil entries.gotos))
with_gotos entries (e ∷ es) = with_gotos (with_edge entries (goto_edge e)) es ∙ ap (λ (gs : List (NonterminalString × StateIndex)). let all : Entries = record { shifts = entries.shifts; gotos = gs } in all) (append_assoc entries.gotos (e ∷ []) es)

pub with_shifts : (entries : Entries) (shifts : List (TerminalString × StateIndex)) → with_edges entries (map shift_edge shifts) ≡ record { shifts = entries.shifts ++ shifts; gotos = entries.gotos }
with_shifts entries [] = ap (λ (ss : List (TerminalString × StateIndex)). let all : Entries = record { shifts = ss; gotos = entries.gotos } in all) (sym (append-nil entries.shifts))
with_shifts entries (e ∷ es) = with_shifts (with_edge entries (shift_edge e)) es ∙ ap (λ (ss : List (TerminalString × StateIndex)). let all : Entries = record { shifts = ss; gotos = entries.gotos } in all) (append_assoc entries.shifts (e ∷ []) es)

-- some of the entries were added, and the rest is left
pub record IsPartly {X : Type 0} (Adds : List X → Type 0) (rest all : List X) : Type 0 where
  pub done : List X
  pub whole : done ++ rest ≡ all
  pub adds : Adds done

pub Partly-more : {X : Type 0} (Adds More : List X → Type 0) (e : X) (before rest all : List X) → before ≡ e ∷ rest → IsPartly Adds before all → ((done : List X) → Adds done → More (done ++ e ∷ [])) → IsPartly More rest all
Partly-more {X} Adds More e before rest all next p step = record {
  done = p.done ++ e ∷ [];
  whole = append_assoc p.done (e ∷ []) rest ∙ ap (λ (es : List X). p.done ++ es) (sym next) ∙ p.whole;
  adds = step p.done p.adds;
}

pub Partly-all : {X : Type 0} (Adds : List X → Type 0) (rest all : List X) → rest ≡ [] → IsPartly Adds rest all → Adds all
Partly-all {X} Adds rest all none p = subst Adds (sym (append-nil p.done) ∙ ap (λ (es : List X). p.done ++ es) (sym none) ∙ p.whole) p.adds

-- ---- the order of the numbers
pub Keys-none : {V : Type 0} (list : List (ℕ × ℕ)) (others : List (ℕ × V)) → list ≡ [] → HasKeys list others
Keys-none list others none k e at = let there : slice_get [] k ≡ Some e = ap (λ (es : List (ℕ × ℕ)). slice_get es k) (sym none) ∙ at in cc

pub Keys-more : {V : Type 0} (list : List (ℕ × ℕ)) (others : List (ℕ × V)) (x m : ℕ) → IsKeyAt others (length list) x → HasKeys list others → HasKeys (list ++ (x, m) ∷ []) others
Keys-more list others x m here before k e at = elim (push_cases list (x, m) k e at) [
  | inl was ↦ before k e was
  | inr end ↦ subst (λ (n : ℕ). IsKeyAt others n e.0) (sym end.0) (subst (λ (y : ℕ). IsKeyAt others (length list) y) (ap (λ (p : ℕ × ℕ). p.0) end.1) here)
]

pub Keys-of : {V : Type 0} (list : List (ℕ × ℕ)) (others : List (ℕ × V)) → keys_of list ≡ keys_of others → HasKeys list others
Keys-of {V} list others same k e at = some_of_map (λ (g : ℕ × V). g.0) (slice_get others k) e.0 (sym (slice_get-map (λ (g : ℕ × V). g.0) others k) ∙ ap (λ (ks : List ℕ). slice_get ks k) (sym same) ∙ slice_get-map (λ (g : ℕ × ℕ). g.0) list k ∙ ap (option_map (λ (g : ℕ × ℕ). g.0)) at)

-- the numbers ascend if those of the other list do
pub Keys-ascend : {V : Type 0} (list : List (ℕ × ℕ)) (others : List (ℕ × V)) → HasKeys list others → NumbersAscend others → EdgesAscend list
Keys-ascend list others keys rise i j d e l at_i at_j =
    let a = keys i d at_i in
    let b = keys j e at_j in
    subst (λ (k : ℕ). k < e.0) a.2 (subst (λ (k : ℕ). (a.0).0 < k) b.2 (rise i j a.0 b.0 l a.1 b.1))

-- each number leads to one state if the numbers ascend
pub one_target : (list : List (ℕ × ℕ)) → EdgesAscend list → (x m k : ℕ) → Contains list (x, m) → Contains list (x, k) → m ≡ k
one_target list ascend x m k a b =
    let p = place list (x, m) a in
    let q = place list (x, k) b in
    elim (places_apart p.0 q.0) [
      | inl before ↦ absurd (let l = ascend p.0 q.0 (x, m) (x, k) before p.2 q.2 in omega arith)
      | inr other ↦ elim other [
        | inl behind ↦ absurd (let l = ascend q.0 p.0 (x, k) (x, m) behind q.2 p.2 in omega arith)
        | inr same ↦ ap (λ (e : ℕ × ℕ). e.1) (same_some (x, m) (x, k) (sym p.2 ∙ ap (slice_get list) same ∙ q.2))
      ]
    ]

-- the transitions of lists are those of the maps that are made from the lists
pub EdgesBy-all : (symbols : List Symbol) (list : List (ℕ × ℕ)) (lists : TransitionLists) (edges : Transitions) → AreListedBy symbols list (list_entries lists) → AreEdgesListed lists edges → EdgesAscend list → AreEdgesBy symbols list (edge_entries edges)
EdgesBy-all symbols list lists edges listed made ascend = record {
  listed = record {
    named = listed.named;
    there = λ x m s at c.
        let there = edge_of lists edges made s (record { 0 = m }) (listed.there x m s at c) in
        let number : (there.0).0 ≡ m = one_target list ascend x (there.0).0 m (listed.back x s there.0 at (listed_of lists edges made s there.0 there.1)) c in
        subst (λ (n : ℕ). HasEntry (edge_entries edges) s (record { 0 = n })) number there.1;
    back = λ x s target at h. listed.back x s target at (listed_of lists edges made s target h);
  };
  ascend = ascend;
}
