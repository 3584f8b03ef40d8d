-- Walks over the productions of a nonterminal: one production more, and all productions of a node.
use Rattle.std.proofs.Common.{◌≡◌, ◌∙◌, ◌↔◌, ◌⊎◌, inl, inr, ℕ, ◌+◌, ◌<◌, ◌≤◌, List, [], ◌∷◌, ◌++◌, length, length-append, refl, sym, ap, subst, arith, option_map}
use Rattle.std.specs.Prelude.{slice_get, Option, Some, None, Contains}
use Rattle.std.proofs.lemmas.Bool.{cases_lt}
use Rattle.std.proofs.lemmas.Option.{slice_get-map}
use Rattle.std.specs.declared.alloc.Global.{Global}
use Rattle.std.specs.declared.vec.Vec.{Vec}
use Rattle.std.proofs.lemmas.List.Elements.{Contains-append_left, Contains-push_cases, Contains-push}
use Rattle.lalrpop_base.specs.Words.{edge_ends, AddsThose, with_dot, AreExpansions}
use Rattle.lalrpop_follow_sets.specs.Words.{IsFollowNode}
use Rattle.lalrpop_collections.specs.lists.Spreading.{listed_ends}
use Rattle.lalrpop_follow_sets.proofs.Types.{NonterminalString, Production}
use Rattle.lalrpop_grammar.specs.declared.repr.Symbol.TheVariants.{Nonterminal}
use Rattle.lalrpop_grammar.proofs.theory.grammars.SymbolLists.{same_nonterminal}
use Rattle.lalrpop_follow_sets.specs.follow_sets.FollowNodes.{IsNodeName, IsPass, name_at, nodes_of}
use Rattle.lalrpop_follow_sets.specs.follow_sets.FollowWalks.{AreEmptyLists, AreIncludes, AreLookbacks, EndsAt, GoesThrough, IsNumberAtStart, NotesEnds, SomeExpansion, SomeOfNode, entries_at}
use Rattle.lalrpop_follow_sets.specs.declared.follow_sets.pass.Pass.{Pass}
use Rattle.lalrpop_numbers.proofs.theory.numbers.DottedProductions.{those_both}
use Rattle.lalrpop_follow_sets.proofs.theory.follow_sets.FollowNodes.{node_within, nodes_counted, pair_of_node}
use Rattle.lalrpop_follow_sets.proofs.theory.follow_sets.FollowWalks.{one_front}
use Rattle.lalrpop_collections.proofs.theory.lists.Members.{Contains-none, place}
use Rattle.lalrpop_follow_sets.proofs.theory.follow_sets.Lookbacks.{note_both}
use Rattle.lalrpop_collections.proofs.theory.lists.Places.{contains_at, push_cases, same_some, slice_get-longer, slice_get-push_at}

-- the finished items of a state, with nodes
abbrev Entries : Type 0
Entries = Vec (ℕ × ℕ) Global

-- ---- productions with the dot at the start
module _ (pass : Pass) (Such : Production → Type 0) where
  -- one production more
  pub front_more : (done : List ℕ) (k : ℕ) (q : Production) → IsNumberAtStart pass k q → SomeExpansion pass (done ++ k ∷ []) Such ↔ (SomeExpansion pass done Such ⊎ Such q)
  front_more done k q expansion = (
    λ f. elim (Contains-push_cases done k f.0 f.2) [
      | inl was ↦ inl (f.0, f.1, was, f.3, f.4)
      | inr e ↦ inr (subst Such (one_front pass k f.1 q (ap (slice_get pass.numbers.now.items.items) e ∙ f.3) expansion) f.4)
    ],
    λ e. elim e [
      | inl f ↦ (f.0, f.1, Contains-append_left done (k ∷ []) f.0 f.2, f.3, f.4)
      | inr such ↦ (k, q, Contains-push done k, expansion, such)
    ],
  )

-- walks over productions from a state: the nodes through which they went, and the states in which
-- they ended
pub record WalksOver (pass : Pass) (node from : ℕ) (expansions old new : List ℕ) (before after : List Entries) : Type 0 where
  pub through : AddsThose (λ n. SomeExpansion pass expansions (λ q. GoesThrough pass from q n)) old new
  pub noted : NotesEnds node (λ s k. SomeExpansion pass expansions (λ q. EndsAt pass from q s k)) before after

-- one walk more
pub walks_more : (pass : Pass) (node from : ℕ) (done : List ℕ) (expansion : ℕ) (q : Production) (old middle new : List ℕ) (before between after : List Entries) → IsNumberAtStart pass expansion q → WalksOver pass node from done old middle before between →
    AddsThose (GoesThrough pass from q) middle new → NotesEnds node (EndsAt pass from q) between after → WalksOver pass node from (done ++ expansion ∷ []) old new before after
walks_more pass node from done expansion q old middle new before between after is walks through noted = record {
  through = those_both (λ n. SomeExpansion pass done (λ p. GoesThrough pass from p n)) (GoesThrough pass from q) (λ n. SomeExpansion pass (done ++ expansion ∷ []) (λ p. GoesThrough pass from p n)) old middle new
      (λ n. front_more pass (λ p. GoesThrough pass from p n) done expansion q is) walks.through through;
  noted = note_both node (λ s k. SomeExpansion pass done (λ p. EndsAt pass from p s k)) (EndsAt pass from q) (λ s k. SomeExpansion pass (done ++ expansion ∷ []) (λ p. EndsAt pass from p s k)) before between after
      (λ s k. front_more pass (λ p. EndsAt pass from p s k) done expansion q is) walks.noted noted;
}

-- the walks from the first few nodes
pub record WalksFrom (pass : Pass) (count : ℕ) (edges : List (Vec ℕ Global)) (lookback : List Entries) : Type 0 where
  pub counted : length edges ≡ count
  pub ends : (m n : ℕ) → Contains (edge_ends edges m) n ↔ ((m < count) × SomeOfNode pass m (λ r q. GoesThrough pass r q n))
  pub listed : length lookback ≡ length pass.states.now
  pub entries : (s k m : ℕ) → Contains (entries_at lookback s) (k, m) ↔ ((m < count) × SomeOfNode pass m (λ r q. EndsAt pass r q s k))

module _ (pass : Pass) (ok : IsPass pass) where
  -- ---- the productions of a node
  -- each number of an expansion is that of a production with the dot at the start
  pub expansion_front : (a : NonterminalString) (expansions : List ℕ) → AreExpansions pass.numbers.now.items.items (Nonterminal a) expansions → (k : ℕ) → Contains expansions k → (q : Production) × IsNumberAtStart pass k q × (q.nonterminal ≡ a)
  expansion_front a expansions exact k c =
      let i = (exact k).0 c in
      ((i.0).production, i.1 ∙ ap (λ (dot : ℕ). Some (with_dot (i.0).production dot)) i.2, same_nonterminal (sym i.3))

  -- some production of the node's nonterminal is such exactly if one of the numbers is that of such
  -- a production
  pub front_node : (m r : ℕ) (a : NonterminalString) (expansions : List ℕ) → IsFollowNode (nodes_of pass) m r a → AreExpansions pass.numbers.now.items.items (Nonterminal a) expansions → (Such : ℕ → Production → Type 0) → SomeExpansion pass expansions (Such r) ↔ SomeOfNode pass m Such
  front_node m r a expansions node exact Such = (
    λ f.
        let q = expansion_front a expansions exact f.0 f.2 in
        let same : q.0 ≡ f.1 = one_front pass f.0 q.0 f.1 q.1 f.3 in
        let named : (f.1).nonterminal ≡ a = ap (λ (p : Production). p.nonterminal) (sym same) ∙ q.2 in
        (r, f.1, node ∙ ap (λ (b : NonterminalString). Some (r, b)) (sym named), (ok.numbers.items.each (with_dot f.1 0) (contains_at pass.numbers.now.items.items (with_dot f.1 0) f.0 f.3)).0, f.4),
    λ o.
        let none : 0 ≤ length (o.1).symbols = omega arith in
        let both : (o.0, (o.1).nonterminal) ≡ (r, a) = same_some (o.0, (o.1).nonterminal) (r, a) (sym o.2 ∙ node) in
        let state : o.0 ≡ r = ap (λ (p : ℕ × NonterminalString). p.0) both in
        let named : (o.1).nonterminal ≡ a = ap (λ (p : ℕ × NonterminalString). p.1) both in
        let k = place pass.numbers.now.items.items (with_dot o.1 0) (ok.numbers.items.all o.1 0 o.3 none) in
        (k.0, o.1, (exact k.0).1 (with_dot o.1 0, k.2, refl, ap Nonterminal (sym named)), k.2, subst (λ (s : ℕ). Such s o.1) state o.4),
  )

  -- a pair is that of a node
  pub pair_named : (n r x : ℕ) → slice_get pass.nodes.now.pairs.items n ≡ Some (r, x) → (a : NonterminalString) × IsNodeName pass x a × IsFollowNode (nodes_of pass) n r a
  pair_named n r x at =
      let named : (a : NonterminalString) × IsFollowNode (nodes_of pass) n r a = (name_at pass.numbers.now.symbols.items pass.name.now x, slice_get-map (λ (p : ℕ × ℕ). (p.0, name_at pass.numbers.now.symbols.items pass.name.now p.1)) pass.nodes.now.pairs.items n ∙ ap (option_map (λ (p : ℕ × ℕ). (p.0, name_at pass.numbers.now.symbols.items pass.name.now p.1))) at) in
      let p = pair_of_node pass ok n r named.0 named.1 in
      let same : p.0 ≡ x = ap (λ (e : ℕ × ℕ). e.1) (same_some (r, p.0) (r, x) (sym p.1 ∙ at)) in
      (named.0, subst (λ (y : ℕ). IsNodeName pass y named.0) same p.2, named.1)

  -- ---- all nodes
  -- before the first node there are no walks
  pub from_none : (lookback : List Entries) → AreEmptyLists (length pass.states.now) lookback → WalksFrom pass 0 [] lookback
  from_none lookback empty = record {
    counted = refl;
    ends = λ m n. (λ c. absurd (Contains-none n c), λ e. absurd (let l = e.0 in omega arith));
    listed = empty.counted;
    entries = λ s k m. (λ c. absurd (empty.empty s (k, m) c), λ e. absurd (let l = e.0 in omega arith));
  }

  -- one node more
  pub from_more : (node r : ℕ) (a : NonterminalString) (expansions : List ℕ) (edges : List (Vec ℕ Global)) (ends : Vec ℕ Global) (before after : List Entries) → IsFollowNode (nodes_of pass) node r a → AreExpansions pass.numbers.now.items.items (Nonterminal a) expansions →
      WalksFrom pass node edges before → WalksOver pass node r expansions [] ends.items before after → WalksFrom pass (node + 1) (edges ++ ends ∷ []) after
  from_more node r a expansions edges ends before after is exact walks over = record {
    counted = length-append edges (ends ∷ []) ∙ ap (λ n. n + 1) walks.counted;
    ends = λ m n. (
      λ c. last m n (slice_get (edges ++ ends ∷ []) m) refl c,
      λ e. elim (cases_lt m node) [
        | inl less ↦
            let c = (walks.ends m n).1 (less, e.1) in
            kept m n (slice_get edges m) refl c
        | inr more ↦
            let same : m ≡ node = let l = e.0 in omega arith in
            let here : SomeOfNode pass node (λ s q. GoesThrough pass s q n) = subst (λ (j : ℕ). SomeOfNode pass j (λ s q. GoesThrough pass s q n)) same e.1 in
            let c : Contains ends.items n = (over.through n).1 (inr ((front_node node r a expansions is exact (λ s q. GoesThrough pass s q n)).1 here)) in
            let at : edge_ends (edges ++ ends ∷ []) m ≡ ends.items = ap listed_ends (ap (slice_get (edges ++ ends ∷ [])) (same ∙ sym walks.counted) ∙ slice_get-push_at edges ends) in
            subst (λ (l : List ℕ). Contains l n) (sym at) c
      ],
    );
    listed = over.noted.counted ∙ walks.listed;
    entries = λ s k m. (
      λ c. elim ((over.noted.entries s k m).0 c) [
        | inl was ↦ let e = (walks.entries s k m).0 was in (let l = e.0 in omega arith, e.1)
        | inr new ↦ (let l = new.0 in omega arith, subst (λ (j : ℕ). SomeOfNode pass j (λ t q. EndsAt pass t q s k)) (sym new.0) ((front_node node r a expansions is exact (λ t q. EndsAt pass t q s k)).0 new.1))
      ],
      λ e. elim (cases_lt m node) [
        | inl less ↦ (over.noted.entries s k m).1 (inl ((walks.entries s k m).1 (less, e.1)))
        | inr more ↦
            let same : m ≡ node = let l = e.0 in omega arith in
            (over.noted.entries s k m).1 (inr (same, (front_node node r a expansions is exact (λ t q. EndsAt pass t q s k)).1 (subst (λ (j : ℕ). SomeOfNode pass j (λ t q. EndsAt pass t q s k)) same e.1)))
      ],
    );
  }
    where
      last : (m n : ℕ) (o : Option (Vec ℕ Global)) → slice_get (edges ++ ends ∷ []) m ≡ o → Contains (listed_ends o) n → (m < node + 1) × SomeOfNode pass m (λ s q. GoesThrough pass s q n)
      last m n None at c = absurd (Contains-none n c)
      last m n (Some v) at c = elim (push_cases edges ends m v at) [
        | inl was ↦ let e = (walks.ends m n).0 (subst (λ (o : Option (Vec ℕ Global)). Contains (listed_ends o) n) (sym was) c) in (let l = e.0 in omega arith, e.1)
        | inr end ↦
            let same : m ≡ node = end.0 ∙ walks.counted in
            let here : Contains ends.items n = subst (λ (w : Vec ℕ Global). Contains w.items n) (sym end.1) c in
            elim ((over.through n).0 here) [
              | inl none ↦ absurd (Contains-none n none)
              | inr f ↦ (omega arith, subst (λ (j : ℕ). SomeOfNode pass j (λ s q. GoesThrough pass s q n)) (sym same) ((front_node node r a expansions is exact (λ s q. GoesThrough pass s q n)).0 f))
            ]
      ]

      kept : (m n : ℕ) (o : Option (Vec ℕ Global)) → slice_get edges m ≡ o → Contains (listed_ends o) n → Contains (edge_ends (edges ++ ends ∷ []) m) n
      kept m n None at c = absurd (Contains-none n c)
      kept m n (Some v) at c = subst (λ (o : Option (Vec ℕ Global)). Contains (listed_ends o) n) (sym (slice_get-longer edges (ends ∷ []) m v at)) c

  -- the walks from all nodes give the edges
  pub all_includes : (edges : List (Vec ℕ Global)) (lookback : List Entries) → WalksFrom pass (length pass.nodes.now.pairs.items) edges lookback → AreIncludes pass edges
  all_includes edges lookback walks = record {
    counted = walks.counted ∙ sym (nodes_counted pass ok);
    ends = λ m n. (λ c. ((walks.ends m n).0 c).1, λ o. (walks.ends m n).1 (node_within pass ok m o.0 (o.1).nonterminal o.2, o));
  }

  -- the walks from all nodes end at the entries of the lists
  pub all_lookbacks : (edges : List (Vec ℕ Global)) (lookback : List Entries) → WalksFrom pass (length pass.nodes.now.pairs.items) edges lookback → AreLookbacks pass lookback
  all_lookbacks edges lookback walks = record {
    counted = walks.listed;
    entries = λ s k m. (λ c. ((walks.entries s k m).0 c).1, λ o. (walks.entries s k m).1 (node_within pass ok m o.0 (o.1).nonterminal o.2, o));
  }
