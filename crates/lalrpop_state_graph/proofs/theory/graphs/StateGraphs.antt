-- Adding edges to a graph, and iterators over edges.
use Rattle.std.proofs.Common.{◌≡◌, ℕ, zero, suc, ◌+◌, ◌<◌, ◌≤◌, inl, inr, Bool, true, false, List, [], ◌∷◌, ◌++◌, map, reverse, take, length, get_or, refl, slice_set, sym, ◌∙◌, ap, subst, arith, ⊎_elim, cond, append_assoc, append-nil}
use Rattle.std.specs.Prelude.{◌==◌, slice_get}
use Rattle.std.specs.declared.alloc.Global.{Global}
use Rattle.std.specs.declared.vec.Vec.{Vec}
use Rattle.std.specs.Cmp.{IsTotalOrder, nat_cmp_total}
use Rattle.std.proofs.lemmas.Bool.{cases_Bool, eqb-true, eqb-false}
use Rattle.std.proofs.lemmas.List.{map-append, reverse-append, length-take-le, take_more}
use Rattle.std.proofs.lemmas.List.Elements.{filter-append}
use Rattle.std.proofs.lemmas.Option.{slice_get_past}
use Rattle.lalrpop_base.specs.Words.{state_edges}
use Rattle.lalrpop_grammar.specs.declared.repr.Symbol.TheVariants.{Nonterminal, Terminal}
use Rattle.lalrpop_state_graph.proofs.Types.{NonterminalString, State, StateIndex, Symbol, TerminalString}
use Rattle.lalrpop_grammar.specs.contracts.repr.SymbolPartialEq.TheImpl as symbol_eq
use Rattle.lalrpop_grammar.specs.contracts.repr.SymbolEq.TheImpl.Laws as symbol_equality
use Rattle.lalrpop_grammar.specs.contracts.repr.exact.SymbolExact.TheImpl as symbol_exactly
use Rattle.lalrpop_state_graph.specs.Words.{Edge, edge, edge_from, edges, edges_of, goto_edges, shift_edges, edges_from, targets_from, origins, origin_of, list_at, listed, state_cmp, targets_of, origins_of}
use Rattle.lalrpop_state_graph.specs.Words.{with_symbol, AreSameLists, IsGrown, IsGraphOf, IsListedAt}
use Rattle.lalrpop_state_graph.specs.graphs.StateGraph.{edge_target}
use Rattle.lalrpop_state_graph.specs.declared.state_graph.StateGraph.{StateGraph}
use Rattle.lalrpop_states.proofs.theory.collapse.Merging.{set_here, set_elsewhere}
use Rattle.lalrpop_collections.proofs.theory.lists.Places.{slice_get_at}

pub state_total : IsTotalOrder state_cmp
state_total = record {
  congr = λ x y z h. nat_cmp_total.congr x.0 y.0 z.0 h;
  antisymm = λ x y. nat_cmp_total.antisymm x.0 y.0;
  trans = λ x y z h k. nat_cmp_total.trans x.0 y.0 z.0 h k;
}

-- ---- lists by number
-- an empty list after the others changes no values
same_behind : {X : Type 0} (lists : List (Vec X Global)) (none : Vec X Global) → none.items ≡ [] → (n : ℕ) → list_at (lists ++ none ∷ []) n ≡ list_at lists n
same_behind [] none e zero = e
same_behind [] none e (suc n) = refl
same_behind (list ∷ lists) none e zero = refl
same_behind (list ∷ lists) none e (suc n) = same_behind lists none e n

pub one_list_more : {X : Type 0} (lists new : List (Vec X Global)) (none : Vec X Global) → none.items ≡ [] → new ≡ lists ++ none ∷ [] → AreSameLists lists new
one_list_more {X} lists new none empty is n = ap (λ (xs : List (Vec X Global)). list_at xs n) is ∙ same_behind lists none empty n

pub list_there : {X : Type 0} (lists : List (Vec X Global)) (number : ℕ) (list : Vec X Global) → number < length lists → list ≡ get_or lists number list → list_at lists number ≡ list.items
list_there lists number list within is = ap listed (slice_get_at lists number list within is)

pub list_past : {X : Type 0} (lists : List (Vec X Global)) (number : ℕ) → length lists ≤ number → list_at lists number ≡ []
list_past lists number past = ap listed (slice_get_past lists number past)

-- a list is put in the place of another
pub list_changed : {X : Type 0} (lists : List (Vec X Global)) (number : ℕ) (after : Vec X Global) → number < length lists → (n : ℕ) → list_at (slice_set lists number after) n ≡ cond (number == n) after.items (list_at lists n)
list_changed {X} lists number after within n = elim (cases_Bool (number == n)) [
  | inl here ↦
      ap listed (ap (slice_get (slice_set lists number after)) (sym (eqb-true number n here)) ∙ set_here lists number after within)
      ∙ ap (λ b. cond b after.items (list_at lists n)) (sym here)
  | inr other ↦
      ap listed (set_elsewhere lists number n after (λ e. eqb-false number n other (sym e)))
      ∙ ap (λ b. cond b after.items (list_at lists n)) (sym other)
]

-- a value is added after the others of a list
pub listed_more : {X : Type 0} (old grown : List (Vec X Global)) (number : ℕ) (before after : Vec X Global) (x : X) → AreSameLists old grown → number < length grown → before ≡ get_or grown number before → after.items ≡ before.items ++ x ∷ [] → IsListedAt number x old (slice_set grown number after)
listed_more {X} old grown number before after x same within is more n = list_changed grown number after within n ∙ elim (cases_Bool (number == n)) [
  | inl here ↦
      ap (λ b. cond b after.items (list_at grown n)) here ∙ more
      ∙ ap (λ xs. xs ++ x ∷ []) (sym (list_there grown number before within is) ∙ ap (list_at grown) (eqb-true number n here) ∙ same n)
      ∙ ap (λ b. list_at old n ++ cond b (x ∷ []) []) (sym here)
  | inr other ↦
      ap (λ b. cond b after.items (list_at grown n)) other ∙ same n ∙ sym (append-nil (list_at old n))
      ∙ ap (λ b. list_at old n ++ cond b (x ∷ []) []) (sym other)
]

pub map_cond : {X Y : Type 0} (f : X → Y) (b : Bool) (x : X) → cond b (f x ∷ []) [] ≡ map f (cond b (x ∷ []) [])
map_cond f true x = refl
map_cond f false x = refl

-- ---- edges in turn
-- the edges of a state are its shifts and then its gotos
pub edges_listed : (n : StateIndex) (shifts : List (TerminalString × StateIndex)) (gotos : List (NonterminalString × StateIndex)) → map (edge_from n) (state_edges shifts gotos) ≡ shift_edges n shifts ++ goto_edges n gotos
edges_listed n [] [] = refl
edges_listed n [] (e ∷ gotos) = ap (λ es. edge n (Nonterminal e.0) e.1 ∷ es) (edges_listed n [] gotos)
edges_listed n (e ∷ shifts) gotos = ap (λ es. edge n (Terminal e.0) e.1 ∷ es) (edges_listed n shifts gotos)

pub targets_append : (n : StateIndex) (es fs : List Edge) → targets_from n (es ++ fs) ≡ targets_from n es ++ targets_from n fs
targets_append n es fs = ap (map edge_target) (filter-append (λ (e : Edge). e.source.0 == n.0) es fs) ∙ map-append edge_target _ _

pub origins_append : (n : StateIndex) (es fs : List Edge) → origins n (es ++ fs) ≡ origins n es ++ origins n fs
origins_append n es fs = ap (map origin_of) (filter-append (λ (e : Edge). e.target.0 == n.0) es fs) ∙ map-append origin_of _ _

pub grown_none : (graph : StateGraph) → IsGrown [] graph graph
grown_none graph = record { targets = λ n. sym (append-nil _); sources = λ n. sym (append-nil _) }

pub grown_on : (es fs : List Edge) (a b c : StateGraph) → IsGrown es a b → IsGrown fs b c → IsGrown (es ++ fs) a c
grown_on es fs a b c g h = record {
  targets = λ n. h.targets n ∙ ap (λ xs. xs ++ targets_from n fs) (g.targets n) ∙ append_assoc _ (targets_from n es) (targets_from n fs) ∙ ap (λ xs. targets_of a n ++ xs) (sym (targets_append n es fs));
  sources = λ n. h.sources n ∙ ap (λ xs. xs ++ origins n fs) (g.sources n) ∙ append_assoc _ (origins n es) (origins n fs) ∙ ap (λ xs. origins_of a n ++ xs) (sym (origins_append n es fs));
}

pub empty_graph : (graph : StateGraph) → graph.successors.items ≡ [] → graph.predecessors.items ≡ [] → IsGraphOf [] graph
empty_graph graph s p = record { targets = λ n. ap (λ (lists : List (Vec StateIndex Global)). list_at lists n.0) s; sources = λ n. ap (λ (lists : List (Vec (Symbol × StateIndex) Global)). list_at lists n.0) p }

pub graph_on : (es fs : List Edge) (a b : StateGraph) → IsGraphOf es a → IsGrown fs a b → IsGraphOf (es ++ fs) b
graph_on es fs a b g h = record {
  targets = λ n. h.targets n ∙ ap (λ xs. xs ++ targets_from n fs) (g.targets n) ∙ sym (targets_append n es fs);
  sources = λ n. h.sources n ∙ ap (λ xs. xs ++ origins n fs) (g.sources n) ∙ sym (origins_append n es fs);
}

-- some edges were added, and with those that are left they are all edges
pub record IsAdding (left all : List Edge) (old new : StateGraph) : Type 0 where
  pub done : List Edge
  pub grown : IsGrown done old new
  pub whole : done ++ left ≡ all

pub adding_start : (all : List Edge) (graph : StateGraph) → IsAdding all all graph graph
adding_start all graph = record { done = []; grown = grown_none graph; whole = refl }

pub adding_more : (e f : Edge) (before left all : List Edge) (old new next : StateGraph) → before ≡ e ∷ left → f ≡ e → IsAdding before all old new → IsGrown (f ∷ []) new next → IsAdding left all old next
adding_more e f before left all old new next first same a g = record {
  done = a.done ++ f ∷ [];
  grown = grown_on a.done (f ∷ []) old new next a.grown g;
  whole = append_assoc a.done (f ∷ []) left ∙ ap (λ h. a.done ++ h ∷ left) same ∙ ap (λ es. a.done ++ es) (sym first) ∙ a.whole;
}

pub adding_end : (left all : List Edge) (old new : StateGraph) → left ≡ [] → IsAdding left all old new → IsGrown all old new
adding_end left all old new none a = let P : List Edge → Type 0 = λ es. IsGrown es old new in subst P (sym (append-nil a.done) ∙ ap (λ es. a.done ++ es) (sym none) ∙ a.whole) a.grown

-- ---- the last edge comes first
pub reverse_last : {X : Type 0} (xs rest : List X) (x : X) → xs ≡ rest ++ x ∷ [] → reverse xs ≡ x ∷ reverse rest
reverse_last xs rest x e = ap reverse e ∙ reverse-append rest (x ∷ [])

with_symbol_last : (x : Symbol) (rest : List (Symbol × StateIndex)) (e : Symbol × StateIndex) (b : Bool) → symbol_eq.ghosts.eq e.0 x ≡ b → with_symbol x (rest ++ e ∷ []) ≡ with_symbol x rest ++ cond b (e.1 ∷ []) []
with_symbol_last x rest e b is =
    ap (map (λ (p : Symbol × StateIndex). p.1)) (filter-append (λ (p : Symbol × StateIndex). symbol_eq.ghosts.eq p.0 x) rest (e ∷ [])) ∙ map-append (λ (p : Symbol × StateIndex). p.1) _ _
    ∙ ap (λ t. with_symbol x rest ++ map (λ (p : Symbol × StateIndex). p.1) (cond t (e ∷ []) [])) is
    ∙ ap (λ xs. with_symbol x rest ++ xs) (sym (map_cond (λ (p : Symbol × StateIndex). p.1) b e))

pub same_symbol : (x : Symbol) (all rest : List (Symbol × StateIndex)) (e : Symbol × StateIndex) → all ≡ rest ++ e ∷ [] → e.0 ≡ x → reverse (with_symbol x all) ≡ e.1 ∷ reverse (with_symbol x rest)
same_symbol x all rest e is same = ap (λ es. reverse (with_symbol x es)) is ∙ reverse_last _ (with_symbol x rest) e.1 (with_symbol_last x rest e true (ap (λ y. symbol_eq.ghosts.eq y x) same ∙ symbol_equality.laws-law.refl x))

pub other_symbol : (x : Symbol) (all rest : List (Symbol × StateIndex)) (e : Symbol × StateIndex) → all ≡ rest ++ e ∷ [] → (e.0 ≡ x → ⊥) → reverse (with_symbol x all) ≡ reverse (with_symbol x rest)
other_symbol x all rest e is other =
    ap (λ es. reverse (with_symbol x es)) is ∙ ap reverse (
    ⊎_elim (λ yes. absurd (other (symbol_exactly.Laws.exact-law e.0 x yes))) (λ no. with_symbol_last x rest e false no ∙ append-nil (with_symbol x rest)) (cases_Bool (symbol_eq.ghosts.eq e.0 x))
    )

-- ---- the edges of one more state
edges_push : {L : Type 0} (n : ℕ) (states : List (State L)) (state : State L) → edges_from n (states ++ state ∷ []) ≡ edges_from n states ++ edges_of (record { 0 = n + length states }) state
edges_push n [] state = append-nil (edges_of (record { 0 = n }) state) ∙ ap (λ k. edges_of (record { 0 = k }) state) (omega arith)
edges_push n (s ∷ states) state =
    ap (λ es. edges_of (record { 0 = n }) s ++ es) (edges_push (suc n) states state ∙ ap (λ k. edges_from (suc n) states ++ edges_of (record { 0 = k }) state) (omega arith))
    ∙ sym (append_assoc (edges_of (record { 0 = n }) s) (edges_from (suc n) states) _)

pub edges_more : {L : Type 0} (states : List (State L)) (k : ℕ) (state : State L) → k < length states → state ≡ get_or states k state → edges (take (k + 1) states) ≡ edges (take k states) ++ edges_of (record { 0 = k }) state
edges_more states k state l is =
    ap edges (take_more states k state l ∙ ap (λ s. take k states ++ s ∷ []) (sym is)) ∙ edges_push 0 (take k states) state
    ∙ ap (λ n. edges (take k states) ++ edges_of (record { 0 = n }) state) (let e = length-take-le k states (omega (arith, l)) in omega (arith, e))
