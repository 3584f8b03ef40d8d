-- The origins of edges that are moved to copies one after the other.
use Rattle.std.proofs.Common.{◌≡◌, ℕ, ◌<◌, ◌≤◌, inl, inr, Bool, true, false, not, List, [], ◌∷◌, ◌++◌, map, filter, length, get_or, refl, slice_set, sym, ◌∙◌, ap, cond, append_assoc, append-nil, IsTrue}
use Rattle.std.specs.Prelude.{◌==◌, ◌↔◌, ◌&&◌, Contains}
use Rattle.std.specs.declared.alloc.Global.{Global}
use Rattle.std.specs.declared.vec.Vec.{Vec}
use Rattle.std.proofs.lemmas.Bool.{cases_Bool, cases_eq, eq-eqb, eqb-true, eqb-false, ne_eqb, true≢false}
use Rattle.std.proofs.lemmas.List.Elements.{Contains-append_cases, filter-append, Contains-push_cases}
use Rattle.lalrpop_grammar.specs.contracts.repr.SymbolPartialEq.TheImpl as symbol_eq
use Rattle.lalrpop_grammar.specs.contracts.repr.SymbolEq.TheImpl.Laws as symbol_equality
use Rattle.lalrpop_grammar.specs.contracts.repr.exact.SymbolExact.TheImpl as symbol_exactly
use Rattle.lalrpop_state_graph.proofs.Types.{StateIndex, Symbol}
use Rattle.lalrpop_collections.proofs.theory.lists.Lists.{contains_of_map}
use Rattle.lalrpop_base.specs.Words.{number_in}
use Rattle.lalrpop_state_graph.specs.Words.{Edge, edge, list_at, origin_of, origins}
use Rattle.lalrpop_state_graph.specs.graphs.GraphCopies.{Origin, retraced, is_other, without, origins_moved, origins_after_move, followed_all}
use Rattle.lalrpop_state_graph.specs.graphs.StateGraph.{IsChangedAt}
use Rattle.lalrpop_collections.proofs.theory.lists.Members.{contains_head, contains_tail}
use Rattle.lalrpop_state_graph.proofs.theory.graphs.StateGraphs.{list_changed, list_past, list_there, origins_append}

-- ---- a list that a function changes
pub changed_at : {X : Type 0} (f : List X → List X) (lists : List (Vec X Global)) (number : ℕ) (before after : Vec X Global) → number < length lists → before ≡ get_or lists number before → after.items ≡ f before.items → IsChangedAt number f lists (slice_set lists number after)
changed_at {X} f lists number before after within is changed n = list_changed lists number after within n ∙ elim (cases_Bool (number == n)) [
  | inl here ↦
      ap (λ b. cond b after.items (list_at lists n)) here ∙ changed
      ∙ ap f (sym (list_there lists number before within is) ∙ ap (list_at lists) (eqb-true number n here))
      ∙ ap (λ b. cond b (f (list_at lists n)) (list_at lists n)) (sym here)
  | inr other ↦ ap (λ b. cond b after.items (list_at lists n)) other ∙ ap (λ b. cond b (f (list_at lists n)) (list_at lists n)) (sym other)
]

pub changed_past : {X : Type 0} (f : List X → List X) (lists : List (Vec X Global)) (number : ℕ) → f [] ≡ [] → length lists ≤ number → IsChangedAt number f lists lists
changed_past {X} f lists number none past n = elim (cases_Bool (number == n)) [
  | inl here ↦
      let empty : list_at lists n ≡ [] = ap (list_at lists) (sym (eqb-true number n here)) ∙ list_past lists number past in
      empty ∙ sym none ∙ ap f (sym empty) ∙ ap (λ b. cond b (f (list_at lists n)) (list_at lists n)) (sym here)
  | inr other ↦ ap (λ b. cond b (f (list_at lists n)) (list_at lists n)) (sym other)
]

-- ---- whether an origin is another one
pub other_source : (x : Symbol) (source : StateIndex) (o : Origin) → ((o.1).0 ≡ source.0 → ⊥) → is_other x source o ≡ true
other_source x source o apart = ap (λ b. not (b && symbol_eq.ghosts.eq o.0 x)) (ne_eqb (o.1).0 source.0 apart)

other_by : (x : Symbol) (source : StateIndex) (o : Origin) (b : Bool) → (o.1).0 ≡ source.0 → symbol_eq.ghosts.eq o.0 x ≡ b → is_other x source o ≡ not b
other_by x source o b same is = ap (λ t. not (t && symbol_eq.ghosts.eq o.0 x)) (eq-eqb (o.1).0 source.0 same) ∙ ap not is

pub other_symbol : (x : Symbol) (source : StateIndex) (o : Origin) → (o.0 ≡ x → ⊥) → is_other x source o ≡ true
other_symbol x source o apart = elim (cases_eq (o.1).0 source.0) [
  | inl same ↦ elim (cases_Bool (symbol_eq.ghosts.eq o.0 x)) [ inl told ↦ absurd (apart (symbol_exactly.Laws.exact-law o.0 x told)) | inr untold ↦ other_by x source o false same untold ]
  | inr differs ↦ other_source x source o differs
]

pub not_other : (x : Symbol) (source : StateIndex) (o : Origin) → (o.1).0 ≡ source.0 → o.0 ≡ x → is_other x source o ≡ false
not_other x source o same is = other_by x source o true same (ap (λ y. symbol_eq.ghosts.eq y x) is ∙ symbol_equality.laws-law.refl x)

pub other_told : (x : Symbol) (source : StateIndex) (o : Origin) (r : Bool) → (o.1).0 ≡ source.0 → (IsTrue r ↔ (o.0 ≡ x)) → not r ≡ is_other x source o
other_told x source o true same told = sym (not_other x source o same (told.0 refl))
other_told x source o false same told = sym (other_symbol x source o (λ is. true≢false (sym (told.1 is))))

-- ---- the origins of edges in turn
-- a list with the origin of an edge, if the edge leads to the state, and otherwise an empty list
abbrev pub its : ℕ → Edge → List Origin
its n e = cond (e.target.0 == n) (origin_of e ∷ []) []

origins_cons : (n : StateIndex) (e : Edge) (es : List Edge) → origins n (e ∷ es) ≡ its n.0 e ++ origins n es
origins_cons n e es = elim (cases_Bool (e.target.0 == n.0)) [
  | inl here ↦ ap (λ b. map origin_of (cond b (e ∷ filter (λ (d : Edge). d.target.0 == n.0) es) (filter (λ (d : Edge). d.target.0 == n.0) es))) here ∙ ap (λ b. cond b (origin_of e ∷ []) [] ++ origins n es) (sym here)
  | inr other ↦ ap (λ b. map origin_of (cond b (e ∷ filter (λ (d : Edge). d.target.0 == n.0) es) (filter (λ (d : Edge). d.target.0 == n.0) es))) other ∙ ap (λ b. cond b (origin_of e ∷ []) [] ++ origins n es) (sym other)
]

origins_midst : (n : StateIndex) (front : List Edge) (e : Edge) (back : List Edge) → origins n (front ++ e ∷ back) ≡ origins n front ++ (its n.0 e ++ origins n back)
origins_midst n front e back = origins_append n front (e ∷ back) ∙ ap (λ os. origins n front ++ os) (origins_cons n e back)

-- none of the edges has the origin of the given edge
abbrev pub HaveOthers : Edge → List Edge → Type 0
HaveOthers e es = (f : Edge) → Contains es f → f.source.0 ≡ e.source.0 → f.symbol ≡ e.symbol → ⊥

is_other_one : (e f : Edge) → (f.source.0 ≡ e.source.0 → f.symbol ≡ e.symbol → ⊥) → is_other e.symbol e.source (origin_of f) ≡ true
is_other_one e f apart = elim (cases_eq f.source.0 e.source.0) [
  | inl same ↦ other_symbol e.symbol e.source (origin_of f) (apart same)
  | inr differs ↦ other_source e.symbol e.source (origin_of f) differs
]

stays_its : (e f : Edge) (b : Bool) → is_other e.symbol e.source (origin_of f) ≡ true → without e (cond b (origin_of f ∷ []) []) ≡ cond b (origin_of f ∷ []) []
stays_its e f true is = ap (λ t. cond t (origin_of f ∷ []) []) is
stays_its e f false is = refl

goes_its : (e : Edge) (b : Bool) → without e (cond b (origin_of e ∷ []) []) ≡ []
goes_its e true = ap (λ t. cond t (origin_of e ∷ []) []) (not_other e.symbol e.source (origin_of e) refl refl)
goes_its e false = refl

without_append : (e : Edge) (os ps : List Origin) → without e (os ++ ps) ≡ without e os ++ without e ps
without_append e os ps = filter-append (is_other e.symbol e.source) os ps

others_stay : (e : Edge) (n : StateIndex) (es : List Edge) → HaveOthers e es → without e (origins n es) ≡ origins n es
others_stay e n [] apart = refl
others_stay e n (f ∷ es) apart =
    ap (without e) (origins_cons n f es) ∙ without_append e (its n.0 f) (origins n es)
    ∙ ap (λ os. os ++ without e (origins n es)) (stays_its e f (f.target.0 == n.0) (is_other_one e f (apart f (contains_head f es))))
    ∙ ap (λ os. its n.0 f ++ os) (others_stay e n es (λ g c. apart g (contains_tail f es g c)))
    ∙ sym (origins_cons n f es)

-- a state has no origins if no edge leads to it
no_origins : (n : StateIndex) (es : List Edge) → ((f : Edge) → Contains es f → f.target.0 ≡ n.0 → ⊥) → origins n es ≡ []
no_origins n [] none = refl
no_origins n (f ∷ es) none =
    origins_cons n f es ∙ ap (λ b. cond b (origin_of f ∷ []) [] ++ origins n es) (ne_eqb f.target.0 n.0 (none f (contains_head f es)))
    ∙ no_origins n es (λ g c. none g (contains_tail f es g c))

-- the symbols of the edges differ
abbrev pub HaveApartSymbols : List Edge → Type 0
HaveApartSymbols [] = Unit {0}
HaveApartSymbols (e ∷ es) = ((f : Edge) → Contains es f → f.symbol ≡ e.symbol → ⊥) × HaveApartSymbols es

-- ---- one edge is moved to its target
module _ (originals : List ℕ) where
  -- each edge leads to a state that is no copy
  abbrev pub LeadToOwn : List Edge → Type 0
  LeadToOwn es = (f : Edge) → Contains es f → number_in originals f.target.0 ≡ f.target.0

  module _ (front : List Edge) (e : Edge) (back : List Edge) (apart_front : HaveOthers e front) (apart_back : HaveOthers e back) (own : LeadToOwn back) (n : StateIndex) where
    abbrev pub was : ℕ
    was = number_in originals e.target.0

    before_is : origins n (front ++ retraced originals e ∷ back) ≡ origins n front ++ (cond (was == n.0) (origin_of e ∷ []) [] ++ origins n back)
    before_is = origins_midst n front (retraced originals e) back

    left_behind : without e (origins n (front ++ retraced originals e ∷ back)) ≡ origins n front ++ origins n back
    left_behind =
        ap (without e) before_is ∙ without_append e (origins n front) (cond (was == n.0) (origin_of e ∷ []) [] ++ origins n back)
        ∙ ap (λ os. os ++ without e (cond (was == n.0) (origin_of e ∷ []) [] ++ origins n back)) (others_stay e n front apart_front)
        ∙ ap (λ os. origins n front ++ os) (
        without_append e (cond (was == n.0) (origin_of e ∷ []) []) (origins n back)
        ∙ ap (λ os. os ++ without e (origins n back)) (goes_its e (was == n.0))
        ∙ others_stay e n back apart_back
        )

    -- the origins of the state from which the edge is moved are right
    went : (was ≡ e.target.0 → ⊥) → (was == n.0) ≡ true → origins_moved was e n.0 (origins n (front ++ retraced originals e ∷ back)) ≡ origins n (front ++ e ∷ back)
    went differs here =
        let elsewhere : (e.target.0 == n.0) ≡ false = ne_eqb e.target.0 n.0 (λ is. differs (eqb-true was n.0 here ∙ sym is)) in
        let old = origins n (front ++ retraced originals e ∷ back) in
        ap (λ b. cond b (without e old) old ++ its n.0 e) here
        ∙ ap (λ os. os ++ its n.0 e) left_behind
        ∙ ap (λ b. (origins n front ++ origins n back) ++ cond b (origin_of e ∷ []) []) elsewhere
        ∙ append-nil (origins n front ++ origins n back)
        ∙ ap (λ b. origins n front ++ (cond b (origin_of e ∷ []) [] ++ origins n back)) (sym elsewhere)
        ∙ sym (origins_midst n front e back)

    -- the origin of the edge may be before those of the edges after it: none of them leads to the
    -- state if the edge does
    its_place : (was ≡ e.target.0 → ⊥) → (origins n front ++ origins n back) ++ its n.0 e ≡ origins n front ++ (its n.0 e ++ origins n back)
    its_place differs = elim (cases_Bool (e.target.0 == n.0)) [
      | inl here ↦
          let same : e.target.0 ≡ n.0 = eqb-true e.target.0 n.0 here in
          let none : origins n back ≡ [] = no_origins n back (λ f c is. differs (ap (number_in originals) (same ∙ sym is) ∙ own f c ∙ is ∙ sym same)) in
          ap (λ os. (origins n front ++ os) ++ its n.0 e) none
          ∙ ap (λ os. os ++ its n.0 e) (append-nil (origins n front))
          ∙ ap (λ os. origins n front ++ os) (sym (append-nil (its n.0 e)) ∙ ap (λ os. its n.0 e ++ os) (sym none))
      | inr other ↦
          ap (λ b. (origins n front ++ origins n back) ++ cond b (origin_of e ∷ []) []) other
          ∙ append-nil (origins n front ++ origins n back)
          ∙ ap (λ b. origins n front ++ (cond b (origin_of e ∷ []) [] ++ origins n back)) (sym other)
    ]

    -- the origins of any other state are right: the edge is added if it leads there
    came : (was ≡ e.target.0 → ⊥) → (was == n.0) ≡ false → origins_moved was e n.0 (origins n (front ++ retraced originals e ∷ back)) ≡ origins n (front ++ e ∷ back)
    came differs away =
        let old = origins n (front ++ retraced originals e ∷ back) in
        ap (λ b. cond b (without e old) old ++ its n.0 e) away
        ∙ ap (λ os. os ++ its n.0 e) (before_is ∙ ap (λ b. origins n front ++ (cond b (origin_of e ∷ []) [] ++ origins n back)) away)
        ∙ its_place differs
        ∙ sym (origins_midst n front e back)

    same_edge : was ≡ e.target.0 → retraced originals e ≡ e
    same_edge is = ap (λ (k : ℕ). edge e.source e.symbol (record { 0 = k })) is

    pub one_followed : origins_after_move originals e n.0 (origins n (front ++ retraced originals e ∷ back)) ≡ origins n (front ++ e ∷ back)
    one_followed =
        let old = origins n (front ++ retraced originals e ∷ back) in
        elim (cases_Bool (was == e.target.0)) [
          | inl same ↦ ap (λ b. cond b old (origins_moved was e n.0 old)) same ∙ ap (λ f. origins n (front ++ f ∷ back)) (same_edge (eqb-true was e.target.0 same))
          | inr differs ↦ ap (λ b. cond b old (origins_moved was e n.0 old)) differs ∙ elim (cases_Bool (was == n.0)) [
            | inl here ↦ went (eqb-false was e.target.0 differs) here
            | inr away ↦ came (eqb-false was e.target.0 differs) away
          ]
        ]

  -- ---- the edges of one state, one after the other
  pub all_followed : (source : StateIndex) (front es back : List Edge) → ((e : Edge) → Contains es e → e.source.0 ≡ source.0) → HaveApartSymbols es → ((f e : Edge) → Contains front f → Contains es e → f.source.0 ≡ source.0 → f.symbol ≡ e.symbol → ⊥) →
      ((f : Edge) → Contains back f → f.source.0 ≡ source.0 → ⊥) → LeadToOwn (map (retraced originals) es ++ back) → (n : StateIndex) →
      followed_all originals es n.0 (origins n (front ++ (map (retraced originals) es ++ back))) ≡ origins n (front ++ (es ++ back))
  all_followed source front [] back sources apart before behind own n = refl
  all_followed source front (e ∷ es) back sources apart before behind own n =
      let rest : List Edge = map (retraced originals) es ++ back in
      let here : e.source.0 ≡ source.0 = sources e (contains_head e es) in
      let others : HaveOthers e rest = λ f c from is. elim (Contains-append_cases (map (retraced originals) es) back f c) [
        | inl h ↦ let g = contains_of_map (retraced originals) es f h in apart.0 g.0 g.1 (ap (λ (d : Edge). d.symbol) g.2 ∙ is)
        | inr h ↦ behind f h (from ∙ here)
      ] in
      let own_rest : LeadToOwn rest = λ f c. own f (contains_tail (retraced originals e) rest f c) in
      ap (followed_all originals es n.0) (one_followed front e rest (λ f c from is. before f e c (contains_head e es) (from ∙ here) is) others own_rest n)
      ∙ ap (λ fs. followed_all originals es n.0 (origins n fs)) (sym (append_assoc front (e ∷ []) rest))
      ∙ all_followed source (front ++ e ∷ []) es back (λ f c. sources f (contains_tail e es f c)) apart.1 (λ f g c d from is. elim (Contains-push_cases front e f c) [
        | inl h ↦ before f g h (contains_tail e es g d) from is
        | inr same ↦ apart.0 g d (sym is ∙ ap (λ (d : Edge). d.symbol) (sym same))
      ]) behind own_rest n
      ∙ ap (origins n) (append_assoc front (e ∷ []) (es ++ back))

  -- moving two lists of edges is moving one and then the other
  pub followed_append : (es fs : List Edge) (n : ℕ) (os : List Origin) → followed_all originals (es ++ fs) n os ≡ followed_all originals fs n (followed_all originals es n os)
  followed_append [] fs n os = refl
  followed_append (e ∷ es) fs n os = followed_append es fs n (origins_after_move originals e n os)
