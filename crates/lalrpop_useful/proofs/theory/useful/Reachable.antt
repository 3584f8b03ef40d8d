-- Reachable nonterminals: a walk from the start symbol over right sides goes to each of them, and to no others.
use Rattle.std.proofs.Common.{◌≡◌, ◌+◌, ◌-◌, ◌<◌, ◌⊎◌, inl, inr, List, [], ◌∷◌, ◌++◌, length, sym, subst, ap, ◌∙◌}
use Rattle.std.specs.Prelude.{Contains, ◌↔◌}
use Rattle.std.specs.List.{flat_map}
use Rattle.std.proofs.lemmas.List.Elements.{Contains-append_left, Contains-append_right, Contains-append_cases, Contains-push, Contains-push_cases}
use Rattle.lalrpop_collections.specs.Words.{AllWait, Visits}
use Rattle.lalrpop_collections.specs.declared.collections.walk.Walk.{Walk}
use Rattle.lalrpop_collections.proofs.theory.collections.Walks.{IsTraversing, Traversing-end, Traversing-smaller, Traversing-start, Traversing-step, Visits-none, Visits-same, Visits-then}
use Rattle.lalrpop_collections.proofs.theory.lists.Bounded.{in_flat_map}
use Rattle.lalrpop_collections.proofs.theory.lists.Members.{Contains-none, contains_head, contains_tail, contains-cons}
use Rattle.lalrpop_grammar.specs.Words.{Derives, as_it_is, replace, IsWellFormed, productions, productions_of}
use Rattle.lalrpop_grammar.proofs.theory.grammars.Derivations.{Derives-to, Derives-trans}
use Rattle.lalrpop_grammar.proofs.theory.grammars.Grammars.{productions_among, productions_named}
use Rattle.lalrpop_grammar.proofs.theory.grammars.SymbolLists.{not_both, same_nonterminal}
use Rattle.lalrpop_grammar.specs.declared.repr.Symbol.TheVariants.{Nonterminal, Terminal}
use Rattle.lalrpop_useful.proofs.Types.{Grammar, NonterminalString, Production, Symbol}
use Rattle.lalrpop_useful.specs.Words.{IsOnRightSide, IsReachable}

abbrev pub Names : Type 0
Names = Walk NonterminalString

-- ---- names that a walk goes to

-- that of a symbol
pub Symbol-name : (name : NonterminalString) (symbol : Symbol) (a b : Names) → symbol ≡ Nonterminal name → Visits (λ k. name ≡ k) a b → Visits (λ k. symbol ≡ Nonterminal k) a b
Symbol-name name symbol a b is v = Visits-same (λ k. name ≡ k) (λ k. symbol ≡ Nonterminal k) (λ k e. is ∙ ap Nonterminal e) (λ k e. same_nonterminal (sym is ∙ e)) a b v

-- those of a list of symbols, one more
abbrev AreIn : List Symbol → NonterminalString → Type 0
AreIn symbols a = Contains symbols (Nonterminal a)

pub Symbols-none : (walk : Names) → Visits (AreIn []) walk walk
Symbols-none walk = Visits-none (AreIn []) walk (λ a c. Contains-none (Nonterminal a) c)

pub Symbols-more : (symbols : List Symbol) (symbol : Symbol) (a b c : Names) → Visits (AreIn symbols) a b → Visits (λ k. symbol ≡ Nonterminal k) b c → Visits (AreIn (symbols ++ symbol ∷ [])) a c
Symbols-more symbols symbol a b c x y =
    Visits-then (AreIn symbols) (λ k. symbol ≡ Nonterminal k) (AreIn (symbols ++ symbol ∷ []))
    (λ k h. Contains-append_left symbols (symbol ∷ []) (Nonterminal k) h)
    (λ k e. subst (Contains (symbols ++ symbol ∷ [])) e (Contains-push symbols symbol))
    (λ k h. Contains-push_cases symbols symbol (Nonterminal k) h)
    a b c x y

-- those of right sides, one more
pub Sides-none : (walk : Names) → Visits (IsOnRightSide []) walk walk
Sides-none walk = Visits-none (IsOnRightSide []) walk (λ a h. Contains-none h.0 h.1)

pub Sides-more : (ps : List Production) (p : Production) (a b c : Names) → Visits (IsOnRightSide ps) a b → Visits (AreIn p.symbols) b c → Visits (IsOnRightSide (ps ++ p ∷ [])) a c
Sides-more ps p a b c x y =
    Visits-then (IsOnRightSide ps) (AreIn p.symbols) (IsOnRightSide (ps ++ p ∷ []))
    (λ k h. (h.0, Contains-append_left ps (p ∷ []) h.0 h.1, h.2))
    (λ k h. (p, Contains-push ps p, h))
    (λ k h. elim (Contains-push_cases ps p h.0 h.1) [
      | inl f ↦ inl (h.0, f, h.2)
      | inr e ↦ inr (subst (λ (q : Production). Contains q.symbols (Nonterminal k)) (sym e) h.2)
    ])
    a b c x y

-- ---- derivations
-- a list is cut where an element of it is
pub cut_at : {X : Type 0} (l : List X) (x : X) → Contains l x → (before : List X) × (after : List X) × (l ≡ before ++ x ∷ after)
cut_at [] x c = absurd (Contains-none x c)
cut_at (y ∷ l) x c = elim (contains-cons y l x c) [
  | inl e ↦ ([], l, ap (λ z. z ∷ l) e)
  | inr d ↦ let r = cut_at l x d in (y ∷ r.0, r.1, ap (λ m. y ∷ m) r.2)
]

-- a nonterminal of a list that is derived is in the list at first, or on a right side
pub derived_from : {g : List Production} {l m : List Symbol} → Derives g l m → (a : NonterminalString) → Contains m (Nonterminal a) → Contains l (Nonterminal a) ⊎ IsOnRightSide g a
derived_from as_it_is a c = inl c
derived_from (replace before after p among d) a c = elim (derived_from d a c) [
  | inr r ↦ inr r
  | inl h ↦ elim (Contains-append_cases before (p.symbols ++ after) (Nonterminal a) h) [
    | inl b ↦ inl (Contains-append_left before (Nonterminal p.nonterminal ∷ after) (Nonterminal a) b)
    | inr r ↦ elim (Contains-append_cases p.symbols after (Nonterminal a) r) [
      | inl s ↦ inr (p, among, s)
      | inr f ↦ inl (Contains-append_right before (Nonterminal p.nonterminal ∷ after) (Nonterminal a) (contains_tail (Nonterminal p.nonterminal) after (Nonterminal a) f))
    ]
  ]
]

-- names with those of the right sides of their productions have those of a list that is derived from a list of them
kept_in : {g : List Production} (names : List NonterminalString) → ((p : Production) → Contains g p → Contains names p.nonterminal → (a : NonterminalString) → Contains p.symbols (Nonterminal a) → Contains names a) →
    {l m : List Symbol} → Derives g l m → ((a : NonterminalString) → Contains l (Nonterminal a) → Contains names a) → (a : NonterminalString) → Contains m (Nonterminal a) → Contains names a
kept_in names closed as_it_is h a c = h a c
kept_in names closed (replace before after p among d) h a c =
    let name = Nonterminal p.nonterminal in
    kept_in names closed d (λ b e. elim (Contains-append_cases before (p.symbols ++ after) (Nonterminal b) e) [
      | inl f ↦ h b (Contains-append_left before (name ∷ after) (Nonterminal b) f)
      | inr r ↦ elim (Contains-append_cases p.symbols after (Nonterminal b) r) [
        | inl s ↦ closed p among (h p.nonterminal (Contains-append_right before (name ∷ after) name (contains_head name after))) b s
        | inr f ↦ h b (Contains-append_right before (name ∷ after) (Nonterminal b) (contains_tail name after (Nonterminal b) f))
      ]
    ]) a c

-- ---- the walk
-- the nonterminals of a list
names_in : List Symbol → List NonterminalString
names_in [] = []
names_in (Nonterminal a ∷ l) = a ∷ names_in l
names_in (Terminal t ∷ l) = names_in l

in_names : (l : List Symbol) (a : NonterminalString) → Contains l (Nonterminal a) → Contains (names_in l) a
unfolding names_in
in_names [] a c = absurd (Contains-none (Nonterminal a) c)
in_names (Nonterminal b ∷ l) a c = elim (contains-cons (Nonterminal b) l (Nonterminal a) c) [
  | inl e ↦ subst (Contains (b ∷ names_in l)) (same_nonterminal e) (contains_head b (names_in l))
  | inr d ↦ contains_tail b (names_in l) a (in_names l a d)
]
in_names (Terminal t ∷ l) a c = elim (contains-cons (Terminal t) l (Nonterminal a) c) [
  | inl e ↦ absurd (not_both (sym e))
  | inr d ↦ in_names l a d
]

-- the nonterminals of a right side
pub sides : Production → List NonterminalString
sides p = names_in p.symbols

pub in_sides : (ps : List Production) (a : NonterminalString) → IsOnRightSide ps a → Contains (flat_map sides ps) a
unfolding sides
in_sides ps a s = in_flat_map sides ps s.0 a s.1 (in_names s.0.symbols a s.2)

module _ (g : Grammar) (start : NonterminalString) where
  abbrev Begun : NonterminalString → Type 0
  Begun a = start ≡ a

  abbrev Leads : NonterminalString → NonterminalString → Type 0
  Leads a b = IsOnRightSide (productions_of g a) b

  abbrev Reach : NonterminalString → Type 0
  Reach a = IsReachable (productions g) start a

  -- the names found so far, and those that are done
  pub record IsReaching (walk : Names) : Type 0 where
    pub done : List NonterminalString
    pub at : IsTraversing Begun Leads Reach done walk

  pub room : List NonterminalString
  room = start ∷ flat_map sides (productions g)

  in_room : (a : NonterminalString) → Reach a → Contains room a
  unfolding room
  in_room a r = elim (derived_from r.1 a r.2) [
    | inl c ↦ elim (contains-cons (Nonterminal start) [] (Nonterminal a) c) [
      | inl e ↦ subst (Contains room) (same_nonterminal e) (contains_head start (flat_map sides (productions g)))
      | inr n ↦ absurd (Contains-none (Nonterminal a) n)
    ]
    | inr s ↦ contains_tail start (flat_map sides (productions g)) a (in_sides (productions g) a s)
  ]

  -- what a reachable name leads to is reachable
  onward : IsWellFormed g → (a b : NonterminalString) → Reach a → Leads a b → Reach b
  onward well a b r l =
      let p : Production = l.0 in
      let among = productions_among g a p l.1 in
      let named : p.nonterminal ≡ a = productions_named g well a p l.1 in
      let cut = cut_at r.0 (Nonterminal a) r.2 in
      let same : r.0 ≡ cut.0 ++ Nonterminal p.nonterminal ∷ cut.1 = cut.2 ∙ ap (λ (n : NonterminalString). cut.0 ++ Nonterminal n ∷ cut.1) (sym named) in (
        cut.0 ++ (p.symbols ++ cut.1),
        Derives-trans (Derives-to same r.1) (replace cut.0 cut.1 p among as_it_is),
        Contains-append_right cut.0 (p.symbols ++ cut.1) (Nonterminal b) (Contains-append_left p.symbols cut.1 (Nonterminal b) l.2),
      )

  pub Reaching-start : (walk : Names) → AllWait walk → ((a : NonterminalString) → Contains walk.visited.keys a → start ≡ a) → Contains walk.visited.keys start → IsReaching walk
  Reaching-start walk all only there = record {
    done = [];
    at = Traversing-start Begun Leads Reach walk all
        (λ a e. subst (Contains walk.visited.keys) e there)
        (λ a c. (Nonterminal start ∷ [], as_it_is, subst (λ (b : NonterminalString). Contains (Nonterminal start ∷ []) (Nonterminal b)) (only a c) (contains_head (Nonterminal start) [])));
  }

  module _ (well : IsWellFormed g) (key : NonterminalString) (before popped after : Names) (same : popped.visited.keys ≡ before.visited.keys) (taken : before.waiting.items ≡ key ∷ popped.waiting.items) (h : IsReaching before) (v : Visits (Leads key) popped after) where
    stepped : IsTraversing Begun Leads Reach (h.done ++ key ∷ []) after
    stepped = Traversing-step Begun Leads Reach h.done key before popped after same taken h.at v (λ b r l. onward well key b r l)

    pub Reaching-step : IsReaching after
    Reaching-step = record { done = h.done ++ key ∷ []; at = stepped }

    pub Reaching-smaller : length room + length after.waiting.items - length after.visited.keys < length room + length before.waiting.items - length before.visited.keys
    Reaching-smaller = Traversing-smaller Begun Leads Reach room in_room h.done (h.done ++ key ∷ []) key before popped after same taken h.at v stepped

  -- when none waits
  pub Reaching-end : ((p : Production) → Contains (productions g) p → Contains (productions_of g p.nonterminal) p) → (walk : Names) → walk.waiting.items ≡ [] → IsReaching walk → (a : NonterminalString) → Contains walk.visited.keys a ↔ IsReachable (productions g) start a
  Reaching-end own walk none h a =
      let names = walk.visited.keys in (
        h.at.reached a,
        λ r. kept_in names
            (λ p among c b d. h.at.led p.nonterminal b (Traversing-end Begun Leads Reach h.done walk none h.at p.nonterminal c) (p, own p among, d))
            r.1
            (λ b c. elim (contains-cons (Nonterminal start) [] (Nonterminal b) c) [
              | inl e ↦ h.at.begun b (same_nonterminal e)
              | inr n ↦ absurd (Contains-none (Nonterminal b) n)
            ])
            a r.2,
      )
