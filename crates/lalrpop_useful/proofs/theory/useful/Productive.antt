-- Productive nonterminals: lists of them derive lists of terminals, and a walk that leaves nothing waiting went to them all.
use Rattle.std.proofs.Common.{◌≡◌, ◌⊎◌, suc, ◌+◌, ◌-◌, ◌<◌, ◌≤◌, inl, inr, List, [], ◌∷◌, ◌++◌, length, map, refl, sym, subst, ap, arith}
use Rattle.std.specs.Prelude.{Contains, ◌↔◌}
use Rattle.std.proofs.lemmas.List.{length-map}
use Rattle.std.proofs.lemmas.List.Elements.{Contains-append_left, Contains-append_right, Contains-append_cases}
use Rattle.std.specs.List.{flat_map}
use Rattle.lalrpop_collections.specs.Words.{AllDiffer, Visits}
use Rattle.lalrpop_collections.proofs.theory.collections.Walks.{Visits-then}
use Rattle.lalrpop_collections.proofs.theory.lists.Bounded.{in_flat_map}
use Rattle.lalrpop_collections.proofs.theory.lists.Members.{Contains-none, contains_head, contains_tail, contains-cons, contains_map, of_flat, pigeonhole}
use Rattle.lalrpop_collections.proofs.theory.lists.Lists.{contains_place, place_contains, contains_of_map}
use Rattle.lalrpop_collections.proofs.theory.lists.Places.{apart_from_differ, contains_at}
use Rattle.lalrpop_grammar.specs.Words.{productions, productions_of, Derives, as_it_is, replace, terminal_symbols}
use Rattle.lalrpop_grammar.proofs.theory.grammars.Derivations.{Derives-append, Derives-left, Derives-production, Derives-to, Derives-trans}
use Rattle.lalrpop_grammar.proofs.theory.grammars.SymbolLists.{not_both, same_nonterminal, terminal_symbols-append}
use Rattle.lalrpop_grammar.specs.declared.repr.Symbol.TheVariants.{Nonterminal, Terminal}
use Rattle.lalrpop_useful.proofs.Types.{Grammar, NonterminalString, Production, Symbol, TerminalString}
use Rattle.lalrpop_useful.specs.Words.{AreNonterminalsAmong, AreProductive, AreTried, HasUsers, HasWaiting, IsProductive, IsTried, UserMap, came, left, users_at}
use Rattle.lalrpop_useful.proofs.theory.useful.Reachable.{Names}

-- ---- what a production adds is productive
-- a list whose nonterminals are productive derives a list of terminals
derives_terminals : (g : List Production) (l : List Symbol) → ((a : NonterminalString) → Contains l (Nonterminal a) → IsProductive g a) → (w : List TerminalString) × Derives g l (terminal_symbols w)
derives_terminals g [] each = ([], as_it_is)
derives_terminals g (Terminal t ∷ l) each =
    let rest = derives_terminals g l (λ a c. each a (contains_tail (Terminal t) l (Nonterminal a) c)) in
    (t ∷ rest.0, Derives-left (Terminal t ∷ []) rest.1)
derives_terminals g (Nonterminal a ∷ l) each =
    let first = each a (contains_head (Nonterminal a) l) in
    let rest = derives_terminals g l (λ b c. each b (contains_tail (Nonterminal a) l (Nonterminal b) c)) in
    (first.0 ++ rest.0, Derives-to (sym (terminal_symbols-append first.0 rest.0)) (Derives-append first.1 rest.1))

-- the name of a production is productive if the nonterminals of its right side are
productive_by : (g : List Production) (names : List NonterminalString) (p : Production) → Contains g p → ((a : NonterminalString) → Contains names a → IsProductive g a) → AreNonterminalsAmong names p.symbols → IsProductive g p.nonterminal
productive_by g names p among right all =
    let whole = derives_terminals g p.symbols (λ a c. let at = contains_place p.symbols (Nonterminal a) c in right a (all at.0 a at.1)) in
    (whole.0, Derives-trans (Derives-production p among) whole.1)

-- ---- names to which no production adds any
module _ (g : List Production) (names : List NonterminalString) (closed : (p : Production) → Contains g p → AreNonterminalsAmong names p.symbols → Contains names p.nonterminal) where
  abbrev AllIn : List Symbol → Type 0
  AllIn l = (a : NonterminalString) → Contains l (Nonterminal a) → Contains names a

  terminals_only : (w : List TerminalString) → AllIn (terminal_symbols w)
  terminals_only w a c = let r = contains_of_map Terminal w (Nonterminal a) c in absurd (not_both (sym r.2))

  -- they have all nonterminals of a list from which a list of them is derived: by induction on the derivation
  all_in : {l m : List Symbol} → Derives g l m → AllIn m → AllIn l
  all_in as_it_is h a c = h a c
  all_in (replace before after p among d) h a c =
      let later : AllIn (before ++ (p.symbols ++ after)) = all_in d h in
      elim (Contains-append_cases before (Nonterminal p.nonterminal ∷ after) (Nonterminal a) c) [
        | inl b ↦ later a (Contains-append_left before (p.symbols ++ after) (Nonterminal a) b)
        | inr r ↦ elim (contains-cons (Nonterminal p.nonterminal) after (Nonterminal a) r) [
          | inl e ↦ subst (Contains names) (same_nonterminal e) (closed p among (λ k b at. later b (Contains-append_right before (p.symbols ++ after) (Nonterminal b) (Contains-append_left p.symbols after (Nonterminal b) (place_contains p.symbols k (Nonterminal b) at)))))
          | inr f ↦ later a (Contains-append_right before (p.symbols ++ after) (Nonterminal a) (Contains-append_right p.symbols after (Nonterminal a) f))
        ]
      ]

  pub all_productive : (a : NonterminalString) → IsProductive g a → Contains names a
  all_productive a h = all_in h.1 (terminals_only h.0) a (contains_head (Nonterminal a) [])

-- ---- one production
-- each nonterminal of a list has one of two facts: all have the first, or one has the second
all_or_some : (l : List Symbol) (P Q : NonterminalString → Type 0) → ((a : NonterminalString) → Contains l (Nonterminal a) → P a ⊎ Q a) → ((a : NonterminalString) → Contains l (Nonterminal a) → P a) ⊎ ((a : NonterminalString) × Contains l (Nonterminal a) × Q a)
all_or_some [] P Q each = inl (λ a c. absurd (Contains-none (Nonterminal a) c))
all_or_some (Terminal t ∷ l) P Q each = elim (all_or_some l P Q (λ a c. each a (contains_tail (Terminal t) l (Nonterminal a) c))) [
  | inl all ↦ inl (λ a c. elim (contains-cons (Terminal t) l (Nonterminal a) c) [ inl e ↦ absurd (not_both (sym e)) | inr d ↦ all a d ])
  | inr some ↦ inr (some.0, contains_tail (Terminal t) l (Nonterminal some.0) some.1, some.2)
]
all_or_some (Nonterminal b ∷ l) P Q each = elim (each b (contains_head (Nonterminal b) l)) [
  | inr q ↦ inr (b, contains_head (Nonterminal b) l, q)
  | inl p ↦ elim (all_or_some l P Q (λ a c. each a (contains_tail (Nonterminal b) l (Nonterminal a) c))) [
    | inl all ↦ inl (λ a c. elim (contains-cons (Nonterminal b) l (Nonterminal a) c) [ inl e ↦ subst P (same_nonterminal e) p | inr d ↦ all a d ])
    | inr some ↦ inr (some.0, contains_tail (Nonterminal b) l (Nonterminal some.0) some.1, some.2)
  ]
]

-- a right side that was visited was so before, or has a nonterminal that waits since
settled_before : (l : List Symbol) (old waiting new : List NonterminalString) → ((a : NonterminalString) → Contains new a → Contains old a ⊎ Contains waiting a) → AreNonterminalsAmong new l → AreNonterminalsAmong old l ⊎ HasWaiting waiting l
settled_before l old waiting new only all =
    elim (all_or_some l (Contains old) (Contains waiting) (λ a c. let at = contains_place l (Nonterminal a) c in only a (all at.0 a at.1))) [
      | inl each ↦ inl (λ k a at. each a (place_contains l k (Nonterminal a) at))
      | inr some ↦ inr some
    ]

Tried-none : (walk : Names) → AreTried [] walk walk
Tried-none walk = record {
  visits = record { kept = λ a c. c; there = λ a c. c; only = λ a c. inl c; stays = λ a c. c; waits = λ a c. inl c; differ = λ d. d; weighed = refl };
  right = λ g among h. h;
  settled = λ p c all. absurd (Contains-none p c);
}

pub Tried-nothing : (ps : List Production) (walk : Names) → ps ≡ [] → AreTried ps walk walk
Tried-nothing ps walk e = subst (λ (qs : List Production). AreTried qs walk walk) (sym e) (Tried-none walk)

pub Tried-one : (p : Production) (old new : Names) → IsTried p old new → AreTried (p ∷ []) old new
Tried-one p old new (left same none) =
    let alone : AreTried (p ∷ []) old old = record {
      visits = (Tried-none old).visits;
      right = λ g among h. h;
      settled = λ q c all. inl (elim (contains-cons p [] q c) [
        | inl e ↦ subst (λ (r : Production). AreNonterminalsAmong old.visited.keys r.symbols → Contains old.visited.keys r.nonterminal) e none all
        | inr n ↦ absurd (Contains-none q n)
      ]);
    } in
    subst (AreTried (p ∷ []) old) (sym same) alone
Tried-one p old new (came all v) = record {
  visits = Visits-grown p old new v;
  right = λ g among h. record {
    derives = λ a c. elim (v.only a c) [
      | inl o ↦ h.derives a o
      | inr n ↦ subst (IsProductive g) n.0 (productive_by g old.visited.keys p (among p (contains_head p [])) h.derives all)
    ];
    named = λ a c. elim (v.only a c) [ inl o ↦ h.named a o | inr n ↦ (p, among p (contains_head p []), n.0) ];
  };
  settled = λ q c _. inl (elim (contains-cons p [] q c) [
    | inl e ↦ v.there q.nonterminal (ap (λ (r : Production). r.nonterminal) e)
    | inr n ↦ absurd (Contains-none q n)
  ]);
}
  where
    Visits-grown : (p : Production) (old new : Names) → Visits (λ a. p.nonterminal ≡ a) old new → Visits (λ a. Contains new.visited.keys a) old new
    Visits-grown p old new v = record {
      kept = v.kept;
      there = λ a c. c;
      only = λ a c. elim (v.only a c) [ inl o ↦ inl o | inr n ↦ inr (c, n.1) ];
      stays = v.stays;
      waits = v.waits;
      differ = v.differ;
      weighed = v.weighed;
    }

-- ---- productions in turn
pub Tried-then : (ps qs : List Production) (a b c : Names) → AreTried ps a b → AreTried qs b c → AreTried (ps ++ qs) a c
Tried-then ps qs a b c x y = record {
  visits = Visits-then (Contains b.visited.keys) (Contains c.visited.keys) (Contains c.visited.keys) (λ k h. y.visits.kept k h) (λ k h. h) (λ k h. inr h) a b c x.visits y.visits;
  right = λ g among h. y.right g (λ q d. among q (Contains-append_right ps qs q d)) (x.right g (λ q d. among q (Contains-append_left ps qs q d)) h);
  settled = λ p d all. elim (Contains-append_cases ps qs p d) [
    | inl first ↦ elim (settled_before p.symbols b.visited.keys c.waiting.items c.visited.keys (λ k h. elim (y.visits.only k h) [ inl o ↦ inl o | inr n ↦ inr n.1 ]) all) [
      | inl before ↦ elim (x.settled p first before) [
        | inl there ↦ inl (y.visits.kept p.nonterminal there)
        | inr some ↦ inr (some.0, some.1, y.visits.stays some.0 some.2)
      ]
      | inr some ↦ inr some
    ]
    | inr second ↦ y.settled p second all
  ];
}

pub Tried-more : (ps : List Production) (p : Production) (a b c : Names) → AreTried ps a b → IsTried p b c → AreTried (ps ++ p ∷ []) a c
Tried-more ps p a b c x t = Tried-then ps (p ∷ []) a b c x (Tried-one p b c t)

pub Tried-start : (walk : Names) → AreTried [] walk walk
Tried-start walk = Tried-none walk

-- nonterminals in turn: those that are left will have been tried, and so will all
abbrev pub IsTrying : (NonterminalString → List Production) → List NonterminalString → List NonterminalString → Names → Names → Type 0
IsTrying of all rest start walk = (end : Names) → AreTried (flat_map of rest) walk end → AreTried (flat_map of all) start end

pub Trying-step : (of : NonterminalString → List Production) (all still rest : List NonterminalString) (name : NonterminalString) (start old new : Names) → still ≡ name ∷ rest → IsTrying of all still start old → AreTried (of name) old new → IsTrying of all rest start new
Trying-step of all still rest name start old new e h t end later =
    h end (subst (λ (names : List NonterminalString). AreTried (flat_map of names) old end) (sym e) (Tried-then (of name) (flat_map of rest) old new end t later))

pub Trying-end : (of : NonterminalString → List Production) (all rest : List NonterminalString) (start walk : Names) → rest ≡ [] → IsTrying of all rest start walk → AreTried (flat_map of all) start walk
Trying-end of all rest start walk e h = h walk (subst (λ (names : List NonterminalString). AreTried (flat_map of names) walk walk) (sym e) (Tried-none walk))

-- ---- the walk
pub record IsGrowing (g : List Production) (walk : Names) : Type 0 where
  pub right : AreProductive g walk.visited.keys
  pub came : (a : NonterminalString) → Contains walk.waiting.items a → Contains walk.visited.keys a
  pub differ : AllDiffer walk.visited.keys
  pub settled : (p : Production) → Contains g p → AreNonterminalsAmong walk.visited.keys p.symbols → Contains walk.visited.keys p.nonterminal ⊎ HasWaiting walk.waiting.items p.symbols

none_visited : (ks : List NonterminalString) (a : NonterminalString) → ks ≡ [] → Contains ks a → ⊥
none_visited ks a none c = Contains-none a (subst (λ (ns : List NonterminalString). Contains ns a) none c)

pub Growing-start : (g ps : List Production) (none walk : Names) → ps ≡ g → none.visited.keys ≡ [] → none.waiting.items ≡ [] → AreTried ps none walk → IsGrowing g walk
Growing-start g ps none walk same no_visits no_waits tried =
    let t : AreTried g none walk = subst (λ (qs : List Production). AreTried qs none walk) same tried in
    record {
      right = t.right g (λ p c. c) (record { derives = λ a c. absurd (none_visited none.visited.keys a no_visits c); named = λ a c. absurd (none_visited none.visited.keys a no_visits c) });
      came = λ a c. elim (t.visits.waits a c) [ inl o ↦ absurd (none_visited none.waiting.items a no_waits o) | inr n ↦ n ];
      differ = t.visits.differ (λ i j x l at other. none_visited none.visited.keys x no_visits (contains_at none.visited.keys x i at));
      settled = t.settled;
    }

-- the names are no more than the productions
few : (g : List Production) (names : List NonterminalString) → AreProductive g names → AllDiffer names → length names ≤ length g
few g names right differ =
    let name : Production → NonterminalString = λ p. p.nonterminal in
    let within : length names ≤ length (map name g) = pigeonhole names (map name g) (apart_from_differ names differ) (λ a c. let r = right.named a c in subst (Contains (map name g)) r.2 (contains_map name g r.0 r.1)) in
    let count = length-map g name in
    omega (arith, within, count)

module _ (g : Grammar) (users : UserMap) (ps : List Production) (all : ps ≡ productions g) (has : HasUsers ps users) (own : (p : Production) → Contains (productions g) p → Contains (productions_of g p.nonterminal) p) (among : (a : NonterminalString) (p : Production) → Contains (productions_of g a) p → Contains (productions g) p) where
  module _ (key : NonterminalString) (before popped after : Names) (same : popped.visited.keys ≡ before.visited.keys) (taken : before.waiting.items ≡ key ∷ popped.waiting.items) (h : IsGrowing (productions g) before) (t : AreTried (flat_map (productions_of g) (users_at users key)) popped after) where
    was : (a : NonterminalString) → Contains popped.visited.keys a → Contains before.visited.keys a
    was a c = subst (λ (ks : List NonterminalString). Contains ks a) same c

    stays : (a : NonterminalString) → Contains before.visited.keys a → Contains after.visited.keys a
    stays a c = t.visits.kept a (subst (λ (ks : List NonterminalString). Contains ks a) (sym same) c)

    -- a production with the key on its right side is tried
    is_tried : (p : Production) → Contains (productions g) p → Contains p.symbols (Nonterminal key) → Contains (flat_map (productions_of g) (users_at users key)) p
    is_tried p c on = in_flat_map (productions_of g) (users_at users key) p.nonterminal p (has p (subst (λ (qs : List Production). Contains qs p) (sym all) c) key on) (own p c)

    settle : (p : Production) → Contains (productions g) p → AreNonterminalsAmong after.visited.keys p.symbols → Contains before.visited.keys p.nonterminal ⊎ HasWaiting before.waiting.items p.symbols → Contains after.visited.keys p.nonterminal ⊎ HasWaiting after.waiting.items p.symbols
    settle p c every (inl there) = inl (stays p.nonterminal there)
    settle p c every (inr some) = elim (contains-cons key popped.waiting.items some.0 (subst (λ (ks : List NonterminalString). Contains ks some.0) taken some.2)) [
      | inl e ↦ t.settled p (is_tried p c (subst (λ (a : NonterminalString). Contains p.symbols (Nonterminal a)) (sym e) some.1)) every
      | inr w ↦ inr (some.0, some.1, t.visits.stays some.0 w)
    ]

    pub Growing-step : IsGrowing (productions g) after
    Growing-step = record {
      right = t.right (productions g) (λ p c. let r = of_flat (productions_of g) (users_at users key) p c in among r.0 p r.2) (subst (AreProductive (productions g)) (sym same) h.right);
      came = λ a c. elim (t.visits.waits a c) [
        | inl o ↦ stays a (h.came a (subst (λ (ks : List NonterminalString). Contains ks a) (sym taken) (contains_tail key popped.waiting.items a o)))
        | inr n ↦ n
      ];
      differ = t.visits.differ (subst AllDiffer (sym same) h.differ);
      settled = λ p c every. elim (settled_before p.symbols before.visited.keys after.waiting.items after.visited.keys (λ a d. elim (t.visits.only a d) [ inl o ↦ inl (was a o) | inr n ↦ inr n.1 ]) every) [
        | inl first ↦ settle p c every (h.settled p c first)
        | inr some ↦ inr some
      ];
    }

    pub Growing-smaller : length (productions g) + length after.waiting.items - length after.visited.keys < length (productions g) + length before.waiting.items - length before.visited.keys
    Growing-smaller =
        let a = few (productions g) before.visited.keys h.right h.differ in
        let next : IsGrowing (productions g) after = Growing-step in
        let b = few (productions g) after.visited.keys next.right next.differ in
        let w = t.visits.weighed in
        let s : length popped.visited.keys ≡ length before.visited.keys = ap length same in
        let l : length before.waiting.items ≡ suc (length popped.waiting.items) = ap length taken in
        omega arith

pub Growing-end : (g : List Production) (walk : Names) → walk.waiting.items ≡ [] → IsGrowing g walk → (a : NonterminalString) → Contains walk.visited.keys a ↔ IsProductive g a
Growing-end g walk none h a = (
  h.right.derives a,
  all_productive g walk.visited.keys (λ p c all. elim (h.settled p c all) [ inl there ↦ there | inr some ↦ absurd (none_visited walk.waiting.items some.0 none some.2) ]) a,
)
