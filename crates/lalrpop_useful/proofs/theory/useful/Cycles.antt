-- Cyclic nonterminals: a derivation of one nonterminal goes over nonterminals around which all is nullable.
use Rattle.std.proofs.Common.{◌≡◌, ℕ, zero, suc, ◌+◌, ◌-◌, ◌<◌, ◌≤◌, ◌⊎◌, inl, inr, List, [], ◌∷◌, ◌++◌, take, drop, length, refl, sym, subst, ap, ap₂, ◌∙◌, arith, Some, append_assoc}
use Rattle.std.specs.Prelude.{Contains, slice_get, ◌↔◌}
use Rattle.std.specs.List.{flat_map}
use mathlib.Core.List.{cons≢nil, head-eq_of_cons-eq, tail-eq_of_cons-eq}
use Rattle.std.proofs.lemmas.Option.{slice_get_within}
use Rattle.std.proofs.lemmas.List.Elements.{Contains-append_left, Contains-append_cases, Contains-push, Contains-push_cases}
use Rattle.lalrpop_collections.specs.Words.{Visits}
use Rattle.lalrpop_collections.proofs.theory.collections.Walks.{IsTraversing, Traversing-end, Traversing-smaller, Traversing-start, Traversing-step, All-wait, visited_such, Visits-none, Visits-same, Visits-then}
use Rattle.lalrpop_collections.proofs.theory.lists.Lists.{contains_place, same_some, some≢none}
use Rattle.lalrpop_collections.proofs.theory.lists.Members.{Contains-none, contains_head}
use Rattle.lalrpop_grammar.specs.Words.{Derives, IsNullable, as_it_is, replace, AreWellFormedEntries, IsWellFormed, productions, productions_of}
use Rattle.lalrpop_grammar.proofs.theory.grammars.Derivations.{Derives-append, Derives-from, Derives-production, Derives-to, Derives-trans}
use Rattle.lalrpop_grammar.proofs.theory.grammars.Forests.{Derives-parts, derives_forest, forest-terminal, nil_parts}
use Rattle.lalrpop_grammar.proofs.theory.grammars.Grammars.{productions_among, productions_named}
use Rattle.lalrpop_grammar.proofs.theory.grammars.Entries.{entries_head, entries_tail}
use Rattle.lalrpop_grammar.proofs.theory.grammars.NewStart.{below}
use Rattle.lalrpop_grammar.proofs.theory.grammars.SymbolLists.{same_nonterminal}
use Rattle.lalrpop_grammar.specs.declared.repr.Symbol.TheVariants.{Nonterminal, Terminal}
use Rattle.lalrpop_useful.proofs.Types.{Grammar, NonterminalData, NonterminalString, Production, Symbol, TerminalString}
use Rattle.lalrpop_useful.proofs.theory.useful.Reachable.{Names, derived_from, in_sides, sides}
use Rattle.lalrpop_useful.specs.Words.{AddsCyclic, DerivesAlone, IsAlone, IsAloneAt, IsAloneOn, IsCyclic}

-- ---- places and cuts
-- a list is cut at a place
cut_place : {X : Type 0} (l : List X) (k : ℕ) (x : X) → slice_get l k ≡ Some x → l ≡ take k l ++ x ∷ drop (suc k) l
cut_place [] k x e = absurd (some≢none (sym e))
cut_place (y ∷ l) zero x e = ap (λ z. z ∷ l) (same_some e)
cut_place (y ∷ l) (suc k) x e = ap (λ m. y ∷ m) (cut_place l k x e)

take_more_at : {X : Type 0} (l : List X) (k : ℕ) (x : X) → slice_get l k ≡ Some x → take (k + 1) l ≡ take k l ++ x ∷ []
take_more_at [] k x e = absurd (some≢none (sym e))
take_more_at (y ∷ l) zero x e = ap (λ z. z ∷ []) (same_some e)
take_more_at {X} (y ∷ l) (suc k) x e =
    let next : suc k + 1 ≡ suc (k + 1) = omega arith in
    ap (λ (n : ℕ). take n (y ∷ l)) next ∙ ap (λ (m : List X). y ∷ m) (take_more_at l k x e)

-- a cut is a place
at_cut : {X : Type 0} (u v : List X) (x : X) → slice_get (u ++ x ∷ v) (length u) ≡ Some x
at_cut [] v x = refl
at_cut (y ∷ u) v x = at_cut u v x

take_cut : {X : Type 0} (u v : List X) (x : X) → take (length u) (u ++ x ∷ v) ≡ u
take_cut [] v x = refl
take_cut (y ∷ u) v x = ap (λ m. y ∷ m) (take_cut u v x)

drop_cut : {X : Type 0} (u v : List X) (x : X) → drop (suc (length u)) (u ++ x ∷ v) ≡ v
drop_cut [] v x = refl
drop_cut (y ∷ u) v x = drop_cut u v x

-- where an element of a joined list is: in the first part, or in the second
data InPart {X : Type 0} (m n u v : List X) (x : X) : Type 0 where
  in_first : (w : List X) → m ≡ u ++ x ∷ w → v ≡ w ++ n → InPart m n u v x
  in_second : (w : List X) → n ≡ w ++ x ∷ v → u ≡ m ++ w → InPart m n u v x

in_part : {X : Type 0} (m n u v : List X) (x : X) → m ++ n ≡ u ++ x ∷ v → InPart m n u v x
in_part [] n u v x e = in_second u e refl
in_part (y ∷ m) n [] v x e = in_first m (ap (λ z. z ∷ m) (head-eq_of_cons-eq e)) (sym (tail-eq_of_cons-eq e))
in_part {X} (y ∷ m) n (z ∷ u) v x e = go (in_part m n u v x (tail-eq_of_cons-eq e))
  where
    go : InPart m n u v x → InPart (y ∷ m) n (z ∷ u) v x
    go (in_first w h k) = in_first w (ap₂ (λ a l. a ∷ l) (head-eq_of_cons-eq e) h) k
    go (in_second w h k) = in_second w h (ap₂ (λ a l. a ∷ l) (sym (head-eq_of_cons-eq e)) k)

-- ---- nullable parts
nullable_parts : {g : List Production} (l m : List Symbol) → IsNullable g (l ++ m) → IsNullable g l × IsNullable g m
nullable_parts l m d =
    let r = Derives-parts l m [] d in
    let e = nil_parts r.first r.second r.joined in
    (Derives-to e.0 r.left, Derives-to e.1 r.right)

-- a terminal is not nullable
pub Terminal-not : (g : List Production) (symbol : Symbol) (t : TerminalString) → symbol ≡ Terminal t → IsNullable g (symbol ∷ []) → ⊥
Terminal-not g symbol t is d = let r = forest-terminal (derives_forest (Derives-from (ap (λ (x : Symbol). x ∷ []) is) d)) in cons≢nil (sym r.1)

-- a list of nullable symbols, one more
pub Nullable-more : (g : List Production) (l : List Symbol) (k : ℕ) (x : Symbol) → slice_get l k ≡ Some x → IsNullable g (take k l) → IsNullable g (x ∷ []) → IsNullable g (take (k + 1) l)
Nullable-more g l k x at h one = Derives-from (sym (take_more_at l k x at)) (Derives-append {m = []} h one)

-- a list with a symbol that is not nullable
pub Nullable-not : (g : List Production) (l : List Symbol) (k : ℕ) (x : Symbol) → slice_get l k ≡ Some x → (IsNullable g (x ∷ []) → ⊥) → IsNullable g l → ⊥
Nullable-not g l k x at not d =
    let parts = nullable_parts (take k l) (x ∷ drop (suc k) l) (Derives-from (cut_place l k x at) d) in
    not (nullable_parts (x ∷ []) (drop (suc k) l) parts.1).0

-- what is alone in a list is derived from it
pub alone_derives : {g : List Production} (l : List Symbol) (b : NonterminalString) → IsAlone g l b → Derives g l (Nonterminal b ∷ [])
alone_derives l b h =
    Derives-from (sym (cut_place l h.0 (Nonterminal b) h.1.0))
    (Derives-append {m = []} h.1.1 (Derives-append {k = Nonterminal b ∷ []} {m = Nonterminal b ∷ []} as_it_is h.1.2))

-- what is between nullable parts is alone
pub alone_between : {g : List Production} (l u v : List Symbol) (b : NonterminalString) → l ≡ u ++ Nonterminal b ∷ v → IsNullable g u → IsNullable g v → IsAlone g l b
alone_between {g} l u v b e m n = subst (λ k. IsAlone g k b) (sym e) (length u, (at_cut u v (Nonterminal b), Derives-from (sym (take_cut u v (Nonterminal b))) m, Derives-from (sym (drop_cut u v (Nonterminal b))) n))

-- ---- names that have, with each of them, what is alone on its right sides
module _ (g : List Production) (names : List NonterminalString) (closed : (p : Production) → Contains g p → Contains names p.nonterminal → (b : NonterminalString) → IsAlone g p.symbols b → Contains names b) where
  -- all that is between nullable parts of a list is one of the names
  abbrev HasBetween : List Symbol → Type 0
  HasBetween l = (u v : List Symbol) (c : NonterminalString) → l ≡ u ++ Nonterminal c ∷ v → IsNullable g u → IsNullable g v → Contains names c

  between_after : (before after : List Symbol) (p : Production) → Contains g p → HasBetween (before ++ Nonterminal p.nonterminal ∷ after) → HasBetween (before ++ (p.symbols ++ after))
  between_after before after p among h u v c e m n = first (in_part before (p.symbols ++ after) u v (Nonterminal c) e)
    where
      second : (w : List Symbol) → u ≡ before ++ w → InPart p.symbols after w v (Nonterminal c) → Contains names c
      second w k (in_first x a b) =
          let outer = nullable_parts before w (Derives-from k m) in
          let inner = nullable_parts x after (Derives-from b n) in
          closed p among (h before after p.nonterminal refl outer.0 inner.1) c (alone_between p.symbols w x c a outer.1 inner.0)
      second w k (in_second x a b) =
          let whole : u ≡ before ++ (p.symbols ++ x) = k ∙ ap (λ l. before ++ l) b in
          h (before ++ Nonterminal p.nonterminal ∷ x) v c (ap (λ l. before ++ Nonterminal p.nonterminal ∷ l) a ∙ sym (append_assoc before (Nonterminal p.nonterminal ∷ x) (Nonterminal c ∷ v)))
          (replace before x p among (Derives-from whole m)) n

      first : InPart before (p.symbols ++ after) u v (Nonterminal c) → Contains names c
      first (in_first w a b) =
          h u (w ++ Nonterminal p.nonterminal ∷ after) c (ap (λ l. l ++ Nonterminal p.nonterminal ∷ after) a ∙ append_assoc u (Nonterminal c ∷ w) (Nonterminal p.nonterminal ∷ after)) m
          (replace w after p among (Derives-from b n))
      first (in_second w a b) = second w b (in_part p.symbols after w v (Nonterminal c) a)

  -- so what a list derives alone is one of them: by induction on the derivation
  pub derived_between : {l m : List Symbol} (b : NonterminalString) → Derives g l m → m ≡ Nonterminal b ∷ [] → HasBetween l → Contains names b
  derived_between b as_it_is e h = h [] [] b e as_it_is as_it_is
  derived_between b (replace before after p among d) e h = derived_between b d e (between_after before after p among h)

-- ---- the places of a list, and the productions, one more
module _ (g : List Production) where
  abbrev pub IsAloneBelow : List Symbol → ℕ → NonterminalString → Type 0
  IsAloneBelow l n b = (k : ℕ) × (k < n) × IsAloneAt g l k b

  pub Below-none : (l : List Symbol) (walk : Names) → Visits (IsAloneBelow l 0) walk walk
  Below-none l walk = Visits-none (IsAloneBelow l 0) walk (λ b h. let m = h.1 in absurd (omega arith))

  pub Below-more : (l : List Symbol) (n : ℕ) (a b c : Names) → Visits (IsAloneBelow l n) a b → Visits (IsAloneAt g l n) b c → Visits (IsAloneBelow l (n + 1)) a c
  Below-more l n a b c x y =
      Visits-then (IsAloneBelow l n) (IsAloneAt g l n) (IsAloneBelow l (n + 1))
      (λ k h. (h.0, omega (arith, h.1), h.2))
      (λ k h. (n, omega arith, h))
      (λ k h. elim (below h.0 n (omega (arith, h.1))) [
        | inl less ↦ inl (h.0, less, h.2)
        | inr e ↦ inr (subst (λ m. IsAloneAt g l m k) e h.2)
      ])
      a b c x y

  pub Below-all : (l : List Symbol) (n : ℕ) (a b : Names) → length l ≤ n → Visits (IsAloneBelow l n) a b → Visits (IsAlone g l) a b
  Below-all l n a b past v = Visits-same (IsAloneBelow l n) (IsAlone g l) (λ k h. (h.0, h.2)) (λ k h. (h.0, (let within = slice_get_within l h.0 (Nonterminal k) h.1.0 in omega arith), h.1)) a b v

  -- one place
  pub At-name : (l : List Symbol) (n : ℕ) (name : NonterminalString) (a b : Names) → slice_get l n ≡ Some (Nonterminal name) → IsNullable g (take n l) → IsNullable g (drop (suc n) l) → Visits (λ k. name ≡ k) a b → Visits (IsAloneAt g l n) a b
  At-name l n name a b at left right v =
      Visits-same (λ k. name ≡ k) (IsAloneAt g l n)
      (λ k e. subst (λ m. IsAloneAt g l n m) e (at, left, right))
      (λ k h. same_nonterminal (same_some (sym at ∙ h.0)))
      a b v

  -- productions
  pub Alone-none : (walk : Names) → Visits (IsAloneOn g []) walk walk
  Alone-none walk = Visits-none (IsAloneOn g []) walk (λ b h. Contains-none h.0 h.1)

  pub Alone-more : (ps : List Production) (p : Production) (a b c : Names) → Visits (IsAloneOn g ps) a b → Visits (IsAlone g p.symbols) b c → Visits (IsAloneOn g (ps ++ p ∷ [])) a c
  Alone-more ps p a b c x y =
      Visits-then (IsAloneOn g ps) (IsAlone g p.symbols) (IsAloneOn g (ps ++ p ∷ []))
      (λ k h. (h.0, Contains-append_left ps (p ∷ []) h.0 h.1, h.2))
      (λ k h. (p, Contains-push ps p, h))
      (λ k h. elim (Contains-push_cases ps p h.0 h.1) [
        | inl f ↦ inl (h.0, f, h.2)
        | inr e ↦ inr (subst (λ (q : Production). IsAlone g q.symbols k) (sym e) h.2)
      ])
      a b c x y

-- ---- the walk
module _ (g : Grammar) (name : NonterminalString) where
  abbrev Rules : List Production
  Rules = productions g

  abbrev Leads : NonterminalString → NonterminalString → Type 0
  Leads a b = IsAloneOn Rules (productions_of g a) b

  abbrev Reach : NonterminalString → Type 0
  Reach b = DerivesAlone Rules name b

  -- the names found so far, and those that are done
  pub record IsDeriving (walk : Names) : Type 0 where
    pub done : List NonterminalString
    pub at : IsTraversing (Leads name) Leads Reach done walk

  pub room : List NonterminalString
  room = flat_map sides Rules

  in_room : (b : NonterminalString) → Reach b → Contains room b
  unfolding room
  in_room b r = elim (derived_from r.3 b (contains_head (Nonterminal b) [])) [
    | inl c ↦ in_sides Rules b (r.0, r.1, c)
    | inr s ↦ in_sides Rules b s
  ]

  -- what the production of a nonterminal has alone is derived from it
  first_reach : IsWellFormed g → (b : NonterminalString) → Leads name b → Reach b
  first_reach well b l = (l.0, productions_among g name l.0 l.1, productions_named g well name l.0 l.1, alone_derives l.0.symbols b l.2)

  onward : IsWellFormed g → (a b : NonterminalString) → Reach a → Leads a b → Reach b
  onward well a b r l =
      let step : Derives Rules (Nonterminal l.0.nonterminal ∷ []) (Nonterminal b ∷ []) = Derives-trans (Derives-production l.0 (productions_among g a l.0 l.1)) (alone_derives l.0.symbols b l.2) in
      (r.0, r.1, r.2, Derives-trans r.3 (subst (λ (n : NonterminalString). Derives Rules (Nonterminal n ∷ []) (Nonterminal b ∷ [])) (productions_named g well a l.0 l.1) step))

  pub Deriving-start : IsWellFormed g → (none walk : Names) → none.visited.keys ≡ [] → none.waiting.items ≡ [] → Visits (IsAloneOn Rules (productions_of g name)) none walk → IsDeriving walk
  Deriving-start well none walk no_visits no_waits v = record {
    done = [];
    at = Traversing-start (Leads name) Leads Reach walk (All-wait (Leads name) none walk no_visits no_waits v) v.there (λ b c. first_reach well b (visited_such (Leads name) none walk no_visits no_waits v b c));
  }

  module _ (well : IsWellFormed g) (key : NonterminalString) (before popped after : Names) (same : popped.visited.keys ≡ before.visited.keys) (taken : before.waiting.items ≡ key ∷ popped.waiting.items) (h : IsDeriving before) (v : Visits (Leads key) popped after) where
    stepped : IsTraversing (Leads name) Leads Reach (h.done ++ key ∷ []) after
    stepped = Traversing-step (Leads name) Leads Reach h.done key before popped after same taken h.at v (λ b r l. onward well key b r l)

    pub Deriving-step : IsDeriving after
    Deriving-step = record { done = h.done ++ key ∷ []; at = stepped }

    pub Deriving-smaller : length room + length after.waiting.items - length after.visited.keys < length room + length before.waiting.items - length before.visited.keys
    Deriving-smaller = Traversing-smaller (Leads name) Leads Reach room in_room h.done (h.done ++ key ∷ []) key before popped after same taken h.at v stepped

  -- when none waits
  pub Deriving-end : ((p : Production) → Contains (productions g) p → Contains (productions_of g p.nonterminal) p) → (walk : Names) → walk.waiting.items ≡ [] → IsDeriving walk → (b : NonterminalString) → Contains walk.visited.keys b ↔ DerivesAlone (productions g) name b
  Deriving-end own walk none h b = (
    h.at.reached b,
    λ r. derived_between Rules walk.visited.keys
        (λ p among c d l. h.at.led p.nonterminal d (Traversing-end (Leads name) Leads Reach h.done walk none h.at p.nonterminal c) (p, own p among, l))
        b r.3 refl
        (λ u v c e m n. h.at.begun c (r.0, subst (λ (a : NonterminalString). Contains (productions_of g a) r.0) r.2 (own r.0 r.1), alone_between r.0.symbols u v c e m n)),
  )

-- ---- one nonterminal after another
abbrev Entry : Type 0
Entry = NonterminalString × NonterminalData

abbrev listed : Entry → List Production
listed e = e.1.productions.items

module _ (terminals : List TerminalString) (actions : ℕ) (g : List Production) where
  pub record IsCollecting (rest : List Entry) (names : List NonterminalString) : Type 0 where
    pub formed : AreWellFormedEntries terminals actions rest
    pub right : (b : NonterminalString) → Contains names b → IsCyclic g b
    pub all : (p : Production) → Contains g p → IsCyclic g p.nonterminal → Contains names p.nonterminal ⊎ Contains (flat_map listed rest) p

  pub Collecting-start : (whole : List Entry) (names : List NonterminalString) → AreWellFormedEntries terminals actions whole → flat_map listed whole ≡ g → ((b : NonterminalString) → Contains names b → IsCyclic g b) → IsCollecting whole names
  Collecting-start whole names formed same right = record {
    formed = formed;
    right = right;
    all = λ p among cyclic. inr (subst (λ (ps : List Production). Contains ps p) (sym same) among);
  }

  pub Collecting-step : (name : NonterminalString) (entry : NonterminalData) (whole rest : List Entry) (old new : List NonterminalString) → whole ≡ (name, entry) ∷ rest → IsCollecting whole old → AddsCyclic g name old new → IsCollecting rest new
  Collecting-step name entry whole rest old new e h adds = record {
    formed = entries_tail terminals actions name entry rest whole e h.formed;
    right = λ b c. elim ((adds b).0 c) [ inl o ↦ h.right b o | inr n ↦ n.1 ];
    all = λ p among cyclic. elim (h.all p among cyclic) [
      | inl o ↦ inl ((adds p.nonterminal).1 (inl o))
      | inr c ↦ elim (Contains-append_cases entry.productions.items (flat_map listed rest) p (subst (λ (es : List Entry). Contains (flat_map listed es) p) e c)) [
        | inl here ↦
            let at = contains_place entry.productions.items p here in
            let named : p.nonterminal ≡ name = ((entries_head terminals actions name entry rest whole e h.formed).each at.0 p at.1).named in
            inl ((adds p.nonterminal).1 (inr (sym named, cyclic)))
        | inr later ↦ inr later
      ]
    ];
  }

  pub Collecting-end : (rest : List Entry) (names : List NonterminalString) → rest ≡ [] → IsCollecting rest names → (a : NonterminalString) → Contains names a ↔ IsCyclic g a
  Collecting-end rest names e h a = (
    h.right a,
    λ cyclic. subst (Contains names) cyclic.2 (elim (h.all cyclic.0 cyclic.1 (subst (IsCyclic g) (sym cyclic.2) cyclic)) [
      | inl c ↦ c
      | inr n ↦ absurd (Contains-none cyclic.0 (subst (λ (es : List Entry). Contains (flat_map listed es) cyclic.0) e n))
    ]),
  )
