-- A table that is given as rows meets the definitions if finitely many properties of its rows hold.
-- The proofs go through the lists.
use Rattle.std.proofs.Common.{◌≡◌, ◌↔◌, ℕ, zero, suc, Bool, true, false, cond, true≢false, List, [], ◌∷◌, drop, length, sym, subst, refl, ap₂, Option, Some, None, inl, inr, arith}
use Rattle.std.specs.Prelude.{Contains, eqb}
use Rattle.std.proofs.lemmas.Bool.{eqb-true}
use Rattle.lr1_theory.proofs.Types.{Production, Symbol, TerminalString}
use Rattle.lalrpop_grammar.specs.declared.repr.Symbol.TheVariants.{Nonterminal, Terminal}
use Rattle.lalrpop_grammar.specs.declared.repr.TerminalString.TheVariants.{Literal, Bare, Error}
use Rattle.lalrpop_grammar.specs.Words.{Contents, leads, IsBehindDot, LeadsOverDots, HasNoRepeat, ReducesFinished, InClosure, in_kernel, expanded, IsMoved}
use Rattle.lalrpop_grammar.specs.states.States.{Reduction}
use Rattle.lalrpop_collections.proofs.theory.lists.Lists.{contains-cons, contains-nil, some≢none, same_some, contains_head, contains_tail}

-- the property holds for each element of the list
abbrev pub Each : {A : Type 0} → (A → Type 0) → List A → Type 0
Each P [] = Unit {0}
Each P (x ∷ xs) = P x × Each P xs

-- the property of each element holds for an element of the list
pub each_at : {A : Type 0} (P : A → Type 0) (xs : List A) → Each P xs → (x : A) → Contains xs x → P x
each_at P [] h x c = absurd (contains-nil c)
each_at P (y ∷ ys) h x c = elim (contains-cons y ys x c) [ inl e ↦ subst P e h.0 | inr k ↦ each_at P ys h.1 x k ]

-- whether two texts are equal
abbrev pub same_text : List ℕ → List ℕ → Bool
same_text [] [] = true
same_text [] (d ∷ w) = false
same_text (c ∷ v) [] = false
same_text (c ∷ v) (d ∷ w) = cond (eqb c d) (same_text v w) false

-- texts that pass the test are equal
pub same_text_true : (v w : List ℕ) → same_text v w ≡ true → v ≡ w
same_text_true [] [] e = refl
same_text_true [] (d ∷ w) e = absurd (true≢false (sym e))
same_text_true (c ∷ v) [] e = absurd (true≢false (sym e))
same_text_true (c ∷ v) (d ∷ w) e = go (eqb c d) refl e (same_text_true v w)
  where
    go : (b : Bool) → eqb c d ≡ b → cond b (same_text v w) false ≡ true → (same_text v w ≡ true → v ≡ w) → c ∷ v ≡ d ∷ w
    go true h k more = ap₂ (λ z zs. z ∷ zs) (eqb-true c d h) (more k)
    go false h k more = absurd (true≢false (sym k))

-- the number of a text in a list of pairs, if it has the text
abbrev pub find : List (List ℕ × ℕ) → List ℕ → Option ℕ
find [] w = None
find (e ∷ es) w = cond (same_text e.0 w) (Some e.1) (find es w)

-- a number that is found for a text is listed with it
pub find_listed : (es : List (List ℕ × ℕ)) (w : List ℕ) (n : ℕ) → find es w ≡ Some n → Contains es (w, n)
find_listed [] w n h = absurd (some≢none (sym h))
find_listed (e ∷ es) w n h = go (same_text e.0 w) refl h (find_listed es w n)
  where
    go : (b : Bool) → same_text e.0 w ≡ b → cond b (Some e.1) (find es w) ≡ Some n → (find es w ≡ Some n → Contains es (w, n)) → Contains (e ∷ es) (w, n)
    go true h k more =
        let same : ◌≡◌ {A = List ℕ × ℕ} e (w, n) = λ i. (same_text_true e.0 w h i, same_some k i) in
        subst (Contains (e ∷ es)) same (contains_head e es)
    go false h k more = contains_tail e es (w, n) (more k)

-- a row of a table: its dotted productions, the targets of literals and names, and its reductions
pub record Row : Type 0 where
  pub items : List (Production × ℕ)
  pub shifts : List (List ℕ × ℕ)
  pub gotos : List (List ℕ × ℕ)
  pub reductions : List Reduction

-- the target of a terminal, if it is a literal of the list
abbrev pub shift_in : List (List ℕ × ℕ) → TerminalString → Option ℕ
shift_in es (Literal w) = find es w
shift_in es (Bare w) = None
shift_in es Error = None

-- the contents of the state of a row
abbrev pub state_of : Row → Contents
state_of r = record { items = r.items; shift = shift_in r.shifts; goto = λ a. find r.gotos a.text; reductions = r.reductions }

-- the property holds for each edge of the row
abbrev pub EachEdge : Row → (Symbol → ℕ → Type 0) → Type 0
EachEdge r P = Each (λ (e : List ℕ × ℕ). P (Terminal (Literal e.0)) e.1) r.shifts × Each (λ (e : List ℕ × ℕ). P (Nonterminal (record { text = e.0 })) e.1) r.gotos

-- a property of each listed edge is one of each edge of the state
pub edge_at : (r : Row) (P : Symbol → ℕ → Type 0) → EachEdge r P → (x : Symbol) (m : ℕ) → leads (state_of r) x ≡ Some m → P x m
edge_at r P h (Terminal (Literal w)) m e = each_at (λ (e : List ℕ × ℕ). P (Terminal (Literal e.0)) e.1) r.shifts h.0 (w, m) (find_listed r.shifts w m e)
edge_at r P h (Terminal (Bare w)) m e = absurd (some≢none (sym e))
edge_at r P h (Terminal Error) m e = absurd (some≢none (sym e))
edge_at r P h (Nonterminal a) m e = each_at (λ (e : List ℕ × ℕ). P (Nonterminal (record { text = e.0 })) e.1) r.gotos h.1 (a.text, m) (find_listed r.gotos a.text m e)

-- the property holds for the symbol after a dot and the symbols after it, if there are any
abbrev pub Behind : (Symbol → List Symbol → Type 0) → List Symbol → Type 0
Behind P [] = Unit {0}
Behind P (x ∷ after) = P x after

abbrev pub EachBehind : (Production → ℕ → Symbol → List Symbol → Type 0) → List (Production × ℕ) → Type 0
EachBehind P items = Each (λ (i : Production × ℕ). Behind (P i.0 i.1) (drop i.1 (i.0).symbols)) items

-- a property of the symbols after each dot is one of those after the dot of a listed item
pub behind_at : (P : Production → ℕ → Symbol → List Symbol → Type 0) (items : List (Production × ℕ)) → EachBehind P items → (p : Production) (dot : ℕ) (x : Symbol) (after : List Symbol) → Contains items (p, dot) → drop dot p.symbols ≡ x ∷ after → P p dot x after
behind_at P items h p dot x after c e = subst (Behind (P p dot)) e (each_at (λ (i : Production × ℕ). Behind (P i.0 i.1) (drop i.1 (i.0).symbols)) items h (p, dot) c)

-- the symbols that lead from a row are exactly those after its dots
pub row_edges : (r : Row) → EachEdge r (λ x m. IsBehindDot (state_of r) x) → EachBehind (λ p dot x after. (m : ℕ) × (leads (state_of r) x ≡ Some m)) r.items → LeadsOverDots (state_of r)
row_edges r h k x = (
  λ e. edge_at r (λ x m. IsBehindDot (state_of r) x) h x e.0 e.1,
  λ b. behind_at (λ p dot x after. (m : ℕ) × (leads (state_of r) x ≡ Some m)) r.items k b.production b.dot x b.after b.item b.behind,
)

-- each production of the nonterminal is among the items, with the dot at the start
abbrev pub Expands : List Production → List (Production × ℕ) → Symbol → Type 0
Expands g items (Terminal t) = Unit {0}
Expands g items (Nonterminal a) = Each (λ q. q.nonterminal ≡ a → Contains items (q, 0)) g

-- items are the closure of a kernel if they have the kernel and the productions of each nonterminal
-- after a dot, and no others
pub row_closure :
    (g : List Production) (kernel : Production → ℕ → Type 0) (items : List (Production × ℕ)) → Each (λ (i : Production × ℕ). InClosure g kernel i.0 i.1) items → ((p : Production) (dot : ℕ) → kernel p dot → Contains items (p, dot)) →
    EachBehind (λ p dot x after. Expands g items x) items → (p : Production) (dot : ℕ) → Contains items (p, dot) ↔ InClosure g kernel p dot
row_closure g kernel items sound holds expands p dot = (λ c. each_at (λ (i : Production × ℕ). InClosure g kernel i.0 i.1) items sound (p, dot) c, within)
  where
    within : {p : Production} {dot : ℕ} → InClosure g kernel p dot → Contains items (p, dot)
    within {p} {dot} (in_kernel k) = holds p dot k
    within (expanded {p} {dot} q after c e h) =
        each_at (λ r. r.nonterminal ≡ q.nonterminal → Contains items (r, 0)) g (behind_at (λ p dot x after. Expands g items x) items expands p dot (Nonterminal q.nonterminal) after (within c) e) q h refl

-- the items that are moved over a symbol are among the items
pub row_moved :
    (from to : List (Production × ℕ)) (x : Symbol) → EachBehind (λ p dot y after. y ≡ x → Contains to (p, suc dot)) from → (p : Production) (dot : ℕ) → IsMoved (λ q d. Contains from (q, d)) x p dot → Contains to (p, dot)
row_moved from to x h p dot m =
    subst (λ d. Contains to (p, d)) (sym m.moved) (behind_at (λ p dot y after. y ≡ x → Contains to (p, suc dot)) from h p m.before x m.after m.item m.behind refl)

-- the reductions of a row are its finished dotted productions, if it has at most one
pub row_reductions :
    (r : Row) → Each (λ (q : Reduction). Contains r.items (q.production, length (q.production).symbols)) r.reductions →
    Each (λ (i : Production × ℕ). i.1 ≡ length (i.0).symbols → (q : Reduction) × Contains r.reductions q × (q.production ≡ i.0)) r.items → HasNoRepeat r.reductions → ReducesFinished (state_of r)
row_reductions r h k once = record {
  finished = λ p. (
    λ c. subst (λ (q : Production). Contains r.items (q, length q.symbols)) c.2 (each_at (λ (q : Reduction). Contains r.items (q.production, length (q.production).symbols)) r.reductions h c.0 c.1),
    λ c. each_at (λ (i : Production × ℕ). i.1 ≡ length (i.0).symbols → (q : Reduction) × Contains r.reductions q × (q.production ≡ i.0)) r.items k (p, length p.symbols) c refl,
  );
  once = once;
}

-- no reduction repeats in an empty list
pub none_repeats : HasNoRepeat []
none_repeats i j a b l e f k = some≢none (sym e)

-- no reduction repeats in a list of one
pub one_repeats : (r : Reduction) → HasNoRepeat (r ∷ [])
one_repeats r i zero a b l e f k = omega (arith, l)
one_repeats r i (suc j) a b l e f k = some≢none (sym f)
