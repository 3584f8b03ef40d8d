-- The grammar S = "x" and its two states meet the definitions. The states pass the check, so that
-- they are faithful. The proofs are by cases on the listed items.
use Rattle.std.proofs.Common.{◌≡◌, ◌↔◌, ℕ, zero, suc, Bool, true, false, cond, List, [], ◌∷◌, drop, sym, subst, refl, ap, ◌∙◌, length, Option, Some, None, arith, ◌<◌}
use Rattle.std.specs.Prelude.{Contains, slice_get, eqb}
use Rattle.std.proofs.lemmas.Bool.{eqb-true}
use mathlib.Core.List.{head-eq_of_cons-eq, nil≢cons}
use Rattle.lr1_theory.proofs.Types.{NonterminalString, Production, Symbol, TerminalString, Token}
use Rattle.lalrpop_grammar.specs.declared.repr.Symbol.TheVariants.{Nonterminal, Terminal}
use Rattle.lalrpop_grammar.specs.declared.repr.TerminalString.TheVariants.{Literal, Bare, Error}
use Rattle.lalrpop_grammar.specs.declared.lookahead.token.Token.TheVariants.{Eof, Terminal as TokenOf, Error as ErrorToken}
use Rattle.lalrpop_grammar.specs.Words.{IsOnNoRightSide, Contents, leads, IsBehindDot, LeadsOverDots, ReducesFinished, AreFaithful, InClosure}
use Rattle.lalrpop_grammar.specs.Words.{in_kernel, expanded, IsAtStart, IsMoved, items_of, AreClosed, IsCarried, eof_at_start, over, first_of_rest, through_rest, AreChecked}
use Rattle.lalrpop_grammar.specs.states.States.{Reduction}
use Rattle.lalrpop_grammar.specs.conflicts.Conflicts.{HasNoConflict}
use Rattle.lalrpop_collections.proofs.theory.lists.Lists.{contains-nil, contains_head, some≢none, same_some}
use Rattle.lalrpop_grammar.proofs.theory.grammars.SymbolLists.{not_both}
use Rattle.lr1_theory.proofs.theory.closures.Closures.{checked_faithful}
use Rattle.lr1_theory.proofs.theory.instances.Rows.{one_repeats}
use Rattle.lalrpop_grammar.proofs.theory.lists.ListEnds.{only_one}

-- the names, the production and the grammar
abbrev pub S : NonterminalString
S = record { text = 83 ∷ [] }

abbrev pub x : TerminalString
x = Literal (120 ∷ [])

abbrev pub P : Production
P = record { nonterminal = S; symbols = Terminal x ∷ []; action = record { 0 = 0 }; span = record { 0 = 0; 1 = 7 } }

abbrev pub g : List Production
g = P ∷ []

-- whether a text is "x"
abbrev pub is_x : List ℕ → Bool
is_x [] = false
is_x (c ∷ []) = eqb c 120
is_x (c ∷ d ∷ w) = false

-- the target of a shift of x, and none for another terminal
abbrev pub only : TerminalString → Option ℕ
only (Literal w) = cond (is_x w) (Some 1) None
only (Bare w) = None
only Error = None

-- the set of Eof alone
abbrev pub at_eof : Token → Bool
at_eof Eof = true
at_eof ErrorToken = false
at_eof (TokenOf t) = false

-- the reduction by the production on Eof
abbrev pub reduction : Reduction
reduction = record { production = P; holds = at_eof }

-- the states: state 0 shifts x to state 1, which reduces on Eof
abbrev pub states : ℕ → Contents
states zero = record { items = (P, 0) ∷ []; shift = only; goto = λ a. None; reductions = [] }
states (suc zero) = record { items = (P, 1) ∷ []; shift = λ t. None; goto = λ a. None; reductions = reduction ∷ [] }
states (suc (suc n)) = record { items = []; shift = λ t. None; goto = λ a. None; reductions = [] }

-- x is the only terminal that is shifted, to state 1
pub only_x : (t : TerminalString) (m : ℕ) → only t ≡ Some m → (x ≡ t) × (1 ≡ m)
only_x (Literal []) m e = absurd (some≢none (sym e))
only_x (Literal (c ∷ [])) m e = go (eqb c 120) refl e
  where
    go : (b : Bool) → eqb c 120 ≡ b → cond b (Some 1) None ≡ Some m → (x ≡ Literal (c ∷ [])) × (1 ≡ m)
    go true h k = (ap (λ d. Literal (d ∷ [])) (sym (eqb-true c 120 h)), same_some k)
    go false h k = absurd (some≢none (sym k))
only_x (Literal (c ∷ d ∷ w)) m e = absurd (some≢none (sym e))
only_x (Bare w) m e = absurd (some≢none (sym e))
only_x Error m e = absurd (some≢none (sym e))

-- the edge over x from state 0 to state 1 is the only one
pub leads_is : (n m : ℕ) (y : Symbol) → leads (states n) y ≡ Some m → (0 ≡ n) × (Terminal x ≡ y) × (1 ≡ m)
leads_is zero m (Nonterminal a) e = absurd (some≢none (sym e))
leads_is zero m (Terminal t) e = let o = only_x t m e in (refl, ap Terminal o.0, o.1)
leads_is (suc zero) m (Nonterminal a) e = absurd (some≢none (sym e))
leads_is (suc zero) m (Terminal t) e = absurd (some≢none (sym e))
leads_is (suc (suc n)) m (Nonterminal a) e = absurd (some≢none (sym e))
leads_is (suc (suc n)) m (Terminal t) e = absurd (some≢none (sym e))

-- the symbols after the dot of an item
abbrev behind_of : Production × ℕ → List Symbol
behind_of z = drop z.1 (z.0).symbols

-- the closure of the start has the start item alone
only_first : {p : Production} {dot : ℕ} → InClosure g (IsAtStart g S) p dot → ◌≡◌ {A = Production × ℕ} (P, 0) (p, dot)
only_first (in_kernel k) = λ i. (only_one P _ k.1 i, sym k.0 i)
only_first (expanded q after c e h) = absurd (not_both (sym (head-eq_of_cons-eq (ap behind_of (only_first c) ∙ e))))

-- the closure of the items that are moved from state 0 has one item, with its dot at the end
only_moved : (y : Symbol) {p : Production} {dot : ℕ} → InClosure g (IsMoved (items_of states 0) y) p dot → ◌≡◌ {A = Production × ℕ} (P, 1) (p, dot)
only_moved y {p} (in_kernel k) =
    let e = only_one (P, 0) (p, k.before) k.item in
    (λ i. ((e i).0, suc (e i).1)) ∙ (λ i. (p, sym k.moved i))
only_moved y (expanded q after c e h) = absurd (nil≢cons (ap behind_of (only_moved y c) ∙ e))

-- the symbols that lead from each state are exactly those after its dots
edges : (n : ℕ) → LeadsOverDots (states n)
edges n y = (λ h. to n h.0 (leads_is n h.0 y h.1), from n)
  where
    to : (n m : ℕ) → (0 ≡ n) × (Terminal x ≡ y) × (1 ≡ m) → IsBehindDot (states n) y
    to n m l = subst (λ k. IsBehindDot (states k) y) l.0 (record { production = P; dot = 0; after = []; item = contains_head (P, 0) []; behind = ap (λ z. z ∷ []) l.1 })

    from : (n : ℕ) → IsBehindDot (states n) y → (m : ℕ) × (leads (states n) y ≡ Some m)
    from zero b =
        let e : Terminal x ≡ y = head-eq_of_cons-eq (ap behind_of (only_one (P, 0) (b.production, b.dot) b.item) ∙ b.behind) in
        (1, ap (leads (states 0)) (sym e))
    from (suc zero) b = absurd (nil≢cons (ap behind_of (only_one (P, 1) (b.production, b.dot) b.item) ∙ b.behind))
    from (suc (suc n)) b = absurd (contains-nil b.item)

-- the states are closed
pub closed : AreClosed g S states
closed = record {
  first = λ p dot. (
    λ c. subst (λ (z : Production × ℕ). InClosure g (IsAtStart g S) z.0 z.1) (only_one (P, 0) (p, dot) c) (in_kernel (refl, contains_head P [], refl)),
    λ k. subst (λ z. Contains ((P, 0) ∷ []) z) (only_first k) (contains_head (P, 0) []),
  );
  next = λ n m y e. let l = leads_is n m y e in next n m y l.0 l.1 l.2;
  edges = edges;
}
  where
    moved : (y : Symbol) → Terminal x ≡ y → (p : Production) (dot : ℕ) → items_of states 1 p dot ↔ InClosure g (IsMoved (items_of states 0) y) p dot
    moved y e p dot = (
      λ c. subst (λ (z : Production × ℕ). InClosure g (IsMoved (items_of states 0) y) z.0 z.1) (only_one (P, 1) (p, dot) c)
          (in_kernel (record { before = 0; after = []; moved = refl; item = contains_head (P, 0) []; behind = ap (λ z. z ∷ []) e })),
      λ k. subst (λ z. Contains ((P, 1) ∷ []) z) (only_moved y k) (contains_head (P, 1) []),
    )

    next : (n m : ℕ) (y : Symbol) → 0 ≡ n → Terminal x ≡ y → 1 ≡ m → (p : Production) (dot : ℕ) → items_of states m p dot ↔ InClosure g (IsMoved (items_of states n) y) p dot
    next n m y e k l p dot = subst (λ i. items_of states m p dot ↔ InClosure g (IsMoved (items_of states i) y) p dot) e (subst (λ i. items_of states i p dot ↔ InClosure g (IsMoved (items_of states 0) y) p dot) l (moved y k p dot))

-- the start symbol is on no right side
pub alone : IsOnNoRightSide g S
alone p h c = not_both (sym (only_one (Terminal x) (Nonterminal S) (subst (λ (q : Production). Contains q.symbols (Nonterminal S)) (sym (only_one P p h)) c)))

-- the dot of the production is not at its end in state 0
whole_dot : (p : Production) → ◌≡◌ {A = Production × ℕ} (P, 0) (p, length p.symbols) → ⊥
whole_dot p e =
    let a : 0 ≡ length p.symbols = ap (λ (z : Production × ℕ). z.1) e in
    let b : 1 ≡ length p.symbols = ap (λ (z : Production × ℕ). length (z.0).symbols) e in
    omega (arith, a, b)

-- the reductions of each state are its finished dotted productions
pub reductions : (n : ℕ) → ReducesFinished (states n)
reductions zero = record { finished = λ p. (λ h. absurd (contains-nil h.1), λ c. absurd (whole_dot p (only_one (P, 0) (p, length p.symbols) c))); once = λ i j a b l e f k. some≢none (sym e) }
reductions (suc zero) = record {
  finished = λ p. (
    λ h.
        let e : P ≡ p = ap (λ (r : Reduction). r.production) (only_one reduction h.0 h.1) ∙ h.2 in
        subst (λ (q : Production). Contains {X = Production × ℕ} ((P, 1) ∷ []) (q, length q.symbols)) e (contains_head (P, 1) []),
    λ c. (reduction, contains_head reduction [], ap (λ (z : Production × ℕ). z.0) (only_one (P, 1) (p, length p.symbols) c)),
  );
  once = one_repeats reduction;
}
reductions (suc (suc n)) = record { finished = λ p. (λ h. absurd (contains-nil h.1), λ c. absurd (contains-nil c)); once = λ i j a b l e f k. some≢none (sym e) }

-- no nonterminal is after a dot of the production
pub no_nonterminal : (p : Production) (dot : ℕ) (a : NonterminalString) (after : List Symbol) → P ≡ p → drop dot p.symbols ≡ Nonterminal a ∷ after → ⊥
no_nonterminal p dot a after e k = go dot (ap (λ (q : Production). drop dot q.symbols) e ∙ k)
  where
    go : (d : ℕ) → drop d (Terminal x ∷ []) ≡ Nonterminal a ∷ after → ⊥
    go zero i = not_both (sym (head-eq_of_cons-eq i))
    go (suc zero) i = nil≢cons i
    go (suc (suc d)) i = nil≢cons i

-- each item is of the production
item_production : (n : ℕ) (p : Production) (dot : ℕ) → items_of states n p dot → P ≡ p
item_production zero p dot c = ap (λ (z : Production × ℕ). z.0) (only_one (P, 0) (p, dot) c)
item_production (suc zero) p dot c = ap (λ (z : Production × ℕ). z.0) (only_one (P, 1) (p, dot) c)
item_production (suc (suc n)) p dot c = absurd (contains-nil c)

-- only Eof is carried
only_eof : {n : ℕ} {p : Production} {dot : ℕ} {t : Token} → IsCarried g S states n p dot t → (P ≡ p) × (Eof ≡ t)
only_eof (eof_at_start p h e) = (only_one P p h, refl)
only_eof (over m y after c e k) = only_eof c
only_eof (first_of_rest {n} {p} {dot} q after reached i k h f) = absurd (no_nonterminal p dot q.nonterminal after (item_production n p dot i) k)
only_eof (through_rest {p = p} {dot = dot} q after c k h n) = absurd (no_nonterminal p dot q.nonterminal after (only_eof c).0 k)

-- no state has a conflict
no_conflict : (n : ℕ) → HasNoConflict (states n)
no_conflict zero = record { shifts = λ y m r e c h. contains-nil c; reductions = λ i j a b t l e f h k. some≢none (sym e) }
no_conflict (suc zero) = record { shifts = λ y m r e c h. some≢none (sym e); reductions = λ i j a b t l e f h k. two i j a b l f }
  where
    two : (i j : ℕ) (a b : Reduction) → i < j → slice_get (reduction ∷ []) j ≡ Some b → ⊥
    two i zero a b l f = omega (arith, l)
    two i (suc j) a b l f = some≢none (sym f)
no_conflict (suc (suc n)) = record { shifts = λ y m r e c h. contains-nil c; reductions = λ i j a b t l e f h k. some≢none (sym e) }

-- the states pass the check
pub checked : AreChecked g S states
checked = record { closed = closed; reductions = reductions; carried = carried; no_conflict = no_conflict }
  where
    carried : (n : ℕ) (r : Reduction) (t : Token) → Contains (states n).reductions r → IsCarried g S states n r.production (length (r.production).symbols) t → r.holds t ≡ true
    carried zero r t h c = absurd (contains-nil h)
    carried (suc zero) r t h c = ap (λ s. r.holds s) (sym (only_eof c).1) ∙ ap (λ (q : Reduction). q.holds Eof) (sym (only_one reduction r h))
    carried (suc (suc n)) r t h c = absurd (contains-nil h)

-- the states are faithful
pub faithful : AreFaithful g S states
faithful = checked_faithful g S states checked
