-- The five states of S = A B; A = "x"; B = () | "y" hold the tokens that are carried to them, and
-- have no conflict. So they are faithful, and their runs return trees.
-- The proofs go through the rows.
use Rattle.std.proofs.Common.{◌≡◌, ◌<◌, ℕ, zero, suc, true, true≢false, List, [], ◌∷◌, ◌++◌, append-nil, drop, sym, subst, refl, ap, ◌∙◌, Some, length, arith, inl, inr}
use Rattle.std.specs.Prelude.{Contains, slice_get}
use mathlib.Core.List.{head-eq_of_cons-eq, tail-eq_of_cons-eq, nil≢cons}
use Rattle.lr1_theory.proofs.Types.{Production, Symbol, TerminalString, Token}
use Rattle.lalrpop_grammar.specs.declared.repr.Symbol.TheVariants.{Nonterminal, Terminal}
use Rattle.lalrpop_grammar.specs.declared.repr.TerminalString.TheVariants.{Literal, Bare, Error}
use Rattle.lalrpop_grammar.specs.declared.lookahead.token.Token.TheVariants.{Eof, Terminal as TokenOf}
use Rattle.lalrpop_grammar.specs.Words.{IsFirst, IsOnNoRightSide, leads, AreFaithful, IsCarried, eof_at_start, over, first_of_rest, through_rest, AreChecked, Tree}
use Rattle.lalrpop_grammar.specs.Words.{Leaf, Node, no_trees, beside, here, further, HasOutcome, Parsed, parsed}
use Rattle.lalrpop_grammar.specs.states.States.{Reduction}
use Rattle.lalrpop_grammar.specs.conflicts.Conflicts.{HasNoConflict}
use Rattle.lalrpop_collections.proofs.theory.lists.Lists.{contains-cons, contains-nil, some≢none, same_some}
use Rattle.lalrpop_grammar.proofs.theory.grammars.SymbolLists.{not_both, same_terminal, same_nonterminal}
use Rattle.lalrpop_grammar.proofs.theory.grammars.Forests.{Forest, empty, leaf, node, Forest-from, derives_forest, forest-nil, first-nil, forest-terminal}
use Rattle.lr1_theory.proofs.theory.closures.Closures.{checked_faithful}
use Rattle.lr1_theory.proofs.theory.instances.Rows.{Each, each_at, shift_in, Behind, EachBehind, behind_at}
use Rattle.lr1_theory.proofs.theory.instances.FiveStates.{S, A, B, x, y, PS, PA, PE, PB, g, by, by_A, rows, states, S≢A, S≢B, A≢B, closed, reductions}

-- a dotted production and a token
abbrev Carried : Type 0
Carried = Production × ℕ × Token

-- the dotted productions of each state, with the tokens that are carried to them
abbrev carried_to : ℕ → List Carried
carried_to zero = (PS, 0, Eof) ∷ (PA, 0, TokenOf y) ∷ (PA, 0, Eof) ∷ []
carried_to (suc zero) = (PS, 1, Eof) ∷ (PE, 0, Eof) ∷ (PB, 0, Eof) ∷ []
carried_to (suc (suc zero)) = (PA, 1, TokenOf y) ∷ (PA, 1, Eof) ∷ []
carried_to (suc (suc (suc zero))) = (PS, 2, Eof) ∷ []
carried_to (suc (suc (suc (suc zero)))) = (PB, 1, Eof) ∷ []
carried_to (suc (suc (suc (suc (suc n))))) = []

-- the property holds for each of these dotted productions with a symbol after its dot
abbrev EachStep : (Production → ℕ → Token → Symbol → List Symbol → Type 0) → List Carried → Type 0
EachStep P cs = Each (λ (c : Carried). Behind (P c.0 c.1 c.2) (drop c.1 (c.0).symbols)) cs

-- the property holds for one of these dotted productions
step_at : (P : Production → ℕ → Token → Symbol → List Symbol → Type 0) (cs : List Carried) → EachStep P cs → (p : Production) (dot : ℕ) (t : Token) (z : Symbol) (after : List Symbol) → Contains cs (p, dot, t) → drop dot p.symbols ≡ z ∷ after → P p dot t z after
step_at P cs h p dot t z after c e = subst (Behind (P p dot t)) e (each_at (λ (c : Carried). Behind (P c.0 c.1 c.2) (drop c.1 (c.0).symbols)) cs h (p, dot, t) c)

-- y is the only terminal in FIRST of B
first_B : (t : TerminalString) → IsFirst g (Nonterminal B ∷ []) t → y ≡ t
first_B t h = go (derives_forest h.1) refl refl
  where
    begins : (q : Production) → Contains g q → q.nonterminal ≡ B → (m : List Symbol) → Forest g q.symbols m → m ≡ Terminal t ∷ h.0 → y ≡ t
    begins =
        each_at (λ q. q.nonterminal ≡ B → (m : List Symbol) → Forest g q.symbols m → m ≡ Terminal t ∷ h.0 → y ≡ t) g
        ((λ e m d k. absurd (S≢B e)), ((λ e m d k. absurd (A≢B e)), ((λ e m d k. absurd (nil≢cons (sym (forest-nil d) ∙ k))), ((λ e m d k. let z = forest-terminal d in same_terminal (head-eq_of_cons-eq (sym z.1 ∙ k))), tt))))

    go : {l n : List Symbol} → Forest g l n → l ≡ Nonterminal B ∷ [] → n ≡ Terminal t ∷ h.0 → y ≡ t
    go empty e k = absurd (nil≢cons e)
    go (leaf z f) e k = absurd (not_both (sym (head-eq_of_cons-eq e) ∙ head-eq_of_cons-eq k))
    go (node p {m = m} {n = n} c d f) e k =
        let nothing : n ≡ [] = forest-nil (Forest-from (tail-eq_of_cons-eq e) f) in
        begins p c (same_nonterminal (head-eq_of_cons-eq e)) m d (sym (append-nil m) ∙ ap (λ l. m ++ l) (sym nothing) ∙ k)

-- the token is carried over the edge of the symbol after the dot
abbrev LeadsOn : ℕ → Production → ℕ → Token → Symbol → List Symbol → Type 0
LeadsOn n p dot t z after = (m : ℕ) → leads (states n) z ≡ Some m → Contains (carried_to m) (p, suc dot, t)

-- each row has this property
leads_on : (n : ℕ) → EachStep (LeadsOn n) (carried_to n)
leads_on zero = (
  λ m e. subst (λ k. Contains (carried_to k) (PS, 1, Eof)) (same_some e) (0, omega arith, refl),
  (λ m e. subst (λ k. Contains (carried_to k) (PA, 1, TokenOf y)) (same_some e) (0, omega arith, refl), (λ m e. subst (λ k. Contains (carried_to k) (PA, 1, Eof)) (same_some e) (1, omega arith, refl), tt)),
)
leads_on (suc zero) = (
  λ m e. subst (λ k. Contains (carried_to k) (PS, 2, Eof)) (same_some e) (0, omega arith, refl),
  (tt, (λ m e. subst (λ k. Contains (carried_to k) (PB, 1, Eof)) (same_some e) (0, omega arith, refl), tt)),
)
leads_on (suc (suc zero)) = (tt, (tt, tt))
leads_on (suc (suc (suc zero))) = (tt, tt)
leads_on (suc (suc (suc (suc zero)))) = (tt, tt)
leads_on (suc (suc (suc (suc (suc n))))) = tt

-- FIRST of the symbols after a nonterminal is carried to the productions of the nonterminal
abbrev Begins : ℕ → Production → ℕ → Symbol → List Symbol → Type 0
Begins n p dot (Terminal t) after = Unit {0}
Begins n p dot (Nonterminal a) after = Each (λ q. q.nonterminal ≡ a → (t : TerminalString) → IsFirst g after t → Contains (carried_to n) (q, 0, TokenOf t)) g

-- each row has this property
begins : (n : ℕ) → EachBehind (Begins n) (rows n).items
begins zero = (
  ((λ e t f. absurd (S≢A e)), ((λ e t f. subst (λ s. Contains (carried_to 0) (PA, 0, TokenOf s)) (first_B t f) (1, omega arith, refl)), ((λ e t f. absurd (A≢B (sym e))), ((λ e t f. absurd (A≢B (sym e))), tt)))),
  (tt, tt),
)
begins (suc zero) = (((λ e t f. absurd (first-nil t f)), ((λ e t f. absurd (first-nil t f)), ((λ e t f. absurd (first-nil t f)), ((λ e t f. absurd (first-nil t f)), tt)))), (tt, (tt, tt)))
begins (suc (suc zero)) = (tt, tt)
begins (suc (suc (suc zero))) = (tt, tt)
begins (suc (suc (suc (suc zero)))) = (tt, tt)
begins (suc (suc (suc (suc (suc n))))) = tt

-- the token of an item is carried to the productions of the nonterminal after its dot
abbrev Inherits : ℕ → Production → ℕ → Token → Symbol → List Symbol → Type 0
Inherits n p dot t (Terminal s) after = Unit {0}
Inherits n p dot t (Nonterminal a) after = Each (λ q. q.nonterminal ≡ a → Contains (carried_to n) (q, 0, t)) g

-- each row has this property
inherits : (n : ℕ) → EachStep (Inherits n) (carried_to n)
inherits zero = (((λ e. absurd (S≢A e)), ((λ e. (2, omega arith, refl)), ((λ e. absurd (A≢B (sym e))), ((λ e. absurd (A≢B (sym e))), tt)))), (tt, (tt, tt)))
inherits (suc zero) = (((λ e. absurd (S≢B e)), ((λ e. absurd (A≢B e)), ((λ e. (1, omega arith, refl)), ((λ e. (2, omega arith, refl)), tt)))), (tt, (tt, tt)))
inherits (suc (suc zero)) = (tt, (tt, tt))
inherits (suc (suc (suc zero))) = (tt, tt)
inherits (suc (suc (suc (suc zero)))) = (tt, tt)
inherits (suc (suc (suc (suc (suc n))))) = tt

-- nothing else is carried
carried_there : {n : ℕ} {p : Production} {dot : ℕ} {t : Token} → IsCarried g S states n p dot t → Contains (carried_to n) (p, dot, t)
carried_there (eof_at_start p h e) =
    each_at (λ q. q.nonterminal ≡ S → Contains (carried_to 0) (q, 0, Eof)) g
    ((λ e. (0, omega arith, refl)), ((λ e. absurd (S≢A (sym e))), ((λ e. absurd (S≢B (sym e))), ((λ e. absurd (S≢B (sym e))), tt)))) p h e
carried_there (over {n} {p} {dot} {t} m z after c e k) = step_at (LeadsOn n) (carried_to n) (leads_on n) p dot t z after (carried_there c) k m e
carried_there (first_of_rest {n} {p} {dot} {t} q after r i e h f) =
    each_at (λ b. b.nonterminal ≡ q.nonterminal → (t : TerminalString) → IsFirst g after t → Contains (carried_to n) (b, 0, TokenOf t)) g (behind_at (Begins n) (rows n).items (begins n) p dot (Nonterminal q.nonterminal) after i e) q h refl t f
carried_there (through_rest {n} {p} {dot} {t} q after c e h k) =
    each_at (λ b. b.nonterminal ≡ q.nonterminal → Contains (carried_to n) (b, 0, t)) g (step_at (Inherits n) (carried_to n) (inherits n) p dot t (Nonterminal q.nonterminal) after (carried_there c) e) q h refl

-- a list of one reduction has no other
only : (r q : Reduction) → Contains (r ∷ []) q → r ≡ q
only r q c = elim (contains-cons r [] q c) [ inl e ↦ e | inr k ↦ absurd (contains-nil k) ]

-- a list of one reduction has no second one
single : (r : Reduction) (i j : ℕ) (b : Reduction) → i < j → slice_get (r ∷ []) j ≡ Some b → ⊥
single r i zero b l f = omega (arith, l)
single r i (suc j) b l f = some≢none (sym f)

-- an empty list of shifts has no shift
no_shift : (z : TerminalString) (m : ℕ) → shift_in [] z ≡ Some m → ⊥
no_shift (Literal w) m e = some≢none (sym e)
no_shift (Bare w) m e = some≢none (sym e)
no_shift Error m e = some≢none (sym e)

-- no state has a conflict
no_conflict : (n : ℕ) → HasNoConflict (states n)
no_conflict zero = record { shifts = λ z m r e c h. contains-nil c; reductions = λ i j a b t l e f h k. some≢none (sym e) }
no_conflict (suc zero) = record { shifts = λ z m r e c h. true≢false (sym h ∙ ap (λ (q : Reduction). q.holds (TokenOf z)) (sym (only (by PE) r c))); reductions = λ i j a b t l e f h k. single (by PE) i j b l f }
no_conflict (suc (suc zero)) = record { shifts = λ z m r e c h. no_shift z m e; reductions = λ i j a b t l e f h k. single by_A i j b l f }
no_conflict (suc (suc (suc zero))) = record { shifts = λ z m r e c h. no_shift z m e; reductions = λ i j a b t l e f h k. single (by PS) i j b l f }
no_conflict (suc (suc (suc (suc zero)))) = record { shifts = λ z m r e c h. no_shift z m e; reductions = λ i j a b t l e f h k. single (by PB) i j b l f }
no_conflict (suc (suc (suc (suc (suc n))))) = record { shifts = λ z m r e c h. contains-nil c; reductions = λ i j a b t l e f h k. some≢none (sym e) }

-- each reduction holds all tokens that are carried to its state
holds_carried : (n : ℕ) → Each (λ (r : Reduction). Each (λ (c : Carried). r.holds c.2 ≡ true) (carried_to n)) (states n).reductions
holds_carried zero = tt
holds_carried (suc zero) = ((refl, (refl, (refl, tt))), tt)
holds_carried (suc (suc zero)) = ((refl, (refl, tt)), tt)
holds_carried (suc (suc (suc zero))) = ((refl, tt), tt)
holds_carried (suc (suc (suc (suc zero)))) = ((refl, tt), tt)
holds_carried (suc (suc (suc (suc (suc n))))) = tt

-- the states pass the check
pub checked : AreChecked g S states
checked = record {
  closed = closed;
  reductions = reductions;
  carried = λ n r t c k.
      each_at (λ (z : Carried). r.holds z.2 ≡ true) (carried_to n)
      (each_at (λ (q : Reduction). Each (λ (z : Carried). q.holds z.2 ≡ true) (carried_to n)) (states n).reductions (holds_carried n) r c)
      (r.production, length (r.production).symbols, t) (carried_there k);
  no_conflict = no_conflict;
}

-- the states are faithful
pub faithful : AreFaithful g S states
faithful = checked_faithful g S states checked

-- the start symbol is on no right side
pub alone : IsOnNoRightSide g S
alone p h c = each_at (λ q. Contains q.symbols (Nonterminal S) → ⊥) g (in_S, (in_A, (in_E, (in_B, tt)))) p h c
  where
    in_S : Contains PS.symbols (Nonterminal S) → ⊥
    in_S c = elim (contains-cons (Nonterminal A) (Nonterminal B ∷ []) (Nonterminal S) c) [
      | inl e ↦ S≢A (sym (same_nonterminal e))
      | inr k ↦ elim (contains-cons (Nonterminal B) [] (Nonterminal S) k) [ inl e ↦ S≢B (sym (same_nonterminal e)) | inr n ↦ contains-nil n ]
    ]

    in_A : Contains PA.symbols (Nonterminal S) → ⊥
    in_A c = elim (contains-cons (Terminal x) [] (Nonterminal S) c) [ inl e ↦ not_both (sym e) | inr n ↦ contains-nil n ]

    in_E : Contains PE.symbols (Nonterminal S) → ⊥
    in_E c = contains-nil c

    in_B : Contains PB.symbols (Nonterminal S) → ⊥
    in_B c = elim (contains-cons (Terminal y) [] (Nonterminal S) c) [ inl e ↦ not_both (sym e) | inr n ↦ contains-nil n ]

-- the trees of the lists x and x y, which have four and five nodes
abbrev pub short : Tree
short = Node S (beside (Node A (beside (Leaf x) no_trees)) (beside (Node B no_trees) no_trees))

abbrev pub long : Tree
long = Node S (beside (Node A (beside (Leaf x) no_trees)) (beside (Node B (beside (Leaf y) no_trees)) no_trees))

-- with limit 4, the number of nodes, the outcome on the list x is its tree
pub short_parsed : HasOutcome states (x ∷ []) 4 (Parsed short)
short_parsed =
    parsed 3 (record { state = 3; below = 1 ∷ 0 ∷ []; trees = Node B no_trees ∷ Node A (beside (Leaf x) no_trees) ∷ []; rest = [] }) (short ∷ []) short (omega arith)
    (further refl (further refl (further refl here))) refl (refl, refl)

-- with limit 5, the number of nodes, the outcome on the list x y is its tree
pub long_parsed : HasOutcome states (x ∷ y ∷ []) 5 (Parsed long)
long_parsed =
    parsed 4 (record { state = 3; below = 1 ∷ 0 ∷ []; trees = Node B (beside (Leaf y) no_trees) ∷ Node A (beside (Leaf x) no_trees) ∷ []; rest = [] }) (long ∷ []) long (omega arith)
    (further refl (further refl (further refl (further refl here)))) refl (refl, refl)
