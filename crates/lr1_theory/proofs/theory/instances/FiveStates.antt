-- The five states of the grammar S = A B; A = "x"; B = () | "y" are closed. The proofs go through
-- the rows.
use Rattle.std.proofs.Common.{◌≡◌, ◌↔◌, ℕ, zero, suc, Bool, true, false, List, [], ◌∷◌, drop, sym, subst, refl, ap, Some, arith}
use Rattle.std.specs.Prelude.{Contains}
use Rattle.lr1_theory.proofs.Types.{NonterminalString, Production, Symbol, TerminalString, Token}
use Rattle.lalrpop_grammar.specs.declared.repr.Symbol.TheVariants.{Nonterminal, Terminal}
use Rattle.lalrpop_grammar.specs.declared.repr.TerminalString.TheVariants.{Literal, Bare, Error}
use Rattle.lalrpop_grammar.specs.declared.lookahead.token.Token.TheVariants.{Eof, Terminal as TokenOf, Error as ErrorToken}
use Rattle.lalrpop_grammar.specs.Words.{Contents, leads, IsBehindDot, LeadsOverDots, ReducesFinished, InClosure, in_kernel, expanded, IsAtStart, IsMoved, items_of, AreClosed}
use Rattle.lalrpop_grammar.specs.states.States.{Reduction}
use Rattle.lalrpop_grammar.proofs.theory.grammars.SymbolLists.{not_both}
use Rattle.lr1_theory.proofs.theory.instances.Rows.{each_at, same_text, Row, state_of, edge_at, row_edges, row_closure, row_moved, row_reductions, none_repeats, one_repeats}

-- the names and the productions
abbrev pub S : NonterminalString
S = record { text = 83 ∷ [] }

abbrev pub A : NonterminalString
A = record { text = 65 ∷ [] }

abbrev pub B : NonterminalString
B = record { text = 66 ∷ [] }

abbrev pub x : TerminalString
x = Literal (120 ∷ [])

abbrev pub y : TerminalString
y = Literal (121 ∷ [])

abbrev pub PS : Production
PS = record { nonterminal = S; symbols = Nonterminal A ∷ Nonterminal B ∷ []; action = record { 0 = 0 }; span = record { 0 = 0; 1 = 7 } }

abbrev pub PA : Production
PA = record { nonterminal = A; symbols = Terminal x ∷ []; action = record { 0 = 1 }; span = record { 0 = 8; 1 = 15 } }

abbrev pub PE : Production
PE = record { nonterminal = B; symbols = []; action = record { 0 = 2 }; span = record { 0 = 16; 1 = 20 } }

abbrev pub PB : Production
PB = record { nonterminal = B; symbols = Terminal y ∷ []; action = record { 0 = 3 }; span = record { 0 = 16; 1 = 26 } }

abbrev pub g : List Production
g = PS ∷ PA ∷ PE ∷ PB ∷ []

-- Eof alone, and Eof with y
abbrev pub at_eof : Token → Bool
at_eof Eof = true
at_eof ErrorToken = false
at_eof (TokenOf t) = false

abbrev pub at_y : Token → Bool
at_y Eof = true
at_y ErrorToken = false
at_y (TokenOf (Literal w)) = same_text (121 ∷ []) w
at_y (TokenOf (Bare w)) = false
at_y (TokenOf Error) = false

-- a reduction by a production on Eof
abbrev pub by : Production → Reduction
by p = record { production = p; holds = at_eof }

abbrev pub by_A : Reduction
by_A = record { production = PA; holds = at_y }

-- the rows of the five states
abbrev pub rows : ℕ → Row
rows zero = record { items = (PS, 0) ∷ (PA, 0) ∷ []; shifts = (120 ∷ [], 2) ∷ []; gotos = (65 ∷ [], 1) ∷ []; reductions = [] }
rows (suc zero) = record { items = (PS, 1) ∷ (PE, 0) ∷ (PB, 0) ∷ []; shifts = (121 ∷ [], 4) ∷ []; gotos = (66 ∷ [], 3) ∷ []; reductions = by PE ∷ [] }
rows (suc (suc zero)) = record { items = (PA, 1) ∷ []; shifts = []; gotos = []; reductions = by_A ∷ [] }
rows (suc (suc (suc zero))) = record { items = (PS, 2) ∷ []; shifts = []; gotos = []; reductions = by PS ∷ [] }
rows (suc (suc (suc (suc zero)))) = record { items = (PB, 1) ∷ []; shifts = []; gotos = []; reductions = by PB ∷ [] }
rows (suc (suc (suc (suc (suc n))))) = record { items = []; shifts = []; gotos = []; reductions = [] }

abbrev pub states : ℕ → Contents
states n = state_of (rows n)

-- the first byte of a name, which differs for the three names
abbrev first_byte : List ℕ → ℕ
first_byte [] = 0
first_byte (c ∷ w) = c

-- equal names have equal first bytes
bytes : {a b : NonterminalString} → a ≡ b → first_byte a.text ≡ first_byte b.text
bytes e = ap (λ (a : NonterminalString). first_byte a.text) e

-- S is not A
pub S≢A : S ≡ A → ⊥
S≢A e = let h : 83 ≡ 65 = bytes e in omega (arith, h)

-- S is not B
pub S≢B : S ≡ B → ⊥
S≢B e = let h : 83 ≡ 66 = bytes e in omega (arith, h)

-- A is not B
pub A≢B : A ≡ B → ⊥
A≢B e = let h : 65 ≡ 66 = bytes e in omega (arith, h)

-- 0 is not a number above 0
zero≢more : (n : ℕ) → 0 ≡ suc n → ⊥
zero≢more n e = omega (arith, e)

-- 1 is not 2
one≢two : ◌≡◌ {A = ℕ} 1 2 → ⊥
one≢two e = omega (arith, e)

-- the symbols that lead from each row are exactly those after its dots
pub edges : (n : ℕ) → LeadsOverDots (states n)
edges zero = row_edges (rows 0) ((at (PA, 0) (1, omega arith, refl) [] refl, tt), (at (PS, 0) (0, omega arith, refl) (Nonterminal B ∷ []) refl, tt)) ((1, refl), ((2, refl), tt))
  where
    at : {z : Symbol} (i : Production × ℕ) → Contains (rows 0).items i → (after : List Symbol) → drop i.1 (i.0).symbols ≡ z ∷ after → IsBehindDot (states 0) z
    at i c after e = record { production = i.0; dot = i.1; after = after; item = c; behind = e }
edges (suc zero) = row_edges (rows 1) ((at (PB, 0) (2, omega arith, refl) [] refl, tt), (at (PS, 1) (0, omega arith, refl) [] refl, tt)) ((3, refl), (tt, ((4, refl), tt)))
  where
    at : {z : Symbol} (i : Production × ℕ) → Contains (rows 1).items i → (after : List Symbol) → drop i.1 (i.0).symbols ≡ z ∷ after → IsBehindDot (states 1) z
    at i c after e = record { production = i.0; dot = i.1; after = after; item = c; behind = e }
edges (suc (suc zero)) = row_edges (rows 2) (tt, tt) (tt, tt)
edges (suc (suc (suc zero))) = row_edges (rows 3) (tt, tt) (tt, tt)
edges (suc (suc (suc (suc zero)))) = row_edges (rows 4) (tt, tt) (tt, tt)
edges (suc (suc (suc (suc (suc n))))) = row_edges (rows (suc (suc (suc (suc (suc n)))))) (tt, tt) tt

-- the reductions of each row are its finished dotted productions
pub reductions : (n : ℕ) → ReducesFinished (states n)
reductions zero = row_reductions (rows 0) tt ((λ e. absurd (zero≢more 1 e)), ((λ e. absurd (zero≢more 0 e)), tt)) none_repeats
reductions (suc zero) =
    row_reductions (rows 1) ((1, omega arith, refl), tt) ((λ e. absurd (one≢two e)), ((λ e. (by PE, (0, omega arith, refl), refl)), ((λ e. absurd (zero≢more 0 e)), tt))) (one_repeats (by PE))
reductions (suc (suc zero)) = row_reductions (rows 2) ((0, omega arith, refl), tt) ((λ e. (by_A, (0, omega arith, refl), refl)), tt) (one_repeats by_A)
reductions (suc (suc (suc zero))) = row_reductions (rows 3) ((0, omega arith, refl), tt) ((λ e. (by PS, (0, omega arith, refl), refl)), tt) (one_repeats (by PS))
reductions (suc (suc (suc (suc zero)))) = row_reductions (rows 4) ((0, omega arith, refl), tt) ((λ e. (by PB, (0, omega arith, refl), refl)), tt) (one_repeats (by PB))
reductions (suc (suc (suc (suc (suc n))))) = row_reductions (rows (suc (suc (suc (suc (suc n)))))) tt tt none_repeats

-- state 0 is the closure of the start
pub first : (p : Production) (dot : ℕ) → items_of states 0 p dot ↔ InClosure g (IsAtStart g S) p dot
first =
    row_closure g (IsAtStart g S) (rows 0).items (s, (expanded {p = PS} {dot = 0} PA (Nonterminal B ∷ []) s refl (1, omega arith, refl), tt)) starts
    (((λ e. absurd (S≢A e)), ((λ e. (1, omega arith, refl)), ((λ e. absurd (A≢B (sym e))), ((λ e. absurd (A≢B (sym e))), tt)))), (tt, tt))
  where
    s : InClosure g (IsAtStart g S) PS 0
    s = in_kernel (refl, (0, omega arith, refl), refl)

    starts : (p : Production) (dot : ℕ) → IsAtStart g S p dot → Contains (rows 0).items (p, dot)
    starts p dot k =
        subst (λ d. Contains (rows 0).items (p, d)) (sym k.0)
        (each_at (λ q. q.nonterminal ≡ S → Contains (rows 0).items (q, 0)) g
        ((λ e. (0, omega arith, refl)), ((λ e. absurd (S≢A (sym e))), ((λ e. absurd (S≢B (sym e))), ((λ e. absurd (S≢B (sym e))), tt)))) p k.1 k.2)

-- each target is the closure of the dotted productions that were moved to it
pub next : (n m : ℕ) (z : Symbol) → leads (states n) z ≡ Some m → (p : Production) (dot : ℕ) → items_of states m p dot ↔ InClosure g (IsMoved (items_of states n) z) p dot
next zero m z e = edge_at (rows 0) (λ z m. (p : Production) (dot : ℕ) → items_of states m p dot ↔ InClosure g (IsMoved (items_of states 0) z) p dot) ((over_x, tt), (over_A, tt)) z m e
  where
    over_x : (p : Production) (dot : ℕ) → items_of states 2 p dot ↔ InClosure g (IsMoved (items_of states 0) (Terminal x)) p dot
    over_x =
        row_closure g (IsMoved (items_of states 0) (Terminal x)) (rows 2).items (in_kernel (record { before = 0; after = []; moved = refl; item = (1, omega arith, refl); behind = refl }), tt)
        (row_moved (rows 0).items (rows 2).items (Terminal x) ((λ e. absurd (not_both e)), ((λ e. (0, omega arith, refl)), tt))) (tt, tt)

    over_A : (p : Production) (dot : ℕ) → items_of states 1 p dot ↔ InClosure g (IsMoved (items_of states 0) (Nonterminal A)) p dot
    over_A =
        row_closure g (IsMoved (items_of states 0) (Nonterminal A)) (rows 1).items
        (k, (expanded {p = PS} {dot = 1} PE [] k refl (2, omega arith, refl), (expanded {p = PS} {dot = 1} PB [] k refl (3, omega arith, refl), tt)))
        (row_moved (rows 0).items (rows 1).items (Nonterminal A) ((λ e. (0, omega arith, refl)), ((λ e. absurd (not_both (sym e))), tt)))
        (((λ e. absurd (S≢B e)), ((λ e. absurd (A≢B e)), ((λ e. (1, omega arith, refl)), ((λ e. (2, omega arith, refl)), tt)))), (tt, (tt, tt)))
      where
        k : InClosure g (IsMoved (items_of states 0) (Nonterminal A)) PS 1
        k = in_kernel (record { before = 0; after = Nonterminal B ∷ []; moved = refl; item = (0, omega arith, refl); behind = refl })
next (suc zero) m z e = edge_at (rows 1) (λ z m. (p : Production) (dot : ℕ) → items_of states m p dot ↔ InClosure g (IsMoved (items_of states 1) z) p dot) ((over_y, tt), (over_B, tt)) z m e
  where
    over_y : (p : Production) (dot : ℕ) → items_of states 4 p dot ↔ InClosure g (IsMoved (items_of states 1) (Terminal y)) p dot
    over_y =
        row_closure g (IsMoved (items_of states 1) (Terminal y)) (rows 4).items (in_kernel (record { before = 0; after = []; moved = refl; item = (2, omega arith, refl); behind = refl }), tt)
        (row_moved (rows 1).items (rows 4).items (Terminal y) ((λ e. absurd (not_both e)), (tt, ((λ e. (0, omega arith, refl)), tt)))) (tt, tt)

    over_B : (p : Production) (dot : ℕ) → items_of states 3 p dot ↔ InClosure g (IsMoved (items_of states 1) (Nonterminal B)) p dot
    over_B =
        row_closure g (IsMoved (items_of states 1) (Nonterminal B)) (rows 3).items (in_kernel (record { before = 1; after = []; moved = refl; item = (0, omega arith, refl); behind = refl }), tt)
        (row_moved (rows 1).items (rows 3).items (Nonterminal B) ((λ e. (0, omega arith, refl)), (tt, ((λ e. absurd (not_both (sym e))), tt)))) (tt, tt)
next (suc (suc zero)) m z e = edge_at (rows 2) (λ z m. (p : Production) (dot : ℕ) → items_of states m p dot ↔ InClosure g (IsMoved (items_of states 2) z) p dot) (tt, tt) z m e
next (suc (suc (suc zero))) m z e = edge_at (rows 3) (λ z m. (p : Production) (dot : ℕ) → items_of states m p dot ↔ InClosure g (IsMoved (items_of states 3) z) p dot) (tt, tt) z m e
next (suc (suc (suc (suc zero)))) m z e = edge_at (rows 4) (λ z m. (p : Production) (dot : ℕ) → items_of states m p dot ↔ InClosure g (IsMoved (items_of states 4) z) p dot) (tt, tt) z m e
next (suc (suc (suc (suc (suc n))))) m z e =
    edge_at (rows (suc (suc (suc (suc (suc n)))))) (λ z m. (p : Production) (dot : ℕ) → items_of states m p dot ↔ InClosure g (IsMoved (items_of states (suc (suc (suc (suc (suc n)))))) z) p dot) (tt, tt) z m e

-- the states are closed
pub closed : AreClosed g S states
closed = record { first = first; next = next; edges = edges }
