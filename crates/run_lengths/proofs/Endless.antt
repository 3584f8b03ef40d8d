-- A grammar with faithful states whose runs never end: S = B; B = A B; A = (). B derives no list of
-- terminals. No token is valid for the reduction by A = (). So it may be made on each token, and
-- then it is made again in the state to which it leads.
use Rattle.std.proofs.Common.{◌≡◌, ◌↔◌, ◌<◌, ℕ, zero, suc, Bool, true, false, List, [], ◌∷◌, drop, sym, subst, refl, ◌∙◌, Some, None, inl, inr, arith}
use Rattle.std.specs.Prelude.{Contains, slice_get}
use Rattle.lalrpop_grammar.specs.declared.lookahead.token.Token.{Token}
use Rattle.lalrpop_grammar.specs.declared.repr.Production.{Production}
use Rattle.lalrpop_grammar.specs.declared.repr.Symbol.{Symbol}
use Rattle.lalrpop_grammar.specs.declared.repr.Symbol.TheVariants.{Nonterminal}
use Rattle.lalrpop_grammar.specs.declared.repr.TerminalString.{TerminalString}
use Rattle.lalrpop_grammar.specs.declared.repr.TerminalString.TheVariants.{Bare, Error, Literal}
use Rattle.lalrpop_grammar.specs.states.States.{Reduction}
use Rattle.lalrpop_grammar.specs.Words.{AreFaithful, Configuration, Contents, Goes, HasOutcome, InClosure, IsAtStart, IsBehindDot, IsMoved, IsOnNoRightSide, LeadsOverDots, Limit, Node, Reaches, ReducesFinished, Stands, Tree, cut_off, expanded, further, here, in_kernel, items_of, leads, move, no_trees}
use Rattle.lalrpop_collections.proofs.theory.lists.Lists.{contains-cons, contains-nil, some≢none}
use Rattle.lalrpop_grammar.proofs.theory.lists.ListEnds.{only_one}
use Rattle.lalrpop_grammar.proofs.theory.grammars.SymbolLists.{same_nonterminal}
use Rattle.lalrpop_grammar.proofs.theory.runs.Steps.{IsGoing}
use Rattle.lr1_theory.proofs.theory.closures.Closures.{checked_faithful}
use Rattle.lr1_theory.proofs.theory.instances.FiveStates.{A, A≢B, B, S, S≢A, S≢B}
use Rattle.lr1_theory.proofs.theory.instances.Rows.{Row, each_at, edge_at, none_repeats, one_repeats, row_closure, row_edges, row_moved, row_reductions, state_of}

-- the productions
abbrev PS : Production
PS = record { nonterminal = S; symbols = Nonterminal B ∷ []; action = record { 0 = 0 }; span = record { 0 = 0; 1 = 5 } }

abbrev PB : Production
PB = record { nonterminal = B; symbols = Nonterminal A ∷ Nonterminal B ∷ []; action = record { 0 = 1 }; span = record { 0 = 6; 1 = 13 } }

abbrev PA : Production
PA = record { nonterminal = A; symbols = []; action = record { 0 = 2 }; span = record { 0 = 14; 1 = 17 } }

abbrev pub g : List Production
g = PS ∷ PB ∷ PA ∷ []

-- a reduction by a production on each token
abbrev by : Production → Reduction
by p = record { production = p; holds = λ t. true }

abbrev dotted : ℕ → List (Production × ℕ)
dotted zero = (PS, 0) ∷ (PB, 0) ∷ (PA, 0) ∷ []
dotted (suc zero) = (PB, 1) ∷ (PB, 0) ∷ (PA, 0) ∷ []
dotted (suc (suc zero)) = (PS, 1) ∷ []
dotted (suc (suc (suc zero))) = (PB, 2) ∷ []
dotted (suc (suc (suc (suc n)))) = []

abbrev gotos : ℕ → List (List ℕ × ℕ)
gotos zero = (65 ∷ [], 1) ∷ (66 ∷ [], 2) ∷ []
gotos (suc zero) = (65 ∷ [], 1) ∷ (66 ∷ [], 3) ∷ []
gotos (suc (suc n)) = []

abbrev reduced_by : ℕ → List Reduction
reduced_by zero = by PA ∷ []
reduced_by (suc zero) = by PA ∷ []
reduced_by (suc (suc zero)) = by PS ∷ []
reduced_by (suc (suc (suc zero))) = by PB ∷ []
reduced_by (suc (suc (suc (suc n)))) = []

-- the rows of the states
abbrev rows : ℕ → Row
rows n = record { items = dotted n; shifts = []; gotos = gotos n; reductions = reduced_by n }

abbrev pub states : ℕ → Contents
states n = state_of (rows n)

-- numbers that differ
zero≢more : (n : ℕ) → 0 ≡ suc n → ⊥
zero≢more n e = omega (arith, e)

one≢two : ◌≡◌ {A = ℕ} 1 2 → ⊥
one≢two e = omega (arith, e)

-- the symbols that lead from each row are exactly those after its dots
edges : (n : ℕ) → LeadsOverDots (states n)
edges zero = row_edges (rows 0) (tt, (at (PB, 0) (1, omega arith, refl) (Nonterminal B ∷ []) refl, (at (PS, 0) (0, omega arith, refl) [] refl, tt))) ((2, refl), ((1, refl), (tt, tt)))
  where
    at : {z : Symbol} (i : Production × ℕ) → Contains (dotted 0) i → (after : List Symbol) → drop i.1 (i.0).symbols ≡ z ∷ after → IsBehindDot (states 0) z
    at i c after e = record { production = i.0; dot = i.1; after = after; item = c; behind = e }
edges (suc zero) = row_edges (rows 1) (tt, (at (PB, 0) (1, omega arith, refl) (Nonterminal B ∷ []) refl, (at (PB, 1) (0, omega arith, refl) [] refl, tt))) ((3, refl), ((1, refl), (tt, tt)))
  where
    at : {z : Symbol} (i : Production × ℕ) → Contains (dotted 1) i → (after : List Symbol) → drop i.1 (i.0).symbols ≡ z ∷ after → IsBehindDot (states 1) z
    at i c after e = record { production = i.0; dot = i.1; after = after; item = c; behind = e }
edges (suc (suc zero)) = row_edges (rows 2) (tt, tt) (tt, tt)
edges (suc (suc (suc zero))) = row_edges (rows 3) (tt, tt) (tt, tt)
edges (suc (suc (suc (suc n)))) = row_edges (rows (suc (suc (suc (suc n))))) (tt, tt) tt

-- the reductions of each row are its finished dotted productions
reductions : (n : ℕ) → ReducesFinished (states n)
reductions zero = row_reductions (rows 0) ((2, omega arith, refl), tt) ((λ e. absurd (zero≢more 0 e)), ((λ e. absurd (zero≢more 1 e)), ((λ e. (by PA, (0, omega arith, refl), refl)), tt))) (one_repeats (by PA))
reductions (suc zero) = row_reductions (rows 1) ((2, omega arith, refl), tt) ((λ e. absurd (one≢two e)), ((λ e. absurd (zero≢more 1 e)), ((λ e. (by PA, (0, omega arith, refl), refl)), tt))) (one_repeats (by PA))
reductions (suc (suc zero)) = row_reductions (rows 2) ((0, omega arith, refl), tt) ((λ e. (by PS, (0, omega arith, refl), refl)), tt) (one_repeats (by PS))
reductions (suc (suc (suc zero))) = row_reductions (rows 3) ((0, omega arith, refl), tt) ((λ e. (by PB, (0, omega arith, refl), refl)), tt) (one_repeats (by PB))
reductions (suc (suc (suc (suc n)))) = row_reductions (rows (suc (suc (suc (suc n))))) tt tt none_repeats

-- state 0 is the closure of the start
first : (p : Production) (dot : ℕ) → items_of states 0 p dot ↔ InClosure g (IsAtStart g S) p dot
first =
    row_closure g (IsAtStart g S) (dotted 0) (s, (b, (expanded {p = PB} {dot = 0} PA (Nonterminal B ∷ []) b refl (2, omega arith, refl), tt))) starts
    (((λ e. absurd (S≢B e)), ((λ e. (1, omega arith, refl)), ((λ e. absurd (A≢B e)), tt))), (((λ e. absurd (S≢A e)), ((λ e. absurd (A≢B (sym e))), ((λ e. (2, omega arith, refl)), tt))), (tt, tt)))
  where
    s : InClosure g (IsAtStart g S) PS 0
    s = in_kernel (refl, (0, omega arith, refl), refl)

    b : InClosure g (IsAtStart g S) PB 0
    b = expanded {p = PS} {dot = 0} PB [] s refl (1, omega arith, refl)

    starts : (p : Production) (dot : ℕ) → IsAtStart g S p dot → Contains (dotted 0) (p, dot)
    starts p dot k =
        subst (λ d. Contains (dotted 0) (p, d)) (sym k.0)
        (each_at (λ q. q.nonterminal ≡ S → Contains (dotted 0) (q, 0)) g
        ((λ e. (0, omega arith, refl)), ((λ e. absurd (S≢B (sym e))), ((λ e. absurd (S≢A (sym e))), tt))) p k.1 k.2)

-- the target of A is the closure of the moved dotted productions, if these are those of B = A B
over_A : (from : List (Production × ℕ)) → IsMoved (λ q d. Contains from (q, d)) (Nonterminal A) PB 1 → ((p : Production) (dot : ℕ) → IsMoved (λ q d. Contains from (q, d)) (Nonterminal A) p dot → Contains (dotted 1) (p, dot)) → (p : Production) (dot : ℕ) → Contains (dotted 1) (p, dot) ↔ InClosure g (IsMoved (λ q d. Contains from (q, d)) (Nonterminal A)) p dot
over_A from h moved =
    row_closure g (IsMoved (λ q d. Contains from (q, d)) (Nonterminal A)) (dotted 1) (k, (b, (expanded {p = PB} {dot = 0} PA (Nonterminal B ∷ []) b refl (2, omega arith, refl), tt))) moved
    (((λ e. absurd (S≢B e)), ((λ e. (1, omega arith, refl)), ((λ e. absurd (A≢B e)), tt))), (((λ e. absurd (S≢A e)), ((λ e. absurd (A≢B (sym e))), ((λ e. (2, omega arith, refl)), tt))), (tt, tt)))
  where
    k : InClosure g (IsMoved (λ q d. Contains from (q, d)) (Nonterminal A)) PB 1
    k = in_kernel h

    b : InClosure g (IsMoved (λ q d. Contains from (q, d)) (Nonterminal A)) PB 0
    b = expanded {p = PB} {dot = 1} PB [] k refl (1, omega arith, refl)

-- A is not B, as symbols
A≢B_symbols : Nonterminal A ≡ Nonterminal B → ⊥
A≢B_symbols e = A≢B (same_nonterminal e)

-- each target is the closure of the dotted productions that were moved to it
next : (n m : ℕ) (z : Symbol) → leads (states n) z ≡ Some m → (p : Production) (dot : ℕ) → items_of states m p dot ↔ InClosure g (IsMoved (items_of states n) z) p dot
next zero m z e = edge_at (rows 0) (λ z m. (p : Production) (dot : ℕ) → items_of states m p dot ↔ InClosure g (IsMoved (items_of states 0) z) p dot) (tt, (to_A, (to_B, tt))) z m e
  where
    to_A : (p : Production) (dot : ℕ) → items_of states 1 p dot ↔ InClosure g (IsMoved (items_of states 0) (Nonterminal A)) p dot
    to_A =
        over_A (dotted 0) (record { before = 0; after = Nonterminal B ∷ []; moved = refl; item = (1, omega arith, refl); behind = refl })
        (row_moved (dotted 0) (dotted 1) (Nonterminal A) ((λ e. absurd (A≢B_symbols (sym e))), ((λ e. (0, omega arith, refl)), (tt, tt))))

    to_B : (p : Production) (dot : ℕ) → items_of states 2 p dot ↔ InClosure g (IsMoved (items_of states 0) (Nonterminal B)) p dot
    to_B =
        row_closure g (IsMoved (items_of states 0) (Nonterminal B)) (dotted 2) (in_kernel (record { before = 0; after = []; moved = refl; item = (0, omega arith, refl); behind = refl }), tt)
        (row_moved (dotted 0) (dotted 2) (Nonterminal B) ((λ e. (0, omega arith, refl)), ((λ e. absurd (A≢B_symbols e)), (tt, tt)))) (tt, tt)
next (suc zero) m z e = edge_at (rows 1) (λ z m. (p : Production) (dot : ℕ) → items_of states m p dot ↔ InClosure g (IsMoved (items_of states 1) z) p dot) (tt, (to_A, (to_B, tt))) z m e
  where
    to_A : (p : Production) (dot : ℕ) → items_of states 1 p dot ↔ InClosure g (IsMoved (items_of states 1) (Nonterminal A)) p dot
    to_A =
        over_A (dotted 1) (record { before = 0; after = Nonterminal B ∷ []; moved = refl; item = (1, omega arith, refl); behind = refl })
        (row_moved (dotted 1) (dotted 1) (Nonterminal A) ((λ e. absurd (A≢B_symbols (sym e))), ((λ e. (0, omega arith, refl)), (tt, tt))))

    to_B : (p : Production) (dot : ℕ) → items_of states 3 p dot ↔ InClosure g (IsMoved (items_of states 1) (Nonterminal B)) p dot
    to_B =
        row_closure g (IsMoved (items_of states 1) (Nonterminal B)) (dotted 3) (in_kernel (record { before = 1; after = []; moved = refl; item = (0, omega arith, refl); behind = refl }), tt)
        (row_moved (dotted 1) (dotted 3) (Nonterminal B) ((λ e. (0, omega arith, refl)), ((λ e. absurd (A≢B_symbols e)), (tt, tt)))) (tt, tt)
next (suc (suc n)) m z e = edge_at (rows (suc (suc n))) (λ z m. (p : Production) (dot : ℕ) → items_of states m p dot ↔ InClosure g (IsMoved (items_of states (suc (suc n))) z) p dot) (tt, tt) z m e

-- no terminal is shifted
no_shift : (n : ℕ) (t : TerminalString) → (states n).shift t ≡ None
no_shift n (Literal w) = refl
no_shift n (Bare w) = refl
no_shift n Error = refl

-- each reduction is made on each token
holds_all : (n : ℕ) (r : Reduction) (t : Token) → Contains (reduced_by n) r → r.holds t ≡ true
holds_all zero r t c = each_at (λ (q : Reduction). q.holds t ≡ true) (reduced_by 0) (refl, tt) r c
holds_all (suc zero) r t c = each_at (λ (q : Reduction). q.holds t ≡ true) (reduced_by 1) (refl, tt) r c
holds_all (suc (suc zero)) r t c = each_at (λ (q : Reduction). q.holds t ≡ true) (reduced_by 2) (refl, tt) r c
holds_all (suc (suc (suc zero))) r t c = each_at (λ (q : Reduction). q.holds t ≡ true) (reduced_by 3) (refl, tt) r c
holds_all (suc (suc (suc (suc n)))) r t c = absurd (contains-nil c)

-- no state has two reductions
one_reduction : (n i j : ℕ) (q : Reduction) → i < j → slice_get (reduced_by n) j ≡ Some q → ⊥
one_reduction n i zero q l e = omega (arith, l)
one_reduction zero i (suc j) q l e = some≢none (sym e)
one_reduction (suc zero) i (suc j) q l e = some≢none (sym e)
one_reduction (suc (suc zero)) i (suc j) q l e = some≢none (sym e)
one_reduction (suc (suc (suc zero))) i (suc j) q l e = some≢none (sym e)
one_reduction (suc (suc (suc (suc n)))) i (suc j) q l e = some≢none (sym e)

-- the states are faithful
pub faithful : AreFaithful g S states
faithful = checked_faithful g S states (record {
  closed = record { first = first; next = next; edges = edges };
  reductions = reductions;
  carried = λ n r t c k. holds_all n r t c;
  no_conflict = λ n. record {
    shifts = λ x m r e c h. some≢none (sym e ∙ no_shift n x);
    reductions = λ i j r q t l e f h k. one_reduction n i j q l f;
  };
})

-- the start symbol is on no right side
pub alone : IsOnNoRightSide g S
alone = each_at (λ p. Contains p.symbols (Nonterminal S) → ⊥) g (
  λ c. S≢B (sym (same_nonterminal (only_one (Nonterminal B) (Nonterminal S) c))),
  (
    λ c. elim (contains-cons (Nonterminal A) (Nonterminal B ∷ []) (Nonterminal S) c) [
      | inl e ↦ S≢A (sym (same_nonterminal e))
      | inr k ↦ S≢B (sym (same_nonterminal (only_one (Nonterminal B) (Nonterminal S) k)))
    ],
    ((λ c. contains-nil c), tt),
  ),
)

-- state 0 or state 1
abbrev pushing : Bool → ℕ
pushing false = 0
pushing true = 1

abbrev at : Bool → List ℕ → List Tree → List TerminalString → Configuration
at b below trees rest = record { state = pushing b; below = below; trees = trees; rest = rest }

-- in both states the reduction by A = () is made, and leads to state 1
pushes : (b : Bool) (below : List ℕ) (trees : List Tree) (rest : List TerminalString) → move states (at b below trees rest) ≡ Goes (at true (pushing b ∷ below) (Node A no_trees ∷ trees) rest)
pushes false below trees [] = refl
pushes false below trees (Literal w ∷ rest) = refl
pushes false below trees (Bare w ∷ rest) = refl
pushes false below trees (Error ∷ rest) = refl
pushes true below trees [] = refl
pushes true below trees (Literal w ∷ rest) = refl
pushes true below trees (Bare w ∷ rest) = refl
pushes true below trees (Error ∷ rest) = refl

-- so each number of steps is made, and there is another
run : (limit : ℕ) (b : Bool) (below : List ℕ) (trees : List Tree) (rest : List TerminalString) → (d : Configuration) × Reaches states limit (at b below trees rest) d × (move states d ≡ Stands → ⊥)
run zero b below trees rest = (at b below trees rest, here, λ e. subst IsGoing (sym (pushes b below trees rest) ∙ e) tt)
run (suc limit) b below trees rest =
    let r = run limit true (pushing b ∷ below) (Node A no_trees ∷ trees) rest in
    (r.0, further (pushes b below trees rest) r.1, r.2)

-- whatever the list and the limit are, the outcome is the limit
pub endless : (w : List TerminalString) (limit : ℕ) → HasOutcome states w limit Limit
endless w limit = let r = run limit false [] [] w in cut_off r.0 r.1 r.2
