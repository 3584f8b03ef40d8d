-- Single steps of a run, and runs that are put together. The proofs are from the definition of a
-- run alone.
use Rattle.std.proofs.Common.{◌≡◌, ℕ, zero, suc, ◌+◌, ◌≤◌, inl, inr, Bool, true, false, cond, true≢false, List, [], ◌∷◌, ◌++◌, take, drop, length, reverse, sym, subst, refl, ap, ◌∙◌, Option, Some, None, arith}
use Rattle.std.specs.Prelude.{Contains}
use Rattle.std.proofs.lemmas.List.{reverse-reverse, length-reverse}
use Rattle.std.proofs.Math.Seq.{take-append_seam, drop-append_seam}
use mathlib.Core.List.{reverse_aux, reverse_aux-eq}
use Rattle.lalrpop_grammar.proofs.Types.{Production, Symbol, Token}
use Rattle.lalrpop_grammar.specs.Words.{Contents, leads, onward, state_from, Tree, Node, Trees, no_trees, beside, trees_of, roots, Configuration, reduction_on}
use Rattle.lalrpop_grammar.specs.Words.{Move, Stands, Goes, Ends, reduced, move, Reaches, here, further}
use Rattle.lalrpop_grammar.specs.states.States.{Reduction}
use Rattle.lalrpop_collections.proofs.theory.lists.Lists.{same_some, some≢none, contains-cons, contains-nil}

-- the state after one more symbol
pub state_from-more : (states : ℕ → Contents) (start : ℕ) (u : List Symbol) (x : Symbol) {n m : ℕ} → state_from states start u ≡ Some n → leads (states n) x ≡ Some m → state_from states start (u ++ x ∷ []) ≡ Some m
state_from-more states start [] x {m = m} e f =
    ap (λ k. onward (leads (states k) x) (λ m. Some m)) (same_some e) ∙ ap (λ o. onward o (λ m. Some m)) f
state_from-more states start (y ∷ u) x {n} {m} e f = go (leads (states start) y) e (λ k e'. state_from-more states k u x e' f)
  where
    go : (o : Option ℕ) → onward o (λ k. state_from states k u) ≡ Some n → ((k : ℕ) → state_from states k u ≡ Some n → state_from states k (u ++ x ∷ []) ≡ Some m) → onward o (λ k. state_from states k (u ++ x ∷ [])) ≡ Some m
    go None e' more = absurd (some≢none (sym e'))
    go (Some k) e' more = more k e'

-- two runs, one after the other, are a run
pub Reaches-append : {states : ℕ → Contents} {n m : ℕ} {c d e : Configuration} → Reaches states n c d → Reaches states m d e → Reaches states (n + m) c e
Reaches-append {states} {m = m} {e = e} (here {c}) s = subst (λ k. Reaches states k c e) (omega arith) s
Reaches-append {states} {m = m} {e = e} (further {n} {c} h r) s = subst (λ k. Reaches states k c e) (omega arith) (further h (Reaches-append r s))

-- a run is one from an equal configuration, in as many steps
pub Reaches-from : {states : ℕ → Contents} (n m : ℕ) (c d e : Configuration) → n ≡ m → c ≡ d → Reaches states n c e → Reaches states m d e
Reaches-from {states} n m c d e h k r = subst (λ i. Reaches states i d e) h (subst (λ i. Reaches states n i e) k r)

-- a reduction of s that holds t, by p
abbrev pub HoldsBy : List Reduction → Token → Production → Type 0
HoldsBy rs t p = (r : Reduction) × Contains rs r × (r.production ≡ p) × (r.holds t ≡ true)

-- if only p can be reduced by, the first reduction that holds the token is by p
pub reduction_is : (rs : List Reduction) (t : Token) (p : Production) → ((q : Production) → HoldsBy rs t q → q ≡ p) → HoldsBy rs t p → reduction_on rs t ≡ Some p
reduction_is [] t p one h = absurd (contains-nil h.1)
reduction_is (r ∷ rs) t p one h = go (r.holds t) refl (λ h'. reduction_is rs t p (λ q k. one q (k.0, behind k.0 k.1, k.2, k.3)) h')
  where
    behind : (q : Reduction) → Contains rs q → Contains (r ∷ rs) q
    behind q k = (suc k.0, omega (arith, k.1), k.2)

    go : (b : Bool) → r.holds t ≡ b → (HoldsBy rs t p → reduction_on rs t ≡ Some p) → cond b (Some r.production) (reduction_on rs t) ≡ Some p
    go true e more = ap (λ q. Some q) (one r.production (r, (zero, omega arith, refl), refl, e))
    go false e more = elim (contains-cons r rs h.0 h.1) [
      | inl k ↦ absurd (true≢false (sym h.3 ∙ ap (λ (q : Reduction). q.holds t) (sym k) ∙ e))
      | inr k ↦ more (h.0, k, h.2, h.3)
    ]

-- the trees of a forest, as a list from the left
abbrev pub list_of : Trees → List Tree
list_of no_trees = []
list_of (beside t ts) = t ∷ list_of ts

-- the trees of that list are the forest
pub trees-list : (ts : Trees) → trees_of (list_of ts) ≡ ts
trees-list no_trees = refl
trees-list (beside t ts) = ap (λ us. beside t us) (trees-list ts)

abbrev pub onto : Trees → List Tree → List Tree
onto no_trees trees = trees
onto (beside t ts) trees = onto ts (t ∷ trees)

-- the trees on the stack are in reverse order
pub onto_is : (ts : Trees) (trees : List Tree) → onto ts trees ≡ reverse_aux (list_of ts) trees
onto_is no_trees trees = refl
onto_is (beside t ts) trees = onto_is ts (t ∷ trees)

-- there are as many roots as trees
pub length-roots : (ts : Trees) → length (roots ts) ≡ length (list_of ts)
length-roots no_trees = refl
length-roots (beside t ts) = ap suc (length-roots ts)

-- a reduction by p puts the newest trees under its node, if their roots are the symbols of p
pub reduced_is : (p : Production) (ts : Trees) (trees : List Tree) → p.symbols ≡ roots ts → reduced p (onto ts trees) ≡ Node p.nonterminal ts ∷ trees
reduced_is p ts trees e =
    let l : List Tree = list_of ts in
    let n : length p.symbols ≡ length (reverse l) = ap length e ∙ length-roots ts ∙ sym (length-reverse l) in
    let o : onto ts trees ≡ reverse l ++ trees = onto_is ts trees ∙ reverse_aux-eq l trees in
    ap (λ us. reduced p us) o
    ∙ ap (λ k. Node p.nonterminal (trees_of (reverse (take k (reverse l ++ trees)))) ∷ drop k (reverse l ++ trees)) n
    ∙ ap (λ us. Node p.nonterminal (trees_of (reverse us)) ∷ drop (length (reverse l)) (reverse l ++ trees)) (take-append_seam (reverse l) trees)
    ∙ ap (λ us. Node p.nonterminal (trees_of us) ∷ drop (length (reverse l)) (reverse l ++ trees)) (reverse-reverse l)
    ∙ ap (λ us. Node p.nonterminal us ∷ drop (length (reverse l)) (reverse l ++ trees)) (trees-list ts)
    ∙ ap (λ us. Node p.nonterminal ts ∷ us) (drop-append_seam (reverse l) trees)

-- whether a move is a step to a configuration
abbrev pub IsGoing : Move → Type 0
IsGoing Stands = ⊥
IsGoing (Goes c) = Unit {0}
IsGoing (Ends trees) = ⊥

abbrev pub IsEnding : Move → Type 0
IsEnding Stands = ⊥
IsEnding (Goes c) = ⊥
IsEnding (Ends trees) = Unit {0}

abbrev pub going_to : Configuration → Move → Configuration
going_to c Stands = c
going_to c (Goes d) = d
going_to c (Ends trees) = c

abbrev pub ending_with : List Tree → Move → List Tree
ending_with trees Stands = trees
ending_with trees (Goes d) = trees
ending_with trees (Ends us) = us

-- equal steps lead to equal configurations
pub same_goes : {c d : Configuration} → Goes c ≡ Goes d → c ≡ d
same_goes {c} e = ap (going_to c) e

-- equal final steps leave equal trees
pub same_ends : {ts us : List Tree} → Ends ts ≡ Ends us → ts ≡ us
same_ends {ts} e = ap (ending_with ts) e

-- a configuration halts if no step leads on from it
abbrev pub Halts : (ℕ → Contents) → Configuration → Type 0
Halts states c = IsGoing (move states c) → ⊥

-- a configuration with a final step halts
pub ends_halts : (states : ℕ → Contents) (c : Configuration) {trees : List Tree} → move states c ≡ Ends trees → Halts states c
ends_halts states c e h = subst IsGoing e h

-- a configuration without a step halts
pub stands_halts : (states : ℕ → Contents) (c : Configuration) → move states c ≡ Stands → Halts states c
stands_halts states c e h = subst IsGoing e h

-- a configuration with a step does not halt
pub goes_on_from : (states : ℕ → Contents) (c d : Configuration) → move states c ≡ Goes d → Halts states c → ⊥
goes_on_from states c d e h = h (subst IsGoing (sym e) tt)

-- two runs that halt are the same
pub together : {states : ℕ → Contents} {n m : ℕ} {b c d : Configuration} → Reaches states n b c → Reaches states m b d → Halts states c → Halts states d → (n ≡ m) × (c ≡ d)
together here here h k = (refl, refl)
together {states} (here {c}) (further {d = d} e s) h k = absurd (goes_on_from states c d e h)
together {states} (further {d = c} e r) (here {c = d}) h k = absurd (goes_on_from states d c e k)
together {states} (further {d = c} e r) (further {n = m} {d = d} {e = z} f s) h k =
    let t = together r (subst (λ x. Reaches states m x z) (same_goes (sym f ∙ e)) s) h k in
    (ap suc t.0, t.1)

-- a run that halts is no shorter than any other
pub no_longer : {states : ℕ → Contents} {n m : ℕ} {b c d : Configuration} → Reaches states n b c → Halts states c → Reaches states m b d → m ≤ n
no_longer r h here = omega arith
no_longer {states} (here {c}) h (further {d = d} e s) = absurd (goes_on_from states c d e h)
no_longer {states} (further {n} {d = c} {e = z} e r) h (further {d = d} f s) =
    let l = no_longer (subst (λ x. Reaches states n x z) (same_goes (sym e ∙ f)) r) h s in
    omega (arith, l)

-- two runs of one length are one
pub same_length : {states : ℕ → Contents} {n : ℕ} {b c d : Configuration} → Reaches states n b c → Reaches states n b d → c ≡ d
same_length here here = refl
same_length {states} (further {n} {d = c} {e = z} e r) (further f s) = same_length (subst (λ x. Reaches states n x z) (same_goes (sym e ∙ f)) r) s

-- the last step of a run: it is still where it began, or made a last step
pub data LastStep (states : ℕ → Contents) (n : ℕ) (b c : Configuration) : Type 0 where
  no_step : b ≡ c → LastStep states n b c
  step_from : (m : ℕ) (d : Configuration) → Reaches states m b d → move states d ≡ Goes c → LastStep states n b c

-- each run has such a last step
pub last_step : {states : ℕ → Contents} {n : ℕ} {b c : Configuration} → Reaches states n b c → LastStep states n b c
last_step here = no_step refl
last_step {states} (further {n} {c = b} {d} {e = c} e r) = go (last_step r)
  where
    go : LastStep states n d c → LastStep states (suc n) b c
    go (no_step i) = step_from 0 b here (e ∙ ap Goes i)
    go (step_from m x s f) = step_from (suc m) x (further e s) f
