-- Over states that lead to one another as their items say, no reduction meets a stack that is too
-- short.
use Rattle.std.proofs.Common.{◌≡◌, ℕ, zero, suc, ◌<◌, ◌≤◌, Bool, true, false, cond, List, [], ◌∷◌, ◌++◌, take, drop, length, sym, subst, refl, ap, ◌∙◌, Option, Some, None, unwrap_or, arith}
use Rattle.std.specs.Prelude.{Contains, slice_get}
use Rattle.lalrpop_parser.proofs.Types.{Production, Symbol, TerminalString, Token}
use Rattle.lalrpop_base.specs.Words.{Contents, Tree, Leaf, Node, Trees, no_trees, beside, root, roots, Configuration, reduction_on}
use Rattle.lalrpop_base.specs.Words.{Goes, reduced, goes_on, received, reduces, shifts_or, moves_on, move, Reaches, here, further}
use Rattle.lalrpop_grammar.specs.states.States.{Reduction}
use Rattle.lalrpop_grammar.specs.declared.lookahead.token.Token.TheVariants.{Eof, Terminal as TokenOf}
use Rattle.lalrpop_states.proofs.theory.states.ContentsViews.{LeadAsItemsSay, IsEdge}
use Rattle.lalrpop_parser.specs.Words.{IsStack, bottom}
use Rattle.lalrpop_parser.specs.runs.Machines.{above}
use Rattle.lalrpop_grammar.proofs.theory.runs.Steps.{reduced_is, same_goes}
use Rattle.lalrpop_collections.proofs.theory.lists.Lists.{take_all}

-- the trees of a forest go onto the stack from the left
abbrev pub list_of : Trees → List Tree
list_of no_trees = []
list_of (beside t ts) = t ∷ list_of ts

abbrev pub onto : Trees → List Tree → List Tree
onto no_trees trees = trees
onto (beside t ts) trees = onto ts (t ∷ trees)

-- trees, with one more at the end
abbrev pub then_tree : Trees → Tree → Trees
then_tree no_trees t = beside t no_trees
then_tree (beside u ts) t = beside u (then_tree ts t)

onto-then : (ts : Trees) (t : Tree) (trees : List Tree) → onto (then_tree ts t) trees ≡ t ∷ onto ts trees
onto-then no_trees t trees = refl
onto-then (beside u ts) t trees = onto-then ts t (u ∷ trees)

roots-then : (ts : Trees) (t : Tree) → roots (then_tree ts t) ≡ roots ts ++ root t ∷ []
roots-then no_trees t = refl
roots-then (beside u ts) t = ap (λ l. root u ∷ l) (roots-then ts t)

-- the symbol at a place is the next one of a longer front
take_next : {A : Type 0} (n : ℕ) (xs : List A) (x : A) → slice_get xs n ≡ Some x → take (suc n) xs ≡ take n xs ++ x ∷ []
take_next n [] x e = cc
take_next zero (y ∷ xs) x e = ap (λ z. z ∷ []) (ap (λ o. unwrap_or o y) e)
take_next (suc n) (y ∷ xs) x e = ap (λ zs. y ∷ zs) (take_next n xs x e)

pub stack_length : {states : ℕ → Contents} {s : ℕ} {below : List ℕ} {trees : List Tree} → IsStack states s below trees → length trees ≡ length below
stack_length bottom = refl
stack_length (above t n st e) = ap suc (stack_length st)

-- a stack without its newest trees, whose roots are the list
pub record Popped (states : ℕ → Contents) (l : List Symbol) (n s : ℕ) (below : List ℕ) (trees : List Tree) : Type 0 where
  pub state : ℕ
  pub under : List ℕ
  pub kept : List Tree
  pub taken : Trees
  pub stack : IsStack states state under kept
  pub back : drop n (s ∷ below) ≡ state ∷ under
  pub joined : trees ≡ onto taken kept
  pub symbols : l ≡ roots taken
  pub fits : n ≤ length below

module _ (states : ℕ → Contents) (count : ℕ) (lead : LeadAsItemsSay states count) where
  -- below a state with a dotted production are the symbols before the dot
  pub pop : {s : ℕ} {below : List ℕ} {trees : List Tree} → IsStack states s below trees → (p : Production) (d : ℕ) → Contains (states s).items (p, d) → Popped states (take d p.symbols) d s below trees
  pop {s} {below} {trees} st p zero h = record { state = s; under = below; kept = trees; taken = no_trees; stack = st; back = refl; joined = refl; symbols = refl; fits = omega arith }
  pop bottom p (suc d) h = absurd (let e : suc d ≡ 0 = lead.start p (suc d) h in omega arith)
  pop (above {s} {below} {trees} t n st e) p (suc d) h =
      let edge : IsEdge states count s (root t) n = lead.edges s n (root t) e in
      let r = pop st p d (edge.origin p d h) in
      record {
        state = r.state;
        under = r.under;
        kept = r.kept;
        taken = then_tree r.taken t;
        stack = r.stack;
        back = r.back;
        joined = ap (λ ts. t ∷ ts) r.joined ∙ sym (onto-then r.taken t r.kept);
        symbols = take_next d p.symbols (root t) (edge.over p d h) ∙ ap (λ l. l ++ root t ∷ []) r.symbols ∙ sym (roots-then r.taken t);
        fits = let f : d ≤ length below = r.fits in omega arith;
      }

  -- a reduction finds its symbols on the stack
  pub pop_whole : {s : ℕ} {below : List ℕ} {trees : List Tree} → IsStack states s below trees → (r : Reduction) → Contains (states s).reductions r → Popped states r.production.symbols (length r.production.symbols) s below trees
  pop_whole {s} {below} {trees} st r h =
      subst (λ l. Popped states l (length r.production.symbols) s below trees) (take_all r.production.symbols) (pop st r.production (length r.production.symbols) (lead.finished s r h))

  -- each state of a stack is one of the list
  pub on_stack : 0 < count → {s : ℕ} {below : List ℕ} {trees : List Tree} → IsStack states s below trees → (k n : ℕ) → slice_get (s ∷ below) k ≡ Some n → n < count
  on_stack some bottom zero n e = let h : 0 ≡ n = ap (λ o. unwrap_or o 0) e in omega arith
  on_stack some bottom (suc k) n e = cc
  on_stack some (above {s} t m st e) zero n h =
      let edge : IsEdge states count s (root t) m = lead.edges s m (root t) e in
      let same : m ≡ n = ap (λ o. unwrap_or o m) h in
      let within = edge.within in
      omega (arith, within)
  on_stack some (above t m st e) (suc k) n h = on_stack some st k n h

-- the first reduction that holds a token is in the list
pub first_is : (rs : List Reduction) (t : Token) (p : Production) → reduction_on rs t ≡ Some p → (r : Reduction) × Contains rs r × (r.production ≡ p)
first_is [] t p e = cc
first_is (r ∷ rs) t p e = go (r.holds t) e (first_is rs t p)
  where
    go : (b : Bool) → cond b (Some r.production) (reduction_on rs t) ≡ Some p → (reduction_on rs t ≡ Some p → (q : Reduction) × Contains rs q × (q.production ≡ p)) → (q : Reduction) × Contains (r ∷ rs) q × (q.production ≡ p)
    go true k more = (r, (0, omega arith, refl), ap (λ o. unwrap_or o p) k)
    go false k more = let m = more k in (m.0, (suc m.1.0, omega (arith, m.1.1), m.1.2), m.2)

-- for a reduction by a production: its symbols on the stack, a reduction of the state, and the move
pub record Found (states : ℕ → Contents) (c : Configuration) (p : Production) : Type 0 where
  pub popped : Popped states p.symbols (length p.symbols) c.state c.below c.trees
  pub by : (r : Reduction) × Contains (states c.state).reductions r × (r.production ≡ p)
  pub move_is : received states p (drop (length p.symbols) (c.state ∷ c.below)) (reduced p c.trees) c.rest ≡ goes_on ((states popped.state).goto p.nonterminal) popped.state popped.under (Node p.nonterminal popped.taken ∷ popped.kept) c.rest

abbrev pub IsStackOf : (ℕ → Contents) → Configuration → Type 0
IsStackOf states c = IsStack states c.state c.below c.trees

module _ (states : ℕ → Contents) (count : ℕ) (lead : LeadAsItemsSay states count) where
  pub found : (c : Configuration) (t : Token) (p : Production) → IsStackOf states c → reduction_on (states c.state).reductions t ≡ Some p → Found states c p
  found c t p st e =
      let by = first_is (states c.state).reductions t p e in
      let k : Popped states p.symbols (length p.symbols) c.state c.below c.trees =
      subst (λ (q : Production). Popped states q.symbols (length q.symbols) c.state c.below c.trees) by.2 (pop_whole states count lead st by.0 by.1) in
      record {
        popped = k;
        by = by;
        move_is =
            ap (λ l. received states p l (reduced p c.trees) c.rest) k.back
            ∙ ap (λ ts. received states p (k.state ∷ k.under) (reduced p ts) c.rest) k.joined
            ∙ ap (λ ts. received states p (k.state ∷ k.under) ts c.rest) (reduced_is p k.taken k.kept k.symbols);
      }

  -- after a reduction there is a stack
  pub reduction_keeps : (c d : Configuration) (p : Production) → Found states c p → received states p (drop (length p.symbols) (c.state ∷ c.below)) (reduced p c.trees) c.rest ≡ Goes d → IsStackOf states d
  reduction_keeps c d p f e = go ((states f.popped.state).goto p.nonterminal) refl (sym f.move_is ∙ e)
    where
      go : (o : Option ℕ) → (states f.popped.state).goto p.nonterminal ≡ o → goes_on o f.popped.state f.popped.under (Node p.nonterminal f.popped.taken ∷ f.popped.kept) c.rest ≡ Goes d → IsStackOf states d
      go None h k = cc
      go (Some n) h k = subst (IsStackOf states) (same_goes k) (above (Node p.nonterminal f.popped.taken) n f.popped.stack h)

  by_reduction : (c d : Configuration) (t : Token) → IsStackOf states c → (o : Option Production) → reduction_on (states c.state).reductions t ≡ o → reduces states c o ≡ Goes d → IsStackOf states d
  by_reduction c d t st None h e = cc
  by_reduction c d t st (Some p) h e = reduction_keeps c d p (found c t p st h) e

  -- after a step there is a stack
  pub step_keeps : (c d : Configuration) → move states c ≡ Goes d → IsStackOf states c → IsStackOf states d
  step_keeps c d e st = go c.rest e
    where
      at_shift : (t : TerminalString) (rest : List TerminalString) (o : Option ℕ) → (states c.state).shift t ≡ o → shifts_or states c t rest o ≡ Goes d → IsStackOf states d
      at_shift t rest (Some n) h k = subst (IsStackOf states) (same_goes k) (above (Leaf t) n st h)
      at_shift t rest None h k = by_reduction c d (TokenOf t) st (reduction_on (states c.state).reductions (TokenOf t)) refl k

      go : (rest : List TerminalString) → moves_on states c rest ≡ Goes d → IsStackOf states d
      go [] k = by_reduction c d Eof st (reduction_on (states c.state).reductions Eof) refl k
      go (t ∷ rest) k = at_shift t rest ((states c.state).shift t) refl k

  pub run_keeps : {n : ℕ} {c d : Configuration} → Reaches states n c d → IsStackOf states c → IsStackOf states d
  run_keeps here st = st
  run_keeps (further {c = c} {d = d} e r) st = run_keeps r (step_keeps c d e st)
