-- The stack of a run: the states after the prefixes of a live prefix, whose symbols are the roots
-- of the trees. A reduction takes its trees off the stack.
use Rattle.std.proofs.Common.{◌≡◌, ℕ, inl, List, [], ◌∷◌, ◌++◌, drop, length, append_assoc, append-nil, sym, subst, refl, ap, ap₂, ◌∙◌, Some}
use Rattle.lalrpop_grammar.proofs.Types.{NonterminalString, Production, Symbol, TerminalString}
use Rattle.lalrpop_grammar.specs.Words.{Derives, as_it_is, terminal_symbols, IsLive, Contents, leads, state_after, AreFaithful, Tree, Leaf, Node, Trees, no_trees}
use Rattle.lalrpop_grammar.specs.Words.{beside, root, roots, leaves, AreOfGrammar}
use Rattle.lalrpop_collections.proofs.theory.lists.Lists.{Ended, nothing, last, ended, same_last, nil≢more, length-more}
use Rattle.lalrpop_grammar.proofs.theory.grammars.SymbolLists.{terminal_symbols-append}
use Rattle.lalrpop_grammar.proofs.theory.grammars.Derivations.{Derives-to, Derives-append}
use Rattle.lalrpop_grammar.proofs.theory.closures.Valid.{awaited_live}
use Rattle.lalrpop_grammar.proofs.theory.runs.Steps.{onto, state_from-more}
use Rattle.lalrpop_grammar.proofs.theory.runs.Reading.{right_at, roots_derive}
use Rattle.lalrpop_grammar.proofs.theory.states.RightStates.{edges_awaited}

-- trees with one more at the end
abbrev pub add_last : Trees → Tree → Trees
add_last no_trees t = beside t no_trees
add_last (beside u ts) t = beside u (add_last ts t)

-- the last tree is on top of the stack
pub onto-add_last : (ts : Trees) (t : Tree) (trees : List Tree) → onto (add_last ts t) trees ≡ t ∷ onto ts trees
onto-add_last no_trees t trees = refl
onto-add_last (beside u ts) t trees = onto-add_last ts t (u ∷ trees)

-- the root of the last tree is the last root
pub roots-add_last : (ts : Trees) (t : Tree) → roots (add_last ts t) ≡ roots ts ++ root t ∷ []
roots-add_last no_trees t = refl
roots-add_last (beside u ts) t = ap (λ l. root u ∷ l) (roots-add_last ts t)

-- the leaves of the last tree are the last leaves
pub leaves-add_last : (ts : Trees) (t : Tree) → leaves (add_last ts t) ≡ leaves ts ++ leaves (beside t no_trees)
leaves-add_last no_trees t = refl
leaves-add_last (beside (Leaf x) ts) t = ap (λ l. x ∷ l) (leaves-add_last ts t)
leaves-add_last (beside (Node a children) ts) t = ap (λ l. leaves children ++ l) (leaves-add_last ts t) ∙ sym (append_assoc (leaves children) (leaves ts) (leaves (beside t no_trees)))

-- trees of the grammar, with one more, are trees of the grammar
pub of_grammar-add_last : (g : List Production) (ts : Trees) (t : Tree) → AreOfGrammar g ts → AreOfGrammar g (beside t no_trees) → AreOfGrammar g (add_last ts t)
of_grammar-add_last g no_trees t h k = k
of_grammar-add_last g (beside (Leaf x) ts) t h k = of_grammar-add_last g ts t h k
of_grammar-add_last g (beside (Node a children) ts) t h k = (h.0, h.1, of_grammar-add_last g ts t h.2 k)

-- the leaves of the trees on the stack
abbrev pub spelled : List Tree → List TerminalString
spelled [] = []
spelled (t ∷ trees) = spelled trees ++ leaves (beside t no_trees)

-- a stack for a prefix: each state is the one to which the root of its tree leads from the state
-- below
pub data Stacked (g : List Production) (states : ℕ → Contents) : List Symbol → ℕ → List ℕ → List Tree → Type 0 where
  bottom : Stacked g states [] 0 [] []
  above : {u : List Symbol} {s : ℕ} {below : List ℕ} {trees : List Tree} (t : Tree) (n : ℕ) → Stacked g states u s below trees → leads (states s) (root t) ≡ Some n → AreOfGrammar g (beside t no_trees) → Stacked g states (u ++ root t ∷ []) n (s ∷ below) (t ∷ trees)

-- the top state is the state after the prefix
pub stacked_after : {g : List Production} {states : ℕ → Contents} {u : List Symbol} {s : ℕ} {below : List ℕ} {trees : List Tree} → Stacked g states u s below trees → state_after states u ≡ Some s
stacked_after bottom = refl
stacked_after {states = states} (above {u} t n st h of) = state_from-more states 0 u (root t) (stacked_after st) h

-- the prefix derives the leaves of the trees
pub stacked_derives : {g : List Production} {states : ℕ → Contents} {u : List Symbol} {s : ℕ} {below : List ℕ} {trees : List Tree} → Stacked g states u s below trees → Derives g u (terminal_symbols (spelled trees))
stacked_derives bottom = as_it_is
stacked_derives (above {trees = trees} t n st h of) =
    Derives-to (sym (terminal_symbols-append (spelled trees) (leaves (beside t no_trees)))) (Derives-append (stacked_derives st) (roots_derive (beside t no_trees) of))

-- a stack for the empty prefix has no trees
pub stacked_empty : {g : List Production} {states : ℕ → Contents} {u : List Symbol} {s : ℕ} {below : List ℕ} {trees : List Tree} → Stacked g states u s below trees → u ≡ [] → trees ≡ []
stacked_empty bottom e = refl
stacked_empty (above {u} t n st h of) e = absurd (nil≢more [] u (root t) (sym e))

-- a stack without its newest trees
pub record Popped (g : List Production) (states : ℕ → Contents) (v l : List Symbol) (s : ℕ) (below : List ℕ) (trees : List Tree) : Type 0 where
  pub state : ℕ
  pub under : List ℕ
  pub kept : List Tree
  pub taken : Trees
  pub stack : Stacked g states v state under kept
  pub back : drop (length l) (s ∷ below) ≡ state ∷ under
  pub joined : trees ≡ onto taken kept
  pub symbols : l ≡ roots taken
  pub of_grammar : AreOfGrammar g taken
  pub spells : spelled trees ≡ spelled kept ++ leaves taken

-- the newest trees are taken off, by cases on the symbols
pub pop_ended : {g : List Production} {states : ℕ → Contents} {u : List Symbol} {s : ℕ} {below : List ℕ} {trees : List Tree} → Stacked g states u s below trees → (v l : List Symbol) → Ended l → u ≡ v ++ l → Popped g states v l s below trees
pop_ended {g} {states} {s = s} {below} {trees} st v l nothing e =
    record {
      state = s;
      under = below;
      kept = trees;
      taken = no_trees;
      stack = subst (λ w. Stacked g states w s below trees) (e ∙ append-nil v) st;
      back = refl;
      joined = refl;
      symbols = refl;
      of_grammar = tt;
      spells = sym (append-nil (spelled trees));
    }
pop_ended bottom v l (last l' x) e = absurd (nil≢more v l' x e)
pop_ended {g} (above {u} {s} {below} {trees} t n st h of) v l (last l' x) e =
    let same = same_last u (v ++ l') (e ∙ sym (append_assoc v l' (x ∷ []))) in
    let r = pop_ended st v l' (ended l') same.0 in
    record {
      state = r.state;
      under = r.under;
      kept = r.kept;
      taken = add_last r.taken t;
      stack = r.stack;
      back = ap (λ k. drop k (n ∷ s ∷ below)) (length-more l' x) ∙ r.back;
      joined = ap (λ ts. t ∷ ts) r.joined ∙ sym (onto-add_last r.taken t r.kept);
      symbols = ap₂ (λ k y. k ++ y ∷ []) r.symbols (sym same.1) ∙ sym (roots-add_last r.taken t);
      of_grammar = of_grammar-add_last g r.taken t r.of_grammar of;
      spells = ap (λ w. w ++ leaves (beside t no_trees)) r.spells ∙ append_assoc (spelled r.kept) (leaves r.taken) (leaves (beside t no_trees)) ∙ ap (λ w. spelled r.kept ++ w) (sym (leaves-add_last r.taken t));
    }

-- a stack for a joined prefix has trees for the last part of the prefix
pub pop : {g : List Production} {states : ℕ → Contents} {u : List Symbol} {s : ℕ} {below : List ℕ} {trees : List Tree} → Stacked g states u s below trees → (v l : List Symbol) → u ≡ v ++ l → Popped g states v l s below trees
pop st v l e = pop_ended st v l (ended l) e

module _ (g : List Production) (start : NonterminalString) (states : ℕ → Contents) (faithful : AreFaithful g start states) where
  -- the prefix of a stack is live
  pub stacked_live : {u : List Symbol} {s : ℕ} {below : List ℕ} {trees : List Tree} → Stacked g states u s below trees → IsLive g start u
  stacked_live bottom = inl refl
  stacked_live (above {u} {s} t n st h of) = awaited_live ((edges_awaited (right_at g start states faithful u s (stacked_live st) (stacked_after st)).contents (root t)).0 (n, h))
