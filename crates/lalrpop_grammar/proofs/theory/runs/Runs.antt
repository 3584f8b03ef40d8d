-- Over faithful states each configuration of a run is at a live prefix that derives the input read
-- so far. So a tree that the run returns is a parse tree, and a terminal that it shifts continues a
-- beginning. The proof is by induction on the run.
use Rattle.std.proofs.Common.{◌≡◌, ℕ, suc, ◌≤◌, inl, inr, Bool, true, false, cond, List, [], ◌∷◌, ◌++◌, drop, length, append_assoc, append-nil, sym, subst, refl, ap, ◌∙◌, Option, Some, None, arith}
use mathlib.Core.List.{head-eq_of_cons-eq}
use Rattle.lalrpop_grammar.proofs.Types.{NonterminalString, Production, Symbol, TerminalString, Token}
use Rattle.lalrpop_grammar.specs.declared.repr.Symbol.TheVariants.{Nonterminal, Terminal}
use Rattle.lalrpop_grammar.specs.declared.lookahead.token.Token.TheVariants.{Eof, Terminal as TokenOf}
use Rattle.lalrpop_grammar.specs.Words.{terminal_symbols, IsBeginning, IsOnNoRightSide, Valid, IsAwaited, Contents, IsRightFor, AreFaithful, Tree, Leaf, Node, no_trees}
use Rattle.lalrpop_grammar.specs.Words.{beside, root, leaves, nodes, AreOfGrammar, IsParseTree, Configuration, next_token, reduction_on, Move, Stands, Goes, Ends}
use Rattle.lalrpop_grammar.specs.Words.{reduced, goes_on, received, reduces, shifts_or, moves_on, move, Reaches, here, further, begin, Parsed, HasOutcome, parsed}
use Rattle.lalrpop_grammar.specs.states.States.{Reduction}
use Rattle.lalrpop_collections.proofs.theory.lists.Lists.{take_all, same_some, some≢none}
use Rattle.lalrpop_grammar.proofs.theory.grammars.SymbolLists.{terminal_symbols-append}
use Rattle.lalrpop_grammar.proofs.theory.grammars.Derivations.{Derives-to, Derives-trans, Derives-right}
use Rattle.lalrpop_grammar.proofs.theory.closures.Valid.{Unshifted, unshifted, of_grammar, at_the_start, extends}
use Rattle.lalrpop_grammar.proofs.theory.runs.Steps.{HoldsBy, reduced_is, IsGoing, IsEnding, same_goes, same_ends, together, ends_halts}
use Rattle.lalrpop_grammar.proofs.theory.runs.Reading.{right_at}
use Rattle.lalrpop_grammar.proofs.theory.runs.Stacks.{spelled, Stacked, bottom, above, stacked_after, stacked_derives, stacked_empty, stacked_live, Popped, pop}
use Rattle.lalrpop_grammar.proofs.theory.runs.Sentences.{tree_run}
use Rattle.lalrpop_grammar.proofs.theory.states.RightStates.{edges_awaited, reductions_valid}

-- the first reduction that holds a token is one that does
pub reduction_holds : (rs : List Reduction) (t : Token) (p : Production) → reduction_on rs t ≡ Some p → HoldsBy rs t p
reduction_holds [] t p e = absurd (some≢none (sym e))
reduction_holds (r ∷ rs) t p e = go (r.holds t) refl e (reduction_holds rs t p)
  where
    go : (b : Bool) → r.holds t ≡ b → cond b (Some r.production) (reduction_on rs t) ≡ Some p → (reduction_on rs t ≡ Some p → HoldsBy rs t p) → HoldsBy (r ∷ rs) t p
    go true h k more = (r, (0, omega arith, refl), same_some k, h)
    go false h k more = let m = more k in (m.0, (suc m.1.0, omega (arith, m.1.1), m.1.2), m.2, m.3)

-- the action that made a move
pub data Did (states : ℕ → Contents) (c : Configuration) : Move → Type 0 where
  shifted : (t : TerminalString) (rest : List TerminalString) (n : ℕ) → c.rest ≡ t ∷ rest → (states c.state).shift t ≡ Some n → Did states c (Goes (record { state = n; below = c.state ∷ c.below; trees = Leaf t ∷ c.trees; rest = rest }))
  reduced_by : (p : Production) → reduction_on (states c.state).reductions (next_token c.rest) ≡ Some p → Did states c (received states p (drop (length p.symbols) (c.state ∷ c.below)) (reduced p c.trees) c.rest)
  stood : reduction_on (states c.state).reductions (next_token c.rest) ≡ None → ((t : TerminalString) → next_token c.rest ≡ TokenOf t → (states c.state).shift t ≡ None) → Did states c Stands

-- Eof is no terminal
abbrev pub IsTokenOf : Token → Type 0
IsTokenOf Eof = ⊥
IsTokenOf (TokenOf t) = Unit {0}
IsTokenOf _ = ⊥

abbrev pub token_terminal : TerminalString → Token → TerminalString
token_terminal t (TokenOf u) = u
token_terminal t _ = t

-- each move is made by one of these actions
pub did : (states : ℕ → Contents) (c : Configuration) → Did states c (move states c)
did states c = at_rest c.rest refl
  where
    by_reduction : (o : Option Production) → reduction_on (states c.state).reductions (next_token c.rest) ≡ o → ((t : TerminalString) → next_token c.rest ≡ TokenOf t → (states c.state).shift t ≡ None) → Did states c (reduces states c o)
    by_reduction None e h = stood e h
    by_reduction (Some p) e h = reduced_by p e

    at_shift : (t : TerminalString) (rest : List TerminalString) → c.rest ≡ t ∷ rest → (o : Option ℕ) → (states c.state).shift t ≡ o → Did states c (shifts_or states c t rest o)
    at_shift t rest e (Some n) h = shifted t rest n e h
    at_shift t rest e None h =
        by_reduction (reduction_on (states c.state).reductions (TokenOf t)) (ap (λ r. reduction_on (states c.state).reductions (next_token r)) e)
        (λ u k. ap (λ x. (states c.state).shift (token_terminal t x)) (sym k ∙ ap next_token e) ∙ h)

    at_rest : (rest : List TerminalString) → c.rest ≡ rest → Did states c (moves_on states c rest)
    at_rest [] e =
        by_reduction (reduction_on (states c.state).reductions Eof) (ap (λ r. reduction_on (states c.state).reductions (next_token r)) e)
        (λ u k. absurd (subst IsTokenOf (sym k ∙ ap next_token e) tt))
    at_rest (t ∷ rest) e = at_shift t rest e ((states c.state).shift t) refl

-- a configuration of a run on w: its stack is one for a prefix, and the leaves of its trees are the
-- input read so far
pub record Tracks (g : List Production) (states : ℕ → Contents) (w : List TerminalString) (c : Configuration) : Type 0 where
  pub prefix : List Symbol
  pub stack : Stacked g states prefix c.state c.below c.trees
  pub input : spelled c.trees ++ c.rest ≡ w

module _ (g : List Production) (start : NonterminalString) (states : ℕ → Contents) (faithful : AreFaithful g start states) where
  -- the facts of a reduction: its dotted production has the dot at its end, its symbols are on the
  -- stack, and the rest of the stack is left
  pub record Found (c : Configuration) (p : Production) : Type 0 where
    pub prefix : List Symbol
    pub valid : Valid g start prefix p 0
    pub popped : Popped g states prefix p.symbols c.state c.below c.trees
    pub move_is : received states p (drop (length p.symbols) (c.state ∷ c.below)) (reduced p c.trees) c.rest ≡ goes_on ((states popped.state).goto p.nonterminal) popped.state popped.under (Node p.nonterminal popped.taken ∷ popped.kept) c.rest

  -- each reduction has these facts
  pub found : (w : List TerminalString) (c : Configuration) (p : Production) → Tracks g states w c → reduction_on (states c.state).reductions (next_token c.rest) ≡ Some p → Found c p
  found w c p tr e =
      let h = reduction_holds (states c.state).reductions (next_token c.rest) p e in
      let r : IsRightFor g start tr.prefix (states c.state) = right_at g start states faithful tr.prefix c.state (stacked_live g start states faithful tr.stack) (stacked_after tr.stack) in
      let v : Unshifted g start tr.prefix p (length p.symbols) = unshifted ((reductions_valid r.contents p).0 (h.0, h.1, h.2)) in
      let k : Popped g states v.prefix p.symbols c.state c.below c.trees = pop tr.stack v.prefix p.symbols (v.ends ∙ ap (λ l. v.prefix ++ l) (take_all p.symbols)) in
      record {
        prefix = v.prefix;
        valid = v.valid;
        popped = k;
        move_is =
            ap (λ l. received states p l (reduced p c.trees) c.rest) k.back
            ∙ ap (λ ts. received states p (k.state ∷ k.under) (reduced p ts) c.rest) k.joined
            ∙ ap (λ ts. received states p (k.state ∷ k.under) ts c.rest) (reduced_is p k.taken k.kept k.symbols);
      }

  -- the node that a reduction makes is a node of the grammar
  pub made : (c : Configuration) (p : Production) (f : Found c p) → AreOfGrammar g (beside (Node p.nonterminal f.popped.taken) no_trees)
  made c p f = (record { production = p; of_grammar = of_grammar f.valid; name = refl; symbols = f.popped.symbols }, f.popped.of_grammar, tt)

  -- a step keeps these facts of a configuration
  pub step_tracks : (w : List TerminalString) (c d : Configuration) → Tracks g states w c → move states c ≡ Goes d → Tracks g states w d
  step_tracks w c d tr e = go (move states c) (did states c) e
    where
      after_reduction : (p : Production) (f : Found c p) (o : Option ℕ) → (states f.popped.state).goto p.nonterminal ≡ o → goes_on o f.popped.state f.popped.under (Node p.nonterminal f.popped.taken ∷ f.popped.kept) c.rest ≡ Goes d → Tracks g states w d
      after_reduction p f None h k = absurd (subst IsGoing (sym k) tt)
      after_reduction p f (Some n) h k =
          subst (Tracks g states w) (same_goes k) (record {
            prefix = f.prefix ++ Nonterminal p.nonterminal ∷ [];
            stack = above (Node p.nonterminal f.popped.taken) n f.popped.stack h (made c p f);
            input = ap (λ l. (spelled f.popped.kept ++ l) ++ c.rest) (append-nil (leaves f.popped.taken)) ∙ ap (λ l. l ++ c.rest) (sym f.popped.spells) ∙ tr.input;
          })

      go : (m : Move) → Did states c m → m ≡ Goes d → Tracks g states w d
      go _ (shifted t rest n h k) x =
          subst (Tracks g states w) (same_goes x) (record {
            prefix = tr.prefix ++ Terminal t ∷ [];
            stack = above (Leaf t) n tr.stack k tt;
            input = append_assoc (spelled c.trees) (t ∷ []) rest ∙ ap (λ l. spelled c.trees ++ l) (sym h) ∙ tr.input;
          })
      go _ (reduced_by p h) x =
          let f : Found c p = found w c p tr h in
          after_reduction p f ((states f.popped.state).goto p.nonterminal) refl (sym f.move_is ∙ x)
      go _ (stood h k) x = absurd (subst IsGoing (sym x) tt)

  -- a run keeps these facts of a configuration
  pub run_tracks : (w : List TerminalString) {n : ℕ} {c d : Configuration} → Reaches states n c d → Tracks g states w c → Tracks g states w d
  run_tracks w here tr = tr
  run_tracks w (further {c = c} {d} e r) tr = run_tracks w r (step_tracks w c d tr e)

  -- the configuration in which a run begins has these facts
  pub begin_tracks : (w : List TerminalString) → Tracks g states w (begin w)
  begin_tracks w = record { prefix = []; stack = bottom; input = refl }

  -- a final step leaves one tree, from the start symbol, over the input read so far
  pub record IsLast (w : List TerminalString) (c : Configuration) (trees : List Tree) : Type 0 where
    pub tree : Tree
    pub alone : trees ≡ tree ∷ []
    pub from_start : root tree ≡ Nonterminal start
    pub of_grammar : AreOfGrammar g (beside tree no_trees)
    pub input : leaves (beside tree no_trees) ++ c.rest ≡ w

  -- each final step leaves such a tree
  pub ends_last : (w : List TerminalString) (c : Configuration) (trees : List Tree) → Tracks g states w c → move states c ≡ Ends trees → IsLast w c trees
  ends_last w c trees tr e = go (move states c) (did states c) e
    where
      after_reduction : (p : Production) (f : Found c p) (o : Option ℕ) → (states f.popped.state).goto p.nonterminal ≡ o → goes_on o f.popped.state f.popped.under (Node p.nonterminal f.popped.taken ∷ f.popped.kept) c.rest ≡ Ends trees → IsLast w c trees
      after_reduction p f (Some n) h k = absurd (subst IsEnding (sym k) tt)
      after_reduction p f None h k = elim (at_the_start f.valid) [
        | inl s ↦
            let empty : f.popped.kept ≡ [] = stacked_empty f.popped.stack s.0 in
            record {
              tree = Node p.nonterminal f.popped.taken;
              alone = sym (same_ends k) ∙ ap (λ ts. Node p.nonterminal f.popped.taken ∷ ts) empty;
              from_start = ap Nonterminal s.1;
              of_grammar = made c p f;
              input =
                  ap (λ l. l ++ c.rest) (append-nil (leaves f.popped.taken) ∙ ap (λ ts. spelled ts ++ leaves f.popped.taken) (sym empty) ∙ sym f.popped.spells) ∙ tr.input;
            }
        | inr a ↦
            let r : IsRightFor g start f.prefix (states f.popped.state) = right_at g start states faithful f.prefix f.popped.state (stacked_live g start states faithful f.popped.stack) (stacked_after f.popped.stack) in
            let n = (edges_awaited r.contents (Nonterminal p.nonterminal)).1 a in
            absurd (some≢none (sym n.1 ∙ h))
      ]

      go : (m : Move) → Did states c m → m ≡ Ends trees → IsLast w c trees
      go _ (shifted t rest n h k) x = absurd (subst IsEnding (sym x) tt)
      go _ (reduced_by p h) x =
          let f : Found c p = found w c p tr h in
          after_reduction p f ((states f.popped.state).goto p.nonterminal) refl (sym f.move_is ∙ x)
      go _ (stood h k) x = absurd (subst IsEnding (sym x) tt)

  -- a tree that a run returns is a parse tree of the list
  pub answered_is_tree : (w : List TerminalString) (t : Tree) (limit : ℕ) → HasOutcome states w limit (Parsed t) → IsParseTree g start w t
  answered_is_tree w _ limit (parsed n c trees t l r e p) =
      let z : IsLast w c trees = ends_last w c trees (run_tracks w r (begin_tracks w)) e in
      let same : z.tree ≡ t = head-eq_of_cons-eq (sym z.alone ∙ p.0) in
      record {
        from_start = ap root (sym same) ∙ z.from_start;
        of_grammar = subst (λ u. AreOfGrammar g (beside u no_trees)) same z.of_grammar;
        of_list = ap (λ u. leaves (beside u no_trees)) (sym same) ∙ sym (append-nil (leaves (beside z.tree no_trees))) ∙ ap (λ l. leaves (beside z.tree no_trees) ++ l) (sym p.1) ∙ z.input;
      }

  -- a tree that a run returns has no more nodes than the limit
  pub answered_within : IsOnNoRightSide g start → (w : List TerminalString) (t : Tree) (limit : ℕ) → HasOutcome states w limit (Parsed t) → nodes (beside t no_trees) ≤ limit
  answered_within alone w t limit o = go o (answered_is_tree w t limit o)
    where
      go : HasOutcome states w limit (Parsed t) → IsParseTree g start w t → nodes (beside t no_trees) ≤ limit
      go (parsed n c trees _ l r e p) h =
          let x = tree_run g start states faithful alone w t h in
          let y = together r x.2.run (ends_halts states c e) (ends_halts states x.2.last x.2.ends) in
          omega (arith, y.0, x.1, l)

  -- a terminal is shifted only if the input with it is a beginning
  pub shift_begins : (w : List TerminalString) (c : Configuration) (t : TerminalString) (n : ℕ) → Tracks g states w c → (states c.state).shift t ≡ Some n → IsBeginning g start (spelled c.trees ++ t ∷ [])
  shift_begins w c t n tr h =
      let r : IsRightFor g start tr.prefix (states c.state) = right_at g start states faithful tr.prefix c.state (stacked_live g start states faithful tr.stack) (stacked_after tr.stack) in
      let a : IsAwaited g start tr.prefix (Terminal t) = (edges_awaited r.contents (Terminal t)).0 (n, h) in
      let x = extends a.valid in (
        a.after ++ x.0,
        Derives-to (ap (λ l. terminal_symbols (spelled c.trees) ++ (l ++ x.0)) a.behind ∙ sym (append_assoc (terminal_symbols (spelled c.trees)) (Terminal t ∷ []) (a.after ++ x.0)) ∙ ap (λ l. l ++ (a.after ++ x.0)) (sym (terminal_symbols-append (spelled c.trees) (t ∷ []))))
            (Derives-trans x.1 (Derives-right (drop a.dot a.production.symbols ++ x.0) (stacked_derives tr.stack))),
      )
