-- Over faithful states a tree is read from the left, in as many steps as it has nodes. The proof is
-- by induction on the tree, from the actions that a right state allows.
use Rattle.std.proofs.Common.{◌≡◌, ℕ, suc, ◌+◌, inr, List, [], ◌∷◌, ◌++◌, drop, length, append_assoc, append-nil, sym, subst, refl, ap, ◌∙◌, Option, Some, None, arith}
use Rattle.std.specs.Prelude.{Contains}
use Rattle.lalrpop_grammar.proofs.Types.{NonterminalString, Production, Symbol, TerminalString, Token}
use Rattle.lalrpop_grammar.specs.declared.repr.Symbol.TheVariants.{Nonterminal, Terminal}
use Rattle.lalrpop_grammar.specs.declared.lookahead.token.Token.TheVariants.{Eof, Terminal as TokenOf}
use Rattle.lalrpop_grammar.specs.Words.{Derives, as_it_is, replace, terminal_symbols, ValidToken, kept, begins_behind, passed_on, IsAwaited, IsLive, Action, Shift}
use Rattle.lalrpop_grammar.specs.Words.{Reduce, Contents, leads, state_after, IsRightFor, AreFaithful, Tree, Leaf, Node, Trees, no_trees, beside, roots, leaves}
use Rattle.lalrpop_grammar.specs.Words.{nodes, IsNode, AreOfGrammar, Configuration, next_token, reduction_on, Goes, reduced, goes_on, received, reduces, shifts_or}
use Rattle.lalrpop_grammar.specs.Words.{moves_on, move, Reaches, here, further}
use Rattle.lalrpop_collections.proofs.theory.lists.Lists.{drop_past, same_some}
use Rattle.lalrpop_grammar.proofs.theory.grammars.SymbolLists.{terminal_symbols-append}
use Rattle.lalrpop_grammar.proofs.theory.grammars.Derivations.{Derives-from, Derives-to, Derives-append}
use Rattle.lalrpop_grammar.proofs.theory.closures.Valid.{valid, shifted_whole}
use Rattle.lalrpop_grammar.proofs.theory.runs.Steps.{state_from-more, Reaches-append, Reaches-from, reduction_is, onto, reduced_is}
use Rattle.lalrpop_grammar.proofs.theory.states.RightStates.{edges_awaited, token_stands}

-- the roots of trees of a grammar derive their leaves
pub roots_derive : {g : List Production} (ts : Trees) → AreOfGrammar g ts → Derives g (roots ts) (terminal_symbols (leaves ts))
roots_derive no_trees h = as_it_is
roots_derive (beside (Leaf t) ts) h = Derives-append {k = Terminal t ∷ []} {m = Terminal t ∷ []} as_it_is (roots_derive ts h)
roots_derive {g} (beside (Node a children) ts) h =
    let n = h.0 in
    Derives-from (ap (λ b. Nonterminal b ∷ roots ts) n.name)
    (replace [] (roots ts) n.production n.of_grammar
    (Derives-to (sym (terminal_symbols-append (leaves children) (leaves ts)))
    (Derives-append (Derives-from (sym n.symbols) (roots_derive children h.1)) (roots_derive ts h.2))))

-- the token that follows in the input is one of the tokens of a child's production
pub child_token : {g : List Production} {start : NonterminalString} {u : List Symbol} {p : Production} {dot : ℕ} (q : Production) (ts : Trees) (rest : List TerminalString) → AreOfGrammar g ts → ValidToken g start u p dot (next_token rest) → drop dot p.symbols ≡ Nonterminal q.nonterminal ∷ roots ts → Contains g q → ValidToken g start u q 0 (next_token (leaves ts ++ rest))
child_token {g} {start} {u} q ts rest of v e h = go (leaves ts) (roots_derive ts of)
  where
    go : (w : List TerminalString) → Derives g (roots ts) (terminal_symbols w) → ValidToken g start u q 0 (next_token (w ++ rest))
    go [] d = passed_on q (roots ts) v e h d
    go (t ∷ w) d = begins_behind q (roots ts) (valid v) e h (terminal_symbols w, d)

module _ (g : List Production) (start : NonterminalString) (states : ℕ → Contents) (faithful : AreFaithful g start states) where
  -- the state after a live prefix is right for it
  pub right_at : (u : List Symbol) (n : ℕ) → IsLive g start u → state_after states u ≡ Some n → IsRightFor g start u (states n)
  right_at u n l e =
      let r = faithful u l in
      subst (λ k. IsRightFor g start u (states k)) (same_some (sym r.after ∙ e)) r.right

  -- a state has an edge over each symbol that is awaited
  pub leads_on : (u : List Symbol) (n : ℕ) (x : Symbol) → IsAwaited g start u x → state_after states u ≡ Some n → (m : ℕ) × (leads (states n) x ≡ Some m) × (state_after states (u ++ x ∷ []) ≡ Some m)
  leads_on u n x a e =
      let r = right_at u n (inr (a.production, a.dot, a.valid)) e in
      let m = (edges_awaited r.contents x).1 a in
      (m.0, m.1, state_from-more states 0 u x e m.1)

  -- if a production can be reduced by, the state reduces by it
  pub reduces_by : (u : List Symbol) (p : Production) (c : Configuration) → ValidToken g start u p (length p.symbols) (next_token c.rest) → state_after states u ≡ Some c.state → move states c ≡ received states p (drop (length p.symbols) (c.state ∷ c.below)) (reduced p c.trees) c.rest
  reduces_by u p c v e = go c.rest v
    where
      r : IsRightFor g start u (states c.state)
      r = right_at u c.state (inr (p, length p.symbols, valid v)) e

      is_p : (q : Production) → Reduce q ≡ Reduce p → q ≡ p
      is_p q e' = ap production_of e'
        where
          production_of : Action → Production
          production_of (Reduce k) = k
          production_of (Shift t) = p

      first : (t : Token) → ValidToken g start u p (length p.symbols) t → reduction_on (states c.state).reductions t ≡ Some p
      first t k = reduction_is (states c.state).reductions t p (λ q h. is_p q (r.one t (token_stands k) (Reduce q) (Reduce p) h (r.every t (Reduce p) k))) (r.every t (Reduce p) k)

      go : (rest : List TerminalString) → ValidToken g start u p (length p.symbols) (next_token rest) → moves_on states c rest ≡ received states p (drop (length p.symbols) (c.state ∷ c.below)) (reduced p c.trees) c.rest
      go [] k = ap (reduces states c) (first Eof k)
      go (t ∷ rest) k = no_shift ((states c.state).shift t) refl
        where
          IsReduce : Action → Type 0
          IsReduce (Reduce q) = Unit {0}
          IsReduce (Shift x) = ⊥

          no_shift : (o : Option ℕ) → (states c.state).shift t ≡ o → shifts_or states c t rest o ≡ received states p (drop (length p.symbols) (c.state ∷ c.below)) (reduced p c.trees) c.rest
          no_shift None e' = ap (reduces states c) (first (TokenOf t) k)
          no_shift (Some n) e' = absurd (subst IsReduce (r.one (TokenOf t) tt (Reduce p) (Shift t) (r.every (TokenOf t) (Reduce p) k) (refl, (n, e'))) tt)

  -- trees are read by a run from a state after u, with their leaves in the input. The run leads to
  -- the state after u and their roots, and leaves the trees on the stack
  pub record IsRead (u : List Symbol) (ts : Trees) (s : ℕ) (below : List ℕ) (trees : List Tree) (rest : List TerminalString) : Type 0 where
    pub state : ℕ
    pub under : List ℕ
    pub run : Reaches states (nodes ts) (record { state = s; below = below; trees = trees; rest = leaves ts ++ rest }) (record { state = state; below = under; trees = onto ts trees; rest = rest })
    pub after : state_after states (u ++ roots ts) ≡ Some state
    pub back : drop (length (roots ts)) (state ∷ under) ≡ s ∷ below

  -- a node is read if a run leads over its leaves, and has the node on the stack
  pub record IsNodeRead (u : List Symbol) (a : NonterminalString) (children : Trees) (s : ℕ) (below : List ℕ) (trees : List Tree) (rest : List TerminalString) : Type 0 where
    pub state : ℕ
    pub run : Reaches states (suc (nodes children)) (record { state = s; below = below; trees = trees; rest = leaves children ++ rest }) (record { state = state; below = s ∷ below; trees = Node a children ∷ trees; rest = rest })
    pub after : state_after states (u ++ Nonterminal a ∷ []) ≡ Some state

  -- if the children are read, the node is read too, provided that it is awaited and the next token
  -- is one of its production's
  pub node_read : (u : List Symbol) (a : NonterminalString) (children : Trees) (n : IsNode g a children) (s : ℕ) (below : List ℕ) (trees : List Tree) (rest : List TerminalString) → ValidToken g start u n.production 0 (next_token rest) → IsRead u children s below trees rest → IsAwaited g start u (Nonterminal a) → state_after states u ≡ Some s → IsNodeRead u a children s below trees rest
  node_read u a children n s below trees rest w c awaited at =
      let q : Production = n.production in
      let m = leads_on u s (Nonterminal a) awaited at in
      let middle : Configuration = record { state = c.state; below = c.under; trees = onto children trees; rest = rest } in
      let target : Configuration = record { state = m.0; below = s ∷ below; trees = Node a children ∷ trees; rest = rest } in
      let step : move states middle ≡ Goes target =
      reduces_by (u ++ q.symbols) q middle (shifted_whole q w) (ap (λ l. state_after states (u ++ l)) n.symbols ∙ c.after)
      ∙ ap (λ k. received states q (drop (length k) (c.state ∷ c.under)) (reduced q (onto children trees)) rest) n.symbols
      ∙ ap (λ k. received states q k (reduced q (onto children trees)) rest) c.back
      ∙ ap (λ k. received states q (s ∷ below) k rest) (reduced_is q children trees n.symbols)
      ∙ ap (λ b. goes_on ((states s).goto b) s below (Node b children ∷ trees) rest) n.name
      ∙ ap (λ o. goes_on o s below (Node a children ∷ trees) rest) m.1 in
      let first : Configuration = record { state = s; below = below; trees = trees; rest = leaves children ++ rest } in
      record {
        state = m.0;
        run = Reaches-from (nodes children + 1) (suc (nodes children)) first first target (omega arith) refl (Reaches-append c.run (further step here));
        after = m.2;
      }

  -- trees of the grammar are read if their roots are after the dot of a dotted production that has
  -- the next token
  pub reads : (ts : Trees) → AreOfGrammar g ts → (u : List Symbol) (p : Production) (dot : ℕ) (rest : List TerminalString) → ValidToken g start u p dot (next_token rest) → drop dot p.symbols ≡ roots ts → (s : ℕ) (below : List ℕ) (trees : List Tree) → state_after states u ≡ Some s → IsRead u ts s below trees rest
  reads no_trees of u p dot rest v e s below trees at = record { state = s; under = below; run = here; after = ap (state_after states) (append-nil u) ∙ at; back = refl }
  reads (beside (Leaf t) ts) of u p dot rest v e s below trees at =
      let m = leads_on u s (Terminal t) (record { production = p; dot = dot; after = roots ts; valid = valid v; behind = e }) at in
      let r = reads ts of (u ++ Terminal t ∷ []) p (suc dot) rest (kept (Terminal t) (roots ts) v e) (drop_past dot p.symbols e) m.0 (s ∷ below) (Leaf t ∷ trees) m.2 in
      record {
        state = r.state;
        under = r.under;
        run = further (ap (shifts_or states (record { state = s; below = below; trees = trees; rest = t ∷ (leaves ts ++ rest) }) t (leaves ts ++ rest)) m.1) r.run;
        after = ap (state_after states) (sym (append_assoc u (Terminal t ∷ []) (roots ts))) ∙ r.after;
        back = drop_past (length (roots ts)) (r.state ∷ r.under) r.back;
      }
  reads (beside (Node a children) ts) of u p dot rest v e s below trees at =
      let n = of.0 in
      let w : ValidToken g start u n.production 0 (next_token (leaves ts ++ rest)) = child_token n.production ts rest of.2 v (e ∙ ap (λ b. Nonterminal b ∷ roots ts) (sym n.name)) n.of_grammar in
      let c : IsRead u children s below trees (leaves ts ++ rest) = reads children of.1 u n.production 0 (leaves ts ++ rest) w n.symbols s below trees at in
      let k : IsNodeRead u a children s below trees (leaves ts ++ rest) = node_read u a children n s below trees (leaves ts ++ rest) w c (record { production = p; dot = dot; after = roots ts; valid = valid v; behind = e }) at in
      let r = reads ts of.2 (u ++ Nonterminal a ∷ []) p (suc dot) rest (kept (Nonterminal a) (roots ts) v e) (drop_past dot p.symbols e) k.state (s ∷ below) (Node a children ∷ trees) k.after in
      record {
        state = r.state;
        under = r.under;
        run = Reaches-from (suc (nodes children) + nodes ts) (suc (nodes children + nodes ts)) (record { state = s; below = below; trees = trees; rest = leaves children ++ (leaves ts ++ rest) }) (record { state = s; below = below; trees = trees; rest = (leaves children ++ leaves ts) ++ rest }) (record { state = r.state; below = r.under; trees = onto ts (Node a children ∷ trees); rest = rest }) (omega arith) (ap (λ l. record { state = s; below = below; trees = trees; rest = l }) (sym (append_assoc (leaves children) (leaves ts) rest))) (Reaches-append {e = record { state = r.state; below = r.under; trees = onto ts (Node a children ∷ trees); rest = rest }} k.run r.run);
        after = ap (state_after states) (sym (append_assoc u (Nonterminal a ∷ []) (roots ts))) ∙ r.after;
        back = drop_past (length (roots ts)) (r.state ∷ r.under) r.back;
      }
