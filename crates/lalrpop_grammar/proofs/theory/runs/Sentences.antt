-- Over faithful states, with the start symbol on no right side, the run of a sentence ends with its
-- tree, in as many steps as the tree has nodes. So a list has at most one parse tree. The proofs
-- are from the way in which trees are read.
use Rattle.std.proofs.Common.{◌≡◌, ℕ, zero, suc, ◌≤◌, inl, List, [], ◌∷◌, drop, length, sym, refl, ap, ◌∙◌, Option, Some, None, arith}
use Rattle.std.specs.Prelude.{Contains}
use mathlib.Core.List.{head-eq_of_cons-eq, nil≢cons}
use Rattle.lalrpop_grammar.proofs.Types.{NonterminalString, Production, TerminalString}
use Rattle.lalrpop_grammar.specs.declared.repr.Symbol.TheVariants.{Nonterminal}
use Rattle.lalrpop_grammar.specs.declared.lookahead.token.Token.TheVariants.{Eof}
use Rattle.lalrpop_grammar.specs.Words.{IsOnNoRightSide, ValidToken, at_start, Contents, state_after, IsRightFor, AreFaithful, Tree, Leaf, Node, no_trees, beside}
use Rattle.lalrpop_grammar.specs.Words.{nodes, IsParseTree, Configuration, Ends, reduced, goes_on, received, move, Reaches, begin, Parsed, HasOutcome, parsed}
use Rattle.lalrpop_grammar.proofs.theory.grammars.SymbolLists.{same_nonterminal, not_both}
use Rattle.lalrpop_grammar.proofs.theory.closures.Valid.{shifted_whole, of_grammar}
use Rattle.lalrpop_grammar.proofs.theory.runs.Steps.{onto, reduced_is, Reaches-from, together, ends_halts, same_ends}
use Rattle.lalrpop_grammar.proofs.theory.runs.Reading.{right_at, reduces_by, IsRead, reads}
use Rattle.lalrpop_grammar.proofs.theory.states.RightStates.{edges_awaited}

-- a symbol after a dot is one of the symbols
pub contains_behind : {A : Type 0} (n : ℕ) (xs : List A) (x : A) (after : List A) → drop n xs ≡ x ∷ after → Contains xs x
contains_behind zero [] x after e = absurd (nil≢cons e)
contains_behind zero (y ∷ xs) x after e = (0, omega arith, head-eq_of_cons-eq e)
contains_behind (suc n) [] x after e = absurd (nil≢cons e)
contains_behind (suc n) (y ∷ xs) x after e = let h = contains_behind n xs x after e in (suc h.0, omega (arith, h.1), h.2)

-- a run of a list to its last step, which leaves a tree
pub record EndsWith (states : ℕ → Contents) (w : List TerminalString) (t : Tree) (steps : ℕ) : Type 0 where
  pub last : Configuration
  pub run : Reaches states steps (begin w) last
  pub ends : move states last ≡ Ends (t ∷ [])
  pub used_up : last.rest ≡ []

module _ (g : List Production) (start : NonterminalString) (states : ℕ → Contents) (faithful : AreFaithful g start states) (alone : IsOnNoRightSide g start) where
  -- state 0 has no goto on the start symbol
  pub no_goto : (states 0).goto start ≡ None
  no_goto = go ((states 0).goto start) refl
    where
      r : IsRightFor g start [] (states 0)
      r = right_at g start states faithful [] 0 (inl refl) refl

      go : (o : Option ℕ) → (states 0).goto start ≡ o → o ≡ None
      go None e = refl
      go (Some n) e =
          let a = (edges_awaited r.contents (Nonterminal start)).0 (n, e) in
          absurd (alone a.production (of_grammar a.valid) (contains_behind a.dot a.production.symbols (Nonterminal start) a.after a.behind))

  -- the run of a list with a parse tree ends with the tree, and has a step for each node
  pub tree_run : (w : List TerminalString) (t : Tree) → IsParseTree g start w t → (n : ℕ) × (nodes (beside t no_trees) ≡ suc n) × EndsWith states w t n
  tree_run w (Leaf t) h = absurd (not_both (sym h.from_start))
  tree_run w (Node a children) h =
      let n = h.of_grammar.0 in
      let q : Production = n.production in
      let is_start : a ≡ start = same_nonterminal h.from_start in
      let v : ValidToken g start [] q 0 Eof = at_start q n.of_grammar (n.name ∙ is_start) in
      let r : IsRead g start states faithful [] children 0 [] [] [] = reads g start states faithful children h.of_grammar.1 [] q 0 [] v n.symbols 0 [] [] refl in
      let last : Configuration = record { state = r.state; below = r.under; trees = onto children []; rest = [] } in (
        nodes children,
        omega arith,
        record {
          last = last;
          run = Reaches-from (nodes children) (nodes children) _ _ _ refl (ap begin h.of_list) r.run;
          ends =
              reduces_by g start states faithful q.symbols q last (shifted_whole q v) (ap (state_after states) n.symbols ∙ r.after)
              ∙ ap (λ k. received states q (drop (length k) (r.state ∷ r.under)) (reduced q (onto children [])) []) n.symbols
              ∙ ap (λ k. received states q k (reduced q (onto children [])) []) r.back
              ∙ ap (λ k. received states q (0 ∷ []) k []) (reduced_is q children [] n.symbols)
              ∙ ap (λ b. goes_on ((states 0).goto b) 0 [] (Node b children ∷ []) []) n.name
              ∙ ap (λ b. goes_on ((states 0).goto b) 0 [] (Node a children ∷ []) []) is_start
              ∙ ap (λ o. goes_on o 0 [] (Node a children ∷ []) []) no_goto;
          used_up = refl;
        },
      )

  -- a list has at most one parse tree
  pub one_tree : (w : List TerminalString) (t u : Tree) → IsParseTree g start w t → IsParseTree g start w u → t ≡ u
  one_tree w t u h k =
      let r = tree_run w t h in
      let s = tree_run w u k in
      let same : r.2.last ≡ s.2.last = (together r.2.run s.2.run (ends_halts states r.2.last r.2.ends) (ends_halts states s.2.last s.2.ends)).1 in
      head-eq_of_cons-eq (same_ends (sym r.2.ends ∙ ap (move states) same ∙ s.2.ends))

  -- the run of a list with a parse tree returns the tree, if the limit allows its nodes
  pub tree_parsed : (w : List TerminalString) (t : Tree) (limit : ℕ) → IsParseTree g start w t → nodes (beside t no_trees) ≤ limit → HasOutcome states w limit (Parsed t)
  tree_parsed w t limit h l =
      let r = tree_run w t h in
      parsed r.0 r.2.last (t ∷ []) t (omega (arith, l, r.1)) r.2.run r.2.ends (refl, r.2.used_up)
