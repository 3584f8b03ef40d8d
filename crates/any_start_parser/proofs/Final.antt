-- Over states that are faithful to a grammar whose start symbol is on no right side, a run reduces
-- by a production of the start symbol in its final step, and in no other.
use Rattle.std.proofs.Common.{◌≡◌, inl, inr, ℕ, List, [], ◌∷◌, Option, Some, None, sym, ap, subst, ◌∙◌}
use mathlib.Core.List.{head-eq_of_cons-eq, tail-eq_of_cons-eq}
use Rattle.lalrpop_base.specs.Words.{AreFaithful, Configuration, Contents, Ends, Goes, IsAwaited, IsOnNoRightSide, Node, ReduceBy, TableEntry, Tree, Trees, action_on, beside, goes_on, move, next_token, no_trees, reduction_on, root, shift_of, shift_or, state_after}
use Rattle.lalrpop_grammar.specs.declared.repr.NonterminalString.{NonterminalString}
use Rattle.lalrpop_grammar.specs.declared.repr.Production.{Production}
use Rattle.lalrpop_grammar.specs.declared.repr.Symbol.{Symbol}
use Rattle.lalrpop_grammar.specs.declared.repr.Symbol.TheVariants.{Nonterminal}
use Rattle.lalrpop_grammar.specs.declared.repr.TerminalString.{TerminalString}
use Rattle.lalrpop_collections.proofs.theory.lists.Lists.{same_some}
use Rattle.lalrpop_grammar.proofs.theory.closures.Valid.{at_the_start, of_grammar}
use Rattle.lalrpop_grammar.proofs.theory.grammars.SymbolLists.{same_nonterminal}
use Rattle.lalrpop_grammar.proofs.theory.runs.Runs.{Found, Tracks, ends_last, found}
use Rattle.lalrpop_grammar.proofs.theory.runs.Sentences.{contains_behind, no_goto}
use Rattle.lalrpop_grammar.proofs.theory.runs.Stacks.{stacked_after}
use Rattle.lalrpop_grammar.proofs.theory.runs.Steps.{IsEnding, IsGoing, onto, same_ends}
use Rattle.table_parser.specs.Steps.{IsEvent, reduces, shifts}
use Rattle.table_parser.specs.Events.{Event}
use Rattle.table_parser.proofs.Moves.{reduction_moves, shift_moves}

abbrev reduced_in : Production → Option TableEntry → Production
reduced_in p (Some (ReduceBy q)) = q
reduced_in p _ = p

-- the trees below a node
abbrev children_of : Tree → Trees
children_of (Node a children) = children
children_of t = no_trees

-- an action that is a reduction is the first one that holds the token
by_reduction : (o : Option ℕ) (q : Option Production) (p : Production) → shift_or o q ≡ Some (ReduceBy p) → q ≡ Some p
by_reduction (Some n) q p e = cc
by_reduction None None p e = cc
by_reduction None (Some q) p e = ap (λ (r : Production). Some r) (ap (reduced_in q) e)

module _ (h : List Production) (f : NonterminalString) (states : ℕ → Contents) (faithful : AreFaithful h f states) (alone : IsOnNoRightSide h f) where
  -- the start symbol is not awaited
  not_awaited : (u : List Symbol) → IsAwaited h f u (Nonterminal f) → ⊥
  not_awaited u a = alone a.production (of_grammar a.valid) (contains_behind a.dot a.production.symbols (Nonterminal f) a.after a.behind)

  module _ (w : List TerminalString) (c : Configuration) (tracks : Tracks h states w c) where
    module _ (p : Production) (acts : action_on (states c.state) (next_token c.rest) ≡ Some (ReduceBy p)) where
      here : Found h f states faithful c p
      here = found h f states faithful w c p tracks (by_reduction (shift_of (states c.state) (next_token c.rest)) (reduction_on (states c.state).reductions (next_token c.rest)) p acts)

      -- the trees after the reduction
      abbrev after : List Tree
      after = Node p.nonterminal here.popped.taken ∷ here.popped.kept

      moves : move states c ≡ goes_on ((states here.popped.state).goto p.nonterminal) here.popped.state here.popped.under after c.rest
      moves = reduction_moves states c c.rest p acts ∙ here.move_is

      -- there is no goto on the start symbol
      none : p.nonterminal ≡ f → (states here.popped.state).goto p.nonterminal ≡ None
      none is_f = elim (at_the_start here.valid) [
        | inl s ↦
            let first : 0 ≡ here.popped.state = same_some (subst (λ (u : List Symbol). state_after states u ≡ Some here.popped.state) s.0 (stacked_after here.popped.stack)) in
            ap (λ n. (states n).goto p.nonterminal) (sym first) ∙ ap (λ a. (states 0).goto a) is_f ∙ no_goto h f states faithful alone
        | inr a ↦ absurd (not_awaited here.prefix (subst (λ b. IsAwaited h f here.prefix (Nonterminal b)) is_f a))
      ]

      -- a reduction by a production of the start symbol is no other step than the final one
      pub goes_no_further : p.nonterminal ≡ f → (d : Configuration) → move states c ≡ Goes d → ⊥
      goes_no_further is_f d goes =
          let ends : move states c ≡ Ends after = moves ∙ ap (λ o. goes_on o here.popped.state here.popped.under after c.rest) (none is_f) in
          subst IsGoing (sym goes ∙ ends) tt

      -- a final reduction leaves these trees
      final_trees : (trees : List Tree) → move states c ≡ Ends trees → trees ≡ after
      final_trees trees ends = go ((states here.popped.state).goto p.nonterminal) (sym moves ∙ ends)
        where
          go : (o : Option ℕ) → goes_on o here.popped.state here.popped.under after c.rest ≡ Ends trees → trees ≡ after
          go None e = sym (same_ends e)
          go (Some n) e = absurd (subst IsEnding (sym e) tt)

      -- a final reduction is by a production of the start symbol
      pub final_name : (trees : List Tree) → move states c ≡ Ends trees → p.nonterminal ≡ f
      final_name trees ends =
          let z = ends_last h f states faithful w c trees tracks ends in
          let same : z.tree ≡ Node p.nonterminal here.popped.taken = head-eq_of_cons-eq (sym z.alone ∙ final_trees trees ends) in
          same_nonterminal (ap root (sym same) ∙ z.from_start)

    -- the final step puts a node of the start symbol above the newest trees
    pub record IsOver (trees : List Tree) : Type 0 where
      pub taken : Trees
      pub kept : List Tree
      pub over : trees ≡ Node f taken ∷ kept
      pub before : c.trees ≡ onto taken kept

    pub final_over : (terminals : List TerminalString) (productions : List Production) (trees : List Tree) {event : Event} → IsEvent terminals productions states c event → move states c ≡ Ends trees → IsOver trees
    final_over terminals productions trees (shifts target bit acts listed) ends =
        let by = shift_moves states c c.rest target acts in
        absurd (subst IsGoing (sym by.moves ∙ ends) tt)
    final_over terminals productions trees (reduces p number acts listed) ends =
        let k = here p acts in
        record {
          taken = k.popped.taken;
          kept = k.popped.kept;
          over = final_trees p acts trees ends ∙ ap (λ a. Node a k.popped.taken ∷ k.popped.kept) (final_name p acts trees ends);
          before = k.popped.joined;
        }

    -- if it leaves one node with one child, this child was the only tree
    pub only_child : (s t : Tree) → IsOver (t ∷ []) → t ≡ Node f (beside s no_trees) → c.trees ≡ s ∷ []
    only_child s t o is =
        let taken : o.taken ≡ beside s no_trees = ap children_of (sym (head-eq_of_cons-eq o.over) ∙ is) in
        let kept : o.kept ≡ [] = sym (tail-eq_of_cons-eq o.over) in
        o.before ∙ ap (λ ts. onto ts o.kept) taken ∙ ap (λ ks. onto (beside s no_trees) ks) kept
