-- Over faithful states the trees on the stack have a node for each step of the run.
use Rattle.std.proofs.Common.{◌≡◌, ℕ, suc, ◌+◌, List, [], ◌∷◌, sym, subst, ap, ◌∙◌, Option, Some, None, arith}
use Rattle.lalrpop_grammar.specs.declared.repr.NonterminalString.{NonterminalString}
use Rattle.lalrpop_grammar.specs.declared.repr.Production.{Production}
use Rattle.lalrpop_grammar.specs.declared.repr.TerminalString.{TerminalString}
use Rattle.lalrpop_grammar.specs.Words.{AreFaithful, Configuration, Contents, Goes, Leaf, Move, Node, Reaches, Tree, Trees, beside, further, goes_on, here, move, no_trees, nodes}
use Rattle.lalrpop_grammar.proofs.theory.runs.Runs.{Did, Found, Tracks, did, found, reduced_by, shifted, step_tracks, stood}
use Rattle.lalrpop_grammar.proofs.theory.runs.Steps.{IsGoing, onto, same_goes}

-- how many nodes the trees on a stack have
abbrev pub counted : List Tree → ℕ
counted [] = 0
counted (t ∷ trees) = counted trees + nodes (beside t no_trees)

-- the nodes of a tree and of those beside it
nodes_cons : (t : Tree) (ts : Trees) → nodes (beside t ts) ≡ nodes (beside t no_trees) + nodes ts
nodes_cons (Leaf x) ts = omega arith
nodes_cons (Node a children) ts = omega arith

-- the nodes of trees that are put on the stack
counted_onto : (ts : Trees) (trees : List Tree) → counted (onto ts trees) ≡ counted trees + nodes ts
counted_onto no_trees trees = omega arith
counted_onto (beside t ts) trees =
    let r : counted (onto ts (t ∷ trees)) ≡ (counted trees + nodes (beside t no_trees)) + nodes ts = counted_onto ts (t ∷ trees) in
    let n : nodes (beside t ts) ≡ nodes (beside t no_trees) + nodes ts = nodes_cons t ts in
    omega (arith, r, n)

module _ (g : List Production) (start : NonterminalString) (states : ℕ → Contents) (faithful : AreFaithful g start states) where
  -- a step adds a node
  step_counts : (w : List TerminalString) (c d : Configuration) → Tracks g states w c → move states c ≡ Goes d → counted d.trees ≡ suc (counted c.trees)
  step_counts w c d tr e = go (move states c) (did states c) e
    where
      after_reduction : (p : Production) (f : Found g start states faithful c p) (o : Option ℕ) → goes_on o f.popped.state f.popped.under (Node p.nonterminal f.popped.taken ∷ f.popped.kept) c.rest ≡ Goes d → counted d.trees ≡ suc (counted c.trees)
      after_reduction p f None k = absurd (subst IsGoing (sym k) tt)
      after_reduction p f (Some n) k =
          let new : counted f.popped.kept + suc (nodes f.popped.taken + 0) ≡ counted d.trees = ap (λ (x : Configuration). counted x.trees) (same_goes k) in
          let old : counted c.trees ≡ counted f.popped.kept + nodes f.popped.taken = ap counted f.popped.joined ∙ counted_onto f.popped.taken f.popped.kept in
          omega (arith, new, old)

      go : (m : Move) → Did states c m → m ≡ Goes d → counted d.trees ≡ suc (counted c.trees)
      go _ (shifted t rest n h k) x =
          let new : counted c.trees + 1 ≡ counted d.trees = ap (λ (y : Configuration). counted y.trees) (same_goes x) in
          omega (arith, new)
      go _ (reduced_by p h) x =
          let f : Found g start states faithful c p = found g start states faithful w c p tr h in
          after_reduction p f ((states f.popped.state).goto p.nonterminal) (sym f.move_is ∙ x)
      go _ (stood h k) x = absurd (subst IsGoing (sym x) tt)

  -- a run adds a node for each step
  pub run_counts : (w : List TerminalString) {n : ℕ} {c d : Configuration} → Reaches states n c d → Tracks g states w c → counted d.trees ≡ counted c.trees + n
  run_counts w here tr = omega arith
  run_counts w (further {c = c} {d} e r) tr =
      let first : counted d.trees ≡ suc (counted c.trees) = step_counts w c d tr e in
      let others = run_counts w r (step_tracks g start states faithful w c d tr e) in
      omega (arith, first, others)
