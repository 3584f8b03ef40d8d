use Rattle.std.proofs.Common.{◌≡◌, [], ◌∷◌}
use Rattle.lalrpop_ambiguity.specs.Words.{tree_nodes}
use Rattle.lalrpop_ambiguity.proofs.derivation.Derivation.go_down.Given as goal

-- the number of nodes is that at first
abbrev pub invariant-loop : goal.invariant-loop
invariant-loop l = tree_nodes (l.self ∷ l.rest.items) ≡ tree_nodes (l.initial.self ∷ l.initial.rest.items)

-- the tree has fewer nodes after each turn
abbrev pub decreases-loop : goal.decreases-loop
decreases-loop l = tree_nodes (l.self ∷ [])
