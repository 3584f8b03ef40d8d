-- The runs of S = "x". On the list x the outcome is its tree at limit 2, and Limit at 1 and 0.
-- On the empty list the outcome is a refusal. The proofs compute the steps.
use Rattle.std.proofs.Common.{◌≡◌, [], ◌∷◌, subst, refl, arith}
use Rattle.lalrpop_grammar.specs.declared.lookahead.token.Token.TheVariants.{Eof, Terminal}
use Rattle.lalrpop_grammar.specs.Words.{Tree, Leaf, Node, no_trees, beside, nodes, IsParseTree, Configuration, here, further, begin, HasOutcome, Parsed, Refused}
use Rattle.lalrpop_grammar.specs.Words.{Limit, parsed, stuck, cut_off}
use Rattle.lalrpop_collections.proofs.theory.lists.Lists.{contains_head}
use Rattle.lalrpop_grammar.proofs.theory.runs.Steps.{IsEnding, IsGoing}
use Rattle.lr1_theory.proofs.theory.instances.Instance.{S, x, P, g, states}

-- the tree, which has two nodes
abbrev pub tree : Tree
tree = Node S (beside (Leaf x) no_trees)

-- the tree has two nodes
pub two_nodes : nodes (beside tree no_trees) ≡ 2
two_nodes = refl

-- it is a parse tree of the list
pub tree_parses : IsParseTree g S (x ∷ []) tree
tree_parses = record { from_start = refl; of_grammar = (record { production = P; of_grammar = contains_head P []; name = refl; symbols = refl }, tt, tt); of_list = refl }

-- the configuration after the shift
abbrev pub behind : Configuration
behind = record { state = 1; below = 0 ∷ []; trees = Leaf x ∷ []; rest = [] }

-- with limit 2 the outcome is the tree
pub at_two : HasOutcome states (x ∷ []) 2 (Parsed tree)
at_two = parsed 1 behind (tree ∷ []) tree (omega arith) (further refl here) refl (refl, refl)

-- with limit 1 the outcome is the limit
pub at_one : HasOutcome states (x ∷ []) 1 Limit
at_one = cut_off behind (further refl here) (λ e. subst IsEnding e tt)

-- with limit 0 the outcome is the limit
pub at_zero : HasOutcome states (x ∷ []) 0 Limit
at_zero = cut_off (begin (x ∷ [])) here (λ e. subst IsGoing e tt)

-- the empty list is refused by state 0 at Eof, also with limit 0
pub empty_refused : HasOutcome states [] 0 (Refused 0 Eof)
empty_refused = stuck 0 (begin []) (omega arith) here refl

-- a second x is refused by state 1
pub second_refused : HasOutcome states (x ∷ x ∷ []) 9 (Refused 1 (Terminal x))
second_refused = stuck 1 (record { state = 1; below = 0 ∷ []; trees = Leaf x ∷ []; rest = x ∷ [] }) (omega arith) (further refl here) refl
