-- The text of a derivation tree with a mark between two moves of the parser that makes it. The mark
-- is the dot of the textbook's items: Aho, Sethi and Ullman, section 4.7.
use Rattle.std.specs.Prelude.{◌==◌, ◌&&◌, ℕ, zero, suc, Bool, true, false, cond, not, List, [], ◌∷◌, ◌++◌, codes, Option, None, Some}
use Rattle.lalrpop_ambiguity.specs.declared.derivation.marked.MarkedTree.{MarkedTree}
use Rattle.lalrpop_ambiguity.specs.derivations.Derivations.{Tree, beside, no_trees}
use Rattle.lalrpop_ambiguity.specs.derivations.DerivationSteps.{Step, enters, meets_leaf, leaves_node, is_entering, step_text, steps_over, steps_text}
use Rattle.lalrpop_ambiguity.specs.derivations.Represented.{separator_text, tree_of}

-- the mark, which has a separator before it as a child has
abbrev pub mark_text : Bool → List ℕ
mark_text is_first = separator_text is_first ++ codes "(*)"

-- the text of steps, with the mark after n moves and right before the next one. A move is a leaf, or
-- the end of a node. If there are no more moves, the mark is at the end
abbrev pub marked_steps : ℕ → Bool → List Step → List ℕ
marked_steps n is_first [] = mark_text is_first
marked_steps n is_first (enters p ∷ steps) = step_text is_first (enters p) ++ marked_steps n true steps
marked_steps zero is_first (meets_leaf x ∷ steps) = mark_text is_first ++ steps_text false (meets_leaf x ∷ steps)
marked_steps zero is_first (leaves_node ∷ steps) = mark_text is_first ++ steps_text false (leaves_node ∷ steps)
marked_steps (suc n) is_first (meets_leaf x ∷ steps) = step_text is_first (meets_leaf x) ++ marked_steps n false steps
marked_steps (suc n) is_first (leaves_node ∷ steps) = step_text is_first leaves_node ++ marked_steps n false steps

-- the text of a tree with the mark after its first n moves
abbrev pub marked_text : ℕ → Tree → List ℕ
marked_text n t = marked_steps n true (steps_over (beside t no_trees))

-- the text of a marked tree of the code
abbrev pub shown_tree : MarkedTree → List ℕ
shown_tree marked = marked_text marked.moves (tree_of marked.tree.now)

-- ---- the text step by step
-- the text of steps, with so many moves left before the mark. With None the mark is before them
abbrev pub text_left : Option ℕ → Bool → List Step → List ℕ
text_left None is_first steps = steps_text is_first steps
text_left (Some n) is_first steps = marked_steps n is_first steps

-- the mark is right before a step: no move is left before it, and the step is a move
abbrev pub is_marked : Option ℕ → Step → Bool
is_marked None step = false
is_marked (Some n) step = not (is_entering step) && (n == 0)

-- one move fewer, or None if there is none
abbrev pub one_fewer : ℕ → Option ℕ
one_fewer zero = None
one_fewer (suc n) = Some n

-- the moves that are left before the mark after a step
abbrev pub left_after : Option ℕ → Step → Option ℕ
left_after None step = None
left_after (Some n) step = cond (is_entering step) (Some n) (one_fewer n)

-- the mark if it is here, else nothing
abbrev pub mark_if : Bool → Bool → List ℕ
mark_if false is_first = []
mark_if true is_first = mark_text is_first

-- whether a tree is the first child of its node, after the mark if that is here
abbrev pub is_first_after : Bool → Bool → Bool
is_first_after false is_first = is_first
is_first_after true is_first = false

-- the text of a step, with the mark before it if that is here
abbrev pub marked_step_text : Bool → Bool → Step → List ℕ
marked_step_text is_here is_first step = mark_if is_here is_first ++ step_text (is_first_after is_here is_first) step
