-- A builder has the nodes of the trees on the stack.
use Rattle.std.proofs.Common.{◌≡◌, ℕ, zero, suc, ◌+◌, ◌-◌, List, [], ◌∷◌, ◌++◌, Option, None, Some, length, length-append, append-nil, append_assoc, slice_get, take, drop, reverse, refl, sym, ap, subst, ◌∙◌, arith}
use Rattle.std.proofs.lemmas.List.{reverse-append}
use Rattle.lalrpop_base.specs.Words.{Configuration, Contents, Ends, Goes, IsBitOf, Leaf, Move, Stands, Tree, begin, beside, goes_on, move, next_token, no_trees, received, reduced, trees_of}
use Rattle.lalrpop_grammar.specs.declared.repr.Production.{Production}
use Rattle.lalrpop_grammar.specs.declared.repr.TerminalString.{TerminalString}
use Rattle.table_parser.specs.Events.{Event, width}
use Rattle.table_parser.specs.Steps.{Handles, IsEvent, IsFinal, nothing, once_more, reduces, shifts}
use Rattle.table_parser.proofs.Moves.{reduction_moves, shift_moves}
use Rattle.parse_nodes.specs.Building.{AddsNode, start_of, tree_start}
use Rattle.parse_nodes.specs.Nodes.{AreNodes}
use Rattle.parse_nodes.specs.declared.builder.NodeBuilder.{NodeBuilder}
use Rattle.parse_nodes.specs.declared.node.ParseNode.{ParseNode}
use Rattle.parse_nodes.proofs.Rows.{moved, root_of, row_append}
use Rattle.parse_nodes.proofs.Walks.{last_tree, start_in, start_of_next, starts_within}
use Rattle.parse_nodes.proofs.Widths.{width_children, width_reverse, width_taken}

-- the trees after a move
abbrev trees_in : Move → List Tree
trees_in Stands = []
trees_in (Goes c) = c.trees
trees_in (Ends trees) = trees

goes_trees : (o : Option ℕ) (s : ℕ) (below : List ℕ) (trees : List Tree) (rest : List TerminalString) → trees_in (goes_on o s below trees rest) ≡ trees
goes_trees None s below trees rest = refl
goes_trees (Some n) s below trees rest = refl

received_trees : (states : ℕ → Contents) (p : Production) (stack : List ℕ) (trees : List Tree) (rest : List TerminalString) → trees_in (received states p stack trees rest) ≡ trees
received_trees states p [] trees rest = refl
received_trees states p (s ∷ below) trees rest = goes_trees ((states s).goto p.nonterminal) s below trees rest

module _ (terminals : List TerminalString) (productions : List Production) where
  -- the nodes are those of the trees of a stack: at the end those of the newest tree, which begins
  -- after the terminals of the others
  abbrev pub StackNodes : List Tree → List ParseNode → Type 0
  StackNodes [] nodes = nodes ≡ []
  StackNodes (t ∷ ts) nodes = (below : List ParseNode) × (own : List ParseNode) × (nodes ≡ below ++ own) × AreNodes terminals productions own (width ts) (beside t no_trees) × StackNodes ts below

  -- the nodes of the newest trees stand at the end, as those of a row
  pub record HasTaken (n : ℕ) (ts : List Tree) (nodes : List ParseNode) : Type 0 where
    pub below : List ParseNode
    pub own : List ParseNode
    pub is : nodes ≡ below ++ own
    pub left : StackNodes (drop n ts) below
    pub row : AreNodes terminals productions own (width (drop n ts)) (trees_of (reverse (take n ts)))
    pub start : start_of nodes n (length nodes) ≡ length below

  taken : (n : ℕ) (ts : List Tree) (nodes : List ParseNode) → StackNodes ts nodes → HasTaken n ts nodes
  taken zero ts nodes stack = record { below = nodes; own = []; is = sym (append-nil nodes); left = stack; row = refl; start = refl }
  taken (suc n) [] nodes stack =
      let none = ap length stack in
      let within = starts_within nodes (suc n) (length nodes) in
      record { below = nodes; own = []; is = sym (append-nil nodes); left = stack; row = refl; start = omega (arith, none, within) }
  taken (suc n) (t ∷ ts) nodes stack =
      let r = taken n ts stack.0 stack.4 in
      let root = root_of terminals productions t stack.1 (width ts) stack.3 in
      let one = moved terminals productions (beside t no_trees) stack.1 stack.1 (width ts) (width (drop n ts) + width (reverse (take n ts))) refl (sym (width_taken n ts)) stack.3 in
      record {
        below = r.below;
        own = r.own ++ stack.1;
        is = stack.2 ∙ ap (λ zs. zs ++ stack.1) r.is ∙ append_assoc r.below r.own stack.1;
        left = r.left;
        row = subst (λ (us : List Tree). AreNodes terminals productions (r.own ++ stack.1) (width (drop n ts)) (trees_of us)) (sym (reverse-append (t ∷ []) (take n ts)))
            (row_append terminals productions (reverse (take n ts)) (t ∷ []) r.own stack.1 (width (drop n ts)) r.row one);
        start =
            start_of_next nodes n (length nodes)
            ∙ ap (λ zs. start_of nodes n (tree_start zs (length zs))) stack.2
            ∙ ap (start_of nodes n) (last_tree stack.0 stack.1 root)
            ∙ ap (λ zs. start_of zs n (length stack.0)) stack.2
            ∙ start_in stack.0 stack.1 n (length stack.0) (omega arith)
            ∙ r.start;
      }

  -- the nodes of a stack are those of its trees in a row, the oldest first
  pub stack_row : (ts : List Tree) (nodes : List ParseNode) → StackNodes ts nodes → AreNodes terminals productions nodes 0 (trees_of (reverse ts))
  stack_row [] nodes stack = stack
  stack_row (t ∷ ts) nodes stack =
      let turned = width_reverse ts in
      let one = moved terminals productions (beside t no_trees) stack.1 stack.1 (width ts) (0 + width (reverse ts)) refl (omega (arith, turned)) stack.3 in
      let row = row_append terminals productions (reverse ts) (t ∷ []) stack.0 stack.1 0 (stack_row ts stack.0 stack.4) one in
      subst (λ (us : List Tree). AreNodes terminals productions nodes 0 (trees_of us)) (sym (reverse-append (t ∷ []) ts))
      (moved terminals productions (trees_of (reverse ts ++ t ∷ [])) (stack.0 ++ stack.1) nodes 0 0 (sym stack.2) refl row)

  module _ (states : ℕ → Contents) where
    -- a builder that takes the event of a step has the nodes of the new trees
    event_nodes : (c : Configuration) (h i : NodeBuilder) {event : Event} → IsEvent terminals productions states c event → AddsNode h event i → StackNodes c.trees h.nodes.items → StackNodes (trees_in (move states c)) i.nodes.items
    event_nodes c h i (shifts target bit acts listed) added stack =
        let by = shift_moves states c c.rest target acts in
        let trees : trees_in (move states c) ≡ Leaf by.terminal ∷ c.trees = ap trees_in by.moves in
        let label : slice_get terminals bit ≡ Some by.terminal = subst (λ (ts : List TerminalString). IsBitOf terminals (next_token ts) bit) by.next listed in
        let n : ParseNode = record { label = bit; size = 1; first = width c.trees; end = width c.trees + 1 } in
        let new : StackNodes (Leaf by.terminal ∷ c.trees) i.nodes.items =
        (h.nodes.items, n ∷ [], added, (n, [], refl, record { label = label; size = refl; first = refl; end = refl }, refl), stack) in
        subst (λ (ts : List Tree). StackNodes ts i.nodes.items) (sym trees) new
    event_nodes c h i (reduces p number acts listed) added stack =
        let len = length p.symbols in
        let trees : trees_in (move states c) ≡ reduced p c.trees =
        ap trees_in (reduction_moves states c c.rest p acts) ∙ received_trees states p (drop len (c.state ∷ c.below)) (reduced p c.trees) c.rest in
        let r = taken len c.trees h.nodes.items stack in
        let n : ParseNode = record { label = number; size = suc (length h.nodes.items - start_of h.nodes.items len (length h.nodes.items)); first = width (drop len c.trees); end = width c.trees } in
        let whole = ap length r.is in
        let parts = length-append r.below r.own in
        let start = r.start in
        let size : n.size ≡ suc (length r.own) = omega (arith, whole, parts, start) in
        let new : StackNodes (reduced p c.trees) i.nodes.items = (
          r.below,
          r.own ++ n ∷ [],
          added ∙ ap (λ zs. zs ++ n ∷ []) r.is ∙ append_assoc r.below r.own (n ∷ []),
          (
            r.own,
            n,
            [],
            refl,
            record { production = p; label = listed; name = refl; size = size; first = refl; end = width_children p c.trees },
            r.row,
            refl,
          ),
          r.left,
        ) in
        subst (λ (ts : List Tree). StackNodes ts i.nodes.items) (sym trees) new

    -- so has a builder that takes several steps
    steps_nodes : (c d : Configuration) (h i : NodeBuilder) {n : ℕ} → Handles terminals productions states AddsNode n c h d i → StackNodes c.trees h.nodes.items → StackNodes d.trees i.nodes.items
    steps_nodes c d h i nothing stack = stack
    steps_nodes c e h j (once_more {d = d} {i = i} before step) stack =
        subst (λ (m : Move). StackNodes (trees_in m) j.nodes.items) step.moves (event_nodes d i j step.is step.taken (steps_nodes c d h i before stack))

    module _ (w : List TerminalString) (n : ℕ) (c : Configuration) (h i : NodeBuilder) (empty : h.nodes.items ≡ []) (handled : Handles terminals productions states AddsNode n (begin w) h c i) where
      -- after the steps of a run
      pub steps_build : AreNodes terminals productions i.nodes.items 0 (trees_of (reverse c.trees))
      steps_build = stack_row c.trees i.nodes.items (steps_nodes (begin w) c h i handled empty)

      -- after the final step
      pub parse_builds : (t : Tree) (j : NodeBuilder) → IsFinal terminals productions states AddsNode c (t ∷ []) i j → AreNodes terminals productions j.nodes.items 0 (beside t no_trees)
      parse_builds t j final =
          stack_row (t ∷ []) j.nodes.items
          (subst (λ (m : Move). StackNodes (trees_in m) j.nodes.items) final.ends (event_nodes c i j final.is final.taken (steps_nodes (begin w) c h i handled empty)))
