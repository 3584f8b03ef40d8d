-- The nodes that a builder adds.
use Rattle.std.specs.Prelude.{◌≡◌, ℕ, zero, suc, ◌+◌, ◌-◌, List, [], ◌∷◌, ◌++◌, Option, None, Some, length, slice_get}
use Rattle.table_parser.specs.Events.{Event, Reduced, Shifted}
use Rattle.parse_nodes.specs.declared.builder.NodeBuilder.{NodeBuilder}
use Rattle.parse_nodes.specs.declared.node.ParseNode.{ParseNode}

-- the size that a node has, if there is one
abbrev pub size_of : Option ParseNode → ℕ
size_of None = 0
size_of (Some n) = n.size

-- where the tree begins that ends before a place. Its last node is its root, which has its size
abbrev pub tree_start : List ParseNode → ℕ → ℕ
tree_start nodes zero = 0
tree_start nodes (suc root) = suc root - size_of (slice_get nodes root)

-- where the last so many trees before a place begin
abbrev pub start_of : List ParseNode → ℕ → ℕ → ℕ
start_of nodes zero place = place
start_of nodes (suc count) place = tree_start nodes (start_of nodes count place)

-- the node of an event: a terminal, or a production over the last trees, as many as its right side
-- has symbols
abbrev pub node_of : List ParseNode → Event → ParseNode
node_of nodes (Shifted position bit) = record { label = bit; size = 1; first = position; end = position + 1 }
node_of nodes (Reduced number len first end) = record { label = number; size = suc (length nodes - start_of nodes len (length nodes)); first = first; end = end }

-- the builder takes an event: it adds the node of the event, and nothing else
abbrev pub AddsNode : NodeBuilder → Event → NodeBuilder → Type 0
AddsNode old event new = new.nodes.items ≡ old.nodes.items ++ node_of old.nodes.items event ∷ []
