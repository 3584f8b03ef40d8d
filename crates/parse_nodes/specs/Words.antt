-- The definitions that the contracts of this crate name, each with the file that has it.
pub use Rattle.parse_nodes.specs.Building.{AddsNode, node_of, start_of, tree_start}
pub use Rattle.parse_nodes.specs.Children.{AreChildren, HasTree, child_numbers, root_number, root_numbers}
pub use Rattle.parse_nodes.specs.Nodes.{AreNodes, IsInnerNode, IsLeafNode, IsTerminalNode}
pub use Rattle.parse_nodes.specs.Parsing.{HasBuiltTree}
