use Rattle.std.proofs.Common.{◌++◌, ap, ◌∙◌, string_bytes}
use Rattle.std.specs.List.{flat_map}
use Rattle.lalrpop_collections.proofs.theory.lists.Pieces.{five_pieces, four_pieces}
use Rattle.table_pictures.specs.Nodes.{accepting_end, entry_xml, kernel_line, node_end, reduction_line}
use Rattle.table_pictures.proofs.nodes.push_node.Goals as goal

pub returns : goal.returns
returns c =
    let start = c.args.start.now in
    let number = c.args.state.now.index.0 in
    let t1 = string_bytes c.push_head.new.text in
    let t2 = string_bytes c.push_entry.new.text in
    let t3 = string_bytes c.push_line_end.new.text in
    let t4 = string_bytes c.push_kernel.new.text in
    let t5 = string_bytes c.push_reductions.new.text in
    let t6 = string_bytes c.push_conflicts.new.text in
    let t7 = string_bytes c.push_accepting.new.text in
    let t8 = string_bytes c.push_end.new.text in
    let entry = c.in_ok-push_entry.ensures ∙ ap (λ items. t1 ++ entry_xml items) c.deref.ensures.value in
    let kernel = c.in_ok-push_kernel.ensures ∙ ap (λ items. t3 ++ flat_map (kernel_line start number) items) c.deref-2.ensures.value in
    let reductions = c.in_ok-push_reductions.ensures ∙ ap (λ items. t4 ++ flat_map (reduction_line c.args.terminals.now) items) c.deref-3.ensures.value in
    let accepting = c.in_ok-push_accepting.ensures ∙ ap (λ items. t6 ++ accepting_end start items) c.deref-4.ensures.value in
    let end = c.in_ok-push_end.ensures ∙ ap (λ red. t7 ++ node_end red) c.is_in_conflict.ensures in
    let rest = five_pieces t3 t4 t5 t6 t7 t8 _ _ _ _ _ kernel reductions c.in_ok-push_conflicts.ensures accepting end in
    four_pieces (string_bytes c.args.text.now) t1 t2 t3 t8 _ _ _ _ c.in_ok-push_head.ensures entry c.in_ok-push_line_end.ensures rest
