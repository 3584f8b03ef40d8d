use Rattle.std.proofs.Common.{◌≡◌, ℕ, List, [], ◌++◌, Option, option_map, append-nil, ap, sym, ◌∙◌}
use Rattle.lalrpop_base.specs.Words.{number_of}
use Rattle.lalrpop_collections.proofs.theory.lists.Places.{slice_get_at}
use Rattle.lalrpop_lane_states.proofs.Types.{StateIndex, Symbol}
use Rattle.lalrpop_lane_states.specs.lane_states.CopiedNumbers.{copied_edge, edge_to}
use Rattle.lalrpop_lane_states.proofs.theory.lane_states.CopiedNumbers.{edge_found}
use Rattle.lalrpop_lane_states.proofs.lane_table.construct.copied_numbers.add_edge.Goals as goal

pub returns-in_default : goal.returns-in_default
returns-in_default c =
    let symbols : List Symbol = c.args.symbols.now in
    let e : ℕ × ℕ = c.args.edge in
    let symbol = c.index-symbols-edge.result in
    let at = slice_get_at symbols e.0 symbol c.requires c.index-symbols-edge.is in
    let found = edge_found symbols c.args.state.now e symbol c.target_over.result at c.target_over.ensures in
    let none : copied_edge symbols c.args.state.now e ≡ [] = found ∙ ap (λ (o : Option StateIndex). edge_to e.0 (option_map number_of o)) c.in_default.is in
    sym (ap (λ (es : List (ℕ × ℕ)). c.args.list.now.items ++ es) none ∙ append-nil c.args.list.now.items)
