use Rattle.std.proofs.Common.{◌≡◌, ◌∙◌, List, sym, subst, arith}
use Rattle.std.specs.Borrow.{Bor}
use Rattle.lalrpop_base.specs.Words.{Bits}
use Rattle.lalrpop_lanes.specs.Words.{AreReducedAmong}
use Rattle.lalrpop_lane_states.proofs.Types.{Production, State}
use Rattle.lalrpop_lane_states.proofs.theory.merges.Merges.{row_walked, walked_listed}
use Rattle.lalrpop_collections.proofs.theory.lists.Places.{same_some, slice_get_at}
use Rattle.lalrpop_lane_states.proofs.lane_table.construct.merge.Merge.is_patchable.Goals as goal

pub index-requires : goal.index-requires
index-requires c =
    let merge = c.args.self.now in
    let l = walked_listed merge c.requires merge.inconsistent_state (row_walked merge c.requires merge.inconsistent_state c.requires.start) in
    let k = merge.states.ok.0 in
    omega arith

pub returns : goal.returns
returns c =
    let merge = c.args.self.now in
    let n = merge.inconsistent_state.0 in
    let l = walked_listed merge c.requires merge.inconsistent_state (row_walked merge c.requires merge.inconsistent_state c.requires.start) in
    let at = slice_get_at merge.states.items n c.index.result.now l c.index.ensures in
    let e = c.column_count.ensures in
    let f = c.len.ensures.len in
    let g = c.if-column_count-len.false in (
      λ yes. record {
        counted = omega arith;
        among = λ state there.
            let same : c.index.result.now ≡ state = same_some c.index.result.now state (sym at ∙ there) in
            subst (λ (s : State Bits). AreReducedAmong c.args.actions.now.keys s.reductions.items) same
            (subst (λ (rs : List (Bits × Bor Production)). AreReducedAmong c.args.actions.now.keys rs) c.deref.ensures.value (c.are_among.ensures.0 yes));
      },
      λ p. c.are_among.ensures.1 (subst (λ (rs : List (Bits × Bor Production)). AreReducedAmong c.args.actions.now.keys rs) (sym c.deref.ensures.value) (p.among c.index.result.now at)),
    )
