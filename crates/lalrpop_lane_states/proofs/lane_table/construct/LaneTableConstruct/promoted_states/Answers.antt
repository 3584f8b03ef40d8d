use Rattle.std.proofs.Common.{ap, sym, subst}
use Rattle.lalrpop_base.specs.Words.{Rules, rules_of, AreNumbers}
use Rattle.lalrpop_construction.specs.Words.{AreLr0States, Construction}
use Rattle.lalrpop_lane_states.proofs.Types.{Nil}
use Rattle.lalrpop_lane_states.proofs.theory.lane_states.LanePromoted.{Numbered-promoted, promoted_lanes, promoted_full, full_set}
use Rattle.lalrpop_lane_states.proofs.lane_table.construct.LaneTableConstruct.promoted_states.Goals as goal

pub lr0_states-requires : goal.lr0_states-requires
lr0_states-requires c = subst (λ (g : Rules). AreNumbers g c.args.numbers.now) (sym (ap (λ (k : Construction Nil). k.rules) c.requires.ready.over)) c.requires.numbers

pub returns-clause-lanes : goal.returns-clause-lanes
returns-clause-lanes c =
    let g = rules_of c.args.self.now.grammar.now in
    let states = c.in_ok-states.states.items in
    let lr0 = subst (λ (k : Construction Nil). AreLr0States k.rules k.start states) c.requires.ready.over c.in_ok-states.ensures.states in
    promoted_lanes g c.args.self.now.start _ (full_set g.terminals _ c.in_ok-all.ensures) states _ lr0 c.in_ok-states-2.ensures

pub returns-clause-full : goal.returns-clause-full
returns-clause-full c n state from at =
    let terminals = c.args.self.now.grammar.now.terminals in
    promoted_full terminals _ (full_set terminals _ c.in_ok-all.ensures) c.in_ok-states.states.items _ c.in_ok-states-2.ensures n state at

pub returns-clause-numbered : goal.returns-clause-numbered
returns-clause-numbered c = Numbered-promoted c.args.numbers.now _ c.in_ok-states.list.items c.in_ok-states.states.items _ c.in_ok-states-2.ensures c.in_ok-states.ensures.numbered
