use Rattle.std.proofs.Common.{ℕ, sym, subst, arith, List, length}
use Rattle.lalrpop_base.specs.Words.{Bits, rules_of}
use Rattle.lalrpop_lane_states.proofs.Types.{State}
use Rattle.lalrpop_lane_states.specs.Words.{AreLr0Copies, AreResolvedUpTo}
use Rattle.lalrpop_lane_states.specs.declared.lane_table.construct.copying.Copying.{Copying}
use Rattle.lalrpop_lane_states.proofs.theory.lane_states.ResolvedCopies.{below_none, ends_all, ends_here, resolving_on}
use Rattle.lalrpop_lane_states.proofs.theory.lane_states.Resolving.{resolving_copies}
use Rattle.lalrpop_lane_states.proofs.lane_table.construct.LaneTableConstruct.resolve_all.Goals as goal
use Rattle.lalrpop_lane_states.proofs.lane_table.construct.LaneTableConstruct.resolve_all.Goals.{else-loop-index-test, then-loop-index-test+in_ok-next+then-not-resolved}

pub loop-index-init : goal.loop-index-init
loop-index-init c =
    let b = c.requires.begun in
    record { handed = b.0; numbers = b.1; resolving = b.2; below = below_none c.args.first c.args.copying.states.items }

pub resolve_one-requires-clause-resolving : goal.resolve_one-requires-clause-resolving
resolve_one-requires-clause-resolving c = let h = c.loop-index.invariant in (h.handed, h.resolving)

pub resolve_next-requires-clause-resolving : goal.resolve_next-requires-clause-resolving
resolve_next-requires-clause-resolving c = let h = c.loop-index.invariant in (h.handed, h.numbers, c.in_ok-next.ensures.resolving h.handed h.resolving)

pub resolve_next-requires-clause-within : goal.resolve_next-requires-clause-within
resolve_next-requires-clause-within c =
    let longer = (c.in_ok-next.ensures.tried).longer in
    let test = c.loop-index-test.true in
    let len = c.len.ensures in
    let ok = c.loop-index.copying.states.ok in
    omega arith

pub loop-index-smaller : goal.loop-index-smaller
loop-index-smaller c =
    let total = c.in_ok-next.ensures.total in
    let left = c.in_ok-after.ensures.left in
    let between = c.in_ok-after.ensures.resolved in
    let counted = (between.same).counted in
    let begun = between.begun in
    let within = between.within in
    let test = c.loop-index-test.true in
    let len = c.len.ensures in
    let ok = c.loop-index.copying.states.ok in
    omega arith

pub loop-index-preserved : goal.loop-index-preserved
loop-index-preserved c =
    let now = c.loop-index in
    let tried = c.in_ok-next.ensures in
    let next = c.in_ok-after.ensures in
    resolving_on (rules_of c.args.self.now.grammar.now) c.args.self.now.start c.args.self.now.max_copies c.args.numbers.now c.args.numbered.now c.args.first now.index c.in_ok-after.end c.args.copying now.copying c.in_ok-next.next c.in_ok-after.after c.in_ok-next.resolved c.if-not-resolved.false now.invariant (omega arith) tried.tried tried.resolving next.resolved next.resolving

pub returns-clause-copies : goal.returns-clause-copies
returns-clause-copies c =
    let g = rules_of c.args.self.now.grammar.now in
    let start = c.args.self.now.start in
    let copies = c.args.self.now.max_copies in
    let h = c.loop-index.invariant in
    elim c.loop-index-test.branch [
      | else-loop-index-test w ↦ subst (λ (k : Copying). AreLr0Copies g start copies k.states.items) (sym w.copying-is) (resolving_copies g start copies h.handed c.loop-index.copying h.resolving)
      | then-loop-index-test+in_ok-next+then-not-resolved w ↦ subst (λ (k : Copying). AreLr0Copies g start copies k.states.items) (sym w.copying-is) (resolving_copies g start copies h.handed w.in_ok-next.next (w.in_ok-next.ensures.resolving h.handed h.resolving))
    ]

pub returns-clause-resolved : goal.returns-clause-resolved
returns-clause-resolved c =
    let g = rules_of c.args.self.now.grammar.now in
    let start = c.args.self.now.start in
    let copies = c.args.self.now.max_copies in
    let entry : List (State Bits) = c.args.copying.states.items in
    let now = c.loop-index in
    let below = (now.invariant).below in
    elim c.loop-index-test.branch [
      | else-loop-index-test w ↦ subst (λ (k : Copying). (last : ℕ) × AreResolvedUpTo g start copies c.args.first last entry k.states.items) (sym w.copying-is)
          (length now.copying.states.items, ends_all g start copies c.args.first now.index entry now.copying.states.items below (λ l. absurd (omega (arith, l))))
      | then-loop-index-test+in_ok-next+then-not-resolved w ↦ subst (λ (k : Copying). (last : ℕ) × AreResolvedUpTo g start copies c.args.first last entry k.states.items) (sym w.copying-is)
          (now.index, ends_here c.args.first now.index entry now.copying.states.items w.in_ok-next.next.states.items below (omega arith) w.in_ok-next.resolved w.in_ok-next.ensures.tried g start copies w.if-not-resolved.true (w.in_ok-next.ensures.overlap w.if-not-resolved.true))
    ]
