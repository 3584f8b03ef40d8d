use Rattle.std.proofs.Common.{inl, inr, ap, subst, ◌∙◌, ◌∷◌, ◌++◌, [], length}
use Rattle.std.specs.Iterator.{Drains, Yields}
use Rattle.std.proofs.iter.Next.{Yields-more}
use Rattle.lalrpop_parser.proofs.theory.runs.MachineRuns.{if_err, on_ok, raised}
use Rattle.table_parser.proofs.Lists.{begins, reads_on}
use Rattle.table_parser.proofs.Reducing.{if_limit, listed}
use Rattle.table_parser.proofs.Reports.{both_err, if_limit_within, if_refused, if_refused_within, if_unknown, limit_end, limit_last, met_unknown, parsed_end, read_within}
use Rattle.expecting_parser.proofs.Keeping.{end_after, last_after}
use Rattle.expecting_parser.proofs.parse.parse_keeping.Goals as goal

pub loop-bit-init : goal.loop-bit-init
loop-bit-init g c = record {
  same = c.new-machine.ensures.table;
  reading = begins c.args.table.now g.H.ParseHandler.takes c.args.limit c.args.handler.now c.new-machine.result c.new-machine.ensures.fresh;
  kept = c.requires.empty;
}

pub loop-bit-preserved : goal.loop-bit-preserved
loop-bit-preserved g c =
    let m = c.loop-bit.machine in
    let says = c.in_ok-shift.ensures in
    let within = read_within g.row.H-Stop.Denot c.in-Some.bit (length m.table.now.terminals) m.position c.in_ok-shift.field-0 says.unknown in
    let t = listed m.table.now.terminals c.in-Some.bit within in
    record {
      same = ap (λ b. b.now) says.table ∙ c.loop-bit.invariant.same;
      reading = reads_on c.args.table.now g.H.ParseHandler.takes c.args.limit c.args.handler.now c.loop-bit.yielded m c.loop-bit.handler c.in-Some.bit t.0 c.shift.new.self c.shift.new.handler t.1 c.loop-bit.invariant.same says.position says.read c.loop-bit.invariant.reading;
      kept = c.keep.ensures c.loop-bit.yielded c.loop-bit.invariant.kept;
    }

pub returns-in_err-shift-clause-refused : goal.returns-in_err-shift-clause-refused
returns-in_err-shift-clause-refused g c =
    let m = c.loop-bit.machine in
    let gives = g.I.Iterator.next_gives in
    let given = subst (λ s. Yields gives s (c.loop-bit.yielded ++ c.in-Some.bit ∷ []) c.next.new.self) c.into_iter-bit-iterator.ensures.into_iter_gives
    (Yields-more gives c.into_iter-bit-iterator.result c.loop-bit.yielded c.loop-bit.bit-iterator c.in-Some.bit c.next.new.self c.loop-bit.yielded_by c.in-Some.ensures.steps) in
    raised _ c.in_err-shift.field-0.0
    (if_refused_within c.in-Some.bit (length m.table.now.terminals) m.position
    (λ refusal within place refuse. last_after gives c.args.input c.args.table.now g.H.ParseHandler.takes c.args.limit c.args.handler.now c.loop-bit.yielded m c.loop-bit.handler c.loop-bit.invariant.same c.loop-bit.invariant.reading c.loop-bit.kept c.loop-bit.invariant.kept c.in-Some.bit c.next.new.self given within c.shift.new.handler refusal place refuse)
    c.in_err-shift.field-0.0 c.in_err-shift.ensures.unknown c.in_err-shift.ensures.place c.in_err-shift.ensures.refused)
    c.from_residual.result c.from_residual.ensures.1

pub returns-in_err-shift-clause-limit : goal.returns-in_err-shift-clause-limit
returns-in_err-shift-clause-limit g c =
    let m = c.loop-bit.machine in
    let gives = g.I.Iterator.next_gives in
    let given = subst (λ s. Yields gives s (c.loop-bit.yielded ++ c.in-Some.bit ∷ []) c.next.new.self) c.into_iter-bit-iterator.ensures.into_iter_gives
    (Yields-more gives c.into_iter-bit-iterator.result c.loop-bit.yielded c.loop-bit.bit-iterator c.in-Some.bit c.next.new.self c.loop-bit.yielded_by c.in-Some.ensures.steps) in
    raised _ c.in_err-shift.field-0.0
    (if_limit_within c.in-Some.bit (length m.table.now.terminals) m.position
    (λ within cut. inl (limit_last gives c.args.input c.args.table.now g.H.ParseHandler.takes c.args.limit c.args.handler.now c.loop-bit.yielded m c.loop-bit.handler c.loop-bit.invariant.same c.loop-bit.invariant.reading c.in-Some.bit c.next.new.self given within cut))
    c.in_err-shift.field-0.0 c.in_err-shift.ensures.unknown c.in_err-shift.ensures.limit)
    c.from_residual.result c.from_residual.ensures.1

pub returns-in_err-shift-clause-unknown : goal.returns-in_err-shift-clause-unknown
returns-in_err-shift-clause-unknown g c =
    let m = c.loop-bit.machine in
    let gives = g.I.Iterator.next_gives in
    let given = subst (λ s. Yields gives s (c.loop-bit.yielded ++ c.in-Some.bit ∷ []) c.next.new.self) c.into_iter-bit-iterator.ensures.into_iter_gives
    (Yields-more gives c.into_iter-bit-iterator.result c.loop-bit.yielded c.loop-bit.bit-iterator c.in-Some.bit c.next.new.self c.loop-bit.yielded_by c.in-Some.ensures.steps) in
    raised _ c.in_err-shift.field-0.0
    (if_unknown
    (met_unknown gives c.args.input c.args.table.now g.H.ParseHandler.takes c.args.limit c.args.handler.now c.loop-bit.yielded m c.loop-bit.handler c.loop-bit.invariant.same c.loop-bit.invariant.reading c.in-Some.bit c.next.new.self given)
    c.in_err-shift.field-0.0 c.in_err-shift.ensures.known)
    c.from_residual.result c.from_residual.ensures.1

pub returns-clause-parsed : goal.returns-clause-parsed
returns-clause-parsed g c =
    let gives = g.I.Iterator.next_gives in
    let drained = subst (λ s. Drains gives s c.loop-bit.yielded) c.into_iter-bit-iterator.ensures.into_iter_gives (c.next.new.self, (c.loop-bit.bit-iterator, c.loop-bit.yielded_by, c.in-None.ensures.steps)) in
    on_ok
    (λ parse. parsed_end gives c.args.input c.args.table.now g.H.ParseHandler.takes c.args.limit c.args.handler.now c.loop-bit.yielded c.loop-bit.machine c.loop-bit.handler c.loop-bit.invariant.same c.loop-bit.invariant.reading drained c.finish.new.self c.finish.new.handler parse)
    c.finish.result c.finish.ensures.parsed

pub returns-clause-refused : goal.returns-clause-refused
returns-clause-refused g c =
    let gives = g.I.Iterator.next_gives in
    let drained = subst (λ s. Drains gives s c.loop-bit.yielded) c.into_iter-bit-iterator.ensures.into_iter_gives (c.next.new.self, (c.loop-bit.bit-iterator, c.loop-bit.yielded_by, c.in-None.ensures.steps)) in
    both_err
    (if_refused (λ refusal place refuse. end_after gives c.args.input c.args.table.now g.H.ParseHandler.takes c.args.limit c.args.handler.now c.loop-bit.yielded c.loop-bit.machine c.loop-bit.handler c.loop-bit.invariant.same c.loop-bit.invariant.reading c.loop-bit.kept c.loop-bit.invariant.kept drained c.finish.new.handler refusal place refuse))
    c.finish.result c.finish.ensures.place c.finish.ensures.refused

pub returns-clause-limit : goal.returns-clause-limit
returns-clause-limit g c =
    let gives = g.I.Iterator.next_gives in
    let drained = subst (λ s. Drains gives s c.loop-bit.yielded) c.into_iter-bit-iterator.ensures.into_iter_gives (c.next.new.self, (c.loop-bit.bit-iterator, c.loop-bit.yielded_by, c.in-None.ensures.steps)) in
    if_err _ _
    (if_limit (λ cut. inr (limit_end gives c.args.input c.args.table.now g.H.ParseHandler.takes c.args.limit c.args.handler.now c.loop-bit.yielded c.loop-bit.machine c.loop-bit.handler c.loop-bit.invariant.same c.loop-bit.invariant.reading drained cut)))
    c.finish.result c.finish.ensures.limit

pub returns-clause-unknown : goal.returns-clause-unknown
returns-clause-unknown g c = if_err _ _ (if_unknown (λ position number none. absurd none)) c.finish.result c.finish.ensures.known
