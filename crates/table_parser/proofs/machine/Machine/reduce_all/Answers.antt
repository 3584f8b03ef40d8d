use Rattle.std.proofs.Common.{suc, ◌<◌, ◌≤◌, length, refl, sym, subst, ◌∙◌, arith, Bor}
use Rattle.lalrpop_parser.proofs.theory.runs.MachineRuns.{raised}
use Rattle.parse_tables.specs.declared.table.ParseTable.{ParseTable}
use Rattle.parse_tables.specs.declared.table.TableAction.TheVariants.{None as NoAction, Reduce, Shift}
use Rattle.table_parser.specs.Machines.{IsReduction}
use Rattle.table_parser.specs.declared.machine.Reduced.{Reduced}
use Rattle.table_parser.proofs.Moves.{none_stands}
use Rattle.table_parser.proofs.Reducing.{acts, another, if_limit, left_as, no_production, none_made, one_more, reduction_made}
use Rattle.table_parser.proofs.machine.Machine.reduce_all.Goals as goal

pub reducing-init : goal.reducing-init
reducing-init g c = record {
  table = refl;
  position = refl;
  reduced = λ states d is at has. (d, none_made c.args.self.now.table.now.terminals c.args.self.now.table.now.productions states g.H.ParseHandler.takes d c.args.self.now c.args.handler.now, at);
}

pub returns-in-None-clause-made : goal.returns-in-None-clause-made
returns-in-None-clause-made g c = λ states d is at has.
    let made = c.reducing.invariant.reduced states d is at has in
    let none = acts c.args.self.now c.reducing.self c.reducing.invariant.table states is d made.0 made.2 made.1.rest c.args.bit has NoAction c.in-None.ensures in
    (made.0, made.1, made.2, none_stands states made.0 made.0.rest (sym none))

pub returns-in-None-clause-table : goal.returns-in-None-clause-table
returns-in-None-clause-table g c = c.reducing.invariant.table

pub returns-in-None-clause-position : goal.returns-in-None-clause-position
returns-in-None-clause-position g c = c.reducing.invariant.position

pub returns-in-Shift-clause-made : goal.returns-in-Shift-clause-made
returns-in-Shift-clause-made g c = λ states d is at has.
    let made = c.reducing.invariant.reduced states d is at has in
    let shift = acts c.args.self.now c.reducing.self c.reducing.invariant.table states is d made.0 made.2 made.1.rest c.args.bit has (Shift c.in-Shift.target) c.in-Shift.ensures in
    (made.0, made.1, made.2, sym shift)

pub returns-in-Shift-clause-table : goal.returns-in-Shift-clause-table
returns-in-Shift-clause-table g c = c.reducing.invariant.table

pub returns-in-Shift-clause-position : goal.returns-in-Shift-clause-position
returns-in-Shift-clause-position g c = c.reducing.invariant.position

pub returns-in_default-clause-made : goal.returns-in_default-clause-made
returns-in_default-clause-made g c = λ states d is at has.
    let made = c.reducing.invariant.reduced states d is at has in
    let reduction = acts c.args.self.now c.reducing.self c.reducing.invariant.table states is d made.0 made.2 made.1.rest c.args.bit has (Reduce c.in-Reduce.number) c.in-Reduce.ensures in
    let past : length c.args.self.now.table.now.productions ≤ c.in-Reduce.number = subst (λ (t : Bor ParseTable). length t.now.productions ≤ c.in-Reduce.number) c.reducing.invariant.table (c.in_default.ensures.absent refl) in
    (made.0, made.1, made.2, none_stands states made.0 made.0.rest (sym reduction ∙ no_production c.args.self.now.table.now.productions c.in-Reduce.number past))

pub returns-in_default-clause-table : goal.returns-in_default-clause-table
returns-in_default-clause-table g c = c.reducing.invariant.table

pub returns-in_default-clause-position : goal.returns-in_default-clause-position
returns-in_default-clause-position g c = c.reducing.invariant.position

pub returns-in_err-reduce-in-Reduce-clause-limit : goal.returns-in_err-reduce-in-Reduce-clause-limit
returns-in_err-reduce-in-Reduce-clause-limit g c = raised _ c.in_err-reduce-in-Reduce.field-0.0
    (if_limit
    (λ spent states d is at has.
    let made = c.reducing.invariant.reduced states d is at has in
    record {
      at = made.0;
      handler = c.reducing.handler;
      reduced = left_as c.args.self.now.table.now.terminals c.args.self.now.table.now.productions states g.H.ParseHandler.takes d made.0 c.args.self.now c.args.handler.now c.reducing.handler c.reducing.self.left 0 spent made.1;
      another = another c.args.self.now c.reducing.self c.reducing.invariant.table states is d made.0 made.2 made.1.rest c.args.bit has c.in-Reduce.number c.in-Some.ensures.within c.in-Reduce.ensures;
    })
    c.in_err-reduce-in-Reduce.field-0.0 c.in_err-reduce-in-Reduce.ensures.limit)
    c.from_residual.result c.from_residual.ensures.1

pub returns-in_err-reduce-in-Reduce-clause-table : goal.returns-in_err-reduce-in-Reduce-clause-table
returns-in_err-reduce-in-Reduce-clause-table g c = c.in_err-reduce-in-Reduce.ensures.table ∙ c.reducing.invariant.table

pub reducing-smaller : goal.reducing-smaller
reducing-smaller g c =
    let spent = c.in_ok-reduce-in-Reduce.ensures.spent.counted in
    let less : c.reduce.new.self.left < c.reducing.self.left = omega (arith, spent) in
    less

pub reducing-preserved : goal.reducing-preserved
reducing-preserved g c = record {
  table = c.in_ok-reduce-in-Reduce.ensures.table ∙ c.reducing.invariant.table;
  position = c.in_ok-reduce-in-Reduce.ensures.position ∙ c.reducing.invariant.position;
  reduced = λ states d is at has.
      let old = c.args.self.now in
      let made = c.reducing.invariant.reduced states d is at has in
      let step = reduction_made old c.reducing.self c.reducing.invariant.table states is d made.0 made.2 made.1.rest c.args.bit has c.in-Reduce.number c.in-Some.ensures.within c.in-Reduce.ensures
      g.H.ParseHandler.takes c.reduce.new.self c.reducing.handler c.reduce.new.handler c.in-Some.name c.in-Some.len c.in_ok-reduce-in-Reduce.field-0 c.in-Some.ensures.found c.in_ok-reduce-in-Reduce.ensures.made in
      let went = subst (λ (r : Reduced). IsReduction old.table.now.terminals old.table.now.productions states g.H.ParseHandler.takes made.0 c.reducing.self c.reducing.handler c.reduce.new.self c.reduce.new.handler r) c.in-GoesOn.is step in (
        went.0,
        one_more old.table.now.terminals old.table.now.productions states g.H.ParseHandler.takes d made.0 went.0 old c.args.handler.now c.reducing.handler c.reduce.new.handler c.reducing.self.left c.reduce.new.self.left made.1 went.1 went.3 c.in_ok-reduce-in-Reduce.ensures.spent.counted,
        went.2,
      );
}

pub returns-in-Ends-clause-made : goal.returns-in-Ends-clause-made
returns-in-Ends-clause-made g c = λ states d is at has.
    let old = c.args.self.now in
    let made = c.reducing.invariant.reduced states d is at has in
    let step = reduction_made old c.reducing.self c.reducing.invariant.table states is d made.0 made.2 made.1.rest c.args.bit has c.in-Reduce.number c.in-Some.ensures.within c.in-Reduce.ensures
    g.H.ParseHandler.takes c.reduce.new.self c.reducing.handler c.reduce.new.handler c.in-Some.name c.in-Some.len c.in_ok-reduce-in-Reduce.field-0 c.in-Some.ensures.found c.in_ok-reduce-in-Reduce.ensures.made in
    let ended = subst (λ (r : Reduced). IsReduction old.table.now.terminals old.table.now.productions states g.H.ParseHandler.takes made.0 c.reducing.self c.reducing.handler c.reduce.new.self c.reduce.new.handler r) c.in-Ends.is step in (
      made.0,
      c.reducing.handler,
      left_as old.table.now.terminals old.table.now.productions states g.H.ParseHandler.takes d made.0 old c.args.handler.now c.reducing.handler c.reducing.self.left (suc c.reduce.new.self.left) (sym c.in_ok-reduce-in-Reduce.ensures.spent.counted) made.1,
      ended.0,
      ended.1,
      ended.2,
      ended.3,
      ended.4,
    )

pub returns-in-Ends-clause-table : goal.returns-in-Ends-clause-table
returns-in-Ends-clause-table g c = c.in_ok-reduce-in-Reduce.ensures.table ∙ c.reducing.invariant.table

pub returns-in-Ends-clause-position : goal.returns-in-Ends-clause-position
returns-in-Ends-clause-position g c = c.in_ok-reduce-in-Reduce.ensures.position ∙ c.reducing.invariant.position
