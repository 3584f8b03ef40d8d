use Rattle.std.proofs.Common.{◌≡◌, ◌<◌, suc, [], length, sym, subst, arith}
use Rattle.std.specs.Prelude.{Result}
use Rattle.lalrpop_base.specs.Words.{contents_in, here}
use Rattle.lalrpop_grammar.specs.declared.lookahead.token.Token.TheVariants.{Eof}
use Rattle.lalrpop_parser.specs.Words.{ReportsOutcome, configuration, trees_on, IsProgress, HasOutcomeFrom}
use Rattle.lalrpop_parser.specs.declared.interpret.error.InterpretError.{InterpretError}
use Rattle.lalrpop_parser.specs.declared.interpret.machine.Progress.{Progress}
use Rattle.lalrpop_parser.specs.declared.interpret.machine.Progress.TheVariants.{Stuck, GoesOn, Ended}
use Rattle.lalrpop_parser.specs.declared.interpret.tree.ParseTree.{ParseTree}
use Rattle.lalrpop_parser.proofs.theory.runs.MachineRuns.{lead, top_within, reaches_on, halted_ends, ends_stuck, ended_answer, raised_answer}
use Rattle.lalrpop_parser.proofs.theory.runs.Stacks.{step_keeps}
use Rattle.lalrpop_parser.proofs.interpret.machine.Machine.finish.Goals as goal

pub reducing-init : goal.reducing-init
reducing-init g c = record {
  stacked = c.requires.stacked;
  reached = record { steps = 0; reached = here; counted = omega arith };
}

pub top-state-requires : goal.top-state-requires
top-state-requires g c = top_within (g.L.LookaheadInterpret.holds c.args.terminals.now) c.args.states.now c.requires.coherent c.requires.some c.reducing.self c.reducing.invariant.stacked

pub returns-in_err-reduce_on : goal.returns-in_err-reduce_on
returns-in_err-reduce_on g c =
    raised_answer (HasOutcomeFrom (contents_in (g.L.LookaheadInterpret.holds c.args.terminals.now) c.args.states.now) (configuration c.args.self []) c.args.self.left) c.args.states.now c.in_err-reduce_on.field-0.0
    (halted_ends c.reducing.self c.args.states.now c.reducing.invariant.reached c.in_err-reduce_on.field-0.0 (c.in_err-reduce_on.ensures.halted []))
    c.from_residual.result c.from_residual.ensures.1

pub reducing-smaller : goal.reducing-smaller
reducing-smaller g c =
    let went : IsProgress (contents_in (g.L.LookaheadInterpret.holds c.args.terminals.now) c.args.states.now) c.reducing.self Eof [] c.reduce_on.new.self GoesOn =
    subst (λ (p : Progress). IsProgress (contents_in (g.L.LookaheadInterpret.holds c.args.terminals.now) c.args.states.now) c.reducing.self Eof [] c.reduce_on.new.self p) c.in-GoesOn.is (c.in_ok-reduce_on.ensures.made []) in
    let counted : suc c.reduce_on.new.self.left ≡ c.reducing.self.left = went.1 in
    let less : c.reduce_on.new.self.left < c.reducing.self.left = omega (arith, counted) in
    less

pub reducing-preserved : goal.reducing-preserved
reducing-preserved g c =
    let went : IsProgress (contents_in (g.L.LookaheadInterpret.holds c.args.terminals.now) c.args.states.now) c.reducing.self Eof [] c.reduce_on.new.self GoesOn =
    subst (λ (p : Progress). IsProgress (contents_in (g.L.LookaheadInterpret.holds c.args.terminals.now) c.args.states.now) c.reducing.self Eof [] c.reduce_on.new.self p) c.in-GoesOn.is (c.in_ok-reduce_on.ensures.made []) in
    record {
      stacked = step_keeps (contents_in (g.L.LookaheadInterpret.holds c.args.terminals.now) c.args.states.now) (length c.args.states.now) (lead (g.L.LookaheadInterpret.holds c.args.terminals.now) c.args.states.now c.requires.coherent) (configuration c.reducing.self []) (configuration c.reduce_on.new.self []) went.0 c.reducing.invariant.stacked;
      reached = reaches_on c.reducing.self c.reduce_on.new.self c.reducing.invariant.reached went.0 went.1;
    }

pub returns-in-Stuck : goal.returns-in-Stuck
returns-in-Stuck g c =
    let stuck : IsProgress (contents_in (g.L.LookaheadInterpret.holds c.args.terminals.now) c.args.states.now) c.reducing.self Eof [] c.reduce_on.new.self Stuck =
    subst (λ (p : Progress). IsProgress (contents_in (g.L.LookaheadInterpret.holds c.args.terminals.now) c.args.states.now) c.reducing.self Eof [] c.reduce_on.new.self p) c.in-Stuck.is (c.in_ok-reduce_on.ensures.made []) in
    (c.reducing.self.state.0, c.top-state.ensures, ends_stuck c.reducing.self c.reducing.invariant.reached stuck.0)

pub returns-in-Ended : goal.returns-in-Ended
returns-in-Ended g c =
    let ended : IsProgress (contents_in (g.L.LookaheadInterpret.holds c.args.terminals.now) c.args.states.now) c.reducing.self Eof [] c.reduce_on.new.self Ended =
    subst (λ (p : Progress). IsProgress (contents_in (g.L.LookaheadInterpret.holds c.args.terminals.now) c.args.states.now) c.reducing.self Eof [] c.reduce_on.new.self p) c.in-Ended.is (c.in_ok-reduce_on.ensures.made []) in
    subst (λ (r : Result ParseTree (InterpretError g.row.L.Denot)). ReportsOutcome (HasOutcomeFrom (contents_in (g.L.LookaheadInterpret.holds c.args.terminals.now) c.args.states.now) (configuration c.args.self []) c.args.self.left) c.args.states.now r) (sym c.ok_or.ensures.value)
    (ended_answer c.args.states.now c.reducing.self c.top-state.result (trees_on c.reduce_on.new.self.trees.items) c.reducing.invariant.reached c.top-state.ensures ended.0 ended.1
    c.only_tree-tree.result c.only_tree-tree.ensures.one c.only_tree-tree.ensures.other)
