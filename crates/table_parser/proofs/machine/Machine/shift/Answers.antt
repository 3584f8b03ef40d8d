use Rattle.std.proofs.Common.{List, sym, subst}
use Rattle.lalrpop_base.specs.Words.{IsBitOf, next_token}
use Rattle.lalrpop_grammar.specs.declared.repr.TerminalString.{TerminalString}
use Rattle.lalrpop_parser.proofs.theory.runs.MachineRuns.{if_err, on_ok}
use Rattle.table_parser.specs.Machines.{IsProgress}
use Rattle.table_parser.specs.declared.machine.Progress.{Progress}
use Rattle.table_parser.proofs.Reading.{cut_off_at_shift, ended_refuses, read, stuck_refuses}
use Rattle.table_parser.proofs.Reducing.{if_limit}
use Rattle.table_parser.proofs.machine.Machine.shift.Goals as goal

pub returns-in-CanShift-clause-read : goal.returns-in-CanShift-clause-read
returns-in-CanShift-clause-read g c = on_ok
    (λ shift states d t rest is at listed next.
    let old = c.args.self.now in
    let has : IsBitOf old.table.now.terminals (next_token d.rest) c.args.bit = subst (λ (ts : List TerminalString). IsBitOf old.table.now.terminals (next_token ts) c.args.bit) (sym next) listed in
    let made = subst (λ (p : Progress). IsProgress old.table.now.terminals old.table.now.productions states g.H.ParseHandler.takes d old c.args.handler.now c.reduce_all.new.self c.reduce_all.new.handler p) c.in-CanShift.is (c.in_ok-target.ensures.made states d is at has) in
    read old.table.now.terminals old.table.now.productions states g.H.ParseHandler.takes d old c.args.handler.now c.reduce_all.new.self c.reduce_all.new.handler c.in-CanShift.target made c.push.new.self c.push.new.handler c.args.bit has shift t rest next)
    c.push.result c.push.ensures.made

pub returns-in-CanShift-clause-limit : goal.returns-in-CanShift-clause-limit
returns-in-CanShift-clause-limit g c = if_err _ _
    (if_limit (λ spent states d t rest is at listed next.
    let old = c.args.self.now in
    let has : IsBitOf old.table.now.terminals (next_token d.rest) c.args.bit = subst (λ (ts : List TerminalString). IsBitOf old.table.now.terminals (next_token ts) c.args.bit) (sym next) listed in
    let made = subst (λ (p : Progress). IsProgress old.table.now.terminals old.table.now.productions states g.H.ParseHandler.takes d old c.args.handler.now c.reduce_all.new.self c.reduce_all.new.handler p) c.in-CanShift.is (c.in_ok-target.ensures.made states d is at has) in
    cut_off_at_shift old.table.now.terminals old.table.now.productions states g.H.ParseHandler.takes d old c.args.handler.now c.reduce_all.new.self c.reduce_all.new.handler c.in-CanShift.target made spent))
    c.push.result c.push.ensures.limit

pub returns-in-Stuck-clause-refused : goal.returns-in-Stuck-clause-refused
returns-in-Stuck-clause-refused g c = λ states d t rest is at listed next.
    let old = c.args.self.now in
    let has : IsBitOf old.table.now.terminals (next_token d.rest) c.args.bit = subst (λ (ts : List TerminalString). IsBitOf old.table.now.terminals (next_token ts) c.args.bit) (sym next) listed in
    let made = subst (λ (p : Progress). IsProgress old.table.now.terminals old.table.now.productions states g.H.ParseHandler.takes d old c.args.handler.now c.reduce_all.new.self c.reduce_all.new.handler p) c.in-Stuck.is (c.in_ok-target.ensures.made states d is at has) in
    stuck_refuses old.table.now.terminals old.table.now.productions states g.H.ParseHandler.takes d old c.args.handler.now c.reduce_all.new.self c.reduce_all.new.handler c.refusal.result c.args.bit c.refusal.ensures.position c.refusal.ensures.state c.refusal.ensures.token (λ _. ⊥) made

pub returns-in-Ended-clause-refused : goal.returns-in-Ended-clause-refused
returns-in-Ended-clause-refused g c = λ states d t rest is at listed next.
    let old = c.args.self.now in
    let has : IsBitOf old.table.now.terminals (next_token d.rest) c.args.bit = subst (λ (ts : List TerminalString). IsBitOf old.table.now.terminals (next_token ts) c.args.bit) (sym next) listed in
    let made = subst (λ (p : Progress). IsProgress old.table.now.terminals old.table.now.productions states g.H.ParseHandler.takes d old c.args.handler.now c.reduce_all.new.self c.reduce_all.new.handler p) c.in-Ended.is (c.in_ok-target.ensures.made states d is at has) in
    ended_refuses old.table.now.terminals old.table.now.productions states g.H.ParseHandler.takes d old c.args.handler.now c.reduce_all.new.self c.reduce_all.new.handler c.refusal-in-Ended.result c.args.bit c.refusal-in-Ended.ensures.position c.refusal-in-Ended.ensures.state c.refusal-in-Ended.ensures.token (λ _. ⊥) c.in-Ended.field-0 made (λ none. none)
