use Rattle.std.proofs.Common.{rules, ◌≡◌, [], ◌∷◌, List, length, false, sym, ap, subst, ◌∙◌}
use Rattle.lalrpop_base.specs.Words.{IsBitOf, Tree, next_token}
use Rattle.lalrpop_grammar.specs.declared.repr.TerminalString.{TerminalString}
use Rattle.table_parser.specs.Machines.{IsProgress}
use Rattle.table_parser.specs.declared.machine.Progress.{Progress}
use Rattle.table_parser.specs.declared.machine.Progress.TheVariants.{Ended}
use Rattle.table_parser.proofs.Reading.{at_end, ended_refuses, not_alone, parses, stuck_refuses}
use Rattle.table_parser.proofs.machine.Machine.finish.Goals as goal

pub returns-in-Ended-true-clause-parsed : goal.returns-in-Ended-true-clause-parsed
returns-in-Ended-true-clause-parsed g c = λ states d is at none.
    let old = c.args.self.now in
    let bit_is : c.in-Ok.bit ≡ length old.table.now.terminals = search rules in
    let has : IsBitOf old.table.now.terminals (next_token d.rest) c.in-Ok.bit = subst (λ (ts : List TerminalString). IsBitOf old.table.now.terminals (next_token ts) c.in-Ok.bit) (sym none) bit_is in
    let made = subst (λ (p : Progress). IsProgress old.table.now.terminals old.table.now.productions states g.H.ParseHandler.takes d old c.args.handler.now c.reduce_all.new.self c.reduce_all.new.handler p) (c.in-Ended-true.is ∙ ap Ended c.in-Ended-true.field-0-test) (c.in_ok-reduce_all.ensures.made states d is at has) in
    parses old.table.now.terminals old.table.now.productions states g.H.ParseHandler.takes d old c.args.handler.now c.reduce_all.new.self c.reduce_all.new.handler made

pub returns-in-Ended-false-clause-refused : goal.returns-in-Ended-false-clause-refused
returns-in-Ended-false-clause-refused g c = λ states d is at none.
    let old = c.args.self.now in
    let bit_is : c.in-Ok.bit ≡ length old.table.now.terminals = search rules in
    let has : IsBitOf old.table.now.terminals (next_token d.rest) c.in-Ok.bit = subst (λ (ts : List TerminalString). IsBitOf old.table.now.terminals (next_token ts) c.in-Ok.bit) (sym none) bit_is in
    let made = subst (λ (p : Progress). IsProgress old.table.now.terminals old.table.now.productions states g.H.ParseHandler.takes d old c.args.handler.now c.reduce_all.new.self c.reduce_all.new.handler p) (c.in-Ended-false.is ∙ ap Ended c.in-Ended-false.field-0-test) (c.in_ok-reduce_all.ensures.made states d is at has) in
    ended_refuses old.table.now.terminals old.table.now.productions states g.H.ParseHandler.takes d old c.args.handler.now c.reduce_all.new.self c.reduce_all.new.handler c.refusal.result (length old.table.now.terminals) c.refusal.ensures.position c.refusal.ensures.state (c.refusal.ensures.token ∙ bit_is) (λ (trees : List Tree). (t : Tree) × (trees ≡ t ∷ [])) false made (not_alone old.table.now.terminals old.table.now.productions states g.H.ParseHandler.takes d old c.args.handler.now c.reduce_all.new.self c.reduce_all.new.handler made)

pub returns-in-Stuck-clause-refused : goal.returns-in-Stuck-clause-refused
returns-in-Stuck-clause-refused g c = λ states d is at none.
    let old = c.args.self.now in
    let bit_is : c.in-Ok.bit ≡ length old.table.now.terminals = search rules in
    let has : IsBitOf old.table.now.terminals (next_token d.rest) c.in-Ok.bit = subst (λ (ts : List TerminalString). IsBitOf old.table.now.terminals (next_token ts) c.in-Ok.bit) (sym none) bit_is in
    let made = subst (λ (p : Progress). IsProgress old.table.now.terminals old.table.now.productions states g.H.ParseHandler.takes d old c.args.handler.now c.reduce_all.new.self c.reduce_all.new.handler p) (c.in-Stuck.is) (c.in_ok-reduce_all.ensures.made states d is at has) in
    stuck_refuses old.table.now.terminals old.table.now.productions states g.H.ParseHandler.takes d old c.args.handler.now c.reduce_all.new.self c.reduce_all.new.handler c.refusal-in-Stuck.result (length old.table.now.terminals) c.refusal-in-Stuck.ensures.position c.refusal-in-Stuck.ensures.state (c.refusal-in-Stuck.ensures.token ∙ bit_is) (λ (trees : List Tree). (t : Tree) × (trees ≡ t ∷ [])) made

pub returns-in-CanShift-clause-refused : goal.returns-in-CanShift-clause-refused
returns-in-CanShift-clause-refused g c = λ states d is at none.
    let old = c.args.self.now in
    let bit_is : c.in-Ok.bit ≡ length old.table.now.terminals = search rules in
    let has : IsBitOf old.table.now.terminals (next_token d.rest) c.in-Ok.bit = subst (λ (ts : List TerminalString). IsBitOf old.table.now.terminals (next_token ts) c.in-Ok.bit) (sym none) bit_is in
    let made = subst (λ (p : Progress). IsProgress old.table.now.terminals old.table.now.productions states g.H.ParseHandler.takes d old c.args.handler.now c.reduce_all.new.self c.reduce_all.new.handler p) (c.in-CanShift.is) (c.in_ok-reduce_all.ensures.made states d is at has) in
    absurd (at_end old.table.now.terminals old.table.now.productions states g.H.ParseHandler.takes d old c.args.handler.now c.reduce_all.new.self c.reduce_all.new.handler c.in-CanShift.field-0 made none)
