use Rattle.std.proofs.Common.{◌≡◌, refl, rules, arith}
use Rattle.std.proofs.lemmas.Grind.{common_steps}
use Rattle.lalrpop_construction.specs.declared.options.Method.TheVariants.{Canonical}
use Rattle.lalrpop_tables.proofs.theory.collapse.CollapseCanonical.{Canonical-collapsible}
use Rattle.lalrpop_tables.proofs.theory.answers.Lr1Answers.{Collapse-answers, Collapse-fails}
use Rattle.lalrpop_tables.proofs.build_lalr.build_lalr_states.Goals as goal

pub collapse_to_lalr_states-requires : goal.collapse_to_lalr_states-requires
collapse_to_lalr_states-requires c =
    let method : c.args.options.now.method ≡ Canonical = first_of (search rules, grind (arith, common_steps)) in
    Canonical-collapsible c.args.grammar.now c.args.start c.in_ok-states.states.items (c.in_ok-states.ensures.tables.built (λ x. x) method).made

pub returns-then-eq-clause-tables : goal.returns-then-eq-clause-tables
returns-then-eq-clause-tables c =
    let g = c.args.grammar.now in
    let start = c.args.start in
    let states = c.in_ok-states in
    let says = c.collapse_to_lalr_states.ensures in
    let method : c.args.options.now.method ≡ Canonical = first_of (search rules, grind (arith, common_steps)) in
    let before = states.ensures.tables.canonical (λ x. x) method in
    Collapse-answers (λ tables. tables.items) g start c.args.options.now.stop_after c.args.options.now.method method c.args.options.now.max_copies states.states.items states.ensures.tables c.collapse_to_lalr_states.result says.merged says.coherent (says.some states.ensures.tables.some) (says.lalr g start refl before)

pub returns-then-eq-clause-no_tables : goal.returns-then-eq-clause-no_tables
returns-then-eq-clause-no_tables c =
    let g = c.args.grammar.now in
    let start = c.args.start in
    let states = c.in_ok-states in
    let says = c.collapse_to_lalr_states.ensures in
    let method : c.args.options.now.method ≡ Canonical = first_of (search rules, grind (arith, common_steps)) in
    let before = states.ensures.tables.canonical (λ x. x) method in
    Collapse-fails (λ tables. tables.items) g start c.args.options.now.stop_after c.args.options.now.method method c.args.options.now.max_copies states.states.items states.ensures.tables c.collapse_to_lalr_states.result says.merged (says.lalr g start refl before)
