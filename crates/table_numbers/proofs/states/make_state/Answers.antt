use Rattle.std.proofs.Common.{◌≡◌, ℕ, List, map, sym, ◌∙◌, ap, subst}
use Rattle.lalrpop_base.specs.Words.{Bits, bits_of, name_cmp}
use Rattle.lalrpop_grammar.specs.contracts.repr.TerminalStringOrd.TheImpl as terminal_ord
use Rattle.lalrpop_grammar.specs.declared.repr.NonterminalString.{NonterminalString}
use Rattle.lalrpop_grammar.specs.declared.repr.Production.{Production}
use Rattle.lalrpop_grammar.specs.declared.repr.TerminalString.{TerminalString}
use Rattle.table_numbers.specs.Lists.{Lists, named}
use Rattle.table_numbers.specs.Made.{HasTargets, borrowed}
use Rattle.table_numbers.specs.Numbered.{reduction_at, reduction_parts}
use Rattle.table_numbers.proofs.ContentsLemmas.{made_parts}
use Rattle.table_numbers.proofs.states.make_state.Goals as goal

pub returns-clause-made : goal.returns-clause-made
returns-clause-made c listed same_productions same_sets =
    let lists = c.args.names.now in
    let state = c.args.state.now in
    let terminals : c.all.result.now ≡ lists.terminals = c.all.ensures ∙ ap (λ (x : Lists). x.terminals) c.names.view_is in
    let nonterminals : c.all-2.result.now ≡ lists.nonterminals = c.all-2.ensures ∙ ap (λ (x : Lists). x.nonterminals) c.names.view_is in
    let shifts : HasTargets terminal_ord.ghosts.cmp c.in_ok-make_shifts.field-0 (named lists.terminals state.shifts) =
    subst (λ (x : List TerminalString). HasTargets terminal_ord.ghosts.cmp c.in_ok-make_shifts.field-0 (named x state.shifts)) terminals
    (subst (λ (x : List (ℕ × ℕ)). HasTargets terminal_ord.ghosts.cmp c.in_ok-make_shifts.field-0 (named c.all.result.now x)) c.as_slice.ensures c.in_ok-make_shifts.ensures) in
    let gotos : HasTargets name_cmp c.in_ok-make_gotos.field-0 (named lists.nonterminals state.gotos) =
    subst (λ (x : List NonterminalString). HasTargets name_cmp c.in_ok-make_gotos.field-0 (named x state.gotos)) nonterminals
    (subst (λ (x : List (ℕ × ℕ)). HasTargets name_cmp c.in_ok-make_gotos.field-0 (named c.all-2.result.now x)) c.as_slice-3.ensures c.in_ok-make_gotos.ensures) in
    let reductions : map (reduction_at lists.productions (map bits_of listed)) state.reductions ≡ map reduction_parts c.in_ok-make_reductions.field-0.items =
    ap (λ (x : List Production). map (reduction_at x (map bits_of listed)) state.reductions) (sym same_productions)
    ∙ ap (λ (x : List Bits). map (reduction_at (borrowed c.args.productions.now) x) state.reductions) (sym same_sets)
    ∙ ap (map (reduction_at (borrowed c.args.productions.now) c.args.sets.now)) (sym c.as_slice-2.ensures)
    ∙ sym c.in_ok-make_reductions.ensures in
    made_parts lists listed state c.in_ok-make_shifts.field-0 c.in_ok-make_gotos.field-0 c.in_ok-make_reductions.field-0.items shifts gotos reductions
