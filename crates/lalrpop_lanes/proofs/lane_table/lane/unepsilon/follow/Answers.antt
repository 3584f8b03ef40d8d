use Rattle.std.proofs.Common.{◌+◌, sym, ◌∙◌, subst}
use mathlib.Core.Bool.{true≢false}
use Rattle.lalrpop_base.specs.Words.{IsFirstSet, Rules, rules_of, HasKnownTerminals}
use Rattle.lalrpop_lanes.specs.Words.{IsFollowBit, IsHere, IsParent, Nothing}
use Rattle.lalrpop_lanes.proofs.theory.follow_sets.Following.{no_follow, no_passed, follow_gained, follow_passed}
use Rattle.lalrpop_lanes.proofs.theory.lanes.GainsSome.{on_err, GainsSome-all, GainsSome-none, GainsSome-same}
use Rattle.lalrpop_grammar.proofs.theory.grammars.Grammars.{known_symbols, known_rest}
use Rattle.lalrpop_lanes.proofs.lane_table.lane.unepsilon.follow.Goals as goal

pub returns-then-not-can_shift_nonterminal-clause-gains : goal.returns-then-not-can_shift_nonterminal-clause-gains
returns-then-not-can_shift_nonterminal-clause-gains g c =
    no_follow (rules_of c.args.automaton.now.grammar.now) c.args.name.now c.args.item.now c.args.state c.args.conflict.index c.args.table.now (λ parent. true≢false (sym (c.can_shift_nonterminal.ensures.1 parent) ∙ c.if-not-can_shift_nonterminal.true))

pub returns-then-not-can_shift_nonterminal-clause-visits : goal.returns-then-not-can_shift_nonterminal-clause-visits
returns-then-not-can_shift_nonterminal-clause-visits g c =
    no_passed (rules_of c.args.automaton.now.grammar.now) c.args.name.now c.args.item.now c.args.state c.args.walk.now (λ parent. true≢false (sym (c.can_shift_nonterminal.ensures.1 parent) ∙ c.if-not-can_shift_nonterminal.true))

pub first0-requires : goal.first0-requires
first0-requires g c =
    let grammar = c.args.automaton.now.grammar.now in
    let p = c.args.item.now.production in
    record { known = subst (λ (r : Rules). HasKnownTerminals r.terminals c.symbol_sets.result.suffix.now) (sym c.requires.automaton.firsts) (known_rest grammar.terminals (c.args.item.now.index + 1) p.symbols c.symbol_sets.result.suffix.now (known_symbols grammar p c.requires.automaton.well_formed c.requires.own) c.symbol_sets.ensures.suffix) }

pub returns-clause-gains : goal.returns-clause-gains
returns-clause-gains g c =
    let parent = c.can_shift_nonterminal.ensures.0 c.if-not-can_shift_nonterminal.false in
    let first = subst (λ (r : Rules). IsFirstSet r c.symbol_sets.result.suffix.now c.in_ok-first.first) c.requires.automaton.firsts c.in_ok-first.ensures.first in
    follow_gained (rules_of c.args.automaton.now.grammar.now) c.args.name.now c.args.item.now parent c.symbol_sets.result.suffix.now c.symbol_sets.ensures.suffix c.in_ok-first.first _ first (record { 0 = c.args.state }) c.args.conflict.index _ _ c.take_eof-nullable.ensures.left c.in_ok-add_lookahead.ensures.added

pub returns-clause-visits : goal.returns-clause-visits
returns-clause-visits g c =
    let parent = c.can_shift_nonterminal.ensures.0 c.if-not-can_shift_nonterminal.false in
    let first = subst (λ (r : Rules). IsFirstSet r c.symbol_sets.result.suffix.now c.in_ok-first.first) c.requires.automaton.firsts c.in_ok-first.ensures.first in
    follow_passed (rules_of c.args.automaton.now.grammar.now) c.args.name.now c.args.item.now parent c.symbol_sets.result.suffix.now c.symbol_sets.ensures.suffix c.in_ok-first.first c.take_eof-nullable.new.self first c.take_eof-nullable.result c.args.state _ _ c.take_eof-nullable.ensures.was c.in_ok-pass_on.ensures

pub returns-in_err-first-clause-part : goal.returns-in_err-first-clause-part
returns-in_err-first-clause-part g c = on_err _ (GainsSome-none c.args.conflict.index (IsHere c.args.state (IsParent c.args.name.now c.args.item.now)) (λ row bit. IsHere c.args.state (IsFollowBit (rules_of c.args.automaton.now.grammar.now) c.args.name.now c.args.item.now bit) row) Nothing c.args.table.now)

pub returns-in_err-add_lookahead-clause-part : goal.returns-in_err-add_lookahead-clause-part
returns-in_err-add_lookahead-clause-part g c = on_err _ (GainsSome-same c.args.conflict.index (IsHere c.args.state (IsParent c.args.name.now c.args.item.now)) (λ row bit. IsHere c.args.state (IsFollowBit (rules_of c.args.automaton.now.grammar.now) c.args.name.now c.args.item.now bit) row) Nothing _ _ c.in_err-add_lookahead.ensures.err)

pub returns-in_err-pass_on-clause-part : goal.returns-in_err-pass_on-clause-part
returns-in_err-pass_on-clause-part g c = on_err _ (let parent = c.can_shift_nonterminal.ensures.0 c.if-not-can_shift_nonterminal.false in
    let first = subst (λ (r : Rules). IsFirstSet r c.symbol_sets.result.suffix.now c.in_ok-first.first) c.requires.automaton.firsts c.in_ok-first.ensures.first in
    GainsSome-all c.args.conflict.index (IsHere c.args.state (IsParent c.args.name.now c.args.item.now)) (λ row bit. IsHere c.args.state (IsFollowBit (rules_of c.args.automaton.now.grammar.now) c.args.name.now c.args.item.now bit) row) Nothing _ _
    (follow_gained (rules_of c.args.automaton.now.grammar.now) c.args.name.now c.args.item.now parent c.symbol_sets.result.suffix.now c.symbol_sets.ensures.suffix c.in_ok-first.first _ first (record { 0 = c.args.state }) c.args.conflict.index _ _ c.take_eof-nullable.ensures.left c.in_ok-add_lookahead.ensures.added))
