use Rattle.std.proofs.Common.{List, ℕ, ◌<◌, false, length, sym, subst, arith, ◌∙◌, refl, ap}
use Rattle.lalrpop_base.specs.Words.{AreClosed, AreCoherent, Bits, productions, rules_of}
use Rattle.lalrpop_construction.specs.Words.{places_in}
use Rattle.lalrpop_construction.specs.states.NumberedStates.{AreNumberedStates}
use Rattle.lalrpop_construction.specs.declared.construction.numbered_state.NumberedState.{NumberedState}
use Rattle.lalrpop_follow_sets.specs.follow_sets.FollowNodes.{AreExpanded, AreItemsOfGrammar}
use Rattle.lalrpop_lane_states.proofs.Types.{State, Symbol}
use Rattle.lalrpop_lane_states.proofs.theory.lane_states.CopiedNumbers.{copied_numbered}
use Rattle.lalrpop_lane_states.proofs.theory.lane_states.CopiedPasses.{copied_expanded, copied_items, resolving_between}
use Rattle.lalrpop_lane_states.proofs.theory.lane_states.CopiedShape.{places_closed}
use Rattle.lalrpop_lane_states.proofs.theory.lane_states.Lr0Copies.{copied_coherent, copied_closed}
use Rattle.lalrpop_lane_states.proofs.theory.lane_states.Resolving.{originals_within, resolving_copies}
use Rattle.lalrpop_lane_states.proofs.lane_table.construct.LaneTableConstruct.resolve_apart.Goals as goal

-- ---- the states by number
pub copied_numbers-requires-clause-counted : goal.copied_numbers-requires-clause-counted
copied_numbers-requires-clause-counted c =
    let r = c.requires.resolving.2 in
    ap (λ (xs : List ℕ). length xs) c.deref-2.ensures.value ∙ (r.each).counted ∙ ap (λ (xs : List (State Bits)). length xs) (sym c.deref-3.ensures.value)

pub copied_numbers-requires-clause-within : goal.copied_numbers-requires-clause-within
copied_numbers-requires-clause-within c n o at =
    let h = c.requires.resolving in
    let counted = h.1.counted in
    let l = originals_within false h.0 c.args.copying.originals.items c.args.copying.states.items (h.2).each n o (rw c.deref-2.ensures.value at at) in
    omega arith

pub copied_numbers-requires-clause-over : goal.copied_numbers-requires-clause-over
copied_numbers-requires-clause-over c s old at x m among =
    let h = c.requires.resolving in
    subst (λ (xs : List Symbol). x < length xs) (sym c.deref.ensures.value) (((h.1).each s old at).named x m among)

-- ---- the pass
pub of_expanded-requires-clause-coherent : goal.of_expanded-requires-clause-coherent
of_expanded-requires-clause-coherent c =
    let h = c.requires.resolving in
    subst (λ (xs : List (State Bits)). AreCoherent xs) (sym c.deref-4.ensures.value) (copied_coherent (rules_of c.args.self.now.grammar.now) c.args.self.now.start h.0 (h.2).made c.args.copying.originals.items c.args.copying.states.items (h.2).each)

pub of_expanded-requires-clause-some : goal.of_expanded-requires-clause-some
of_expanded-requires-clause-some c =
    let h = c.requires.resolving in
    subst (λ (xs : List (State Bits)). 0 < length xs) (sym c.deref-4.ensures.value) (copied_closed (rules_of c.args.self.now.grammar.now) c.args.self.now.start h.0 (h.2).made c.args.copying.originals.items c.args.copying.states.items (h.2).each).some

pub of_expanded-requires-clause-closed : goal.of_expanded-requires-clause-closed
of_expanded-requires-clause-closed c =
    let h = c.requires.resolving in
    let made = resolving_copies (rules_of c.args.self.now.grammar.now) c.args.self.now.start c.args.self.now.max_copies h.0 c.args.copying h.2 in
    subst (λ (xs : List (State Bits)). AreClosed (productions c.args.self.now.grammar.now) c.args.self.now.start (places_in xs)) (sym c.deref-4.ensures.value) (places_closed (rules_of c.args.self.now.grammar.now) c.args.self.now.start c.args.self.now.max_copies c.args.copying.states.items made)

pub of_expanded-requires-clause-expanded : goal.of_expanded-requires-clause-expanded
of_expanded-requires-clause-expanded c =
    let h = c.requires.resolving in
    subst (λ (xs : List (State Bits)). AreExpanded (productions c.args.self.now.grammar.now) c.args.self.now.start (places_in xs) (length xs)) (sym c.deref-4.ensures.value)
    (copied_expanded (rules_of c.args.self.now.grammar.now) c.args.self.now.start h.0 (h.2).made c.args.copying.originals.items c.args.copying.states.items (h.2).each c.requires.alone)

pub of_expanded-requires-clause-own : goal.of_expanded-requires-clause-own
of_expanded-requires-clause-own c =
    let h = c.requires.resolving in
    subst (λ (xs : List (State Bits)). AreItemsOfGrammar (productions c.args.self.now.grammar.now) (places_in xs)) (sym c.deref-4.ensures.value)
    (copied_items (rules_of c.args.self.now.grammar.now) c.args.self.now.start h.0 (h.2).made c.args.copying.originals.items c.args.copying.states.items (h.2).each)

-- the states by number, after the conversions of vectors to slices
pub of_expanded-requires-clause-numbered : goal.of_expanded-requires-clause-numbered
of_expanded-requires-clause-numbered c =
    let h = c.requires.resolving in
    let made = rw (c.deref.ensures.value, c.deref-2.ensures.value, c.deref-3.ensures.value) at c.in_ok-list.ensures in
    let all = copied_numbered c.args.numbers.now h.0 c.args.copying.originals.items c.args.copying.states.items (h.2).each c.args.numbered.now c.in_ok-list.list.items h.1 made in
    subst (λ (xs : List NumberedState). AreNumberedStates c.args.numbers.now c.deref-4.result.now xs) (sym c.deref-5.ensures.value) (subst (λ (xs : List (State Bits)). AreNumberedStates c.args.numbers.now xs c.in_ok-list.list.items) (sym c.deref-4.ensures.value) all)

-- ---- the loop
pub resolve_found-requires-clause-copies : goal.resolve_found-requires-clause-copies
resolve_found-requires-clause-copies c =
    let h = c.requires.resolving in
    resolving_copies (rules_of c.args.self.now.grammar.now) c.args.self.now.start c.args.self.now.max_copies h.0 c.args.copying h.2

pub resolve_found-requires-clause-found : goal.resolve_found-requires-clause-found
resolve_found-requires-clause-found c =
    let h = c.requires.resolving in
    let made = rw (c.deref.ensures.value, c.deref-2.ensures.value, c.deref-3.ensures.value) at c.in_ok-list.ensures in
    let all = copied_numbered c.args.numbers.now h.0 c.args.copying.originals.items c.args.copying.states.items (h.2).each c.args.numbered.now c.in_ok-list.list.items h.1 made in
    record {
      numbers = c.args.numbers.now;
      of_grammar = c.requires.numbers;
      finds = rw c.deref-4.ensures.value at c.in_ok-found.ensures;
      numbered = subst (λ (xs : List NumberedState). AreNumberedStates c.args.numbers.now c.args.copying.states.items xs) (sym c.deref-6.ensures.value) all;
    }

pub returns-clause-resolving : goal.returns-clause-resolving
returns-clause-resolving c handed before =
    resolving_between (rules_of c.args.self.now.grammar.now) c.args.self.now.start c.args.self.now.max_copies handed c.args.first c.in_ok-end.end c.args.copying _ before refl refl refl c.in_ok-end.ensures.copies c.in_ok-end.ensures.resolved
