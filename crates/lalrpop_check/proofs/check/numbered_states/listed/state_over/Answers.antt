use Rattle.std.proofs.Common.{◌<◌, ℕ, List, [], length, map, refl, subst, sym}
use Rattle.std.specs.Prelude.{Contains}
use Rattle.std.specs.Borrow.{Bor}
use Rattle.lalrpop_base.specs.Words.{AllDiffer, Bits, Dotted, Entries, goto_edge, shift_edge, state_entries}
use Rattle.lalrpop_check.proofs.Types.{Production, State, Symbol}
use Rattle.lalrpop_construction.specs.states.NumberedStates.{HasFinished, AddsEdges, AreItemsAt, AreListedBy, AreReducedNumbers}
use Rattle.lalrpop_construction.proofs.theory.states.MadeByNumber.{Numbered-state}
use Rattle.lalrpop_construction.proofs.theory.states.EdgesByNumber.{Keys-ascend, Keys-none, ListedBy-none, with_gotos, with_shifts}
use Rattle.lalrpop_check.proofs.check.numbered_states.listed.state_over.Goals as goal

pub finished_of-requires : goal.finished_of-requires
finished_of-requires c = subst (λ (ks : List ℕ). (k : ℕ) → Contains ks k → k < length c.args.numbers.now.items.items) (sym c.deref-5.ensures.value) c.requires.known

pub invariant_of-result : goal.invariant_of-result
invariant_of-result c =
    let keys = c.in_ok-take_edges-2.ensures.keys (c.in_ok-take_edges.ensures.keys (Keys-none c.in_ok-edges.edges.items c.args.symbols.now c.in_ok-edges.ensures.items)) in
    record { ascend = Keys-ascend c.take_edges-2.new.edges.items c.args.symbols.now keys c.requires.rising }

pub returns : goal.returns
returns c =
    let n = c.args.numbers.now in
    let old : State Bits = c.args.state.now in
    let numbers : List ℕ = c.args.items.items in
    let reductions : List ℕ = c.in_ok-reductions.reductions.items in
    let middle : List (ℕ × ℕ) = c.take_edges.new.edges.items in
    let edges : List (ℕ × ℕ) = c.take_edges-2.new.edges.items in
    let at : AreItemsAt n.items.items numbers old.items.vec.items =
    subst (λ (ks : List ℕ). AreItemsAt n.items.items ks old.items.vec.items) c.deref.ensures.value
    (subst (λ (items : List (Dotted Bits)). AreItemsAt n.items.items c.deref.result.now items) c.deref-2.ensures.value (c.if-not-are_items.ensures refl)) in
    let symbols = n.symbols.items in
    let gotos : AddsEdges symbols [] middle (map goto_edge old.gotos.entries) =
    subst (λ (es : List (ℕ × ℕ)). AddsEdges symbols es middle (map goto_edge old.gotos.entries)) c.in_ok-edges.ensures.items
    (subst (λ (ss : List Symbol). AddsEdges ss c.in_ok-edges.edges.items middle (map goto_edge old.gotos.entries)) c.deref-3.ensures.value (c.in_ok-take_edges.ensures.taken c.if-not-branch.false)) in
    let shifts : AddsEdges symbols middle edges (map shift_edge old.shifts.entries) =
    subst (λ (ss : List Symbol). AddsEdges ss middle edges (map shift_edge old.shifts.entries)) c.deref-4.ensures.value (c.in_ok-take_edges-2.ensures.taken c.if-not-branch-2.false) in
    let none : Entries = record { shifts = []; gotos = [] } in
    let differ = c.requires.numbers.1.differ in
    let with : Entries = record { shifts = []; gotos = old.gotos.entries } in
    let first : AreListedBy symbols middle with = subst (AreListedBy symbols middle) (with_gotos none old.gotos.entries) (gotos differ none (ListedBy-none symbols [] none refl refl refl)) in
    let listed : AreListedBy symbols edges (state_entries old) = subst (AreListedBy symbols edges) (with_shifts with old.shifts.entries) (shifts differ with first) in
    let keys = c.in_ok-take_edges-2.ensures.keys (c.in_ok-take_edges.ensures.keys (Keys-none c.in_ok-edges.edges.items c.args.symbols.now c.in_ok-edges.ensures.items)) in
    record {
      same = refl;
      listed = at;
      numbered = Numbered-state c.requires.numbers.0 n c.requires.numbers.1 old _ at (record { listed = listed; ascend = Keys-ascend edges c.args.symbols.now keys c.requires.rising });
      reduced = subst (λ (ks : List ℕ). AreReducedNumbers n.items.items old.reductions.items ks) c.deref-6.ensures.value
          (subst (λ (rs : List (Bits × Bor Production)). AreReducedNumbers n.items.items rs c.deref-6.result.now) c.deref-7.ensures.value (c.if-not-are_reductions.ensures refl));
      finished = subst (λ (ks : List ℕ). HasFinished n ks reductions) c.deref-5.ensures.value c.in_ok-reductions.ensures.all;
      once = c.in_ok-reductions.ensures.once (subst AllDiffer (sym c.deref-5.ensures.value) c.requires.differ);
    }
