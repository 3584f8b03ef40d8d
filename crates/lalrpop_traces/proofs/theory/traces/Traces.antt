-- The edges of a trace, and the nonterminals that it meets.
use Rattle.std.proofs.Common.{◌≡◌, ℕ, true, List, take, Result, Ok, Err, refl, sym, ◌∙◌, ap, eqb-true}
use Rattle.std.specs.Prelude.{OnOk, slice_get, Option, option_copied, drop, ◌+◌}
use Rattle.std.specs.Ordering.{is_eq, ordering_then, nat_cmp}
use Rattle.std.specs.Cmp.{unsigned_tied}
use Rattle.std.specs.declared.cmp.Ordering.{Ordering}
use Rattle.std.specs.declared.cmp.Ordering.TheVariants.{Less, Equal, Greater}
use mathlib.Core.Bool.{true≢false}
use Rattle.lalrpop_base.specs.Words.{name_cmp}
use Rattle.lalrpop_grammar.specs.contracts.repr.exact.NonterminalStringExact.TheImpl as name_exactly
use Rattle.lalrpop_grammar.specs.contracts.repr.NonterminalStringOrd.TheImpl as name_ord
use Rattle.lalrpop_traces.proofs.Types.{NonterminalString, Production, StateIndex, Symbol}
use Rattle.lalrpop_states.specs.declared.lr1_core.symbol_sets.SymbolSets.{SymbolSets}
use Rattle.lalrpop_traces.specs.Words.{PlainEdge, plain_edge, Meeting, dot_edge, meeting_cmp}
use Rattle.lalrpop_traces.specs.declared.trace.node.TraceGraphNode.{TraceGraphNode}

-- ---- edges

-- edges with the same ends are the same
pub dot_same : (from to from_is to_is : TraceGraphNode) (p : Production) (index : ℕ) → from ≡ from_is → to ≡ to_is → dot_edge from to p index ≡ dot_edge from_is to_is p index
dot_same from to from_is to_is p index f t = ap (λ (x : TraceGraphNode). dot_edge x to p index) f ∙ ap (λ (x : TraceGraphNode). dot_edge from_is x p index) t

-- the value of an edge with the labels of a dot
pub plain_dot : (from to : TraceGraphNode) (labels : SymbolSets) (p : Production) (index : ℕ) → labels.prefix.now ≡ take index p.symbols → option_copied labels.cursor ≡ slice_get p.symbols index → labels.suffix.now ≡ drop (index + 1) p.symbols → plain_edge from to labels ≡ dot_edge from to p index
plain_dot from to labels p index before at behind =
    ap (λ (xs : List Symbol). let e : PlainEdge = record { from = from; to = to; prefix = xs; cursor = option_copied labels.cursor; suffix = labels.suffix.now } in e) before
    ∙ ap (λ (o : Option Symbol). let e : PlainEdge = record { from = from; to = to; prefix = take index p.symbols; cursor = o; suffix = labels.suffix.now } in e) at
    ∙ ap (λ (xs : List Symbol). let e : PlainEdge = record { from = from; to = to; prefix = take index p.symbols; cursor = slice_get p.symbols index; suffix = xs } in e) behind

-- ---- nonterminals in states

both_equal : (x y : Ordering) → is_eq (ordering_then x y) ≡ true → (is_eq x ≡ true) × (is_eq y ≡ true)
both_equal Less y h = absurd (true≢false (sym h))
both_equal Equal y h = (refl, h)
both_equal Greater y h = absurd (true≢false (sym h))

-- meetings that compare as equal are equal
pub tied_meetings : (m q : Meeting) → is_eq (meeting_cmp m q) ≡ true → m ≡ q
tied_meetings m q h =
    let parts = both_equal (nat_cmp m.0.0 q.0.0) (name_cmp m.1 q.1) h in
    let state : m.0 ≡ q.0 = ap (λ (n : ℕ). let s : StateIndex = record { 0 = n } in s) (eqb-true m.0.0 q.0.0 (sym (unsigned_tied m.0.0 q.0.0) ∙ parts.0)) in
    let name : m.1 ≡ q.1 = name_exactly.Laws.exact-law m.1 q.1 (name_ord.Laws.matches_eq-law m.1 q.1 ∙ parts.1) in
    ap (λ (s : StateIndex). let p : Meeting = (s, m.1) in p) state ∙ ap (λ (a : NonterminalString). let p : Meeting = (q.0, a) in p) name

-- ---- calls

-- what follows from two clauses of a call that succeeded
pub on_ok_both : {A E : Type 0} (r : Result A E) {P Q R : Type 0} → OnOk r P → OnOk r Q → (P → Q → R) → OnOk r R
on_ok_both (Ok a) p q f = f p q
on_ok_both (Err e) p q f = tt
