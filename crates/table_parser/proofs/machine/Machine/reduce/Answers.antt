use Rattle.std.proofs.Common.{◌≡◌, ℕ, ◌-◌, ◌==◌, [], ◌∷◌, ◌++◌, length, take, true, refl, sym, ap, ◌∙◌, arith}
use Rattle.std.proofs.Common.{eq-eqb, eqb-true}
use Rattle.lalrpop_base.specs.Words.{reduced}
use Rattle.table_parser.proofs.Reductions.{after, at_after, ends_below, ends_without, final, goes, is_alone, step}
use Rattle.table_parser.proofs.machine.Machine.reduce.Goals as goal

pub returns-then-len-count-clause-made : goal.returns-then-len-count-clause-made
returns-then-len-count-clause-made g c = λ states d p is at acts listed named long.
    let m = c.args.self.now in
    let rest = c.saturating_sub-rest.result in
    let left : rest ≡ length m.below.items - length p.symbols = omega (arith, long, c.saturating_sub-rest.ensures, c.len-count.ensures) in
    let many = c.if-len-count.true in
    let none : rest ≡ 0 = omega (arith, left, many, long, c.len-count.ensures) in
    let ends = ends_below states m d p at acts rest left (omega (arith, many, long, c.len-count.ensures)) in
    let alone = is_alone states m d p at acts rest left true (λ _. none, λ _. refl) in (
      reduced p d.trees,
      final states m d p at acts rest left g.H.ParseHandler.takes c.args.handler.now c.reduce.new.self c.args.number c.args.len c.entry-entry.result long c.entry-entry.ensures c.in_default.ensures m.table.now.terminals m.table.now.productions listed ends,
      alone,
      at.state,
      at.position,
    )

pub returns-in_default-goto-clause-made : goal.returns-in_default-goto-clause-made
returns-in_default-goto-clause-made g c = λ states d p is at acts listed named long.
    let m = c.args.self.now in
    let rest = c.saturating_sub-rest.result in
    let left : rest ≡ length m.below.items - length p.symbols = omega (arith, long, c.saturating_sub-rest.ensures, c.len-count.ensures) in
    let few = c.if-len-count.false in
    let goto = ap (λ (e : ℕ × ℕ). (states e.0).goto p.nonterminal) (sym c.entry-entry.ensures) ∙ sym (c.goto.ensures states is p.nonterminal named) ∙ c.in_default-goto.is in
    let ends = ends_without states m d p at acts rest left (omega (arith, few, long, c.len-count.ensures)) goto in
    let alone = is_alone states m d p at acts rest left (rest == 0) (λ e. eqb-true rest 0 e, λ e. eq-eqb rest 0 e) in (
      reduced p d.trees,
      final states m d p at acts rest left g.H.ParseHandler.takes c.args.handler.now c.reduce.new.self c.args.number c.args.len c.entry-entry.result long c.entry-entry.ensures c.in_default.ensures m.table.now.terminals m.table.now.productions listed ends,
      alone,
      at.state,
      at.position,
    )

pub returns-clause-made : goal.returns-clause-made
returns-clause-made g c = λ states d p is at acts listed named long.
    let m = c.args.self.now in
    let rest = c.saturating_sub-rest.result in
    let left : rest ≡ length m.below.items - length p.symbols = omega (arith, long, c.saturating_sub-rest.ensures, c.len-count.ensures) in
    let few = c.if-len-count.false in
    let goto = ap (λ (e : ℕ × ℕ). (states e.0).goto p.nonterminal) (sym c.entry-entry.ensures) ∙ sym (c.goto.ensures states is p.nonterminal named) ∙ c.in-Some.is in
    let goes = goes states m d p at acts rest left (omega (arith, few, long, c.len-count.ensures)) c.in-Some.target goto in
    let below = c.in_ok-pop_to.ensures.below ∙ ap (λ (e : ℕ × ℕ). take rest m.below.items ++ e ∷ []) c.entry-entry.ensures in
    let to = after states m d p at acts rest left c.in-Some.target in (
      to,
      step states m d p at acts rest left g.H.ParseHandler.takes c.args.handler.now c.reduce.new.self c.args.number c.args.len c.entry-entry.result long c.entry-entry.ensures c.in_default.ensures m.table.now.terminals m.table.now.productions listed to goes,
      at_after states m d p at acts rest left _ c.in-Some.target refl c.in_ok-pop_to.ensures.position below,
      refl,
    )
