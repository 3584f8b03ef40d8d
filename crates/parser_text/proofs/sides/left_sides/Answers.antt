use Rattle.std.proofs.Common.{ℕ, ◌+◌, ◌<◌, ◌∷◌, [], List, length, length-append, slice_index, sym, ◌∙◌, ap, subst}
use Rattle.parser_text.specs.Sides.{IsLeftSide}
use Rattle.parser_text.proofs.RowLemmas.{more_numbers}
use Rattle.parser_text.proofs.sides.left_sides.Goals as goal

pub loop-production-preserved : goal.loop-production-preserved
loop-production-preserved c =
    let t = c.args.table.now in
    let left = c.loop-production.left.items in
    let number = c.in-Some.nonterminal in
    let long = c.loop-production.invariant.long in
    let Each : List ℕ → Type 0 = λ numbers. (production : ℕ) → production < length numbers → IsLeftSide t production (slice_index numbers production) in
    record {
      long = ap length c.in_ok-push.ensures.items ∙ length-append left (number ∷ []) ∙ ap (λ n. n + 1) long;
      each = subst Each (sym {A = List ℕ} c.in_ok-push.ensures.items) (more_numbers (IsLeftSide t) left number c.loop-production.invariant.each (subst (λ (k : ℕ). IsLeftSide t k number) (sym long) (λ p at. (c.in-Some.ensures.found p at).0)));
    }
