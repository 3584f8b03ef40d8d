use Rattle.std.proofs.Common.{◌≡◌, ◌+◌, ◌==◌, ◌&&◌, ◌∷◌, cond, drop, map, slice_index, sym, ◌∙◌, ap, subst, arith}
use Rattle.std.proofs.lemmas.List.{drop_more}
use Rattle.lalrpop_base.specs.Words.{action_on, contents_of, has, holds_token, reduction_of}
use Rattle.parse_tables.proofs.ActionRows.{IsCell, bit_within, holds_bit, next_cell}
use Rattle.parse_tables.proofs.action_rows.list_actions.Goals as goal

pub loop-tokens-preserved : goal.loop-tokens-preserved
loop-tokens-preserved c =
    let terminals = c.args.terminals.now in
    let ps = c.args.productions.now in
    let f = reduction_of (holds_token terminals) in
    let items = c.deref-tokens-items.result.now in
    let item = c.loop-tokens-item.result in
    let i = c.loop-tokens.tokens-index in
    let old = c.loop-tokens.row.items in
    let new = c.put_reduction.new.row.items in
    let split : item ∷ drop (i + 1) items ≡ drop i items = ap (λ y. y ∷ drop (i + 1) items) c.loop-tokens-item.is ∙ sym (drop_more items i item c.loop-tokens-test.true) in
    record {
      long = c.put_reduction.ensures.len ∙ c.loop-tokens.invariant.long;
      each = λ bit token next at.
          let aim = action_on (contents_of (holds_token terminals) c.args.state.now) token in
          let below = bit_within terminals token bit next at in
          let long = c.loop-tokens.invariant.long in
          let cell = subst (λ rs. IsCell ps token aim (map f rs) (slice_index old bit)) (sym split) (c.loop-tokens.invariant.each bit token next at) in
          let put : slice_index new bit ≡ cond (slice_index old bit == 0 && has item.0 bit) (c.in-Some.number + 1) (slice_index old bit) =
          c.put_reduction.ensures.put bit (omega (arith, below, long)) ∙ ap (λ n. cond (slice_index old bit == 0 && has item.0 bit) n (slice_index old bit)) c.in_ok-number_of.ensures in
          next_cell ps token aim (f item) (map f (drop (i + 1) items)) (slice_index old bit) c.in-Some.number (slice_index new bit) (has item.0 bit) (holds_bit terminals c.all-all.ensures.distinct item.0 token bit next at) c.in-Some.ensures cell put;
    }
