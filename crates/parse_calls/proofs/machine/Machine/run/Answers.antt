use Rattle.std.proofs.Common.{◌≡◌, ◌+◌, ◌≤◌, ℕ, List, length, slice_index, sym, ◌∙◌, ap, refl, arith}
use Rattle.parse_calls.specs.Turns.{turn_at}
use Rattle.parse_calls.proofs.Runs.{goes_on, has_ended, shifted}
use Rattle.parse_calls.proofs.machine.Machine.run.Goals as goal

pub loop-at-preserved-in-Shifted : goal.loop-at-preserved-in-Shifted
loop-at-preserved-in-Shifted c =
    let now = c.loop-at.self in
    let new = c.take.new.self in
    let tokens = c.args.tokens.now in
    let token = slice_index tokens c.loop-at.at in
    let next : c.turn_at-turn.result ≡ turn_at c.args.numbers.now now.stack.items token = c.turn_at-turn.ensures ∙ ap (λ (s : List ℕ). turn_at c.args.numbers.now s token) c.deref.ensures.value in
    let within : c.loop-at.at + 1 ≤ length tokens = omega (arith, c.loop-at-test.true) in (
      within,
      shifted c.args.numbers.now now.left new.left now.stack.items now.events.items new.stack.items new.events.items tokens c.loop-at.at token c.turn_at-turn.result
          c.take.ensures.left c.loop-at-test.true refl next c.in_ok-take.ensures.stack c.in_ok-take.ensures.events (sym c.in-Shifted.is ∙ c.in_ok-take.ensures.step) ∙ c.loop-at.invariant.1,
    )

pub loop-at-preserved : goal.loop-at-preserved
loop-at-preserved c =
    let now = c.loop-at.self in
    let new = c.take.new.self in
    let tokens = c.args.tokens.now in
    let token = slice_index tokens c.loop-at.at in
    let next : c.turn_at-turn.result ≡ turn_at c.args.numbers.now now.stack.items token = c.turn_at-turn.ensures ∙ ap (λ (s : List ℕ). turn_at c.args.numbers.now s token) c.deref.ensures.value in (
      c.loop-at.invariant.0,
      goes_on c.args.numbers.now now.left new.left now.stack.items now.events.items new.stack.items new.events.items tokens c.loop-at.at token c.turn_at-turn.result
          c.take.ensures.left c.loop-at-test.true refl next c.in_ok-take.ensures.stack c.in_ok-take.ensures.events (sym c.in-GoesOn.is ∙ c.in_ok-take.ensures.step) ∙ c.loop-at.invariant.1,
    )

pub returns-in-Ended : goal.returns-in-Ended
returns-in-Ended c =
    let now = c.loop-at.self in
    let new = c.take.new.self in
    let tokens = c.args.tokens.now in
    let token = slice_index tokens c.loop-at.at in
    let next : c.turn_at-turn.result ≡ turn_at c.args.numbers.now now.stack.items token = c.turn_at-turn.ensures ∙ ap (λ (s : List ℕ). turn_at c.args.numbers.now s token) c.deref.ensures.value in
    record {
      same = sym c.loop-at.invariant.1 ∙ has_ended c.args.numbers.now now.left new.left now.stack.items now.events.items new.stack.items new.events.items tokens c.loop-at.at token c.turn_at-turn.result
          c.take.ensures.left c.loop-at-test.true refl next c.in_ok-take.ensures.stack c.in_ok-take.ensures.events c.in-Ended.ending (sym c.in-Ended.is ∙ c.in_ok-take.ensures.step);
      within = c.loop-at.invariant.0;
    }
