use Rattle.std.proofs.Common.{◌≡◌, ◌+◌, ℕ, [], List, sym, ◌∙◌, ap}
use Rattle.std.specs.declared.alloc.Global.{Global}
use Rattle.std.specs.declared.vec.Vec.{Vec}
use Rattle.parse_calls.specs.Answers.{Numbers}
use Rattle.parse_calls.specs.Expected.{expected_from}
use Rattle.parse_calls.proofs.Tried.{comes, does_not, unknown}
use Rattle.parse_calls.proofs.expected.list_expected.Goals as goal
use Rattle.parse_calls.proofs.expected.list_expected.Goals.{in-Comes+in_ok-push-in-Comes, in-DoesNot}

pub returns-in-Unknown : goal.returns-in-Unknown
returns-in-Unknown c =
    let m = c.args.machine.now in
    let e : expected_from c.args.tables.now m.left m.stack.items c.args.end 0 [] ≡ record { status = c.in-Unknown.status; numbers = [] } =
    sym c.loop-token.invariant ∙ unknown c.args.tables.now m.left m.stack.items c.args.end c.loop-token.token c.loop-token.tokens.items c.loop-token-test.true c.in-Unknown.status (sym c.in-Unknown.is ∙ c.in_ok-may_shift.ensures) in
    record {
      status = c.none.ensures.status ∙ sym (ap (λ (n : Numbers). n.status) e);
      tokens = c.none.ensures.tokens ∙ sym (ap (λ (n : Numbers). n.numbers) e);
    }

pub loop-token-preserved : goal.loop-token-preserved
loop-token-preserved c =
    let m = c.args.machine.now in
    let next = c.loop-token.token + 1 in
    elim c.match-branch-2.branch [
      | in-Comes+in_ok-push-in-Comes w ↦
          ap (λ (l : List ℕ). expected_from c.args.tables.now m.left m.stack.items c.args.end next l) (ap (λ (v : Vec ℕ Global). v.items) w.tokens-is ∙ w.in_ok-push-in-Comes.ensures.items)
          ∙ comes c.args.tables.now m.left m.stack.items c.args.end c.loop-token.token c.loop-token.tokens.items c.loop-token-test.true (sym w.in-Comes.is ∙ c.in_ok-may_shift.ensures)
          ∙ c.loop-token.invariant
      | in-DoesNot w ↦
          ap (λ (l : List ℕ). expected_from c.args.tables.now m.left m.stack.items c.args.end next l) (ap (λ (v : Vec ℕ Global). v.items) w.tokens-is)
          ∙ does_not c.args.tables.now m.left m.stack.items c.args.end c.loop-token.token c.loop-token.tokens.items c.loop-token-test.true (sym w.in-DoesNot.is ∙ c.in_ok-may_shift.ensures)
          ∙ c.loop-token.invariant
    ]
