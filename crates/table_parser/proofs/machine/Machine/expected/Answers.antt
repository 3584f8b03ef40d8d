use Rattle.std.proofs.Common.{◌≡◌, ◌<◌, length, sym, ap, subst, ◌∙◌, arith}
use Rattle.lalrpop_base.specs.Words.{Bits, has, has-no_bits}
use Rattle.table_parser.specs.Expected.{MayFollow}
use Rattle.table_parser.proofs.Following.{all_up_to, follow_all, follow_up_to, none_later}
use Rattle.table_parser.proofs.machine.Machine.expected.Goals as goal

pub loop-bit-init : goal.loop-bit-init
loop-bit-init c = record {
  before = λ w read k l. absurd (omega (arith, l));
  later = λ k l. ap (λ (s : Bits). has s k) c.empty_set-tokens.ensures ∙ has-no_bits k;
}

pub loop-bit-preserved : goal.loop-bit-preserved
loop-bit-preserved c =
    let m = c.args.self.now in
    let counted : c.in-Ok.count ≡ length m.table.now.terminals = c.in-Ok.ensures.1 ∙ ap length (c.all.ensures.value ∙ c.terminals.ensures) in
    let below = c.loop-bit-test.true in
    let within : c.loop-bit.bit < length m.table.now.terminals = omega (arith, below, counted) in
    record {
      before = λ w read.
          follow_up_to c.loop-bit.bit c.in_ok-may.may c.loop-bit.tokens c.add_if.new.tokens c.in_ok-add_if.ensures c.loop-bit.invariant.later m w (c.in_ok-may.ensures within w read) (c.loop-bit.invariant.before w read);
      later = none_later c.loop-bit.bit c.in_ok-may.may c.loop-bit.tokens c.add_if.new.tokens c.in_ok-add_if.ensures c.loop-bit.invariant.later;
    }

pub returns-clause-exact : goal.returns-clause-exact
returns-clause-exact c = λ w read.
    let m = c.args.self.now in
    let counted : c.in-Ok.count ≡ length m.table.now.terminals = c.in-Ok.ensures.1 ∙ ap length (c.all.ensures.value ∙ c.terminals.ensures) in
    let above = c.loop-bit-test.false in
    let up_to = c.loop-bit.auto.bit-end in
    follow_all c.in-Ok.count c.in_ok-may-2.may c.loop-bit.tokens c.add_if-2.new.tokens c.in_ok-add_if-2.ensures
    (λ k l. c.loop-bit.invariant.later k (omega (arith, l, up_to)))
    m w
    (subst (λ n. MayFollow m w n c.in_ok-may-2.may) (sym counted) (c.in_ok-may-2.ensures w read))
    (λ k l. c.loop-bit.invariant.before w read k (omega (arith, l, above)))
    counted

pub returns-clause-within : goal.returns-clause-within
returns-clause-within c = λ bit has.
    let counted : c.in-Ok.count ≡ length c.args.self.now.table.now.terminals = c.in-Ok.ensures.1 ∙ ap length (c.all.ensures.value ∙ c.terminals.ensures) in
    let up_to = c.loop-bit.auto.bit-end in
    let few = all_up_to c.in-Ok.count c.in_ok-may-2.may c.loop-bit.tokens c.add_if-2.new.tokens c.in_ok-add_if-2.ensures (λ k l. c.loop-bit.invariant.later k (omega (arith, l, up_to))) bit has in
    omega (arith, few, counted)
