use Rattle.std.proofs.Common.{ℕ, ◌==◌, List, sym, ◌∙◌, ap}
use Rattle.std.proofs.lemmas.List.{take_all}
use Rattle.std.specs.List.{list_any}
use Rattle.lalrpop_base.specs.Words.{Bits, has, has-bits_of, has-no_bits, same_bits}
use Rattle.table_numbers.proofs.MadeLemmas.{next_token}
use Rattle.table_numbers.proofs.states.make_set.Goals as goal

pub loop-token-init : goal.loop-token-init
loop-token-init c = λ q. ap (λ (s : Bits). has s q) c.empty_set-set.ensures ∙ has-no_bits q

pub loop-token-preserved : goal.loop-token-preserved
loop-token-preserved c = λ q. ap (λ (s : Bits). has s q) c.in_ok-insert_bit.ensures.inserted ∙ next_token c.loop-token.set c.args.tokens.now c.loop-token.token-index c.loop-token-test.true c.loop-token.invariant q

pub returns : goal.returns
returns c =
    let tokens = c.args.tokens.now in
    same_bits _ _ (λ q. c.loop-token.invariant q ∙ ap (λ (xs : List ℕ). list_any (λ b. q == b) xs) (take_all c.loop-token.token-index tokens c.loop-token-test.false) ∙ sym (has-bits_of tokens q))
