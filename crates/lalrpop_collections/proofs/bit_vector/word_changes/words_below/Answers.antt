use Rattle.std.proofs.Common.{◌-◌, ◌*◌, ◌%◌, ◌^◌, ℕ, arith, ap}
use Rattle.std.proofs.lemmas.Nat.{one_shl}
use Rattle.lalrpop_collections.proofs.theory.sets.WordLemmas.{full_below, full_vector, part_below, part_vector}
use Rattle.lalrpop_collections.proofs.bit_vector.word_changes.words_below.Goals as goal

pub returns-then-count-eq0-clause-each : goal.returns-then-count-eq0-clause-each
returns-then-count-eq0-clause-each c = full_below c.args.count c.requires c.in_ok-words.words.items c.in_ok-words.ensures c.if-count-eq0.true

pub returns-then-count-eq0-clause-is : goal.returns-then-count-eq0-clause-is
returns-then-count-eq0-clause-is c = full_vector c.args.count c.requires c.in_ok-words.words.items c.in_ok-words.ensures

pub returns-clause-each : goal.returns-clause-each
returns-clause-each c =
    part_below c.args.count c.requires c.in_ok-words.words.items (1 * 2 ^ (c.args.count % 64) % 2 ^ 64 - 1) (ap (λ (w : ℕ). w - 1) (one_shl (c.args.count % 64) 64 (omega arith))) c.if-count-eq0.false
    c.push.new.self.items c.in_ok-push.ensures.items c.in_ok-words.ensures

pub returns-clause-is : goal.returns-clause-is
returns-clause-is c =
    part_vector c.args.count c.requires c.in_ok-words.words.items (1 * 2 ^ (c.args.count % 64) % 2 ^ 64 - 1) (ap (λ (w : ℕ). w - 1) (one_shl (c.args.count % 64) 64 (omega arith))) c.if-count-eq0.false
    c.push.new.self.items c.in_ok-push.ensures.items c.in_ok-words.ensures
