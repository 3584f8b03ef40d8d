use Rattle.std.proofs.Common.{◌≡◌, ◌∙◌, ◌+◌, ◌∷◌, [], List, Option, ℕ, sym, subst, refl, ap, length, rules}
use Rattle.std.specs.Iterator.{YieldsFirst}
use Rattle.lalrpop_collections.specs.lists.BitVectors.{members_from}
use Rattle.lalrpop_collections.proofs.theory.sets.BitVectorLemmas.{members-next, members-none}
use Rattle.lalrpop_collections.proofs.bit_vector.bit_iter.BitIterIterator.next.Goals as goal

pub returns-in_err-number-clause-steps : goal.returns-in_err-number-clause-steps
returns-in_err-number-clause-steps c =
    let none : c.args.self.now ≡ [] = sym c.self.view_is ∙ members-none c.self.inside.words.now c.self.inside.first (c.in_err-number.ensures.none refl) in
    subst (λ (o : Option ℕ). YieldsFirst (λ (numbers : List ℕ). numbers) c.args.self.now o c.args.self.now) (sym c.from_residual.ensures) (none, none)

pub returns-clause-steps : goal.returns-clause-steps
returns-clause-steps c = sym c.self.view_is ∙ members-next c.self.inside.words.now c.self.inside.first c.in_ok-number.number c.in_ok-number.ensures.some

pub returns-clause-goes : goal.returns-clause-goes
returns-clause-goes c =
    let step : c.args.self.now ≡ c.in_ok-number.number ∷ members_from c.self.inside.words.now (c.in_ok-number.number + 1) =
    sym c.self.view_is ∙ members-next c.self.inside.words.now c.self.inside.first c.in_ok-number.number c.in_ok-number.ensures.some in
    let shorter = ap length step in search rules
