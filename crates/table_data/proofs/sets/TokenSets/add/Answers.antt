use Rattle.std.proofs.Common.{◌≡◌, ◌++◌, ◌∷◌, [], ◌∙◌, ℕ, List, ap, arith, cond, length, subst, sym}
use Rattle.std.specs.BTreeMap.{Updates}
use Rattle.std.specs.Prelude.{Contains, Some, is_ok}
use Rattle.lalrpop_base.specs.Words.{Bits}
use Rattle.table_data.specs.Sets.{AddsSets, AreNumbered, set_order}
use Rattle.table_data.proofs.NamedSets.{adds_fresh, adds_known}
use Rattle.table_data.proofs.NumberedSets.{is_known, no_number, one_more_set}
use Rattle.table_data.proofs.sets.TokenSets.add.Goals as goal

pub returns-then-contains_key : goal.returns-then-contains_key
returns-then-contains_key c =
    adds_known c.args.self.now c.args.set.now
    (subst (λ (sets : List Bits). Contains sets c.args.set.now) c.self.view_is (is_known c.self.inside.list.items c.self.inside.numbers c.self.invariant c.args.set.now (sym c.if-contains_key.ensures)))

-- the set is at the end of the list
pushed : (c : goal.After-unwrap) → c.push.new.self.items ≡ c.self.inside.list.items ++ c.args.set.now ∷ []
pushed c =
    c.push.ensures.items
    ∙ ap (λ r. cond (is_ok r) (c.reserve.new.self.items ++ c.in_ok-copy.copy ∷ []) c.reserve.new.self.items) c.unwrap.ensures
    ∙ ap (λ (sets : List Bits). sets ++ c.in_ok-copy.copy ∷ []) c.in_ok-reserve.ensures.items
    ∙ ap (λ (set : Bits). c.self.inside.list.items ++ set ∷ []) c.in_ok-copy.ensures

-- the map has the next number for the set
inserted : (c : goal.After-unwrap) → Updates set_order c.self.inside.numbers c.insert.new.self c.args.set.now (Some (length c.self.inside.list.items))
inserted c =
    let number : c.len-number.result ≡ length c.self.inside.list.items = omega arith in
    subst (λ (n : ℕ). Updates set_order c.self.inside.numbers c.insert.new.self c.args.set.now (Some n)) number
    (subst (λ (set : Bits). Updates set_order c.self.inside.numbers c.insert.new.self set (Some c.len-number.result)) c.in_ok-key.ensures c.in_ok-insert.ensures.updates)

pub invariant_of-self-2 : goal.invariant_of-self-2
invariant_of-self-2 c =
    subst (λ (sets : List Bits). AreNumbered sets c.insert.new.self) (sym (pushed c))
    (one_more_set c.self.inside.list.items c.self.inside.numbers c.self.invariant c.args.set.now c.insert.new.self (no_number _ c.if-contains_key.ensures) (inserted c))

pub returns : goal.returns
returns c =
    subst (λ (new : List Bits). AddsSets (c.args.set.now ∷ []) c.args.self.now new)
    (ap (λ (sets : List Bits). sets ++ c.args.set.now ∷ []) (sym c.self.view_is) ∙ sym (pushed c))
    (adds_fresh c.args.self.now c.args.set.now)
