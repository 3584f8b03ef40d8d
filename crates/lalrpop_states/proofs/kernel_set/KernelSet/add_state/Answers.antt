use Rattle.std.proofs.Common.{◌≡◌, ◌++◌, ◌∷◌, [], List, refl, ap, sym, ◌∙◌, subst}
use Rattle.std.specs.Prelude.{Some, cond, is_ok}
use Rattle.std.specs.BTreeMap.{insert_entry, Updates}
use Rattle.lalrpop_collections.specs.Words.{IsNumbering, by_number, AddsOnce, AllDiffer}
use Rattle.lalrpop_collections.proofs.theory.states.KernelLemmas.{IsNext, adds_known, adds_fresh, all_differ, next_numbering, at_number, exact_by_cmp}
use Rattle.lalrpop_states.proofs.kernel_set.KernelSet.add_state.Given as given
use Rattle.lalrpop_states.proofs.kernel_set.KernelSet.add_state.Goals as goal

pub returns-in-Some-clause-added : goal.returns-in-Some-clause-added
returns-in-Some-clause-added g c =
    subst (λ (list : List g.row.K.Denot). AddsOnce list list c.args.kernel) (ap (λ s. s.list) c.self.view_is) (adds_known c.self.invariant c.args.kernel c.in-Some.number.now (sym c.in-Some.ensures.value))

pub returns-in-Some-clause-differ : goal.returns-in-Some-clause-differ
returns-in-Some-clause-differ g c = subst (λ (list : List g.row.K.Denot). AllDiffer list) (ap (λ s. s.list) c.self.view_is) (all_differ c.self.invariant)

-- the kernel got the next number
step : (g : given.Over) (c : goal.After-index-2 g) → IsNext g.K.Ord.cmp c.self.inside.numbers c.insert.new.self c.args.kernel c.len-number.result
step g c = record {
  next = c.len-number.ensures.len;
  absent = sym c.in_default.ensures.value ∙ ap (λ o. o) refl;
  made = c.in_ok-insert.ensures.entries ∙ ap (λ k. insert_entry g.K.Ord.cmp c.self.inside.numbers.entries k c.len-number.result) c.in_ok-copy.ensures;
  updates = subst (λ k. Updates g.K.Ord.cmp c.self.inside.numbers c.insert.new.self k (Some c.len-number.result)) c.in_ok-copy.ensures c.in_ok-insert.ensures.updates;
}

queued : (g : given.Over) (c : goal.After-index-2 g) → c.push_back.new.self.items ≡ c.self.inside.pending.items ++ c.args.kernel ∷ []
queued g c = c.push_back.ensures.items ∙ ap (λ r. cond (is_ok r) (c.reserve.new.self.items ++ c.args.kernel ∷ []) c.reserve.new.self.items) c.unwrap.ensures ∙ ap (λ xs. xs ++ c.args.kernel ∷ []) c.in_ok-reserve.ensures.items

numbering : (g : given.Over) (c : goal.After-index-2 g) → IsNumbering g.K.Ord.cmp c.insert.new.self c.push_back.new.self.items
numbering g c =
    subst (λ (pending : List g.row.K.Denot). IsNumbering g.K.Ord.cmp c.insert.new.self pending) (sym (queued g c)) (next_numbering (exact_by_cmp g.K.PartialEq.eq g.K.Ord.cmp g.met.K.Kernel.equal_is_same g.met.K.Ord.matches_eq) c.self.invariant (step g c))

pub invariant_of-self-2 : goal.invariant_of-self-2
invariant_of-self-2 g c = numbering g c

pub returns-clause-differ : goal.returns-clause-differ
returns-clause-differ g c = all_differ (numbering g c)

pub returns-clause-added : goal.returns-clause-added
returns-clause-added g c = subst (λ (list : List g.row.K.Denot). AddsOnce list (by_number c.insert.new.self.entries) c.args.kernel) (ap (λ s. s.list) c.self.view_is) (adds_fresh c.self.invariant (step g c))

pub returns-clause-numbered : goal.returns-clause-numbered
returns-clause-numbered g c = (c.len-number.result, c.index-2.ensures, at_number c.self.invariant (step g c))
