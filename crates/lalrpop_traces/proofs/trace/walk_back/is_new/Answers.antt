use Rattle.std.proofs.Common.{subst, ◌≡◌, Bool, true, false, refl, sym, ap, ◌∙◌, cond, ⊎_elim, inl, inr}
use Rattle.lalrpop_traces.specs.Words.{meeting_cmp, IsInsertedPair, Meeting}
use Rattle.std.specs.Ordering.{is_eq}
use Rattle.std.proofs.lemmas.Bool.{cases_Bool}
use Rattle.lalrpop_traces.proofs.Types.{NonterminalString}
use Rattle.lalrpop_traces.proofs.theory.traces.Traces.{tied_meetings}
use Rattle.lalrpop_traces.proofs.trace.walk_back.is_new.Goals as goal

either_true : (b c : Bool) → c ≡ true → cond b true c ≡ true
either_true true c h = refl
either_true false c h = h

pub returns-clause-inserted : goal.returns-clause-inserted
returns-clause-inserted c =
    let m : Meeting = (c.args.state, c.in_ok-clone.field-0) in
    let key : m ≡ (c.args.state, c.args.name.now) = ap (λ (n : NonterminalString). let p : Meeting = (c.args.state, n) in p) c.in_ok-clone.ensures in
    let P : Meeting → Type 0 = λ k. IsInsertedPair c.in_ok-fresh.fresh k c.args.met.now.visited_set c.insert.new.self in
    subst P key (record {
      was = c.in_ok-fresh.ensures.added;
      now = λ q h. c.in_ok-fresh.ensures.updates.0 q ∙ either_true _ _ h;
      there = c.in_ok-fresh.ensures.updates.1;
      only = λ q h. ⊎_elim (λ tied. inr (tied_meetings m q tied)) (λ apart. inl (sym (c.in_ok-fresh.ensures.updates.2 q apart) ∙ h)) (cases_Bool (is_eq (meeting_cmp m q)));
    })
