use Rattle.std.proofs.Common.{ap, subst, ℕ}
use Rattle.lalrpop_states.specs.declared.lr1_core.state.StateIndex.{StateIndex}
use Rattle.conflict_causes.specs.Keys.{PutsInto}
use Rattle.conflict_causes.proofs.causes.put_conflict.Goals as goal

pub returns : goal.returns
returns c =
    let (number, is, at) = c.in_ok-cause.ensures.numbered in
    record {
      key = c.in_ok-key.key;
      number = number;
      is_key = c.in_ok-key.ensures;
      added = c.in_ok-cause.ensures.added;
      differ = c.in_ok-cause.ensures.differ;
      there = at;
      put = subst (λ (n : ℕ). PutsInto n c.args.number c.args.causes.now.items c.put_number.new.causes.items) (ap (λ (index : StateIndex). index.0) is) c.in_ok-put_number.ensures;
    }
