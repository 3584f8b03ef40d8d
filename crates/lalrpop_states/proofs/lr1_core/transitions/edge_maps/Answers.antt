use Rattle.std.proofs.Common.{subst, ◌∙◌}
use Rattle.std.specs.BTreeMap.{IsFromIterResult}
use Rattle.std.proofs.IntoIterSteps.{All-taken}
use Rattle.lalrpop_grammar.proofs.theory.grammars.NameOrders.{name_order, terminal_order}
use Rattle.lalrpop_states.proofs.lr1_core.transitions.edge_maps.Goals as goal

pub returns : goal.returns
returns c =
    let h = c.in_ok-from_iter.ensures.ran in
    let k = c.in_ok-from_iter-2.ensures.ran in
    record {
      shifts = subst (λ l. IsFromIterResult terminal_order l c.in_ok-from_iter.field-0) (All-taken h.0 h.1 ((h.3.2 tt).0, (h.3.0, h.3.1, (h.3.2 tt).1)) ∙ h.2.0) h.4;
      gotos = subst (λ l. IsFromIterResult name_order l c.in_ok-from_iter-2.field-0) (All-taken k.0 k.1 ((k.3.2 tt).0, (k.3.0, k.3.1, (k.3.2 tt).1)) ∙ k.2.0) k.4;
    }
