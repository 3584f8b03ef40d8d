use Rattle.std.proofs.Common.{List, [], ap, inl, map, subst}
use Rattle.lrshow_check.specs.Findings.{Finding, finding_view, findings_output, findings_status}
use Rattle.lrshow_check.specs.Output.{IsOutput}
use Rattle.lrshow_check.proofs.check.ended.Goals as goal

pub returns-in-Ok : goal.returns-in-Ok
returns-in-Ok c = (
  map finding_view c.in_ok-all-in-Ok.all.items,
  inl (record {
    inlined = c.in-Ok.inlined;
    inlining = record { inlined = c.in-Ok.ensures.inlined; well_formed = c.in-Ok.ensures.well_formed; unmentioned = c.in-Ok.ensures.unmentioned; terminal_lists = c.in-Ok.ensures.terminal_lists };
    shown = c.in_ok-all-in-Ok.ensures;
  }),
  subst (λ (fs : List Finding). IsOutput (findings_status fs) (findings_output c.args.check.is_json c.args.name.now fs) [] c.in_ok-shown-in-Ok.shown) (ap (map finding_view) c.deref.ensures.value) c.in_ok-shown-in-Ok.ensures,
)
