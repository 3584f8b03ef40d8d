use Rattle.std.proofs.Common.{◌+◌, [], ◌++◌, ◌∙◌, ap, sym, string_bytes}
use Rattle.std.proofs.lemmas.List.{append-nil}
use Rattle.lrtab_run.specs.Explained.{IsConflictPart}
use Rattle.lrtab_run.specs.Explaining.{conflict_text}
use Rattle.lrtab_run.proofs.ExplainedParts.{done_more, done_all}
use Rattle.lrtab_run.proofs.ExplainedTexts.{conflict_part}
use Rattle.lrtab_run.proofs.explain.push_conflicts.Goals as goal

pub explain_next-requires-clause-conflict : goal.explain_next-requires-clause-conflict
explain_next-requires-clause-conflict c = c.requires.conflicts c.index-conflicts-place.result (c.loop-place.place, c.loop-place-test.true, sym c.index-conflicts-place.is)

pub loop-place-init : goal.loop-place-init
loop-place-init c =
    let context = c.args.explainer.now.context in
    record {
      done = record { done = []; grown = sym (append-nil (string_bytes c.args.text.now)); whole = λ rest h. h };
      kept = c.new-kept.ensures.none context.first_sets.now context.states.now;
    }

pub loop-place-preserved : goal.loop-place-preserved
loop-place-preserved c =
    let context = c.args.explainer.now.context in
    let number = c.loop-place.place + 1 in
    let explained = c.in_ok-explained.explained in
    let done = done_more (IsConflictPart context.first_sets.now context.states.now) 1 c.args.conflicts.now c.loop-place.place c.index-conflicts-place.result (string_bytes c.args.text.now) (string_bytes c.loop-place.text) (string_bytes c.push_conflict.new.text)
    c.loop-place.invariant.done c.loop-place-test.true c.index-conflicts-place.is
    (record {
      added = conflict_text context.first_sets.now.terminals number explained;
      holds = conflict_part context.first_sets.now context.states.now number c.index-conflicts-place.result explained c.in_ok-explained.ensures.explained;
      grown = c.in_ok-push_conflict.ensures ∙ ap (λ terminals. string_bytes c.loop-place.text ++ conflict_text terminals number explained) c.requires.numbered;
    }) in
    record { done = done; kept = c.in_ok-explained.ensures.kept }

pub returns : goal.returns
returns c =
    let context = c.args.explainer.now.context in
    done_all (IsConflictPart context.first_sets.now context.states.now) 1 c.args.conflicts.now c.loop-place.place (string_bytes c.args.text.now) (string_bytes c.loop-place.text) c.loop-place.invariant.done c.loop-place-test.false
