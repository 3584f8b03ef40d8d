use Rattle.std.proofs.Common.{[], sym, subst, ◌∙◌, ap, ◌++◌, ◌∷◌}
use Rattle.std.proofs.lemmas.List.{append_cancel_right}
use Rattle.lalrpop_grammar.specs.Words.{IsBeginning}
use Rattle.lalrpop_grammar.proofs.theory.runs.Sentences.{one_tree, tree_parsed, tree_run}
use Rattle.lalrpop_grammar.proofs.theory.runs.Runs.{answered_is_tree, answered_within, run_tracks, begin_tracks, shift_begins, Tracks}
use Rattle.lalrpop_grammar.proofs.theory.runs.Refusals.{refused_wrong}
use Rattle.lalrpop_grammar.proofs.theory.runs.Stacks.{spelled}
use Rattle.lalrpop_grammar.proofs.theory.runs.Beginnings.{beginning_shifted}
use Rattle.lalrpop_grammar.proofs.theory.states.RightStates.{faithful_lr1}
use Rattle.lr1_theory.proofs.laws.faithful_states.Goals as goal

pub returns-clause-one_tree : goal.returns-clause-one_tree
returns-clause-one_tree c = one_tree

pub returns-clause-answers : goal.returns-clause-answers
returns-clause-answers c g start states faithful alone w t limit = (
  λ h. (answered_is_tree g start states faithful w t limit h, answered_within g start states faithful alone w t limit h),
  λ h. tree_parsed g start states faithful alone w t limit h.0 h.1,
)

pub returns-clause-steps : goal.returns-clause-steps
returns-clause-steps c g start states faithful alone w t h =
    let r = tree_run g start states faithful alone w t h in
    (r.0, r.2.last, r.1, r.2.run, r.2.ends, r.2.used_up)

pub returns-clause-refusals : goal.returns-clause-refusals
returns-clause-refusals c = refused_wrong

pub returns-clause-shifts : goal.returns-clause-shifts
returns-clause-shifts c g start states faithful v t rest n m d r e h =
    let tr : Tracks g states (v ++ t ∷ rest) d = run_tracks g start states faithful (v ++ t ∷ rest) r (begin_tracks g start states faithful (v ++ t ∷ rest)) in
    subst (λ l. IsBeginning g start (l ++ t ∷ [])) (append_cancel_right (spelled d.trees) v (t ∷ rest) (ap (λ l. spelled d.trees ++ l) (sym e) ∙ tr.input)) (shift_begins g start states faithful (v ++ t ∷ rest) d t m tr h)

pub returns-clause-beginnings : goal.returns-clause-beginnings
returns-clause-beginnings c g start states faithful v t rest h =
    let k = beginning_shifted g start states faithful v t rest h in
    (k.steps, k.at, k.target, k.run, k.next, k.shift)

pub returns-clause-lr1 : goal.returns-clause-lr1
returns-clause-lr1 c = faithful_lr1
