use Rattle.std.proofs.Common.{zero, suc, List, [], ◌∷◌, refl}
use Rattle.lalrpop_grammar.specs.Words.{DifferInReductions}
use Rattle.lalrpop_grammar.specs.states.States.{Reduction}
use Rattle.lr1_theory.proofs.theory.instances.Instance.{S, x, g, states, alone, checked, faithful, reduction}
use Rattle.lr1_theory.proofs.theory.instances.InstanceTokens.{tokens, canonical, token_kernels, lr0, lane_tokens_held, lalr_tokens_held, lr1, lalr1}
use Rattle.lr1_theory.proofs.theory.instances.InstanceRuns.{tree, at_two}
use Rattle.lr1_theory.proofs.theory.instances.Spoilt.{with_reductions, idle, dropped_refused, repeated_refused, idle_refused}
use Rattle.lr1_theory.proofs.theory.instances.FiveStatesRuns as five
use Rattle.lr1_theory.proofs.theory.instances.FiveStates as rows
use mathlib.Core.List.{tail-eq_of_cons-eq, nil≢cons}
use Rattle.lr1_theory.proofs.laws.instances.Goals as goal

pub returns-clause-met : goal.returns-clause-met
returns-clause-met c = (g, S, states, tokens, alone, checked, faithful, canonical, token_kernels, lr0, lane_tokens_held, lalr_tokens_held, lr1, lalr1, (x ∷ [], tree, 2, at_two))

pub returns-clause-refused : goal.returns-clause-refused
returns-clause-refused c = (g, S, states, with_reductions [], with_reductions (reduction ∷ reduction ∷ []), with_reductions (idle ∷ []), faithful, alike [], alike (reduction ∷ reduction ∷ []), alike (idle ∷ []), dropped_refused, repeated_refused, idle_refused)
  where
    alike : (rs : List Reduction) → DifferInReductions states (with_reductions rs)
    alike rs zero = (refl, refl, refl)
    alike rs (suc zero) = (refl, refl, refl)
    alike rs (suc (suc n)) = (refl, refl, refl)

pub returns-clause-parsed : goal.returns-clause-parsed
returns-clause-parsed c = (rows.g, rows.S, rows.states, five.checked, five.faithful, five.alone, (rows.x ∷ [], rows.x ∷ rows.y ∷ [], five.short, five.long, five.short_parsed, five.long_parsed, λ e. nil≢cons (tail-eq_of_cons-eq e)))
