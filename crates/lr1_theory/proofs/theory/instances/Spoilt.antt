-- States of S = "x" that were changed are not faithful. The reduction is dropped, is there twice,
-- or lacks its token, or there is an edge too many. Each proof uses the condition that fails.
use Rattle.std.proofs.Common.{◌≡◌, ℕ, zero, suc, true, false, true≢false, List, [], ◌∷◌, drop, sym, subst, refl, ap, ◌∙◌, None, arith, inr}
use mathlib.Core.List.{nil≢cons}
use Rattle.lr1_theory.proofs.Types.{Production}
use Rattle.lalrpop_grammar.specs.declared.repr.Symbol.TheVariants.{Terminal}
use Rattle.lalrpop_grammar.specs.declared.lookahead.token.Token.TheVariants.{Eof}
use Rattle.lalrpop_grammar.specs.Words.{starts, shifts, ValidToken, at_start, kept, IsLive, Reduce, Contents, AreFaithful, IsRightFor}
use Rattle.lalrpop_grammar.specs.states.States.{Reduction}
use Rattle.lalrpop_collections.proofs.theory.lists.Lists.{contains-nil, contains_head, same_some}
use Rattle.lr1_theory.proofs.theory.instances.Instance.{S, x, P, g, only, reduction, states}
use Rattle.lalrpop_grammar.proofs.theory.lists.ListEnds.{only_one}

-- the states with another state 1
abbrev pub with_state : Contents → ℕ → Contents
with_state s zero = states zero
with_state s (suc zero) = s
with_state s (suc (suc n)) = states (suc (suc n))

-- the states with other reductions in state 1
abbrev pub with_reductions : List Reduction → ℕ → Contents
with_reductions rs = with_state (record { items = (P, 1) ∷ []; shift = λ t. None; goto = λ a. None; reductions = rs })

-- x is a live prefix
x_live : IsLive g S (Terminal x ∷ [])
x_live = inr (P, 1, shifts (Terminal x) [] (starts P (contains_head P []) refl) refl)

-- after x the finished production is valid with Eof
x_ends : ValidToken g S (Terminal x ∷ []) P 1 Eof
x_ends = kept (Terminal x) [] (at_start P (contains_head P []) refl) refl

-- if the states are faithful, state 1 is right for the prefix x
right_one : (s : Contents) → AreFaithful g S (with_state s) → IsRightFor g S (Terminal x ∷ []) s
right_one s f =
    let r = f (Terminal x ∷ []) x_live in
    let e : 1 ≡ r.number = same_some r.after in
    subst (λ n. IsRightFor g S (Terminal x ∷ []) (with_state s n)) (sym e) r.right

-- the states are not faithful without the reduction, since a valid action is not allowed
pub dropped_refused : AreFaithful g S (with_reductions []) → ⊥
dropped_refused f = contains-nil ((right_one _ f).every Eof (Reduce P) x_ends).1

-- the states are not faithful if the reduction is there twice
pub repeated_refused : AreFaithful g S (with_reductions (reduction ∷ reduction ∷ [])) → ⊥
repeated_refused f = ((right_one _ f).contents).reductions.once 0 1 reduction reduction (omega arith) refl refl refl

-- the reduction without tokens
abbrev pub idle : Reduction
idle = record { production = P; holds = λ t. false }

-- the states are not faithful if the reduction lacks its token, since a valid action is not allowed
pub idle_refused : AreFaithful g S (with_reductions (idle ∷ [])) → ⊥
idle_refused f =
    let a = (right_one _ f).every Eof (Reduce P) x_ends in
    let e : false ≡ true = ap (λ (r : Reduction). r.holds Eof) (only_one idle a.0 a.1) ∙ a.3 in
    true≢false (sym e)

-- the states are not faithful with an edge over a symbol that is after no dot
pub extra_refused : AreFaithful g S (with_state (record { items = (P, 1) ∷ []; shift = only; goto = λ a. None; reductions = reduction ∷ [] })) → ⊥
extra_refused f =
    let b = (((right_one _ f).contents).edges (Terminal x)).0 (1, refl) in
    nil≢cons (ap (λ (z : Production × ℕ). drop z.1 (z.0).symbols) (only_one (P, 1) (b.production, b.dot) b.item) ∙ b.behind)
