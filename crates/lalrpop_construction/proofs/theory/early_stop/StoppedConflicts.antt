-- If some state of a live prefix has a conflict, the grammar is not LR(1). So the result of the
-- construction decides, even if it stops early.
use Rattle.std.proofs.Common.{◌≡◌, ℕ, List, [], length, refl, ◌∙◌, ap, subst, true, Some}
use Rattle.std.specs.Prelude.{Contains}
use Rattle.std.specs.List.{flat_map}
use Rattle.lalrpop_base.specs.Words.{Bits, holds_token, contents_of, Dotted, AllDiffer, state_conflicts, Contents, Action, Shift, Reduce, IsValidAction, IsLR1}
use Rattle.lalrpop_base.specs.Words.{rules_of, productions, IsWellFormed, AreOwn, HasItemToken, IsClosureOf}
use Rattle.lalrpop_states.specs.conflicts.StateConflicts.{IsConflictFree}
use Rattle.lalrpop_grammar.specs.states.States.{Reduction}
use Rattle.lalrpop_construction.proofs.Types.{Grammar, NonterminalString, Production, State, Symbol, TerminalString, Token}
use Rattle.lalrpop_grammar.specs.declared.lookahead.token.Token.TheVariants.{Terminal as TokenOf}
use Rattle.lalrpop_grammar.specs.declared.repr.Symbol.TheVariants.{Terminal}
use Rattle.lalrpop_collections.proofs.theory.lists.Lists.{place_contains}
use Rattle.lalrpop_states.specs.states.Items.{dotted_of}
use Rattle.lalrpop_construction.specs.Words.{ArePartlyBuilt, IsStateFor}
use Rattle.lalrpop_base.specs.Words.{IsBuilt}
use Rattle.lalrpop_construction.proofs.theory.canonical.CanonicalConflicts.{reductions_fit}
use Rattle.lalrpop_construction.proofs.theory.conflicts.ConflictFree.{contents_free, none_listed}
use Rattle.lalrpop_construction.proofs.theory.construction.Reductions.{reduction_from, reduces_finished}
use Rattle.lalrpop_construction.proofs.theory.construction.StateEdges.{leads_over_dots}
use Rattle.lalrpop_construction.proofs.theory.early_stop.StoppedStates.{kernel_at_start, some_canonical_states}

-- the action is a shift
abbrev IsShift : Action → Type 0
IsShift (Shift x) = Unit {0}
IsShift (Reduce p) = ⊥

abbrev production_of : Production → Action → Production
production_of p (Shift x) = p
production_of p (Reduce q) = q

module _ (g : Grammar) (start : NonterminalString) (list : List (List (Dotted Bits))) (kernel : List (Dotted Bits)) (number : ℕ) (s : State Bits) (built : IsBuilt (rules_of g) list kernel number s) (u : List Symbol) (for : IsStateFor (rules_of g) start u s) where
  abbrev now : Contents
  now = contents_of (holds_token g.terminals) s

  shift_valid : (x : TerminalString) (n : ℕ) → now.shift x ≡ Some n → IsValidAction (productions g) start u (TokenOf x) (Shift x)
  shift_valid x n e =
      let b = (leads_over_dots (holds_token g.terminals) (IsClosureOf (rules_of g)) list kernel number s built (Terminal x)).0 (n, e) in
      (refl, record { production = b.production; dot = b.dot; after = b.after; valid = (for.items b.production b.dot).0 b.item; behind = b.behind })

  reduction_valid : (r : Reduction) (t : Token) → Contains now.reductions r → r.holds t ≡ true → IsValidAction (productions g) start u t (Reduce r.production)
  reduction_valid r t c h =
      let i = reduction_from (holds_token g.terminals) s built.finished r c in
      let p : (i.0).production ≡ r.production = ap (λ (q : Reduction). q.production) i.3 in
      let is : dotted_of i.0 ≡ ((i.0).production, length (i.0).production.symbols) = ap (λ (d : ℕ). ((i.0).production, d)) i.2 in
      let held : holds_token g.terminals (i.0).lookahead t ≡ true = ap (λ (q : Reduction). q.holds t) i.3 ∙ h in
      let with_token : HasItemToken g.terminals s.items.vec.items (i.0).production (length (i.0).production.symbols) t = record { item = i.0; there = i.1; is = is; holds = held } in
      subst (λ (q : Production). IsValidAction (productions g) start u t (Reduce q)) p ((for.tokens (i.0).production (length (i.0).production.symbols) t).0 with_token)

  pub lr1_free : AllDiffer g.terminals → IsLR1 (productions g) start → IsConflictFree g.terminals s
  lr1_free differ lr = contents_free g.terminals s differ (reductions_fit (rules_of g) s.items.vec.items s.reductions.items built.closure.are_items built.finished) (record {
    shifts = λ x n r e c h. subst IsShift (lr u (TokenOf x) (Shift x) (Reduce r.production) (shift_valid x n e) (reduction_valid r (TokenOf x) c h)) tt;
    reductions = λ i j r q t l at_i at_j h k.
        let same = ap (production_of r.production) (lr u t (Reduce r.production) (Reduce q.production) (reduction_valid r t (place_contains now.reductions i r at_i) h) (reduction_valid q t (place_contains now.reductions j q at_j) k)) in
        (reduces_finished (holds_token g.terminals) s built.finished built.closure.ascend).once i j r q l at_i at_j same;
  })

-- the grammar is not LR(1) if a conflict is listed
pub conflict_not_lr1 : (g : Grammar) (start : NonterminalString) → IsWellFormed g → AreOwn g → AllDiffer g.terminals → (states : List (State Bits)) → ArePartlyBuilt (rules_of g) (kernel_at_start g start) states → (flat_map (state_conflicts g.terminals) states ≡ [] → ⊥) → ¬ IsLR1 (productions g) start
conflict_not_lr1 g start well own differ states b some lr =
    let canonical = some_canonical_states g start well own states b differ in
    some (none_listed g.terminals states (λ n s at.
    let for = canonical.each n s at in
    let k = b.each n s at in
    lr1_free g start b.kernels k.kernel n s k.built for.0 for.1 differ lr))
