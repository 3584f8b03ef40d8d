-- Merged canonical states have no conflict exactly if the grammar is LALR(1). Then they are
-- faithful to it.
use Rattle.std.proofs.Common.{◌≡◌, ℕ, List, refl, sym, ◌∙◌, ap, subst, true, Option, Some, None}
use Rattle.std.specs.Prelude.{slice_get, MatchResult}
use Rattle.std.specs.declared.result.Result.{Result}
use Rattle.std.specs.declared.result.Result.TheVariants.{Ok, Err}
use Rattle.std.proofs.lemmas.Option.{slice_get_within}
use Rattle.lalrpop_base.specs.Words.{Bits, contents_at, AreLr0, HoldLalrTokens, AllDiffer, Contents, state_after, AreAllConflictFree, AreAllConflicts}
use Rattle.lalrpop_base.specs.Words.{IsLR1, IsLALR1, productions}
use Rattle.lalrpop_construction.specs.Words.{tokens_of, FitReductions, AreOrderedCanonical}
use Rattle.lalrpop_tables.specs.Words.{IsCollapsed, AreCollapsedTables, FailsByCollapse}
use Rattle.lalrpop_grammar.specs.conflicts.Conflicts.{HasNoConflict as HoldsNoConflict}
use Rattle.lalrpop_tables.proofs.Types.{BuildError, Conflict, Grammar, NonterminalString, Production, State, Symbol, TerminalString, Token}
use Rattle.lalrpop_states.specs.declared.lr1_core.state.BuildError.TheVariants.{Conflicts, Memory}
use Rattle.lr1_theory.proofs.theory.closures.Closures.{state_from-last, reached_at, reached_live}
use Rattle.lr1_theory.proofs.theory.collapse.Collapse.{collapsed_lr0, collapsed_tokens}
use Rattle.lr1_theory.proofs.theory.collapse.LalrStates.{lalr_faithful, no_conflict_lalr, lalr_no_conflict, action_lalr}
use Rattle.lalrpop_collections.proofs.theory.lists.Lists.{Grown, from_nothing, more, grown}
use Rattle.lalrpop_grammar.proofs.theory.runs.Steps.{state_from-more}
use Rattle.lalrpop_grammar.proofs.theory.closures.Valid.{action_live}
use Rattle.lalrpop_tables.specs.Words.{AreLalrTables}
use Rattle.lalrpop_base.specs.Words.{TellsNotLALR1}
use Rattle.lalrpop_tables.proofs.theory.collapse.CollapseContents.{holds, old, now, number, is_collapse}
use Rattle.lalrpop_construction.proofs.theory.conflicts.ConflictFree.{nowhere_conflict, free_contents, contents_free, none_listed}
use Rattle.lalrpop_collections.proofs.theory.lists.Places.{same_some}

module _ (g : Grammar) (start : NonterminalString) (differ : AllDiffer g.terminals) (before after : List (State Bits)) (ordered : AreOrderedCanonical g start before) (c : IsCollapsed before after) where
  abbrev was : ℕ → Contents
  was = old g start before after ordered c

  abbrev is : ℕ → Contents
  is = now g start before after ordered c

  abbrev group : ℕ → ℕ
  group = number g start before after ordered c

  abbrev tokens : ℕ → Production → ℕ → Token → Type 0
  tokens n p dot t = tokens_of g.terminals before n p dot t ≡ true

  lr0 : AreLr0 (productions g) start is
  lr0 = collapsed_lr0 (productions g) start was tokens ordered.canonical.canonical group is (is_collapse g start before after ordered c)

  lalr_tokens : HoldLalrTokens (productions g) start is
  lalr_tokens = collapsed_tokens (productions g) start was tokens ordered.canonical.canonical group is (is_collapse g start before after ordered c)

  -- ---- without conflicts
  free_at : AreAllConflictFree g.terminals after → (n : ℕ) (o : Option (State Bits)) → slice_get after n ≡ o → HoldsNoConflict (contents_at (holds g start before after ordered c) o)
  free_at free n None at = nowhere_conflict
  free_at free n (Some s) at = free_contents g.terminals s (free n s at)

  pub free_lalr : AreAllConflictFree g.terminals after → IsLALR1 (productions g) start
  free_lalr free = no_conflict_lalr (productions g) start is lr0 lalr_tokens (λ u n live at. free_at free n (slice_get after n) refl)

  pub free_tables : AreAllConflictFree g.terminals after → AreLalrTables g start after
  free_tables free = record { lalr = free_lalr free; faithful = lalr_faithful (productions g) start is lr0 lalr_tokens (free_lalr free) }

  -- ---- if the grammar is LALR(1)
  -- a prefix leads to the merged state of the state to which it led
  grouped : {u : List Symbol} → Grown u → (n : ℕ) → state_after was u ≡ Some n → state_after is u ≡ Some (group n)
  grouped from_nothing n e = ap (λ (k : ℕ). Some k) (sym (is_collapse g start before after ordered c).first ∙ ap group (same_some 0 n e))
  grouped (more {l = u} x k) n e =
      let m = state_from-last was 0 u x n e in
      state_from-more is 0 u x (grouped k m.0 m.1) ((is_collapse g start before after ordered c).edges m.0 n x (reached_at (productions g) start was ordered.canonical.canonical.closed k m.0 m.1) m.2)

  -- the tokens of merged reductions are those of the terminals
  fits : (k : ℕ) (merged : State Bits) → slice_get after k ≡ Some merged → FitReductions g.terminals merged
  fits k merged there r among bit h =
      let (s, member, on) = ((c.each k merged there).holds r.1.now bit).0 (r, among, refl, h) in
      ordered.fit member.0 s member.1 on.0 on.1 bit on.3

  pub lalr_free : IsLALR1 (productions g) start → AreAllConflictFree g.terminals after
  lalr_free lalr k merged there =
      let (s, member, none) = (c.each k merged there).some in
      let v = reached_live (productions g) start was ordered.canonical.canonical.closed (ordered.canonical.reached member.0 (slice_get_within before member.0 s member.1)) in
      let at : state_after is v.0 ≡ Some k = grouped (grown v.0) member.0 v.2 ∙ ap (λ (n : ℕ). Some n) member.2 in
      contents_free g.terminals merged differ (fits k merged there)
      (subst HoldsNoConflict (ap (contents_at (holds g start before after ordered c)) there) (lalr_no_conflict (productions g) start is lr0 lalr_tokens lalr v.0 k v.1 at))

  pub conflicts_not_lalr : (conflicts : List (Conflict Bits)) → AreAllConflicts g.terminals after conflicts → ¬ IsLALR1 (productions g) start
  conflicts_not_lalr conflicts all lalr = all.some (all.all ∙ none_listed g.terminals after (lalr_free lalr))

-- ---- what the result of a collapse says
error_tells : (g : Grammar) (start : NonterminalString) → AllDiffer g.terminals → (before : List (State Bits)) → AreOrderedCanonical g start before → (error : BuildError Bits) → FailsByCollapse g.terminals before error → TellsNotLALR1 (productions g) start error
error_tells g start differ before built (Conflicts error) f = conflicts_not_lalr g start differ before error.states.items built f.0 error.conflicts.items f.1
error_tells g start differ before built Memory f = tt

pub Collapse-tells : {T : Type 0} (items : T → List (State Bits)) (g : Grammar) (start : NonterminalString) (terminals : List TerminalString) → AllDiffer terminals → g.terminals ≡ terminals → (before : List (State Bits)) → AreOrderedCanonical g start before → (r : Result T (BuildError Bits)) →
    MatchResult r (λ t. AreCollapsedTables terminals before (items t)) (FailsByCollapse terminals before) → MatchResult r (λ t. AreLalrTables g start (items t)) (TellsNotLALR1 (productions g) start)
Collapse-tells items g start terminals differ same before built (Ok t) h = free_tables g start (subst AllDiffer (sym same) differ) before (items t) built h.collapsed (subst (λ (ts : List TerminalString). AreAllConflictFree ts (items t)) (sym same) h.free)
Collapse-tells items g start terminals differ same before built (Err e) h = error_tells g start (subst AllDiffer (sym same) differ) before built e (subst (λ (ts : List TerminalString). FailsByCollapse ts before e) (sym same) h)

-- ---- LALR(1) grammars are LR(1)
module _ (g : List Production) (start : NonterminalString) where
  pub lalr_lr1 : IsLALR1 g start → IsLR1 g start
  lalr_lr1 lalr u t a b v w = let live = action_live {g = g} {start = start} {u = u} t a v in lalr u live t a b (action_lalr g start u live t a v) (action_lalr g start u live t b w)
