-- A handler below the new start symbol takes each step of a run but the final one.
use Rattle.std.proofs.Common.{◌≡◌, ℕ, List, Some, slice_get, sym, ap, subst, ◌∙◌}
use Rattle.lalrpop_base.specs.Words.{AreFaithful, Configuration, Contents, Ends, Goes, IsOnNoRightSide, Tree, move}
use Rattle.lalrpop_grammar.specs.declared.repr.NonterminalString.{NonterminalString}
use Rattle.lalrpop_grammar.specs.declared.repr.Production.{Production}
use Rattle.lalrpop_grammar.specs.declared.repr.TerminalString.{TerminalString}
use Rattle.lalrpop_collections.proofs.theory.lists.Lists.{same_some}
use Rattle.lalrpop_grammar.proofs.theory.runs.Runs.{Tracks, step_tracks}
use Rattle.lalrpop_grammar.proofs.theory.runs.Steps.{IsGoing}
use Rattle.table_parser.specs.Events.{Event}
use Rattle.table_parser.specs.Steps.{Handles, IsEvent, IsFinal, nothing, once_more, reduces, shifts}
use Rattle.table_parser.proofs.Moves.{shift_moves}
use Rattle.any_start_parser.specs.Augmented.{IsOnlyOf}
use Rattle.any_start_parser.specs.Below.{TakesBelow}
use Rattle.any_start_parser.specs.declared.handler.BelowStart.{BelowStart}
use Rattle.any_start_parser.proofs.Final.{final_name, goes_no_further}

-- the production with the number of the only one of a nonterminal is one of it
named_by : (productions : List Production) (f : NonterminalString) (number : ℕ) → IsOnlyOf productions f number → (k : ℕ) (p : Production) → slice_get productions k ≡ Some p → k ≡ number → p.nonterminal ≡ f
named_by productions f number only k p at same =
    ap (λ (q : Production). q.nonterminal) (same_some (sym at ∙ ap (slice_get productions) same ∙ only.is.1)) ∙ only.is.2

module _ (h : List Production) (f : NonterminalString) (states : ℕ → Contents) (faithful : AreFaithful h f states) (alone : IsOnNoRightSide h f) (terminals : List TerminalString) (productions : List Production) {H : Type 0} (takes : H → Event → H → Type 0) (number : ℕ) (only : IsOnlyOf productions f number) (w : List TerminalString) where
  module _ (c : Configuration) (tracks : Tracks h states w c) (u v : BelowStart H) (same : u.production ≡ number) where
    -- the handler takes the event of a step that is not final
    passed_on : (d : Configuration) {event : Event} → IsEvent terminals productions states c event → move states c ≡ Goes d → TakesBelow takes u event v → takes u.handler event v.handler
    passed_on d (shifts target bit acts listed) goes taken = taken.1
    passed_on d (reduces p k acts listed) goes taken =
        taken.1.1 (λ is. goes_no_further h f states faithful alone w c tracks p acts (named_by productions f number only k p listed (is ∙ same)) d goes)

    -- it does not take that of a final step
    kept_by : (trees : List Tree) {event : Event} → IsEvent terminals productions states c event → move states c ≡ Ends trees → TakesBelow takes u event v → v.handler ≡ u.handler
    kept_by trees (shifts target bit acts listed) ends taken =
        let by = shift_moves states c c.rest target acts in
        absurd (subst IsGoing (sym by.moves ∙ ends) tt)
    kept_by trees (reduces p k acts listed) ends taken =
        taken.1.0 (only.only k (p, listed, final_name h f states faithful alone w c tracks p acts trees ends) ∙ sym same)

    pub final_kept : (trees : List Tree) → IsFinal terminals productions states (TakesBelow takes) c trees u v → v.handler ≡ u.handler
    final_kept trees final = kept_by trees final.is final.ends final.taken

  -- the handler took steps, none of them final
  pub record HasTaken (n : ℕ) (c : Configuration) (u : BelowStart H) (d : Configuration) (v : BelowStart H) : Type 0 where
    pub tracks : Tracks h states w d
    pub same : v.production ≡ number
    pub handled : Handles terminals productions states takes n c u.handler d v.handler

  pub steps_taken : {n : ℕ} {c d : Configuration} {u v : BelowStart H} → Handles terminals productions states (TakesBelow takes) n c u d v → Tracks h states w c → u.production ≡ number → HasTaken n c u d v
  steps_taken nothing tracks same = record { tracks = tracks; same = same; handled = nothing }
  steps_taken (once_more {d = d} {e = e} {i = i} {j = j} before step) tracks same =
      let r = steps_taken before tracks same in
      record {
        tracks = step_tracks h f states faithful w d e r.tracks step.moves;
        same = step.taken.0 ∙ r.same;
        handled = once_more r.handled (record { event = step.event; is = step.is; moves = step.moves; taken = passed_on d r.tracks i j r.same e step.is step.moves step.taken });
      }
