-- Over canonical states of an LR(1) grammar each step is made on a right token. So a wrong token is
-- refused right after the last right one, and each run ends.
-- The proofs use that the tokens of canonical states are exactly the valid ones.
use Rattle.std.proofs.Common.{◌≡◌, ℕ, suc, ◌+◌, ◌≤◌, ◌⊎◌, inl, inr, Option, Some, None, List, [], ◌∷◌, ◌++◌, drop, length, append_assoc, append-nil, sym, subst, refl, ap, ◌∙◌, arith}
use Rattle.std.proofs.lemmas.List.{append_cancel_right}
use Rattle.lr1_theory.proofs.Types.{NonterminalString, Production, Symbol, TerminalString, Token}
use Rattle.lalrpop_grammar.specs.declared.repr.Symbol.TheVariants.{Nonterminal, Terminal}
use Rattle.lalrpop_grammar.specs.Words.{Derives, terminal_symbols, IsSentence, IsOnNoRightSide, ValidToken, IsLR1, Reduce, Contents, AreFaithful, AreCanonical, Tree}
use Rattle.lalrpop_grammar.specs.Words.{Leaf, Configuration, next_token, Move, Stands, Goes, goes_on, received, moves_on, shifts_or, move, Reaches, here, further}
use Rattle.lalrpop_grammar.specs.Words.{begin, Refused, Limit, IsRightNext, HasOutcome, stuck, other_end, cut_off, IsPromptRefusal, before_all, behind_shift}
use Rattle.lalrpop_collections.proofs.theory.lists.Lists.{drop_all}
use Rattle.lalrpop_grammar.proofs.theory.grammars.SymbolLists.{terminal_symbols-append}
use Rattle.lalrpop_grammar.proofs.theory.grammars.Derivations.{Derives-to, Derives-trans, Derives-right}
use Rattle.lalrpop_grammar.proofs.theory.grammars.Parses.{sentence_tree}
use Rattle.lalrpop_grammar.proofs.theory.runs.Steps.{IsGoing, IsEnding, same_goes, same_ends, no_longer, Halts, ends_halts, stands_halts, Reaches-append, LastStep, no_step, step_from, last_step}
use Rattle.lalrpop_grammar.proofs.theory.runs.Stacks.{spelled, stacked_derives, stacked_after}
use Rattle.lalrpop_grammar.proofs.theory.runs.Runs.{Did, shifted, reduced_by, stood, did, Tracks, run_tracks, step_tracks, begin_tracks, shift_begins, reduction_holds}
use Rattle.lalrpop_grammar.proofs.theory.runs.Refusals.{halts_not_right}
use Rattle.lalrpop_grammar.proofs.theory.runs.Sentences.{tree_run}
use Rattle.lalrpop_grammar.proofs.theory.runs.Beginnings.{beginning_shifted}
use Rattle.lr1_theory.proofs.theory.closures.Canonical.{BeginsWith, ends_here, goes_on_with, token_follows, allows_valid, canonical_faithful}

-- a run reaches a configuration that halts
pub record Finishes (states : ℕ → Contents) (w : List TerminalString) : Type 0 where
  pub steps : ℕ
  pub at : Configuration
  pub run : Reaches states steps (begin w) at
  pub halts : Halts states at

module _ (g : List Production) (start : NonterminalString) (states : ℕ → Contents) (tokens : ℕ → Production → ℕ → Token → Type 0) (canonical : AreCanonical g start states tokens) (lr1 : IsLR1 g start) where
  -- canonical states of an LR(1) grammar are faithful
  faithful : AreFaithful g start states
  faithful = canonical_faithful g start states tokens canonical lr1

  -- each step is made on a right token
  pub steps_right : (w : List TerminalString) (c : Configuration) → Tracks g states w c → (move states c ≡ Stands) ⊎ IsRightNext g start (spelled c.trees) c.rest
  steps_right w c tr = go (move states c) refl (did states c)
    where
      on_token : (rest : List TerminalString) (l : List Symbol) → BeginsWith (next_token rest) l → Derives g (Nonterminal start ∷ []) (terminal_symbols (spelled c.trees) ++ l) → IsRightNext g start (spelled c.trees) rest
      on_token [] l ends_here d = Derives-to (append-nil (terminal_symbols (spelled c.trees))) d
      on_token (t ∷ rest) l (goes_on_with _ r) d =
          (r, Derives-to (sym (append_assoc (terminal_symbols (spelled c.trees)) (Terminal t ∷ []) r) ∙ ap (λ k. k ++ r) (sym (terminal_symbols-append (spelled c.trees) (t ∷ [])))) d)

      go : (m : Move) → move states c ≡ m → Did states c m → (m ≡ Stands) ⊎ IsRightNext g start (spelled c.trees) c.rest
      go _ e (stood h k) = inl refl
      go _ e (shifted t rest n h k) = inr (subst (IsRightNext g start (spelled c.trees)) (sym h) (shift_begins g start states faithful w c t n tr k))
      go _ e (reduced_by p h) =
          let v : ValidToken g start tr.prefix p (length p.symbols) (next_token c.rest) = (allows_valid g start states tokens canonical tr.prefix c.state (stacked_after tr.stack) (next_token c.rest) (Reduce p)).0 (reduction_holds (states c.state).reductions (next_token c.rest) p h) in
          let f = token_follows v in
          inr (on_token c.rest f.0 f.1
          (Derives-trans (Derives-to (ap (λ l. tr.prefix ++ (l ++ f.0)) (drop_all p.symbols)) f.2) (Derives-right f.0 (stacked_derives tr.stack))))

  -- each run ends
  pub finishes : IsOnNoRightSide g start → (w : List TerminalString) → Finishes states w
  finishes alone w = go w 0 (begin w) here (begin_tracks g start states faithful w) refl
    where
      at_end : (c : Configuration) → Tracks g states w c → c.rest ≡ [] → IsSentence g start (spelled c.trees) → Finishes states w
      at_end c tr e d =
          let t = (sentence_tree g start w).0 (subst (IsSentence g start) (sym (append-nil (spelled c.trees)) ∙ ap (λ l. spelled c.trees ++ l) (sym e) ∙ tr.input) d) in
          let x = tree_run g start states faithful alone w t.0 t.1 in
          record { steps = x.0; at = x.2.last; run = x.2.run; halts = ends_halts states x.2.last x.2.ends }

      go : (rest : List TerminalString) (n : ℕ) (c : Configuration) → Reaches states n (begin w) c → Tracks g states w c → c.rest ≡ rest → Finishes states w
      go [] n c r tr e = elim (steps_right w c tr) [
        | inl s ↦ record { steps = n; at = c; run = r; halts = stands_halts states c s }
        | inr h ↦ at_end c tr e (subst (IsRightNext g start (spelled c.trees)) e h)
      ]
      go (t ∷ rest) n c r tr e = elim (steps_right w c tr) [
        | inl s ↦ record { steps = n; at = c; run = r; halts = stands_halts states c s }
        | inr h ↦
            let k = beginning_shifted g start states faithful (spelled c.trees) t rest (subst (IsRightNext g start (spelled c.trees)) e h) in
            let to : Configuration = record { state = k.target; below = (k.at).state ∷ (k.at).below; trees = Leaf t ∷ (k.at).trees; rest = rest } in
            let goes : move states k.at ≡ Goes to = ap (moves_on states k.at) k.next ∙ ap (shifts_or states k.at t rest) k.shift in
            let run : Reaches states (k.steps + 1) (begin w) to = subst (λ l. Reaches states (k.steps + 1) (begin l) to) (ap (λ l. spelled c.trees ++ l) (sym e) ∙ tr.input) (Reaches-append k.run (further goes here)) in
            go rest (k.steps + 1) to run (run_tracks g start states faithful w run (begin_tracks g start states faithful w)) refl
      ]

  -- for each list there is a number such that Limit is not the outcome for a limit from it on
  pub limit_enough : IsOnNoRightSide g start → (w : List TerminalString) → (enough : ℕ) × ((limit : ℕ) → enough ≤ limit → HasOutcome states w limit Limit → ⊥)
  limit_enough alone w = (suc f.steps, λ limit l o. cut limit l o)
    where
      f : Finishes states w
      f = finishes alone w

      cut : (limit : ℕ) → suc f.steps ≤ limit → HasOutcome states w limit Limit → ⊥
      cut limit l (cut_off c r h) = let k = no_longer f.run f.halts r in omega arith

  -- each step of a run is made on a right token
  pub steps_on_right : (v rest : List TerminalString) (n : ℕ) (c : Configuration) → Reaches states n (begin (v ++ rest)) c → c.rest ≡ rest → (move states c ≡ Stands) ⊎ IsRightNext g start v rest
  steps_on_right v rest n c r e =
      let tr : Tracks g states (v ++ rest) c = run_tracks g start states faithful (v ++ rest) r (begin_tracks g start states faithful (v ++ rest)) in
      let same : spelled c.trees ≡ v = append_cancel_right (spelled c.trees) v rest (ap (λ l. spelled c.trees ++ l) (sym e) ∙ tr.input) in
      elim (steps_right (v ++ rest) c tr) [
        | inl s ↦ inl s
        | inr k ↦ inr (subst (λ l. IsRightNext g start l rest) same (subst (IsRightNext g start (spelled c.trees)) e k))
      ]

  -- a run is refused promptly if a step leads to a configuration before a token that is not right
  pub prompt_after : (w : List TerminalString) (n : ℕ) (d c : Configuration) → Reaches states n (begin w) d → Tracks g states w d → Tracks g states w c → move states d ≡ Goes c → (IsRightNext g start (spelled c.trees) c.rest → ⊥) → IsPromptRefusal g start states w c.state (next_token c.rest)
  prompt_after w n d c r trd trc e wrong = go (move states d) (did states d) e
    where
      by_reduction : c.rest ≡ d.rest → IsPromptRefusal g start states w c.state (next_token c.rest)
      by_reduction same =
          let spelled_same : spelled d.trees ≡ spelled c.trees = append_cancel_right (spelled d.trees) (spelled c.trees) c.rest (ap (λ l. spelled d.trees ++ l) same ∙ trd.input ∙ sym trc.input) in
          elim (steps_right w d trd) [
            | inl s ↦ absurd (subst IsGoing (sym e ∙ s) tt)
            | inr k ↦ absurd (wrong (subst (λ l. IsRightNext g start l c.rest) spelled_same (subst (IsRightNext g start (spelled d.trees)) (sym same) k)))
          ]

      after_goto : (o : Option ℕ) (s : ℕ) (below : List ℕ) (trees : List Tree) → goes_on o s below trees d.rest ≡ Goes c → c.rest ≡ d.rest
      after_goto None s below trees k = absurd (subst IsGoing (sym k) tt)
      after_goto (Some m) s below trees k = ap (λ (x : Configuration). x.rest) (same_goes (sym k))

      after_reduction : (p : Production) (stack : List ℕ) (trees : List Tree) → received states p stack trees d.rest ≡ Goes c → c.rest ≡ d.rest
      after_reduction p [] trees k = absurd (subst IsGoing (sym k) tt)
      after_reduction p (s ∷ below) trees k = after_goto ((states s).goto p.nonterminal) s below trees k

      go : (m : Move) → Did states d m → m ≡ Goes c → IsPromptRefusal g start states w c.state (next_token c.rest)
      go _ (shifted t rest s h k) x =
          let to : Configuration = record { state = s; below = d.state ∷ d.below; trees = Leaf t ∷ d.trees; rest = rest } in
          let same : to ≡ c = same_goes x in
          subst (λ (y : Configuration). IsPromptRefusal g start states w y.state (next_token y.rest)) same
          (behind_shift (spelled d.trees) t rest n d s (sym trd.input ∙ ap (λ l. spelled d.trees ++ l) h) r h k
          (λ b. wrong (subst (λ (y : Configuration). IsRightNext g start (spelled y.trees) y.rest) same b)))
      go _ (reduced_by p h) x = by_reduction (after_reduction p (drop (length p.symbols) (d.state ∷ d.below)) _ x)
      go _ (stood h k) x = absurd (subst IsGoing (sym x) tt)

  -- a configuration before a token that is not right is right after the last right token
  pub halts_promptly : (w : List TerminalString) (n : ℕ) (c : Configuration) → Reaches states n (begin w) c → (IsRightNext g start (spelled c.trees) c.rest → ⊥) → IsPromptRefusal g start states w c.state (next_token c.rest)
  halts_promptly w n c r wrong = go (last_step r) wrong
    where
      go : LastStep states n (begin w) c → (IsRightNext g start (spelled c.trees) c.rest → ⊥) → IsPromptRefusal g start states w c.state (next_token c.rest)
      go (no_step e) k =
          subst (λ (y : Configuration). IsPromptRefusal g start states w y.state (next_token y.rest)) e
          (before_all (λ b. k (subst (λ (y : Configuration). IsRightNext g start (spelled y.trees) y.rest) e b)))
      go (step_from m d s e) k =
          let at_d : Tracks g states w d = run_tracks g start states faithful w s (begin_tracks g start states faithful w) in
          prompt_after w m d c s at_d (step_tracks g start states faithful w d c at_d e) e k

  -- each refusal is prompt
  pub refused_promptly : IsOnNoRightSide g start → (w : List TerminalString) (limit s : ℕ) (t : Token) → HasOutcome states w limit (Refused s t) → IsPromptRefusal g start states w s t
  refused_promptly alone w limit _ _ (stuck n c l r e) =
      halts_promptly w n c r (halts_not_right g start states faithful alone w n c r (stands_halts states c e) (λ t h k. subst IsEnding (sym k ∙ e) tt))
  refused_promptly alone w limit _ _ (other_end n c trees l r e not_parsed) =
      halts_promptly w n c r (halts_not_right g start states faithful alone w n c r (ends_halts states c e) (λ t h k. not_parsed t (same_ends (sym e ∙ k), h)))
