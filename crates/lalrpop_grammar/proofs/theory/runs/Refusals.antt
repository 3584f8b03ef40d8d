-- Over faithful states, with the start symbol on no right side, a refusal names the first wrong
-- token. The proof is that a run would shift a right token, and ends with a tree on a sentence.
use Rattle.std.proofs.Common.{◌≡◌, ℕ, suc, ◌≤◌, inl, inr, List, [], ◌∷◌, ◌++◌, drop, length, append-nil, sym, subst, refl, ap, ◌∙◌, Option, Some, None, arith}
use Rattle.lalrpop_grammar.proofs.Types.{NonterminalString, Production, Symbol, TerminalString, Token}
use Rattle.lalrpop_grammar.specs.declared.repr.Symbol.TheVariants.{Nonterminal}
use Rattle.lalrpop_grammar.specs.Words.{as_it_is, terminal_symbols, IsSentence, IsBeginning, IsOnNoRightSide, IsLive, Contents, AreFaithful, Tree, Leaf, Configuration}
use Rattle.lalrpop_grammar.specs.Words.{next_token, Move, Goes, Ends, received, goes_on, shifts_or, moves_on, move, Reaches, here, further, begin, Refused}
use Rattle.lalrpop_grammar.specs.Words.{HasOutcome, stuck, other_end, IsFirstWrong, at_terminal, at_end, IsRightNext}
use Rattle.lalrpop_grammar.proofs.theory.grammars.Derivations.{Derives-to, Derives-trans, Derives-right}
use Rattle.lalrpop_grammar.proofs.theory.closures.Valid.{extends}
use Rattle.lalrpop_grammar.proofs.theory.grammars.Parses.{sentence_tree}
use Rattle.lalrpop_grammar.proofs.theory.runs.Steps.{IsGoing, IsEnding, same_goes, same_ends, Halts, ends_halts, stands_halts, goes_on_from, together}
use Rattle.lalrpop_grammar.proofs.theory.runs.Stacks.{spelled, Stacked, stacked_derives, stacked_empty, stacked_live}
use Rattle.lalrpop_grammar.proofs.theory.runs.Runs.{Did, shifted, reduced_by, stood, did, Tracks, run_tracks, begin_tracks}
use Rattle.lalrpop_grammar.proofs.theory.runs.Sentences.{tree_run}
use Rattle.lalrpop_grammar.proofs.theory.runs.Beginnings.{ComesTo, beginning_shifted}

-- a step makes the input no longer
pub step_shrinks : (states : ℕ → Contents) (c d : Configuration) → move states c ≡ Goes d → length d.rest ≤ length c.rest
step_shrinks states c d e = go (move states c) (did states c) e
  where
    after_goto : (o : Option ℕ) (s : ℕ) (below : List ℕ) (trees : List Tree) → goes_on o s below trees c.rest ≡ Goes d → length d.rest ≤ length c.rest
    after_goto None s below trees k = absurd (subst IsGoing (sym k) tt)
    after_goto (Some n) s below trees k = omega (arith, ap (λ (x : Configuration). length x.rest) (same_goes k))

    after_reduction : (p : Production) (stack : List ℕ) (trees : List Tree) → received states p stack trees c.rest ≡ Goes d → length d.rest ≤ length c.rest
    after_reduction p [] trees k = absurd (subst IsGoing (sym k) tt)
    after_reduction p (s ∷ below) trees k = after_goto ((states s).goto p.nonterminal) s below trees k

    go : (m : Move) → Did states c m → m ≡ Goes d → length d.rest ≤ length c.rest
    go _ (shifted t rest n h k) x =
        let l : length c.rest ≡ suc (length rest) = ap length h in
        let r : length rest ≡ length d.rest = ap (λ (y : Configuration). length y.rest) (same_goes x) in
        omega arith
    go _ (reduced_by p h) x = after_reduction p (drop (length p.symbols) (c.state ∷ c.below)) _ x
    go _ (stood h k) x = absurd (subst IsGoing (sym x) tt)

-- a run makes the input no longer
pub run_shrinks : {states : ℕ → Contents} {n : ℕ} {c d : Configuration} → Reaches states n c d → length d.rest ≤ length c.rest
run_shrinks here = omega arith
run_shrinks {states} (further {c = c} {d} {e} h r) = omega (arith, step_shrinks states c d h, run_shrinks r)

-- a run that halts passes through each configuration that another run reaches
pub passes : {states : ℕ → Contents} {n m : ℕ} {b c d : Configuration} → Reaches states n b c → Halts states c → Reaches states m b d → (k : ℕ) × Reaches states k d c
passes {n = n} r h here = (n, r)
passes {states} (here {c}) h (further {d = d} e s) = absurd (goes_on_from states c d e h)
passes {states} (further {n} {d = c} {e = z} e r) h (further {d = d} f s) = passes (subst (λ x. Reaches states n x z) (same_goes (sym e ∙ f)) r) h s

module _ (g : List Production) (start : NonterminalString) (states : ℕ → Contents) (faithful : AreFaithful g start states) where
  -- the leaves of the trees on a stack are a beginning
  pub stack_begins : {u : List Symbol} {s : ℕ} {below : List ℕ} {trees : List Tree} → Stacked g states u s below trees → IsBeginning g start (spelled trees)
  stack_begins {u} {trees = trees} st = go (stacked_live g start states faithful st)
    where
      go : IsLive g start u → IsBeginning g start (spelled trees)
      go (inl e) = (Nonterminal start ∷ [], Derives-to (ap (λ ts. terminal_symbols (spelled ts) ++ Nonterminal start ∷ []) (sym (stacked_empty st e))) as_it_is)
      go (inr v) = let x = extends v.2 in (drop v.1 (v.0).symbols ++ x.0, Derives-trans x.1 (Derives-right (drop v.1 (v.0).symbols ++ x.0) (stacked_derives st)))

  -- a run that halts without a parse has a next token that is not right
  pub halts_not_right : IsOnNoRightSide g start → (w : List TerminalString) (n : ℕ) (c : Configuration) → Reaches states n (begin w) c → Halts states c → ((t : Tree) → c.rest ≡ [] → move states c ≡ Ends (t ∷ []) → ⊥) → IsRightNext g start (spelled c.trees) c.rest → ⊥
  halts_not_right alone w n c r h no_parse right = go c.rest refl right
    where
      tr : Tracks g states w c
      tr = run_tracks g start states faithful w r (begin_tracks g start states faithful w)

      -- a run that shifts the token goes past it
      past : (t : TerminalString) (rest : List TerminalString) → c.rest ≡ t ∷ rest → ComesTo g start states faithful (begin (spelled c.trees ++ t ∷ rest)) t rest → ⊥
      past t rest e k =
          let input : spelled c.trees ++ t ∷ rest ≡ w = ap (λ l. spelled c.trees ++ l) (sym e) ∙ tr.input in
          let p = passes r h (subst (λ l. Reaches states k.steps (begin l) k.at) input k.run) in
          beyond p.1 refl
        where
          to : Configuration
          to = record { state = k.target; below = (k.at).state ∷ (k.at).below; trees = Leaf t ∷ (k.at).trees; rest = rest }

          goes : move states k.at ≡ Goes to
          goes = ap (moves_on states k.at) k.next ∙ ap (shifts_or states k.at t rest) k.shift

          beyond : {j : ℕ} {d : Configuration} → Reaches states j k.at d → d ≡ c → ⊥
          beyond here i = goes_on_from states k.at to goes (subst (Halts states) (sym i) h)
          beyond (further {d = x} f s) i =
              let l₁ : length (x).rest ≡ length rest = ap (λ (y : Configuration). length y.rest) (same_goes (sym f ∙ goes)) in
              let l₂ = run_shrinks s in
              let l₃ : length c.rest ≡ suc (length rest) = ap length e in
              let l₄ = ap (λ (y : Configuration). length y.rest) i in
              omega (arith, l₁, l₂, l₃, l₄)

      go : (rest : List TerminalString) → c.rest ≡ rest → IsRightNext g start (spelled c.trees) rest → ⊥
      go (t ∷ rest) e b = past t rest e (beginning_shifted g start states faithful (spelled c.trees) t rest b)
      go [] e d =
          let whole : spelled c.trees ≡ w = sym (append-nil (spelled c.trees)) ∙ ap (λ l. spelled c.trees ++ l) (sym e) ∙ tr.input in
          let t = (sentence_tree g start w).0 (subst (IsSentence g start) whole d) in
          let x = tree_run g start states faithful alone w t.0 t.1 in
          let same : c ≡ x.2.last = (together r x.2.run h (ends_halts states x.2.last x.2.ends)).1 in
          no_parse t.0 e (ap (move states) same ∙ x.2.ends)

  -- if a run halts without a parse, the next token is the first wrong one
  pub halts_wrong : IsOnNoRightSide g start → (w : List TerminalString) (n : ℕ) (c : Configuration) → Reaches states n (begin w) c → Halts states c → ((t : Tree) → c.rest ≡ [] → move states c ≡ Ends (t ∷ []) → ⊥) → IsFirstWrong g start w (next_token c.rest)
  halts_wrong alone w n c r h no_parse = go c.rest refl
    where
      tr : Tracks g states w c
      tr = run_tracks g start states faithful w r (begin_tracks g start states faithful w)

      begins : IsBeginning g start (spelled c.trees)
      begins = stack_begins tr.stack

      wrong : (rest : List TerminalString) → c.rest ≡ rest → IsRightNext g start (spelled c.trees) rest → ⊥
      wrong rest e b = halts_not_right alone w n c r h no_parse (subst (IsRightNext g start (spelled c.trees)) (sym e) b)

      go : (rest : List TerminalString) → c.rest ≡ rest → IsFirstWrong g start w (next_token rest)
      go (t ∷ rest) e = at_terminal (spelled c.trees) t rest (sym tr.input ∙ ap (λ l. spelled c.trees ++ l) e) begins (wrong (t ∷ rest) e)
      go [] e =
          let whole : spelled c.trees ≡ w = sym (append-nil (spelled c.trees)) ∙ ap (λ l. spelled c.trees ++ l) (sym e) ∙ tr.input in
          at_end (subst (IsBeginning g start) whole begins) (λ d. wrong [] e (subst (IsSentence g start) (sym whole) d))

  -- a refusal names the first wrong token
  pub refused_wrong : IsOnNoRightSide g start → (w : List TerminalString) (limit s : ℕ) (t : Token) → HasOutcome states w limit (Refused s t) → IsFirstWrong g start w t
  refused_wrong alone w limit _ _ (stuck n c l r e) = halts_wrong alone w n c r (stands_halts states c e) (λ t h k. subst IsEnding (sym k ∙ e) tt)
  refused_wrong alone w limit _ _ (other_end n c trees l r e not_parsed) =
      halts_wrong alone w n c r (ends_halts states c e) (λ t h k. not_parsed t (same_ends (sym e ∙ k), h))
