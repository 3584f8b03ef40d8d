-- Over faithful states the configurations of a run that have the same rest, and the same token as a
-- right one, are within a bounded number of steps. The run that has this token next passes through
-- their stacks, before it shifts the token or ends.
use Rattle.std.proofs.Common.{◌≡◌, ℕ, ◌+◌, ◌<◌, ◌≤◌, List, [], ◌∷◌, ◌++◌, append-nil, length, sym, subst, refl, ap, ◌∙◌, arith}
use Rattle.std.proofs.lemmas.List.{append_cancel_right}
use Rattle.lalrpop_grammar.specs.declared.lookahead.token.Token.{Token}
use Rattle.lalrpop_grammar.specs.declared.lookahead.token.Token.TheVariants.{Eof, Error, Terminal as TokenOf}
use Rattle.lalrpop_grammar.specs.declared.repr.NonterminalString.{NonterminalString}
use Rattle.lalrpop_grammar.specs.declared.repr.Production.{Production}
use Rattle.lalrpop_grammar.specs.declared.repr.Symbol.{Symbol}
use Rattle.lalrpop_grammar.specs.declared.repr.TerminalString.{TerminalString}
use Rattle.lalrpop_grammar.specs.Words.{AreFaithful, Configuration, Contents, Goes, IsOnNoRightSide, Leaf, Reaches, begin, further, here, move, moves_on, next_token, shifts_or}
use Rattle.lalrpop_grammar.proofs.theory.grammars.Parses.{sentence_tree}
use Rattle.lalrpop_grammar.proofs.theory.runs.Beginnings.{ComesTo, beginning_shifted}
use Rattle.lalrpop_grammar.proofs.theory.runs.Refusals.{run_shrinks}
use Rattle.lalrpop_grammar.proofs.theory.runs.Runs.{Tracks, begin_tracks, run_tracks}
use Rattle.lalrpop_grammar.proofs.theory.runs.Sentences.{tree_run}
use Rattle.lalrpop_grammar.proofs.theory.runs.Stacks.{Stacked, spelled}
use Rattle.lalrpop_grammar.proofs.theory.runs.Steps.{ends_halts, no_longer, same_goes}
use Rattle.run_lengths.proofs.Counting.{counted, run_counts}
use Rattle.run_lengths.proofs.Following.{Follows, by_first, by_valid, follows_right}
use Rattle.run_lengths.proofs.Passing.{IsPassed, first_passed, terminal_next, valid_passed}

-- a run comes to no configuration with input left, after the step that leaves no input
no_later : {states : ℕ → Contents} {m n : ℕ} {b at to d : Configuration} → Reaches states m b at → move states at ≡ Goes to → to.rest ≡ [] → Reaches states n b d → 0 < length d.rest → n ≤ m
no_later r goes used here l = omega arith
no_later here goes used (further {d = x} e s) l =
    let none : length (x).rest ≡ 0 = ap (λ (y : Configuration). length y.rest) (same_goes (sym e ∙ goes)) ∙ ap length used in
    absurd (omega (arith, run_shrinks s, none, l))
no_later {states} (further {n = m} {d = y} {e = at} f r) goes used (further {n} {d = x} {e = d} e s) l =
    let k = no_later r goes used (subst (λ z. Reaches states n z d) (same_goes (sym e ∙ f)) s) l in
    omega (arith, k)

module _ (g : List Production) (start : NonterminalString) (states : ℕ → Contents) (faithful : AreFaithful g start states) where
  -- a configuration has a stack for a prefix, and the token follows a dotted production that is
  -- valid for the prefix
  pub record HasNext (c : Configuration) (token : Token) : Type 0 where
    pub prefix : List Symbol
    pub production : Production
    pub dot : ℕ
    pub stack : Stacked g states prefix c.state c.below c.trees
    pub follows : Follows g start prefix production dot token

  -- the run that has the token next passes through the stack
  next_passed : (c : Configuration) (token : Token) → HasNext c token → (rest : List TerminalString) → next_token rest ≡ token → IsPassed states c.state c.below c.trees rest
  next_passed c token h rest same = go token h.follows same
    where
      go : (t : Token) → Follows g start h.prefix h.production h.dot t → next_token rest ≡ t → IsPassed states c.state c.below c.trees rest
      go _ (by_first t v f) e =
          let k = terminal_next rest t e in
          subst (IsPassed states c.state c.below c.trees) (sym k.1) (first_passed g start states faithful v h.stack t k.0 f)
      go _ (by_valid t v n) e = valid_passed g start states faithful v h.stack rest e n

  module _ (w : List TerminalString) where
    -- the configurations of the run of w that have this rest and this right token are within so many
    -- steps
    abbrev pub IsBound : List TerminalString → Token → ℕ → Type 0
    IsBound rest token m = (n : ℕ) (c : Configuration) → Reaches states n (begin w) c → c.rest ≡ rest → HasNext c token → n ≤ m

    -- a configuration of the run, with the list that is read up to the rest, and the steps
    record IsReadTo (n : ℕ) (c : Configuration) (v : List TerminalString) : Type 0 where
      read : spelled c.trees ≡ v
      steps : counted c.trees ≡ n

    -- two configurations with one rest have read the same list
    read_to : (rest : List TerminalString) (n m : ℕ) (c d : Configuration) → Reaches states n (begin w) c → c.rest ≡ rest → Reaches states m (begin w) d → d.rest ≡ rest → IsReadTo m d (spelled c.trees)
    read_to rest n m c d r e s f =
        let first : Tracks g states w c = run_tracks g start states faithful w r (begin_tracks g start states faithful w) in
        let second : Tracks g states w d = run_tracks g start states faithful w s (begin_tracks g start states faithful w) in
        let whole : spelled d.trees ++ rest ≡ spelled c.trees ++ rest = ap (λ l. spelled d.trees ++ l) (sym f) ∙ second.input ∙ sym first.input ∙ ap (λ l. spelled c.trees ++ l) e in
        let count = run_counts g start states faithful w s (begin_tracks g start states faithful w) in
        record { read = append_cancel_right (spelled d.trees) (spelled c.trees) rest whole; steps = omega (arith, count) }

    -- the run of what is read and the token comes to the stack after as many steps
    token_run : (v : List TerminalString) (rest : List TerminalString) (n : ℕ) (c : Configuration) → IsReadTo n c v → IsPassed states c.state c.below c.trees rest → Reaches states n (begin (v ++ rest)) (record { state = c.state; below = c.below; trees = c.trees; rest = rest })
    token_run v rest n c k r =
        subst (λ m. Reaches states m (begin (v ++ rest)) (record { state = c.state; below = c.below; trees = c.trees; rest = rest })) k.steps
        (subst (λ l. Reaches states (counted c.trees) (begin (l ++ rest)) (record { state = c.state; below = c.below; trees = c.trees; rest = rest })) k.read r)

    -- a right terminal gives the number of the step that shifts it after what was read
    terminal_bound : (t : TerminalString) (n : ℕ) (c : Configuration) → Reaches states n (begin w) c → HasNext c (TokenOf t) → (m : ℕ) × IsBound c.rest (TokenOf t) m
    terminal_bound t n c r h = (
      k.steps,
      λ m d s e next.
          no_later k.run goes refl (token_run (spelled c.trees) (t ∷ []) m d (read_to c.rest n m c d r refl s e) (next_passed d (TokenOf t) next (t ∷ []) refl)) (omega arith),
    )
      where
        k : ComesTo g start states faithful (begin (spelled c.trees ++ t ∷ [])) t []
        k = beginning_shifted g start states faithful (spelled c.trees) t [] (follows_right g start h.stack h.follows)

        to : Configuration
        to = record { state = k.target; below = (k.at).state ∷ (k.at).below; trees = Leaf t ∷ (k.at).trees; rest = [] }

        goes : move states k.at ≡ Goes to
        goes = ap (moves_on states k.at) k.next ∙ ap (shifts_or states k.at t []) k.shift

    -- Eof as the right token gives the number of the last step of what was read
    end_bound : IsOnNoRightSide g start → (n : ℕ) (c : Configuration) → Reaches states n (begin w) c → HasNext c Eof → (m : ℕ) × IsBound c.rest Eof m
    end_bound alone n c r h =
        let t = (sentence_tree g start (spelled c.trees)).0 (follows_right g start h.stack h.follows) in
        let x = tree_run g start states faithful alone (spelled c.trees) t.0 t.1 in (
          x.0,
          λ m d s e next.
              no_longer x.2.run (ends_halts states x.2.last x.2.ends)
              (subst (λ l. Reaches states m (begin l) (record { state = d.state; below = d.below; trees = d.trees; rest = [] })) (append-nil (spelled c.trees))
              (token_run (spelled c.trees) [] m d (read_to c.rest n m c d r refl s e) (next_passed d Eof next [] refl))),
        )

    -- a configuration with a right token gives such a number of steps
    pub next_bound : IsOnNoRightSide g start → (token : Token) (n : ℕ) (c : Configuration) → Reaches states n (begin w) c → HasNext c token → (m : ℕ) × IsBound c.rest token m
    next_bound alone Eof n c r h = end_bound alone n c r h
    next_bound alone Error n c r h = absurd (follows_right g start h.stack h.follows)
    next_bound alone (TokenOf t) n c r h = terminal_bound t n c r h
