-- Each run over faithful states ends, if each reachable nonterminal is nullable or has a terminal in
-- FIRST. Each configuration of a run has a right token, and so a bound for all configurations with
-- that token and the same rest. There are finitely many tokens and rests.
use Rattle.std.proofs.Common.{◌≡◌, ℕ, zero, suc, ◌+◌, ◌≤◌, ◌⊎◌, inl, inr, List, [], ◌∷◌, length, refl, subst, arith}
use Rattle.std.specs.Prelude.{Contains}
use Rattle.lalrpop_grammar.specs.declared.repr.NonterminalString.{NonterminalString}
use Rattle.lalrpop_grammar.specs.declared.repr.Production.{Production}
use Rattle.lalrpop_grammar.specs.declared.repr.Symbol.TheVariants.{Nonterminal, Terminal}
use Rattle.lalrpop_grammar.specs.declared.repr.TerminalString.{TerminalString}
use Rattle.lalrpop_grammar.specs.declared.lookahead.token.Token.{Token}
use Rattle.lalrpop_grammar.specs.Words.{AreFaithful, Configuration, Contents, Derives, HasOutcome, IsOnNoRightSide, IsRightFor, Limit, Move, Reaches, Stands, Valid, begin, cut_off, move, next_token, terminal_symbols}
use Rattle.lalrpop_grammar.proofs.theory.runs.Reading.{right_at}
use Rattle.lalrpop_grammar.proofs.theory.runs.Runs.{Did, Tracks, begin_tracks, did, reduced_by, reduction_holds, run_tracks, shifted, stood}
use Rattle.lalrpop_grammar.proofs.theory.runs.Stacks.{spelled, stacked_after, stacked_live}
use Rattle.lalrpop_grammar.proofs.theory.runs.Steps.{no_longer, stands_halts}
use Rattle.lalrpop_grammar.proofs.theory.states.RightStates.{edges_awaited, reductions_valid}
use Rattle.lr1_theory.proofs.theory.runs.Outcomes.{Came, came, goes, halted}
use Rattle.lr1_theory.proofs.theory.runs.Prompt.{Finishes}
use Rattle.lalrpop_parser.specs.Words.{ForEachGrammar, HasEnough}
use Rattle.lalrpop_useful.specs.Words.{IsProductive, IsReachable}
use Rattle.run_lengths.specs.Laws.{IsNullableOrHasFirst}
use Rattle.run_lengths.proofs.Bounds.{HasNext, IsBound, next_bound}
use Rattle.run_lengths.proofs.Following.{follows}
use Rattle.run_lengths.proofs.Keys.{Key, Without, contains_key, follows_known, keys, tokens_in, without}

module _ (g : List Production) (start : NonterminalString) (states : ℕ → Contents) (faithful : AreFaithful g start states) (alone : IsOnNoRightSide g start) (all : (a : NonterminalString) → IsReachable g start a → IsNullableOrHasFirst g a) (w : List TerminalString) where
  -- a configuration with a move has a valid dotted production, or it stands
  valid_or_stands : (c : Configuration) (tr : Tracks g states w c) → ((p : Production) × (dot : ℕ) × Valid g start tr.prefix p dot) ⊎ (move states c ≡ Stands)
  valid_or_stands c tr = go (move states c) (did states c)
    where
      r : IsRightFor g start tr.prefix (states c.state)
      r = right_at g start states faithful tr.prefix c.state (stacked_live g start states faithful tr.stack) (stacked_after tr.stack)

      go : (m : Move) → Did states c m → ((p : Production) × (dot : ℕ) × Valid g start tr.prefix p dot) ⊎ (m ≡ Stands)
      go _ (shifted t rest n h k) = let a = (edges_awaited r.contents (Terminal t)).0 (n, k) in inl (a.production, a.dot, a.valid)
      go _ (reduced_by p h) =
          let k = reduction_holds (states c.state).reductions (next_token c.rest) p h in
          inl (p, length p.symbols, (reductions_valid r.contents p).0 (k.0, k.1, k.2))
      go _ (stood h k) = inr refl

  -- the bound of a key
  abbrev HasBound : ℕ → Key → Type 0
  HasBound m k = IsBound g start states faithful w k.rest k.token m

  -- each key has the bound, or is one of those that are left
  abbrev AreLeft : List Key → ℕ → Type 0
  AreLeft left bound = (k : Key) → Contains (keys (tokens_in g) w) k → Contains left k ⊎ HasBound bound k

  -- the run goes past the bound: it ends, or comes to a configuration whose key is left
  goes_past : (left : List Key) (bound : ℕ) → AreLeft left bound → ((k : Key) (m : ℕ) → Contains left k → HasBound m k → Finishes states w) → Finishes states w
  goes_past left bound cover more = go (came states (suc bound) (begin w))
    where
      at_token : (c : Configuration) → Reaches states (suc bound) (begin w) c → (tr : Tracks g states w c) → (token : Token) → HasNext g start states faithful c token → Contains (tokens_in g) token → Finishes states w
      at_token c r tr token next known =
          let there : Contains (keys (tokens_in g) w) (record { rest = c.rest; token = token }) = subst (λ l. Contains (keys (tokens_in g) l) (record { rest = c.rest; token = token })) tr.input (contains_key (tokens_in g) token known (spelled c.trees) c.rest) in
          elim (cover (record { rest = c.rest; token = token }) there) [
            | inr b ↦ let l : suc bound ≤ bound = b (suc bound) c r refl next in absurd (omega (arith, l))
            | inl i ↦ let m = next_bound g start states faithful w alone token (suc bound) c r next in more (record { rest = c.rest; token = token }) m.0 i m.1
          ]

      at : (c : Configuration) → Reaches states (suc bound) (begin w) c → Tracks g states w c → Finishes states w
      at c r tr = elim (valid_or_stands c tr) [
        | inr s ↦ record { steps = suc bound; at = c; run = r; halts = stands_halts states c s }
        | inl v ↦
            let f = follows g start all v.2 in
            at_token c r tr f.0 (record { prefix = tr.prefix; production = v.0; dot = v.1; stack = tr.stack; follows = f.1 }) (follows_known f.1)
      ]

      go : Came states (begin w) (suc bound) → Finishes states w
      go (halted m c l r h) = record { steps = m; at = c; run = r; halts = h }
      go (goes c r) = at c r (run_tracks g start states faithful w r (begin_tracks g start states faithful w))

  -- with one key fewer left, the bound is greater
  one_fewer : (left : List Key) (bound : ℕ) → AreLeft left bound → (k : Key) (m : ℕ) → HasBound m k → (x : Without left k) → AreLeft x.others (bound + m)
  one_fewer left bound cover k m b x other h = elim (cover other h) [
    | inr b' ↦ inr (λ n c r e next. let l = b' n c r e next in omega (arith, l))
    | inl i ↦ elim (x.remains other i) [
      | inl e ↦ inr (subst (HasBound (bound + m)) e (λ n c r e next. let l = b n c r e next in omega (arith, l)))
      | inr o ↦ inl o
    ]
  ]

  -- the run ends if so many keys are left
  finishes : (count : ℕ) (left : List Key) (bound : ℕ) → length left ≤ count → AreLeft left bound → Finishes states w
  finishes zero left bound l cover = goes_past left bound cover (λ k m i b. absurd (omega (arith, i.1, l)))
  finishes (suc count) left bound l cover = goes_past left bound cover (λ k m i b.
      let x = without left k i in
      finishes count x.others (bound + m) (omega (arith, x.shorter, l)) (one_fewer left bound cover k m b x))

  -- from some limit on, the limit is not the outcome
  enough : (e : ℕ) × ((limit : ℕ) → e ≤ limit → HasOutcome states w limit Limit → ⊥)
  enough = (suc f.steps, λ limit l o. cut limit l o)
    where
      f : Finishes states w
      f = finishes (length (keys (tokens_in g) w)) (keys (tokens_in g) w) 0 (omega arith) (λ k h. inl h)

      cut : (limit : ℕ) → suc f.steps ≤ limit → HasOutcome states w limit Limit → ⊥
      cut limit l (cut_off c r h) = let k = no_longer f.run f.halts r in omega (arith, k, l)

-- over faithful states each run ends, if each reachable nonterminal is nullable or has a terminal in
-- FIRST
pub runs_end : (states : ℕ → Contents) (w : List TerminalString) → ForEachGrammar states (λ g start. ((a : NonterminalString) → IsReachable g start a → IsNullableOrHasFirst g a) → HasEnough states w g start)
runs_end states w g start faithful alone all = enough g start states faithful alone all w

-- a productive nonterminal is nullable or has a terminal in FIRST
productive_begins : (g : List Production) (a : NonterminalString) → IsProductive g a → IsNullableOrHasFirst g a
productive_begins g a h = go h.0 h.1
  where
    go : (v : List TerminalString) → Derives g (Nonterminal a ∷ []) (terminal_symbols v) → IsNullableOrHasFirst g a
    go [] d = inl d
    go (t ∷ v) d = inr (t, (terminal_symbols v, d))

-- so each run ends if each reachable nonterminal is productive
pub productive_runs_end : (states : ℕ → Contents) (w : List TerminalString) → ForEachGrammar states (λ g start. ((a : NonterminalString) → IsReachable g start a → IsProductive g a) → HasEnough states w g start)
productive_runs_end states w g start faithful alone all = runs_end states w g start faithful alone (λ a h. productive_begins g a (all a h))
