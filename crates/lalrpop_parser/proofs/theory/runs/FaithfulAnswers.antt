-- From the outcome of a run, what the result says of a grammar to which the states are faithful.
use Rattle.std.proofs.Common.{◌≡◌, ℕ, zero, suc, ◌<◌, ◌≤◌, ◌⊎◌, inl, inr, List, [], ◌∷◌, ◌+◌, true, refl, sym, ap, subst, ◌∙◌, arith}
use Rattle.std.specs.Prelude.{Result, Ok, Err, IfOk, IfErr}
use Rattle.lalrpop_base.specs.Words.{Configuration, begin, Stands, Ends, move, Reaches, here, Outcome, Parsed, Refused, Limit, HasOutcome, cut_off}
use Rattle.lalrpop_base.specs.Words.{IsFirstWrong, IsPromptRefusal, Contents, AreFaithful, IsOnNoRightSide, Tree, beside, no_trees, nodes, IsParseTree}
use Rattle.lalrpop_parser.proofs.Types.{NonterminalString, Production, State, StateIndex, TerminalString}
use Rattle.lr1_theory.proofs.theory.runs.Outcomes.{Came, halted, goes, came, one_outcome}
use Rattle.lr1_theory.proofs.theory.runs.Prompt.{limit_enough, refused_promptly, steps_on_right}
use Rattle.lalrpop_grammar.proofs.theory.runs.Refusals.{refused_wrong}
use Rattle.lalrpop_grammar.proofs.theory.runs.Runs.{answered_is_tree, answered_within}
use Rattle.lalrpop_grammar.proofs.theory.runs.Sentences.{EndsWith, one_tree, tree_parsed, tree_run}
use Rattle.lalrpop_grammar.proofs.theory.runs.Steps.{ends_halts, stands_halts, together}
use Rattle.std.specs.declared.vec.Vec.{Vec}
use Rattle.lalrpop_parser.specs.Words.{ReportsOutcome, IsPartialAnswer, StopsReading, PartialOutcome, Stack, Stop, HasPartialOutcome, all_read, stopped, ForEachGrammar}
use Rattle.lalrpop_parser.specs.Words.{ForEachCanonical, HasEnough, HasOneTree, StepsAreRight, IsTreeWithin, IsCutOff, IsOutcomeFor, AnswersTrees, IfRefused, IfLimit, IsLimit, tree_of}
use Rattle.lalrpop_parser.proofs.theory.runs.Outcomes.{stop_outcome, whole_outcome}
use Rattle.lalrpop_parser.specs.declared.interpret.error.InterpretError.{InterpretError}
use Rattle.lalrpop_parser.specs.declared.interpret.error.InterpretError.TheVariants.{Refused as RefusedBy, Limit as LimitPassed, Memory}
use Rattle.lalrpop_parser.specs.declared.interpret.tree.ParseTree.{ParseTree}

less_or_not : (n m : ℕ) → (n < m) ⊎ (m ≤ n)
less_or_not n zero = inr (omega arith)
less_or_not zero (suc m) = inl (omega arith)
less_or_not (suc n) (suc m) = elim (less_or_not n m) [
  | inl l ↦ inl (omega (arith, l))
  | inr l ↦ inr (omega (arith, l))
]

pub trees_are_one : (table : ℕ → Contents) (w : List TerminalString) → ForEachGrammar table (HasOneTree w)
trees_are_one table w g start faithful alone = one_tree g start table faithful alone w

pub steps_are_right : (table : ℕ → Contents) (w : List TerminalString) → ForEachCanonical table (StepsAreRight table w)
steps_are_right table w g start tokens canonical lr1 alone v rest n c is reached left =
    steps_on_right g start table (λ n p dot t. tokens n p dot t ≡ true) canonical lr1 v rest n c (subst (λ (u : List TerminalString). Reaches table n (begin u) c) is reached) left

pub has_enough : (table : ℕ → Contents) (w : List TerminalString) → ForEachCanonical table (HasEnough table w)
has_enough table w g start tokens canonical lr1 alone = limit_enough g start table (λ n p dot t. tokens n p dot t ≡ true) canonical lr1 alone w

abbrev pub stop_in : Outcome → PartialOutcome → Outcome
stop_in o (Stack states) = o
stop_in o (Stop p) = p

pub stop_same : {o p : Outcome} → Stop o ≡ Stop p → o ≡ p
stop_same {o} e = ap (stop_in o) e

-- a run whose outcome is the limit is cut off
was_cut_off : {table : ℕ → Contents} {w : List TerminalString} {limit : ℕ} {o : Outcome} → HasOutcome table w limit o → o ≡ Limit → IsCutOff table w limit
was_cut_off (cut_off c r another) e = record { last = c; reached = r; another = another }
was_cut_off _ e = cc

module _ {L : Type 0} (table : ℕ → Contents) (states : List (State L)) (w : List TerminalString) (limit : ℕ) where
  -- two outcomes of one run are the same
  same_outcome : (o p : Outcome) → HasOutcome table w limit o → HasOutcome table w limit p → o ≡ p
  same_outcome = one_outcome table w limit

  pub limit_cut_off : (answer : Result ParseTree (InterpretError L)) → ReportsOutcome (HasOutcome table w limit) states answer → IfErr answer (IfLimit (IsCutOff table w limit))
  limit_cut_off (Ok tree) h = tt
  limit_cut_off (Err (RefusedBy state token)) h = tt
  limit_cut_off (Err LimitPassed) h = was_cut_off h refl
  limit_cut_off (Err Memory) h = tt

  pub cut_off_limit : (answer : Result ParseTree (InterpretError L)) → ReportsOutcome (HasOutcome table w limit) states answer → IsCutOff table w limit → IsLimit answer
  cut_off_limit (Ok tree) h k = absurd (let e = same_outcome (Parsed (tree_of tree)) Limit h (cut_off k.last k.reached k.another) in cc)
  cut_off_limit (Err (RefusedBy state token)) h k = absurd (let e = same_outcome (Refused h.0 token) Limit h.2 (cut_off k.last k.reached k.another) in cc)
  cut_off_limit (Err LimitPassed) h k = tt
  cut_off_limit (Err Memory) h k = tt

  pub tree_parses : (answer : Result ParseTree (InterpretError L)) → ReportsOutcome (HasOutcome table w limit) states answer → IfOk answer (λ tree. ForEachGrammar table (IsTreeWithin limit w (tree_of tree)))
  tree_parses (Ok tree) h = λ g start faithful alone. record {
    parse = answered_is_tree g start table faithful w (tree_of tree) limit h;
    within = answered_within g start table faithful alone w (tree_of tree) limit h;
  }
  tree_parses (Err e) h = tt

  -- a list with a parse tree of more nodes than the limit is cut off
  cut_off_before : (g : List Production) (start : NonterminalString) → AreFaithful g start table → IsOnNoRightSide g start → (t : Tree) → IsParseTree g start w t → limit < nodes (beside t no_trees) → HasOutcome table w limit Limit
  cut_off_before g start faithful alone t parse l = go (came table limit (begin w))
    where
      run : (n : ℕ) × (nodes (beside t no_trees) ≡ suc n) × EndsWith table w t n
      run = tree_run g start table faithful alone w t parse

      go : Came table (begin w) limit → HasOutcome table w limit Limit
      go (halted m c early r h) =
          let same : m ≡ run.0 = (together r run.2.run h (ends_halts table run.2.last run.2.ends)).0 in
          let counted : nodes (beside t no_trees) ≡ suc run.0 = run.1 in
          absurd (omega (arith, same, counted))
      go (goes c r) = cut_off c r (not_stands c r)
        where
          not_stands : (c : Configuration) → Reaches table limit (begin w) c → move table c ≡ Stands → ⊥
          not_stands c r e =
              let same : c ≡ run.2.last = (together r run.2.run (stands_halts table c e) (ends_halts table run.2.last run.2.ends)).1 in
              let ends : move table c ≡ Ends (t ∷ []) = ap (move table) same ∙ run.2.ends in
              let k : Stands ≡ Ends (t ∷ []) = sym e ∙ ends in
              cc

  answer_within : (t : Tree) → nodes (beside t no_trees) ≤ limit → HasOutcome table w limit (Parsed t) → (answer : Result ParseTree (InterpretError L)) → ReportsOutcome (HasOutcome table w limit) states answer →
      ReportsOutcome (IsOutcomeFor t limit) states answer
  answer_within t l k (Ok tree) h = let e = same_outcome (Parsed (tree_of tree)) (Parsed t) h k in (cc, l)
  answer_within t l k (Err (RefusedBy state token)) h = absurd (let e = same_outcome (Refused h.0 token) (Parsed t) h.2 k in cc)
  answer_within t l k (Err LimitPassed) h = absurd (let e = same_outcome Limit (Parsed t) h k in cc)
  answer_within t l k (Err Memory) h = tt

  answer_beyond : (t : Tree) → limit < nodes (beside t no_trees) → HasOutcome table w limit Limit → (answer : Result ParseTree (InterpretError L)) → ReportsOutcome (HasOutcome table w limit) states answer →
      ReportsOutcome (IsOutcomeFor t limit) states answer
  answer_beyond t l k (Ok tree) h = absurd (let e = same_outcome (Parsed (tree_of tree)) Limit h k in cc)
  answer_beyond t l k (Err (RefusedBy state token)) h = absurd (let e = same_outcome (Refused h.0 token) Limit h.2 k in cc)
  answer_beyond t l k (Err LimitPassed) h = l
  answer_beyond t l k (Err Memory) h = tt

  -- each list with a parse tree has its result
  pub answers_trees : (answer : Result ParseTree (InterpretError L)) → ReportsOutcome (HasOutcome table w limit) states answer → ForEachGrammar table (AnswersTrees limit w states answer)
  answers_trees answer h g start faithful alone t parse = elim (less_or_not limit (nodes (beside t no_trees))) [
    | inl l ↦ answer_beyond t l (cut_off_before g start faithful alone t parse l) answer h
    | inr l ↦ answer_within t l (tree_parsed g start table faithful alone w t limit parse l) answer h
  ]

  pub refusal_wrong : (answer : Result ParseTree (InterpretError L)) → ReportsOutcome (HasOutcome table w limit) states answer → IfErr answer (IfRefused (λ _ token. ForEachGrammar table (λ g start. IsFirstWrong g start w token)) states)
  refusal_wrong (Ok tree) h = tt
  refusal_wrong (Err (RefusedBy state token)) h = (h.0, h.1, λ g start faithful alone. refused_wrong g start table faithful alone w limit h.0 token h.2)
  refusal_wrong (Err LimitPassed) h = tt
  refusal_wrong (Err Memory) h = tt

  pub refusal_prompt : (answer : Result ParseTree (InterpretError L)) → ReportsOutcome (HasOutcome table w limit) states answer → IfErr answer (IfRefused (λ s token. ForEachCanonical table (λ g start. IsPromptRefusal g start table w s token)) states)
  refusal_prompt (Ok tree) h = tt
  refusal_prompt (Err (RefusedBy state token)) h = (h.0, h.1, λ g start tokens canonical lr1 alone. refused_promptly g start table (λ n p dot t. tokens n p dot t ≡ true) canonical lr1 alone w limit h.0 token h.2)
  refusal_prompt (Err LimitPassed) h = tt
  refusal_prompt (Err Memory) h = tt

  -- a stop of a run without the end of the input is an outcome of the whole run
  pub stop_is_outcome : (o : Outcome) → HasPartialOutcome table (begin w) limit (Stop o) → HasOutcome table w limit o
  stop_is_outcome o h = go (Stop o) o h refl
    where
      go : (p : PartialOutcome) (o : Outcome) → HasPartialOutcome table (begin w) limit p → p ≡ Stop o → HasOutcome table w limit o
      go _ o (all_read n c l r e) same = cc
      go _ o (stopped q k) same = whole_outcome {k = 0} here (let whole : 0 + limit ≡ limit = omega arith in whole) (stop_outcome (subst (StopsReading table (begin w) limit) (stop_same same) k))

  pub stop_limit : {A : Type 0} (answer : Result (Vec StateIndex A) (InterpretError L)) → IsPartialAnswer (HasPartialOutcome table (begin w) limit) states answer → IfErr answer (IfLimit (IsCutOff table w limit))
  stop_limit (Ok stack) h = tt
  stop_limit (Err (RefusedBy state token)) h = tt
  stop_limit (Err LimitPassed) h = was_cut_off (stop_is_outcome Limit h) refl
  stop_limit (Err Memory) h = tt

  pub stop_wrong : {A : Type 0} (answer : Result (Vec StateIndex A) (InterpretError L)) → IsPartialAnswer (HasPartialOutcome table (begin w) limit) states answer → IfErr answer (IfRefused (λ _ token. ForEachGrammar table (λ g start. IsFirstWrong g start w token)) states)
  stop_wrong (Ok stack) h = tt
  stop_wrong (Err (RefusedBy state token)) h = (h.0, h.1, λ g start faithful alone. refused_wrong g start table faithful alone w limit h.0 token (stop_is_outcome (Refused h.0 token) h.2))
  stop_wrong (Err LimitPassed) h = tt
  stop_wrong (Err Memory) h = tt
