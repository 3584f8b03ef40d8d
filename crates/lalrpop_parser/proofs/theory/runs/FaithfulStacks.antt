-- The stack that is left when all terminals are read, if the states are faithful to a grammar.
use Rattle.std.proofs.Common.{◌≡◌, ℕ, List, [], ◌∷◌, ◌++◌, map, refl, sym, ap, subst, ◌∙◌, append_assoc, append-nil}
use Rattle.std.specs.Prelude.{Result, Ok, Err, IfOk}
use Rattle.std.specs.declared.vec.Vec.{Vec}
use Rattle.std.proofs.lemmas.List.{map-append}
use Rattle.lalrpop_base.specs.Words.{number_of, IsBeginning, terminal_symbols, Derives, Configuration, begin, Reaches, Outcome, Refused, IsFirstWrong, at_terminal}
use Rattle.lalrpop_base.specs.Words.{at_end, Contents, AreFaithful}
use Rattle.lalrpop_parser.proofs.Types.{NonterminalString, Production, State, StateIndex, TerminalString, Token}
use Rattle.lalrpop_grammar.specs.declared.lookahead.token.Token.TheVariants.{Eof, Terminal as TokenOf}
use Rattle.lalrpop_grammar.specs.declared.repr.Symbol.TheVariants.{Nonterminal, Terminal}
use Rattle.lalrpop_grammar.proofs.theory.runs.Refusals.{stack_begins, refused_wrong}
use Rattle.lalrpop_grammar.proofs.theory.runs.Runs.{Tracks, run_tracks, begin_tracks}
use Rattle.lalrpop_grammar.proofs.theory.runs.Stacks.{spelled}
use Rattle.lalrpop_parser.specs.Words.{IsPartialAnswer, ForEachGrammar, TakesBeginning, StopsReading, stuck, early_end, cut_off, PartialOutcome, Stack, Stop}
use Rattle.lalrpop_parser.specs.Words.{HasPartialOutcome, all_read, stopped}
use Rattle.lalrpop_parser.specs.declared.interpret.error.InterpretError.{InterpretError}
use Rattle.lalrpop_parser.specs.declared.interpret.error.InterpretError.TheVariants.{Refused as RefusedBy, Limit as LimitPassed, Memory}
use Rattle.lalrpop_parser.proofs.theory.runs.FaithfulAnswers.{stop_same, stop_is_outcome}
use Rattle.lalrpop_parser.proofs.theory.runs.Outcomes.{reads_reaches}

-- if a list is a beginning, so is each shorter one
shorter_beginning : (g : List Production) (start : NonterminalString) (before : List TerminalString) (t : TerminalString) (after : List TerminalString) → IsBeginning g start (before ++ t ∷ after) → IsBeginning g start (before ++ t ∷ [])
shorter_beginning g start before t after h =
    let whole : terminal_symbols (before ++ t ∷ after) ++ h.0 ≡ terminal_symbols (before ++ t ∷ []) ++ (terminal_symbols after ++ h.0) =
    ap (λ l. l ++ h.0) (map-append Terminal before (t ∷ after))
    ∙ append_assoc (terminal_symbols before) (Terminal t ∷ terminal_symbols after) h.0
    ∙ sym (append_assoc (terminal_symbols before) (Terminal t ∷ []) (terminal_symbols after ++ h.0))
    ∙ ap (λ l. l ++ (terminal_symbols after ++ h.0)) (sym (map-append Terminal before (t ∷ []))) in
    (terminal_symbols after ++ h.0, subst (λ l. Derives g (Nonterminal start ∷ []) l) whole h.1)

abbrev token_in : Token → Outcome → Token
token_in t (Refused s u) = u
token_in t _ = t

-- a run that stops while terminals are left is refused at one of them
stop_terminal : {table : ℕ → Contents} {b : Configuration} {limit : ℕ} {o : Outcome} → StopsReading table b limit o → (s : ℕ) (token : Token) → o ≡ Refused s token → token ≡ Eof → ⊥
stop_terminal (stuck n c t rest l r i e) s token same k = let h : TokenOf t ≡ token = ap (token_in Eof) same in cc
stop_terminal (early_end n c trees t rest l r i e) s token same k = let h : TokenOf t ≡ token = ap (token_in Eof) same in cc
stop_terminal (cut_off c t rest r i e) s token same k = cc

module _ {L : Type 0} (table : ℕ → Contents) (states : List (State L)) (w : List TerminalString) (limit : ℕ) where
  -- if a stack is left, the whole list is a beginning
  stack_beginning : (g : List Production) (start : NonterminalString) → AreFaithful g start table → (n : ℕ) (c : Configuration) → Reaches table n (begin w) c → c.rest ≡ [] → IsBeginning g start w
  stack_beginning g start faithful n c r e =
      let tr : Tracks g table w c = run_tracks g start table faithful w r (begin_tracks g start table faithful w) in
      subst (IsBeginning g start) (sym (append-nil (spelled c.trees)) ∙ ap (λ l. spelled c.trees ++ l) (sym e) ∙ tr.input) (stack_begins g start table faithful tr.stack)

  left_begun : (g : List Production) (start : NonterminalString) → AreFaithful g start table → (p : PartialOutcome) (l : List ℕ) → HasPartialOutcome table (begin w) limit p → p ≡ Stack l → IsBeginning g start w
  left_begun g start faithful _ l (all_read n c b r e) same = stack_beginning g start faithful n c (reads_reaches r) e
  left_begun g start faithful _ l (stopped o k) same = cc

  pub stack_begun : {A : Type 0} (answer : Result (Vec StateIndex A) (InterpretError L)) → IsPartialAnswer (HasPartialOutcome table (begin w) limit) states answer → IfOk answer (λ _. ForEachGrammar table (λ g start. IsBeginning g start w))
  stack_begun (Ok stack) h = λ g start faithful alone. left_begun g start faithful (Stack (map number_of stack.items)) (map number_of stack.items) h refl
  stack_begun (Err e) h = tt

  not_at_end : (p : PartialOutcome) (s : ℕ) (token : Token) → HasPartialOutcome table (begin w) limit p → p ≡ Stop (Refused s token) → token ≡ Eof → ⊥
  not_at_end _ s token (all_read n c b r e) same = cc
  not_at_end _ s token (stopped o k) same = stop_terminal k s token (stop_same same)

  nothing_wrong : (g : List Production) (start : NonterminalString) (token : Token) → IsFirstWrong g start w token → IsBeginning g start w → (token ≡ Eof → ⊥) → ⊥
  nothing_wrong g start _ (at_terminal before t after e b wrong) begins other = wrong (shorter_beginning g start before t after (subst (IsBeginning g start) e begins))
  nothing_wrong g start _ (at_end b wrong) begins other = other refl

  -- a beginning is not refused
  pub takes_beginning : {A : Type 0} (answer : Result (Vec StateIndex A) (InterpretError L)) → IsPartialAnswer (HasPartialOutcome table (begin w) limit) states answer → ForEachGrammar table (TakesBeginning w answer)
  takes_beginning (Ok stack) h = λ g start faithful alone begins. tt
  takes_beginning (Err (RefusedBy state token)) h = λ g start faithful alone begins.
      nothing_wrong g start token (refused_wrong g start table faithful alone w limit h.0 token (stop_is_outcome table states w limit (Refused h.0 token) h.2)) begins
      (not_at_end (Stop (Refused h.0 token)) h.0 token h.2 refl)
  takes_beginning (Err LimitPassed) h = λ g start faithful alone begins. tt
  takes_beginning (Err Memory) h = λ g start faithful alone begins. tt
