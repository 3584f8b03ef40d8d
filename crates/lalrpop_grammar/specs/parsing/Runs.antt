-- Runs of the parser over given states: the LR parsing algorithm of Aho, Sethi and Ullman, section
-- 4.7. In this project's form a run has a limit of steps. It ends at a reduction without a goto,
-- and not at an accepting entry.
use Rattle.std.specs.Prelude.{◌≡◌, ◌≢◌, ℕ, suc, ◌<◌, ◌≤◌, cond, List, [], ◌∷◌, ◌++◌, length, take, drop, reverse, Option, Some, None}
use Rattle.lalrpop_grammar.specs.declared.repr.NonterminalString.{NonterminalString}
use Rattle.lalrpop_grammar.specs.declared.repr.TerminalString.{TerminalString}
use Rattle.lalrpop_grammar.specs.declared.repr.Production.{Production}
use Rattle.lalrpop_grammar.specs.declared.lookahead.token.Token.{Token}
use Rattle.lalrpop_grammar.specs.declared.lookahead.token.Token.TheVariants.{Eof, Terminal as TokenOf}
use Rattle.lalrpop_grammar.specs.grammars.Grammar.{IsBeginning, IsSentence}
use Rattle.lalrpop_grammar.specs.states.States.{Contents, Reduction}
use Rattle.lalrpop_grammar.specs.parsing.Trees.{Tree, Leaf, Node, trees_of}

-- a configuration is a stack of states, with the top one apart, the trees over the stack, newest
-- first, and the rest of the input
pub record Configuration : Type 0 where
  pub state : ℕ
  pub below : List ℕ
  pub trees : List Tree
  pub rest : List TerminalString

-- the next token of the input
abbrev pub next_token : List TerminalString → Token
next_token [] = Eof
next_token (t ∷ rest) = TokenOf t

-- the first reduction that holds a token
abbrev pub reduction_on : List Reduction → Token → Option Production
reduction_on [] t = None
reduction_on (r ∷ rs) t = cond (r.holds t) (Some r.production) (reduction_on rs t)

-- a move is no step, a step to a configuration, or a final step with the trees that it leaves
pub data Move : Type 0 where
  Stands : Move
  Goes : Configuration → Move
  Ends : List Tree → Move

-- the trees after a reduction: its node is over the children
abbrev pub reduced : Production → List Tree → List Tree
reduced p trees = Node p.nonterminal (trees_of (reverse (take (length p.symbols) trees))) ∷ drop (length p.symbols) trees

-- a reduction goes on from the state that is then on top of the stack, if it has a goto. Otherwise
-- the reduction is final
abbrev pub goes_on : Option ℕ → ℕ → List ℕ → List Tree → List TerminalString → Move
goes_on None s below trees rest = Ends trees
goes_on (Some n) s below trees rest = Goes (record { state = n; below = s ∷ below; trees = trees; rest = rest })

-- the move of a reduction that leaves a stack. If the stack is empty, the reduction is final too
abbrev pub received : (ℕ → Contents) → Production → List ℕ → List Tree → List TerminalString → Move
received states p [] trees rest = Ends trees
received states p (s ∷ below) trees rest = goes_on ((states s).goto p.nonterminal) s below trees rest

-- the move by a reduction, if there is one
abbrev pub reduces : (ℕ → Contents) → Configuration → Option Production → Move
reduces states c None = Stands
reduces states c (Some p) = received states p (drop (length p.symbols) (c.state ∷ c.below)) (reduced p c.trees) c.rest

-- a shift if the top state has one for the next token, and otherwise its first reduction that holds
-- the token
abbrev pub shifts_or : (ℕ → Contents) → Configuration → TerminalString → List TerminalString → Option ℕ → Move
shifts_or states c t rest (Some n) = Goes (record { state = n; below = c.state ∷ c.below; trees = Leaf t ∷ c.trees; rest = rest })
shifts_or states c t rest None = reduces states c (reduction_on (states c.state).reductions (TokenOf t))

-- the move on the rest of the input. At the end of the input it is the first reduction on Eof
abbrev pub moves_on : (ℕ → Contents) → Configuration → List TerminalString → Move
moves_on states c [] = reduces states c (reduction_on (states c.state).reductions Eof)
moves_on states c (t ∷ rest) = shifts_or states c t rest ((states c.state).shift t)

-- the move from a configuration
abbrev pub move : (ℕ → Contents) → Configuration → Move
move states c = moves_on states c c.rest

-- n steps, none of them final, lead from one configuration to another
pub data Reaches (states : ℕ → Contents) : ℕ → Configuration → Configuration → Type 0 where
  here : {c : Configuration} → Reaches states 0 c c
  further : {n : ℕ} {c d e : Configuration} → move states c ≡ Goes d → Reaches states n d e → Reaches states (suc n) c e

-- the configuration in which a run on a list begins: state 0, without trees
abbrev pub begin : List TerminalString → Configuration
begin w = record { state = 0; below = []; trees = []; rest = w }

-- the outcome of a run: a tree, a refusal with its state and token, or the limit
pub data Outcome : Type 0 where
  Parsed : Tree → Outcome
  Refused : ℕ → Token → Outcome
  Limit : Outcome

-- a run ends with a parse if the input is used up and one tree is left
abbrev pub IsParse : List Tree → List TerminalString → Tree → Type 0
IsParse trees rest t = (trees ≡ t ∷ []) × (rest ≡ [])

-- the outcome of a run on w with a limit
pub data HasOutcome (states : ℕ → Contents) (w : List TerminalString) (limit : ℕ) : Outcome → Type 0 where
  -- a final step within the limit, with the input used up and one tree left
  parsed : (n : ℕ) (c : Configuration) (trees : List Tree) (t : Tree) → n < limit → Reaches states n (begin w) c → move states c ≡ Ends trees → IsParse trees c.rest t → HasOutcome states w limit (Parsed t)
  -- a configuration without a step
  stuck : (n : ℕ) (c : Configuration) → n ≤ limit → Reaches states n (begin w) c → move states c ≡ Stands → HasOutcome states w limit (Refused c.state (next_token c.rest))
  -- any other final step within the limit
  other_end : (n : ℕ) (c : Configuration) (trees : List Tree) → n < limit → Reaches states n (begin w) c → move states c ≡ Ends trees → ((t : Tree) → IsParse trees c.rest t → ⊥) → HasOutcome states w limit (Refused c.state (next_token c.rest))
  -- as many steps as the limit says, none of them final, and there is another step
  cut_off : (c : Configuration) → Reaches states limit (begin w) c → move states c ≢ Stands → HasOutcome states w limit Limit

-- the first wrong token of a list is the terminal up to which the list is a beginning, and with
-- which it is none. It is Eof if the whole list is a beginning and no sentence
pub data IsFirstWrong (g : List Production) (start : NonterminalString) (w : List TerminalString) : Token → Type 0 where
  at_terminal : (before : List TerminalString) (t : TerminalString) (after : List TerminalString) → w ≡ before ++ t ∷ after → IsBeginning g start before → (IsBeginning g start (before ++ t ∷ []) → ⊥) → IsFirstWrong g start w (TokenOf t)
  at_end : IsBeginning g start w → (IsSentence g start w → ⊥) → IsFirstWrong g start w Eof

-- the next token is right: what was read is still a beginning with it, or, for Eof, is a sentence
abbrev pub IsRightNext : List Production → NonterminalString → List TerminalString → List TerminalString → Type 0
IsRightNext g start read [] = IsSentence g start read
IsRightNext g start read (t ∷ rest) = IsBeginning g start (read ++ t ∷ [])

-- a refusal is prompt if it comes right after the last right token. Its state is 0 if the first
-- token is wrong, and otherwise the state to which the shift of the last right token leads
pub data IsPromptRefusal (g : List Production) (start : NonterminalString) (states : ℕ → Contents) (w : List TerminalString) : ℕ → Token → Type 0 where
  before_all : (IsRightNext g start [] w → ⊥) → IsPromptRefusal g start states w 0 (next_token w)
  behind_shift : (v : List TerminalString) (x : TerminalString) (rest : List TerminalString) (n : ℕ) (c : Configuration) (s : ℕ) → w ≡ v ++ x ∷ rest → Reaches states n (begin w) c → c.rest ≡ x ∷ rest → (states c.state).shift x ≡ Some s → (IsRightNext g start (v ++ x ∷ []) rest → ⊥) → IsPromptRefusal g start states w s (next_token rest)
