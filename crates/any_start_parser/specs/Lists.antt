-- Runs on lists of terminals, for a start symbol that may be on a right side.
use Rattle.std.specs.Prelude.{◌≡◌, ◌⊎◌, ℕ, suc, List, [], ◌∷◌, ◌++◌, Option}
use Rattle.lalrpop_base.specs.Words.{Configuration, Contents, Ends, IsFirstWrong, Node, Stands, Tree, beside, move, no_trees}
use Rattle.lalrpop_grammar.specs.declared.lookahead.token.Token.{Token}
use Rattle.lalrpop_grammar.specs.declared.lookahead.token.Token.TheVariants.{Eof, Terminal as TokenOf}
use Rattle.lalrpop_grammar.specs.declared.repr.NonterminalString.{NonterminalString}
use Rattle.lalrpop_grammar.specs.declared.repr.Production.{Production}
use Rattle.lalrpop_grammar.specs.declared.repr.TerminalString.{TerminalString}
use Rattle.parse_tables.specs.Tables.{IsTableOf}
use Rattle.parse_tables.specs.declared.table.ParseTable.{ParseTable}
use Rattle.table_parser.specs.Events.{Event}
use Rattle.table_parser.specs.Lists.{HasParsedAll, HasRefusedEnd, HasRefusedLast, HasRun}
use Rattle.table_parser.specs.declared.error.Refusal.{Refusal}
use Rattle.any_start_parser.specs.Augmented.{ForEachAugmented, IsOnlyOf, IsTreeBelow}
use Rattle.any_start_parser.specs.Below.{TakesBelow}
use Rattle.any_start_parser.specs.declared.handler.BelowStart.{BelowStart}

module _ (table : ParseTable) (states : ℕ → Contents) {H : Type 0} (takes : H → Event → H → Type 0) (limit : ℕ) (h : H) (w : List TerminalString) (g : List Production) (start : NonterminalString) where
  -- the run on a list has made steps, which the handler took in order, and has read the list. It has
  -- one tree, which is a parse tree of the list from the start symbol. The last step puts a node of
  -- the new start symbol f above it
  pub record IsParsedFromAny (f : NonterminalString) (i : H) : Type 0 where
    pub left : ℕ
    pub last : Configuration
    pub run : HasRun table states takes limit h w (suc left) last i
    pub tree : Tree
    pub alone : last.trees ≡ tree ∷ []
    pub used_up : last.rest ≡ []
    pub ends : move states last ≡ Ends (Node f (beside tree no_trees) ∷ [])
    pub parse : IsTreeBelow limit w tree g start

  -- the run on a list has made steps, which the handler took in order. Then there is no step, or a
  -- final one, which it did not take. The token is the first wrong one for the start symbol
  pub record IsRefusedFromAny (token : Token) (i : H) : Type 0 where
    pub left : ℕ
    pub last : Configuration
    pub run : HasRun table states takes limit h w left last i
    pub ended : (move states last ≡ Stands) ⊎ ((trees : List Tree) × (move states last ≡ Ends trees))
    pub wrong : IsFirstWrong g start w token

module _ {S : Type 0} (gives : S → Option ℕ → S → Type 0) (input : S) (table : ParseTable) {H : Type 0} (takes : H → Event → H → Type 0) (limit : ℕ) (u v : BelowStart H) where
  -- the iterator gave all its terminals, and they were parsed. For each grammar to whose augmented
  -- grammar the states are faithful, the handler took the steps up to the parse tree from the old
  -- start symbol, if the number is that of the only production of the new one
  pub record HasParsedFromAny : Type 0 where
    pub run : HasParsedAll gives input table (TakesBelow takes) limit u v
    pub old : (states : ℕ → Contents) → IsTableOf table states → ForEachAugmented states (λ g start f. IsOnlyOf table.productions f u.production → IsParsedFromAny table states takes limit u.handler run.list g start f v.handler)

  -- the terminal that the iterator gave last was refused, whatever comes after it. For each such
  -- grammar it is the first wrong token from the old start symbol
  pub record HasRefusedLastFromAny (refusal : Refusal) : Type 0 where
    pub run : HasRefusedLast gives input table (TakesBelow takes) limit u v refusal
    pub old : (states : ℕ → Contents) → IsTableOf table states → ForEachAugmented states (λ g start f. IsOnlyOf table.productions f u.production → (rest : List TerminalString) → IsRefusedFromAny table states takes limit u.handler (run.list ++ run.terminal ∷ rest) g start (TokenOf run.terminal) v.handler)

  -- the iterator gave all its terminals, and the end of the input was refused. For each such grammar
  -- it is the first wrong token from the old start symbol
  pub record HasRefusedEndFromAny (refusal : Refusal) : Type 0 where
    pub run : HasRefusedEnd gives input table (TakesBelow takes) limit u v refusal
    pub old : (states : ℕ → Contents) → IsTableOf table states → ForEachAugmented states (λ g start f. IsOnlyOf table.productions f u.production → IsRefusedFromAny table states takes limit u.handler run.list g start Eof v.handler)

  -- what a refusal says: of a terminal, or of the end of the input
  abbrev pub IsRefusalFromAny : Refusal → Type 0
  IsRefusalFromAny refusal = HasRefusedLastFromAny refusal ⊎ HasRefusedEndFromAny refusal
