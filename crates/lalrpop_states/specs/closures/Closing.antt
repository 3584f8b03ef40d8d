-- The condition that a table has the whole closure of a kernel.
use Rattle.std.specs.Prelude.{◌≡◌, true, List, ◌∷◌, drop, Contains}
use Rattle.lalrpop_grammar.specs.closures.Closures.{InClosure}
use Rattle.lalrpop_grammar.specs.grammars.Grammar.{IsFirst}
use Rattle.lalrpop_grammar.specs.grammars.WellFormed.{Rules, productions, productions_of}
use Rattle.lalrpop_collections.specs.lists.Bits.{Bits}
use Rattle.lalrpop_states.specs.states.Contents.{holds_token}
use Rattle.lalrpop_states.specs.states.Items.{Dotted, dotted_of}
use Rattle.lalrpop_states.specs.declared.lookahead.nil.Nil.{Nil}
use Rattle.lalrpop_grammar.specs.declared.lookahead.token.Token.{Token}
use Rattle.lalrpop_grammar.specs.declared.lookahead.token.Token.TheVariants.{Eof, Error, Terminal as TokenOf}
use Rattle.lalrpop_grammar.specs.declared.repr.Production.{Production}
use Rattle.lalrpop_grammar.specs.declared.repr.grammar.Grammar.{Grammar}
use Rattle.lalrpop_grammar.specs.declared.repr.Symbol.{Symbol}
use Rattle.lalrpop_grammar.specs.declared.repr.Symbol.TheVariants.{Nonterminal}
use Rattle.lalrpop_states.specs.closures.Closure.{ClosureTable, InKernel, HasItemToken, InTokenClosureBy}
use Rattle.lalrpop_collections.specs.lists.Entries.{IsFound}

-- the token is a terminal in FIRST of the symbols
abbrev pub Begins : Rules → List Symbol → Token → Type 0
Begins g l Eof = ⊥
Begins g l Error = ⊥
Begins g l (TokenOf t) = IsFirst g.productions l t

-- each production of the grammar is among those of its nonterminal
abbrev pub AreOwn : Grammar → Type 0
AreOwn g = (p : Production) → Contains (productions g) p → Contains (productions_of g p.nonterminal) p

-- which tokens begin the symbols after a nonterminal, and which symbols let tokens pass, are
-- parameters
module _ (begins : Rules → List Symbol → Token → Type 0) (passes : Rules → List Symbol → Type 0) where
  -- the table has the production with the dot at the start and all tokens that it gets from an item
  -- with these tokens
  pub record HasPropagated (g : Rules) (table : ClosureTable) (tokens : Bits) (q : Production) (after : List Symbol) : Type 0 where
    pub key : Dotted Nil
    pub production : key.production ≡ q
    pub start : key.index ≡ 0
    pub set : Bits
    pub entry : Contains table (key, set)
    pub first : (t : Token) → begins g after t → holds_token g.terminals set t ≡ true
    pub through : (t : Token) → passes g after → holds_token g.terminals tokens t ≡ true → holds_token g.terminals set t ≡ true

  -- the table has each production of the nonterminal after the dot, with all tokens that it gets
  abbrev pub IsTokenClosedAt : Rules → ClosureTable → Dotted Nil → Bits → Type 0
  IsTokenClosedAt g table k tokens = (q : Production) (after : List Symbol) → drop k.index k.production.symbols ≡ Nonterminal q.nonterminal ∷ after → Contains g.productions q → HasPropagated g table tokens q after

  -- the table has the kernel, and its entries and tokens belong to the closure of the kernel;
  -- the table also has each production to which an entry leads, with all tokens that it gets
  pub record IsTokenClosed (g : Rules) (kernel : List (Dotted Bits)) (table : ClosureTable) : Type 0 where
    pub all : (i : Dotted Bits) → Contains kernel i → (k : Dotted Nil) × (dotted_of k ≡ dotted_of i) × IsFound table k i.lookahead
    pub keys : (e : Dotted Nil × Bits) → Contains table e → InClosure g.productions (InKernel kernel) e.0.production e.0.index
    pub tokens : (e : Dotted Nil × Bits) (t : Token) → Contains table e → holds_token g.terminals e.1 t ≡ true → InTokenClosureBy (begins g) (passes g) g.productions (InClosure g.productions (InKernel kernel)) (HasItemToken g.terminals kernel) e.0.production e.0.index t
    pub settled : (e : Dotted Nil × Bits) → Contains table e → IsTokenClosedAt g table e.0 e.1
