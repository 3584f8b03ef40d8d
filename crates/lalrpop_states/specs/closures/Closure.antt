-- Items of a grammar, and the closure of a kernel.
use Rattle.std.specs.Prelude.{◌≡◌, ◌≤◌, ◌⊎◌, ◌↔◌, ℕ, true, List, ◌∷◌, length, drop, Contains, map}
use Rattle.lalrpop_grammar.specs.closures.Closures.{InClosure, InTokenClosure}
use Rattle.lalrpop_grammar.specs.grammars.Tokens.{FitsTokens}
use Rattle.lalrpop_grammar.specs.grammars.WellFormed.{Rules}
use Rattle.lalrpop_collections.specs.lists.Bits.{Bits}
use Rattle.lalrpop_collections.specs.lists.Places.{AllDiffer}
use Rattle.lalrpop_states.specs.states.Contents.{holds_token}
use Rattle.lalrpop_states.specs.states.Items.{Dotted, dotted_of}
use Rattle.lalrpop_states.specs.declared.lookahead.nil.Nil.{Nil}
use Rattle.lalrpop_grammar.specs.declared.lookahead.token.Token.{Token}
use Rattle.lalrpop_grammar.specs.declared.repr.TerminalString.{TerminalString}
use Rattle.lalrpop_grammar.specs.declared.repr.Production.{Production}
use Rattle.lalrpop_grammar.specs.declared.repr.Symbol.{Symbol}
use Rattle.lalrpop_grammar.specs.declared.repr.Symbol.TheVariants.{Nonterminal}
use Rattle.lalrpop_states.specs.grammars.Ascending.{Ascend}

-- the item with the set of bits that its lookahead means
abbrev pub meant : {L : Type 0} → (L → Bits) → Dotted L → Dotted Bits
meant meaning i = record { production = i.production; index = i.index; lookahead = meaning i.lookahead }

-- the meaning of a lookahead is a parameter, so that these definitions apply to any lookahead
module _ {L : Type 0} (meaning : L → Bits) where
  -- the item is one of the grammar: it has a production of the grammar, the dot is within it, and
  -- the bits of the lookahead are those of tokens
  pub record IsItemBy (g : Rules) (i : Dotted L) : Type 0 where
    pub production : Contains g.productions i.production
    pub dot : i.index ≤ length i.production.symbols
    pub tokens : FitsTokens g.terminals (meaning i.lookahead)

  -- the items are items of the grammar, with no dotted production twice
  pub record AreItemsBy (g : Rules) (items : List (Dotted L)) : Type 0 where
    pub each : (i : Dotted L) → Contains items i → IsItemBy g i
    pub differ : AllDiffer (map dotted_of items)

  -- one of the items has the dotted production and holds the token
  pub record HasItemTokenBy (terminals : List TerminalString) (items : List (Dotted L)) (p : Production) (dot : ℕ) (t : Token) : Type 0 where
    pub item : Dotted L
    pub there : Contains items item
    pub is : dotted_of item ≡ (p, dot)
    pub holds : holds_token terminals (meaning item.lookahead) t ≡ true

-- a set of tokens means itself
abbrev pub itself : Bits → Bits
itself set = set

-- the item with a set of tokens is one of the grammar
abbrev pub IsItemOf : Rules → Dotted Bits → Type 0
IsItemOf = IsItemBy itself

-- the items with sets of tokens are items of the grammar, with no dotted production twice
abbrev pub AreItems : Rules → List (Dotted Bits) → Type 0
AreItems = AreItemsBy itself

-- one of the items with sets of tokens has the dotted production and holds the token
abbrev pub HasItemToken : List TerminalString → List (Dotted Bits) → Production → ℕ → Token → Type 0
HasItemToken = HasItemTokenBy itself

-- the dotted production is in the kernel
abbrev pub InKernel : {L : Type 0} → List (Dotted L) → Production → ℕ → Type 0
InKernel kernel p dot = Contains (map dotted_of kernel) (p, dot)

-- the items are exactly the closure of the kernel, with exactly its tokens, and they ascend;
-- each item that is not in the kernel has its dot at the start;
-- source: the closure of LR(1) items of Aho, Sethi and Ullman, section 4.7
pub record IsClosureOf (g : Rules) (kernel items : List (Dotted Bits)) : Type 0 where
  pub are_items : AreItems g items
  pub ascend : Ascend items
  pub begun : (i : Dotted Bits) → Contains items i → (i.index ≡ 0) ⊎ InKernel kernel i.production i.index
  pub exact : (p : Production) (dot : ℕ) → Contains (map dotted_of items) (p, dot) ↔ InClosure g.productions (InKernel kernel) p dot
  pub tokens : (p : Production) (dot : ℕ) (t : Token) → HasItemToken g.terminals items p dot t ↔ InTokenClosure g.productions (λ q n. Contains (map dotted_of items) (q, n)) (HasItemToken g.terminals kernel) p dot t

-- the token is one of a dotted production in a closure (Aho, Sethi and Ullman, section 4.7);
-- it comes from the kernel, from the symbols after a nonterminal, or, if these let tokens pass,
-- from the item that has the nonterminal;
-- which tokens begin symbols, and which symbols let tokens pass, are parameters
pub data InTokenClosureBy (begins : List Symbol → Token → Type 0) (passes : List Symbol → Type 0) (g : List Production) (items : Production → ℕ → Type 0) (kernel : Production → ℕ → Token → Type 0) : Production → ℕ → Token → Type 0 where
  own_token : {p : Production} {dot : ℕ} {t : Token} → kernel p dot t → InTokenClosureBy begins passes g items kernel p dot t
  from_rest : {p : Production} {dot : ℕ} {t : Token} (q : Production) (after : List Symbol) → items p dot → drop dot p.symbols ≡ Nonterminal q.nonterminal ∷ after → Contains g q → begins after t → InTokenClosureBy begins passes g items kernel q 0 t
  from_parent : {p : Production} {dot : ℕ} {t : Token} (q : Production) (after : List Symbol) → InTokenClosureBy begins passes g items kernel p dot t → drop dot p.symbols ≡ Nonterminal q.nonterminal ∷ after → Contains g q → passes after → InTokenClosureBy begins passes g items kernel q 0 t

-- the items are exactly the closure of the kernel, for any lookahead
pub record IsClosureBy {L : Type 0} (meaning : L → Bits) (begins : Rules → List Symbol → Token → Type 0) (passes : Rules → List Symbol → Type 0) (g : Rules) (kernel items : List (Dotted L)) : Type 0 where
  pub are_items : AreItemsBy meaning g items
  pub ascend : Ascend items
  pub begun : (i : Dotted L) → Contains items i → (i.index ≡ 0) ⊎ InKernel kernel i.production i.index
  pub exact : (p : Production) (dot : ℕ) → Contains (map dotted_of items) (p, dot) ↔ InClosure g.productions (InKernel kernel) p dot
  pub tokens : (p : Production) (dot : ℕ) (t : Token) → HasItemTokenBy meaning g.terminals items p dot t ↔ InTokenClosureBy (begins g) (passes g) g.productions (λ q n. Contains (map dotted_of items) (q, n)) (HasItemTokenBy meaning g.terminals kernel) p dot t

-- ---- tables of a closure
-- a table of dotted productions, each with the bits of its tokens
abbrev pub ClosureTable : Type 0
ClosureTable = List (Dotted Nil × Bits)

-- the item with a dotted production and a lookahead
abbrev pub item_of : {L : Type 0} → Dotted Nil × L → Dotted L
item_of e = record { production = e.0.production; index = e.0.index; lookahead = e.1 }

-- the production with the dot at the start
abbrev pub lr0_at_start : Production → Dotted Nil
lr0_at_start p = record { production = p; index = 0; lookahead = record {} }
