-- The graph of FIRST sets, by the numbers of names.
use Rattle.std.specs.Prelude.{◌≡◌, ℕ, ◌+◌, ◌↔◌, ◌⊎◌, List, [], ◌∷◌, length, slice_get, slice_index_or, Some, true, false, Contains}
use Rattle.lalrpop_grammar.specs.declared.repr.NonterminalString.{NonterminalString}
use Rattle.lalrpop_grammar.specs.declared.repr.TerminalString.{TerminalString}
use Rattle.lalrpop_grammar.specs.declared.repr.Symbol.{Symbol}
use Rattle.lalrpop_grammar.specs.declared.repr.Symbol.TheVariants.{Nonterminal, Terminal}
use Rattle.lalrpop_grammar.specs.declared.first.graph.Graph.{Graph}
use Rattle.lalrpop_collections.specs.lists.Spreading.{HoldsBit, edge_ends}
use Rattle.lalrpop_grammar.specs.first.FirstNumbers.{place}
use Rattle.lalrpop_grammar.specs.first.FirstRests.{Rest}

-- a rest of the name with number n begins with the terminal that has the bit
abbrev pub BeginsWithTerminal : List TerminalString → List Rest → (n bit : ℕ) → Type 0
BeginsWithTerminal terminals rests n bit = (t : TerminalString) × (after : List Symbol) × (slice_get terminals bit ≡ Some t) × Contains rests (n, Terminal t ∷ after)

-- a rest of the name with number n begins with the name with number m
abbrev pub BeginsWithName : List NonterminalString → List Rest → (n m : ℕ) → Type 0
BeginsWithName names rests n m = (b : NonterminalString) × (after : List Symbol) × (place names b ≡ m) × Contains rests (n, Nonterminal b ∷ after)

-- a set, a list of edges and a flag for each number below the count
pub record IsSized (count : ℕ) (graph : Graph) : Type 0 where
  pub sets : length graph.sets.items ≡ count
  pub edges : length graph.edges.items ≡ count
  pub flags : length graph.nullable.items ≡ count

-- the flag with the number is true
abbrev pub IsFlagged : Graph → ℕ → Type 0
IsFlagged graph n = slice_index_or graph.nullable.items n false ≡ true

-- the set of a name has the terminals with which its rests begin. Edges lead to it from the names
-- with which they begin. Its flag says whether it has the empty rest
pub record IsGraph (terminals : List TerminalString) (names : List NonterminalString) (rests : List Rest) (graph : Graph) : Type 0 where
  pub sized : IsSized (length names + 1) graph
  pub begins : (n bit : ℕ) → HoldsBit graph.sets.items n bit ↔ BeginsWithTerminal terminals rests n bit
  pub leads : (m n : ℕ) → Contains (edge_ends graph.edges.items m) n ↔ BeginsWithName names rests n m
  pub told : (n : ℕ) → IsFlagged graph n ↔ Contains rests (n, [])

-- a rest is added to the graph of other rests
pub record IsAdded (terminals : List TerminalString) (names : List NonterminalString) (rest : Rest) (old new : Graph) : Type 0 where
  pub sized : (count : ℕ) → IsSized count old → IsSized count new
  pub begins : (n bit : ℕ) → HoldsBit new.sets.items n bit ↔ (HoldsBit old.sets.items n bit ⊎ BeginsWithTerminal terminals (rest ∷ []) n bit)
  pub leads : (m n : ℕ) → Contains (edge_ends new.edges.items m) n ↔ (Contains (edge_ends old.edges.items m) n ⊎ BeginsWithName names (rest ∷ []) n m)
  pub told : (n : ℕ) → IsFlagged new n ↔ (IsFlagged old n ⊎ Contains (rest ∷ []) (n, []))
