-- The items that a closure adds for an item, with any lookahead: those of the productions of the
-- nonterminal after its dot, with the tokens that they get.
use Rattle.std.specs.Prelude.{◌≡◌, ◌⊎◌, ◌↔◌, Bool, true, false, List, map, Contains}
use Rattle.std.specs.Map.{keys_of}
use Rattle.lalrpop_grammar.specs.grammars.Tokens.{FitsTokens}
use Rattle.lalrpop_grammar.specs.grammars.WellFormed.{Rules}
use Rattle.lalrpop_collections.specs.lists.Bits.{Bits}
use Rattle.lalrpop_collections.specs.lists.Entries.{IsJoinedAt}
use Rattle.lalrpop_collections.specs.lists.Places.{AllDiffer}
use Rattle.lalrpop_states.specs.states.Contents.{holds_token}
use Rattle.lalrpop_states.specs.states.Items.{Dotted, dotted_of}
use Rattle.lalrpop_grammar.specs.declared.lookahead.token.Token.{Token}
use Rattle.lalrpop_grammar.specs.declared.repr.NonterminalString.{NonterminalString}
use Rattle.lalrpop_grammar.specs.declared.repr.Production.{Production}
use Rattle.lalrpop_grammar.specs.declared.repr.Symbol.{Symbol}

-- the item has a production of the nonterminal, the dot at the start, and the lookahead
pub record IsItemAtStart {L : Type 0} (g : Rules) (name : NonterminalString) (lookahead : L) (i : Dotted L) : Type 0 where
  pub start : i.index ≡ 0
  pub among : Contains g.productions i.production
  pub named : i.production.nonterminal ≡ name
  pub same : i.lookahead ≡ lookahead

-- the list has one item for each production of the nonterminal, and no other item;
-- the dot is at the start, and the lookahead is the given one
pub record AreItemsAtStart {L : Type 0} (g : Rules) (name : NonterminalString) (lookahead : L) (items : List (Dotted L)) : Type 0 where
  pub each : (i : Dotted L) → Contains items i → IsItemAtStart g name lookahead i
  pub all : (p : Production) → Contains g.productions p → p.nonterminal ≡ name → Contains (map dotted_of items) (p, 0)
  pub once : AllDiffer (map dotted_of items)

-- the nonterminal has no production
abbrev pub HasNoProduction : Rules → NonterminalString → Type 0
HasNoProduction g name = (p : Production) → Contains g.productions p → p.nonterminal ≡ name → ⊥

-- the given tokens are those that may follow a nonterminal in an item;
-- these are the tokens with which the symbols after it begin, and, if these symbols let tokens
-- pass, the tokens of the item
pub record IsGiven {L : Type 0} (meaning : L → Bits) (begins : Rules → List Symbol → Token → Type 0) (passes : Rules → List Symbol → Type 0) (g : Rules) (rest : List Symbol) (lookahead given : L) : Type 0 where
  pub fits : FitsTokens g.terminals (meaning lookahead) → FitsTokens g.terminals (meaning given)
  pub holds : (t : Token) → (holds_token g.terminals (meaning given) t ≡ true) ↔ (begins g rest t ⊎ (passes g rest × (holds_token g.terminals (meaning lookahead) t ≡ true)))

-- the tokens that may follow the nonterminal were added to those of its key;
-- if the nonterminal has no production, nothing may have been added;
-- the flag is whether the key is new or has more tokens than before
pub data IsGivenAt {K L : Type 0} (meaning : L → Bits) (begins : Rules → List Symbol → Token → Type 0) (passes : Rules → List Symbol → Type 0) (g : Rules) (name : NonterminalString) (rest : List Symbol) (lookahead : L) (key : K) (changed : Bool) (old new : List (K × Bits)) : Type 0 where
  given : (tokens : L) → IsGiven meaning begins passes g rest lookahead tokens → IsJoinedAt key (meaning tokens) changed old new → AllDiffer (keys_of new) → IsGivenAt meaning begins passes g name rest lookahead key changed old new
  barren : HasNoProduction g name → new ≡ old → changed ≡ false → IsGivenAt meaning begins passes g name rest lookahead key changed old new

-- the moves of an item are those of the productions of the nonterminal after its dot, with the dot
-- at the start and the tokens that may follow the nonterminal in the item
pub record AreEpsilonMoves {L : Type 0} (meaning : L → Bits) (begins : Rules → List Symbol → Token → Type 0) (passes : Rules → List Symbol → Type 0) (g : Rules) (name : NonterminalString) (rest : List Symbol) (lookahead : L) (moves : List (Dotted L)) : Type 0 where
  pub given : L
  pub begun : AreItemsAtStart g name given moves
  pub is : IsGiven meaning begins passes g rest lookahead given
