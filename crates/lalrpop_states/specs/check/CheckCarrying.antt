-- Tokens that closures and edges carry from state 0 to places, as a worklist algorithm finds them.
use Rattle.std.specs.Prelude.{◌≡◌, ◌+◌, ◌≤◌, ◌⊎◌, ℕ, true, List, ◌∷◌, length, drop, slice_get, Contains, Option, Some, None}
use Rattle.std.specs.Borrow.{Bor}
use Rattle.std.specs.Map.{keys_of}
use Rattle.lalrpop_grammar.specs.closures.Closures.{IsCarried, IsReached, items_of}
use Rattle.lalrpop_grammar.specs.first.First.{IsFirstSetBefore}
use Rattle.lalrpop_grammar.specs.grammars.Grammar.{IsNullable}
use Rattle.lalrpop_collections.specs.lists.Bits.{Bits, has}
use Rattle.lalrpop_collections.specs.lists.Each.{EachItem}
use Rattle.lalrpop_collections.specs.lists.Places.{AllDiffer}
use Rattle.lalrpop_states.specs.states.Contents.{contents, holds_token}
use Rattle.lalrpop_grammar.specs.grammars.Tokens.{FitsTokens}
use Rattle.lalrpop_grammar.specs.grammars.WellFormed.{productions, productions_of, rules_of}
use Rattle.lalrpop_grammar.specs.declared.lookahead.token.Token.{Token}
use Rattle.lalrpop_states.specs.declared.lr1_core.state.State.{State}
use Rattle.lalrpop_grammar.specs.declared.repr.NonterminalString.{NonterminalString}
use Rattle.lalrpop_grammar.specs.declared.repr.Production.{Production}
use Rattle.lalrpop_grammar.specs.declared.repr.Symbol.{Symbol}
use Rattle.lalrpop_grammar.specs.declared.repr.Symbol.TheVariants.{Nonterminal}
use Rattle.lalrpop_grammar.specs.declared.repr.grammar.Grammar.{Grammar}
use Rattle.lalrpop_states.specs.closures.Closing.{Begins}
use Rattle.lalrpop_states.specs.states.CheckStates.{target_of}
use Rattle.lalrpop_collections.specs.lists.Counts.{IsBelow}
use Rattle.lalrpop_collections.specs.lists.Entries.{IsFound, IsFoundWith, Adds, burden, AllBelow}
use Rattle.lalrpop_states.specs.declared.lr1_core.place.Place.{Place}
use Rattle.lalrpop_states.specs.states.Items.{with_dot}

-- a table of places, each with the bits of the tokens that are carried to it
abbrev pub Carried : Type 0
Carried = List (Place × Bits)

-- the place in a state with a production and the index of its dot
abbrev pub at_place : ℕ → Production → ℕ → Place
at_place n p dot = record { state = n; item = with_dot p dot }

-- the number of the state to which a symbol leads from a state, if there is a state and an edge
abbrev pub target_from : Option (State Bits) → Symbol → Option ℕ
target_from None x = None
target_from (Some s) x = target_of s x

-- the number of the state to which a symbol leads from the state with the number
abbrev pub target_in : List (State Bits) → ℕ → Symbol → Option ℕ
target_in states n x = target_from (slice_get states n) x

-- the tokens were added to all such places, and to no other;
-- places that changed went into the queue, which has only places of the old queue and of the table;
-- for each place that was queued, the table has a new entry or bit, so that the algorithm ends
pub record Sends (Such : Place → Type 0) (tokens : Bits) (old new : Carried) (queue pushed : List Place) : Type 0 where
  pub adds : Adds Such tokens old new queue pushed
  pub found : (k : Place) → Contains pushed k → Contains queue k ⊎ Contains (keys_of new) k
  pub differ : AllDiffer (keys_of old) → AllDiffer (keys_of new)
  pub weighed : (n : ℕ) → IsBelow n tokens → AllBelow n old → burden n old + length pushed ≤ burden n new + length queue

-- the place is in the state, and is one of the productions with the dot at the start
pub record IsPlaceAtStart (n : ℕ) (ps : List Production) (k : Place) : Type 0 where
  pub state : k.state ≡ n
  pub start : k.item.index ≡ 0
  pub among : Contains ps k.item.production

-- the edge over the symbol after the dot leads from one place to the other
pub record IsOver (states : List (State Bits)) (place k : Place) : Type 0 where
  pub symbol : Symbol
  pub behind : slice_get place.item.production.symbols place.item.index ≡ Some symbol
  pub to : ℕ
  pub edge : target_in states place.state symbol ≡ Some to
  pub is : at_place to place.item.production (place.item.index + 1) ≡ k

-- the second place is in the same state, and has a production of the nonterminal after the dot,
-- with the dot at the start
pub record IsInto (g : Grammar) (place k : Place) : Type 0 where
  pub name : NonterminalString
  pub behind : slice_get place.item.production.symbols place.item.index ≡ Some (Nonterminal name)
  pub begun : IsPlaceAtStart place.state (productions_of g name) k

-- a place gives its own tokens over the edge of the symbol after its dot;
-- it gives FIRST of the symbols after the nonterminal to the productions of that nonterminal
pub record CarriesFromPlace (g : Grammar) (states : List (State Bits)) (place : Place) (old new : Carried) (queue pushed : List Place) : Type 0 where
  pub tokens : Bits
  pub entry : Contains old (place, tokens)
  pub middle : Carried
  pub waiting : List Place
  pub over : Sends (IsOver states place) tokens old middle queue waiting
  pub given : Bits
  pub into : Sends (IsInto g place) given middle new waiting pushed
  pub first : (name : NonterminalString) → slice_get place.item.production.symbols place.item.index ≡ Some (Nonterminal name) → IsFirstSetBefore (rules_of g) (drop (place.item.index + 1) place.item.production.symbols) tokens given
  pub fits : FitsTokens g.terminals tokens → FitsTokens g.terminals given

-- the state of the place is reached and lists its item, and all the tokens are carried to the place
pub record IsCarriedTo (g : Grammar) (start : NonterminalString) (states : List (State Bits)) (place : Place) (tokens : Bits) : Type 0 where
  pub reached : IsReached (contents g.terminals states) place.state
  pub listed : items_of (contents g.terminals states) place.state place.item.production place.item.index
  pub carried : (t : Token) → holds_token g.terminals tokens t ≡ true → IsCarried (productions g) start (contents g.terminals states) place.state place.item.production place.item.index t
  pub fits : FitsTokens g.terminals tokens

-- the state of each place of the table is reached and lists the item of the place, and all the
-- tokens of the place are carried to it
abbrev pub AreCarriedTo : Grammar → NonterminalString → List (State Bits) → Carried → Type 0
AreCarriedTo g start states table = (e : Place × Bits) → Contains table e → IsCarriedTo g start states e.0 e.1

-- the production has an entry in the state, with the dot at the start and all tokens that it gets;
-- these are FIRST of the symbols after it, and the given tokens if those symbols are nullable
pub record HasPropagatedIn (g : Grammar) (table : Carried) (n : ℕ) (q : Production) (after : List Symbol) (tokens : Bits) : Type 0 where
  pub set : Bits
  pub entry : Contains table (at_place n q 0, set)
  pub begins : (t : Token) → Begins (rules_of g) after t → holds_token g.terminals set t ≡ true
  pub inherits : IsNullable (productions g) after → (t : Token) → holds_token g.terminals tokens t ≡ true → holds_token g.terminals set t ≡ true

-- each place to which a place with these tokens leads has the tokens that it gets
pub record IsClosedAt (g : Grammar) (states : List (State Bits)) (table : Carried) (place : Place) (tokens : Bits) : Type 0 where
  pub over : (k : Place) → IsOver states place k → IsFound table k tokens
  pub into : (q : Production) (after : List Symbol) → drop place.item.index place.item.production.symbols ≡ Nonterminal q.nonterminal ∷ after → Contains (productions g) q → HasPropagatedIn g table place.state q after tokens

-- the productions of the start symbol, with the dot at the start in state 0, hold Eof
abbrev pub HasStarted : Grammar → NonterminalString → Carried → Type 0
HasStarted g start table = (p : Production) → Contains (productions g) p → p.nonterminal ≡ start → IsFoundWith table (at_place 0 p 0) (length g.terminals)

-- the table has all tokens that are carried to places, and no others
pub record AreCarried (g : Grammar) (start : NonterminalString) (states : List (State Bits)) (table : Carried) : Type 0 where
  pub sound : AreCarriedTo g start states table
  pub started : HasStarted g start table
  pub settled : (e : Place × Bits) → Contains table e → IsClosedAt g states table e.0 e.1
  pub differ : AllDiffer (keys_of table)

-- the reduction holds all tokens that the table has for its finished item in the state
abbrev pub HoldsTableTokens : Carried → ℕ → Bits × Bor Production → Type 0
HoldsTableTokens table n r = (set : Bits) → Contains table (at_place n r.1.now (length r.1.now.symbols), set) → (bit : ℕ) → has set bit ≡ true → has r.0 bit ≡ true

-- each reduction of each state holds all tokens that the table has for its finished item
abbrev pub AllHoldTableTokens : Carried → List (State Bits) → Type 0
AllHoldTableTokens table states = (n : ℕ) (s : State Bits) → slice_get states n ≡ Some s → EachItem (HoldsTableTokens table n) s.reductions.items
