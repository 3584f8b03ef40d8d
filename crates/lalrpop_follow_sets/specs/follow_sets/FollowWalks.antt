-- The results of a pass over states (DeRemer and Pennello 1982): the tokens that follow a
-- nonterminal at once, the ends of walks over right sides, and the nodes through which walks go.
use Rattle.std.specs.Prelude.{◌≡◌, ◌<◌, ◌↔◌, ◌⊎◌, ℕ, true, List, [], ◌∷◌, length, drop, take, slice_get, Option, Some, None, Contains, MatchOption}
use Rattle.std.specs.declared.alloc.Global.{Global}
use Rattle.std.specs.declared.vec.Vec.{Vec}
use Rattle.lalrpop_base.specs.Words.{Bits, Contents, Dotted, has, HoldsBit, IsFirst, IsNullable, Rules, edge_ends, leads, rules_of, state_from, HasSuffix, with_dot}
use Rattle.lalrpop_follow_sets.specs.lanes.FollowGraphs.{HasBitAtOnce, IsFollowNode}
use Rattle.lalrpop_follow_sets.specs.lanes.FollowSets.{HasLookaheadBits, LeadsOver}
use Rattle.lalrpop_states.specs.declared.lookahead.nil.Nil.{Nil}
use Rattle.lalrpop_grammar.specs.declared.repr.NonterminalString.{NonterminalString}
use Rattle.lalrpop_grammar.specs.declared.repr.Production.{Production}
use Rattle.lalrpop_grammar.specs.declared.repr.Symbol.{Symbol}
use Rattle.lalrpop_grammar.specs.declared.repr.Symbol.TheVariants.{Nonterminal, Terminal}
use Rattle.lalrpop_grammar.specs.declared.repr.TerminalString.{TerminalString}
use Rattle.lalrpop_follow_sets.specs.follow_sets.FollowNodes.{nodes_of}
use Rattle.lalrpop_construction.specs.states.SamePlaces.{places_in}
use Rattle.lalrpop_construction.specs.states.NumberedStates.{item_numbers_at}
use Rattle.lalrpop_numbers.specs.declared.numbers.Numbers.{Numbers}
use Rattle.lalrpop_follow_sets.specs.declared.follow_sets.sets.FollowSets.{FollowSets}
use Rattle.lalrpop_follow_sets.specs.declared.follow_sets.pass.Pass.{Pass}

-- ---- tokens that follow at once
-- there are as many sets as the count says, and all are empty
pub record AreEmptySets (count : ℕ) (sets : List Bits) : Type 0 where
  pub counted : length sets ≡ count
  pub empty : (n bit : ℕ) → ¬ HoldsBit sets n bit

-- the bit is of a terminal in FIRST of an item's rest: the symbols after the nonterminal after its
-- dot. The item has the number k, and the node n is that nonterminal in the state s
pub record IsSuffixBit (pass : Pass) (s k n bit : ℕ) : Type 0 where
  pub name : NonterminalString
  pub after : List Symbol
  pub item : Dotted Nil
  pub numbered : slice_get pass.numbers.now.items.items k ≡ Some item
  pub behind : drop item.index item.production.symbols ≡ Nonterminal name ∷ after
  pub node : IsFollowNode (nodes_of pass) n s name
  pub first : (t : TerminalString) × (slice_get (rules_of pass.grammar.now).terminals bit ≡ Some t) × IsFirst (rules_of pass.grammar.now).productions after t

-- the same of some item that the state lists; below, of some item that any state lists
abbrev pub IsSuffixBitIn : Pass → ℕ → ℕ → ℕ → Type 0
IsSuffixBitIn pass s n bit = (k : ℕ) × Contains (item_numbers_at pass.numbered.now s) k × IsSuffixBit pass s k n bit

abbrev pub IsSomeSuffixBit : Pass → ℕ → ℕ → Type 0
IsSomeSuffixBit pass n bit = (s : ℕ) × IsSuffixBitIn pass s n bit

-- the node is of the start symbol, and the bit is that of Eof
abbrev pub IsEofOfStartNode : Pass → ℕ → ℕ → Type 0
IsEofOfStartNode pass n bit = (s : ℕ) × IsFollowNode (nodes_of pass) n s pass.name.now × (bit ≡ length (rules_of pass.grammar.now).terminals)

-- each set gets such bits of its number, keeps its own, and gets no others
pub record TakesBits (Such : ℕ → ℕ → Type 0) (old new : List Bits) : Type 0 where
  pub counted : length new ≡ length old
  pub bits : (n bit : ℕ) → HoldsBit new n bit ↔ (HoldsBit old n bit ⊎ Such n bit)

-- the set of each node has exactly the bits of the tokens that follow its nonterminal at once
pub record AreInitialSets (pass : Pass) (sets : List Bits) : Type 0 where
  pub counted : length sets ≡ length (nodes_of pass)
  pub begun : (n s : ℕ) (a : NonterminalString) → IsFollowNode (nodes_of pass) n s a → (bit : ℕ) → HoldsBit sets n bit ↔ HasBitAtOnce (rules_of pass.grammar.now) pass.name.now (places_in pass.states.now) (nodes_of pass) s a bit

-- ---- walks
-- the number is that of the production with the dot at the start
abbrev pub IsNumberAtStart : Pass → ℕ → Production → Type 0
IsNumberAtStart pass k q = slice_get pass.numbers.now.items.items k ≡ Some (with_dot q 0)

-- the symbol after the dot is a nonterminal, and the rest after it is nullable
abbrev pub HasNullableRest : Pass → Dotted Nil → Type 0
HasNullableRest pass i = (a : NonterminalString) × (after : List Symbol) × HasSuffix i a after × IsNullable (rules_of pass.grammar.now).productions after

-- a step goes by a transition from the state over the symbol after the dot, which is a nonterminal
-- with a nullable rest; the node n is that nonterminal in the state
pub record StepsThrough (pass : Pass) (state : ℕ) (i : Dotted Nil) (n : ℕ) : Type 0 where
  pub name : NonterminalString
  pub after : List Symbol
  pub target : ℕ
  pub behind : HasSuffix i name after
  pub nullable : IsNullable (rules_of pass.grammar.now).productions after
  pub edge : (places_in pass.states.now state).goto name ≡ Some target
  pub node : IsFollowNode (nodes_of pass) n state name

-- the target is the state to which the symbol after the dot leads, if there is one
abbrev pub IsGoneOver : Pass → ℕ → Dotted Nil → Option ℕ → Type 0
IsGoneOver pass state i target = (s : Symbol) → slice_get i.production.symbols i.index ≡ Some s → leads (places_in pass.states.now state) s ≡ target

-- a walk over a production goes by a transition over a nonterminal with a nullable rest; the node n
-- is that nonterminal in the state from which the transition leads
pub record GoesThrough (pass : Pass) (from : ℕ) (q : Production) (n : ℕ) : Type 0 where
  pub dot : ℕ
  pub state : ℕ
  pub name : NonterminalString
  pub after : List Symbol
  pub target : ℕ
  pub behind : drop dot q.symbols ≡ Nonterminal name ∷ after
  pub nullable : IsNullable (rules_of pass.grammar.now).productions after
  pub leads : LeadsOver (places_in pass.states.now) from (take dot q.symbols) state
  pub edge : (places_in pass.states.now state).goto name ≡ Some target
  pub node : IsFollowNode (nodes_of pass) n state name

-- the end is the state to which the right side leads, with the number of the finished item; there
-- is no end if the right side leads to no state
abbrev pub IsEndOfWalk : Pass → ℕ → Production → Option (ℕ × ℕ) → Type 0
IsEndOfWalk pass from q end = MatchOption end (state_from (places_in pass.states.now) from q.symbols ≡ None) (λ end. LeadsOver (places_in pass.states.now) from q.symbols end.0 × (end.0 < length pass.states.now) × (slice_get pass.numbers.now.items.items end.1 ≡ Some (with_dot q (length q.symbols))))

-- ---- the ends of walks
-- the finished items, with nodes, that a list has for a state; no list has none. Below, those of
-- the state with the number
abbrev pub listed_entries : Option (Vec (ℕ × ℕ) Global) → List (ℕ × ℕ)
listed_entries None = []
listed_entries (Some entries) = entries.items

abbrev pub entries_at : List (Vec (ℕ × ℕ) Global) → ℕ → List (ℕ × ℕ)
entries_at lookback s = listed_entries (slice_get lookback s)

-- the walk over the production from a state ends in the state s, at the finished item with the
-- number k
abbrev pub EndsAt : Pass → ℕ → Production → ℕ → ℕ → Type 0
EndsAt pass from q s k = LeadsOver (places_in pass.states.now) from q.symbols s × (slice_get pass.numbers.now.items.items k ≡ Some (with_dot q (length q.symbols)))

-- there are as many lists as the count says, and all are empty
pub record AreEmptyLists (count : ℕ) (lookback : List (Vec (ℕ × ℕ) Global)) : Type 0 where
  pub counted : length lookback ≡ count
  pub empty : (s : ℕ) (e : ℕ × ℕ) → ¬ Contains (entries_at lookback s) e

-- the lists get an entry with the node m for each such state and item, keep their own, and get no
-- others
pub record NotesEnds (m : ℕ) (Such : ℕ → ℕ → Type 0) (old new : List (Vec (ℕ × ℕ) Global)) : Type 0 where
  pub counted : length new ≡ length old
  pub entries : (s k n : ℕ) → Contains (entries_at new s) (k, n) ↔ (Contains (entries_at old s) (k, n) ⊎ ((n ≡ m) × Such s k))

-- one of the numbers is that of such a production with the dot at the start
abbrev pub SomeExpansion : Pass → List ℕ → (Production → Type 0) → Type 0
SomeExpansion pass expansions Such = (k : ℕ) × (q : Production) × Contains expansions k × IsNumberAtStart pass k q × Such q

-- some production of the node's nonterminal is such, together with the node's state
abbrev pub SomeOfNode : Pass → ℕ → (ℕ → Production → Type 0) → Type 0
SomeOfNode pass m Such = (r : ℕ) × (q : Production) × IsFollowNode (nodes_of pass) m r q.nonterminal × Contains (rules_of pass.grammar.now).productions q × Such r q

-- edges lead from a node exactly to the nodes through which walks over its productions go
pub record AreIncludes (pass : Pass) (edges : List (Vec ℕ Global)) : Type 0 where
  pub counted : length edges ≡ length (nodes_of pass)
  pub ends : (m n : ℕ) → Contains (edge_ends edges m) n ↔ SomeOfNode pass m (λ r q. GoesThrough pass r q n)

-- for each state the finished items in which walks end there, each with the node where the walk
-- began
pub record AreLookbacks (pass : Pass) (lookback : List (Vec (ℕ × ℕ) Global)) : Type 0 where
  pub counted : length lookback ≡ length pass.states.now
  pub entries : (s k m : ℕ) → Contains (entries_at lookback s) (k, m) ↔ SomeOfNode pass m (λ r q. EndsAt pass r q s k)

-- ---- results
-- the bit is in the set of a node that is paired with the number
abbrev pub IsInUnion : List Bits → List (ℕ × ℕ) → ℕ → ℕ → Type 0
IsInUnion follow entries k bit = (m : ℕ) × Contains entries (k, m) × HoldsBit follow m bit

-- a set was joined to the sets of those numbers that are the item's
pub record JoinsUnions (set : Bits) (item : ℕ) (numbers : List ℕ) (old new : List Bits) : Type 0 where
  pub counted : length new ≡ length old
  pub each : (j k bit : ℕ) → slice_get numbers j ≡ Some k → HoldsBit new j bit ↔ (HoldsBit old j bit ⊎ ((k ≡ item) × (has set bit ≡ true)))

-- for each number the union of the sets of the nodes that are paired with it
pub record AreUnions (follow : List Bits) (entries : List (ℕ × ℕ)) (numbers : List ℕ) (unions : List Bits) : Type 0 where
  pub counted : length unions ≡ length numbers
  pub each : (j k bit : ℕ) → slice_get numbers j ≡ Some k → HoldsBit unions j bit ↔ IsInUnion follow entries k bit

-- the symbol is the terminal of the bit
abbrev pub HasTokenOf : List TerminalString → Symbol → ℕ → Type 0
HasTokenOf terminals s bit = (t : TerminalString) × (s ≡ Terminal t) × (slice_get terminals bit ≡ Some t)

-- for each symbol the set of its token, which is empty for a nonterminal and for a terminal that is
-- not in the list
pub record AreTokensOfSymbols (terminals : List TerminalString) (symbols : List Symbol) (tokens : List Bits) : Type 0 where
  pub counted : length tokens ≡ length symbols
  pub each : (x bit : ℕ) (s : Symbol) → slice_get symbols x ≡ Some s → HoldsBit tokens x bit ↔ HasTokenOf terminals s bit

-- the bit is in the set of the symbol of one of the transitions
abbrev pub HoldsSomeOf : List Bits → List (ℕ × ℕ) → ℕ → Type 0
HoldsSomeOf tokens edges bit = (x : ℕ) × (target : ℕ) × Contains edges (x, target) × HoldsBit tokens x bit

-- a bit of the first set is in one of the others, or a bit is in two of these
pub data ShareBits (first : Bits) (sets : List Bits) : Type 0 where
  with_first : (j bit : ℕ) → has first bit ≡ true → HoldsBit sets j bit → ShareBits first sets
  with_other : (i j bit : ℕ) → i < j → HoldsBit sets i bit → HoldsBit sets j bit → ShareBits first sets

-- the result of a pass over states: for each finished item, the union of the follow sets of its
-- nodes is its lookahead set
pub record FindsLookaheads (g : Rules) (start : NonterminalString) (n : Numbers) (states : ℕ → Contents) (count : ℕ) (found : FollowSets) : Type 0 where
  pub counted : length found.lookback.items ≡ count
  pub within : (s k m : ℕ) → Contains (entries_at found.lookback.items s) (k, m) → m < length found.follow.items
  pub lookaheads : (s k : ℕ) (p : Production) → Contains (states s).items (p, length p.symbols) → slice_get n.items.items k ≡ Some (with_dot p (length p.symbols)) → (set : Bits) → ((bit : ℕ) → (has set bit ≡ true) ↔ IsInUnion found.follow.items (entries_at found.lookback.items s) k bit) → HasLookaheadBits g start states s set p
  pub tokens : AreTokensOfSymbols g.terminals n.symbols.items found.tokens.items
