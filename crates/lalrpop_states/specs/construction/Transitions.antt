-- The transitions and reductions of a state with given items.
use Rattle.std.specs.Prelude.{◌≡◌, ◌+◌, ◌==◌, cond, List, [], ◌∷◌, ◌++◌, length, slice_get, Some, Contains}
use Rattle.std.specs.Borrow.{Bor}
use Rattle.std.specs.BTreeMap.{IsFromIterResult, IsOrdered}
use Rattle.std.specs.Map.{keys_of}
use Rattle.lalrpop_collections.specs.lists.Places.{AllDiffer}
use Rattle.lalrpop_states.specs.states.Items.{Dotted}
use Rattle.lalrpop_collections.specs.states.Kernels.{Kernels}
use Rattle.lalrpop_states.specs.declared.lr1_core.state.StateIndex.{StateIndex}
use Rattle.lalrpop_grammar.specs.declared.repr.Production.{Production}
use Rattle.lalrpop_grammar.specs.declared.repr.NonterminalString.{NonterminalString}
use Rattle.lalrpop_grammar.specs.declared.repr.Symbol.{Symbol}
use Rattle.lalrpop_grammar.specs.declared.repr.Symbol.TheVariants.{Nonterminal, Terminal}
use Rattle.lalrpop_grammar.specs.contracts.repr.NonterminalStringOrd.TheImpl as name_ord
use Rattle.lalrpop_grammar.specs.contracts.repr.TerminalStringOrd.TheImpl as terminal_ord
use Rattle.lalrpop_grammar.specs.declared.repr.TerminalString.{TerminalString}
use Rattle.lalrpop_collections.specs.lists.Entries.{IsPushedAt}
use Rattle.lalrpop_states.specs.declared.lr1_core.transitions.TransitionLists.{TransitionLists}
use Rattle.lalrpop_states.specs.declared.lr1_core.transitions.Transitions.{Transitions}

-- x is the symbol after the dot of the item
abbrev pub IsBehind : {L : Type 0} → Symbol → Dotted L → Type 0
IsBehind x i = slice_get i.production.symbols i.index ≡ Some x

-- x is the symbol after the dot of one of the items
pub record IsBehindOne {L : Type 0} (x : Symbol) (items : List (Dotted L)) : Type 0 where
  pub item : Dotted L
  pub among : Contains items item
  pub behind : IsBehind x item

-- the item with its dot one symbol further
abbrev pub shifted : {L : Type 0} → Dotted L → Dotted L
shifted i = record { production = i.production; index = i.index + 1; lookahead = i.lookahead }

-- the kernel has the items with x after the dot, with the dot moved over x, in order
pub data Shifts {L : Type 0} (x : Symbol) : List (Dotted L) → List (Dotted L) → Type 0 where
  none : Shifts x [] []
  moves : {i : Dotted L} {items kernel : List (Dotted L)} → IsBehind x i → Shifts x items kernel → Shifts x (i ∷ items) (shifted i ∷ kernel)
  stays : {i : Dotted L} {items kernel : List (Dotted L)} → ¬ IsBehind x i → Shifts x items kernel → Shifts x (i ∷ items) kernel

-- symbols, each with the kernel to which it leads
abbrev pub Groups : Type 0 → Type 0
Groups L = List (Symbol × List (Dotted L))

-- the symbol has no kernel
abbrev pub HasNoGroup : {L : Type 0} → Groups L → Symbol → Type 0
HasNoGroup {L} groups x = (kernel : List (Dotted L)) → Contains groups (x, kernel) → ⊥

-- each symbol that is after a dot has its kernel, and no other symbol has one
pub record AreMoves {L : Type 0} (items : List (Dotted L)) (groups : Groups L) : Type 0 where
  pub each : (x : Symbol) (kernel : List (Dotted L)) → Contains groups (x, kernel) → Shifts x items kernel
  pub other : (x : Symbol) → HasNoGroup groups x → Shifts x items []
  pub some : (x : Symbol) (kernel : List (Dotted L)) → Contains groups (x, kernel) → IsBehindOne x items
  pub has : (x : Symbol) (i : Dotted L) → Contains items i → IsBehind x i → (kernel : List (Dotted L)) × Contains groups (x, kernel)
  pub differ : AllDiffer (keys_of groups)

-- the item with its dot moved was added to the kernel of the symbol after its dot;
-- if the dot is at the end, nothing changed
pub data IsMoveAdded {L : Type 0} (i : Dotted L) (old new : Groups L) : Type 0 where
  over : (x : Symbol) → IsBehind x i → IsPushedAt x (shifted i) old new → AllDiffer (keys_of new) → IsMoveAdded i old new
  at_end : i.index ≡ length i.production.symbols → new ≡ old → IsMoveAdded i old new

-- the entries of the two maps of a state, or of the lists from which they are made
pub record Entries : Type 0 where
  pub shifts : List (TerminalString × StateIndex)
  pub gotos : List (NonterminalString × StateIndex)

-- the entries of the maps
abbrev pub edge_entries : Transitions → Entries
edge_entries edges = record { shifts = edges.shifts.entries; gotos = edges.gotos.entries }

-- the entries of the lists
abbrev pub list_entries : TransitionLists → Entries
list_entries lists = record { shifts = lists.shifts.items; gotos = lists.gotos.items }

-- the entries have one of the symbol with the target
abbrev pub HasEntry : Entries → Symbol → StateIndex → Type 0
HasEntry entries (Nonterminal a) target = Contains entries.gotos (a, target)
HasEntry entries (Terminal t) target = Contains entries.shifts (t, target)

-- the entry of the symbol with the target was added after the others of its kind
abbrev pub IsEntryAdded : Symbol → StateIndex → Entries → Entries → Type 0
IsEntryAdded (Nonterminal a) target old new = (new.gotos ≡ old.gotos ++ (a, target) ∷ []) × (new.shifts ≡ old.shifts)
IsEntryAdded (Terminal t) target old new = (new.shifts ≡ old.shifts ++ (t, target) ∷ []) × (new.gotos ≡ old.gotos)

-- the shifts ascend by their terminals
abbrev pub ShiftsAscend : Transitions → Type 0
ShiftsAscend edges = IsOrdered terminal_ord.ghosts.cmp edges.shifts

-- the maps are made from the lists
pub record AreEdgesListed (lists : TransitionLists) (edges : Transitions) : Type 0 where
  pub shifts : IsFromIterResult terminal_ord.ghosts.cmp lists.shifts.items edges.shifts
  pub gotos : IsFromIterResult name_ord.ghosts.cmp lists.gotos.items edges.gotos

-- the target is the number of the kernel of the symbol
pub record GroupLeadsTo {L : Type 0} (groups : Groups L) (list : List (List (Dotted L))) (x : Symbol) (target : StateIndex) : Type 0 where
  pub kernel : List (Dotted L)
  pub group : Contains groups (x, kernel)
  pub numbered : slice_get list target.0 ≡ Some kernel

-- the edges lead over each symbol to the number of its kernel, and the shifts ascend
pub record AreEdges {L : Type 0} (groups : Groups L) (list : List (List (Dotted L))) (edges : Transitions) : Type 0 where
  pub leads : (x : Symbol) (target : StateIndex) → HasEntry (edge_entries edges) x target → GroupLeadsTo groups list x target
  pub all : (x : Symbol) (kernel : List (Dotted L)) → Contains groups (x, kernel) → (target : StateIndex) × HasEntry (edge_entries edges) x target
  pub ascend : ShiftsAscend edges

-- the new kernels are the old ones, and after them kernels of the groups
pub record AddsKernels {L : Type 0} (groups : Groups L) (old new : Kernels (List (Dotted L))) : Type 0 where
  pub added : List (List (Dotted L))
  pub stay : new.list ≡ old.list ++ added
  pub of : (kernel : List (Dotted L)) → Contains added kernel → (x : Symbol) × Contains groups (x, kernel)
  pub handed : new.handed ≡ old.handed
  pub differ : AllDiffer old.list → AllDiffer new.list

-- the edges lead over each symbol after a dot of the items to the kernel that the symbol gives;
-- kernels that were not in the list were added to it
pub record AreTransitions {L : Type 0} (items : List (Dotted L)) (old new : Kernels (List (Dotted L))) (edges : Transitions) : Type 0 where
  pub groups : Groups L
  pub moves : AreMoves items groups
  pub lead : AreEdges groups new.list edges
  pub reached : AddsKernels groups old new

-- ---- reductions
-- the reduction, with the value of its production
abbrev pub seen_reduction : {L : Type 0} → L × Bor Production → L × Production
seen_reduction r = (r.0, r.1.now)

-- the reductions of items: the lookaheads and productions of the finished ones, in order
abbrev pub reductions_of : {L : Type 0} → List (Dotted L) → List (L × Production)
reductions_of [] = []
reductions_of (i ∷ items) = cond (i.index == length i.production.symbols) ((i.lookahead, i.production) ∷ reductions_of items) (reductions_of items)
