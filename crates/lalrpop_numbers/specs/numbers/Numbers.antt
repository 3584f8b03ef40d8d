-- The symbols and dotted productions of a grammar by number, and items by number.
use Rattle.std.specs.Prelude.{◌==◌, ◌&&◌, Bool, true, ◌≡◌, ◌+◌, ◌<◌, ◌≤◌, ◌↔◌, ℕ, zero, suc, List, [], ◌∷◌, length, map, slice_get, Option, Some, MatchOption, Contains}
use Rattle.std.specs.declared.cmp.Ordering.{Ordering}
use Rattle.std.specs.List.Sorted.{IsStrictlySortedBy}
use Rattle.std.proofs.Common.{ap, ◌∙◌, eqb-true}
use Rattle.lalrpop_collections.specs.lists.Exact.{Exactly, both}
use Rattle.lalrpop_collections.specs.lists.Each.{Ordered}
use Rattle.lalrpop_grammar.specs.grammars.WellFormed.{Rules}
use Rattle.lalrpop_collections.specs.lists.Places.{AllDiffer}
use Rattle.lalrpop_states.specs.states.Items.{Dotted}
use Rattle.lalrpop_collections.specs.states.Kernels.{Kernels}
use Rattle.lalrpop_grammar.specs.declared.repr.TerminalString.TheVariants.{Error}
use Rattle.lalrpop_states.specs.declared.lookahead.nil.Nil.{Nil}
use Rattle.lalrpop_grammar.specs.declared.repr.Production.{Production}
use Rattle.lalrpop_grammar.specs.declared.repr.Symbol.{Symbol}
use Rattle.lalrpop_grammar.specs.declared.repr.Symbol.TheVariants.{Nonterminal, Terminal}
use Rattle.lalrpop_grammar.specs.contracts.repr.SymbolOrd.TheImpl as symbol_ord
use Rattle.lalrpop_states.specs.grammars.Ascending.{Ascend}
use Rattle.lalrpop_numbers.specs.numbers.Suffixes.{AreSuffixes}
use Rattle.lalrpop_states.specs.construction.Transitions.{Groups, IsBehindOne, shifted}
use Rattle.lalrpop_numbers.specs.declared.numbers.numbered.Numbered.{Numbered}
use Rattle.lalrpop_numbers.specs.declared.numbers.Numbers.{Numbers}

-- ---- the numbers of a grammar
-- the items are the dotted productions of the grammar, ascending
pub record AreItemsOf (g : Rules) (items : List (Dotted Nil)) : Type 0 where
  pub each : (i : Dotted Nil) → Contains items i → Contains g.productions i.production × (i.index ≤ length i.production.symbols)
  pub all : (p : Production) (dot : ℕ) → Contains g.productions p → dot ≤ length p.symbols → Contains items (record { production = p; index = dot; lookahead = record {} })
  pub ascend : Ascend items

-- a dotted production whose dot can move is followed by the one with the dot moved
abbrev pub MovesToNext : List (Dotted Nil) → Type 0
MovesToNext items = (k : ℕ) (i : Dotted Nil) → slice_get items k ≡ Some i → i.index < length i.production.symbols → slice_get items (k + 1) ≡ Some (shifted i)

-- the number is that of the symbol after the dot, and there is none if the dot is at the end
abbrev pub IsNumberBehind : List Symbol → Dotted Nil → Option ℕ → Type 0
IsNumberBehind symbols i behind = MatchOption behind (i.index ≡ length i.production.symbols) (λ x. (s : Symbol) × (slice_get symbols x ≡ Some s) × (slice_get i.production.symbols i.index ≡ Some s))

-- the order of symbols: nonterminals before terminals, and each kind by its own order
abbrev pub symbol_order : Symbol → Symbol → Ordering
symbol_order = symbol_ord.ghosts.cmp

-- the symbols are in strictly ascending order
abbrev pub SymbolsAscend : List Symbol → Type 0
SymbolsAscend symbols = IsStrictlySortedBy symbol_order symbols

-- the symbols are those after the dots
abbrev pub AreBehindDots : List (Dotted Nil) → List Symbol → Type 0
AreBehindDots items symbols = (s : Symbol) → Contains symbols s ↔ IsBehindOne s items

-- the numbers are those of the productions, with the dot at the start, of the nonterminal that the
-- symbol is
abbrev pub AreExpansions : List (Dotted Nil) → Symbol → List ℕ → Type 0
AreExpansions items s numbers = (k : ℕ) → Contains numbers k ↔ ((i : Dotted Nil) × (slice_get items k ≡ Some i) × (i.index ≡ 0) × (s ≡ Nonterminal i.production.nonterminal))

-- the numbers of a grammar are its dotted productions and the symbols of its right sides, each
-- once. They have the number of the symbol after each dot, the expansions of each nonterminal, and
-- the rest of each dotted production
pub record AreNumbers (g : Rules) (n : Numbers) : Type 0 where
  pub items : AreItemsOf g n.items.items
  pub next : MovesToNext n.items.items
  pub behind : (k : ℕ) (i : Dotted Nil) (x : Option ℕ) → slice_get n.items.items k ≡ Some i → slice_get n.behind.items k ≡ Some x → IsNumberBehind n.symbols.items i x
  pub differ : AllDiffer n.symbols.items
  pub symbols : AreBehindDots n.items.items n.symbols.items
  pub symbols_ascend : SymbolsAscend n.symbols.items
  pub expansions : (x : ℕ) (s : Symbol) (numbers : List ℕ) → slice_get n.symbols.items x ≡ Some s → slice_get (map (λ v. v.items) n.expansions.items) x ≡ Some numbers → AreExpansions n.items.items s numbers
  pub suffixes : AreSuffixes g n.items.items n.suffixes.items

-- ---- items by number
-- the production without a name or symbols, which `dotted_at` returns if no item has the number
abbrev pub empty_item : Dotted Nil
empty_item = record { production = record { nonterminal = record { text = [] }; symbols = []; action = record { 0 = 0 }; span = record { 0 = 0; 1 = 0 } }; index = 0; lookahead = record {} }

-- the dotted production with the number
abbrev pub dotted_at : List (Dotted Nil) → ℕ → Dotted Nil
dotted_at [] n = empty_item
dotted_at (i ∷ is) zero = i
dotted_at (i ∷ is) (suc n) = dotted_at is n

-- the item that an item by number is
abbrev pub item_by : {L : Type 0} → List (Dotted Nil) → Numbered L → Dotted L
item_by items e = record { production = (dotted_at items e.number).production; index = (dotted_at items e.number).index; lookahead = e.lookahead }

-- the items that items by number are
abbrev pub items_by : {L : Type 0} → List (Dotted Nil) → List (Numbered L) → List (Dotted L)
items_by items list = map (item_by items) list

-- each number is that of a dotted production
abbrev pub AreNumbered : {L : Type 0} → List (Dotted Nil) → List (Numbered L) → Type 0
AreNumbered {L} items list = (e : Numbered L) → Contains list e → e.number < length items

-- each number in each list is that of a dotted production
abbrev pub AreAllNumbered : {L : Type 0} → List (Dotted Nil) → List (List (Numbered L)) → Type 0
AreAllNumbered {L} items lists = (list : List (Numbered L)) → Contains lists list → AreNumbered items list

-- the kernels that kernels by number are
abbrev pub kernels_by : {L : Type 0} → List (Dotted Nil) → Kernels (List (Numbered L)) → Kernels (List (Dotted L))
kernels_by items kernels = record { list = map (items_by items) kernels.list; handed = kernels.handed }

-- the symbol with the number
abbrev pub symbol_at : List Symbol → ℕ → Symbol
symbol_at [] n = Terminal Error
symbol_at (x ∷ xs) zero = x
symbol_at (x ∷ xs) (suc n) = symbol_at xs n

-- groups by number: each has the number of a symbol, and the items by number to which the symbol
-- leads
abbrev pub NumberedGroups : Type 0 → Type 0
NumberedGroups L = List (ℕ × List (Numbered L))

-- the groups that groups by number are: each has a symbol, and the items to which it leads
abbrev pub groups_by : {L : Type 0} → Numbers → NumberedGroups L → Groups L
groups_by {L} n groups = map (λ (g : ℕ × List (Numbered L)). (symbol_at n.symbols.items g.0, items_by n.items.items g.1)) groups

-- the numbers of symbols and of items are those of the grammar
abbrev pub AreGroupsOf : {L : Type 0} → Numbers → NumberedGroups L → Type 0
AreGroupsOf {L} n groups = (g : ℕ × List (Numbered L)) → Contains groups g → (g.0 < length n.symbols.items) × AreNumbered n.items.items g.1

-- the numbers at the front of the pairs ascend
abbrev pub NumbersAscend : {V : Type 0} → List (ℕ × V) → Type 0
NumbersAscend {V} list = Ordered (λ (d e : ℕ × V). d.0 < e.0) list

-- items by number are equal if their numbers are equal and `F` says that their lookaheads are
pub numbered_exact : {L : Type 0} (F : L → L → Bool) → Exactly F → (a b : Numbered L) → ((a.number == b.number) && F a.lookahead b.lookahead) ≡ true → a ≡ b
numbered_exact {L} F f a b h =
    let make : ℕ → L → Numbered L = λ n l. record { number = n; lookahead = l } in
    let parts = both (a.number == b.number) (F a.lookahead b.lookahead) h in
    ap (λ n. make n a.lookahead) (eqb-true _ _ parts.0) ∙ ap (λ l. make b.number l) (f _ _ parts.1)
