-- Coherent states: their numbers, edges and reductions agree with their items.
use Rattle.std.specs.Prelude.{◌≡◌, ℕ, ◌-◌, ◌<◌, List, length, slice_get, Some}
use Rattle.std.specs.Borrow.{Bor}
use Rattle.lalrpop_collections.specs.lists.Each.{EachItem, EachEntry}
use Rattle.lalrpop_states.specs.states.Items.{Dotted}
use Rattle.lalrpop_grammar.specs.declared.repr.Production.{Production}
use Rattle.lalrpop_grammar.specs.declared.repr.Symbol.{Symbol}
use Rattle.lalrpop_grammar.specs.declared.repr.Symbol.TheVariants.{Nonterminal, Terminal}
use Rattle.lalrpop_states.specs.declared.lr1_core.state.State.{State}
use Rattle.lalrpop_states.specs.declared.lr1_core.coherent.SymbolRef.{SymbolRef}
use Rattle.lalrpop_states.specs.declared.lr1_core.coherent.SymbolRef.TheVariants.{Nonterminal as NonterminalRef, Terminal as TerminalRef}

-- the symbol that a borrowed symbol means
abbrev pub symbol_of_ref : SymbolRef → Symbol
symbol_of_ref (NonterminalRef name) = Nonterminal name.now
symbol_of_ref (TerminalRef t) = Terminal t.now

module _ {L : Type 0} where
  -- the item is the production with the dot at the index
  pub record IsAt (item : Dotted L) (production : Production) (index : ℕ) : Type 0 where
    pub same : item.production ≡ production
    pub dot : item.index ≡ index

  -- one of the items is the production with the dot at the index
  abbrev pub HasItem : List (Dotted L) → Production → ℕ → Type 0
  HasItem items production index = (k : ℕ) × (item : Dotted L) × (slice_get items k ≡ Some item) × IsAt item production index

  -- the symbol is before the dot of the item, and the source has the item with the dot before it
  pub record IsShiftedFrom (source : List (Dotted L)) (symbol : Symbol) (item : Dotted L) : Type 0 where
    pub over : slice_get item.production.symbols (item.index - 1) ≡ Some symbol
    pub origin : HasItem source item.production (item.index - 1)

  -- each item of the target whose dot is past the start comes over the symbol from the source
  abbrev pub IsCoherentEdge : List (Dotted L) → Symbol → List (Dotted L) → Type 0
  IsCoherentEdge source symbol target = EachItem (λ (item : Dotted L). 0 < item.index → IsShiftedFrom source symbol item) target

  -- the edge leads to a state of the list, whose moved items come over the symbol from the source
  pub record IsCoherentStep (states : List (State L)) (source : List (Dotted L)) (symbol : Symbol) (target : ℕ) : Type 0 where
    pub to : State L
    pub there : slice_get states target ≡ Some to
    pub came : IsCoherentEdge source symbol to.items.vec.items

  -- all dots are at the start
  abbrev pub StartsAtZero : List (Dotted L) → Type 0
  StartsAtZero items = EachItem (λ (item : Dotted L). item.index ≡ 0) items

  -- each reduction is by the production of a finished item
  abbrev pub AreFinished : List (Dotted L) → List (L × Bor Production) → Type 0
  AreFinished items reductions = EachItem (λ (r : L × Bor Production). HasItem items r.1.now (length r.1.now.symbols)) reductions

  -- the state is coherent: its number is its place, and state 0 has all dots at the start;
  -- its edges lead to states of the list whose moved items come from it;
  -- its reductions are by the productions of finished items
  pub record IsCoherentState (states : List (State L)) (place : ℕ) (state : State L) : Type 0 where
    pub numbered : state.index.0 ≡ place
    pub start : place ≡ 0 → StartsAtZero state.items.vec.items
    pub shifts : EachEntry (λ t target. IsCoherentStep states state.items.vec.items (Terminal t) target.0) state.shifts.entries
    pub gotos : EachEntry (λ name target. IsCoherentStep states state.items.vec.items (Nonterminal name) target.0) state.gotos.entries
    pub finished : AreFinished state.items.vec.items state.reductions.items

  -- each state of the list is coherent, as many calls that take states require
  abbrev pub AreCoherent : List (State L) → Type 0
  AreCoherent states = (place : ℕ) (state : State L) → slice_get states place ≡ Some state → IsCoherentState states place state
