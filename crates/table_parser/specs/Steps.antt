-- Runs whose steps a handler takes.
use Rattle.std.specs.Prelude.{◌≡◌, ℕ, suc, List, drop, length, slice_get, Some}
use Rattle.lalrpop_base.specs.Words.{Configuration, Contents, Ends, Goes, IsBitOf, ReduceBy, ShiftTo, Tree, action_on, move, next_token}
use Rattle.lalrpop_grammar.specs.declared.repr.Production.{Production}
use Rattle.lalrpop_grammar.specs.declared.repr.TerminalString.{TerminalString}
use Rattle.table_parser.specs.Events.{Event, Reduced, Shifted, width}

-- the event of the step that a configuration makes. Its positions are numbers of terminals: those
-- that were read, and those of the trees below the children of a node
pub data IsEvent (terminals : List TerminalString) (productions : List Production) (states : ℕ → Contents) (c : Configuration) : Event → Type 0 where
  shifts : (target bit : ℕ) → action_on (states c.state) (next_token c.rest) ≡ Some (ShiftTo target) → IsBitOf terminals (next_token c.rest) bit → IsEvent terminals productions states c (Shifted (width c.trees) bit)
  reduces : (p : Production) (number : ℕ) → action_on (states c.state) (next_token c.rest) ≡ Some (ReduceBy p) → slice_get productions number ≡ Some p → IsEvent terminals productions states c (Reduced number (length p.symbols) (width (drop (length p.symbols) c.trees)) (width c.trees))

-- a step leads from one configuration to another, and the handler takes its event
pub record IsStep (terminals : List TerminalString) (productions : List Production) (states : ℕ → Contents) {H : Type 0} (takes : H → Event → H → Type 0) (c d : Configuration) (h i : H) : Type 0 where
  pub event : Event
  pub is : IsEvent terminals productions states c event
  pub moves : move states c ≡ Goes d
  pub taken : takes h event i

-- the step that ends a run, with the trees that it leaves
pub record IsFinal (terminals : List TerminalString) (productions : List Production) (states : ℕ → Contents) {H : Type 0} (takes : H → Event → H → Type 0) (c : Configuration) (trees : List Tree) (h i : H) : Type 0 where
  pub event : Event
  pub is : IsEvent terminals productions states c event
  pub ends : move states c ≡ Ends trees
  pub taken : takes h event i

-- so many steps lead from one configuration to another, and the handler takes their events, in order
pub data Handles (terminals : List TerminalString) (productions : List Production) (states : ℕ → Contents) {H : Type 0} (takes : H → Event → H → Type 0) : ℕ → Configuration → H → Configuration → H → Type 0 where
  nothing : {c : Configuration} {h : H} → Handles terminals productions states takes 0 c h c h
  once_more : {n : ℕ} {c d e : Configuration} {h i j : H} → Handles terminals productions states takes n c h d i → IsStep terminals productions states takes d e i j → Handles terminals productions states takes (suc n) c h e j
