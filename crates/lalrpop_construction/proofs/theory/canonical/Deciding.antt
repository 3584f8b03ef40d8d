-- If states of the construction have no conflict, they are faithful, and the grammar is LR(1).
use Rattle.std.proofs.Common.{◌≡◌, ℕ, true, List, refl, arith, Option, Some, None}
use Rattle.std.specs.Prelude.{slice_get}
use Rattle.lalrpop_base.specs.Words.{Bits, contents, contents_at, holds_token, Dotted, AllDiffer, Contents, AreFaithful, productions, rules_of, IsWellFormed}
use Rattle.lalrpop_grammar.specs.conflicts.Conflicts.{HasNoConflict as HoldsNoConflict}
use Rattle.lalrpop_construction.proofs.Types.{Grammar, NonterminalString, State}
use Rattle.lr1_theory.proofs.theory.closures.Canonical.{no_conflict_faithful}
use Rattle.lalrpop_construction.specs.Words.{tokens_of, AreCanonicalStates}
use Rattle.lalrpop_base.specs.Words.{AreOwn, IsClosureOf, AreAllConflictFree}
use Rattle.lalrpop_construction.specs.Words.{ArePartlyBuiltBy, AreSomeCanonicalStates, AreStatesOf, AreTables, canonical_of}
use Rattle.lalrpop_base.specs.Words.{AreBuiltBy}
use Rattle.lalrpop_construction.proofs.theory.canonical.CanonicalContents.{are_canonical}
use Rattle.lalrpop_construction.proofs.theory.conflicts.ConflictFree.{nowhere_conflict, free_contents}
use Rattle.lalrpop_construction.proofs.theory.early_stop.StoppedStates.{kernel_at_start, some_canonical_states}

module _ (g : Grammar) (start : NonterminalString) (well : IsWellFormed g) (own : AreOwn g) (differ : AllDiffer g.terminals) (states : List (State Bits)) (made : AreStatesOf (canonical_of g start) states) where
  abbrev now : ℕ → Contents
  now = contents g.terminals states

  canonical : AreCanonicalStates (rules_of g) start states
  canonical = are_canonical g start well own differ states made

  free_at : AreAllConflictFree g.terminals states → (n : ℕ) (o : Option (State Bits)) → slice_get states n ≡ o → HoldsNoConflict (contents_at (holds_token g.terminals) o)
  free_at free n None at = nowhere_conflict
  free_at free n (Some s) at = free_contents g.terminals s (free n s at)

  pub free_faithful : AreAllConflictFree g.terminals states → AreFaithful (productions g) start now
  free_faithful free = no_conflict_faithful (productions g) start now (λ n p dot t. tokens_of g.terminals states n p dot t ≡ true) canonical.canonical (λ u n live after. free_at free n (slice_get states n) refl)

-- states that are built from all kernels are built from the first kernels
pub whole_partly : (C : List (Dotted Bits) → List (Dotted Bits) → Type 0) (first : List (Dotted Bits)) (states : List (State Bits)) → AreBuiltBy C first states → ArePartlyBuiltBy C first states
whole_partly C first states b = record {
  kernels = b.kernels;
  fewer = let c = b.counted in omega arith;
  differ = b.differ;
  start = b.start;
  each = b.each;
  led = b.led;
}

-- ---- the results of the construction
module _ (g : Grammar) (start : NonterminalString) (well : IsWellFormed g) (own : AreOwn g) (differ : AllDiffer g.terminals) where
  pub tables_canonical : (tables : List (State Bits)) → AreTables (canonical_of g start) tables → AreCanonicalStates (rules_of g) start tables
  tables_canonical tables t = are_canonical g start well own differ tables t.made

  pub tables_faithful : (tables : List (State Bits)) → AreTables (canonical_of g start) tables → AreFaithful (productions g) start (contents g.terminals tables)
  tables_faithful tables t = free_faithful g start well own differ tables t.made t.free

  pub tables_valid : (tables : List (State Bits)) → AreTables (canonical_of g start) tables → AreSomeCanonicalStates (rules_of g) start tables
  tables_valid tables t = some_canonical_states g start well own tables (whole_partly (IsClosureOf (rules_of g)) (kernel_at_start g start) tables t.made.built) differ
