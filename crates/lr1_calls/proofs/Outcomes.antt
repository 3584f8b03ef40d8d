-- The outcome for a text, from that for its grammar with the marked nonterminals inlined.
use Rattle.std.proofs.Common.{ℕ, Bool, List, Result, Ok, Err, IfOk, ⊎_elim}
use Rattle.grammar_text.specs.Symbols.{name_of}
use Rattle.lalrpop_collections.specs.declared.memory.OutOfMemory.{OutOfMemory}
use Rattle.lalrpop_construction.specs.declared.options.Method.{Method}
use Rattle.lalrpop_grammar.specs.declared.repr.grammar.Grammar.{Grammar}
use Rattle.program_answers.specs.Inlined.{IsInlining}
use Rattle.lr1_calls.specs.Tables.{IsOutcome, IsOutcomeFor, IsTextOf, OfInlined, no_numbers, no_start}
use Rattle.lr1_calls.specs.declared.tables.Outcome.{Outcome}
use Rattle.lr1_calls.specs.declared.tables.Outcome.TheVariants.{Conflicts, Fault, Memory, Numbers}

module _ (method : Method) (items : Bool) (text start : List ℕ) (g h : Grammar) (of_text : IsTextOf text g) (inlining : IsInlining g h) where
  -- what holds of the grammar with its marked nonterminals inlined holds of the text
  for_text : (P : Grammar → Type 0) → P h → OfInlined text P
  for_text P holds = record { grammar = g; of_text = of_text; inlined = h; inlining = inlining; holds = holds }

  -- so an outcome that is right for the grammar is right for the text
  outcome : (o : Outcome) → IsOutcomeFor method items (name_of start) h o → IsOutcome method items text start o
  outcome (Numbers v) right = for_text _ right
  outcome Conflicts right = for_text _ right
  outcome Fault right = ⊎_elim (λ none. no_start (for_text _ none)) (λ tables. no_numbers (for_text _ tables)) right
  outcome Memory right = tt

  -- and so is the result of a call that may lack memory
  pub right_for_text : (r : Result Outcome OutOfMemory) → IfOk r (IsOutcomeFor method items (name_of start) h) → IfOk r (IsOutcome method items text start)
  right_for_text (Ok o) right = outcome o right
  right_for_text (Err e) right = tt
