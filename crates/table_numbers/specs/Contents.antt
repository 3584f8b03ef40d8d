-- The contents of the states of tables by number, to which the definitions of LR(1) parsing apply.
use Rattle.std.specs.Prelude.{ℕ, Bool, false, cond, List, [], ◌∷◌, slice_get, Option, Some, None}
use Rattle.std.specs.List.{filter_map}
use Rattle.std.specs.BTreeMap.{is_at}
use Rattle.lalrpop_base.specs.Words.{Contents, bits_of, holds_token, name_cmp, no_contents}
use Rattle.lalrpop_grammar.specs.states.States.{Reduction}
use Rattle.lalrpop_grammar.specs.contracts.repr.TerminalStringOrd.TheImpl as terminal_ord
use Rattle.lalrpop_grammar.specs.declared.repr.Production.{Production}
use Rattle.lalrpop_grammar.specs.declared.repr.TerminalString.{TerminalString}
use Rattle.table_numbers.specs.Lists.{Lists, named}
use Rattle.table_numbers.specs.declared.tables.NumberedState.{NumberedState}
use Rattle.table_numbers.specs.declared.tables.NumberedTables.{NumberedTables}

-- whether a name passes a test, if there is one
abbrev pub passes : {A : Type 0} → (A → Bool) → Option A → Bool
passes test None = false
passes test (Some x) = test x

-- the target of the first name that passes a test
abbrev pub target_at : {A : Type 0} → (A → Bool) → List (Option A × ℕ) → Option ℕ
target_at test [] = None
target_at test (e ∷ es) = cond (passes test e.0) (Some e.1) (target_at test es)

-- the reduction by a production on the tokens of a set, if there are both
abbrev pub reduction_on_set : List TerminalString → Option Production → Option (List ℕ) → Option Reduction
reduction_on_set terminals None set = None
reduction_on_set terminals (Some p) None = None
reduction_on_set terminals (Some p) (Some set) = Some (record { production = p; holds = holds_token terminals (bits_of set) })

-- the reduction by the production with a number, on the tokens of the set with a number
abbrev pub numbered_reduction : Lists → List (List ℕ) → ℕ × ℕ → Option Reduction
numbered_reduction lists sets r = reduction_on_set lists.terminals (slice_get lists.productions r.0) (slice_get sets r.1)

-- the contents of a state by number, without items
abbrev pub state_contents : Lists → List (List ℕ) → NumberedState → Contents
state_contents lists sets s = record {
  items = [];
  shift = λ t. target_at (is_at (terminal_ord.ghosts.cmp t)) (named lists.terminals s.shifts);
  goto = λ name. target_at (is_at (name_cmp name)) (named lists.nonterminals s.gotos);
  reductions = filter_map (numbered_reduction lists sets) s.reductions;
}

-- the contents of a state, or empty contents if there is no state
abbrev pub contents_if : Lists → List (List ℕ) → Option NumberedState → Contents
contents_if lists sets None = no_contents
contents_if lists sets (Some s) = state_contents lists sets s

-- the contents of the state with each number, without items
abbrev pub numbered_contents : Lists → NumberedTables → ℕ → Contents
numbered_contents lists t n = contents_if lists t.sets (slice_get t.states n)
