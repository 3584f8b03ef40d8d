-- The errors of a step of inlining.
use Rattle.std.specs.Prelude.{ℕ, ◌<◌, ◌^◌}
use Rattle.lalrpop_grammar.specs.declared.repr.norm_error.NormError.{NormError}
use Rattle.lalrpop_grammar.specs.declared.repr.norm_error.NormError.TheVariants.{Cycle, TooManyActions, Memory}

-- there are more actions to define than numbers for them, 0 to 4294967295; nothing is said of an
-- allocation failure
abbrev pub IsPastLast : ℕ → NormError → Type 0
IsPastLast actions (Cycle span name) = ⊥
IsPastLast actions TooManyActions = 2 ^ 32 < actions
IsPastLast actions Memory = Unit {0}
