-- The texts of errors.
use Rattle.std.specs.Prelude.{ℕ, ◌==◌, cond, List, length, ◌++◌, codes, decimal}
use Rattle.lalrpop_states.specs.declared.lr1_core.state.BuildError.{BuildError}
use Rattle.lalrpop_states.specs.declared.lr1_core.state.BuildError.TheVariants.{Conflicts, Memory}

-- the text of a number of conflicts: for example, "1 conflict" or "2 conflicts"
abbrev pub conflicts_text : ℕ → List ℕ
conflicts_text count = cond (count == 1) (codes "1 conflict") (decimal count ++ codes " conflicts")

-- the text of an error of a construction: the number of its conflicts, or "out of memory"
abbrev pub build_error_text : {L : Type 0} → BuildError L → List ℕ
build_error_text (Conflicts error) = conflicts_text (length error.conflicts.items)
build_error_text Memory = codes "out of memory"
