use Rattle.std.proofs.Common.{◌≡◌, ◌++◌, string_bytes}
use Rattle.std.specs.VecDeque.Iter.{deque_iter_rest}
use Rattle.grammar_diagnostics.specs.CyclePaths.{names_now}
use Rattle.lrshow_check.specs.Check.{cycle_names, cycle_text}
use Rattle.lrshow_check.proofs.check.doubts.push_cycle.Given as goal

-- the names so far, and those that are left
abbrev pub invariant-loop-name : goal.invariant-loop-name
invariant-loop-name l =
    string_bytes l.words ++ cycle_names (names_now (deque_iter_rest l.name-iterator))
    ≡ string_bytes l.fn.words ++ cycle_text (names_now l.cycle.items)
