use Rattle.std.proofs.Common.{◌≡◌, map, take}
use Rattle.std.specs.List.{All}
use Rattle.lalrpop_ambiguity.specs.witnesses.Searches.{AreCommonMoves}
use Rattle.lalrpop_base.specs.Words.{productions}
use Rattle.table_data.specs.Causes.{HasWitness}
use Rattle.table_data.specs.declared.causes.ShownCause.{ShownCause}
use Rattle.table_data.proofs.causes.shown_all.Given as goal

-- the causes so far have their numbers, witnesses and moves in common
abbrev pub invariant-loop-cause : goal.invariant-loop-cause
invariant-loop-cause l =
    (map (λ (s : ShownCause). s.conflicts.items) l.shown.items ≡ take l.cause-index l.all)
    × All (λ (s : ShownCause). HasWitness (productions l.finder.ground.grammar.now) s.search) l.shown.items
    × All (λ (s : ShownCause). AreCommonMoves s.moves s.search) l.shown.items
