use Rattle.std.proofs.Common.{◌<◌, ℕ, List, get_or, length, subst, sym}
use Rattle.std.proofs.lemmas.List.Elements.{Contains-get_or}
use Rattle.table_data.proofs.causes.shown_cause.Goals as goal

pub conflict_at-first-requires : goal.conflict_at-first-requires
conflict_at-first-requires c =
    let cause : List ℕ = c.args.cause.now in
    subst (λ (numbers : List ℕ). get_or numbers 0 0 < length c.args.conflicts.now) (sym c.conflicts-numbers.ensures) (c.requires.within (get_or cause 0 0) (Contains-get_or cause 0 0 c.requires.some))
