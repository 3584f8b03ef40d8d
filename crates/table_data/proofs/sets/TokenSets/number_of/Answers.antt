use Rattle.std.proofs.Common.{◌≡◌, List, ◌∙◌, ap, arith, length}
use Rattle.lalrpop_base.specs.Words.{Bits}
use Rattle.table_data.specs.Sets.{number_of}
use Rattle.table_data.proofs.NumberedSets.{number_past}
use Rattle.table_data.proofs.sets.TokenSets.number_of.Goals as goal

pub returns-in-None : goal.returns-in-None
returns-in-None c =
    let size : c.len.result ≡ length c.self.inside.list.items = omega arith in
    size
    ∙ number_past c.self.inside.list.items c.args.set.now (c.in-None.ensures.value ∙ c.self.invariant.numbered c.args.set.now)
    ∙ ap (λ (sets : List Bits). number_of sets c.args.set.now) c.self.view_is
