-- The definitions that the contracts of this crate name, each with the file that has it.
pub use Rattle.lalrpop_useful.specs.useful.Cycles.{AddsCyclic, DerivesAlone, IsAlone, IsAloneAt, IsAloneOn, IsCyclic}
pub use Rattle.lalrpop_useful.specs.useful.KnownCycles.{AddsIf, AreSettledBut, IsKnown, IsNext, Meet}
pub use Rattle.lalrpop_useful.specs.useful.Productive.{AddsUser, AreNonterminalsAmong, AreProductive, AreTried, HasUsers, HasWaiting, IsProductive, IsTried}
pub use Rattle.lalrpop_grammar.specs.grammars.Entries.{UserMap}
pub use Rattle.lalrpop_useful.specs.useful.Productive.{came, left}
pub use Rattle.lalrpop_grammar.specs.grammars.Entries.{users_at}
pub use Rattle.lalrpop_grammar.specs.grammars.Entries.{listed_names}
pub use Rattle.lalrpop_useful.specs.useful.Reachable.{HasProduction, IsOnRightSide, IsReachable}
pub use Rattle.lalrpop_useful.specs.useful.Repeats.{AddsRepeats, IsFirstWith, IsRepeat, NoneBelow, RepeatsAt, RepeatsBelow}
pub use Rattle.lalrpop_useful.specs.useful.Undefined.{AddsUndefined, IsFirstUse, IsNewUse, IsUndefined, names_of}
