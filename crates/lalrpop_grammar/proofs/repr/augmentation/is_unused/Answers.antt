use Rattle.std.proofs.Common.{sym, ap, ◌∙◌}
use Rattle.std.specs.Option.{option_copied}
use Rattle.lalrpop_grammar.proofs.repr.augmentation.is_unused.Goals as goal

pub returns-in-None : goal.returns-in-None
returns-in-None c = (
  λ h. (sym c.get.ensures.value ∙ ap option_copied c.in-None.is, c.is_on_no_right_side.ensures.0 h),
  λ free. c.is_on_no_right_side.ensures.1 free.1,
)
