use Rattle.std.proofs.Common.{◌≡◌, ℕ, sym, ◌∙◌, ap, subst, true, refl}
use Rattle.std.specs.Prelude.{slice_get, Some}
use mathlib.Core.Bool.{true≢false}
use Rattle.lalrpop_base.specs.Words.{Bits, has, has-no_bits}
use Rattle.lalrpop_lanes.proofs.theory.follow_sets.Following.{only_bit}
use Rattle.lalrpop_lanes.proofs.lane_table.lane.shifted.Goals as goal

pub returns-in_ok-of-in-Some : goal.returns-in_ok-of-in-Some
returns-in_ok-of-in-Some c = λ bit. (
  λ h.
      let at : slice_get c.args.terminals.now c.in-Some.field-0 ≡ Some c.args.terminal = c.in-Some.ensures.found in
      let here = (only_bit c.in-Some.field-0 bit).0 (subst (λ (s : Bits). has s bit ≡ true) (c.in_ok-of-in-Some.ensures c.in-Some.field-0 at) h) in
      subst (λ (n : ℕ). slice_get c.args.terminals.now n ≡ Some c.args.terminal) (sym here) at,
  λ at. subst (λ (s : Bits). has s bit ≡ true) (sym (c.in_ok-of-in-Some.ensures bit at)) ((only_bit bit bit).1 refl),
)

pub returns-in-None : goal.returns-in-None
returns-in-None c = λ bit. (
  λ h. absurd (true≢false (sym h ∙ ap (λ (s : Bits). has s bit) c.new.ensures ∙ has-no_bits bit)),
  λ at. let found = rw c.in-None.is at (c.bit.ensures.only bit at) in absurd (cc),
)
