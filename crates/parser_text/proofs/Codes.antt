-- The numbers of actions.
use Rattle.std.proofs.Common.{◌≡◌, ℕ, ◌+◌, ◌-◌, ◌<◌, ◌≤◌, ◌==◌, cond, nat_lt, true, false, List, length, slice_get, None, Some, option_map, ◌∙◌, ap, arith, lt-ltb, ne_eqb}
use Rattle.std.proofs.lemmas.Bool.{le-ltb}
use Rattle.lalrpop_base.specs.Words.{ReduceBy, ShiftTo}
use Rattle.lalrpop_grammar.specs.declared.repr.Production.{Production}
use Rattle.parse_tables.specs.Actions.{entry_by}
use Rattle.parse_tables.specs.Codes.{entry_of, reduction_entry}
use Rattle.parse_tables.specs.declared.table.TableAction.TheVariants.{None as NoAction, Shift, Reduce}

module _ (productions : List Production) where
  -- the number of a shift
  shift_code : (target : ℕ) → entry_of productions (length productions + 1 + target) ≡ Some (ShiftTo target)
  shift_code target =
      let code = length productions + 1 + target in
      let above : nat_lt (length productions) code ≡ true = lt-ltb (length productions) code (omega arith) in
      let back : code - length productions - 1 ≡ target = omega arith in
      ap (λ b. cond b (Some (ShiftTo (code - length productions - 1))) (reduction_entry productions code)) above ∙ ap (λ n. Some (ShiftTo n)) back

  -- a number that is not above the number of productions is of a reduction, if it is of any entry
  low_code : (code : ℕ) → code ≤ length productions → entry_of productions code ≡ reduction_entry productions code
  low_code code few = ap (λ b. cond b (Some (ShiftTo (code - length productions - 1))) (reduction_entry productions code)) (le-ltb (length productions) code few)

  -- the number of no action is 0
  pub no_code : (code : ℕ) → code ≡ 0 → entry_of productions code ≡ entry_by productions NoAction
  no_code code is = ap (entry_of productions) is ∙ low_code 0 (omega arith)

  -- the number of a shift is that of its state after those of reductions
  pub code_of-shift : (code target : ℕ) → code ≡ length productions + 1 + target → entry_of productions code ≡ entry_by productions (Shift target)
  code_of-shift code target is = ap (entry_of productions) is ∙ shift_code target

  -- the number of a reduction is that of its production and 1
  pub code_of-reduce : (code number : ℕ) → number < length productions → code ≡ number + 1 → entry_of productions code ≡ entry_by productions (Reduce number)
  code_of-reduce code number few is =
      let some : (number + 1 == 0) ≡ false = ne_eqb (number + 1) 0 (λ e. omega (arith, e)) in
      let back : number + 1 - 1 ≡ number = omega arith in
      ap (entry_of productions) is
      ∙ low_code (number + 1) (omega (arith, few))
      ∙ ap (λ b. cond b None (option_map ReduceBy (slice_get productions (number + 1 - 1)))) some
      ∙ ap (λ n. option_map ReduceBy (slice_get productions n)) back
