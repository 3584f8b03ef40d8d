use Rattle.std.proofs.Common.{◌≡◌, ◌∙◌, List, ap, arith, subst, sym}
use Rattle.lalrpop_base.specs.Words.{Rules}
use Rattle.lalrpop_grammar.specs.declared.repr.TerminalString.{TerminalString}
use Rattle.canonical_by_number.specs.Closures.{AreFirsts}
use Rattle.canonical_by_number.specs.Edges.{bits_of}
use Rattle.canonical_by_number.proofs.Closures.{firsts_kept}
use Rattle.canonical_by_number.proofs.counting.count_conflicts.Goals as goal

pub first_kernels-requires-clause-few : goal.first_kernels-requires-clause-few
first_kernels-requires-clause-few c = omega (arith, c.len.ensures, c.numbers-numbers.result.now.items.ok)

pub count_all-requires-clause-few : goal.count_all-requires-clause-few
count_all-requires-clause-few c = omega (arith, c.len.ensures, c.numbers-numbers.result.now.items.ok)

pub count_all-requires-clause-bits : goal.count_all-requires-clause-bits
count_all-requires-clause-bits c =
    c.as_slice.ensures.value ∙ c.in_ok-bits.ensures ∙ ap (λ (ts : List TerminalString). bits_of ts c.numbers-numbers.result.now.symbols.items) (ap (λ (r : Rules). r.terminals) c.grammar-grammar.ensures.rules)

pub count_all-requires-clause-firsts : goal.count_all-requires-clause-firsts
count_all-requires-clause-firsts c = firsts_kept c.firsts_of.new.sets c.first_kernels.new.sets c.in_ok-kernels.ensures.kept c.numbers-numbers.result.now c.as_slice-2.result.now (subst (AreFirsts c.numbers-numbers.result.now c.firsts_of.new.sets) (sym c.as_slice-2.ensures.value) c.in_ok-firsts.ensures.firsts)
