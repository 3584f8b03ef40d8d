use Rattle.std.proofs.Common.{ℕ, sym, ap, subst}
use Rattle.std.proofs.Math.Path.{fun_ext}
use Rattle.lalrpop_base.specs.Words.{AreFaithful}
use Rattle.table_numbers.specs.Numbers.{with_items}
use Rattle.table_numbers.proofs.laws.faithful_numbers.Goals as goal

pub returns : goal.returns
returns c = record {
  faithful = λ lists numbers states start are faithful. record {
    tables = are.tables;
    laid_out = are.laid_out;
    about = are.right.about;
    items = λ n. (states n).items;
    faithful = subst (AreFaithful lists.productions start) (fun_ext (λ (n : ℕ). sym (ap (with_items (states n).items) (are.right.same n)))) faithful;
  };
}
