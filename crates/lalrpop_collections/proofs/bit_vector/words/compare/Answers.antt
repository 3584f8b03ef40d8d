use Rattle.std.proofs.Common.{◌∙◌, sym, ap, refl, List, ℕ}
use Rattle.std.specs.Ordering.{nat_cmp}
use Rattle.std.specs.Cmp.Lexicographic.{slice_cmp}
use Rattle.std.proofs.lemmas.Cmp.{nat_list_cmp_total, tied_itself}
use Rattle.lalrpop_collections.specs.lists.BitVectors.{members_from}
use Rattle.lalrpop_collections.proofs.bit_vector.words.compare.Goals as goal

pub returns-in-None : goal.returns-in-None
returns-in-None c =
    let left = members_from c.args.left.now 0 in
    sym (ap (λ (ws : List ℕ). slice_cmp nat_cmp left (members_from ws 0)) (sym (c.in-None.ensures.none refl)) ∙ tied_itself nat_list_cmp_total left)
