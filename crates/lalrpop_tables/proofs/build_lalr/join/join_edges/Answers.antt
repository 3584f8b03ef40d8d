use Rattle.std.proofs.Common.{◌∙◌, refl}
use Rattle.std.specs.BTreeMap.{get}
use Rattle.std.specs.Cmp.{eq_by_cmp_equiv}
use Rattle.std.specs.Ordering.{eq_by_cmp}
use Rattle.std.proofs.lemmas.Map.Keys.{IsDistinct-from_sorted}
use Rattle.std.proofs.lemmas.Map.Made.{update_all_distinct}
use Rattle.lalrpop_tables.proofs.build_lalr.join.join_edges.Goals as goal

pub returns : goal.returns
returns g c = λ key.
    c.in_ok-append.ensures.inserts_all.0 key
    ∙ update_all_distinct (eq_by_cmp_equiv g.met.K.Ord.total) (eq_by_cmp g.K.Ord.cmp) (λ x y. refl) (get g.K.Ord.cmp c.args.edges.now) c.args.others.entries key (IsDistinct-from_sorted g.K.Ord.cmp _ c.append.ensures.other_was_ordered)
