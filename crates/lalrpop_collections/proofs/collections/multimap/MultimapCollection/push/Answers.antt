use Rattle.lalrpop_collections.proofs.theory.collections.MultimapLemmas.{told_everywhere, err_everywhere}
use Rattle.lalrpop_collections.proofs.collections.multimap.MultimapCollection.push.Goals as goal

pub returns-clause-told : goal.returns-clause-told
returns-clause-told g c =
    told_everywhere g.met.K.Ord.total g.C.Collection.same g.met.C.Collection.same_itself c.args.self.now c.push.new.self c.args.item.0 c.push.result c.push.ensures.others c.push.ensures.told

pub returns-clause-err : goal.returns-clause-err
returns-clause-err g c =
    err_everywhere g.met.K.Ord.total g.C.Collection.same g.met.C.Collection.same_itself c.args.self.now c.push.new.self c.args.item.0 c.push.result c.push.ensures.others c.push.ensures.err
