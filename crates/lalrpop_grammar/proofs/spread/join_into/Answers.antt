use Rattle.lalrpop_collections.proofs.theory.lists.Spreading.{joined_itself, joined_apart}
use Rattle.lalrpop_grammar.proofs.spread.join_into.Goals as goal

pub returns-then-from-to : goal.returns-then-from-to
returns-then-from-to c = joined_itself c.args.from c.args.to c.args.sets.now.items c.if-from-to.true

pub returns : goal.returns
returns c =
    joined_apart c.args.from c.args.to c.args.sets.now.items c.replace-set.new.dest c.replace-set.result c.index_mut-2.result.now c.union_with.new.self c.if-from-to.false c.requires.from c.requires.to c.in_ok-grew.grew
    (rw c.replace-set.ensures.value c.index_mut.ensures.value) c.index_mut-2.ensures.value c.in_ok-grew.ensures.joined c.in_ok-grew.ensures.told
