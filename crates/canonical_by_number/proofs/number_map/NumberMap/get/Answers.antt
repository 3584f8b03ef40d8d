use Rattle.canonical_by_number.proofs.Closures.{value_there}
use Rattle.canonical_by_number.proofs.number_map.NumberMap.get.Goals as goal

pub returns-in-Some-clause-found : goal.returns-in-Some-clause-found
returns-in-Some-clause-found c =
    let found = rw (← c.self.view_is) at c.in-Some.ensures.found in
    rw (← c.self.view_is) (value_there c.self.inside.entries.items c.in-Some.place c.args.number c.index.result.now found c.index.ensures)
