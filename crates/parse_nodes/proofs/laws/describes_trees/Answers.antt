use Rattle.parse_nodes.proofs.Seen.{counted, told}
use Rattle.parse_nodes.proofs.Unique.{same_trees}
use Rattle.parse_nodes.proofs.laws.describes_trees.Goals as goal

pub returns-clause-terminals : goal.returns-clause-terminals
returns-clause-terminals c = told

pub returns-clause-count : goal.returns-clause-count
returns-clause-count c = counted

pub returns-clause-unique : goal.returns-clause-unique
returns-clause-unique c = same_trees
