use Rattle.parse_nodes.proofs.Builds.{parse_builds, steps_build}
use Rattle.parse_nodes.proofs.laws.builds_trees.Goals as goal

pub returns-clause-steps : goal.returns-clause-steps
returns-clause-steps _ terminals productions states w n c h i empty handled = steps_build terminals productions states w n c h i empty handled

pub returns-clause-parse : goal.returns-clause-parse
returns-clause-parse _ terminals productions states w n c t h i j empty handled final = parse_builds terminals productions states w n c h i empty handled t j final
