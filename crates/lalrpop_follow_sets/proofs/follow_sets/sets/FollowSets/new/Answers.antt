use Rattle.std.proofs.Common.{length}
use Rattle.lalrpop_base.specs.Words.{rules_of}
use Rattle.lalrpop_construction.specs.Words.{places_in}
use Rattle.lalrpop_follow_sets.proofs.theory.follow_sets.FollowClosures.{reached_expanded}
use Rattle.lalrpop_follow_sets.proofs.follow_sets.sets.FollowSets.new.Goals as goal

pub of_expanded-requires-clause-expanded : goal.of_expanded-requires-clause-expanded
of_expanded-requires-clause-expanded c = reached_expanded (rules_of c.args.grammar.now).productions c.args.name.now (places_in c.args.states.now) c.requires.closed (length c.args.states.now) c.requires.reached
