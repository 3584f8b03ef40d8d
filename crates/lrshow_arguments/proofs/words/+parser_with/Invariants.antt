use Rattle.std.proofs.Common.{length}
use Rattle.lrshow_arguments.proofs.words.+parser_with.Given as goal

abbrev pub decreases-parser_with : goal.decreases-parser_with
decreases-parser_with l = length l.rest.now
