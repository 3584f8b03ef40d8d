use Rattle.std.proofs.lemmas.Result.{IfOk-weaker}
use Rattle.lrshow_parser.proofs.SameGrammars.{many_actions}
use Rattle.lrshow_parser.proofs.augmented.not_augmented.Goals as goal
use Rattle.lrshow_parser.proofs.augmented.not_augmented.Goals.{in-Memory, in_default}

pub returns : goal.returns
returns c = λ g refused. elim c.match-error.branch [
  | in-Memory w ↦ rw w.result-is tt
  | in_default w ↦ rw w.result-is (IfOk-weaker w.no_file.result _ _ (λ s out. record {
    refused = many_actions g c.args.error w.in_default.not-Memory refused;
    shown = out;
  }) w.no_file.ensures)
]
