-- The texts that are written without a file.
use Rattle.std.specs.Prelude.{◌≡◌, ℕ, List, ◌++◌, codes}
use Rattle.program_answers.specs.Texts.{line}
use Rattle.lrshow_arguments.specs.declared.help.TheConstants.{DETAILS}
use Rattle.lrshow_arguments.specs.Words.{Text, Help, Version}

-- the usage text of `lrshow`
abbrev pub usage : List ℕ
usage = line (codes "usage: lrshow FILE START (check [--json] | conflicts | tree [--dot] TOKEN.. | json | dot [--around STATE [--depth N] | --conflicts] | html | c [--augment] [--prefix NAME] | rust [--augment] | python [--augment])")

-- a text is that which is asked for: the usage and what it means, or the version
abbrev pub IsText : Text → List ℕ → Type 0
IsText Help text = text ≡ usage ++ DETAILS.now
IsText Version text = text ≡ line (codes "lrshow 0.23.1")
