-- The comment at the top of a file.
use Rattle.std.specs.Prelude.{ℕ, List, ◌++◌, codes}
use Rattle.std.specs.Fmt.{decimal}

-- the line on the tables
abbrev pub about_text : List ℕ → List ℕ → List ℕ → ℕ → List ℕ
about_text sign start method states = sign ++ (codes " Start symbol: " ++ (start ++ (codes ". Method: " ++ (method ++ (codes ". Conflicts: none. States: " ++ (decimal states ++ codes ".\n"))))))

-- the comment: what made the file, the tables, and how to use it
abbrev pub heading_text : List ℕ → List ℕ → List ℕ → ℕ → List ℕ → List ℕ
heading_text sign start method states usage = sign ++ (codes " A parser by the LR(1) tables of lrshow 0.23.1. Do not edit it.\n" ++ (sign ++ (codes "\n" ++ (about_text sign start method states
    ++ (sign ++ (codes " The tables are exact: a state has an action on a terminal only if the LR(1) tables have one.\n" ++ (sign ++ (codes " " ++ (usage ++ codes "\n")))))))))
