use Rattle.std.proofs.Common.{ℕ, subst}
use Rattle.parser_text.specs.Arrays.{AreArraysOf}
use Rattle.parser_text.specs.Hidden.{hidden_now}
use Rattle.lrshow_parser.proofs.file.packed_of.Goals as goal

pub returns : goal.returns
returns c =
    let listed = c.in_ok-listed.ensures in
    let table = c.in_ok-table.ensures in
    record {
      counted = c.in-Ok.ensures.1;
      arrays = record {
        lists = record { terminals = listed.terminals; nonterminals = listed.nonterminals; productions = listed.productions };
        table = c.in_ok-table.table;
        of_states = record {
          of_states = table.table;
          lists = record { terminals = table.terminals; nonterminals = table.nonterminals; productions = table.productions };
        };
        packs = subst (λ (n : ℕ). AreArraysOf (hidden_now c.args.hidden) c.in_ok-arrays.arrays c.in_ok-listed.listed c.in_ok-table.table n) c.in-Ok.ensures.1 c.in_ok-arrays.ensures;
      };
    }
