use Rattle.std.proofs.Common.{ℕ, List, refl, sym, subst}
use Rattle.parse_calls.specs.Answers.{parse_answer}
use Rattle.table_numbers.specs.Words.{numbered_contents}
use Rattle.parse_call_laws.specs.Laws.{IsRightParse}
use Rattle.parse_call_laws.proofs.Outcomes.{right_parse}
use Rattle.parse_call_laws.proofs.laws.parses.Goals as goal

pub returns : goal.returns
returns c = record {
  right = λ lists tables numbers is w tokens limit named. subst (λ (ns : List ℕ). IsRightParse (numbered_contents lists tables) w limit (parse_answer ns tokens limit)) (sym is.laid_out)
      (right_parse lists tables (record { laid_out = refl; about = is.about; terminals = is.terminals; nonterminals = is.nonterminals }) w tokens limit named);
}
