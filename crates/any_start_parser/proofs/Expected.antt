-- The tokens that may come next for a new start symbol are those for the old one.
use Rattle.std.proofs.Common.{◌↔◌, ℕ, Bool, List, [], ◌∷◌, ◌++◌}
use Rattle.lalrpop_base.specs.Words.{Bits, IsAugmented, IsRightNext, has}
use Rattle.lalrpop_grammar.specs.declared.repr.NonterminalString.{NonterminalString}
use Rattle.lalrpop_grammar.specs.declared.repr.Production.{Production}
use Rattle.lalrpop_grammar.specs.declared.repr.TerminalString.{TerminalString}
use Rattle.lalrpop_grammar.proofs.theory.grammars.Augmented.{alone, same_beginnings, same_sentences}
use Rattle.parse_tables.specs.declared.table.ParseTable.{ParseTable}
use Rattle.table_parser.specs.Words.{AreExpectedAfter, MayComeAfter}
use Rattle.any_start_parser.specs.Expected.{AreExpectedFromAny, MayComeFromAny}

pub same_next : (g h : List Production) (start f : NonterminalString) → IsAugmented g h start f → (read rest : List TerminalString) → IsRightNext h f read rest ↔ IsRightNext g start read rest
same_next g h start f aug read [] = same_sentences g h start f aug read
same_next g h start f aug read (t ∷ rest) = same_beginnings g h start f aug (read ++ t ∷ [])

pub may_come : (table : ParseTable) (w : List TerminalString) (bit : ℕ) (may : Bool) → MayComeAfter table w bit may → MayComeFromAny table w bit may
may_come table w bit may says states is g h start f aug faithful rest has =
    let new = says states is h f faithful (alone g h start f aug) rest has in
    let old = same_next g h start f aug w rest in
    (λ e. old.0 (new.0 e), λ right. new.1 (old.1 right))

pub are_expected : (table : ParseTable) (bits : List ℕ) (tokens : Bits) → AreExpectedAfter table bits tokens → AreExpectedFromAny table bits tokens
are_expected table bits tokens e = record {
  list = e.list;
  named = e.named;
  exact = λ bit. may_come table e.list bit (has tokens bit) (e.exact bit);
  within = e.within;
}
