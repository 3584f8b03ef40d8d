use Rattle.std.proofs.Common.{◌≡◌, ℕ, List, slice_get, Some, sym, ap, subst, ◌∙◌}
use Rattle.lalrpop_grammar.specs.declared.repr.NonterminalString.{NonterminalString}
use Rattle.parser_text.specs.Rows.{target_number}
use Rattle.parser_text.proofs.goto_rows.target_of.Goals as goal

-- a name at a place in one list is at a place in another, and so in equal lists
at_column : (a b x y : List NonterminalString) (n m : ℕ) → a ≡ x → b ≡ y → ((name : NonterminalString) → slice_get a n ≡ Some name → slice_get b m ≡ Some name) → (name : NonterminalString) → slice_get x n ≡ Some name → slice_get y m ≡ Some name
at_column a b x y n m first second told name at =
    subst (λ (l : List NonterminalString). slice_get l m ≡ Some name) second (told name (subst (λ (l : List NonterminalString). slice_get l n ≡ Some name) (sym first) at))

pub returns-in-None : goal.returns-in-None
returns-in-None c =
    let here = at_column c.nonterminals.result.now c.nonterminals-2.result.now c.args.listed.now.nonterminals c.args.table.now.nonterminals c.args.nonterminal c.in_ok-column.column c.nonterminals.ensures c.nonterminals-2.ensures c.in_ok-column.ensures in
    record {
      is = λ states is name at. ap target_number (c.in-None.ensures states is name (here name at));
      some = λ states is name at e. cc (c.in-None.ensures states is name (here name at) ∙ e);
    }

pub returns-else-target-eq0 : goal.returns-else-target-eq0
returns-else-target-eq0 c =
    let here = at_column c.nonterminals.result.now c.nonterminals-2.result.now c.args.listed.now.nonterminals c.args.table.now.nonterminals c.args.nonterminal c.in_ok-column.column c.nonterminals.ensures c.nonterminals-2.ensures c.in_ok-column.ensures in
    record {
      is = λ states is name at. ap target_number (c.in-Some.ensures states is name (here name at));
      some = λ states is name at e.
          let same : Some c.in-Some.target ≡ Some 0 = c.in-Some.ensures states is name (here name at) ∙ e in
          c.if-target-eq0.false (cc same);
    }
