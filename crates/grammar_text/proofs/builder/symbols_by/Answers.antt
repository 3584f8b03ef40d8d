use Rattle.std.proofs.Common.{◌≡◌, ◌+◌, [], List, ℕ, false, true, get_or, subst}
use Rattle.std.specs.Prelude.{slice_get, MatchOption, Option, Some}
use Rattle.std.proofs.lemmas.Option.{slice_get-get_or}
use Rattle.lalrpop_grammar.specs.declared.repr.Symbol.{Symbol}
use Rattle.grammar_text.specs.declared.builder.SymbolText.TheVariants.{Nonterminal}
use Rattle.grammar_text.specs.Builder.{IsAtWord, is_no_name, symbol_by, text_of}
use Rattle.grammar_text.proofs.Refused.{first_at, refused_at}
use Rattle.grammar_text.proofs.builder.symbols_by.Goals as goal

pub returns-in-None-clause-err : goal.returns-in-None-clause-err
returns-in-None-clause-err c named =
    let texts = c.args.texts.now in
    let place = c.loop-place.place in
    let text = get_or texts place (Nonterminal (record { ref_ptr = (0, 0); now = [] })) in
    let error = c.in_ok-no_symbol-in-None.field-0 in
    let there : slice_get texts place ≡ Some text = slice_get-get_or texts place _ c.loop-place-test.true in
    let faulty : is_no_name text ≡ true = subst (λ (o : Option Symbol). MatchOption o (is_no_name text ≡ true) (λ (symbol : Symbol). (symbol ≡ symbol_by text) × (is_no_name text ≡ false))) c.in-None.is c.in_ok-symbol_by.ensures.ok in
    let at = subst (λ (bytes : List ℕ). IsAtWord c.args.name.now (place + 1) bytes error) c.text_of.ensures c.in_ok-no_symbol-in-None.ensures in
    refused_at is_no_name text_of c.args.name.now texts place text error named (first_at is_no_name texts place text c.loop-place.invariant.1 there faulty) there at
