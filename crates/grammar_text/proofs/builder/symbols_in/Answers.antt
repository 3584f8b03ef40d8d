use Rattle.std.proofs.Common.{◌≡◌, ◌+◌, [], true, map, get_or, ap, sym, ◌∙◌}
use Rattle.std.specs.Prelude.{is_none}
use Rattle.std.specs.List.{position_or_len}
use Rattle.std.proofs.lemmas.List.{drop-map}
use Rattle.std.proofs.lemmas.Option.{slice_get-get_or}
use Rattle.grammar_text.specs.Builder.{is_no_symbol}
use Rattle.grammar_text.proofs.Refused.{first_at, refused_at, word_at}
use Rattle.grammar_text.proofs.builder.symbols_in.Goals as goal

pub returns-in-None-clause-err : goal.returns-in-None-clause-err
returns-in-None-clause-err c named =
    let words = map (λ w. w.now) c.args.words.now in
    let place = c.loop-place.place in
    let word = get_or c.args.words.now place (record { ref_ptr = (0, 0); now = [] }) in
    let there = word_at (λ w. w.now) c.args.words.now place word (slice_get-get_or c.args.words.now place _ c.loop-place-test.true) in
    let none = c.loop-place.invariant.1 ∙ ap (λ ws. place + position_or_len is_no_symbol ws) (sym (drop-map (λ w. w.now) place c.args.words.now)) in
    let faulty : is_no_symbol word.now ≡ true = ap is_none (sym c.in_ok-symbol_of.ensures ∙ c.in-None.is) in
    refused_at is_no_symbol (λ w. w) c.args.name.now words place word.now c.in_ok-no_symbol-in-None.field-0 named (first_at is_no_symbol words place word.now none there faulty) there c.in_ok-no_symbol-in-None.ensures
