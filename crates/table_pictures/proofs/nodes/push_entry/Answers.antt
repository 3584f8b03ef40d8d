use Rattle.std.proofs.Common.{◌++◌, None, Some, codes, sym, ap, ◌∙◌, string_bytes}
use Rattle.std.proofs.lemmas.List.{append-nil}
use Rattle.std.specs.Option.{option_copied}
use Rattle.lalrpop_collections.proofs.theory.lists.Pieces.{two_pieces}
use Rattle.table_pictures.specs.Symbols.{symbol_xml}
use Rattle.table_pictures.proofs.Entries.{entry_more, entry_none, last_in_prefix}
use Rattle.table_pictures.proofs.nodes.push_entry.Goals as goal

pub returns-in-Some : goal.returns-in-Some
returns-in-Some c =
    let before = string_bytes c.loop-item.text in
    let entered = entry_more c.args.items.now c.loop-item.item-index c.item-item.result (Some c.in-Some.symbol.now) c.loop-item-test.true c.item-item.is (last_in_prefix c.item-item.result c.prefix.result.now c.last.result c.prefix.ensures c.last.ensures.value ∙ ap option_copied c.in-Some.is) in
    two_pieces before (string_bytes c.push_str.new.self) (string_bytes c.push_symbol.new.text) (codes " by") (symbol_xml c.in-Some.symbol.now) c.in_ok-push_str.ensures.bytes c.in_ok-push_symbol.ensures
    ∙ ap (λ t. before ++ t) (sym entered) ∙ c.loop-item.invariant

pub loop-item-preserved : goal.loop-item-preserved
loop-item-preserved c =
    let before = string_bytes c.loop-item.text in
    let others = entry_more c.args.items.now c.loop-item.item-index c.item-item.result None c.loop-item-test.true c.item-item.is (last_in_prefix c.item-item.result c.prefix.result.now c.last.result c.prefix.ensures c.last.ensures.value ∙ ap option_copied c.in_default.is) in
    ap (λ t. before ++ t) (sym others) ∙ c.loop-item.invariant

pub returns : goal.returns
returns c =
    let before = string_bytes c.loop-item.text in
    sym (append-nil before) ∙ ap (λ t. before ++ t) (sym (entry_none c.args.items.now c.loop-item.item-index c.loop-item-test.false)) ∙ c.loop-item.invariant
