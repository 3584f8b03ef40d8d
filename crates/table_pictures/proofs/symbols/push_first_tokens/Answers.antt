use Rattle.std.proofs.Common.{◌++◌, sym, ap, ◌∙◌, map, take, string_bytes, append_assoc}
use Rattle.std.proofs.lemmas.List.{append-nil}
use Rattle.std.specs.Iterator.Adapters.{take_count, take_source}
use Rattle.std.specs.List.{flat_map}
use Rattle.lalrpop_base.specs.Words.{seen, token_of}
use Rattle.table_pictures.specs.Symbols.{token_xml}
use Rattle.table_pictures.proofs.FirstTokens.{taken_more, taken_none}
use Rattle.table_pictures.proofs.symbols.push_first_tokens.Goals as goal

pub loop-token-preserved : goal.loop-token-preserved
loop-token-preserved c =
    let before = c.loop-token.token-iterator in
    let after = c.next.new.self in
    let left = map (token_of (take_source before).terminals.now) (take_source before).bits in
    let more = map (token_of (take_source after).terminals.now) (take_source after).bits in
    let token = seen c.in-Some.token in
    let cut = taken_more token_xml (take_count before) (take_count after) left more token c.in-Some.ensures.steps.0 c.in-Some.ensures.steps.1 in
    ap (λ t. t ++ flat_map token_xml (take (take_count after) more)) c.in_ok-push_token.ensures ∙ append_assoc _ (token_xml token) _ ∙ ap (λ t. string_bytes c.loop-token.text ++ t) (sym cut) ∙ c.loop-token.invariant

pub returns : goal.returns
returns c =
    let it = c.loop-token.token-iterator in
    let left = map (token_of (take_source it).terminals.now) (take_source it).bits in
    let none = taken_none token_xml (take_count it) left (λ some. (c.in-None.ensures.steps some).0) in
    sym (append-nil _) ∙ ap (λ t. string_bytes c.loop-token.text ++ t) (sym none) ∙ c.loop-token.invariant
