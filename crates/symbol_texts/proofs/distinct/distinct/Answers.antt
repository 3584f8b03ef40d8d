use Rattle.std.proofs.Common.{ℕ, ◌+◌, Bool, List, [], ◌∷◌, ◌++◌, drop, string_bytes, ap, sym, ◌∙◌, append_assoc}
use Rattle.std.proofs.lemmas.List.{map_push}
use Rattle.symbol_texts.specs.Distinct.{name_for, names_from}
use Rattle.symbol_texts.specs.Texts.{texts_of}
use Rattle.symbol_texts.proofs.NameLemmas.{names_more}
use Rattle.symbol_texts.proofs.TextLemmas.{text_at, within_texts}
use Rattle.symbol_texts.proofs.distinct.distinct.Goals as goal

pub loop-number-preserved : goal.loop-number-preserved
loop-number-preserved c =
    let all = c.args.bases.now in
    let bases = texts_of all in
    let taken = texts_of c.args.taken.now in
    let mark = c.args.mark.now in
    let n = c.loop-number.number in
    let base = c.index-bases-number.result in
    let names = c.loop-number.names.items in
    let name = c.in_ok-name_for.field-0 in
    let rest = names_from bases taken mark (n + 1) (drop (n + 1) bases) in
    let own = c.in_ok-name_for.ensures ∙ ap (λ (only : Bool). name_for only mark n (string_bytes base)) c.is_only-only.ensures in
    ap (λ (t : List (List ℕ)). t ++ rest) (ap texts_of c.in_ok-push.ensures.items ∙ map_push string_bytes names name)
    ∙ append_assoc (texts_of names) (string_bytes name ∷ []) rest
    ∙ ap (λ (t : List (List ℕ)). texts_of names ++ t) (ap (λ (x : List ℕ). x ∷ rest) own ∙ sym (names_more bases taken mark n bases (string_bytes base) (within_texts all n c.loop-number-test.true) (text_at all n base c.loop-number-test.true c.index-bases-number.is)))
    ∙ c.loop-number.invariant
