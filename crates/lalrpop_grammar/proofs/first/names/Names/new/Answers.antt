use Rattle.std.proofs.Common.{◌≡◌, List, ◌∷◌, [], sym, ◌∙◌, ap, append-nil}
use Rattle.std.specs.Map.{keys_of}
use Rattle.std.proofs.lemmas.List.{append_assoc}
use Rattle.lalrpop_grammar.proofs.Types.{NonterminalData, NonterminalString}
use Rattle.lalrpop_grammar.proofs.first.names.Names.new.Goals as goal

pub loop-name-preserved : goal.loop-name-preserved
loop-name-preserved c =
    let front : keys_of c.loop-name.name-iterator ≡ c.in-Some.name.now ∷ keys_of c.next.new.self = ap (λ (es : List (NonterminalString × NonterminalData)). keys_of es) c.in-Some.ensures.steps in
    let so_far = rw front at c.loop-name.invariant in
    rw (c.in_ok-push.ensures.items, c.in_ok-clone.ensures) (append_assoc c.loop-name.names.items (c.in-Some.name.now ∷ []) (keys_of c.next.new.self) ∙ so_far)

pub invariant_of-result : goal.invariant_of-result
invariant_of-result c =
    let so_far = rw c.in-None.ensures.steps.0 at c.loop-name.invariant in
    let all : c.loop-name.names.items ≡ keys_of c.args.grammar.now.nonterminals.entries = sym (append-nil c.loop-name.names.items) ∙ so_far in
    rw all c.iter-name-items.ensures.ordered

pub returns : goal.returns
returns c =
    let so_far = rw c.in-None.ensures.steps.0 at c.loop-name.invariant in
    sym (append-nil c.loop-name.names.items) ∙ so_far
