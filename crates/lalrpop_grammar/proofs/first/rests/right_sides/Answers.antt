use Rattle.std.proofs.Common.{List, ◌++◌, sym, ◌∙◌, ap, map}
use Rattle.std.specs.List.{flat_map}
use Rattle.std.proofs.lemmas.List.{append_assoc, map-append}
use Rattle.lalrpop_grammar.proofs.Types.{NonterminalData, NonterminalString, Production}
use Rattle.lalrpop_grammar.specs.Words.{Rest, right_side}
use Rattle.lalrpop_grammar.proofs.first.rests.right_sides.Goals as goal

pub loop-name-preserved : goal.loop-name-preserved
loop-name-preserved c =
    let f : Production → Rest = right_side c.args.names.now in
    let sides : List (NonterminalString × NonterminalData) → List Rest = λ es. map f (flat_map (λ (e : NonterminalString × NonterminalData). e.1.productions.items) es) in
    let more = rw c.deref.ensures.value at c.in_ok-add_right_sides.ensures in
    ap (λ (xs : List Rest). xs ++ sides c.next.new.self) more
    ∙ append_assoc c.loop-name.rests.items (map f c.in-Some.entry.now.productions.items) (sides c.next.new.self)
    ∙ ap (λ (xs : List Rest). c.loop-name.rests.items ++ xs) (sym (map-append f c.in-Some.entry.now.productions.items (flat_map (λ (e : NonterminalString × NonterminalData). e.1.productions.items) c.next.new.self)) ∙ ap sides (sym c.in-Some.ensures.steps))
    ∙ c.loop-name.invariant
