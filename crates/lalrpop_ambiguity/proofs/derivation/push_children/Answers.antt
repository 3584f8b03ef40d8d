use Rattle.std.proofs.Common.{◌≡◌, [], ◌∷◌, ◌++◌, map, reverse, ap, sym, ◌∙◌, Bor, append-nil}
use Rattle.std.proofs.lemmas.List.{map-append, nil_from_length}
use Rattle.lalrpop_ambiguity.specs.Words.{tree_of}
use Rattle.lalrpop_ambiguity.specs.declared.derivation.Derivation.{Derivation}
use Rattle.lalrpop_ambiguity.proofs.theory.derivations.Leaves.{over_to}
use Rattle.lalrpop_ambiguity.proofs.derivation.push_children.Goals as goal

pub loop-child-preserved : goal.loop-child-preserved
loop-child-preserved c =
    let f = λ (t : Bor Derivation). tree_of t.now in
    let stack = c.loop-child.left.items in
    let front = c.next.new.self.iter.rest.now in
    let child = c.in-Some.child in
    let pushed : map f c.push.new.self.items ≡ map f stack ++ tree_of child.now ∷ [] = ap (λ ts. map f ts) c.in_ok-push.ensures.items ∙ map-append f stack (child ∷ []) in
    let taken : map tree_of c.loop-child.child-iterator.iter.rest.now ≡ map tree_of front ++ tree_of child.now ∷ [] = ap (λ ts. map tree_of ts) c.in-Some.ensures.steps ∙ map-append tree_of front (child.now ∷ []) in
    ap (λ ts. ts ++ reverse (map tree_of front)) pushed ∙ over_to (map f stack) (map tree_of front) (tree_of child.now) ∙ ap (λ ts. map f stack ++ reverse ts) (sym taken) ∙ c.loop-child.invariant

pub returns : goal.returns
returns c =
    let f = λ (t : Bor Derivation). tree_of t.now in
    let none : c.loop-child.child-iterator.iter.rest.now ≡ [] = nil_from_length c.loop-child.child-iterator.iter.rest.now c.in-None.ensures.steps.0 in
    sym (append-nil (map f c.loop-child.left.items)) ∙ ap (λ ts. map f c.loop-child.left.items ++ reverse (map tree_of ts)) (sym none) ∙ c.loop-child.invariant
