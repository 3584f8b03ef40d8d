use Rattle.std.proofs.Common.{◌≡◌, ◌∙◌, [], ◌∷◌, ◌++◌, List, Bor, ap, subst}
use Rattle.std.proofs.lemmas.Bool.{false≢true}
use Rattle.std.proofs.lemmas.List.{map-append}
use Rattle.lalrpop_grammar.specs.Words.{productions}
use Rattle.lalrpop_ambiguity.specs.Words.{AreOfGrammar, Tree, tree_of, trees_at, trees_of}
use Rattle.lalrpop_ambiguity.specs.declared.derivation.Derivation.{Derivation}
use Rattle.lalrpop_ambiguity.proofs.theory.witnesses.OwnNodes.{own_last}
use Rattle.lalrpop_ambiguity.proofs.witness.is_of_grammar.Goals as goal

pub returns-then-not-branch : goal.returns-then-not-branch
returns-then-not-branch c =
    let g = productions c.args.grammar.now in
    let front = trees_at c.pop.new.self.items in
    let t = tree_of c.in-Some.next.now in
    let popped : trees_at c.loop-next.left.items ≡ front ++ t ∷ [] = ap trees_at c.in-Some.ensures.items ∙ map-append (λ (x : Bor Derivation). tree_of x.now) c.pop.new.self.items (c.in-Some.next ∷ []) in (
      λ h. absurd (false≢true h),
      λ own. absurd (c.in_ok-visit.ensures.other c.if-not-branch.true (own_last g front t (subst (λ (ts : List Tree). AreOfGrammar g (trees_of ts)) popped (c.loop-next.invariant.1 own)))),
    )
