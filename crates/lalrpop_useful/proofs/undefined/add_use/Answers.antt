use Rattle.std.proofs.Common.{◌≡◌, ◌∙◌, ◌++◌, ◌∷◌, [], List, subst, sym}
use Rattle.std.specs.Prelude.{Contains}
use Rattle.std.proofs.lemmas.Bool.{false≢true}
use Rattle.lalrpop_grammar.specs.Words.{productions}
use Rattle.lalrpop_useful.specs.Words.{AddsUndefined, names_of}
use Rattle.lalrpop_useful.proofs.theory.useful.Undefined.{Adds-one, Use}
use Rattle.lalrpop_useful.proofs.undefined.add_use.Goals as goal

pub returns : goal.returns
returns c =
    let g = productions c.args.grammar.now in
    let p = c.args.production.now in
    let a = c.in-Nonterminal.name in
    let pushed : c.push.new.self.items ≡ c.args.uses.now.items ++ (a, p) ∷ [] = c.in_ok-push.ensures.items in
    subst (AddsUndefined g p (c.args.symbol.now ∷ []) c.args.uses.now.items) (sym pushed)
    (Adds-one g p c.args.symbol.now a c.args.uses.now.items c.in-Nonterminal.is
    (λ h. false≢true (sym c.if-has_production.false ∙ c.has_production.ensures.1 h))
    (λ h. false≢true (sym c.if-is_listed.false ∙ c.is_listed.ensures.1 (subst (λ (us : List Use). Contains (names_of us) a) (sym c.deref.ensures.value) h))))
