use Rattle.std.proofs.Common.{rules, ◌≡◌, [], List, length, refl, sym, ◌∙◌, ap, subst}
use Rattle.std.specs.Prelude.{Contains}
use Rattle.lalrpop_base.specs.Words.{productions_of}
use Rattle.lalrpop_inline.proofs.Types.{NonterminalString}
use Rattle.lalrpop_inline.specs.Words.{View, view_of, inlined_of, listed_names, users_at, replaced_places, IsPastLast}
use Rattle.lalrpop_inline.proofs.theory.inlining.InlinePlaces.{none_sorted}
use Rattle.lalrpop_inline.proofs.theory.inlining.InlineUsers.{inlined_at, users_found}
use Rattle.lalrpop_inline.proofs.inline.entries.inline_nonterminal.Goals as goal

pub returns-in_default-clause-view : goal.returns-in_default-clause-view
returns-in_default-clause-view c =
    let g = c.args.grammar in
    let name = c.args.name.now in
    let none : users_at c.args.users.now name ≡ [] = ap listed_names (sym c.in_default.ensures) in
    inlined_at g name (productions_of g name) [] c.requires.ordered none_sorted (λ a m. subst (λ (l : List NonterminalString). Contains l a) none (c.requires.covered a m)) refl

pub returns-in_err-replace_places-clause-err : goal.returns-in_err-replace_places-clause-err
returns-in_err-replace_places-clause-err c =
    let g = c.args.grammar in
    let name = c.args.name.now in
    let found : users_at c.args.users.now name ≡ c.in-Some.places.now.keys = users_found c.args.users.now name c.in-Some.places.now c.in-Some.ensures in
    let all : replaced_places name c.deref.result.now c.in-Some.places.now.keys (view_of g) ≡ inlined_of name (view_of g) =
    inlined_at g name c.deref.result.now c.in-Some.places.now.keys c.requires.ordered c.replace_places.ensures.rising (λ a m. subst (λ (l : List NonterminalString). Contains l a) found (c.requires.covered a m)) (c.deref.ensures.value ∙ c.in_ok-alternatives.ensures ∙ c.productions_for.ensures) in
    let P : View → Type 0 = λ v. IsPastLast (length v.defns) c.in_err-replace_places.field-0.0 in
    let past = subst P all c.in_err-replace_places.ensures.err in
    search (rules, past)

pub returns-clause-view : goal.returns-clause-view
returns-clause-view c =
    let g = c.args.grammar in
    let name = c.args.name.now in
    let found : users_at c.args.users.now name ≡ c.in-Some.places.now.keys = users_found c.args.users.now name c.in-Some.places.now c.in-Some.ensures in
    c.in_ok-replace_places.ensures.ok
    ∙ inlined_at g name c.deref.result.now c.in-Some.places.now.keys c.requires.ordered c.replace_places.ensures.rising (λ a m. subst (λ (l : List NonterminalString). Contains l a) found (c.requires.covered a m)) (c.deref.ensures.value ∙ c.in_ok-alternatives.ensures ∙ c.productions_for.ensures)
