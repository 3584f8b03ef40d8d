use Rattle.std.proofs.Common.{◌≡◌, ◌∷◌, ◌++◌, [], List, arith, sym, ◌∙◌, ap, subst, append_assoc}
use Rattle.std.proofs.lemmas.Grind.{common_steps}
use Rattle.std.proofs.lemmas.List.{append-nil}
use Rattle.lalrpop_inline.proofs.Types.{NonterminalData, NonterminalString, Production}
use Rattle.lalrpop_collections.proofs.theory.lists.Lists.{contains-nil}
use Rattle.lalrpop_inline.proofs.theory.inlining.InlineUsers.{AreUsersOf, IsUnderMentioned, entry_added, all_users}
use Rattle.lalrpop_inline.proofs.inline.users.users_of.Goals as goal

pub loop-name-init : goal.loop-name-init
loop-name-init c = ([], c.into_iter-name-iterator.ensures.into_iter_gives ∙ c.iter-name-items.ensures.rest, λ a k d p there marked stands m. absurd (contains-nil there))

pub loop-name-preserved : goal.loop-name-preserved
loop-name-preserved c =
    let (done, parted, were) = c.loop-name.invariant in
    let name = c.in-Some.name.now in
    let entry = c.in-Some.entry.now in
    let under : IsUnderMentioned c.args.grammar.now c.add_to_mentioned.new.users entry.productions.items name = subst (λ (ps : List Production). IsUnderMentioned c.args.grammar.now c.add_to_mentioned.new.users ps name) c.deref.ensures.value c.in_ok-add_to_mentioned.ensures.added in (
      done ++ (name, entry) ∷ [],
      append_assoc done ((name, entry) ∷ []) c.next.new.self ∙ ap (λ (l : List (NonterminalString × NonterminalData)). done ++ l) (sym c.in-Some.ensures.steps) ∙ parted,
      entry_added c.args.grammar.now done name entry c.loop-name.users c.add_to_mentioned.new.users were c.in_ok-add_to_mentioned.ensures.kept under,
    )

pub returns : goal.returns
returns c =
    let (done, parted, were) = c.loop-name.invariant in
    let none : c.loop-name.name-iterator ≡ [] = grind (arith, common_steps) in
    let all : done ≡ c.args.grammar.now.nonterminals.entries = sym (append-nil done) ∙ ap (λ (l : List (NonterminalString × NonterminalData)). done ++ l) (sym none) ∙ parted in
    all_users c.args.grammar.now c.loop-name.users (subst (λ (es : List (NonterminalString × NonterminalData)). AreUsersOf c.args.grammar.now es c.loop-name.users) all were)
