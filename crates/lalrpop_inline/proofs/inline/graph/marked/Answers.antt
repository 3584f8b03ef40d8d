use Rattle.std.proofs.Common.{rules, ◌≡◌, ◌∷◌, ◌++◌, [], List, arith, sym, ◌∙◌, ap, subst, append_assoc}
use Rattle.std.proofs.lemmas.Grind.{common_steps}
use Rattle.std.proofs.lemmas.List.{append-nil}
use Rattle.std.specs.Prelude.{Contains}
use Rattle.std.specs.BTreeMap.{IsOrdered}
use mathlib.Core.Bool.{true≢false}
use Rattle.lalrpop_base.specs.Words.{name_cmp, inline_mark}
use Rattle.lalrpop_inline.proofs.Types.{NonterminalData, NonterminalString}
use Rattle.lalrpop_grammar.specs.declared.repr.grammar.Attribute.{Attribute}
use Rattle.lalrpop_inline.proofs.theory.inlining.InlineMeetings.{among_more, among_same}
use Rattle.lalrpop_inline.specs.Words.{AreMarkedAmong}
use Rattle.lalrpop_inline.proofs.theory.inlining.InlineMarks.{AreMarkedOf, marked_more, marked_same, all_marked}
use Rattle.lalrpop_inline.proofs.inline.graph.marked.Goals as goal

one_done : (done rest left all : List (NonterminalString × NonterminalData)) (e : NonterminalString × NonterminalData) → left ≡ e ∷ rest → done ++ left ≡ all → (done ++ e ∷ []) ++ rest ≡ all
one_done done rest left all e next parted = append_assoc done (e ∷ []) rest ∙ ap (λ (l : List (NonterminalString × NonterminalData)). done ++ l) (sym next) ∙ parted

pub loop-name-preserved-in_ok-push : goal.loop-name-preserved-in_ok-push
loop-name-preserved-in_ok-push c =
    let (done, parted, are, among) = c.loop-name.invariant in
    let name = c.in-Some.name.now in
    let entry = c.in-Some.entry.now in
    let marked : Contains entry.attributes.items inline_mark = subst (λ (l : List Attribute). Contains l inline_mark) c.deref.ensures.value (c.is_marked.ensures.0 c.if-is_marked.true) in (
      done ++ (name, entry) ∷ [],
      one_done done c.next.new.self c.loop-name.name-iterator c.args.grammar.now.nonterminals.entries (name, entry) c.in-Some.ensures.steps parted,
      marked_more done c.loop-name.names.items c.push.new.self.items name c.in_ok-clone.field-0 entry are marked c.in_ok-clone.ensures c.in_ok-push.ensures.items,
      among_more done c.loop-name.names.items c.push.new.self.items name c.in_ok-clone.field-0 entry among marked c.in_ok-clone.ensures c.in_ok-push.ensures.items,
    )

pub loop-name-preserved : goal.loop-name-preserved
loop-name-preserved c =
    let (done, parted, are, among) = c.loop-name.invariant in
    let name = c.in-Some.name.now in
    let entry = c.in-Some.entry.now in
    let unmarked : Contains entry.attributes.items inline_mark → ⊥ = λ h. true≢false (sym (c.is_marked.ensures.1 (subst (λ (l : List Attribute). Contains l inline_mark) (sym c.deref.ensures.value) h)) ∙ c.if-is_marked.false) in (
      done ++ (name, entry) ∷ [],
      one_done done c.next.new.self c.loop-name.name-iterator c.args.grammar.now.nonterminals.entries (name, entry) c.in-Some.ensures.steps parted,
      marked_same done c.loop-name.names.items name entry are unmarked,
      among_same done c.loop-name.names.items name entry among unmarked,
    )

pub returns-clause-found : goal.returns-clause-found
returns-clause-found c =
    let (done, parted, are, among) = c.loop-name.invariant in
    let ordered : IsOrdered name_cmp c.args.grammar.now.nonterminals = search rules in
    let none : c.loop-name.name-iterator ≡ [] = grind (arith, common_steps) in
    let all : done ≡ c.args.grammar.now.nonterminals.entries = sym (append-nil done) ∙ ap (λ (l : List (NonterminalString × NonterminalData)). done ++ l) (sym none) ∙ parted in
    all_marked c.args.grammar.now c.loop-name.names.items ordered (subst (λ (es : List (NonterminalString × NonterminalData)). AreMarkedOf es c.loop-name.names.items) all are)

pub returns-clause-among : goal.returns-clause-among
returns-clause-among c =
    let (done, parted, are, among) = c.loop-name.invariant in
    let none : c.loop-name.name-iterator ≡ [] = grind (arith, common_steps) in
    let all : done ≡ c.args.grammar.now.nonterminals.entries = sym (append-nil done) ∙ ap (λ (l : List (NonterminalString × NonterminalData)). done ++ l) (sym none) ∙ parted in
    subst (λ (es : List (NonterminalString × NonterminalData)). AreMarkedAmong es c.loop-name.names.items) all among
