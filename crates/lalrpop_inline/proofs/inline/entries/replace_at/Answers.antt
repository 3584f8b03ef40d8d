use Rattle.std.proofs.Common.{rules, List, length, sym, ◌∙◌, ap, ap₂, subst, Vec, Global}
use Rattle.std.specs.BTreeMap.{BTreeMap}
use Rattle.lalrpop_inline.proofs.Types.{NonterminalData, NonterminalString}
use Rattle.lalrpop_grammar.specs.declared.repr.grammar.ActionFnDefn.{ActionFnDefn}
use Rattle.lalrpop_inline.specs.inlining.InlineSteps.{view_with}
use Rattle.lalrpop_inline.specs.Words.{View, IsPastLast}
use Rattle.lalrpop_inline.proofs.theory.inlining.InlinePlaces.{place_replaced, place_definitions, place_empty}
use Rattle.lalrpop_inline.proofs.inline.entries.replace_at.Goals.{in-Some+in_ok-replace_entry, in_default}
use Rattle.lalrpop_inline.proofs.inline.entries.replace_at.Goals as goal

pub returns-in_err-replace_entry-clause-err : goal.returns-in_err-replace_entry-clause-err
returns-in_err-replace_entry-clause-err c =
    let P : List ActionFnDefn → Type 0 = λ ds. IsPastLast (length ds) c.in_err-replace_entry.field-0.0 in
    let past = subst P (place_definitions c.args.name.now c.args.alternatives.now c.args.place.now c.args.nonterminals.now.entries c.in-Some.entry.now c.args.defns.now.items (sym c.in-Some.ensures.value)) c.in_err-replace_entry.ensures.err in
    search (rules, past)

pub returns-clause-ok : goal.returns-clause-ok
returns-clause-ok c =
    let b = c.args.name.now in
    let alternatives = c.args.alternatives.now in
    let place = c.args.place.now in
    let old = c.args.nonterminals.now.entries in
    let defns = c.args.defns.now.items in
    let V : BTreeMap NonterminalString NonterminalData → Vec ActionFnDefn Global → View = λ m ds. view_with m.entries ds.items in
    elim c.match-get_mut.branch [
      | in-Some+in_ok-replace_entry w ↦
          let entry = w.replace_entry.new.entry in
          ap₂ V w.nonterminals-is w.defns-is
          ∙ ap (λ (es : List (NonterminalString × NonterminalData)). view_with es w.replace_entry.new.defns.items) (c.get_mut.follows.holds entry).0
          ∙ place_replaced b alternatives place old w.in-Some.entry.now entry defns w.replace_entry.new.defns.items (sym w.in-Some.ensures.value) w.in_ok-replace_entry.ensures.ok
      | in_default w ↦
          ap₂ V (w.nonterminals-is ∙ c.get_mut.follows.holds-at-none) w.defns-is
          ∙ place_empty b alternatives place old defns (sym w.in_default.ensures.value)
    ]
