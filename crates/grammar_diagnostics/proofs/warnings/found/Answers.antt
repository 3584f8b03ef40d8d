use Rattle.std.proofs.Common.{◌≡◌, List, ◌++◌, map, not, sym, ap, subst, ◌∙◌, append_assoc}
use Rattle.std.specs.Prelude.{Contains, ◌↔◌}
use Rattle.std.specs.List.{flat_map}
use Rattle.lalrpop_grammar.specs.Words.{productions}
use Rattle.lalrpop_grammar.specs.declared.repr.NonterminalString.{NonterminalString}
use Rattle.lalrpop_grammar.specs.declared.repr.Production.{Production}
use Rattle.grammar_diagnostics.specs.declared.warnings.Sets.{Sets}
use Rattle.grammar_diagnostics.specs.declared.warnings.Warning.{Warning}
use Rattle.grammar_diagnostics.specs.Warnings.{Doubt, IsWarning, entry_warnings, repeat_warning, start_warnings, use_warning, warning_view}
use Rattle.grammar_diagnostics.proofs.Doubts.{found_iff}
use Rattle.grammar_diagnostics.proofs.warnings.found.Goals as goal

pub returns : goal.returns
returns c =
    let g = c.args.grammar.now in
    let start = c.args.start.now in
    let sets : Sets = record { has_start = not c.has_none.result; reachable = c.in_ok-reachable.field-0; productive = c.in_ok-productive.field-0; cyclic = c.in_ok-cyclic_names.field-0 } in
    let uses = c.in_ok-uses.uses.items in
    let repeats = c.in_ok-repeats.repeats.items in
    let U : List Doubt = map use_warning uses in
    let R : List Doubt = map repeat_warning repeats in
    let E : List Doubt = flat_map (entry_warnings sets (productions g)) g.nonterminals.entries in
    let S : List Doubt = start_warnings g start in
    let one : map warning_view c.push_uses.new.all.items ≡ U =
    c.in_ok-push_uses.ensures ∙ ap (λ (xs : List Warning). map warning_view xs ++ map use_warning c.deref.result.now) c.new-all.ensures.items ∙ ap (λ (us : List (NonterminalString × Production)). map use_warning us) c.deref.ensures.value in
    let two : map warning_view c.push_repeats.new.all.items ≡ U ++ R =
    c.in_ok-push_repeats.ensures ∙ ap (λ (rs : List (Production × Production)). map warning_view c.push_uses.new.all.items ++ map repeat_warning rs) c.deref-2.ensures.value ∙ ap (λ (ds : List Doubt). ds ++ R) one in
    let three : map warning_view c.push_entries.new.all.items ≡ (U ++ R) ++ E = c.in_ok-push_entries.ensures ∙ ap (λ (ds : List Doubt). ds ++ E) two in
    let four : map warning_view c.push_start.new.all.items ≡ ((U ++ R) ++ E) ++ S = c.in_ok-push_start.ensures ∙ ap (λ (ds : List Doubt). ds ++ S) three in
    let same : map warning_view c.push_start.new.all.items ≡ U ++ (R ++ (E ++ S)) = four ∙ append_assoc (U ++ R) E S ∙ append_assoc U R (E ++ S) in
    let P : List Doubt → Type 0 = λ ds. (w : Doubt) → Contains ds w ↔ IsWarning g start w in
    subst P (sym same) (found_iff g start c.requires c.len-names.ensures.ordered sets (ap not c.has_none.ensures) c.in_ok-reachable.ensures.reachable c.in_ok-productive.ensures.productive c.in_ok-cyclic_names.ensures.cyclic
    uses c.in_ok-uses.ensures.undefined c.in_ok-uses.ensures.first repeats c.in_ok-repeats.ensures.repeats)
