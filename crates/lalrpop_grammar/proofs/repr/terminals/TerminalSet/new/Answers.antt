use Rattle.lalrpop_grammar.specs.declared.repr.terminals.Indexed.TheVariants.{Repeat}
use Rattle.std.specs.Prelude.{slice_get, Some, unwrap_or}
use Rattle.std.proofs.Common.{rules, ◌<◌, ◌≡◌, refl, sym, ◌∙◌, ap, subst, arith, length, List}
use Rattle.std.proofs.lemmas.Option.{slice_get_within, slice_get_read}
use Rattle.lalrpop_grammar.specs.declared.repr.terminals.Indexed.{Indexed}
use Rattle.lalrpop_grammar.proofs.Types.{TerminalString}
use Rattle.lalrpop_grammar.specs.Words.{HasPlaces, IsIndexed}
use Rattle.lalrpop_collections.specs.Words.{IsFirstRepeat}
use Rattle.lalrpop_grammar.proofs.theory.grammars.TerminalPlaces.{all_differ}
use Rattle.lalrpop_grammar.proofs.repr.terminals.TerminalSet.new.Goals as goal

pub invariant_of-result : goal.invariant_of-result
invariant_of-result c =
    let found : HasPlaces c.deref.result.now (length c.deref.result.now) c.in-Places.places = subst (λ (r : Indexed). IsIndexed c.deref.result.now r) c.in-Places.is c.in_ok-places.ensures in
    let placed : HasPlaces c.args.terminals.items (length c.args.terminals.items) c.in-Places.places = subst (λ (xs : List TerminalString). HasPlaces xs (length xs) c.in-Places.places) c.deref.ensures.value found in
    record { numbered = record { differ = all_differ c.args.terminals.items c.in-Places.places placed; small = search rules }; placed = placed }

pub swap_remove-requires : goal.swap_remove-requires
swap_remove-requires c =
    let found : IsIndexed c.deref.result.now (Repeat c.in-Repeat.place) = subst (λ (r : Indexed). IsIndexed c.deref.result.now r) c.in-Repeat.is c.in_ok-places.ensures in
    let within : c.in-Repeat.place < length c.deref.result.now = slice_get_within _ _ _ found.1.there in
    omega (arith, c.deref.ensures.len)

pub returns-in-Places-clause-distinct : goal.returns-in-Places-clause-distinct
returns-in-Places-clause-distinct c =
    let found : HasPlaces c.deref.result.now (length c.deref.result.now) c.in-Places.places = subst (λ (r : Indexed). IsIndexed c.deref.result.now r) c.in-Places.is c.in_ok-places.ensures in
    all_differ c.args.terminals.items c.in-Places.places (subst (λ (xs : List TerminalString). HasPlaces xs (length xs) c.in-Places.places) c.deref.ensures.value found)

pub returns-in-Repeat-clause-refused : goal.returns-in-Repeat-clause-refused
returns-in-Repeat-clause-refused c =
    let place = c.in-Repeat.place in
    let found : IsIndexed c.deref.result.now (Repeat place) = subst (λ (r : Indexed). IsIndexed c.deref.result.now r) c.in-Repeat.is c.in_ok-places.ensures in
    let there : IsFirstRepeat c.args.terminals.items place found.0 = subst (λ (xs : List TerminalString). IsFirstRepeat xs place found.0) c.deref.ensures.value found.1 in
    let within : place < length c.args.terminals.items = slice_get_within _ _ _ there.there in
    let read : slice_get c.args.terminals.items place ≡ Some c.swap_remove.result = slice_get_read _ _ _ _ refl within c.swap_remove.ensures.value in
    let same : found.0 ≡ c.swap_remove.result = ap (λ o. unwrap_or o found.0) (sym there.there ∙ read) in
    (place, subst (λ (x : TerminalString). IsFirstRepeat c.args.terminals.items place x) same there)
