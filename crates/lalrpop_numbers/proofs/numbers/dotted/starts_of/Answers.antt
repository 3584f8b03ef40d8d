use Rattle.std.proofs.Common.{◌≡◌, ◌++◌, ◌∷◌, ◌∙◌, [], List, sym, subst}
use Rattle.std.specs.List.{flat_map}
use Rattle.std.proofs.lemmas.List.{flat_map_more}
use Rattle.lalrpop_states.specs.Words.{Dotted}
use Rattle.lalrpop_numbers.specs.Words.{AddsThose, IsStartOf}
use Rattle.lalrpop_numbers.proofs.Types.{Nil, NonterminalData, NonterminalString, Production}
use Rattle.lalrpop_numbers.proofs.theory.numbers.DottedProductions.{starts_both, starts_none}
use Rattle.lalrpop_collections.proofs.theory.lists.EachLemmas.{far_end, far_more}
use Rattle.lalrpop_numbers.proofs.numbers.dotted.starts_of.Goals as goal

abbrev Entry : Type 0
Entry = NonterminalString × NonterminalData

abbrev productions_in : Entry → List Production
productions_in e = e.1.productions.items

pub loop-name-init : goal.loop-name-init
loop-name-init c = record {
  done = [];
  whole = c.into_iter-name-iterator.ensures.into_iter_gives ∙ c.iter-name-items.ensures.rest;
  holds = subst (AddsThose (IsStartOf []) []) (sym c.new-starts.ensures.empty) (starts_none []);
}

pub loop-name-preserved : goal.loop-name-preserved
loop-name-preserved c =
    let old : List (Dotted Nil) = c.loop-name.starts.keys in
    let new : List (Dotted Nil) = c.add_starts.new.starts.keys in
    let entry : Entry = (c.in-Some._name.now, c.in-Some.entry.now) in
    let added = subst (λ (ps : List Production). AddsThose (IsStartOf ps) old new) c.deref.ensures.value c.in_ok-add_starts.ensures in
    far_more (λ (es : List Entry). AddsThose (IsStartOf (flat_map productions_in es)) [] old) (λ (es : List Entry). AddsThose (IsStartOf (flat_map productions_in es)) [] new) _ _ _ entry c.loop-name.invariant c.in-Some.ensures.steps
    (λ done h.
    let all : flat_map productions_in done ++ productions_in entry ≡ flat_map productions_in (done ++ entry ∷ []) = flat_map_more productions_in [] done entry in
    subst (λ (ps : List Production). AddsThose (IsStartOf ps) [] new) all (starts_both (flat_map productions_in done) (productions_in entry) [] old new h added))

pub returns : goal.returns
returns c = far_end (λ (es : List Entry). AddsThose (IsStartOf (flat_map productions_in es)) [] c.loop-name.starts.keys) _ _ c.in-None.ensures.steps.0 c.loop-name.invariant
