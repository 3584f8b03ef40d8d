use Rattle.std.proofs.Common.{refl, sym}
use Rattle.std.proofs.lemmas.Option.{slice_get_read}
use Rattle.lalrpop_grammar.proofs.theory.grammars.TerminalPlaces.{has_places_more, first_repeat}
use Rattle.lalrpop_grammar.proofs.repr.terminals.place_all.Goals as goal

pub returns-then-contains_key : goal.returns-then-contains_key
returns-then-contains_key c = (
  c.index-terminals-place.result,
  first_repeat c.args.terminals.now c.loop-place.place c.index-terminals-place.result c.loop-place.places c.loop-place.invariant
      (slice_get_read _ _ _ _ refl c.loop-place-test.true c.index-terminals-place.is) (sym c.if-contains_key.ensures),
)

pub loop-place-preserved : goal.loop-place-preserved
loop-place-preserved c =
    has_places_more c.args.terminals.now c.loop-place.place c.index-terminals-place.result c.in_ok-clone.field-0 c.loop-place.places c.insert.new.self c.in_ok-clone.ensures
    (slice_get_read _ _ _ _ refl c.loop-place-test.true c.index-terminals-place.is) c.loop-place.invariant (sym c.if-contains_key.ensures) c.in_ok-insert.ensures.updates
