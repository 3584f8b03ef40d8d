use Rattle.std.specs.BTreeMap.{BTreeMap}
use Rattle.lalrpop_grammar.proofs.Types.{TerminalString}
use Rattle.lalrpop_grammar.specs.Words.{HasPlaces, AreTerminalPlaces}
use Rattle.lalrpop_grammar.proofs.theory.grammars.TerminalPlaces.{place_found, place_only}
use Rattle.std.proofs.lemmas.Option.{slice_get_read}
use Rattle.std.specs.Prelude.{Option, IsNone}
use mathlib.Core.Bool.{true≢false}
use Rattle.std.proofs.Common.{ℕ, ◌≡◌, refl, sym, ◌∙◌, subst, length, List}
use Rattle.lalrpop_grammar.proofs.repr.terminals.TerminalSet.bit.Goals as goal

placed : (xs ys : List TerminalString) (m : BTreeMap TerminalString ℕ) → AreTerminalPlaces xs m → xs ≡ ys → HasPlaces ys (length ys) m
placed xs ys m h e = subst (λ (zs : List TerminalString). HasPlaces zs (length zs) m) e h.placed

pub returns-clause-found : goal.returns-clause-found
returns-clause-found c =
    place_found c.args.self.now c.self.inside.places (placed _ _ _ c.self.invariant c.self.view_is) c.args.terminal.now c.copied.result (c.copied.ensures ∙ c.get.ensures.value)

pub returns-clause-only : goal.returns-clause-only
returns-clause-only c =
    place_only c.args.self.now c.self.inside.places (placed _ _ _ c.self.invariant c.self.view_is) c.args.terminal.now c.copied.result (c.copied.ensures ∙ c.get.ensures.value)

pub returns-clause-absent : goal.returns-clause-absent
returns-clause-absent c = λ none there.
    let found = place_only c.args.self.now c.self.inside.places (placed _ _ _ c.self.invariant c.self.view_is) c.args.terminal.now c.copied.result (c.copied.ensures ∙ c.get.ensures.value)
    there.0 (slice_get_read c.args.self.now (length c.args.self.now) there.0 c.args.terminal.now refl there.1 (sym there.2)) in
    absurd (true≢false (subst (λ (o : Option ℕ). IsNone o) found none))
