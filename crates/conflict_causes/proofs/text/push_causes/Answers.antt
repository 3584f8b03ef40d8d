use Rattle.std.proofs.Common.{◌≡◌, ℕ, List, arith, length, refl, string_bytes, subst}
use Rattle.std.proofs.lemmas.Option.{slice_get_read}
use Rattle.conflict_causes.specs.CauseTexts.{AppendsFirst}
use Rattle.conflict_causes.proofs.Paragraphs.{no_paragraph, paragraph_more}
use Rattle.conflict_causes.proofs.text.push_causes.Goals as goal

pub loop-place-init : goal.loop-place-init
loop-place-init c =
    let given = c.args.given.now in
    no_paragraph given.grammar.now given.states.now given.conflicts.now given.steps c.args.causes.now (string_bytes c.args.text.now)

pub push_cause-requires-clause-within : goal.push_cause-requires-clause-within
push_cause-requires-clause-within c =
    let causes : List (List ℕ) = c.args.causes.now in
    let cause : List ℕ = c.index-causes-place.result in
    c.requires.causes.within c.loop-place.place cause (slice_get_read causes (length causes) c.loop-place.place cause refl c.loop-place-test.true c.index-causes-place.is)

pub push_cause-requires-clause-some : goal.push_cause-requires-clause-some
push_cause-requires-clause-some c =
    let causes : List (List ℕ) = c.args.causes.now in
    let cause : List ℕ = c.index-causes-place.result in
    c.requires.causes.some c.loop-place.place cause (slice_get_read causes (length causes) c.loop-place.place cause refl c.loop-place-test.true c.index-causes-place.is)

pub loop-place-preserved : goal.loop-place-preserved
loop-place-preserved c =
    let given = c.args.given.now in
    paragraph_more given.grammar.now given.states.now given.conflicts.now given.steps c.args.causes.now c.loop-place.place c.index-causes-place.result
    (string_bytes c.args.text.now) (string_bytes c.loop-place.text) (string_bytes c.push_cause.new.text)
    c.loop-place-test.true c.index-causes-place.is c.loop-place.invariant c.in_ok-push_cause.ensures

pub returns : goal.returns
returns c =
    let given = c.args.given.now in
    let all : c.loop-place.place ≡ length c.args.causes.now = omega arith in
    subst (λ (n : ℕ). AppendsFirst given.grammar.now given.states.now given.conflicts.now given.steps c.args.causes.now n (string_bytes c.args.text.now) (string_bytes c.loop-place.text)) all c.loop-place.invariant
