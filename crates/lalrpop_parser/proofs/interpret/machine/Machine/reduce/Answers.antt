use Rattle.std.proofs.Common.{◌≡◌, ◌<◌, length, refl, sym, ap, ap₂, ◌∙◌}
use Rattle.std.proofs.lemmas.Option.{slice_get_read}
use Rattle.std.specs.Prelude.{slice_get, Some}
use Rattle.lalrpop_base.specs.Words.{contents_in, name_cmp, received}
use Rattle.std.specs.BTreeMap.{get}
use Rattle.lalrpop_parser.proofs.Types.{State}
use Rattle.lalrpop_parser.specs.Words.{numbers, trees_on}
use Rattle.lalrpop_parser.proofs.theory.runs.Popping.{goes_to, ends_at}
use Rattle.lalrpop_parser.proofs.interpret.machine.Machine.reduce.Goals as goal

pub returns-in-Some-clause-made : goal.returns-in-Some-clause-made
returns-in-Some-clause-made g c = λ terminals rest.
    let facts = c.in_ok-receiving.ensures in
    let top = c.in_ok-receiving.receiving in
    let states = c.args.states.now in
    let within : top.0 < length states = c.requires.within facts.from.0 top facts.from.1 in
    let there : slice_get states top.0 ≡ Some c.index-states-receiving.result = slice_get_read states (length states) top.0 c.index-states-receiving.result refl within c.index-states-receiving.is in
    ap₂ (λ l ts. received (contents_in (g.L.LookaheadInterpret.holds terminals) states) c.args.production.now l ts rest) (sym facts.popped) (sym facts.gathered)
    ∙ goes_to (g.L.LookaheadInterpret.holds terminals) states c.args.production.now top.0 facts.top.0 c.index-states-receiving.result (numbers c.gather.new.self.below.items) (trees_on c.gather.new.self.trees.items) rest c.in-Some.target.now facts.top.1 there (ap (λ (s : State g.row.L.Denot). get name_cmp s.gotos c.args.production.now.nonterminal) c.index-states-receiving.is ∙ sym c.in-Some.ensures.value)

pub returns-in-None-clause-made : goal.returns-in-None-clause-made
returns-in-None-clause-made g c = λ terminals rest.
    let facts = c.in_ok-receiving.ensures in
    let top = c.in_ok-receiving.receiving in
    let states = c.args.states.now in
    let within : top.0 < length states = c.requires.within facts.from.0 top facts.from.1 in
    let there : slice_get states top.0 ≡ Some c.index-states-receiving.result = slice_get_read states (length states) top.0 c.index-states-receiving.result refl within c.index-states-receiving.is in
    ap₂ (λ l ts. received (contents_in (g.L.LookaheadInterpret.holds terminals) states) c.args.production.now l ts rest) (sym facts.popped) (sym facts.gathered)
    ∙ ends_at (g.L.LookaheadInterpret.holds terminals) states c.args.production.now top.0 facts.top.0 c.index-states-receiving.result (numbers c.gather.new.self.below.items) (trees_on c.gather.new.self.trees.items) rest facts.top.1 there (ap (λ (s : State g.row.L.Denot). get name_cmp s.gotos c.args.production.now.nonterminal) c.index-states-receiving.is ∙ sym c.in-None.ensures.value)
