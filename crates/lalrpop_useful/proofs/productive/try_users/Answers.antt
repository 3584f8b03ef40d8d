use Rattle.std.proofs.Common.{ap, sym, subst, ◌∙◌, List, OnOk}
use Rattle.std.specs.Prelude.{Option}
use Rattle.std.specs.List.{flat_map}
use Rattle.std.specs.Option.{option_copied}
use Rattle.std.specs.BTreeSet.{BTreeSet}
use Rattle.lalrpop_grammar.specs.Words.{productions_of}
use Rattle.lalrpop_useful.proofs.Types.{NonterminalString}
use Rattle.lalrpop_useful.specs.Words.{AreTried, listed_names}
use Rattle.lalrpop_useful.proofs.theory.useful.Productive.{Tried-nothing}
use Rattle.lalrpop_useful.proofs.productive.try_users.Goals as goal

pub returns-in-None : goal.returns-in-None
returns-in-None c =
    let of = productions_of c.args.grammar.now in
    Tried-nothing _ c.args.walk.now (ap (λ (o : Option (BTreeSet NonterminalString)). flat_map of (listed_names o)) (sym c.get.ensures ∙ ap option_copied c.in-None.is))

pub returns-in-Some : goal.returns-in-Some
returns-in-Some c =
    let of = productions_of c.args.grammar.now in
    subst (λ (ks : List NonterminalString). OnOk c.try_names.result (AreTried (flat_map of ks) c.args.walk.now c.try_names.new.walk)) (sym (ap listed_names (sym c.get.ensures ∙ ap option_copied c.in-Some.is))) c.try_names.ensures
