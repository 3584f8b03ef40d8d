use Rattle.std.proofs.Common.{◌≡◌, ◌∙◌, ◌++◌, [], List, ap}
use Rattle.std.specs.List.{flat_map}
use Rattle.std.proofs.lemmas.List.{flat_map_more}
use Rattle.lalrpop_states.specs.Words.{Dotted}
use Rattle.lalrpop_numbers.specs.Words.{all_dots}
use Rattle.lalrpop_numbers.proofs.Types.{Nil}
use Rattle.lalrpop_numbers.proofs.theory.numbers.DottedProductions.{keys_ascend}
use Rattle.lalrpop_collections.proofs.theory.lists.EachLemmas.{far_more}
use Rattle.lalrpop_numbers.proofs.numbers.dotted.list_dots.Goals as goal

pub loop-start-preserved : goal.loop-start-preserved
loop-start-preserved c =
    let old : List (Dotted Nil) = c.loop-start.items.items in
    let new : List (Dotted Nil) = c.push_dots.new.items.items in
    let start : Dotted Nil = c.in-Some.start in
    let pushed : new ≡ old ++ all_dots start = c.in_ok-push_dots.ensures ∙ ap (λ (i : Dotted Nil). old ++ all_dots i) c.start.view_is in
    far_more (λ (ks : List (Dotted Nil)). old ≡ flat_map all_dots ks) (λ (ks : List (Dotted Nil)). new ≡ flat_map all_dots ks) _ _ _ start c.loop-start.invariant c.in-Some.ensures.steps
    (λ done h. pushed ∙ ap (λ (xs : List (Dotted Nil)). xs ++ all_dots start) h ∙ flat_map_more all_dots [] done start)

pub returns-clause-ascend : goal.returns-clause-ascend
returns-clause-ascend c = keys_ascend c.args.starts.keys c.into_iter-start-iterator.ensures.into_iter_gives.4
