use Rattle.std.proofs.Common.{◌≡◌, ◌∙◌, [], List, rules, arith, ap, sym, subst, refl}
use Rattle.std.specs.Prelude.{Contains}
use Rattle.std.proofs.lemmas.Grind.{common_steps}
use Rattle.std.proofs.lemmas.List.{nil_from_length}
use Rattle.std.proofs.lemmas.List.Elements.{Contains-push}
use Rattle.lalrpop_base.specs.Words.{Dotted}
use Rattle.lalrpop_construction.specs.closures.EpsilonMoves.{IsGiven}
use Rattle.lalrpop_construction.specs.closures.EpsilonMoves.IsGivenAt.{given, barren}
use Rattle.lalrpop_collections.proofs.theory.collections.JoinedEntries.{readings_differ, where_ok}
use Rattle.lalrpop_collections.proofs.theory.lists.Members.{Contains-none}
use Rattle.lalrpop_construction.proofs.construction.lookahead_build.LookaheadBuild.give.Goals as goal

pub returns-in-Some : goal.returns-in-Some
returns-in-Some g c =
    let e = c.in_ok-moves.ensures.moves in
    let item : Dotted g.row.Self.Denot = c.in-Some.item in
    let among = subst (λ (is : List (Dotted g.row.Self.Denot)). Contains is item) (sym c.in-Some.ensures.items) (Contains-push c.pop.new.self.items item) in
    let same = (e.begun.each item among).same in
    let gives = subst (λ (l : g.row.Self.Denot). IsGiven g.Self.Lookahead.meaning g.Self.LookaheadBuild.begins g.Self.LookaheadBuild.passes c.args.lr.now.construction.rules c.args.remainder.now c.args.lookahead.now l) (sym same ∙ sym (ap (λ (i : Dotted g.row.Self.Denot). i.lookahead) c.item.view_is)) e.is in
    record { given = where_ok c.join.result c.join.ensures.differ c.join.ensures.joined (λ told differ joined. given _ gives joined (readings_differ _ _ differ)) }

pub returns : goal.returns
returns g c =
    let e = c.in_ok-moves.ensures.moves in
    let none : c.in_ok-moves.moves.items ≡ [] = first_of (search rules, grind (arith, common_steps), grind (arith, common_steps, nil_from_length c.in_ok-moves.moves.items)) in
    record {
      given = barren (λ p among named.
          let there = e.begun.all p among named in
          absurd (Contains-none (p, 0) (rw none at there))) refl refl;
    }
