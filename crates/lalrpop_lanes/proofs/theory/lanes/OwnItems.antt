-- States whose items are of given productions: by places, and by membership.
use Rattle.std.specs.Prelude.{Contains, List}
use Rattle.lalrpop_base.specs.Words.{Dotted, EachItem}
use Rattle.lalrpop_collections.proofs.theory.lists.Members.{place}
use Rattle.lalrpop_collections.proofs.theory.lists.Places.{contains_at}
use Rattle.lalrpop_lanes.proofs.Types.{Production, State}
use Rattle.lalrpop_lanes.specs.Words.{HaveOwnItems}

module _ {L : Type 0} (productions : List Production) (states : List (State L)) where
  pub own_by_places : EachItem (λ (state : State L). EachItem (λ (item : Dotted L). Contains productions item.production) state.items.vec.items) states → HaveOwnItems productions states
  own_by_places each n state item at among =
      let there = place state.items.vec.items item among in
      each n state at there.0 item there.2

  pub places_of_own : HaveOwnItems productions states → EachItem (λ (state : State L). EachItem (λ (item : Dotted L). Contains productions item.production) state.items.vec.items) states
  places_of_own own n state at k item there = own n state item at (contains_at state.items.vec.items item k there)
