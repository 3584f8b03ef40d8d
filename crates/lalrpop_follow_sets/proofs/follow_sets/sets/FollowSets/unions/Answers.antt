use Rattle.std.proofs.Common.{◌≡◌, sym, ap, ◌∙◌}
use Rattle.lalrpop_follow_sets.specs.follow_sets.FollowWalks.{entries_at, listed_entries}
use Rattle.lalrpop_collections.proofs.theory.lists.Places.{slice_get_at}
use Rattle.lalrpop_follow_sets.proofs.follow_sets.sets.FollowSets.unions.Goals as goal

-- the entries that are passed are those of the state
pub unions_of-requires : goal.unions_of-requires
unions_of-requires c k m there =
    let at = slice_get_at c.args.self.now.lookback.items c.args.state c.index.result.now c.requires.listed c.index.ensures in
    let here : c.deref-2.result.now ≡ entries_at c.args.self.now.lookback.items c.args.state = c.deref-2.ensures.value ∙ ap listed_entries (sym at) in
    rw (c.deref.ensures.value) (c.requires.within k m (rw here at there))

pub returns : goal.returns
returns c =
    let at = slice_get_at c.args.self.now.lookback.items c.args.state c.index.result.now c.requires.listed c.index.ensures in
    let here : c.deref-2.result.now ≡ entries_at c.args.self.now.lookback.items c.args.state = c.deref-2.ensures.value ∙ ap listed_entries (sym at) in
    rw (← here, ← c.deref.ensures.value) c.unions_of.ensures
