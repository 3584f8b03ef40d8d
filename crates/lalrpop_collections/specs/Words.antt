-- The list of the definitions that this crate's contracts use, with the place of each.
pub use Rattle.lalrpop_collections.specs.lists.Bits.{Bits, IsRising, bits_of, has, has-at, has-bits_of, has-join, has-no_bits, has-place}
pub use Rattle.lalrpop_collections.specs.lists.Bits.{has-rising, has-with_bit, join, join_twice, new_bit, no_bits, rising, same_bits, with_bit}
pub use Rattle.lalrpop_collections.specs.lists.CheckSets.{HaveSame}
pub use Rattle.lalrpop_collections.specs.lists.Counts.{IsBelow, count, one_if}
pub use Rattle.lalrpop_collections.specs.lists.Each.{EachBelow, EachEntry, EachItem, Ordered}
pub use Rattle.lalrpop_collections.specs.lists.Entries.{Adds, AllBelow, Grows, IsFound, IsFoundWith, IsJoinedAt, IsPushedAt, burden, readings}
pub use Rattle.lalrpop_collections.specs.lists.Exact.{Exactly, both, list_exact}
pub use Rattle.lalrpop_collections.specs.lists.Multimaps.{AreSame, IsCollectionOf, PushesAll, PushesAt, SameAt, at_itself, collection_at, values_at}
pub use Rattle.lalrpop_collections.specs.lists.Partitions.{ArePlaces, fails, new_place, parted, parted_place, rank}
pub use Rattle.lalrpop_collections.specs.lists.Places.{AllDiffer, DifferBelow, IsFirstRepeat}
pub use Rattle.lalrpop_collections.specs.lists.Queues.{HasWaitingMarks, Waiting, waits}
pub use Rattle.lalrpop_collections.specs.lists.Spreading.{HoldsBit, IsSpread, edge_ends, held, sent_on}
pub use Rattle.lalrpop_collections.specs.lists.Ties.{Ties}
pub use Rattle.lalrpop_collections.specs.lists.Walks.{AllWait, Visits}
pub use Rattle.lalrpop_collections.specs.states.Kernels.{AddsOnce, IsNumbering, Kernels, by_number, key_numbered, keys_below}
