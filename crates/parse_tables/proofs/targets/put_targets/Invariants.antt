use Rattle.std.proofs.Common.{◌≡◌, ℕ, ◌<◌, ◌≤◌, Some, length, option_map, slice_get, slice_index}
use Rattle.std.specs.BTreeMap.{get}
use Rattle.lalrpop_base.specs.Words.{number_of}
use Rattle.parse_tables.specs.Codes.{target_code}
use Rattle.parse_tables.proofs.targets.put_targets.Given as goal

abbrev pub invariant-loop-place : goal.invariant-loop-place
invariant-loop-place g l = record {
  put : (n : ℕ) (x : g.row.K.Denot) → n < l.place → slice_get l.names n ≡ Some x → slice_index l.row.items n ≡ target_code l.base (option_map number_of (get g.K.Ord.cmp l.targets x));
  rest : (n : ℕ) → l.place ≤ n → slice_index l.row.items n ≡ 0;
  len : length l.row.items ≡ length l.fn.row.items;
}
