use Rattle.std.proofs.Common.{◌≡◌, ℕ, List, Some, length, slice_get, sym, subst}
use Rattle.parse_calls.specs.Lookups.{side_at}
use Rattle.parse_call_laws.proofs.Found.{same_side}
use Rattle.parse_call_laws.proofs.laws.sides.Goals as goal

pub returns : goal.returns
returns c = record {
  right = λ lists tables numbers is number p at. subst (λ (ns : List ℕ). (name : ℕ) × (len : ℕ) × (side_at ns number ≡ Some (name, len)) × (slice_get lists.nonterminals name ≡ Some p.nonterminal) × (len ≡ length p.symbols)) (sym is.laid_out) (same_side lists tables is.about is.nonterminals number p at);
}
