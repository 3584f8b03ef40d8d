use Rattle.std.proofs.Common.{◌≡◌, ◌∙◌, ap, sym, List, Option, Some, None}
use Rattle.std.specs.Prelude.{Contains, option_copied}
use Rattle.std.specs.Borrow.{Bor}
use Rattle.std.specs.Map.{keys_of}
use Rattle.lalrpop_collections.specs.Words.{Bits, AllDiffer}
use Rattle.lalrpop_collections.proofs.theory.lists.Members.{contains_map}
use Rattle.lalrpop_collections.proofs.theory.lists.Updates.{looked_found, looked_none, one_value}
use Rattle.lalrpop_states.proofs.collections.tokens.find_tokens.Goals as goal

module _ {K : Type 0} (key : K) (es : List (K × Bits)) where
  found_all : (o : Option (Bor Bits)) → ((set : Bits) → option_copied o ≡ Some set → Contains es (key, set)) → (option_copied o ≡ None → ¬ Contains (keys_of es) key) → AllDiffer (keys_of es) → (set : Bits) → Contains es (key, set) → option_copied o ≡ Some set
  found_all None found none differ set there = absurd (none (cc) (contains_map (λ (e : K × Bits). e.0) es (key, set) there))
  found_all (Some b) found none differ set there = ap Some (one_value es differ key b.now set (found b.now (cc)) there)

pub returns-clause-found : goal.returns-clause-found
returns-clause-found g c set is = looked_found g.K.PartialEq.eq g.K.Ord.cmp g.met.K.Exact.exact g.met.K.Ord.matches_eq c.args.map.now.entries c.args.key.now set (sym c.get.ensures.value ∙ is)

pub returns-clause-all : goal.returns-clause-all
returns-clause-all g c =
    let es = c.args.map.now.entries in
    found_all c.args.key.now es c.get.result
    (λ set is. looked_found g.K.PartialEq.eq g.K.Ord.cmp g.met.K.Exact.exact g.met.K.Ord.matches_eq es c.args.key.now set (sym c.get.ensures.value ∙ is))
    (λ none. looked_none g.K.Ord.cmp g.met.K.Ord.total es c.args.key.now (sym c.get.ensures.value ∙ none))
