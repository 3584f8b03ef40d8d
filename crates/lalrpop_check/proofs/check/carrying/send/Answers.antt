use Rattle.std.proofs.Common.{◌≡◌, Bool, true, false, refl, ap, subst, List, [], ◌∷◌}
use Rattle.lalrpop_base.specs.Words.{Bits, IsJoinedAt, readings}
use Rattle.lalrpop_collections.specs.lists.Entries.IsPut.{came}
use Rattle.lalrpop_check.proofs.check.carrying.send.Goals as goal

-- sets of tokens are read as themselves
read_themselves : {K : Type 0} (es : List (K × Bits)) → readings (λ (s : Bits). s) es ≡ es
read_themselves [] = refl
read_themselves (e ∷ es) = ap (λ (more : List _). e ∷ more) (read_themselves es)

joined_sets : {K : Type 0} (k : K) (tokens : Bits) (told : Bool) (old new : List (K × Bits)) → IsJoinedAt k tokens told (readings (λ (s : Bits). s) old) (readings (λ (s : Bits). s) new) → IsJoinedAt k tokens told old new
joined_sets k tokens told old new j = subst (λ es. IsJoinedAt k tokens told old es) (read_themselves new) (subst (λ es. IsJoinedAt k tokens told es (readings (λ (s : Bits). s) new)) (read_themselves old) j)

pub returns-in_ok-push_back : goal.returns-in_ok-push_back
returns-in_ok-push_back c = record {
  told = true;
  joined = rw (← c.copy-copy.ensures, ← c.if-branch.true) (joined_sets _ _ _ _ _ c.in_ok-add_tokens.ensures.joined);
  put = came c.in_ok-push_back.ensures.items;
  differ = c.in_ok-add_tokens.ensures.differ;
}

pub returns-else-branch : goal.returns-else-branch
returns-else-branch c = record {
  told = false;
  joined = rw (← c.copy-copy.ensures, ← c.if-branch.false) (joined_sets _ _ _ _ _ c.in_ok-add_tokens.ensures.joined);
  put = came refl;
  differ = c.in_ok-add_tokens.ensures.differ;
}
