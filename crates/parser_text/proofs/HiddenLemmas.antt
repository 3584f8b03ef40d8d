-- Hidden productions.
use Rattle.std.proofs.Common.{◌≡◌, ◌↔◌, Bool, true, false, refl, sym, subst}
use Rattle.std.specs.BTreeMap.{is_at}
use Rattle.lalrpop_base.specs.Words.{name_cmp}
use Rattle.lalrpop_grammar.specs.declared.repr.NonterminalString.{NonterminalString}
use Rattle.lalrpop_grammar.proofs.theory.first.FirstNames.{name_same, name_self}

-- a test that tells equal names is the one by the order of names
pub is_same_name : (f a : NonterminalString) (b : Bool) → (b ≡ true) ↔ (f ≡ a) → b ≡ is_at (name_cmp f) a
is_same_name f a true told = sym (subst (λ (x : NonterminalString). is_at (name_cmp f) x ≡ true) (told.0 refl) (name_self f))
is_same_name f a false told = go (is_at (name_cmp f) a) (λ e. told.1 (name_same f a e))
  where
    go : (c : Bool) → (c ≡ true → false ≡ true) → false ≡ c
    go false same = refl
    go true same = absurd (cc (same refl))
