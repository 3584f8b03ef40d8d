-- Names as the keys of a table.
use Rattle.std.proofs.Common.{◌≡◌, ℕ, zero, suc, List, [], ◌∷◌, refl, ap, ◌∙◌, Option, Some, Bool, true, false, cond, unwrap_or, IsSome, is_some}
use Rattle.std.specs.Prelude.{slice_get}
use Rattle.std.specs.Cmp.{IsTotalOrder, IsEquivalence, eq_by_cmp_equiv}
use Rattle.std.specs.Cmp.Lexicographic.{on_texts}
use Rattle.std.specs.BTreeMap.{is_at}
use Rattle.std.specs.Map.{lookup}
use Rattle.std.proofs.lemmas.Map.Lookups.{exact_bytes}
use Rattle.lalrpop_grammar.proofs.Types.{NonterminalString}
use Rattle.lalrpop_grammar.specs.Words.{name_cmp}
use Rattle.lalrpop_grammar.proofs.theory.grammars.NameOrders.{is_equal}

pub name_total : IsTotalOrder name_cmp
name_total = on_texts (λ (a : NonterminalString). a.text)

-- two names that tie in the order are equal
abbrev made : List ℕ → NonterminalString
made t = record { text = t }

pub name_same : (a b : NonterminalString) → is_at (name_cmp a) b ≡ true → a ≡ b
name_same a b e = ap made (exact_bytes a.text b.text (is_equal (name_cmp a b) e))

pub name_self : (a : NonterminalString) → is_at (name_cmp a) a ≡ true
name_self a = IsEquivalence.refl (eq_by_cmp_equiv name_total) a

-- the name of an entry has an entry
pub has_own : {X : Type 0} (m : List (NonterminalString × X)) (k : ℕ) (a : NonterminalString) (x : X) → slice_get m k ≡ Some (a, x) → IsSome (lookup (is_at (name_cmp a)) m)
has_own [] k a x at = absurd cc
has_own {X} (e ∷ m) zero a x at =
    let same : e.0 ≡ a = ap (λ (o : Option (NonterminalString × X)). (unwrap_or o e).0) at in
    ap (λ b. is_some (cond b (Some e.1) (lookup (is_at (name_cmp a)) m))) (ap (λ b. is_at (name_cmp a) b) same ∙ name_self a)
has_own {X} (e ∷ m) (suc k) a x at = later (is_at (name_cmp a) e.0) (has_own m k a x at)
  where
    later : (b : Bool) → IsSome (lookup (is_at (name_cmp a)) m) → IsSome (cond b (Some e.1) (lookup (is_at (name_cmp a)) m))
    later true h = refl
    later false h = h
