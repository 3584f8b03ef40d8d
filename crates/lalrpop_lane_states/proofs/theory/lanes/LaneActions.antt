-- The actions of a state: the set that has them, and their places in it.
use Rattle.std.proofs.Common.{◌≡◌, inl, inr, List, [], ◌∷◌, ◌++◌, refl, sym, subst}
use Rattle.std.specs.Prelude.{Contains}
use Rattle.std.specs.BTreeSet.{insert_key}
use Rattle.std.specs.Cmp.{IsTotalOrder, tied_itself}
use Rattle.std.specs.Ordering.{match_ordering}
use Rattle.std.specs.declared.cmp.Ordering.{Ordering}
use Rattle.std.specs.declared.cmp.Ordering.TheVariants.{Less, Equal, Greater}
use Rattle.std.proofs.lemmas.List.Elements.{Contains-append_left, Contains-append_right, Contains-push_cases}
use Rattle.lalrpop_states.specs.contracts.lr1_core.state.ActionOrd.TheImpl as action_ord
use Rattle.lalrpop_lane_states.proofs.Types.{Action}
use Rattle.lalrpop_lane_states.specs.Words.{action_order, AreActions}
use Rattle.lalrpop_collections.proofs.theory.lists.Members.{Contains-none, contains_head, contains_tail, insert_key-kept, insert_key-from}

-- ---- a key is added to a set
module _ {K : Type 0} (cmp : K → K → Ordering) where
  module _ (total : IsTotalOrder cmp) where
    there_at : (x : K) (xs : List K) (k : K) (o : Ordering) → cmp k x ≡ o → ((b : K) × Contains (insert_key cmp xs k) b × (cmp k b ≡ Equal)) → (b : K) × Contains (match_ordering o (k ∷ x ∷ xs) (x ∷ xs) (x ∷ insert_key cmp xs k)) b × (cmp k b ≡ Equal)
    there_at x xs k Less e h = (k, contains_head k (x ∷ xs), tied_itself total k)
    there_at x xs k Equal e h = (x, contains_head x xs, e)
    there_at x xs k Greater e h = (h.0, contains_tail x (insert_key cmp xs k) h.0 h.1, h.2)

    insert_there : (xs : List K) (k : K) → (b : K) × Contains (insert_key cmp xs k) b × (cmp k b ≡ Equal)
    insert_there [] k = (k, contains_head k [], tied_itself total k)
    insert_there (x ∷ xs) k = there_at x xs k (cmp k x) refl (insert_there xs k)

pub action_total : IsTotalOrder action_order
action_total = action_ord.Laws.total-law

-- ---- the asked actions
pub no_actions : (keys : List Action) → keys ≡ [] → AreActions [] keys
no_actions keys none = record { of = λ a c. subst (λ (ks : List Action). Contains ks a) none c; all = λ a c. absurd (Contains-none a c) }

-- one action more
pub one_action : (asked keys new : List Action) (a : Action) → new ≡ insert_key action_order keys a → AreActions asked keys → AreActions (asked ++ a ∷ []) new
one_action asked keys new a inserted h = record {
  of = λ b c. elim (insert_key-from action_order keys a b (subst (λ (ks : List Action). Contains ks b) inserted c)) [
    | inl old ↦ Contains-append_left asked (a ∷ []) b (h.of b old)
    | inr e ↦ Contains-append_right asked (a ∷ []) b (subst (Contains (a ∷ [])) e (contains_head a []))
  ];
  all = λ b c. elim (Contains-push_cases asked a b c) [
    | inl old ↦ let f = h.all b old in (f.0, subst (λ (ks : List Action). Contains ks f.0) (sym inserted) (insert_key-kept action_order keys a f.0 f.1), f.2)
    | inr e ↦
        let f = insert_there action_order action_total keys a in
        (f.0, subst (λ (ks : List Action). Contains ks f.0) (sym inserted) f.1, subst (λ (x : Action). action_order x f.0 ≡ Equal) e f.2)
  ];
}

-- equal lists ask for the same actions
pub asked_same : (asked other keys : List Action) → asked ≡ other → AreActions asked keys → AreActions other keys
asked_same asked other keys same h = subst (λ (zs : List Action). AreActions zs keys) same h
