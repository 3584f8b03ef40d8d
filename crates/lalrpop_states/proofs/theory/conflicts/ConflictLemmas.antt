-- The conflicts of a state, one shift or reduction at a time.
use Rattle.std.proofs.Common.{◌≡◌, ℕ, zero, suc, ◌<◌, ⊎_elim, Bool, true, false, ◌&&◌, List, [], ◌∷◌, ◌++◌, map, length, get_or, refl, sym, ◌∙◌, ap, arith, append_assoc}
use Rattle.std.specs.Prelude.{cond, slice_get, Option, Some, None, unwrap_or, is_some, nat_lt, IfSome, ◌↔◌}
use Rattle.std.specs.List.{filter, flat_map, list_any, position_or_len}
use Rattle.std.proofs.lemmas.List.{append-nil}
use Rattle.std.proofs.lemmas.List.Folds.{list_any_at}
use Rattle.std.proofs.lemmas.Bool.{cases_Bool, or_cases, lt-ltb}
use Rattle.std.proofs.lemmas.Option.{slice_get_read, slice_get_within, get_or_from_slice_get}
use Rattle.std.proofs.lemmas.List.Sums.{position_or_len_is}
use Rattle.lalrpop_grammar.specs.Words.{place_in}
use Rattle.lalrpop_collections.specs.Words.{Bits, has, rising, has-at, has-place, same_bits}
use Rattle.lalrpop_states.specs.Words.{meet, share, conflicts_on_place, shift_conflicts}
use Rattle.lalrpop_states.specs.Words.{reduce_conflicts, later_conflicts, reduce_conflict, shift_conflict, state_conflicts}
use Rattle.lalrpop_states.proofs.theory.states.HeldTokens.{place_there}
use mathlib.Core.Bool.{true≢false}
use Rattle.lalrpop_states.proofs.Types.{Conflict, State, StateIndex, TerminalString}
use Rattle.lalrpop_states.specs.declared.lr1_core.state.Action.TheVariants.{Reduce}
use Rattle.lalrpop_grammar.specs.contracts.repr.TerminalStringPartialEq.TheImpl as terminal
use Rattle.lalrpop_grammar.specs.contracts.repr.TerminalStringEq.TheImpl.Laws as equality
use Rattle.lalrpop_grammar.specs.contracts.repr.exact.TerminalStringExact.TheImpl.Laws.{exact-law}
use Rattle.lalrpop_states.specs.conflicts.StateConflicts.{StateReduction, IsConflictFree}
use Rattle.lalrpop_collections.proofs.theory.lists.RisingLemmas.{filter_bits}

-- the bit that a set of terminals returns is the place of the terminal
same_terminal : (x y : TerminalString) → terminal.ghosts.eq x y ≡ true → x ≡ y
same_terminal x y e = exact-law x y e

first_place : (xs : List TerminalString) (t : TerminalString) (bit : ℕ) → slice_get xs bit ≡ Some t → ((j : ℕ) → slice_get xs j ≡ Some t → j ≡ bit) → place_in xs t ≡ Some bit
first_place xs t bit at one =
    let within : bit < length xs = slice_get_within xs bit t at in
    let first : position_or_len (λ x. terminal.ghosts.eq x t) xs ≡ bit =
    position_or_len_is (λ x. terminal.ghosts.eq x t) xs bit t (omega arith)
    (λ j less. ⊎_elim
    (λ same. absurd (omega (arith, less, one j (slice_get_read xs (length xs) j t refl (omega arith) (sym (same_terminal (get_or xs j t) t same))))))
    (λ other. other) (cases_Bool (terminal.ghosts.eq (get_or xs j t) t)))
    (λ _. ap (λ x. terminal.ghosts.eq x t) (get_or_from_slice_get xs bit t t at) ∙ equality.laws-law.refl t) in
    ap (λ i. cond (nat_lt i (length xs)) (Some i) None) first ∙ ap (λ b. cond b (Some bit) None) (lt-ltb bit (length xs) within)

no_place : (xs : List TerminalString) (t : TerminalString) → ((j : ℕ) → slice_get xs j ≡ Some t → ⊥) → (o : Option ℕ) → place_in xs t ≡ o → place_in xs t ≡ None
no_place xs t out None e = e
no_place xs t out (Some k) e = absurd (out k (place_there xs t k e))

some_place : (j bit : ℕ) (o : Option ℕ) → o ≡ Some bit → o ≡ Some j → j ≡ bit
some_place j bit o e f = ap (λ z. unwrap_or z bit) (sym f ∙ e)

none_some : (j : ℕ) (o : Option ℕ) → o ≡ None → o ≡ Some j → ⊥
none_some j o e f = true≢false (ap is_some (sym f) ∙ ap is_some e)

pub bit_is_place : (xs : List TerminalString) (t : TerminalString) (o : Option ℕ) → IfSome o (λ bit. slice_get xs bit ≡ Some t) → ((bit : ℕ) → slice_get xs bit ≡ Some t → o ≡ Some bit) → place_in xs t ≡ o
bit_is_place xs t (Some bit) found only = first_place xs t bit found (λ j at. some_place j bit (Some bit) refl (only j at))
bit_is_place xs t None found only = no_place xs t (λ j at. none_some j None refl (only j at)) (place_in xs t) refl

module _ {X Y : Type 0} (f : X → Y) (p : X → Bool) where
  kept_none : (xs : List X) → ((k : ℕ) (x : X) → slice_get xs k ≡ Some x → p x ≡ false) → map f (filter p xs) ≡ []
  kept_none [] out = refl
  kept_none (x ∷ xs) out = ap (λ t. map f (cond t (x ∷ filter p xs) (filter p xs))) (out 0 x refl) ∙ kept_none xs (λ k y at. out (suc k) y at)

  none_kept : (xs : List X) → map f (filter p xs) ≡ [] → (k : ℕ) (x : X) → slice_get xs k ≡ Some x → p x ≡ true → ⊥
  none_kept [] e k x at holds = cc
  none_kept (y ∷ xs) e zero x at holds =
      let same : y ≡ x = ap (λ o. unwrap_or o y) at in
      cons_nil (f y) (map f (filter p xs)) (ap (λ t. map f (cond t (y ∷ filter p xs) (filter p xs))) (sym (ap p same ∙ holds)) ∙ e)
    where
      cons_nil : (z : Y) (zs : List Y) → z ∷ zs ≡ [] → ⊥
      cons_nil z zs e = cc
  none_kept (y ∷ xs) e (suc k) x at holds = none_kept xs (rest (p y) e) k x at holds
    where
      rest : (t : Bool) → map f (cond t (y ∷ filter p xs) (filter p xs)) ≡ [] → map f (filter p xs) ≡ []
      rest true e = cc
      rest false e = e

-- sets that have a bit in common share it
pub shared : (s t : Bits) (b : ℕ) → has s b ≡ true → has t b ≡ true → share s t ≡ true
shared s t b here there = let place = has-place s b here in list_any_at (λ q. has t q) (rising s) place.0 0 place.1 (ap (λ q. has t q) place.2 ∙ there)

share_place : (t : Bits) (xs : List ℕ) → list_any (λ q. has t q) xs ≡ true → (k : ℕ) × (k < length xs) × (has t (get_or xs k 0) ≡ true)
share_place t [] h = cc
share_place t (x ∷ xs) h = ⊎_elim (λ here. (0, omega arith, here)) (λ later. let rest = share_place t xs later in (suc rest.0, omega (arith, rest.1), rest.2)) (or_cases (has t x) (list_any (λ q. has t q) xs) h)

pub share_some : (s t : Bits) → share s t ≡ true → (b : ℕ) × (has s b ≡ true) × (has t b ≡ true)
share_some s t h = let place = share_place t (rising s) h in (get_or (rising s) place.0 0, has-at s place.0 place.1, place.2)

pub share_none : (s t : Bits) → ((b : ℕ) → has s b ≡ true → has t b ≡ true → ⊥) → share s t ≡ false
share_none s t out = ⊎_elim (λ h. let some = share_some s t h in absurd (out some.0 some.1 some.2)) (λ f. f) (cases_Bool (share s t))

pub meet_is : (s t both : Bits) → ((q : ℕ) → has both q ≡ (has s q && has t q)) → both ≡ meet s t
meet_is s t both h = same_bits both (meet s t) (λ q. h q ∙ sym (filter_bits (λ b. has t b) s q))

-- two reductions share a token, or they do not
pub later_none : (state : StateIndex) (r s : StateReduction) (list : List (Conflict Bits)) → ((b : ℕ) → has r.0 b ≡ true → has s.0 b ≡ true → ⊥) → list ≡ list ++ later_conflicts state r (s ∷ [])
later_none state r s list out = sym (ap (λ t. list ++ map (reduce_conflict state r) (cond t (s ∷ []) [])) (share_none r.0 s.0 out) ∙ append-nil list)

pub later_one : (state : StateIndex) (r s : StateReduction) (list new : List (Conflict Bits)) (both : Bits) → (b : ℕ) × (has r.0 b ≡ true) × (has s.0 b ≡ true) → ((q : ℕ) → has both q ≡ (has r.0 q && has s.0 q)) →
    new ≡ list ++ record { state = state; lookahead = both; production = r.1; action = Reduce s.1 } ∷ [] → new ≡ list ++ later_conflicts state r (s ∷ [])
later_one state r s list new both some meets grown =
    let one : Bits → Conflict Bits = λ l. record { state = state; lookahead = l; production = r.1; action = Reduce s.1 } in
    grown ∙ ap (λ l. list ++ one l ∷ []) (meet_is r.0 s.0 both meets)
    ∙ sym (ap (λ t. list ++ map (reduce_conflict state r) (cond t (s ∷ []) [])) (shared r.0 s.0 some.0 some.1 some.2))

-- the list of conflicts after one more shift
pub shift_more : (terminals : List TerminalString) (state : StateIndex) (rs : List StateReduction) (list new start : List (Conflict Bits)) (whole before rest : List (TerminalString × StateIndex)) (e : TerminalString × StateIndex) →
    before ≡ e ∷ rest → list ++ flat_map (shift_conflicts terminals state rs) before ≡ start ++ flat_map (shift_conflicts terminals state rs) whole → new ≡ list ++ shift_conflicts terminals state rs e →
    new ++ flat_map (shift_conflicts terminals state rs) rest ≡ start ++ flat_map (shift_conflicts terminals state rs) whole
shift_more terminals state rs list new start whole before rest e is so_far grown =
    ap (λ ys. ys ++ flat_map (shift_conflicts terminals state rs) rest) grown ∙ append_assoc list (shift_conflicts terminals state rs e) (flat_map (shift_conflicts terminals state rs) rest)
    ∙ ap (λ ys. list ++ ys) (sym (ap (λ ys. flat_map (shift_conflicts terminals state rs) ys) is)) ∙ so_far

pub both_empty : {X : Type 0} (xs ys : List X) → xs ++ ys ≡ [] → (xs ≡ []) × (ys ≡ [])
both_empty [] ys e = (refl, e)
both_empty (x ∷ xs) ys e = cc

module _ (terminals : List TerminalString) (state : StateIndex) (rs : List StateReduction) where
  none_shifted : (entries : List (TerminalString × StateIndex)) → flat_map (shift_conflicts terminals state rs) entries ≡ [] →
      (k j bit : ℕ) (t : TerminalString) (target : StateIndex) (r : StateReduction) → slice_get entries k ≡ Some (t, target) → place_in terminals t ≡ Some bit → slice_get rs j ≡ Some r → has r.0 bit ≡ true → ⊥
  none_shifted [] e k j bit t target r at place there holds = cc
  none_shifted (x ∷ entries) e zero j bit t target r at place there holds =
      let first = (both_empty (shift_conflicts terminals state rs x) (flat_map (shift_conflicts terminals state rs) entries) e).0 in
      let same : x ≡ (t, target) = ap (λ o. unwrap_or o x) at in
      none_kept (shift_conflict state t target bit) (λ s. has s.0 bit) rs
      (sym (ap (λ o. conflicts_on_place state t target rs o) place) ∙ sym (ap (λ y. shift_conflicts terminals state rs y) same) ∙ first) j r there holds
  none_shifted (x ∷ entries) e (suc k) j bit t target r at place there holds =
      none_shifted entries (both_empty (shift_conflicts terminals state rs x) (flat_map (shift_conflicts terminals state rs) entries) e).1 k j bit t target r at place there holds

  no_shifted : (entries : List (TerminalString × StateIndex)) →
      ((k j bit : ℕ) (t : TerminalString) (target : StateIndex) (r : StateReduction) → slice_get entries k ≡ Some (t, target) → place_in terminals t ≡ Some bit → slice_get rs j ≡ Some r → has r.0 bit ≡ true → ⊥) →
      flat_map (shift_conflicts terminals state rs) entries ≡ []
  no_shifted [] out = refl
  no_shifted ((t, target) ∷ entries) out =
      ap (λ ys. ys ++ flat_map (shift_conflicts terminals state rs) entries) (at_place (place_in terminals t) refl) ∙ no_shifted entries (λ k j bit u to r at. out (suc k) j bit u to r at)
    where
      at_place : (o : Option ℕ) → place_in terminals t ≡ o → conflicts_on_place state t target rs (place_in terminals t) ≡ []
      at_place None e = ap (λ o. conflicts_on_place state t target rs o) e
      at_place (Some bit) e =
          ap (λ o. conflicts_on_place state t target rs o) e
          ∙ kept_none (shift_conflict state t target bit) (λ s. has s.0 bit) rs (λ j r at. ⊎_elim (λ h. absurd (out 0 j bit t target r refl e at h)) (λ f. f) (cases_Bool (has r.0 bit)))

module _ (state : StateIndex) where
  none_reduced : (rs : List StateReduction) → reduce_conflicts state rs ≡ [] →
      (i j bit : ℕ) (r s : StateReduction) → i < j → slice_get rs i ≡ Some r → slice_get rs j ≡ Some s → has r.0 bit ≡ true → has s.0 bit ≡ true → ⊥
  none_reduced [] e i j bit r s l at there here holds = cc
  none_reduced (x ∷ rs) e i zero bit r s l at there here holds = omega arith
  none_reduced (x ∷ rs) e zero (suc j) bit r s l at there here holds =
      let same : x ≡ r = ap (λ o. unwrap_or o x) at in
      none_kept (reduce_conflict state x) (λ t. share x.0 t.0) rs (both_empty (later_conflicts state x rs) (reduce_conflicts state rs) e).0 j s there
      (shared x.0 s.0 bit (ap (λ y. has y.0 bit) same ∙ here) holds)
  none_reduced (x ∷ rs) e (suc i) (suc j) bit r s l at there here holds =
      none_reduced rs (both_empty (later_conflicts state x rs) (reduce_conflicts state rs) e).1 i j bit r s (omega arith) at there here holds

  no_reduced : (rs : List StateReduction) → ((i j bit : ℕ) (r s : StateReduction) → i < j → slice_get rs i ≡ Some r → slice_get rs j ≡ Some s → has r.0 bit ≡ true → has s.0 bit ≡ true → ⊥) →
      reduce_conflicts state rs ≡ []
  no_reduced [] out = refl
  no_reduced (x ∷ rs) out =
      ap (λ ys. ys ++ reduce_conflicts state rs)
      (kept_none (reduce_conflict state x) (λ t. share x.0 t.0) rs (λ j s at. share_none x.0 s.0 (λ b here holds. out 0 (suc j) b x s (omega arith) refl at here holds)))
      ∙ no_reduced rs (λ i j bit r s l at there here holds. out (suc i) (suc j) bit r s (omega arith) at there here holds)

-- the list is empty exactly if the state has no conflict
pub none_exactly : (terminals : List TerminalString) (state : State Bits) → (state_conflicts terminals state ≡ []) ↔ IsConflictFree terminals state
none_exactly terminals state = (
  λ e. let parts = both_empty (flat_map (shift_conflicts terminals state.index state.reductions.items) state.shifts.entries) (reduce_conflicts state.index state.reductions.items) e in record {
    shifts = none_shifted terminals state.index state.reductions.items state.shifts.entries parts.0;
    reductions = none_reduced state.index state.reductions.items parts.1;
  },
  λ h.
      ap (λ ys. ys ++ reduce_conflicts state.index state.reductions.items) (no_shifted terminals state.index state.reductions.items state.shifts.entries h.shifts) ∙ no_reduced state.index state.reductions.items h.reductions,
)
