-- The numbers of conflicts, one shift or reduction at a time. The numbers are the lengths of the
-- lists of conflicts.
use Rattle.std.proofs.Common.{◌≡◌, ℕ, ◌+◌, ◌-◌, Bool, true, false, List, [], ◌∷◌, map, length, refl, sym, ◌∙◌, ap, arith, take, drop, get_or, ◌==◌, eqb-true}
use Rattle.std.specs.Prelude.{Option, Some, None, count_by, slice_get, IfSome}
use Rattle.std.specs.List.{filter, flat_map}
use Rattle.std.proofs.lemmas.List.{length-append, length-map, length-drop, take_all, at_drop_more}
use Rattle.std.proofs.lemmas.List.Sums.{length-filter}
use Rattle.std.proofs.lemmas.Option.{get_or_from_slice_get, slice_get_within}
use Rattle.lalrpop_collections.specs.Words.{Bits, has}
use Rattle.lalrpop_states.specs.Words.{share, conflicts_on_place, shift_conflicts, later_conflicts, reduce_conflicts, state_conflicts}
use Rattle.lalrpop_grammar.specs.Words.{place_in}
use Rattle.lalrpop_states.specs.Words.{shift_conflict, reduce_conflict, count_on_place, shift_conflict_count, later_count, reduce_conflict_count}
use Rattle.lalrpop_states.specs.conflicts.StateConflicts.{StateReduction}
use Rattle.lalrpop_states.proofs.Types.{State, StateIndex, TerminalString}
use Rattle.lalrpop_states.proofs.theory.conflicts.ConflictLemmas.{shared, share_none, bit_is_place}

-- a result is `share` if true means that a bit is in both sets, and false that none is
pub share_is : (s t : Bits) (answer : Bool) → (answer ≡ true → (b : ℕ) × (has s b ≡ true) × (has t b ≡ true)) → (answer ≡ false → (b : ℕ) → has s b ≡ true → has t b ≡ true → ⊥) →
    answer ≡ share s t
share_is s t true both apart = let some = both refl in sym (shared s t some.0 some.1 some.2)
share_is s t false both apart = sym (share_none s t (apart refl))

-- the number of conflicts after one more shift
pub shifts_more : (terminals : List TerminalString) (rs : List StateReduction) (count held total : ℕ) (before rest : List (TerminalString × StateIndex)) (t : TerminalString) (target : StateIndex) (bit : Option ℕ) →
    before ≡ (t, target) ∷ rest → IfSome bit (λ b. slice_get terminals b ≡ Some t) → ((b : ℕ) → slice_get terminals b ≡ Some t → bit ≡ Some b) → held ≡ count_on_place rs bit →
    count + shift_conflict_count terminals rs before ≡ total → count + held + shift_conflict_count terminals rs rest ≡ total
shifts_more terminals rs count held total before rest t target bit is found only here so_far =
    let split : shift_conflict_count terminals rs before ≡ count_on_place rs (place_in terminals t) + shift_conflict_count terminals rs rest = ap (λ ys. shift_conflict_count terminals rs ys) is in
    let place : held ≡ count_on_place rs (place_in terminals t) = here ∙ ap (λ o. count_on_place rs o) (sym (bit_is_place terminals t bit found only)) in
    omega arith

all_behind : (rs : List StateReduction) (n : ℕ) → take (length rs - n) (drop n rs) ≡ drop n rs
all_behind rs n = let long = length-drop n rs in take_all (length rs - n) (drop n rs) (omega (arith, long))

-- the number of conflicts after one more reduction
pub reductions_more : (rs : List StateReduction) (r : StateReduction) (place count later total : ℕ) → slice_get rs place ≡ Some r → later ≡ later_count r (take (length rs - (place + 1)) (drop (place + 1) rs)) →
    count + reduce_conflict_count (drop place rs) ≡ total → count + later + reduce_conflict_count (drop (place + 1) rs) ≡ total
reductions_more rs r place count later total at here so_far =
    let same : get_or rs place r ≡ r = get_or_from_slice_get rs place r r at in
    let split : reduce_conflict_count (drop place rs) ≡ later_count r (drop (place + 1) rs) + reduce_conflict_count (drop (place + 1) rs) =
    at_drop_more reduce_conflict_count rs place r (slice_get_within rs place r at) ∙ ap (λ (x : StateReduction). later_count x (drop (place + 1) rs) + reduce_conflict_count (drop (place + 1) rs)) same in
    let behind : later ≡ later_count r (drop (place + 1) rs) = here ∙ ap (λ ys. later_count r ys) (all_behind rs (place + 1)) in
    omega arith

-- the numbers are the lengths of the lists
kept_count : {X Y : Type 0} (f : X → Y) (p : X → Bool) (xs : List X) → length (map f (filter p xs)) ≡ count_by p xs
kept_count f p xs = length-map (filter p xs) f ∙ length-filter p xs

place_count : (state : StateIndex) (t : TerminalString) (target : StateIndex) (rs : List StateReduction) (place : Option ℕ) → length (conflicts_on_place state t target rs place) ≡ count_on_place rs place
place_count state t target rs None = refl
place_count state t target rs (Some bit) = kept_count (shift_conflict state t target bit) (λ (r : StateReduction). has r.0 bit) rs

shift_lengths : (terminals : List TerminalString) (state : StateIndex) (rs : List StateReduction) (entries : List (TerminalString × StateIndex)) →
    length (flat_map (shift_conflicts terminals state rs) entries) ≡ shift_conflict_count terminals rs entries
shift_lengths terminals state rs [] = refl
shift_lengths terminals state rs ((t, target) ∷ rest) =
    let first = place_count state t target rs (place_in terminals t) in
    let later = shift_lengths terminals state rs rest in
    length-append (shift_conflicts terminals state rs (t, target)) (flat_map (shift_conflicts terminals state rs) rest) ∙ omega (arith, first, later)

reduce_lengths : (state : StateIndex) (rs : List StateReduction) → length (reduce_conflicts state rs) ≡ reduce_conflict_count rs
reduce_lengths state [] = refl
reduce_lengths state (r ∷ later) =
    let first = kept_count (reduce_conflict state r) (λ (s : StateReduction). share r.0 s.0) later in
    let rest = reduce_lengths state later in
    length-append (later_conflicts state r later) (reduce_conflicts state later) ∙ omega (arith, first, rest)

pub all_counted : (terminals : List TerminalString) (state : State Bits) (first second : List StateReduction) → first ≡ state.reductions.items → second ≡ state.reductions.items →
    length (state_conflicts terminals state) ≡ shift_conflict_count terminals first state.shifts.entries + reduce_conflict_count second
all_counted terminals state first second is_first is_second =
    let shifts = shift_lengths terminals state.index state.reductions.items state.shifts.entries ∙ ap (λ rs. shift_conflict_count terminals rs state.shifts.entries) (sym is_first) in
    let reduces = reduce_lengths state.index state.reductions.items ∙ ap reduce_conflict_count (sym is_second) in
    length-append (flat_map (shift_conflicts terminals state.index state.reductions.items) state.shifts.entries) (reduce_conflicts state.index state.reductions.items) ∙ omega (arith, shifts, reduces)

-- no reduction holds the bit of a terminal if there is no reduction
none_on_place : (bit : Option ℕ) → count_on_place [] bit ≡ 0
none_on_place None = refl
none_on_place (Some bit) = refl

without_reductions : (terminals : List TerminalString) (shifts : List (TerminalString × StateIndex)) → shift_conflict_count terminals [] shifts ≡ 0
without_reductions terminals [] = refl
without_reductions terminals (shift ∷ rest) = omega (arith, none_on_place (place_in terminals shift.0), without_reductions terminals rest)

pub no_shift_conflict : (terminals : List TerminalString) (rs : List StateReduction) (shifts : List (TerminalString × StateIndex)) → (length rs == 0) ≡ true → shift_conflict_count terminals rs shifts ≡ 0
no_shift_conflict terminals [] shifts none = without_reductions terminals shifts
no_shift_conflict terminals (r ∷ rs) shifts none = let e = eqb-true (length (r ∷ rs)) 0 none in absurd (omega (arith, e))
