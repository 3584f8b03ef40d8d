-- Conflicts are counted, with sets by number.
use Rattle.std.proofs.Common.{◌≡◌, ◌∙◌, ◌+◌, ◌-◌, ◌^◌, ◌<◌, ℕ, zero, suc, min, inl, inr, Bool, Option, Some, None, cond, List, [], ◌∷◌, ◌++◌, length, get_or, map, option_map, drop, take, refl, sym, ap, subst, arith, add_assoc, add-zero, zero-add, append-nil, length-append, length-drop}
use Rattle.std.specs.Prelude.{Contains, count_by, slice_get}
use Rattle.std.specs.List.{flat_map}
use Rattle.std.proofs.lemmas.Bool.Decides.{nat_tests}
use Rattle.std.proofs.lemmas.Grind.{flat_map-append}
use Rattle.std.proofs.lemmas.Option.{slice_get-map}
use Rattle.std.proofs.lemmas.List.{at_drop_more, take_all, take_more}
use Rattle.std.proofs.lemmas.List.Sums.{sum_by-cons}
use Rattle.lalrpop_base.specs.Words.{Bits, has, state_conflicts, symbol_at}
use Rattle.lalrpop_collections.proofs.theory.lists.Members.{Contains-none, Contains-take, contains-cons, contains_tail, of_flat}
use Rattle.lalrpop_collections.proofs.theory.lists.Places.{same_some}
use Rattle.lalrpop_construction.proofs.theory.construction.NumberedMoves.{symbol_stands}
use Rattle.lalrpop_construction.specs.canonical.CanonicalAnswers.{up_to_greatest}
use Rattle.lalrpop_grammar.specs.declared.repr.Symbol.{Symbol}
use Rattle.lalrpop_grammar.specs.declared.repr.Symbol.TheVariants.{Nonterminal, Terminal}
use Rattle.lalrpop_grammar.specs.declared.repr.TerminalString.{TerminalString}
use Rattle.lalrpop_numbers.specs.declared.numbers.Numbers.{Numbers}
use Rattle.lalrpop_states.specs.conflicts.ConflictCounts.{count_on_bit, count_on_place, later_count, shift_conflict_count}
use Rattle.lalrpop_states.specs.conflicts.StateConflicts.{StateReduction, share}
use Rattle.lalrpop_states.specs.declared.lr1_core.state.Conflict.{Conflict}
use Rattle.lalrpop_states.specs.declared.lr1_core.state.State.{State}
use Rattle.lalrpop_states.specs.declared.lr1_core.state.StateIndex.{StateIndex}
use Rattle.canonical_by_number.specs.TokenSets.{AreSetsIn, set_at}
use Rattle.canonical_by_number.specs.Edges.{bit_of, bits_of, shift_over, shifts_in}
use Rattle.canonical_by_number.specs.Conflicts.{CountsMore, conflict_total, finished_entries, finished_entry, finished_if, holds_in, reduce_conflicts_of, reduction_in, reductions_in, shares_in, shift_conflicts_of}

-- ---- finished items
pub entries_more : (n : Numbers) (xs : List (ℕ × ℕ)) (i : ℕ) → i < length xs → finished_entries n (take (i + 1) xs) ≡ finished_entries n (take i xs) ++ finished_entry n (get_or xs i (0, 0))
entries_more n xs i l =
    let x : ℕ × ℕ = get_or xs i (0, 0) in
    ap (flat_map (finished_entry n)) (take_more xs i (0, 0) l) ∙ flat_map-append (finished_entry n) (take i xs) (x ∷ []) ∙ ap (λ (es : List (ℕ × ℕ)). finished_entries n (take i xs) ++ es) (append-nil (finished_entry n x))

-- a finished item is among the items
finished_one : (n : Numbers) (e d : ℕ × ℕ) (o : Option (Option ℕ)) → Contains (finished_if o e) d → d ≡ e
finished_one n e d None c = absurd (Contains-none d c)
finished_one n e d (Some None) c = elim (contains-cons e [] d c) [ inl same ↦ sym same | inr none ↦ absurd (Contains-none d none) ]
finished_one n e d (Some (Some x)) c = absurd (Contains-none d c)

pub finished_among : (n : Numbers) (list : List (ℕ × ℕ)) (d : ℕ × ℕ) → Contains (finished_entries n list) d → Contains list d
finished_among n list d c =
    let f = of_flat (finished_entry n) list d c in
    subst (Contains list) (sym (finished_one n f.0 d (slice_get n.behind.items f.0.0) f.2)) f.1

-- ---- entries of a part of a list
dropped : {X : Type 0} (n : ℕ) (xs : List X) (x : X) → Contains (drop n xs) x → Contains xs x
dropped zero xs x c = c
dropped (suc n) [] x c = c
dropped (suc n) (y ∷ xs) x c = contains_tail y xs x (dropped n xs x c)

pub sets_among : (sets : List Bits) (xs : List (ℕ × ℕ)) (k n : ℕ) → AreSetsIn sets xs → AreSetsIn sets (take k (drop n xs))
sets_among sets xs k n within e c = within e (dropped n xs e (Contains-take k (drop n xs) e c))

-- ---- how many pass a test
counted_map : {X Y : Type 0} (p : Y → Bool) (f : X → Y) (xs : List X) → count_by p (map f xs) ≡ count_by (λ (x : X). p (f x)) xs
counted_map p f [] = refl
counted_map {X} {Y} p f (x ∷ xs) =
    sum_by-cons (λ (y : Y). cond (p y) 1 0) (f x) (map f xs) ∙ ap (λ (k : ℕ). cond (p (f x)) 1 0 + k) (counted_map p f xs) ∙ sym (sum_by-cons (λ (z : X). cond (p (f z)) 1 0) x xs)

module _ (n : Numbers) (sets : List Bits) where
  pub held_count : (bit : ℕ) (finished : List (ℕ × ℕ)) → count_by (holds_in sets bit) finished ≡ count_on_bit (reductions_in n sets finished) bit
  held_count bit finished = sym (counted_map (λ (r : StateReduction). has r.0 bit) (reduction_in n sets) finished)

  shared_count : (e : ℕ × ℕ) (later : List (ℕ × ℕ)) → count_by (shares_in sets e.1) later ≡ later_count (reduction_in n sets e) (reductions_in n sets later)
  shared_count e later = sym (counted_map (λ (s : StateReduction). share (set_at sets e.1) s.0) (reduction_in n sets) later)

  abbrev reduced : List (ℕ × ℕ) → ℕ
  reduced es = reduce_conflicts_of n sets es

  all_behind : (xs : List (ℕ × ℕ)) (k : ℕ) → take (length xs - k) (drop k xs) ≡ drop k xs
  all_behind xs k = let long = length-drop k xs in take_all (length xs - k) (drop k xs) (omega (arith, long))

  -- the conflicts of one more reduction with later ones
  pub Reduce-more : (finished : List (ℕ × ℕ)) (place later : ℕ) → place < length finished → later ≡ count_by (shares_in sets (get_or finished place (0, 0)).1) (take (length finished - (place + 1)) (drop (place + 1) finished)) →
      reduced (drop place finished) ≡ later + reduced (drop (place + 1) finished)
  Reduce-more finished place later l here =
      let e : ℕ × ℕ = get_or finished place (0, 0) in
      let rest = drop (place + 1) finished in
      let split : reduced (drop place finished) ≡ later_count (reduction_in n sets e) (reductions_in n sets rest) + reduced rest = at_drop_more reduced finished place (0, 0) l in
      let behind : later ≡ later_count (reduction_in n sets e) (reductions_in n sets rest) = here ∙ ap (λ (ys : List (ℕ × ℕ)). count_by (shares_in sets e.1) ys) (all_behind finished (place + 1)) ∙ shared_count e rest in
      omega (arith, split, behind)

  -- ---- shifts
  module _ (terminals : List TerminalString) where
    abbrev rs : List (ℕ × ℕ) → List StateReduction
    rs finished = reductions_in n sets finished

    shift_held : (finished : List (ℕ × ℕ)) (s : Symbol) (target : StateIndex) (rest : List (TerminalString × StateIndex)) → shift_conflict_count terminals (rs finished) (shift_over s target ++ rest) ≡ count_on_place (rs finished) (bit_of terminals s) + shift_conflict_count terminals (rs finished) rest
    shift_held finished (Terminal t) target rest = refl
    shift_held finished (Nonterminal a) target rest = sym (zero-add (shift_conflict_count terminals (rs finished) rest))

    -- the conflicts of the first edges, and of the others
    pub Shifts-left : (finished edges : List (ℕ × ℕ)) (i held : ℕ) → i < length edges → held ≡ count_on_place (rs finished) (bit_of terminals (symbol_at n.symbols.items (get_or edges i (0, 0)).0)) →
        shift_conflicts_of n sets terminals finished (drop i edges) ≡ held + shift_conflicts_of n sets terminals finished (drop (i + 1) edges)
    Shifts-left finished edges i held l is =
        let e : ℕ × ℕ = get_or edges i (0, 0) in
        let left = shift_conflicts_of n sets terminals finished (drop (i + 1) edges) in
        at_drop_more (shift_conflicts_of n sets terminals finished) edges i (0, 0) l
        ∙ shift_held finished (symbol_at n.symbols.items e.0) (record { 0 = e.1 }) (shifts_in n.symbols.items (drop (i + 1) edges))
        ∙ ap (λ (k : ℕ). k + left) (sym is)

-- ---- bits of symbols
pub bit_there : (terminals : List TerminalString) (symbols : List Symbol) (bits : List (Option ℕ)) → bits ≡ bits_of terminals symbols → (x : ℕ) (bit : Option ℕ) → x < length symbols → slice_get bits x ≡ Some bit → bit ≡ bit_of terminals (symbol_at symbols x)
bit_there terminals symbols bits are x bit l at =
    same_some bit (bit_of terminals (symbol_at symbols x)) (sym at ∙ ap (λ (bs : List (Option ℕ)). slice_get bs x) are ∙ slice_get-map (bit_of terminals) symbols x ∙ ap (λ (o : Option Symbol). option_map (bit_of terminals) o) (symbol_stands symbols x l))

-- ---- a count up to the greatest number
pub up_more : (n m : ℕ) → up_to_greatest (n + m) ≡ min (up_to_greatest n + m) (2 ^ 64 - 1)
up_more n m = grind (arith, nat_tests)

-- more conflicts are counted
pub Counts-more : (part left all old count held next : ℕ) → ((n : ℕ) → old ≡ up_to_greatest n → (m : ℕ) × (count ≡ up_to_greatest (n + m)) × (m + left ≡ all)) → next ≡ min (count + held) (2 ^ 64 - 1) → left ≡ held + part → (n : ℕ) → old ≡ up_to_greatest n → (m : ℕ) × (next ≡ up_to_greatest (n + m)) × (m + part ≡ all)
Counts-more part left all old count held next before is split n e =
    let b = before n e in
    (b.0 + held, is ∙ ap (λ (k : ℕ). min (k + held) (2 ^ 64 - 1)) b.1 ∙ sym (up_more (n + b.0) held) ∙ ap up_to_greatest (add_assoc n b.0 held), omega (arith, split, b.2))

-- all conflicts are counted
pub Counts-all : (all old count left : ℕ) → ((n : ℕ) → old ≡ up_to_greatest n → (m : ℕ) × (count ≡ up_to_greatest (n + m)) × (m + left ≡ all)) → left ≡ 0 → CountsMore all old count
Counts-all all old count left before none n e =
    let b = before n e in
    let same : b.0 ≡ all = omega (arith, none, b.2) in
    b.1 ∙ ap (λ (k : ℕ). up_to_greatest (n + k)) same

pub Counts-none : (all old : ℕ) → (n : ℕ) → old ≡ up_to_greatest n → (m : ℕ) × (old ≡ up_to_greatest (n + m)) × (m + all ≡ all)
Counts-none all old n e = (0, e ∙ ap up_to_greatest (sym (add-zero n)), zero-add all)

pub Counts-then : (first second old middle new : ℕ) → CountsMore first old middle → CountsMore second middle new → CountsMore (first + second) old new
Counts-then first second old middle new f g n e = g (n + first) (f n e) ∙ ap up_to_greatest (add_assoc n first second)

-- ---- one state more
pub Total-more : (terminals : List TerminalString) (all : List (State Bits)) (state : State Bits) (own old next : ℕ) → length (state_conflicts terminals state) ≡ own → CountsMore own old next → old ≡ conflict_total terminals all → next ≡ conflict_total terminals (all ++ state ∷ [])
Total-more terminals all state own old next is more so_far =
    let f : State Bits → List (Conflict Bits) = state_conflicts terminals in
    let whole : length (flat_map f (all ++ state ∷ [])) ≡ length (flat_map f all) + length (f state) = ap (λ (cs : List (Conflict Bits)). length cs) (flat_map-append f all (state ∷ []) ∙ ap (λ (cs : List (Conflict Bits)). flat_map f all ++ cs) (append-nil (f state))) ∙ length-append (flat_map f all) (f state) in
    more (length (flat_map f all)) so_far ∙ ap up_to_greatest (ap (λ (k : ℕ). length (flat_map f all) + k) (sym is) ∙ sym whole)
