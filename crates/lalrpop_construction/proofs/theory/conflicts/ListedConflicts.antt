-- The list of conflicts of a state that the code makes is that of the definitions. The code goes
-- through the shifted terminals, ascending, and then through the reductions.
use Rattle.std.proofs.Common.{◌≡◌, ◌↔◌, ℕ, ◌+◌, ◌<◌, List, [], ◌∷◌, length, map, get_or, refl, sym, ◌∙◌, ap, subst, arith, Bool, true, false, cond, ◌&&◌, Option, Some}
use Rattle.std.specs.Prelude.{Contains, option_map, IfSome}
use Rattle.std.specs.declared.cmp.Ordering.TheVariants.{Less}
use Rattle.std.specs.BTreeMap.{BTreeMap, get, keys, IsOrdered}
use Rattle.std.specs.List.{filter, flat_map}
use Rattle.std.specs.Map.{keys_of}
use Rattle.std.specs.Borrow.{Bor}
use Rattle.std.proofs.lemmas.Bool.{false≢true}
use Rattle.std.proofs.lemmas.List.{map-append}
use Rattle.std.proofs.lemmas.Map.Entries.{btree_map_get_place}
use Rattle.std.proofs.lemmas.Map.Keys.{Less-from_sorted}
use Rattle.std.proofs.lemmas.Map.Views.{IfSome-get}
use Rattle.std.proofs.lemmas.Option.{slice_get_within, get_or_from_slice_get}
use Rattle.lalrpop_base.specs.Words.{Bits, has, no_bits, with_bit, Ordered, ShiftPart, no_more, in_conflict, apart, ShiftParts, no_shifts, shift_first, LaterPart}
use Rattle.lalrpop_base.specs.Words.{no_later, with_later, shares_none, ReduceParts, no_reductions, reduce_first, IsLess, ConflictContents, AreConflictsOf}
use Rattle.lalrpop_base.specs.Words.{holds_token, number_of, reduction_of, contents_of, AllDiffer, meet, share, shift_conflict, conflicts_on_bit, conflicts_on_place}
use Rattle.lalrpop_base.specs.Words.{shift_conflicts, reduce_conflict, later_conflicts, reduce_conflicts, state_conflicts, HasNoRepeat, place_in, FitsTokens}
use Rattle.lalrpop_construction.specs.Words.{conflict_of, conflicts_of}
use Rattle.lalrpop_base.specs.Words.{both}
use Rattle.lalrpop_grammar.specs.states.States.{Reduction}
use Rattle.lalrpop_construction.proofs.Types.{Conflict, Production, State, StateIndex, TerminalString, Token}
use Rattle.lalrpop_grammar.specs.declared.lookahead.token.Token.TheVariants.{Eof, Error, Terminal as TokenOf}
use Rattle.lalrpop_states.proofs.theory.conflicts.ConflictLemmas.{shared, share_some}
use Rattle.lalrpop_collections.proofs.theory.lists.Lists.{contains_of_map, contains_map, some_of_map, contains_place}
use Rattle.lalrpop_states.proofs.theory.states.HeldTokens.{place_there, place_is}
use Rattle.lalrpop_collections.proofs.theory.lists.RisingLemmas.{filter_bits}
use Rattle.lalrpop_grammar.proofs.theory.conflicts.ConflictLists.{conflict_list}
use Rattle.lalrpop_states.proofs.theory.grammars.KnownTerminals.{token_bit, held_bit, bit_held}
use Rattle.lalrpop_collections.proofs.theory.lists.Members.{contains_head, contains_tail}
use Rattle.lalrpop_grammar.proofs.theory.grammars.NameOrders.{terminal_order, terminal_exact, terminal_total}
use Rattle.lalrpop_collections.proofs.theory.lists.Places.{same_some}
use Rattle.lalrpop_collections.proofs.theory.sets.BitSets.{one_bit, own_bit}
use Rattle.lalrpop_construction.proofs.theory.grammars.ItemTokens.{token_with}

-- a reduction of the code: its tokens and its production
abbrev pub CodeReduction : Type 0
CodeReduction = Bits × Bor Production

-- both sets have the bits of their meet
both_bits : (s t : Bits) (b : ℕ) → has (meet s t) b ≡ true → (has s b ≡ true) × (has t b ≡ true)
both_bits s t b h = both (has s b) (has t b) (sym (filter_bits (λ c. has t c) s b) ∙ h)

met_bit : (s t : Bits) (b : ℕ) → has s b ≡ true → has t b ≡ true → has (meet s t) b ≡ true
met_bit s t b h k = filter_bits (λ c. has t c) s b ∙ ap (λ a. a && has t b) h ∙ k

-- ---- the shifted terminals
module _ (shifts : BTreeMap TerminalString StateIndex) (ordered : IsOrdered terminal_order shifts) where
  keys_ascend : Ordered (IsLess terminal_order) (keys shifts)
  keys_ascend i j x y l e f =
      let within = slice_get_within (keys shifts) j y f in
      let less : terminal_order (get_or (keys shifts) i x) (get_or (keys shifts) j x) ≡ Less = Less-from_sorted terminal_order (keys shifts) i j x ordered l within in
      ap (λ z. terminal_order z y) (sym (get_or_from_slice_get (keys shifts) i x x e)) ∙ ap (λ z. terminal_order (get_or (keys shifts) i x) z) (sym (get_or_from_slice_get (keys shifts) j y x f)) ∙ less

  pub keys_shifted : (t : TerminalString) → Contains (keys shifts) t ↔ ((n : ℕ) × (option_map number_of (get terminal_order shifts t) ≡ Some n))
  keys_shifted t = (
    λ c.
        let e = contains_of_map (λ (e : TerminalString × StateIndex). e.0) shifts.entries t c in
        let at = contains_place shifts.entries e.0 e.1 in
        let found : get terminal_order shifts e.0.0 ≡ Some e.0.1 = btree_map_get_place terminal_total shifts at.0 e.0.0 e.0.1 ordered at.1 in
        (number_of e.0.1, ap (option_map number_of) (subst (λ (u : TerminalString). get terminal_order shifts u ≡ Some e.0.1) e.2 found)),
    λ h.
        let target = some_of_map number_of (get terminal_order shifts t) h.0 h.1 in
        let entry = subst (λ o. IfSome o (λ v. Contains shifts.entries (t, v))) target.1 (IfSome-get terminal_total terminal_exact shifts t) in
        contains_map (λ (e : TerminalString × StateIndex). e.0) shifts.entries (t, target.0) entry,
  )

module _ (terminals : List TerminalString) (differ : AllDiffer terminals) where
  -- whether a set holds a token
  abbrev Held : Bits → Token → Bool
  Held = holds_token terminals

  abbrev seen_reduction : CodeReduction → Reduction
  seen_reduction r = reduction_of Held r

  -- ---- tokens and bits
  terminal_below : (t : TerminalString) (bit : ℕ) → place_in terminals t ≡ Some bit → bit < length terminals
  terminal_below t bit e = slice_get_within terminals bit t (place_there terminals t bit e)

  -- the token with the bit of a terminal is that terminal
  bit_of_terminal : (s : Token) (t : TerminalString) (bit : ℕ) → token_bit terminals s ≡ Some bit → place_in terminals t ≡ Some bit → s ≡ TokenOf t
  bit_of_terminal Eof t bit e f = let l = terminal_below t bit f in let m : length terminals ≡ bit = same_some (length terminals) bit e in absurd (omega arith)
  bit_of_terminal Error t bit e f = let l = terminal_below t bit f in let m : length terminals + 1 ≡ bit = same_some (length terminals + 1) bit e in absurd (omega arith)
  bit_of_terminal (TokenOf u) t bit e f = ap TokenOf (same_some u t (sym (place_there terminals u bit e) ∙ place_there terminals t bit f))

  -- the set of the bit of a terminal holds that terminal alone
  holds_one : (t : TerminalString) (bit : ℕ) → place_in terminals t ≡ Some bit → (s : Token) → (Held (with_bit no_bits bit) s ≡ true) ↔ (s ≡ TokenOf t)
  holds_one t bit e s = (
    λ h.
        let b = held_bit terminals (with_bit no_bits bit) s h in
        bit_of_terminal s t bit (b.1 ∙ ap Some (one_bit bit b.0 b.2)) e,
    λ same. subst (λ (u : Token). Held (with_bit no_bits bit) u ≡ true) (sym same) (bit_held terminals (with_bit no_bits bit) (TokenOf t) bit e (own_bit bit)),
  )

  -- the meet of two sets holds a token exactly if both hold it
  holds_both : (a b : Bits) (s : Token) → (Held (meet a b) s ≡ true) ↔ ((Held a s ≡ true) × (Held b s ≡ true))
  holds_both a b s = (
    λ h.
        let c = held_bit terminals (meet a b) s h in
        let d = both_bits a b c.0 c.2 in
        (bit_held terminals a s c.0 c.1 d.0, bit_held terminals b s c.0 c.1 d.1),
    λ h.
        let c = held_bit terminals a s h.0 in
        let d = held_bit terminals b s h.1 in
        let same : d.0 ≡ c.0 = same_some d.0 c.0 (sym d.1 ∙ c.1) in
        bit_held terminals (meet a b) s c.0 c.1 (met_bit a b c.0 c.2 (subst (λ (n : ℕ). has b n ≡ true) same d.2)),
  )

  -- ---- the conflicts with a shift
  module _ (number : StateIndex) where
    abbrev view : List (Conflict Bits) → List ConflictContents
    view = conflicts_of terminals

    shift_part : (t : TerminalString) (target : StateIndex) (bit : ℕ) → place_in terminals t ≡ Some bit → (rs : List CodeReduction) → ShiftPart t (map seen_reduction rs) (view (conflicts_on_bit number t target rs bit))
    shift_part t target bit e [] = no_more
    shift_part t target bit e (r ∷ rs) = go (shift_part t target bit e rs) (has r.0 bit) refl
      where
        go : ShiftPart t (map seen_reduction rs) (view (conflicts_on_bit number t target rs bit)) → (b : Bool) → has r.0 bit ≡ b → ShiftPart t (seen_reduction r ∷ map seen_reduction rs) (view (map (shift_conflict number t target bit) (cond b (r ∷ filter (λ q. has q.0 bit) rs) (filter (λ q. has q.0 bit) rs))))
        go rest true h =
            in_conflict (seen_reduction r) (conflict_of terminals (shift_conflict number t target bit r))
            (record { holds = bit_held terminals r.0 (TokenOf t) bit e h; production = refl; action = refl; exact = holds_one t bit e })
            rest
        go rest false h =
            apart (seen_reduction r)
            (λ k. let b = held_bit terminals r.0 (TokenOf t) k in let same : b.0 ≡ bit = same_some b.0 bit (sym b.1 ∙ e) in false≢true (sym h ∙ subst (λ (n : ℕ). has r.0 n ≡ true) same b.2))
            rest

    shift_parts : (rs : List CodeReduction) (es : List (TerminalString × StateIndex)) → ((t : TerminalString) → Contains (keys_of es) t → Contains terminals t) → ShiftParts (map seen_reduction rs) (keys_of es) (view (flat_map (shift_conflicts terminals number rs) es))
    shift_parts rs [] known = no_shifts
    shift_parts rs ((t, target) ∷ es) known =
        let place = contains_place terminals t (known t (contains_head t (keys_of es))) in
        let e : place_in terminals t ≡ Some place.0 = place_is terminals differ t place.0 place.1 in
        let part : ShiftPart t (map seen_reduction rs) (view (conflicts_on_place number t target rs (place_in terminals t))) =
        subst (λ (o : Option ℕ). ShiftPart t (map seen_reduction rs) (view (conflicts_on_place number t target rs o))) (sym e) (shift_part t target place.0 e rs) in
        subst (ShiftParts (map seen_reduction rs) (t ∷ keys_of es)) (sym (map-append (conflict_of terminals) (conflicts_on_place number t target rs (place_in terminals t)) (flat_map (shift_conflicts terminals number rs) es)))
        (shift_first t part (shift_parts rs es (λ u c. known u (contains_tail t (keys_of es) u c))))

    -- ---- the conflicts of two reductions
    shared_token : (r q : CodeReduction) → FitsTokens terminals r.0 → share r.0 q.0 ≡ true → (t : Token) × (Held r.0 t ≡ true) × (Held q.0 t ≡ true)
    shared_token r q fits h =
        let b = share_some r.0 q.0 h in
        let t = token_with terminals differ b.0 (fits b.0 b.1) in
        (t.0, bit_held terminals r.0 t.0 b.0 t.1 b.1, bit_held terminals q.0 t.0 b.0 t.1 b.2)

    no_shared_token : (r q : CodeReduction) → share r.0 q.0 ≡ false → (t : Token) → Held r.0 t ≡ true → Held q.0 t ≡ true → ⊥
    no_shared_token r q h t k l =
        let b = held_bit terminals r.0 t k in
        let c = held_bit terminals q.0 t l in
        let same : c.0 ≡ b.0 = same_some c.0 b.0 (sym c.1 ∙ b.1) in
        false≢true (sym h ∙ shared r.0 q.0 b.0 b.2 (subst (λ (n : ℕ). has q.0 n ≡ true) same c.2))

    later_part : (r : CodeReduction) → FitsTokens terminals r.0 → (rs : List CodeReduction) → LaterPart (seen_reduction r) (map seen_reduction rs) (view (later_conflicts number r rs))
    later_part r fits [] = no_later
    later_part r fits (q ∷ rs) = go (later_part r fits rs) (share r.0 q.0) refl
      where
        go : LaterPart (seen_reduction r) (map seen_reduction rs) (view (later_conflicts number r rs)) → (b : Bool) → share r.0 q.0 ≡ b → LaterPart (seen_reduction r) (seen_reduction q ∷ map seen_reduction rs) (view (map (reduce_conflict number r) (cond b (q ∷ filter (λ s. share r.0 s.0) rs) (filter (λ s. share r.0 s.0) rs))))
        go rest true h =
            with_later (seen_reduction q) (conflict_of terminals (reduce_conflict number r q))
            (record { some = shared_token r q fits h; production = refl; action = refl; exact = holds_both r.0 q.0 })
            rest
        go rest false h = shares_none (seen_reduction q) (no_shared_token r q h) rest

    reduce_parts : (rs : List CodeReduction) → ((r : CodeReduction) → Contains rs r → FitsTokens terminals r.0) → ReduceParts (map seen_reduction rs) (view (reduce_conflicts number rs))
    reduce_parts [] fits = no_reductions
    reduce_parts (r ∷ rs) fits =
        subst (ReduceParts (seen_reduction r ∷ map seen_reduction rs)) (sym (map-append (conflict_of terminals) (later_conflicts number r rs) (reduce_conflicts number rs)))
        (reduce_first (seen_reduction r) (later_part r (fits r (contains_head r rs)) rs) (reduce_parts rs (λ q c. fits q (contains_tail r rs q c))))

  -- ---- the whole list
  pub conflicts_are_listed : (state : State Bits) → IsOrdered terminal_order state.shifts → ((t : TerminalString) → Contains (keys state.shifts) t → Contains terminals t) → ((r : CodeReduction) → Contains state.reductions.items r → FitsTokens terminals r.0) →
      HasNoRepeat (contents_of (holds_token terminals) state).reductions → AreConflictsOf terminal_order (contents_of (holds_token terminals) state) (conflicts_of terminals (state_conflicts terminals state))
  conflicts_are_listed state ordered known fits once =
      let s = contents_of (holds_token terminals) state in
      let with_shifts = flat_map (shift_conflicts terminals state.index state.reductions.items) state.shifts.entries in
      let of_reductions = reduce_conflicts state.index state.reductions.items in
      subst (AreConflictsOf terminal_order s) (sym (map-append (conflict_of terminals) with_shifts of_reductions))
      (conflict_list terminal_order s once (keys state.shifts) (keys_ascend state.shifts ordered) (keys_shifted state.shifts ordered) (conflicts_of terminals with_shifts) (conflicts_of terminals of_reductions)
      (shift_parts state.index state.reductions.items state.shifts.entries known)
      (reduce_parts state.index state.reductions.items fits))
