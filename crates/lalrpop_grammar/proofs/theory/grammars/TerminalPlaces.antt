-- The places of terminals as a map, one place at a time.
use Rattle.std.proofs.Common.{◌≡◌, ℕ, ◌+◌, ⊎_elim, true, false, List, length, refl, sym, ◌∙◌, ap, arith}
use Rattle.std.specs.Prelude.{cond, slice_get, Option, Some, None, unwrap_or, is_some, IfSome}
use mathlib.Core.Bool.{true≢false}
use Rattle.std.specs.BTreeMap.{BTreeMap, get, is_at, Updates}
use Rattle.std.proofs.lemmas.Bool.{cases_Bool, cases_lt}
use Rattle.std.proofs.lemmas.Option.{slice_get_within}
use Rattle.lalrpop_grammar.proofs.Types.{TerminalString}
use Rattle.lalrpop_grammar.specs.contracts.repr.TerminalStringOrd.TheImpl as terminal
use Rattle.lalrpop_grammar.specs.contracts.repr.TerminalStringOrd.TheImpl.Laws as order
use Rattle.lalrpop_grammar.specs.contracts.repr.exact.TerminalStringExact.TheImpl.Laws.{exact-law}
use Rattle.lalrpop_collections.specs.Words.{AllDiffer, DifferBelow, IsFirstRepeat}
use Rattle.lalrpop_grammar.specs.Words.{HasPlaces}

-- terminals that tie in the order are equal
pub tied_terminals : (x y : TerminalString) → is_at (terminal.ghosts.cmp x) y ≡ true → x ≡ y
tied_terminals x y e = exact-law x y (order.matches_eq-law x y ∙ e)

some_same : {X : Type 0} (x y : X) (o : Option X) → o ≡ Some x → o ≡ Some y → x ≡ y
some_same x y o e f = ap (λ z. unwrap_or z x) (sym e ∙ f)

none_and_some : {X : Type 0} (o : Option X) (x : X) → o ≡ Some x → is_some o ≡ false → ⊥
none_and_some o x e n = true≢false (sym (ap is_some e) ∙ n)

pub has_places_more : (xs : List TerminalString) (i : ℕ) (x k : TerminalString) (m n : BTreeMap TerminalString ℕ) → k ≡ x → slice_get xs i ≡ Some x → HasPlaces xs i m →
    is_some (get terminal.ghosts.cmp m x) ≡ false → Updates terminal.ghosts.cmp m n k (Some i) → HasPlaces xs (i + 1) n
has_places_more xs i x k m n key at old new updates = record {
  sound = λ t p e. ⊎_elim
      (λ here. let kt : k ≡ t = tied_terminals k t here in
      let place : i ≡ p = some_same i p (get terminal.ghosts.cmp n t) (updates.0 t ∙ ap (λ b. cond b (Some i) (get terminal.ghosts.cmp m t)) here) e in
      (omega arith, ap (λ q. slice_get xs q) (sym place) ∙ at ∙ ap (λ s. Some s) (sym key ∙ kt)))
      (λ other. let before = old.sound t p (sym (updates.2 t other) ∙ e) in (omega (arith, before.0), before.1))
      (cases_Bool (is_at (terminal.ghosts.cmp k) t));
  complete = λ t p l there. ⊎_elim
      (λ before. let found = old.complete t p before there in ⊎_elim
      (λ here. let tx : t ≡ x = sym (tied_terminals k t here) ∙ key in
      let gone : is_some (get terminal.ghosts.cmp m t) ≡ false = ap (λ s. is_some (get terminal.ghosts.cmp m s)) tx ∙ new in absurd (none_and_some _ p found gone))
      (λ other. updates.2 t other ∙ found)
      (cases_Bool (is_at (terminal.ghosts.cmp k) t)))
      (λ after. let place : p ≡ i = omega arith in
      let xt : x ≡ t = some_same x t (slice_get xs i) at (ap (λ q. slice_get xs q) (sym place) ∙ there) in
      ap (λ s. get terminal.ghosts.cmp n s) (sym (key ∙ xt)) ∙ updates.1 ∙ ap (λ q. Some q) (sym place))
      (cases_lt p i);
}

-- terminals whose places are in a map do not repeat
pub places_differ : (xs : List TerminalString) (n : ℕ) (m : BTreeMap TerminalString ℕ) → HasPlaces xs n m → DifferBelow n xs
places_differ xs n m h i j x l w a b = omega (arith, some_same i j (get terminal.ghosts.cmp m x) (h.complete x i (omega arith) a) (h.complete x j w b))

pub all_differ : (xs : List TerminalString) (m : BTreeMap TerminalString ℕ) → HasPlaces xs (length xs) m → AllDiffer xs
all_differ xs m h i j x l a b = places_differ xs (length xs) m h i j x l (slice_get_within xs j x b) a b

some_of : {X : Type 0} (o : Option X) → is_some o ≡ true → (x : X) × (o ≡ Some x)
some_of None h = cc
some_of (Some x) h = (x, refl)

-- a terminal that already has a place is the first repeat
pub first_repeat : (xs : List TerminalString) (i : ℕ) (x : TerminalString) (m : BTreeMap TerminalString ℕ) → HasPlaces xs i m → slice_get xs i ≡ Some x →
    is_some (get terminal.ghosts.cmp m x) ≡ true → IsFirstRepeat xs i x
first_repeat xs i x m h at known =
    let place = some_of (get terminal.ghosts.cmp m x) known in
    let before = h.sound x place.0 place.1 in
    record { there = at; before = (place.0, before.0, before.1); differ = places_differ xs i m h }

module _ (xs : List TerminalString) (m : BTreeMap TerminalString ℕ) (h : HasPlaces xs (length xs) m) (t : TerminalString) where
  -- the map has the place of a terminal
  pub place_found : (o : Option ℕ) → o ≡ get terminal.ghosts.cmp m t → IfSome o (λ p. slice_get xs p ≡ Some t)
  place_found None e = tt
  place_found (Some p) e = (h.sound t p (sym e)).1

  pub place_only : (o : Option ℕ) → o ≡ get terminal.ghosts.cmp m t → (p : ℕ) → slice_get xs p ≡ Some t → o ≡ Some p
  place_only o e p at = e ∙ h.complete t p (slice_get_within xs p t at) at
