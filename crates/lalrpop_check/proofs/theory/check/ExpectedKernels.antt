-- A kernel by number that is expected of a state is a kernel of dotted productions.
use Rattle.std.proofs.Common.{◌≡◌, ◌∙◌, ℕ, zero, suc, ◌<◌, ◌≤◌, ◌+◌, List, length, map, sym, ap, subst, arith, Some}
use Rattle.std.specs.Prelude.{◌↔◌, slice_get, Contains}
use Rattle.std.proofs.lemmas.List.{length-map}
use Rattle.std.proofs.lemmas.Option.{slice_get_within}
use Rattle.lalrpop_base.specs.Words.{AreItemsBy, AreOwn, Dotted, InKernel, IsAtStart, IsWellFormed, Rules, productions_of, rules_of, item_at_start}
use Rattle.lalrpop_construction.specs.Words.{Construction}
use Rattle.lalrpop_check.specs.Words.{AreMovedKernel, IsKernelOf, NumbersRise, no_tokens}
use Rattle.lalrpop_base.specs.Words.{AreNumbered, AreNumbers, dotted_at, item_by, items_by, IsItemBy}
use Rattle.lalrpop_collections.proofs.theory.lists.Places.{contains_at, filled}
use Rattle.lalrpop_collections.proofs.theory.lists.Lists.{contains_of_map}
use Rattle.lalrpop_check.proofs.Types.{Grammar, Nil}
use Rattle.lalrpop_numbers.specs.declared.numbers.numbered.Numbered.{Numbered}
use Rattle.lalrpop_numbers.specs.declared.numbers.Numbers.{Numbers}
use Rattle.lalrpop_construction.proofs.theory.canonical.Canonical.{start_items}
use Rattle.lalrpop_construction.proofs.theory.closures.Unfolded.{ascend_differ}
use Rattle.lalrpop_construction.proofs.theory.numbers.Numbers.{at_number, items_ascend}
use Rattle.lalrpop_construction.proofs.theory.construction.Lookaheads.{nothing_fits}

-- ---- numbers that rise
-- each of the first n numbers is less than the next
abbrev pub RiseBelow : List (Numbered Nil) → ℕ → Type 0
RiseBelow xs n = (j : ℕ) (a b : Numbered Nil) → j + 1 < n → slice_get xs j ≡ Some a → slice_get xs (j + 1) ≡ Some b → a.number < b.number

rise_further : (xs : List (Numbered Nil)) → RiseBelow xs (length xs) → (i d : ℕ) (a b : Numbered Nil) → slice_get xs i ≡ Some a → slice_get xs (i + suc d) ≡ Some b → a.number < b.number
rise_further xs rise i zero a b at_a at_b =
    let l = slice_get_within xs (i + 1) b at_b in
    rise i a b (omega (arith, l)) at_a at_b
rise_further xs rise i (suc d) a b at_a at_b =
    let l = slice_get_within xs (i + suc (suc d)) b at_b in
    let m = filled xs (i + suc d) (omega (arith, l)) in
    let one : i + suc (suc d) ≡ i + suc d + 1 = omega arith in
    let first = rise_further xs rise i d a m.0 at_a m.1 in
    let last = rise (i + suc d) m.0 b (omega (arith, l)) m.1 (ap (slice_get xs) (sym one) ∙ at_b) in
    omega (arith, first, last)

pub all_rise : (xs : List (Numbered Nil)) → RiseBelow xs (length xs) → NumbersRise xs
all_rise xs rise i j x y l at_i at_j =
    let d = step i j l in
    rise_further xs rise i d.0 x y at_i (ap (slice_get xs) (sym d.1) ∙ at_j)
  where
    step : (i j : ℕ) → i < j → (d : ℕ) × (j ≡ i + suc d)
    step zero zero l = absurd (omega (arith, l))
    step zero (suc j) l = (j, omega arith)
    step (suc i) zero l = absurd (omega (arith, l))
    step (suc i) (suc j) l = let s = step i j (omega (arith, l)) in (s.0, omega (arith, s.1))

-- ---- a kernel of moved items
module _ (c : Construction Nil) (n : Numbers) (numbers : AreNumbers c.rules n) (kernel : List (Numbered Nil)) (m : AreMovedKernel n kernel) where
  abbrev known : List (Dotted Nil)
  known = n.items.items

  within : AreNumbered known kernel
  within e among = let i = m.each e among in slice_get_within known e.number i.item i.at

  -- an item of the kernel is of the grammar, and its dot moved
  record IsMovedItem (i : Dotted Nil) : Type 0 where
    own : IsItemBy no_tokens c.rules i
    past : 0 < i.index

  moved_item : (i : Dotted Nil) → Contains (items_by known kernel) i → IsMovedItem i
  moved_item i among =
      let (e, there, is) = contains_of_map (item_by known) kernel i among in
      let k = m.each e there in
      let at : dotted_at known e.number ≡ k.item = at_number known e.number k.item k.at in
      let own = numbers.items.each k.item (contains_at known k.item e.number k.at) in
      subst IsMovedItem is (record {
        own = record {
          production = subst (λ (d : Dotted Nil). Contains c.rules.productions d.production) (sym at) own.0;
          dot = subst (λ (d : Dotted Nil). d.index ≤ length d.production.symbols) (sym at) own.1;
          tokens = nothing_fits c.rules.terminals;
        };
        past = subst (λ (d : Dotted Nil). 0 < d.index) (sym at) k.moved;
      })

  pub moved_kernel : (s : ℕ) → 0 < s → IsKernelOf c n s kernel
  moved_kernel s other = record {
    known = within;
    items = record {
      each = λ i among. (moved_item i among).own;
      differ = ascend_differ (items_by known kernel) (items_ascend known numbers.items.ascend kernel within m.rise);
    };
    is = record {
      first = λ zero_state. absurd (omega (arith, zero_state, other));
      some = λ _. let l = length-map kernel (item_by known) in let some = m.some in omega arith;
      moved = λ _ i among. (moved_item i among).past;
    };
  }

-- ---- the kernel of the first state
pub start_kernel : (c : Construction Nil) (n : Numbers) (kernel : List (Numbered Nil)) (g : Grammar) → rules_of g ≡ c.rules → productions_of g c.start ≡ c.first → IsWellFormed g → AreOwn g → AreNumbered n.items.items kernel →
    AreItemsBy no_tokens c.rules (items_by n.items.items kernel) → items_by n.items.items kernel ≡ map (item_at_start c.lookahead) c.first → IsKernelOf c n 0 kernel
start_kernel c n kernel g rules first well own known items made = record {
  known = known;
  items = items;
  is = record {
    first = λ _ p dot.
        let begins = start_items g well own c.start c.lookahead p dot in
        subst (λ (is : List (Dotted Nil)). InKernel is p dot ↔ IsAtStart c.rules.productions c.start p dot) (ap (map (item_at_start c.lookahead)) first ∙ sym made)
        (subst (λ (r : Rules). InKernel (map (item_at_start c.lookahead) (productions_of g c.start)) p dot ↔ IsAtStart r.productions c.start p dot) rules begins);
    some = λ less. absurd (omega (arith, less));
    moved = λ less i c. absurd (omega (arith, less));
  };
}
