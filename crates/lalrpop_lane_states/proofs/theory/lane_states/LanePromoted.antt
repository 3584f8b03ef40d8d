-- Promoted states are the LR(0) states with all tokens.
use Rattle.std.proofs.Common.{◌≡◌, ℕ, List, [], ◌∷◌, arith, length, map, option_map, refl, sym, ◌∙◌, ap, subst, Option, Some, true}
use Rattle.std.specs.Prelude.{◌↔◌, slice_get, Contains, nat_le}
use Rattle.std.specs.BTreeMap.{BTreeMap, get}
use Rattle.std.proofs.lemmas.Bool.{le-leb, leb-true}
use Rattle.std.proofs.lemmas.List.{length-map}
use Rattle.std.proofs.lemmas.Option.{slice_get-map, slice_get_within}
use Rattle.std.specs.Borrow.{Bor}
use Rattle.std.specs.List.{AllZip}
use Rattle.lalrpop_base.specs.Words.{Bits, has, Dotted, Rules, contents_at, contents_of, leads, name_cmp, number_of, with_dot}
use Rattle.lalrpop_construction.specs.Words.{AreLr0States}
use Rattle.lalrpop_grammar.specs.contracts.repr.TerminalStringOrd.TheImpl as terminal_ord
use Rattle.lalrpop_grammar.specs.declared.repr.Symbol.TheVariants.{Nonterminal, Terminal}
use Rattle.lalrpop_lane_states.proofs.Types.{Nil, NonterminalString, Production, State, StateIndex, Symbol, TerminalString, Token}
use Rattle.lalrpop_collections.proofs.theory.lists.Lists.{contains_of_map, some_of_map}
use Rattle.lalrpop_construction.specs.Words.{dot_of, by, HasSamePlace, HaveSamePlaces}
use Rattle.lalrpop_lane_states.specs.Words.{AreLaneStates, IsFull, HaveFullItems, HoldsAll, promoted_item, promoted_reduction, IsPromoted}
use Rattle.lalrpop_construction.specs.states.NumberedStates.{AreNumberedAs, AreNumberedStates, AreReducedNumbers, IsNumberedState}
use Rattle.lalrpop_collections.proofs.theory.lists.Places.{filled}
use Rattle.lalrpop_collections.proofs.theory.lists.Zipped.{zip_at, zip_old}
use Rattle.lalrpop_numbers.specs.declared.numbers.Numbers.{Numbers}
use Rattle.lalrpop_construction.specs.declared.construction.numbered_state.NumberedState.{NumberedState}
use Rattle.lalrpop_collections.proofs.theory.lists.Members.{zipped_length}

dots_promoted : (all : Bits) (items : List (Dotted Nil)) → map dot_of (map (promoted_item all) items) ≡ map dot_of items
dots_promoted all [] = refl
dots_promoted all (i ∷ items) = ap (λ (ds : List (Production × ℕ)). dot_of i ∷ ds) (dots_promoted all items)

reduced_promoted : (all : Bits) (rs : List (Nil × Bor Production)) → map by (map (promoted_reduction all) rs) ≡ map by rs
reduced_promoted all [] = refl
reduced_promoted all (r ∷ rs) = ap (λ (ps : List Production). by r ∷ ps) (reduced_promoted all rs)

promoted_place : (all : Bits) (old : State Nil) (new : State Bits) → IsPromoted all old new → HasSamePlace old new
promoted_place all old new p = record {
  index = p.index;
  dots = ap (map dot_of) p.items ∙ dots_promoted all old.items.vec.items;
  shifts = p.shifts;
  gotos = p.gotos;
  reduced = ap (map by) p.reductions ∙ reduced_promoted all old.reductions.items;
}

pub promoted_places : (all : Bits) (old : List (State Nil)) (new : List (State Bits)) → AllZip (IsPromoted all) old new → HaveSamePlaces old new
promoted_places all old new z = record {
  counted = zipped_length (IsPromoted all) old new z;
  each = λ n before after at_old at_new. promoted_place all before after (zip_at (IsPromoted all) old new z n before after at_old at_new);
}

-- each reduction of a promoted state holds all tokens
pub promoted_full : (terminals : List TerminalString) (all : Bits) → IsFull terminals all → (old : List (State Nil)) (new : List (State Bits)) → AllZip (IsPromoted all) old new → (n : ℕ) (state : State Bits) → slice_get new n ≡ Some state → HoldsAll terminals state
promoted_full terminals all full old new z n state at r among =
    let (before, at_old, p) = zip_old (IsPromoted all) old new z n state at in
    let (q, there, same) = contains_of_map (promoted_reduction all) before.reductions.items r (subst (λ (rs : List (Bits × Bor Production)). Contains rs r) p.reductions among) in
    subst (λ (x : Bits × Bor Production). IsFull terminals x.0) same full

-- each item of a promoted state holds all tokens
promoted_items : (terminals : List TerminalString) (all : Bits) → IsFull terminals all → (old : List (State Nil)) (new : List (State Bits)) → AllZip (IsPromoted all) old new → HaveFullItems terminals new
promoted_items terminals all full old new z n state item at among =
    let (before, at_old, p) = zip_old (IsPromoted all) old new z n state at in
    let (origin, there, same) = contains_of_map (promoted_item all) before.items.vec.items item (subst (λ (is : List (Dotted Bits)). Contains is item) p.items among) in
    subst (λ (x : Dotted Bits). IsFull terminals x.lookahead) same full

-- the set of all tokens is full
pub full_set : (terminals : List TerminalString) (all : Bits) → ((bit : ℕ) → has all bit ≡ nat_le bit (length terminals)) → IsFull terminals all
full_set terminals all is bit = (λ h. leb-true bit (length terminals) (sym (is bit) ∙ h), λ l. is bit ∙ le-leb bit (length terminals) l)

pub promoted_lanes : (g : Rules) (start : NonterminalString) (all : Bits) → IsFull g.terminals all → (old : List (State Nil)) (new : List (State Bits)) → AreLr0States g start old → AllZip (IsPromoted all) old new → AreLaneStates g start new
promoted_lanes g start all full old new lr0 z = record { bare = old; lr0 = lr0; same = promoted_places all old new z; items = promoted_items g.terminals all full old new z }

-- a promoted state has the same state by number as the old one
promoted_number : (n : Numbers) (all : Bits) (old : State Nil) (new : State Bits) (state : NumberedState) → IsPromoted all old new → IsNumberedState n (contents_of (λ (lookahead : Nil) (t : Token). true) old) state → IsNumberedState n (contents_of (λ (lookahead : Bits) (t : Token). true) new) state
promoted_number n all old new state p is =
    let place = promoted_place all old new p in
    record {
      known = is.known;
      items = λ k i at. subst (λ (ds : List (Production × ℕ)). Contains state.items.items k ↔ Contains ds (i.production, i.index)) (sym place.dots) (is.items k i at);
      named = is.named;
      edges = λ x m s at. subst (λ (o : Option ℕ). Contains state.edges.items (x, m) ↔ (o ≡ Some m)) (same_lead s) (is.edges x m s at);
    }
  where
    same_lead : (s : Symbol) → leads (contents_of (λ (lookahead : Nil) (t : Token). true) old) s ≡ leads (contents_of (λ (lookahead : Bits) (t : Token). true) new) s
    same_lead (Nonterminal a) = ap (λ (gotos : BTreeMap NonterminalString StateIndex). option_map number_of (get name_cmp gotos a)) (sym p.gotos)
    same_lead (Terminal t) = ap (λ (shifts : BTreeMap TerminalString StateIndex). option_map number_of (get terminal_ord.ghosts.cmp shifts t)) (sym p.shifts)

pub Numbered-promoted : (n : Numbers) (all : Bits) (list : List NumberedState) (old : List (State Nil)) (new : List (State Bits)) → AllZip (IsPromoted all) old new → AreNumberedAs n old list → AreNumberedStates n new list
Numbered-promoted n all list old new zip h = record {
  counted = h.counted ∙ sym (zipped_length (IsPromoted all) old new zip);
  each = λ s state at.
      let l = slice_get_within list s state at in
      let counted = h.counted ∙ sym (zipped_length (IsPromoted all) old new zip) in
      let f = filled new s (omega (arith, l, counted)) in
      let (before, there, p) = zip_old (IsPromoted all) old new zip s f.0 f.1 in
      subst (λ (o : Option (State Bits)). IsNumberedState n (contents_at (λ (lookahead : Bits) (t : Token). true) o) state) (sym f.1) (promoted_number n all before f.0 state p (h.each s before state there at).is);
  reduced = λ s new_state state at_new at.
      let (before, there, p) = zip_old (IsPromoted all) old new zip s new_state at_new in
      let r = (h.each s before state there at).reduced in
      subst (λ (rs : List (Bits × Bor Production)). AreReducedNumbers n.items.items rs state.reductions.items) (sym p.reductions) (record {
        counted = r.counted ∙ sym (length-map before.reductions.items (promoted_reduction all));
        each = λ j k q at_q at_k.
            let (b, at_b, same) = some_of_map (promoted_reduction all) (slice_get before.reductions.items j) q (sym (slice_get-map (promoted_reduction all) before.reductions.items j) ∙ at_q) in
            r.each j k b at_b at_k ∙ ap (λ (x : Bits × Bor Production). Some (with_dot x.1.now (length x.1.now.symbols))) same;
      });
}
