-- The results of the construction of lane tables: tables that hold their lane tokens, or states of
-- which one has two actions that share a token.
use Rattle.std.proofs.Common.{◌≡◌, ◌↔◌, ℕ, suc, ◌<◌, ◌≤◌, Bool, true, false, List, length, refl, sym, subst, arith, Option, Some, None, MatchBool}
use Rattle.std.specs.Prelude.{Contains, MatchOption, slice_get}
use Rattle.std.specs.Borrow.{Bor}
use Rattle.std.proofs.lemmas.Option.{slice_get_within}
use Rattle.lalrpop_base.specs.Words.{Bits, contents, contents_at, holds_token, reduction_of, IsOnNoRightSide, behind_parent, of_start, IsLaneToken}
use Rattle.lalrpop_base.specs.Words.{HoldLaneTokens, HoldLalrTokens, AllDiffer, Contents, state_after, HasRightItems, IsBitOf, Action, Shift, Reduce}
use Rattle.lalrpop_base.specs.Words.{IsLalrAction, IsLALR1, Rules, rules_of, productions, IsWellFormed, AreAllConflictFree}
use Rattle.lalrpop_grammar.specs.conflicts.Conflicts.{HasNoConflict as HoldsNoConflict}
use Rattle.lalrpop_grammar.specs.lanes.Lanes.{Gives}
use Rattle.lalrpop_grammar.specs.states.States.{Reduction}
use Rattle.lalrpop_lane_states.proofs.Types.{Grammar, NonterminalString, Production, State, Symbol, Token}
use Rattle.lalrpop_grammar.specs.declared.lookahead.token.Token.TheVariants.{Terminal as TokenOf}
use Rattle.lalrpop_grammar.specs.declared.repr.Symbol.TheVariants.{Nonterminal, Terminal}
use Rattle.lalrpop_collections.proofs.theory.lists.Lists.{contains_of_map}
use Rattle.lalrpop_states.proofs.theory.states.HeldTokens.{holds_has, place_there}
use Rattle.lr1_theory.proofs.theory.lanes.Lanes.{lane_tokens, lanes_faithful, items_at}
use Rattle.lr1_theory.proofs.theory.collapse.LalrStates.{no_conflict_lalr}
use Rattle.lr1_theory.proofs.theory.lanes.LaneTables.{lanes_checked}
use Rattle.lalrpop_grammar.proofs.theory.states.RightStates.{edges_awaited, reductions_valid}
use Rattle.lalrpop_lane_states.specs.Words.{AreLaneStates, HaveMeetingLanes, IsStateStep, AreLaneTables, AreLalrLaneTables}
use Rattle.lalrpop_follow_sets.specs.Words.{HasLaneBits, IsResolved, IsLaneAction, LanesMeet}
use Rattle.lalrpop_construction.specs.Words.{places_in}
use Rattle.lalrpop_numbers.specs.declared.numbers.Numbers.{Numbers}
use Rattle.lalrpop_follow_sets.specs.declared.follow_sets.sets.FollowSets.{FollowSets}
use Rattle.lalrpop_construction.specs.declared.construction.numbered_state.NumberedState.{NumberedState}
use Rattle.lalrpop_follow_sets.proofs.theory.follow_sets.FollowSets.{rest_behind}
use Rattle.lalrpop_lane_states.proofs.theory.lane_states.LaneLoop.{AreResolvedTo}
use Rattle.lalrpop_construction.proofs.theory.conflicts.ConflictFree.{nowhere_conflict, free_contents}
use Rattle.lalrpop_grammar.proofs.theory.grammars.Grammars.{known_symbols, known_rest}
use Rattle.lalrpop_states.proofs.theory.grammars.KnownTerminals.{begun_bit}
use Rattle.lalrpop_follow_sets.proofs.theory.lane_states.LanePlaces.{places_same, lane_there, place_itself}
use Rattle.lalrpop_lane_states.proofs.theory.lane_states.LaneResolved.{one_token}
use Rattle.lalrpop_lane_states.proofs.theory.lane_states.LaneShape.{lane_shape, item_own, right_at, reducing_reached, here_lr0, here_closed, here_reduces}

module _ (g : Grammar) (start : NonterminalString) (well : IsWellFormed g) (differ : AllDiffer g.terminals) (states : List (State Bits)) (made : AreLaneStates (rules_of g) start states) where
  abbrev holds : Bits → Token → Bool
  holds = holds_token g.terminals

  abbrev here : ℕ → Contents
  here = contents g.terminals states

  abbrev places : ℕ → Contents
  places = places_in states

  -- ---- a lane token has a bit
  item_listed : (s : ℕ) (q : Production) (dot : ℕ) (o : Option (State Bits)) → slice_get states s ≡ o → Contains (contents_at holds o).items (q, dot) → Contains (productions g) q
  item_listed s q dot None e c = absurd (let l = c.1 in omega arith)
  item_listed s q dot (Some state) e c = item_own (rules_of g) start states made holds s state q dot e c

  pub given_bit : {s : ℕ} {p : Production} {dot : ℕ} {t : Token} → Gives (productions g) start here s p dot t → (bit : ℕ) × IsBitOf g.terminals t bit
  given_bit (behind_parent s p q dot after t c e f) =
      let own = item_listed s q dot (slice_get states s) refl c in
      let known = known_rest g.terminals (suc dot) q.symbols after (known_symbols g q well own) (rest_behind dot q.symbols after (Nonterminal p.nonterminal) e) in
      let b = begun_bit (rules_of g) (λ z h. known_symbols g z well h) after known (TokenOf t) f in
      (b.0, place_there g.terminals t b.0 b.1)
  given_bit (of_start s p e) = (length g.terminals, refl)

  -- ---- resolved states hold their lane tokens
  module _ (done : (n : ℕ) (state : State Bits) → slice_get states n ≡ Some state → IsResolved (rules_of g) start places n state) where
    to_here : (n : ℕ) (p : Production) (t : Token) → IsLaneToken (productions g) start places n p (length p.symbols) t → IsLaneToken (productions g) start here n p (length p.symbols) t
    to_here n p t k = lane_there (productions g) start places here (places_same (λ lookahead u. true) holds states states (place_itself states)) n p (length p.symbols) t k

    to_places : (n : ℕ) (p : Production) (t : Token) → IsLaneToken (productions g) start here n p (length p.symbols) t → IsLaneToken (productions g) start places n p (length p.symbols) t
    to_places n p t k = lane_there (productions g) start here places (places_same holds (λ lookahead u. true) states states (place_itself states)) n p (length p.symbols) t k

    token_held : (n : ℕ) (r : Bits × Bor Production) → HasLaneBits (rules_of g) start places n r.0 r.1.now → (t : Token) → (holds r.0 t ≡ true) ↔ IsLaneToken (productions g) start here n r.1.now (length r.1.now.symbols) t
    token_held n r bits t = (
      λ h.
          let b = (holds_has g.terminals differ r.0 t).0 h in
          let k = (bits b.0).0 b.2 in
          to_here n r.1.now t (subst (λ (u : Token). IsLaneToken (productions g) start places n r.1.now (length r.1.now.symbols) u) (one_token g.terminals k.0 t b.0 k.1 b.1) k.2),
      λ k.
          let b = given_bit (k.1).gives in
          (holds_has g.terminals differ r.0 t).1 (b.0, b.1, (bits b.0).1 (t, b.1, to_places n r.1.now t k)),
    )

    held_at : (n : ℕ) (o : Option (State Bits)) → slice_get states n ≡ o → (r : Reduction) → Contains (contents_at holds o).reductions r → (t : Token) → (r.holds t ≡ true) ↔ IsLaneToken (productions g) start here n r.production (length r.production.symbols) t
    held_at n None e r c t = absurd (let l = c.1 in omega arith)
    held_at n (Some state) e r c t =
        let q = contains_of_map (reduction_of holds) state.reductions.items r c in
        subst (λ (z : Reduction). (z.holds t ≡ true) ↔ IsLaneToken (productions g) start here n z.production (length z.production.symbols) t) q.2 (token_held n q.0 ((done n state e).holds q.0 q.1) t)

    pub hold_lanes : HoldLaneTokens (productions g) start here
    hold_lanes n r c t = held_at n (slice_get states n) refl r c t

    pub lane_tables : AreLaneTables (rules_of g) start states
    lane_tables = record { made = made; holds = hold_lanes; free = λ n state at. (done n state at).free }

  -- ---- the start symbol is on no right side
  module _ (alone : IsOnNoRightSide (productions g) start) where
    free_at : AreAllConflictFree g.terminals states → (n : ℕ) (o : Option (State Bits)) → slice_get states n ≡ o → HoldsNoConflict (contents_at holds o)
    free_at free n None at = nowhere_conflict
    free_at free n (Some s) at = free_contents g.terminals s (free n s at)

    lalr_held : HoldLaneTokens (productions g) start here → HoldLalrTokens (productions g) start here
    lalr_held held u n live at r c t =
        let right = items_at (productions g) start here (here_lr0 (rules_of g) start states made holds) u n live at in
        let v = (reductions_valid right r.production).0 (r, c, refl) in
        let k = lane_tokens (productions g) start here (here_lr0 (rules_of g) start states made holds) alone u n r.production (length r.production.symbols) t at v in
        let h = held n r c t in
        (λ x. k.0 (h.0 x), λ y. h.1 (k.1 y))

    pub tables_lalr : AreLaneTables (rules_of g) start states → AreLalrLaneTables (rules_of g) start states
    tables_lalr tables =
        let lr0 = here_lr0 (rules_of g) start states made holds in
        let lalr = no_conflict_lalr (productions g) start here lr0 (lalr_held tables.holds) (λ u n live at. free_at tables.free n (slice_get states n) refl) in
        record {
          lanes = tables;
          shape = lane_shape (rules_of g) start states made;
          lalr = lalr;
          checked = lanes_checked (productions g) start here (here_closed (rules_of g) start states made holds) lr0 (here_reduces (rules_of g) start states made holds) (reducing_reached (rules_of g) start states made holds) alone lalr tables.holds;
          faithful = lanes_faithful (productions g) start here lr0 alone lalr tables.holds;
        }

    -- an action of a state with a lane token is an LALR action of a prefix of the state
    lalr_action : (n : ℕ) (u : List Symbol) → state_after here u ≡ Some n → HasRightItems (productions g) start u (here n) → (t : Token) (a : Action) → IsLaneAction (productions g) start here n t a → IsLalrAction (productions g) start u t a
    lalr_action n u at right t (Shift x) h = (h.0, (edges_awaited right (Terminal x)).0 h.1)
    lalr_action n u at right t (Reduce p) h = (lane_tokens (productions g) start here (here_lr0 (rules_of g) start states made holds) alone u n p (length p.symbols) t at ((right.items p (length p.symbols)).0 h.0)).0 h.1

    pub meet_not_lalr : (n : ℕ) → n < length states → LanesMeet (productions g) start here n → ¬ IsLALR1 (productions g) start
    meet_not_lalr n within m lalr =
        let r = right_at (rules_of g) start states made holds n within in
        m.apart (lalr r.prefix r.live m.token m.first m.second (lalr_action n r.prefix r.after r.right m.token m.first m.here) (lalr_action n r.prefix r.after r.right m.token m.second m.there))

-- ---- the loop's ends
pub was_resolved : (b : Bool) (A B : Type 0) → b ≡ true → MatchBool b A B → A
was_resolved true A B e h = h
was_resolved false A B e h = cc

pub was_met : (b : Bool) (A B : Type 0) → b ≡ false → MatchBool b A B → B
was_met true A B e h = cc
was_met false A B e h = h

pub none_told : (o : Option ℕ) (A : Type 0) (B : ℕ → Type 0) → ((n : ℕ) → o ≡ Some n → ⊥) → MatchOption o A B → A
none_told None A B none h = h
none_told (Some n) A B none h = absurd (none n refl)

pub some_told : (o : Option ℕ) (n : ℕ) (A : Type 0) (B : ℕ → Type 0) → o ≡ Some n → MatchOption o A B → B n
some_told None n A B e h = cc
some_told (Some m) n A B e h = subst (λ (p : Option ℕ). MatchOption p A B) e h

pub all_done : (g : Rules) (start : NonterminalString) (numbers : Numbers) (found : FollowSets) (list : List NumberedState) (count index : ℕ) (states : List (State Bits)) → count ≤ index → AreResolvedTo g start numbers found list count index states → (n : ℕ) (state : State Bits) → slice_get states n ≡ Some state → IsResolved g start (places_in states) n state
all_done g start numbers found list count index states past h n state at =
    let within = slice_get_within states n state at in
    let counted = h.counted in
    h.done n state (omega arith) at

pub were_met : (g : Rules) (start : NonterminalString) (numbers : Numbers) (found : FollowSets) (list : List NumberedState) (count index : ℕ) (old new : List (State Bits)) → AreResolvedTo g start numbers found list count index old → IsStateStep index old new → (b : Bool) (A : Type 0) → b ≡ false →
    MatchBool b A (LanesMeet g.productions start (contents g.terminals new) index × (new ≡ old)) → HaveMeetingLanes g start new
were_met g start numbers found list count index old new h step true A e m = cc
were_met g start numbers found list count index old new h step false A e m = subst (HaveMeetingLanes g start) (sym m.1) (record {
  number = index;
  listed = slice_get_within old index step.before step.was;
  meet = subst (λ (xs : List (State Bits)). LanesMeet g.productions start (contents g.terminals xs) index) m.1 m.0;
  before = λ n l state at. h.done n state l at;
  from = h.left;
})
