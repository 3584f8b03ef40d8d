-- Bits of tokens, and the places of states whose reductions took columns.
use Rattle.std.proofs.Common.{◌≡◌, ℕ, suc, List, [], ◌∷◌, length, map, refl, sym, ◌∙◌, ap, arith, Some}
use Rattle.std.specs.Prelude.{slice_get}
use Rattle.std.specs.Borrow.{Bor}
use Rattle.std.proofs.lemmas.Option.{slice_get_within}
use Rattle.lalrpop_base.specs.Words.{Bits, IsBitOf}
use Rattle.lalrpop_lanes.specs.Words.{IsApplied}
use Rattle.lalrpop_lane_states.proofs.Types.{Action, Production, State, TerminalString, Token}
use Rattle.lalrpop_grammar.specs.declared.lookahead.token.Token.TheVariants.{Eof, Error, Terminal as TokenOf}
use Rattle.lalrpop_states.specs.declared.lr1_core.state.Action.TheVariants.{Reduce}
use Rattle.lalrpop_states.specs.declared.lr1_core.state.Items.{Items}
use Rattle.lalrpop_construction.specs.Words.{dot_of, by, HasSamePlace}
use Rattle.lalrpop_lane_states.proofs.theory.lanes.LaneAsked.{CodeReduction}
use Rattle.lalrpop_collections.proofs.theory.lists.Places.{same_some}

-- a bit is that of one token
pub one_token : (terminals : List TerminalString) (t u : Token) (bit : ℕ) → IsBitOf terminals t bit → IsBitOf terminals u bit → t ≡ u
one_token terminals Eof Eof bit a b = refl
one_token terminals Eof Error bit a b = absurd (omega (arith, a, b))
one_token terminals Eof (TokenOf x) bit a b = let l = slice_get_within terminals bit x b in absurd (omega arith)
one_token terminals Error Eof bit a b = absurd (omega (arith, a, b))
one_token terminals Error Error bit a b = refl
one_token terminals Error (TokenOf x) bit a b = let l = slice_get_within terminals bit x b in absurd (omega arith)
one_token terminals (TokenOf x) Eof bit a b = let l = slice_get_within terminals bit x a in absurd (omega arith)
one_token terminals (TokenOf x) Error bit a b = let l = slice_get_within terminals bit x a in absurd (omega arith)
one_token terminals (TokenOf x) (TokenOf y) bit a b = ap TokenOf (same_some x y (sym a ∙ b))

-- lists with the same production at each place have the same productions
pub by_all : (rs qs : List CodeReduction) → length qs ≡ length rs → ((k : ℕ) (r q : CodeReduction) → slice_get rs k ≡ Some r → slice_get qs k ≡ Some q → q.1.now ≡ r.1.now) → map by qs ≡ map by rs
by_all [] [] counted same = refl
by_all [] (q ∷ qs) counted same = absurd (omega arith)
by_all (r ∷ rs) [] counted same = absurd (omega arith)
by_all (r ∷ rs) (q ∷ qs) counted same =
    ap (λ (p : Production). p ∷ map by qs) (same 0 r q refl refl) ∙ ap (λ (ps : List Production). r.1.now ∷ ps) (by_all rs qs (omega arith) (λ k a b at_a at_b. same (suc k) a b at_a at_b))

-- a state that took its columns has the same place
pub applied_same : (actions : List Action) (columns : List Bits) (old new : State Bits) → IsApplied actions columns old new → HasSamePlace old new
applied_same actions columns old new applied = record {
  index = applied.index;
  dots = ap (λ (items : Items Bits). map dot_of items.vec.items) applied.items;
  shifts = applied.shifts;
  gotos = applied.gotos;
  reduced = by_all old.reductions.items new.reductions.items applied.counted (λ k r q at_r at_q. ap (λ (b : Bor Production). b.now) (applied.each k r q at_r at_q).same);
}

-- equal reduction actions have one production
pub lent_same : (p q : Bor Production) → Reduce p ≡ Reduce q → p ≡ q
lent_same p q e = cc
