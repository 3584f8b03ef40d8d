-- The carried tokens are those of the table that the worklist leaves.
use Rattle.std.proofs.Common.{◌≡◌, ◌≤◌, ◌+◌, ℕ, suc, List, ◌∷◌, length, drop, refl, sym, ◌∙◌, ap, subst, arith, true, Option, Some, None, ⊎_elim}
use Rattle.std.specs.Prelude.{Contains, slice_get}
use Rattle.std.specs.Borrow.{Bor}
use Rattle.std.proofs.lemmas.Bool.{cases_lt}
use Rattle.lalrpop_base.specs.Words.{Bits, has, InClosure, in_kernel, expanded, IsAtStart, IsMoved, items_of, AreClosed, IsReached, at_zero, IsCarried, IsFound}
use Rattle.lalrpop_base.specs.Words.{eof_at_start, over, first_of_rest, through_rest, contents, contents_at, holds_token, reduction_of, AllDiffer, Contents, leads, productions}
use Rattle.lalrpop_grammar.specs.closures.Closures.{over_edge}
use Rattle.lalrpop_grammar.specs.states.States.{Reduction}
use Rattle.lalrpop_check.proofs.Types.{Grammar, NonterminalString, Production, State, Symbol, TerminalString, Token}
use Rattle.lalrpop_grammar.specs.declared.lookahead.token.Token.TheVariants.{Eof, Error, Terminal as TokenOf}
use Rattle.lalrpop_collections.proofs.theory.lists.Lists.{contains_of_map}
use Rattle.lalrpop_states.proofs.theory.states.HeldTokens.{place_is}
use Rattle.lalrpop_check.specs.Words.{HoldCarried}
use Rattle.lalrpop_base.specs.Words.{Carried, at_place, AreCarried, AllHoldTableTokens}
use Rattle.lalrpop_check.proofs.theory.check.CheckCarrying.{leads_in}
use Rattle.lalrpop_states.proofs.theory.closures.Closing.{split_drop}
use Rattle.lalrpop_states.proofs.theory.grammars.KnownTerminals.{token_bit, held_bit, bit_held, holds_more}
use Rattle.lalrpop_collections.proofs.theory.lists.Members.{Contains-none, contains_map, place}
use Rattle.lalrpop_collections.proofs.theory.lists.Places.{contains_at, same_some, filled}

-- each bit is that of a token
token_at : (terminals : List TerminalString) → AllDiffer terminals → (bit : ℕ) → bit ≤ length terminals + 1 → (t : Token) × (token_bit terminals t ≡ Some bit)
token_at terminals differ bit l =
    ⊎_elim (λ less. let f = filled terminals bit less in (TokenOf f.0, place_is terminals differ f.0 bit f.1))
    (λ more. ⊎_elim
    (λ last. let e : length terminals ≡ bit = omega arith in (Eof, ap Some e))
    (λ past. let e : length terminals + 1 ≡ bit = omega arith in (Error, ap Some e))
    (cases_lt bit (length terminals + 1)))
    (cases_lt bit (length terminals))

module _ (g : Grammar) (start : NonterminalString) (states : List (State Bits)) (closed : AreClosed (productions g) start (contents g.terminals states)) (table : Carried) (are : AreCarried g start states table) where
  abbrev S : ℕ → Contents
  S = contents g.terminals states

  abbrev Has : ℕ → Production → ℕ → Type 0
  Has n p dot = (s : Bits) × Contains table (at_place n p dot, s)

  moved_all : (n m : ℕ) (p : Production) (dot : ℕ) (x : Symbol) (after : List Symbol) (s : Bits) → Contains table (at_place n p dot, s) → leads (S n) x ≡ Some m → drop dot p.symbols ≡ x ∷ after → IsFound table (at_place m p (suc dot)) s
  moved_all n m p dot x after s c e behind =
      let one : dot + 1 ≡ suc dot = omega arith in
      subst (λ (k : ℕ). IsFound table (at_place m p k) s) one
      ((are.settled (at_place n p dot, s) c).over (at_place m p (dot + 1)) (record { symbol = x; behind = split_drop dot p.symbols x after behind; to = m; edge = sym (leads_in g start states n x) ∙ e; is = refl }))

  from_closure : (n : ℕ) (K : Production → ℕ → Type 0) → ((p : Production) (dot : ℕ) → K p dot → Has n p dot) → {p : Production} {dot : ℕ} → InClosure (productions g) K p dot → Has n p dot
  from_closure n K of {p} {dot} (in_kernel h) = of p dot h
  from_closure n K of (expanded {p = parent} {dot = at} q after h b c) =
      let f = from_closure n K of h in
      let r = (are.settled (at_place n parent at, f.0) f.1).into q after b c in
      (r.set, r.entry)

  -- each item of a reached state has an entry at its place
  has_place : {n : ℕ} → IsReached S n → (p : Production) (dot : ℕ) → items_of S n p dot → Has n p dot
  has_place at_zero p dot i = from_closure 0 (IsAtStart (productions g) start) (λ q d h. let b = are.started q h.1 h.2 in (b.set, subst (λ (k : ℕ). Contains table (at_place 0 q k, b.set)) (sym h.0) b.entry)) ((closed.first p dot).0 i)
  has_place (over_edge {n} m x r e) p dot i = from_closure m (IsMoved (items_of S n) x) (λ q d h.
      let f = has_place r q h.before h.item in
      let a = moved_all n m q h.before x h.after f.0 f.1 e h.behind in
      (a.set, subst (λ (k : ℕ). Contains table (at_place m q k, a.set)) (sym h.moved) a.entry)) ((closed.next n m x e p dot).0 i)

  -- the entry has each token that is carried to the place
  has_token : {n : ℕ} {p : Production} {dot : ℕ} {t : Token} → IsCarried (productions g) start S n p dot t → (s : Bits) × Contains table (at_place n p dot, s) × (holds_token g.terminals s t ≡ true)
  has_token (eof_at_start p among named) = let b = are.started p among named in (b.set, b.entry, b.there)
  has_token (over {n} {p} {dot} {t} m x after c e behind) =
      let f = has_token c in
      let a = moved_all n m p dot x after f.0 f.1 e behind in
      (a.set, a.entry, holds_more g.terminals f.0 a.set t a.all f.2)
  has_token (first_of_rest {n} {p} {dot} {t} q after r i behind among f) =
      let h = has_place r p dot i in
      let b = (are.settled (at_place n p dot, h.0) h.1).into q after behind among in
      (b.set, b.entry, b.begins (TokenOf t) f)
  has_token (through_rest {n} {p} {dot} {t} q after c behind among null) =
      let f = has_token c in
      let b = (are.settled (at_place n p dot, f.0) f.1).into q after behind among in
      (b.set, b.entry, b.inherits null t f.2)

  reductions_at : (o : Option (State Bits)) (r : Reduction) → Contains (contents_at (holds_token g.terminals) o).reductions r → (s : State Bits) × (o ≡ Some s) × ((q : Bits × Bor Production) × Contains s.reductions.items q × (reduction_of (holds_token g.terminals) q ≡ r))
  reductions_at None r c = absurd (Contains-none r c)
  reductions_at (Some s) r c = (s, refl, contains_of_map (reduction_of (holds_token g.terminals)) s.reductions.items r c)

  pub Carried-held : AllHoldTableTokens table states → HoldCarried g start states
  Carried-held all n r t c h =
      let s = reductions_at (slice_get states n) r c in
      let q = s.2 in
      let at = place (s.0).reductions.items q.0 q.1 in
      let f = has_token (subst (λ (x : Reduction). IsCarried (productions g) start S n x.production (length x.production.symbols) t) (sym q.2) h) in
      let b = held_bit g.terminals f.0 t f.2 in
      let held = all n s.0 s.1 at.0 q.0 at.2 f.0 f.1 b.0 b.2 in
      ap (λ (x : Reduction). x.holds t) (sym q.2) ∙ bit_held g.terminals (q.0).0 t b.0 b.1 held

  pub Held-carried : AllDiffer g.terminals → HoldCarried g start states → AllHoldTableTokens table states
  Held-carried differ held n s at k r there set entry bit h =
      let sound = are.sound (at_place n r.1.now (length r.1.now.symbols), set) entry in
      let t = token_at g.terminals differ bit (sound.fits bit h) in
      let carried = sound.carried t.0 (bit_held g.terminals set t.0 bit t.1 h) in
      let among : Contains (S n).reductions (reduction_of (holds_token g.terminals) r) = subst (λ (o : Option (State Bits)). Contains (contents_at (holds_token g.terminals) o).reductions (reduction_of (holds_token g.terminals) r)) (sym at) (contains_map (reduction_of (holds_token g.terminals)) s.reductions.items r (contains_at s.reductions.items r k there)) in
      let has_it = held n (reduction_of (holds_token g.terminals) r) t.0 among carried in
      let b = held_bit g.terminals r.0 t.0 has_it in
      subst (λ (q : ℕ). has r.0 q ≡ true) (same_some b.0 bit (sym b.1 ∙ t.1)) b.2
