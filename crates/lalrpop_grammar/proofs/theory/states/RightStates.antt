-- The edges and reductions of a state with the right dotted productions, and the tokens that can be
-- next. The proofs are from the definitions of valid and of states.
use Rattle.std.proofs.Common.{◌≡◌, ◌↔◌, ℕ, inl, inr, List, length, sym, subst, ap, ◌∙◌, Some, refl}
use Rattle.std.specs.Prelude.{Contains, slice_get}
use Rattle.std.proofs.lemmas.Bool.{cases_order}
use Rattle.lalrpop_grammar.proofs.Types.{NonterminalString, Production, Symbol, TerminalString, Token}
use Rattle.lalrpop_grammar.specs.declared.lookahead.token.Token.TheVariants.{Terminal as TokenOf}
use Rattle.lalrpop_grammar.specs.Words.{Valid, ValidToken, at_start, kept, begins_behind, passed_on, IsAwaited, Action, Shift, Reduce, IsValidAction, IsLR1}
use Rattle.lalrpop_grammar.specs.Words.{Contents, leads, Allows, LeadsOverDots, HasRightItems, CanStandNext, HasNoRepeat, AreFaithful}
use Rattle.lalrpop_grammar.specs.states.States.{Reduction}
use Rattle.lalrpop_grammar.specs.conflicts.Conflicts.{HasNoConflict}
use Rattle.lalrpop_collections.proofs.theory.lists.Lists.{same_some, contains_place, place_contains}
use Rattle.lalrpop_grammar.proofs.theory.closures.Valid.{action_live}

-- if the dotted productions are those valid for a prefix, the symbols after the dots are those
-- awaited
pub awaited_edges : {g : List Production} {start : NonterminalString} {u : List Symbol} {s : Contents} → ((p : Production) (dot : ℕ) → Contains s.items (p, dot) ↔ Valid g start u p dot) → LeadsOverDots s → (x : Symbol) → ((n : ℕ) × (leads s x ≡ Some n)) ↔ IsAwaited g start u x
awaited_edges items edges x = (
  λ e. let b = (edges x).0 e in record { production = b.production; dot = b.dot; after = b.after; valid = (items b.production b.dot).0 b.item; behind = b.behind },
  λ a. (edges x).1 (record { production = a.production; dot = a.dot; after = a.after; item = (items a.production a.dot).1 a.valid; behind = a.behind }),
)

-- the shifts and gotos are exactly the symbols that are awaited
pub edges_awaited : {g : List Production} {start : NonterminalString} {u : List Symbol} {s : Contents} → HasRightItems g start u s → (x : Symbol) → ((n : ℕ) × (leads s x ≡ Some n)) ↔ IsAwaited g start u x
edges_awaited h x = awaited_edges h.items h.edges x

-- the reductions are exactly the productions whose dot is at the end
pub reductions_valid : {g : List Production} {start : NonterminalString} {u : List Symbol} {s : Contents} → HasRightItems g start u s → (p : Production) → ((r : Reduction) × Contains s.reductions r × (r.production ≡ p)) ↔ Valid g start u p (length p.symbols)
reductions_valid h p = (
  λ r. (h.items p (length p.symbols)).0 ((h.reductions.finished p).0 r),
  λ v. (h.reductions.finished p).1 ((h.items p (length p.symbols)).1 v),
)

-- a valid token can be next
pub token_stands : {g : List Production} {start : NonterminalString} {u : List Symbol} {p : Production} {dot : ℕ} {t : Token} → ValidToken g start u p dot t → CanStandNext t
token_stands (at_start p h e) = tt
token_stands (kept x after v e) = token_stands v
token_stands (begins_behind q after v e h f) = tt
token_stands (passed_on q after v e h n) = token_stands v

-- the token of a valid action can be next
pub action_stands : (g : List Production) (start : NonterminalString) (u : List Symbol) (t : Token) (a : Action) → IsValidAction g start u t a → CanStandNext t
action_stands g start u t (Shift x) h = subst CanStandNext (sym h.0) tt
action_stands g start u t (Reduce p) h = token_stands h

-- the terminal of a token, and otherwise the given one
abbrev pub terminal_in : TerminalString → Token → TerminalString
terminal_in t (TokenOf u) = u
terminal_in t _ = t

-- without a conflict no two actions are allowed on one token
pub no_conflict_one : (s : Contents) → HasNoConflict s → (t : Token) (a b : Action) → Allows s t a → Allows s t b → a ≡ b
no_conflict_one s none t (Shift x) (Shift y) h k = ap (λ z. Shift (terminal_in x z)) (sym h.0 ∙ k.0)
no_conflict_one s none t (Shift x) (Reduce p) h k = absurd (none.shifts x h.1.0 k.0 h.1.1 k.1 (ap (k.0).holds (sym h.0) ∙ k.3))
no_conflict_one s none t (Reduce p) (Shift x) h k = absurd (none.shifts x k.1.0 h.0 k.1.1 h.1 (ap (h.0).holds (sym k.0) ∙ h.3))
no_conflict_one s none t (Reduce p) (Reduce q) h k =
    let i = contains_place s.reductions h.0 h.1 in
    let j = contains_place s.reductions k.0 k.1 in
    elim (cases_order i.0 j.0) [
      | inl e ↦ ap Reduce (sym h.2 ∙ ap (λ (r : Reduction). r.production) (same_some (sym i.1 ∙ ap (slice_get s.reductions) e ∙ j.1)) ∙ k.2)
      | inr l ↦ elim l [
        | inl less ↦ absurd (none.reductions i.0 j.0 h.0 k.0 t less i.1 j.1 h.3 k.3)
        | inr more ↦ absurd (none.reductions j.0 i.0 k.0 h.0 t more j.1 i.1 k.3 h.3)
      ]
    ]

-- a shift is no reduction
pub shift≢reduce : (x : TerminalString) (p : Production) → Shift x ≡ Reduce p → ⊥
shift≢reduce x p e = subst IsShift e tt
  where
    IsShift : Action → Type 0
    IsShift (Shift y) = Unit {0}
    IsShift (Reduce q) = ⊥

-- equal reductions are by one production
pub same_reduce : (p q : Production) → Reduce p ≡ Reduce q → p ≡ q
same_reduce p q e = ap production_of e
  where
    production_of : Action → Production
    production_of (Reduce k) = k
    production_of (Shift y) = p

-- if no two actions are allowed on one token, and reductions do not repeat, there is no conflict
pub one_no_conflict : (s : Contents) → HasNoRepeat s.reductions → ((t : Token) (a b : Action) → Allows s t a → Allows s t b → a ≡ b) → HasNoConflict s
one_no_conflict s once one = record {
  shifts = λ x n r e c h. shift≢reduce x r.production (one (TokenOf x) (Shift x) (Reduce r.production) (refl, (n, e)) (r, c, refl, h));
  reductions = λ i j r q t l e f h k.
      once i j r q l e f (same_reduce r.production q.production (one t (Reduce r.production) (Reduce q.production) (r, place_contains s.reductions i r e, refl, h) (q, place_contains s.reductions j q f, refl, k)));
}

-- a grammar with faithful states is LR(1)
pub faithful_lr1 : (g : List Production) (start : NonterminalString) (states : ℕ → Contents) → AreFaithful g start states → IsLR1 g start
faithful_lr1 g start states f u t a b v w =
    let s = f u (action_live t a v) in
    s.right.one t (action_stands g start u t a v) a b (s.right.every t a v) (s.right.every t b w)
