-- The states of S = "x" are canonical, and they are LR(0) states that hold their lane tokens. So
-- the grammar is LR(1) and LALR(1). The proofs are by cases on the listed items, and by the theory.
use Rattle.std.proofs.Common.{◌≡◌, ◌↔◌, ℕ, zero, suc, Bool, true, false, cond, true≢false, List, [], ◌∷◌, sym, subst, refl, ap, ◌∙◌, length, inr}
use Rattle.std.specs.Prelude.{Contains, eqb}
use Rattle.std.proofs.lemmas.Bool.{eqb-true}
use Rattle.lr1_theory.proofs.Types.{Production, Symbol, Token}
use Rattle.lalrpop_grammar.specs.declared.repr.Symbol.TheVariants.{Nonterminal, Terminal}
use Rattle.lalrpop_grammar.specs.declared.repr.TerminalString.TheVariants.{Literal, Bare, Error}
use Rattle.lalrpop_grammar.specs.declared.lookahead.token.Token.TheVariants.{Eof, Terminal as TokenOf, Error as ErrorToken}
use Rattle.lalrpop_grammar.specs.Words.{Valid, starts, shifts, expands, ValidToken, at_start, kept, begins_behind, passed_on, IsLR1, IsLALR1, IsLalrToken}
use Rattle.lalrpop_grammar.specs.Words.{InTokenClosure, with_token, begins_rest, inherits, IsAtStartWith, IsMovedWith, items_of, IsReached, at_zero, AreCanonical}
use Rattle.lalrpop_grammar.specs.Words.{KernelsDiffer, TokenKernelsDiffer, AreLr0, IsLaneToken, HoldLaneTokens, HoldLalrTokens}
use Rattle.lalrpop_grammar.specs.states.States.{Reduction}
use Rattle.lalrpop_collections.proofs.theory.lists.Lists.{contains-nil, contains_head}
use Rattle.lalrpop_grammar.proofs.theory.closures.Valid.{of_grammar}
use Rattle.lalrpop_grammar.proofs.theory.states.RightStates.{faithful_lr1}
use Rattle.lr1_theory.proofs.theory.closures.Closures.{items_valid}
use Rattle.lr1_theory.proofs.theory.states.Lr0.{closed_lr0}
use Rattle.lr1_theory.proofs.theory.lanes.Lanes.{lane_tokens}
use Rattle.lr1_theory.proofs.theory.collapse.LalrStates.{faithful_lalr}
use Rattle.lr1_theory.proofs.theory.instances.Instance.{S, x, P, g, is_x, at_eof, reduction, states, leads_is, closed, alone, reductions, no_nonterminal, faithful}
use Rattle.lalrpop_grammar.proofs.theory.lists.ListEnds.{only_one}

-- whether both of two tests are true
abbrev pub both : Bool → Bool → Bool
both b c = cond b c false

-- each of two tests is true if both are
both_true : (b c : Bool) → both b c ≡ true → (b ≡ true) × (c ≡ true)
both_true true c e = (refl, e)
both_true false c e = absurd (true≢false (sym e))

-- whether a text is "S"
abbrev pub is_S : List ℕ → Bool
is_S [] = false
is_S (c ∷ []) = eqb c 83
is_S (c ∷ d ∷ w) = false

-- whether the symbols are the right side of the production
abbrev pub is_right : List Symbol → Bool
is_right [] = false
is_right (Nonterminal a ∷ l) = false
is_right (Terminal Error ∷ l) = false
is_right (Terminal (Bare w) ∷ l) = false
is_right (Terminal (Literal w) ∷ []) = is_x w
is_right (Terminal (Literal w) ∷ y ∷ l) = false

-- whether a production is that of the grammar
abbrev pub is_P : Production → Bool
is_P q = both (is_S (q.nonterminal).text) (both (is_right q.symbols) (both (eqb (q.action).0 0) (both (eqb (q.span).0 0) (eqb (q.span).1 7))))

-- a text that passes the test is "S"
S_text : (w : List ℕ) → is_S w ≡ true → 83 ∷ [] ≡ w
S_text [] e = absurd (true≢false (sym e))
S_text (c ∷ []) e = ap (λ d. d ∷ []) (sym (eqb-true c 83 e))
S_text (c ∷ d ∷ w) e = absurd (true≢false (sym e))

-- a text that passes the test is "x"
x_text : (w : List ℕ) → is_x w ≡ true → 120 ∷ [] ≡ w
x_text [] e = absurd (true≢false (sym e))
x_text (c ∷ []) e = ap (λ d. d ∷ []) (sym (eqb-true c 120 e))
x_text (c ∷ d ∷ w) e = absurd (true≢false (sym e))

-- symbols that pass the test are the right side of the production
right_symbols : (l : List Symbol) → is_right l ≡ true → Terminal x ∷ [] ≡ l
right_symbols [] e = absurd (true≢false (sym e))
right_symbols (Nonterminal a ∷ l) e = absurd (true≢false (sym e))
right_symbols (Terminal Error ∷ l) e = absurd (true≢false (sym e))
right_symbols (Terminal (Bare w) ∷ l) e = absurd (true≢false (sym e))
right_symbols (Terminal (Literal w) ∷ []) e = ap (λ v. Terminal (Literal v) ∷ []) (x_text w e)
right_symbols (Terminal (Literal w) ∷ y ∷ l) e = absurd (true≢false (sym e))

-- a production that passes the test is that of the grammar
is_P_true : (q : Production) → is_P q ≡ true → P ≡ q
is_P_true q e =
    let a = both_true (is_S (q.nonterminal).text) (both (is_right q.symbols) (both (eqb (q.action).0 0) (both (eqb (q.span).0 0) (eqb (q.span).1 7)))) e in
    let b = both_true (is_right q.symbols) (both (eqb (q.action).0 0) (both (eqb (q.span).0 0) (eqb (q.span).1 7))) a.1 in
    let c = both_true (eqb (q.action).0 0) (both (eqb (q.span).0 0) (eqb (q.span).1 7)) b.1 in
    let d = both_true (eqb (q.span).0 0) (eqb (q.span).1 7) c.1 in
    let name : 83 ∷ [] ≡ (q.nonterminal).text = S_text (q.nonterminal).text a.0 in
    let symbols : Terminal x ∷ [] ≡ q.symbols = right_symbols q.symbols b.0 in
    let action : 0 ≡ (q.action).0 = sym (eqb-true (q.action).0 0 c.0) in
    let from : 0 ≡ (q.span).0 = sym (eqb-true (q.span).0 0 d.0) in
    let to : 7 ≡ (q.span).1 = sym (eqb-true (q.span).1 7 d.1) in
    λ i. record { nonterminal = record { text = name i }; symbols = symbols i; action = record { 0 = action i }; span = record { 0 = from i; 1 = to i } }

-- a token that passes the test is Eof
eof_true : (t : Token) → at_eof t ≡ true → Eof ≡ t
eof_true Eof e = refl
eof_true ErrorToken e = absurd (true≢false (sym e))
eof_true (TokenOf t) e = absurd (true≢false (sym e))

-- whether a state has the dotted production with the token: states 0 and 1 have one each, with Eof
abbrev pub tokens : ℕ → Production → ℕ → Token → Bool
tokens zero p dot t = both (is_P p) (both (eqb dot 0) (at_eof t))
tokens (suc zero) p dot t = both (is_P p) (both (eqb dot 1) (at_eof t))
tokens (suc (suc n)) p dot t = false

-- a dotted production and token that pass the tests are the one of the state, with Eof
pub token_is : (k : ℕ) (p : Production) (dot : ℕ) (t : Token) → both (is_P p) (both (eqb dot k) (at_eof t)) ≡ true → (P ≡ p) × (k ≡ dot) × (Eof ≡ t)
token_is k p dot t e =
    let a = both_true (is_P p) (both (eqb dot k) (at_eof t)) e in
    let b = both_true (eqb dot k) (at_eof t) a.1 in
    (is_P_true p a.0, sym (eqb-true dot k b.0), eof_true t b.1)

-- a property of the one dotted production with Eof is one of a dotted production and token that
-- equal them
along : (Q : Production → ℕ → Token → Type 0) (k : ℕ) (p : Production) (dot : ℕ) (t : Token) → (P ≡ p) × (k ≡ dot) × (Eof ≡ t) → Q P k Eof → Q p dot t
along Q k p dot t e h = subst (λ s. Q p dot s) e.2 (subst (λ d. Q p d Eof) e.1 (subst (λ q. Q q k Eof) e.0 h))

-- the tokens of the closure of state 0 are Eof alone, on its one dotted production
first_token : {p : Production} {dot : ℕ} {t : Token} → InTokenClosure g (items_of states 0) (IsAtStartWith g S) p dot t → (P ≡ p) × (0 ≡ dot) × (Eof ≡ t)
first_token (with_token k) = (only_one P _ k.0.1, sym k.0.0, sym k.1)
first_token (begins_rest {p} {dot} q after i e h f) = absurd (no_nonterminal p dot q.nonterminal after (ap (λ (z : Production × ℕ). z.0) (only_one (P, 0) (p, dot) i)) e)
first_token (inherits {p} {dot} q after c e h n) = absurd (no_nonterminal p dot q.nonterminal after (first_token c).0 e)

-- the tokens of the closure of state 1 are Eof alone, on its one dotted production
moved_token : (y : Symbol) {p : Production} {dot : ℕ} {t : Token} → InTokenClosure g (items_of states 1) (IsMovedWith (λ q d s. tokens 0 q d s ≡ true) y) p dot t → (P ≡ p) × (1 ≡ dot) × (Eof ≡ t)
moved_token y {p} {dot} {t} (with_token k) = let e = token_is 0 p k.before t k.token in (e.0, ap suc e.1 ∙ sym k.moved, e.2)
moved_token y (begins_rest {p} {dot} q after i e h f) = absurd (no_nonterminal p dot q.nonterminal after (ap (λ (z : Production × ℕ). z.0) (only_one (P, 1) (p, dot) i)) e)
moved_token y (inherits {p} {dot} q after c e h n) = absurd (no_nonterminal p dot q.nonterminal after (moved_token y c).0 e)

-- the states are canonical
pub canonical : AreCanonical g S states (λ n p dot t. tokens n p dot t ≡ true)
canonical = record {
  closed = closed;
  reductions = reductions;
  first = λ p dot t. (
    λ h. along (λ q d s. InTokenClosure g (items_of states 0) (IsAtStartWith g S) q d s) 0 p dot t (token_is 0 p dot t h) (with_token ((refl, contains_head P [], refl), refl)),
    λ c. along (λ q d s. tokens 0 q d s ≡ true) 0 p dot t (first_token c) refl,
  );
  next = λ n m y e. let l = leads_is n m y e in next n m y l.0 l.1 l.2;
  holds = holds;
}
  where
    moved : (y : Symbol) → Terminal x ≡ y → (p : Production) (dot : ℕ) (t : Token) → (tokens 1 p dot t ≡ true) ↔ InTokenClosure g (items_of states 1) (IsMovedWith (λ q d s. tokens 0 q d s ≡ true) y) p dot t
    moved y e p dot t = (
      λ h. along (λ q d s. InTokenClosure g (items_of states 1) (IsMovedWith (λ q d s. tokens 0 q d s ≡ true) y) q d s) 1 p dot t (token_is 1 p dot t h)
          (with_token (record { before = 0; after = []; moved = refl; token = refl; behind = ap (λ z. z ∷ []) e })),
      λ c. along (λ q d s. tokens 1 q d s ≡ true) 1 p dot t (moved_token y c) refl,
    )

    next : (n m : ℕ) (y : Symbol) → 0 ≡ n → Terminal x ≡ y → 1 ≡ m → (p : Production) (dot : ℕ) (t : Token) → (tokens m p dot t ≡ true) ↔ InTokenClosure g (items_of states m) (IsMovedWith (λ q d s. tokens n q d s ≡ true) y) p dot t
    next n m y e k l p dot t =
        subst (λ i. (tokens m p dot t ≡ true) ↔ InTokenClosure g (items_of states m) (IsMovedWith (λ q d s. tokens i q d s ≡ true) y) p dot t) e
        (subst (λ i. (tokens i p dot t ≡ true) ↔ InTokenClosure g (items_of states i) (IsMovedWith (λ q d s. tokens 0 q d s ≡ true) y) p dot t) l (moved y k p dot t))

    holds : (n : ℕ) (r : Reduction) (t : Token) → Contains (states n).reductions r → (r.holds t ≡ true) ↔ (tokens n r.production (length (r.production).symbols) t ≡ true)
    holds zero r t h = absurd (contains-nil h)
    holds (suc zero) r t h = subst (λ (q : Reduction). (q.holds t ≡ true) ↔ (tokens 1 q.production (length (q.production).symbols) t ≡ true)) (only_one reduction r h) (λ k. k, λ k. k)
    holds (suc (suc n)) r t h = absurd (contains-nil h)

-- the grammar is LR(1)
pub lr1 : IsLR1 g S
lr1 = faithful_lr1 g S states faithful

-- kernels do not repeat, since there is one target
pub kernels : KernelsDiffer states
kernels k l n m y z e f same = sym (leads_is k n y e).2 ∙ (leads_is l m z f).2

-- kernels with tokens do not repeat
pub token_kernels : TokenKernelsDiffer states (λ n p dot t. tokens n p dot t ≡ true)
token_kernels k l n m y z e f same tokens = sym (leads_is k n y e).2 ∙ (leads_is l m z f).2

-- the states are LR(0) states
pub lr0 : AreLr0 g S states
lr0 = closed_lr0 g S states closed reductions kernels (λ n m y e. subst (IsReached states) (leads_is n m y e).0 at_zero)

-- Eof is the only valid token
valid_eof : {u : List Symbol} {p : Production} {dot : ℕ} {t : Token} → ValidToken g S u p dot t → (P ≡ p) × (Eof ≡ t)
valid_eof (at_start p h e) = (only_one P p h, refl)
valid_eof (kept y after v e) = valid_eof v
valid_eof (begins_behind {p = p} {dot = dot} q after v e h f) = absurd (no_nonterminal p dot q.nonterminal after (only_one P p (of_grammar v)) e)
valid_eof (passed_on {p = p} {dot = dot} q after v e h n) = absurd (no_nonterminal p dot q.nonterminal after (valid_eof v).0 e)

-- Eof is valid after the symbol of the production
whole_valid : ValidToken g S (Terminal x ∷ []) P 1 Eof
whole_valid = kept (Terminal x) [] (at_start P (contains_head P []) refl) refl

-- Eof is valid with each valid dotted production
valid_ends : {u : List Symbol} {p : Production} {dot : ℕ} → Valid g S u p dot → ValidToken g S u p dot Eof
valid_ends (starts p h e) = at_start p h e
valid_ends (shifts y after v e) = kept y after (valid_ends v) e
valid_ends (expands {p = p} {dot = dot} q after v e h) = absurd (no_nonterminal p dot q.nonterminal after (only_one P p (of_grammar v)) e)

-- each reduction holds the tokens that tracing finds
pub lane_tokens_held : HoldLaneTokens g S states
lane_tokens_held zero r h t = absurd (contains-nil h)
lane_tokens_held (suc zero) r h t = subst (λ (q : Reduction). (q.holds t ≡ true) ↔ IsLaneToken g S states 1 q.production (length (q.production).symbols) t) (only_one reduction r h) (there, back)
  where
    found : IsLaneToken g S states 1 P 1 t ↔ IsLalrToken g S (Terminal x ∷ []) P 1 t
    found = lane_tokens g S states lr0 alone (Terminal x ∷ []) 1 P 1 t refl (shifts (Terminal x) [] (starts P (contains_head P []) refl) refl)

    there : at_eof t ≡ true → IsLaneToken g S states 1 P 1 t
    there e = found.1 (record { prefix = Terminal x ∷ []; live = inr (P, 1, shifts (Terminal x) [] (starts P (contains_head P []) refl) refl); same = λ p d. (λ v. v, λ v. v); valid = subst (ValidToken g S (Terminal x ∷ []) P 1) (eof_true t e) whole_valid })

    back : IsLaneToken g S states 1 P 1 t → at_eof t ≡ true
    back l = subst (λ s. at_eof s ≡ true) (valid_eof (found.0 l).valid).1 refl
lane_tokens_held (suc (suc n)) r h t = absurd (contains-nil h)

-- each reduction holds its LALR tokens
pub lalr_tokens_held : HoldLalrTokens g S states
lalr_tokens_held u zero live at r h t = absurd (contains-nil h)
lalr_tokens_held u (suc zero) live at r h t = subst (λ (q : Reduction). (q.holds t ≡ true) ↔ IsLalrToken g S u q.production (length (q.production).symbols) t) (only_one reduction r h) (there, back)
  where
    there : at_eof t ≡ true → IsLalrToken g S u P 1 t
    there e =
        let v : Valid g S u P 1 = (items_valid g S states closed u 1 at P 1).0 (contains_head (P, 1) []) in
        record { prefix = u; live = live; same = λ p d. (λ w. w, λ w. w); valid = subst (ValidToken g S u P 1) (eof_true t e) (valid_ends v) }

    back : IsLalrToken g S u P 1 t → at_eof t ≡ true
    back l = subst (λ s. at_eof s ≡ true) (valid_eof l.valid).1 refl
lalr_tokens_held u (suc (suc n)) live at r h t = absurd (contains-nil h)

-- the grammar is LALR(1)
pub lalr1 : IsLALR1 g S
lalr1 = faithful_lalr g S states lr0 lalr_tokens_held faithful
