-- The kernels of the construction are those of canonical states.
use Rattle.std.proofs.Common.{◌≡◌, ◌↔◌, ℕ, suc, ◌+◌, inl, inr, List, ◌∷◌, length, map, drop, refl, sym, ◌∙◌, ap, subst, arith, true}
use Rattle.std.specs.Prelude.{Contains}
use Rattle.std.proofs.lemmas.Option.{slice_get_within}
use Rattle.lalrpop_base.specs.Words.{Bits, no_bits, with_bit, InClosure, in_kernel, expanded, InTokenClosure, with_token, AreOwn, InKernel, HasItemToken}
use Rattle.lalrpop_base.specs.Words.{begins_rest, inherits, IsAtStart, IsAtStartWith, IsMoved, IsMovedWith, holds_token, Dotted, productions, productions_of}
use Rattle.lalrpop_base.specs.Words.{IsWellFormed, item_at_start, IsBehind, Shifts, shifted}
use Rattle.lalrpop_construction.proofs.Types.{Grammar, NonterminalString, Production, Symbol, TerminalString, Token}
use Rattle.lalrpop_grammar.specs.declared.lookahead.token.Token.TheVariants.{Eof, Error, Terminal as TokenOf}
use Rattle.lalrpop_states.proofs.theory.states.HeldTokens.{place_there}
use Rattle.lalrpop_states.specs.states.Items.{dotted_of}
use Rattle.lalrpop_states.specs.construction.Transitions.Shifts.{none, moves, stays}
use Rattle.lalrpop_states.proofs.theory.closures.Closing.{drop_split, split_drop}
use Rattle.lalrpop_grammar.proofs.theory.grammars.Grammars.{productions_among, productions_named}
use Rattle.lalrpop_states.proofs.theory.grammars.KnownTerminals.{held_bit}
use Rattle.lalrpop_collections.proofs.theory.lists.Members.{contains_head, contains_tail, contains-cons, Contains-none, contains_map}
use Rattle.lalrpop_construction.proofs.theory.construction.Shifting.{of_dotted, begun_in, Shifts-from}
use Rattle.lalrpop_collections.proofs.theory.sets.BitSets.{one_bit, own_bit}

-- ---- a larger kernel has a larger closure
module _ (g : List Production) where
  pub InClosure-more : (A B : Production → ℕ → Type 0) → ((p : Production) (dot : ℕ) → A p dot → B p dot) → {p : Production} {dot : ℕ} → InClosure g A p dot → InClosure g B p dot
  InClosure-more A B more {p} {dot} (in_kernel k) = in_kernel (more p dot k)
  InClosure-more A B more (expanded q after c behind among) = expanded q after (InClosure-more A B more c) behind among

  pub InTokenClosure-more : (I : Production → ℕ → Type 0) (A B : Production → ℕ → Token → Type 0) → ((p : Production) (dot : ℕ) (t : Token) → A p dot t → B p dot t) → {p : Production} {dot : ℕ} {t : Token} → InTokenClosure g I A p dot t → InTokenClosure g I B p dot t
  InTokenClosure-more I A B more {p} {dot} {t} (with_token k) = with_token (more p dot t k)
  InTokenClosure-more I A B more (begins_rest q after i behind among f) = begins_rest q after i behind among f
  InTokenClosure-more I A B more (inherits q after c behind among n) = inherits q after (InTokenClosure-more I A B more c) behind among n

-- ---- the kernel of the start
only_eof : (terminals : List TerminalString) (t : Token) → holds_token terminals (with_bit no_bits (length terminals)) t ≡ true → t ≡ Eof
only_eof terminals Eof h = refl
only_eof terminals Error h = let e = one_bit (length terminals) (length terminals + 1) h in absurd (omega arith)
only_eof terminals (TokenOf t) h =
    let b = held_bit terminals (with_bit no_bits (length terminals)) (TokenOf t) h in
    let e = one_bit (length terminals) b.0 b.2 in
    let l = slice_get_within terminals b.0 t (place_there terminals t b.0 b.1) in
    absurd (omega arith)

module _ (g : Grammar) (well : IsWellFormed g) (own : AreOwn g) (start : NonterminalString) where
  at_start : (p q : Production) (dot : ℕ) → ◌≡◌ {A = Production × ℕ} (q, 0) (p, dot) → Contains (productions_of g start) q → IsAtStart (productions g) start p dot
  at_start p q dot e c =
      let same : q ≡ p = ap (λ (d : Production × ℕ). d.0) e in
      let d : Contains (productions_of g start) p = subst (Contains (productions_of g start)) same c in
      (sym (ap (λ (d : Production × ℕ). d.1) e), productions_among g start p d, productions_named g well start p d)

  in_start : {L : Type 0} (s : L) (p : Production) → Contains (productions g) p → p.nonterminal ≡ start → Contains (map (item_at_start s) (productions_of g start)) (item_at_start s p)
  in_start s p among named = contains_map (item_at_start s) (productions_of g start) p (subst (λ (a : NonterminalString). Contains (productions_of g a) p) named (own p among))

  pub start_items : {L : Type 0} (s : L) (p : Production) (dot : ℕ) → InKernel (map (item_at_start s) (productions_of g start)) p dot ↔ IsAtStart (productions g) start p dot
  start_items {L} s p dot = (
    λ c.
        let i = of_dotted (map (item_at_start s) (productions_of g start)) (p, dot) c in
        let q = begun_in s (productions_of g start) i.0 i.1 in
        at_start p q.0 dot (ap (λ (j : Dotted L). dotted_of j) q.2 ∙ i.2) q.1,
    λ h. subst (λ (n : ℕ). InKernel (map (item_at_start s) (productions_of g start)) p n) (sym h.0) (contains_map dotted_of (map (item_at_start s) (productions_of g start)) (item_at_start s p) (in_start s p h.1 h.2)),
  )

  abbrev eof : Bits
  eof = with_bit no_bits (length g.terminals)

  pub start_tokens : (p : Production) (dot : ℕ) (t : Token) → HasItemToken g.terminals (map (item_at_start eof) (productions_of g start)) p dot t ↔ IsAtStartWith (productions g) start p dot t
  start_tokens p dot t = (
    λ h.
        let q = begun_in eof (productions_of g start) h.item h.there in
        (at_start p q.0 dot (ap (λ (j : Dotted Bits). dotted_of j) q.2 ∙ h.is) q.1, only_eof g.terminals t (subst (λ (j : Dotted Bits). holds_token g.terminals j.lookahead t ≡ true) (sym q.2) h.holds)),
    λ h. record {
      item = item_at_start eof p;
      there = in_start eof p h.0.1 h.0.2;
      is = ap (λ (n : ℕ). (p, n)) (sym h.0.0);
      holds = subst (λ (u : Token). holds_token g.terminals eof u ≡ true) (sym h.1) (own_bit (length g.terminals));
    },
  )

-- ---- the kernel of a target
pub Shifts-onto : {L : Type 0} (x : Symbol) (items kernel : List (Dotted L)) → Shifts x items kernel → (i : Dotted L) → Contains items i → IsBehind x i → Contains kernel (shifted i)
Shifts-onto {L} x items kernel none i c b = absurd (Contains-none i c)
Shifts-onto {L} x items kernel (moves {i = j} {items = is} {kernel = ks} behind s) i c b = elim (contains-cons j is i c) [
  | inl e ↦ subst (λ (k : Dotted L). Contains (shifted j ∷ ks) (shifted k)) e (contains_head (shifted j) ks)
  | inr later ↦ contains_tail (shifted j) ks (shifted i) (Shifts-onto x is ks s i later b)
]
Shifts-onto {L} x items kernel (stays {i = j} {items = is} {kernel = ks} out s) i c b = elim (contains-cons j is i c) [
  | inl e ↦ absurd (out (subst (IsBehind x) (sym e) b))
  | inr later ↦ Shifts-onto x is ks s i later b
]

module _ {L : Type 0} (x : Symbol) (items kernel : List (Dotted L)) (s : Shifts x items kernel) where
  behind_dot : (i : Dotted L) (p : Production) (n : ℕ) (after : List Symbol) → dotted_of i ≡ (p, n) → drop n p.symbols ≡ x ∷ after → IsBehind x i
  behind_dot i p n after e h = split_drop i.index i.production.symbols x after (ap (λ (d : Production × ℕ). drop d.1 d.0.symbols) e ∙ h)

  moved_dotted : (i : Dotted L) (p : Production) (n dot : ℕ) → dotted_of i ≡ (p, n) → dot ≡ suc n → dotted_of (shifted i) ≡ (p, dot)
  moved_dotted i p n dot e m =
      let k : n + 1 ≡ dot = omega arith in
      ap (λ (d : Production × ℕ). (d.0, d.1 + 1)) e ∙ ap (λ (j : ℕ). (p, j)) k

  before_moved : (i j : Dotted L) (p : Production) (dot : ℕ) → shifted i ≡ j → dotted_of j ≡ (p, dot) → (i.production ≡ p) × (dot ≡ suc i.index)
  before_moved i j p dot e f =
      let both : dotted_of (shifted i) ≡ (p, dot) = ap (λ (k : Dotted L). dotted_of k) e ∙ f in
      let n : i.index + 1 ≡ dot = ap (λ (d : Production × ℕ). d.1) both in
      (ap (λ (d : Production × ℕ). d.0) both, omega arith)

  pub moved_items : (p : Production) (dot : ℕ) → InKernel kernel p dot ↔ IsMoved (λ q n. Contains (map dotted_of items) (q, n)) x p dot
  moved_items p dot = (
    λ c.
        let j = of_dotted kernel (p, dot) c in
        let f = Shifts-from x items kernel s j.0 j.1 in
        let b = before_moved f.item j.0 p dot f.is j.2 in
        record {
          before = f.item.index;
          after = drop (suc f.item.index) f.item.production.symbols;
          moved = b.1;
          item = subst (λ (q : Production). Contains (map dotted_of items) (q, f.item.index)) b.0 (contains_map dotted_of items f.item f.among);
          behind = ap (λ (q : Production). drop f.item.index q.symbols) (sym b.0) ∙ drop_split f.item.index f.item.production.symbols x f.behind;
        },
    λ h.
        let i = of_dotted items (p, h.before) h.item in
        subst (Contains (map dotted_of kernel)) (moved_dotted i.0 p h.before dot i.2 h.moved) (contains_map dotted_of kernel (shifted i.0) (Shifts-onto x items kernel s i.0 i.1 (behind_dot i.0 p h.before h.after i.2 h.behind))),
  )

module _ (x : Symbol) (items kernel : List (Dotted Bits)) (s : Shifts x items kernel) where
  pub moved_tokens : (terminals : List TerminalString) (p : Production) (dot : ℕ) (t : Token) → HasItemToken terminals kernel p dot t ↔ IsMovedWith (HasItemToken terminals items) x p dot t
  moved_tokens terminals p dot t = (
    λ h.
        let f = Shifts-from x items kernel s h.item h.there in
        let b = before_moved x items kernel s f.item h.item p dot f.is h.is in
        record {
          before = f.item.index;
          after = drop (suc f.item.index) f.item.production.symbols;
          moved = b.1;
          token = record { item = f.item; there = f.among; is = ap (λ (q : Production). (q, f.item.index)) b.0; holds = subst (λ (k : Dotted Bits). holds_token terminals k.lookahead t ≡ true) (sym f.is) h.holds };
          behind = ap (λ (q : Production). drop f.item.index q.symbols) (sym b.0) ∙ drop_split f.item.index f.item.production.symbols x f.behind;
        },
    λ h. record {
      item = shifted h.token.item;
      there = Shifts-onto x items kernel s h.token.item h.token.there (behind_dot x items kernel s h.token.item p h.before h.after h.token.is h.behind);
      is = moved_dotted x items kernel s h.token.item p h.before dot h.token.is h.moved;
      holds = h.token.holds;
    },
  )
