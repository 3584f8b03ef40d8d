-- A table that is token-closed for a kernel is the closure of the kernel.
use Rattle.std.proofs.Common.{◌≡◌, ◌↔◌, ℕ, zero, suc, ◌+◌, List, [], ◌∷◌, map, drop, sym, ◌∙◌, ap, subst, arith, true, Some}
use Rattle.std.specs.Prelude.{Contains, slice_get}
use Rattle.lalrpop_collections.specs.Words.{Bits}
use Rattle.lalrpop_grammar.specs.Words.{InClosure, in_kernel, expanded, Rules}
use Rattle.lalrpop_states.specs.Words.{holds_token, Dotted}
use Rattle.lalrpop_states.proofs.Types.{Nil, Production, Symbol, Token}
use Rattle.lalrpop_grammar.specs.declared.repr.Symbol.TheVariants.{Nonterminal}
use Rattle.lalrpop_collections.proofs.theory.lists.Lists.{contains_of_map}
use Rattle.lalrpop_states.specs.states.Items.{dotted_of}
use Rattle.lalrpop_states.specs.Words.{InKernel, HasItemToken, InTokenClosureBy, own_token, from_rest, from_parent, ClosureTable, item_of, HasPropagated, IsTokenClosed}
use Rattle.lalrpop_states.proofs.theory.grammars.KnownTerminals.{holds_more}
use Rattle.lalrpop_collections.proofs.theory.lists.Members.{contains_map}
use Rattle.lalrpop_collections.proofs.theory.lists.Places.{same_some}

abbrev Entry : Type 0
Entry = Dotted Nil × Bits

pub drop_split : {X : Type 0} (n : ℕ) (xs : List X) (x : X) → slice_get xs n ≡ Some x → drop n xs ≡ x ∷ drop (suc n) xs
drop_split zero [] x h = cc
drop_split zero (y ∷ xs) x h = ap (λ z. z ∷ xs) (same_some y x h)
drop_split (suc n) [] x h = cc
drop_split (suc n) (y ∷ xs) x h = drop_split n xs x h

pub split_drop : {X : Type 0} (n : ℕ) (xs : List X) (x : X) (after : List X) → drop n xs ≡ x ∷ after → slice_get xs n ≡ Some x
split_drop zero [] x after h = cc
split_drop zero (y ∷ xs) x after h = let e : y ≡ x = cc in ap Some e
split_drop (suc n) [] x after h = cc
split_drop (suc n) (y ∷ xs) x after h = split_drop n xs x after h

module _ (begins : Rules → List Symbol → Token → Type 0) (passes : Rules → List Symbol → Type 0) (g : Rules) where
  module _ (kernel : List (Dotted Bits)) where
    abbrev Reached : Production → ℕ → Type 0
    Reached = InClosure g.productions (InKernel kernel)

    abbrev ReachedWith : Production → ℕ → Token → Type 0
    ReachedWith = InTokenClosureBy (begins g) (passes g) g.productions Reached (HasItemToken g.terminals kernel)

    -- ---- a table that is closed
    module _ (table : ClosureTable) (end : IsTokenClosed begins passes g kernel table) where
      -- a dotted production of the table has an entry
      listed : (p : Production) (dot : ℕ) → InKernel (map item_of table) p dot → (e : Entry) × Contains table e × (dotted_of e.0 ≡ (p, dot))
      listed p dot h =
          let i = contains_of_map dotted_of (map item_of table) (p, dot) h in
          let e = contains_of_map item_of table i.0 i.1 in
          (e.0, e.1, ap dotted_of e.2 ∙ i.2)

      entry_listed : (e : Entry) (p : Production) (dot : ℕ) → Contains table e → dotted_of e.0 ≡ (p, dot) → InKernel (map item_of table) p dot
      entry_listed e p dot c s = subst (Contains (map dotted_of (map item_of table))) s (contains_map dotted_of (map item_of table) (item_of e) (contains_map item_of table e c))

      entry_behind : (e : Entry) (p : Production) (dot : ℕ) (l : List Symbol) → dotted_of e.0 ≡ (p, dot) → drop dot p.symbols ≡ l → drop e.0.index e.0.production.symbols ≡ l
      entry_behind e p dot l s h = ap (λ (d : Production × ℕ). drop d.1 d.0.symbols) s ∙ h

      given_dotted : (tokens : Bits) (q : Production) (after : List Symbol) (h : HasPropagated begins passes g table tokens q after) → dotted_of h.key ≡ (q, 0)
      given_dotted tokens q after h = ap (λ (p : Production). (p, h.key.index)) h.production ∙ ap (λ (n : ℕ). (q, n)) h.start

      pub all_listed : {p : Production} {dot : ℕ} → Reached p dot → InKernel (map item_of table) p dot
      all_listed {p} {dot} (in_kernel h) =
          let i = contains_of_map dotted_of kernel (p, dot) h in
          let a = end.all i.0 i.1 in
          entry_listed (a.0, a.2.set) p dot a.2.entry (a.1 ∙ i.2)
      all_listed (expanded {p} {dot} q after c behind among) =
          let e = listed p dot (all_listed c) in
          let h = end.settled e.0 e.1 q after (entry_behind e.0 p dot (Nonterminal q.nonterminal ∷ after) e.2 behind) among in
          entry_listed (h.key, h.set) q 0 h.entry (given_dotted e.0.1 q after h)

      abbrev HeldWith : Production → ℕ → Token → Type 0
      HeldWith = HasItemToken g.terminals (map item_of table)

      held_entry : (e : Entry) (p : Production) (dot : ℕ) (t : Token) → Contains table e → dotted_of e.0 ≡ (p, dot) → holds_token g.terminals e.1 t ≡ true → HeldWith p dot t
      held_entry e p dot t c s h = record { item = item_of e; there = contains_map item_of table e c; is = s; holds = h }

      entry_held : (p : Production) (dot : ℕ) (t : Token) → HeldWith p dot t → (e : Entry) × Contains table e × (dotted_of e.0 ≡ (p, dot)) × (holds_token g.terminals e.1 t ≡ true)
      entry_held p dot t h =
          let e = contains_of_map item_of table h.item h.there in
          (e.0, e.1, ap dotted_of e.2 ∙ h.is, subst (λ (i : Dotted Bits). holds_token g.terminals i.lookahead t ≡ true) (sym e.2) h.holds)

      over_listed : {p : Production} {dot : ℕ} {t : Token} → ReachedWith p dot t → InTokenClosureBy (begins g) (passes g) g.productions (InKernel (map item_of table)) (HasItemToken g.terminals kernel) p dot t
      over_listed (own_token k) = own_token k
      over_listed (from_rest q after i behind among f) = from_rest q after (all_listed i) behind among f
      over_listed (from_parent q after c behind among n) = from_parent q after (over_listed c) behind among n

      all_held : {p : Production} {dot : ℕ} {t : Token} → InTokenClosureBy (begins g) (passes g) g.productions (InKernel (map item_of table)) (HasItemToken g.terminals kernel) p dot t → HeldWith p dot t
      all_held {p} {dot} {t} (own_token k) =
          let a = end.all k.item k.there in
          held_entry (a.0, a.2.set) p dot t a.2.entry (a.1 ∙ k.is) (holds_more g.terminals k.item.lookahead a.2.set t a.2.all k.holds)
      all_held (from_rest {p} {dot} {t} q after i behind among f) =
          let e = listed p dot i in
          let h = end.settled e.0 e.1 q after (entry_behind e.0 p dot (Nonterminal q.nonterminal ∷ after) e.2 behind) among in
          held_entry (h.key, h.set) q 0 t h.entry (given_dotted e.0.1 q after h) (h.first t f)
      all_held (from_parent {p} {dot} {t} q after c behind among n) =
          let e = entry_held p dot t (all_held c) in
          let h = end.settled e.0 e.1 q after (entry_behind e.0 p dot (Nonterminal q.nonterminal ∷ after) e.2 behind) among in
          held_entry (h.key, h.set) q 0 t h.entry (given_dotted e.0.1 q after h) (h.through t n e.3)

      pub Tokens-end : (p : Production) (dot : ℕ) (t : Token) → HeldWith p dot t ↔ InTokenClosureBy (begins g) (passes g) g.productions (InKernel (map item_of table)) (HasItemToken g.terminals kernel) p dot t
      Tokens-end p dot t = (
        λ h. let e = entry_held p dot t h in over_listed (subst (λ (d : Production × ℕ). ReachedWith d.0 d.1 t) e.2 (end.tokens e.0 t e.1 e.3)),
        all_held,
      )

-- ---- the symbols after the nonterminal
pub rest_from : (n : ℕ) (xs rest : List Symbol) → rest ≡ drop (n + 1) xs → rest ≡ drop (suc n) xs
rest_from n xs rest e = let s : n + 1 ≡ suc n = omega arith in e ∙ ap (λ k. drop k xs) s
