-- Items: productions with a dot and a lookahead.
use Rattle.std.specs.Prelude.{◌≡◌, ℕ, Bool, true, ◌==◌, ◌&&◌, List, map}
use Rattle.std.proofs.Common.{ap, ◌∙◌, eqb-true}
use Rattle.lalrpop_collections.specs.lists.Exact.{Exactly, both}
use Rattle.lalrpop_states.specs.declared.lookahead.nil.Nil.{Nil}
use Rattle.lalrpop_grammar.specs.declared.repr.Production.{Production}

-- an item: a production, the number of its symbols before the dot, and a lookahead
pub record Dotted (L : Type 0) : Type 0 where
  pub production : Production
  pub index : ℕ
  pub lookahead : L

-- the dotted production of an item: its production and the index of its dot
abbrev pub dotted_of : {L : Type 0} → Dotted L → Production × ℕ
dotted_of {L} i = (i.production, i.index)

-- the dotted productions of items, in order
abbrev pub dots : {L : Type 0} → List (Dotted L) → List (Production × ℕ)
dots {L} items = map dotted_of items

-- the production with the dot at an index, as an item without lookahead
abbrev pub with_dot : Production → ℕ → Dotted Nil
with_dot p dot = record { production = p; index = dot; lookahead = record {} }

-- items with equal parts are the same
pub dotted_exact : {L : Type 0} (E : Production → Production → Bool) (F : L → L → Bool) → Exactly E → Exactly F →
    (a b : Dotted L) → (E a.production b.production && ((a.index == b.index) && F a.lookahead b.lookahead)) ≡ true → a ≡ b
dotted_exact {L} E F e f a b h =
    let make : Production → ℕ → L → Dotted L = λ p i l. record { production = p; index = i; lookahead = l } in
    let first = both (E a.production b.production) ((a.index == b.index) && F a.lookahead b.lookahead) h in
    let second = both (a.index == b.index) (F a.lookahead b.lookahead) first.1 in
    ap (λ p. make p a.index a.lookahead) (e _ _ first.0)
    ∙ ap (λ i. make b.production i a.lookahead) (eqb-true _ _ second.0)
    ∙ ap (λ l. make b.production b.index l) (f _ _ second.1)
