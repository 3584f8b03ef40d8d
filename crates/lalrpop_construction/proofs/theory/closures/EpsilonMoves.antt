-- The items that a closure adds for an item: productions of a nonterminal, with their tokens,
-- without lookahead and with sets of tokens.
use Rattle.std.proofs.Common.{◌≡◌, ◌↔◌, ℕ, ◌+◌, ◌⊎◌, inl, inr, List, length, map, sym, ◌∙◌, subst, arith, true, Some, refl}
use Rattle.std.specs.Prelude.{Contains}
use Rattle.std.proofs.lemmas.Bool.{false≢true}
use Rattle.lalrpop_base.specs.Words.{Bits, has, no_bits, has-no_bits, holds_token, IsFirstSetBefore, IsNullable, Dotted, Rules, rules_of, IsWellFormed, item_at_start}
use Rattle.lalrpop_base.specs.Words.{productions_of, HasKnownTerminals, AreOwn, Begins}
use Rattle.lalrpop_construction.specs.Words.{IsItemAtStart, AreItemsAtStart}
use Rattle.lalrpop_construction.proofs.Types.{Grammar, NonterminalString, Production, Symbol, TerminalString, Token}
use Rattle.lalrpop_grammar.specs.declared.lookahead.token.Token.TheVariants.{Eof, Error, Terminal as TokenOf}
use Rattle.lalrpop_states.proofs.theory.states.HeldTokens.{place_there}
use Rattle.lalrpop_states.specs.states.Items.{dotted_of}
use Rattle.lalrpop_grammar.proofs.theory.grammars.Grammars.{productions_among, productions_named}
use Rattle.lalrpop_states.proofs.theory.grammars.KnownTerminals.{token_bit, held_bit, bit_held, begun_bit}
use Rattle.lalrpop_collections.proofs.theory.lists.Members.{contains_map}
use Rattle.lalrpop_collections.proofs.theory.lists.Places.{same_some}
use Rattle.lalrpop_construction.proofs.theory.construction.Shifting.{begun_in, begun_differ}

-- ---- the productions of a nonterminal
pub Begun-all : {L : Type 0} (g : Grammar) (well : IsWellFormed g) (own : AreOwn g) (name : NonterminalString) (lookahead : L) (items : List (Dotted L)) → items ≡ map (item_at_start lookahead) (productions_of g name) → AreItemsAtStart (rules_of g) name lookahead items
Begun-all {L} g well own name lookahead items e = subst (AreItemsAtStart (rules_of g) name lookahead) (sym e) (record {
  each = λ i c.
      let p = begun_in lookahead (productions_of g name) i c in
      subst (IsItemAtStart (rules_of g) name lookahead) p.2 (record { start = refl; among = productions_among g name p.0 p.1; named = productions_named g well name p.0 p.1; same = refl });
  all = λ p among named.
      contains_map dotted_of (map (item_at_start lookahead) (productions_of g name)) (item_at_start lookahead p) (contains_map (item_at_start lookahead) (productions_of g name) p (subst (λ (a : NonterminalString). Contains (productions_of g a) p) named (own p among)));
  once = begun_differ g name lookahead well;
})

-- ---- the tokens
module _ (g : Rules) (known : (p : Production) → Contains g.productions p → HasKnownTerminals g.terminals p.symbols) (rest : List Symbol) (rest_known : HasKnownTerminals g.terminals rest) (follow given : Bits) (first : IsFirstSetBefore g rest follow given) where
  given_cases : (t : Token) (bit : ℕ) → token_bit g.terminals t ≡ Some bit → (has given bit ≡ true) ↔ (Begins g rest t ⊎ (IsNullable g.productions rest × (has follow bit ≡ true)))
  given_cases Eof bit e =
      let at : length g.terminals ≡ bit = same_some (length g.terminals) bit e in
      let o = first.others bit (omega arith) in
      (λ h. inr (o.0 h), λ h. elim h [ inl none ↦ absurd none | inr k ↦ o.1 k ])
  given_cases Error bit e =
      let at : length g.terminals + 1 ≡ bit = same_some (length g.terminals + 1) bit e in
      let o = first.others bit (omega arith) in
      (λ h. inr (o.0 h), λ h. elim h [ inl none ↦ absurd none | inr k ↦ o.1 k ])
  given_cases (TokenOf t) bit e = first.begins bit t (place_there g.terminals t bit e)

  pub First-holds : (t : Token) → (holds_token g.terminals given t ≡ true) ↔ (Begins g rest t ⊎ (IsNullable g.productions rest × (holds_token g.terminals follow t ≡ true)))
  First-holds t = (
    λ h.
        let b = held_bit g.terminals given t h in
        elim ((given_cases t b.0 b.1).0 b.2) [ inl x ↦ inl x | inr k ↦ inr (k.0, bit_held g.terminals follow t b.0 b.1 k.1) ],
    λ h. elim h [
      | inl x ↦ let b = begun_bit g known rest rest_known t x in bit_held g.terminals given t b.0 b.1 ((given_cases t b.0 b.1).1 (inl x))
      | inr k ↦ let b = held_bit g.terminals follow t k.1 in bit_held g.terminals given t b.0 b.1 ((given_cases t b.0 b.1).1 (inr (k.0, b.2)))
    ],
  )

pub holds_none : (terminals : List TerminalString) (t : Token) → holds_token terminals no_bits t ≡ true → ⊥
holds_none terminals t h = let b = held_bit terminals no_bits t h in false≢true (sym (has-no_bits b.0) ∙ b.2)
