-- The tokens that items hold, as a test and as a proposition. Items are determined by their dotted
-- productions, and sets of tokens by their tokens.
use Rattle.std.proofs.Common.{◌≡◌, ◌↔◌, ℕ, ◌+◌, ◌≤◌, inl, inr, Bool, true, List, [], ◌∷◌, length, map, sym, ◌∙◌, ap, subst, arith, Option, Some, option_map, ◌==◌, ◌&&◌, eqb-true, eq-eqb}
use Rattle.std.specs.Prelude.{Contains, slice_get}
use Rattle.std.specs.List.{list_any}
use Rattle.std.proofs.lemmas.Bool.{or_cases, and_parts, cases_lt}
use Rattle.std.proofs.lemmas.List.Folds.{list_any_at}
use Rattle.std.proofs.lemmas.Option.{slice_get-map}
use Rattle.lalrpop_base.specs.Words.{Bits, has, same_bits, holds_token, Dotted, AllDiffer, FitsTokens, HasItemToken}
use Rattle.lalrpop_construction.specs.Words.{is_with_token}
use Rattle.lalrpop_grammar.specs.contracts.repr.exact.ProductionExact.TheImpl as production_exactly
use Rattle.lalrpop_grammar.specs.contracts.repr.ProductionEq.TheImpl as production_laws
use Rattle.lalrpop_grammar.specs.contracts.repr.ProductionPartialEq.TheImpl as production_eq
use Rattle.lalrpop_construction.proofs.Types.{Production, TerminalString, Token}
use Rattle.lalrpop_grammar.specs.declared.lookahead.token.Token.TheVariants.{Eof, Error, Terminal as TokenOf}
use Rattle.lalrpop_states.proofs.theory.states.HeldTokens.{place_is, same_test}
use Rattle.lalrpop_states.specs.states.Items.{dotted_of}
use Rattle.lalrpop_states.proofs.theory.grammars.KnownTerminals.{token_bit, held_bit, bit_held}
use Rattle.lalrpop_collections.proofs.theory.lists.Members.{contains_head, contains_tail, place}
use Rattle.lalrpop_collections.proofs.theory.lists.Places.{same_some, filled, one_place}

-- ---- a test that passes for one element of a list
pub passes_one : {X : Type 0} (f : X → Bool) (xs : List X) → list_any f xs ≡ true → (x : X) × Contains xs x × (f x ≡ true)
passes_one f [] h = cc
passes_one f (x ∷ xs) h = elim (or_cases (f x) (list_any f xs) h) [
  | inl e ↦ (x, contains_head x xs, e)
  | inr later ↦ let r = passes_one f xs later in (r.0, contains_tail x xs r.0 r.1, r.2)
]

pub one_passes : {X : Type 0} (f : X → Bool) (xs : List X) (x : X) → Contains xs x → f x ≡ true → list_any f xs ≡ true
one_passes f xs x c h = list_any_at f xs c.0 x c.1 (ap f c.2 ∙ h)

-- ---- an item with a token
module _ (terminals : List TerminalString) (items : List (Dotted Bits)) (p : Production) (dot : ℕ) (t : Token) where
  with_token : (i : Dotted Bits) → is_with_token (holds_token terminals) p dot t i ≡ true → (dotted_of i ≡ (p, dot)) × (holds_token terminals i.lookahead t ≡ true)
  with_token i h =
      let both = and_parts (production_eq.ghosts.eq i.production p && (i.index == dot)) (holds_token terminals i.lookahead t) h in
      let parts = and_parts (production_eq.ghosts.eq i.production p) (i.index == dot) both.0 in
      let same : i.production ≡ p = production_exactly.Laws.exact-law i.production p parts.0 in
      (ap (λ (q : Production). (q, i.index)) same ∙ ap (λ (n : ℕ). (p, n)) (eqb-true i.index dot parts.1), both.1)

  is_with : (i : Dotted Bits) → dotted_of i ≡ (p, dot) → holds_token terminals i.lookahead t ≡ true → is_with_token (holds_token terminals) p dot t i ≡ true
  is_with i e h =
      let same : i.production ≡ p = ap (λ (d : Production × ℕ). d.0) e in
      let at : i.index ≡ dot = ap (λ (d : Production × ℕ). d.1) e in
      let first : production_eq.ghosts.eq i.production p ≡ true = ap (λ (q : Production). production_eq.ghosts.eq i.production q) (sym same) ∙ production_laws.Laws.laws-law.refl i.production in
      ap (λ (b : Bool). (b && (i.index == dot)) && holds_token terminals i.lookahead t) first ∙ ap (λ (b : Bool). b && holds_token terminals i.lookahead t) (eq-eqb i.index dot at) ∙ h

  pub test_exact : (list_any (is_with_token (holds_token terminals) p dot t) items ≡ true) ↔ HasItemToken terminals items p dot t
  test_exact = (
    λ h.
        let i = passes_one (is_with_token (holds_token terminals) p dot t) items h in
        let w = with_token i.0 i.2 in
        record { item = i.0; there = i.1; is = w.0; holds = w.1 },
    λ h. one_passes (is_with_token (holds_token terminals) p dot t) items h.item h.there (is_with h.item h.is h.holds),
  )

-- ---- items whose dotted productions differ
pub one_item : (items : List (Dotted Bits)) → AllDiffer (map dotted_of items) → (i j : Dotted Bits) → Contains items i → Contains items j → dotted_of i ≡ dotted_of j → i ≡ j
one_item items differ i j c d e =
    let at_i = place items i c in
    let at_j = place items j d in
    let first = slice_get-map dotted_of items at_i.0 ∙ ap (λ (o : Option (Dotted Bits)). option_map (λ (k : Dotted Bits). dotted_of k) o) at_i.2 in
    let second = slice_get-map dotted_of items at_j.0 ∙ ap (λ (o : Option (Dotted Bits)). option_map (λ (k : Dotted Bits). dotted_of k) o) at_j.2 in
    let same : at_i.0 ≡ at_j.0 = one_place (map dotted_of items) differ at_i.0 at_j.0 (dotted_of i) first (second ∙ ap Some (sym e)) in
    same_some i j (sym at_i.2 ∙ ap (slice_get items) same ∙ at_j.2)

-- ---- sets of tokens with the same tokens
module _ (terminals : List TerminalString) (differ : AllDiffer terminals) where
  -- each bit within the bounds is that of a token
  pub token_with : (bit : ℕ) → bit ≤ length terminals + 1 → (t : Token) × (token_bit terminals t ≡ Some bit)
  token_with bit l = elim (cases_lt bit (length terminals)) [
    | inl within ↦ let t = filled terminals bit within in (TokenOf t.0, place_is terminals differ t.0 bit t.1)
    | inr past ↦ elim (cases_lt (length terminals) bit) [
      | inl more ↦ let e : length terminals + 1 ≡ bit = omega arith in (Error, ap Some e)
      | inr no_more ↦ let e : length terminals ≡ bit = omega arith in (Eof, ap Some e)
    ]
  ]

  more_bits : (s u : Bits) → FitsTokens terminals s → ((t : Token) → holds_token terminals s t ≡ true → holds_token terminals u t ≡ true) → (bit : ℕ) → has s bit ≡ true → has u bit ≡ true
  more_bits s u fits more bit h =
      let t = token_with bit (fits bit h) in
      let b = held_bit terminals u t.0 (more t.0 (bit_held terminals s t.0 bit t.1 h)) in
      subst (λ (n : ℕ). has u n ≡ true) (same_some b.0 bit (sym b.1 ∙ t.1)) b.2

  pub same_tokens : (s u : Bits) → FitsTokens terminals s → FitsTokens terminals u → ((t : Token) → (holds_token terminals s t ≡ true) ↔ (holds_token terminals u t ≡ true)) → s ≡ u
  same_tokens s u fits_s fits_u same = same_bits s u (λ bit. same_test (has s bit) (has u bit) (more_bits s u fits_s (λ t. (same t).0) bit, more_bits u s fits_u (λ t. (same t).1) bit))
