-- The tokens of symbols, and whether sets share a token.
use Rattle.std.proofs.Common.{◌≡◌, ◌∙◌, ◌⊎◌, inl, inr, ℕ, ◌+◌, ◌<◌, ◌≤◌, ◌↔◌, true, false, List, [], ◌∷◌, ◌++◌, length, refl, sym, ap, subst, arith, IfSome, IsNone}
use Rattle.std.specs.Prelude.{slice_get, Option, Some, None, Contains, IsTrue, is_some}
use Rattle.std.proofs.lemmas.Bool.{cases_lt}
use Rattle.std.proofs.lemmas.List.{length_push}
use Rattle.std.proofs.lemmas.List.Elements.{Contains-append_left, Contains-push_cases, Contains-push}
use Rattle.std.proofs.lemmas.Option.{slice_get_within}
use Rattle.lalrpop_base.specs.Words.{Bits, HoldsBit, has, join, no_bits, with_bit}
use Rattle.lalrpop_follow_sets.proofs.Types.{NonterminalString, Symbol, TerminalString}
use Rattle.lalrpop_grammar.specs.declared.repr.Symbol.TheVariants.{Nonterminal, Terminal}
use Rattle.lalrpop_grammar.proofs.theory.grammars.SymbolLists.{same_terminal}
use Rattle.lalrpop_follow_sets.specs.follow_sets.FollowWalks.{AreTokensOfSymbols, HasTokenOf, HoldsSomeOf, ShareBits}
use Rattle.lalrpop_follow_sets.specs.follow_sets.FollowWalks.ShareBits.{with_first, with_other}
use Rattle.lalrpop_follow_sets.proofs.theory.follow_sets.FollowBits.{held_at, held_before, held_last, held_within, join_bits, no_bit, with_bit_bits}
use Rattle.lalrpop_collections.proofs.theory.lists.Members.{Contains-none}
use Rattle.lalrpop_collections.proofs.theory.lists.Places.{contains_at, push_cases}

-- ---- the token of a symbol
-- the set of a terminal alone has the token of this terminal
pub token_there : (terminals : List TerminalString) (s : Symbol) (t : TerminalString) (bits : Bits) → s ≡ Terminal t → (b : ℕ) → slice_get terminals b ≡ Some t → ((k : ℕ) → slice_get terminals k ≡ Some t → bits ≡ with_bit no_bits k) →
    (bit : ℕ) → IsTrue (has bits bit) ↔ HasTokenOf terminals s bit
token_there terminals s t bits is b at made bit = (
  λ h. elim ((with_bit_bits no_bits b bit).0 (ap (λ (x : Bits). has x bit) (sym (made b at)) ∙ h)) [
    | inl none ↦ absurd (no_bit no_bits bit refl none)
    | inr same ↦ (t, is, ap (slice_get terminals) same ∙ at)
  ],
  λ h.
      let here : slice_get terminals bit ≡ Some t = h.2 ∙ ap Some (same_terminal {t = h.0} {u = t} (sym h.1 ∙ is)) in
      ap (λ (x : Bits). has x bit) (made bit here) ∙ (with_bit_bits no_bits bit bit).1 (inr refl),
)

-- the empty set has the token of a symbol that is no terminal of the list
pub token_none : (terminals : List TerminalString) (s : Symbol) (bits : Bits) → bits ≡ no_bits → ((t : TerminalString) → s ≡ Terminal t → ¬ Contains terminals t) → (bit : ℕ) → IsTrue (has bits bit) ↔ HasTokenOf terminals s bit
token_none terminals s bits empty none bit = (λ h. absurd (no_bit bits bit empty h), λ h. absurd (none h.0 h.1 (contains_at terminals h.0 bit h.2)))

-- a nonterminal is no terminal
pub no_terminal : (s : Symbol) (a : NonterminalString) → s ≡ Nonterminal a → (t : TerminalString) → s ≡ Terminal t → ⊥
no_terminal s a is t e = cc

-- the empty set has the token of a terminal that is not in the list
pub token_absent : (terminals : List TerminalString) (s : Symbol) (t : TerminalString) (bits : Bits) → s ≡ Terminal t → ¬ Contains terminals t → bits ≡ no_bits → (bit : ℕ) → IsTrue (has bits bit) ↔ HasTokenOf terminals s bit
token_absent terminals s t bits is absent empty = token_none terminals s bits empty (λ u e c. absent (subst (Contains terminals) (same_terminal {t = u} {u = t} (sym e ∙ is)) c))

-- if an option is some, its value has the property
pub found_some : (o : Option ℕ) (P : ℕ → Type 0) → IfSome o P → is_some o ≡ true → (b : ℕ) × P b
found_some None P h e = cc
found_some (Some b) P h e = (b, h)

-- if an option is not some, it is none
pub found_none : (o : Option ℕ) → is_some o ≡ false → IsNone o
found_none None e = refl
found_none (Some b) e = cc

-- ---- the tokens of symbols, one more
-- no symbols have no tokens
pub tokens_none : (terminals : List TerminalString) → AreTokensOfSymbols terminals [] []
tokens_none terminals = record { counted = refl; each = λ x bit s at. absurd (Contains-none s (contains_at [] s x at)) }

-- one symbol more has its token
pub tokens_more : (terminals : List TerminalString) (symbols : List Symbol) (tokens : List Bits) (s : Symbol) (bits : Bits) → AreTokensOfSymbols terminals symbols tokens → ((bit : ℕ) → IsTrue (has bits bit) ↔ HasTokenOf terminals s bit) →
    AreTokensOfSymbols terminals (symbols ++ s ∷ []) (tokens ++ bits ∷ [])
tokens_more terminals symbols tokens s bits before told = record {
  counted = length_push tokens bits ∙ ap (λ (n : ℕ). n + 1) before.counted ∙ sym (length_push symbols s);
  each = λ x bit y at. elim (push_cases symbols s x y at) [
    | inl here ↦
        let within : x < length tokens = let l = slice_get_within symbols x y here in let e = before.counted in omega arith in
        let held = held_before tokens bits x bit within in
        let each = before.each x bit y here in
        (λ h. each.0 (held.0 h), λ h. held.1 (each.1 h))
    | inr last ↦
        let end : x ≡ length tokens = last.0 ∙ sym before.counted in
        let held = held_last tokens bits x bit end in
        subst (λ (z : Symbol). HoldsBit (tokens ++ bits ∷ []) x bit ↔ HasTokenOf terminals z bit) last.1
        (λ h. (told bit).0 (held.0 h), λ h. held.1 ((told bit).1 h))
  ];
}

-- ---- the tokens of transitions, one more
-- without transitions no bit is held
pub some_of_none : (tokens : List Bits) (bits : Bits) → bits ≡ no_bits → (bit : ℕ) → IsTrue (has bits bit) ↔ HoldsSomeOf tokens [] bit
some_of_none tokens bits empty bit = (λ h. absurd (no_bit bits bit empty h), λ h. absurd (Contains-none (h.0, h.1) h.2))

-- one transition more adds the token of its symbol
pub some_of_more : (tokens : List Bits) (edges : List (ℕ × ℕ)) (e : ℕ × ℕ) (old bits : Bits) → slice_get tokens e.0 ≡ Some bits → ((bit : ℕ) → IsTrue (has old bit) ↔ HoldsSomeOf tokens edges bit) →
    (bit : ℕ) → IsTrue (has (join old bits) bit) ↔ HoldsSomeOf tokens (edges ++ e ∷ []) bit
some_of_more tokens edges e old bits at before bit = (
  λ h. elim ((join_bits old bits bit).0 h) [
    | inl there ↦ let f = (before bit).0 there in (f.0, f.1, Contains-append_left edges (e ∷ []) (f.0, f.1) f.2, f.3)
    | inr came ↦ (e.0, e.1, Contains-push edges e, (held_at tokens e.0 bit bits at).1 came)
  ],
  λ h. (join_bits old bits bit).1 (elim (Contains-push_cases edges e (h.0, h.1) h.2) [
    | inl c ↦ inl ((before bit).1 (h.0, h.1, c, h.3))
    | inr same ↦ inr ((held_at tokens e.0 bit bits at).0 (subst (λ (x : ℕ). HoldsBit tokens x bit) (sym (ap (λ (f : ℕ × ℕ). f.0) same)) h.3))
  ]),
)

-- ---- sets that share no bit
-- the bit is in the first set, or in one of the others before the place
abbrev pub IsUsed : Bits → List Bits → ℕ → ℕ → Type 0
IsUsed first sets k bit = (has first bit ≡ true) ⊎ ((j : ℕ) × (j < k) × HoldsBit sets j bit)

-- no bit is in two of the sets before the place, and the bits seen are those of all of these sets
pub record ShareNoneBefore (first : Bits) (sets : List Bits) (k : ℕ) (seen : Bits) : Type 0 where
  pub used : (bit : ℕ) → (has seen bit ≡ true) ↔ IsUsed first sets k bit
  pub apart : (j bit : ℕ) → j < k → HoldsBit sets j bit → ¬ IsUsed first sets j bit

module _ (first : Bits) (sets : List Bits) where
  -- before the first place no bit is shared
  pub share_begin : ShareNoneBefore first sets 0 first
  share_begin = record {
    used = λ bit. (λ h. inl h, λ h. elim h [ inl there ↦ there | inr other ↦ absurd (let l = other.1 in omega arith) ]);
    apart = λ j bit l. absurd (omega arith);
  }

  module _ (k : ℕ) (seen bits : Bits) (at : slice_get sets k ≡ Some bits) (before : ShareNoneBefore first sets k seen) where
    -- the set at the place holds its bits
    held : (bit : ℕ) → HoldsBit sets k bit ↔ (has bits bit ≡ true)
    held bit = held_at sets k bit bits at

    -- a bit that was seen is shared
    pub share_found : (bit : ℕ) → has seen bit ≡ true → has bits bit ≡ true → ShareBits first sets
    share_found bit there here = elim ((before.used bit).0 there) [
      | inl f ↦ with_first k bit f ((held bit).1 here)
      | inr other ↦ with_other other.0 k bit other.1 other.2 ((held bit).1 here)
    ]

    -- if no bit that was seen is in the set, one set more shares none
    pub share_more : ((bit : ℕ) → has seen bit ≡ true → has bits bit ≡ true → ⊥) → ShareNoneBefore first sets (k + 1) (join seen bits)
    share_more none = record {
      used = λ bit. (
        λ h. elim ((join_bits seen bits bit).0 h) [
          | inl there ↦ elim ((before.used bit).0 there) [ inl f ↦ inl f | inr other ↦ inr (other.0, (let l = other.1 in omega arith), other.2) ]
          | inr here ↦ inr (k, omega arith, (held bit).1 here)
        ],
        λ h. (join_bits seen bits bit).1 (elim h [
          | inl f ↦ inl ((before.used bit).1 (inl f))
          | inr other ↦ elim (cases_lt other.0 k) [
            | inl l ↦ inl ((before.used bit).1 (inr (other.0, l, other.2)))
            | inr l ↦ let same : other.0 ≡ k = (let m = other.1 in omega arith) in inr ((held bit).0 (subst (λ (j : ℕ). HoldsBit sets j bit) same other.2))
          ]
        ]),
      );
      apart = λ j bit l h. elim (cases_lt j k) [
        | inl less ↦ before.apart j bit less h
        | inr most ↦
            let same : j ≡ k = omega arith in
            λ u. none bit ((before.used bit).1 (subst (λ (i : ℕ). IsUsed first sets i bit) same u)) ((held bit).0 (subst (λ (i : ℕ). HoldsBit sets i bit) same h))
      ];
    }

  -- at the end no bit is shared
  pub share_none : (k : ℕ) (seen : Bits) → length sets ≤ k → ShareNoneBefore first sets k seen → ShareBits first sets → ⊥
  share_none k seen end before (with_first j bit f h) = before.apart j bit (let l = held_within sets j bit h in omega arith) h (inl f)
  share_none k seen end before (with_other i j bit less g h) = before.apart j bit (let l = held_within sets j bit h in omega arith) h (inr (i, less, g))
