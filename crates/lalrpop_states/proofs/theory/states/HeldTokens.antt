-- Whether a set holds a token, as a test and as a proposition.
use Rattle.std.proofs.Common.{◌≡◌, ◌↔◌, ℕ, ◌+◌, ◌<◌, Bool, true, false, cond, List, length, get_or, Option, Some, None, refl, sym, ap, subst, ◌∙◌, arith}
use Rattle.std.specs.Prelude.{slice_get, nat_lt}
use Rattle.std.proofs.lemmas.Option.{slice_get_read, slice_get_within, get_or_from_slice_get}
use Rattle.std.proofs.lemmas.List.Quantifiers.{position-Some}
use Rattle.std.proofs.lemmas.List.Sums.{position_or_len_is}
use Rattle.std.specs.List.{position_or_len}
use Rattle.std.proofs.lemmas.Bool.{lt-ltb}
use Rattle.lalrpop_collections.specs.Words.{Bits, has, AllDiffer}
use Rattle.lalrpop_grammar.specs.Words.{place_in, HasToken}
use Rattle.lalrpop_states.specs.Words.{has_at, holds_token}
use Rattle.lalrpop_grammar.specs.contracts.repr.TerminalStringPartialEq.TheImpl as terminal_eq
use Rattle.lalrpop_grammar.specs.contracts.repr.TerminalStringEq.TheImpl as terminal_laws
use Rattle.lalrpop_grammar.specs.contracts.repr.exact.TerminalStringExact.TheImpl as terminal_exact
use Rattle.lalrpop_states.proofs.Types.{TerminalString, Token}
use Rattle.lalrpop_grammar.specs.declared.lookahead.token.Token.TheVariants.{Eof, Error, Terminal}

module _ (terminals : List TerminalString) where
  -- the terminal is at its place in the list
  pub place_there : (t : TerminalString) (k : ℕ) → place_in terminals t ≡ Some k → slice_get terminals k ≡ Some t
  place_there t k e =
      let (within, same, before) = position-Some (λ x. terminal_eq.ghosts.eq x t) terminals k t e in
      slice_get_read terminals (length terminals) k t refl within (sym (terminal_exact.Laws.exact-law (get_or terminals k t) t same))

  differs : AllDiffer terminals → (t : TerminalString) (k j : ℕ) → slice_get terminals k ≡ Some t → j < k → (b : Bool) → terminal_eq.ghosts.eq (get_or terminals j t) t ≡ b → b ≡ false
  differs differ t k j e less false h = refl
  differs differ t k j e less true h =
      let within : k < length terminals = slice_get_within terminals k t e in
      absurd (differ j k t less (slice_get_read terminals (length terminals) j t refl (omega arith) (sym (terminal_exact.Laws.exact-law (get_or terminals j t) t h))) e)

  -- if no two terminals are equal, an index of a terminal is its place
  pub place_is : AllDiffer terminals → (t : TerminalString) (k : ℕ) → slice_get terminals k ≡ Some t → place_in terminals t ≡ Some k
  place_is differ t k e =
      let within : k < length terminals = slice_get_within terminals k t e in
      let first : position_or_len (λ x. terminal_eq.ghosts.eq x t) terminals ≡ k =
      position_or_len_is (λ x. terminal_eq.ghosts.eq x t) terminals k t (omega arith)
      (λ j less. differs differ t k j e less (terminal_eq.ghosts.eq (get_or terminals j t) t) refl)
      (λ _. ap (λ x. terminal_eq.ghosts.eq x t) (get_or_from_slice_get terminals k t t e) ∙ terminal_laws.Laws.laws-law.refl t) in
      ap (λ i. cond (nat_lt i (length terminals)) (Some i) None) first ∙ ap (λ b. cond b (Some k) None) (lt-ltb k (length terminals) within)

  held : (set : Bits) (t : TerminalString) (o : Option ℕ) → place_in terminals t ≡ o → has_at set o ≡ true → HasToken terminals set (Terminal t)
  held set t None e h = cc
  held set t (Some bit) e h = (bit, place_there t bit e, h)

  -- the test says that the set holds the token exactly if the set has it
  pub holds_has : AllDiffer terminals → (set : Bits) (token : Token) → (holds_token terminals set token ≡ true) ↔ HasToken terminals set token
  holds_has differ set Eof = (λ h. (length terminals, refl, h), λ (bit, e, h). subst (λ b. has set b ≡ true) e h)
  holds_has differ set Error = (λ h. (length terminals + 1, refl, h), λ (bit, e, h). subst (λ b. has set b ≡ true) e h)
  holds_has differ set (Terminal t) = (
    held set t (place_in terminals t) refl,
    λ (bit, e, h). subst (λ o. has_at set o ≡ true) (sym (place_is differ t bit e)) h,
  )

-- two tests are the same if one is true exactly if the other is
pub same_test : (a b : Bool) → (a ≡ true) ↔ (b ≡ true) → a ≡ b
same_test true true h = refl
same_test true false h = sym (h.0 refl)
same_test false true h = h.1 refl
same_test false false h = refl
