-- FIRST sets by their tokens: the contract of a FIRST set determines the set.
use Rattle.std.proofs.Common.{◌≡◌, ℕ, inl, inr, List, length, sym, subst, arith, true}
use Rattle.std.proofs.lemmas.Bool.{cases_lt}
use Rattle.lalrpop_traces.proofs.Types.{Symbol}
use Rattle.lalrpop_base.specs.Words.{Bits, has, same_bits, Rules, IsFirstSet}
use Rattle.lalrpop_states.proofs.theory.states.HeldTokens.{same_test}
use Rattle.lalrpop_grammar.proofs.theory.first.FirstMeaning.{terminal_at}

-- two FIRST sets of one list are the same
pub First-same : (g : Rules) (l : List Symbol) (s t : Bits) → IsFirstSet g l s → IsFirstSet g l t → s ≡ t
First-same g l s t a b = same_bits s t (λ q. same_test (has s q) (has t q) (half s t a b q, half t s b a q))
  where
    half : (s t : Bits) → IsFirstSet g l s → IsFirstSet g l t → (q : ℕ) → has s q ≡ true → has t q ≡ true
    half s t a b q h = elim (cases_lt q (length g.terminals)) [
      | inl less ↦ let u = terminal_at g.terminals q less in (b.begins q u.0 u.1).1 ((a.begins q u.0 u.1).0 h)
      | inr past ↦
          let small = a.fits q h in
          let end : length g.terminals ≡ q = omega arith in
          subst (λ k. has t k ≡ true) end (b.ends.1 (a.ends.0 (subst (λ k. has s k ≡ true) (sym end) h)))
    ]
