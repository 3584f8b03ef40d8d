-- FIRST of a list of symbols, as a set of tokens.
use Rattle.std.specs.Prelude.{◌≡◌, ◌+◌, ◌≤◌, ◌⊎◌, ℕ, Bool, true, false, ◌↔◌, List, [], ◌∷◌, length, slice_get, slice_index_or, Some}
use Rattle.std.specs.Map.{keys_of}
use Rattle.lalrpop_grammar.specs.declared.repr.NonterminalString.{NonterminalString}
use Rattle.lalrpop_grammar.specs.declared.repr.TerminalString.{TerminalString}
use Rattle.lalrpop_grammar.specs.declared.repr.Symbol.{Symbol}
use Rattle.lalrpop_grammar.specs.declared.repr.Symbol.TheVariants.{Nonterminal}
use Rattle.lalrpop_grammar.specs.declared.repr.grammar.Grammar.{Grammar}
use Rattle.lalrpop_collections.specs.lists.Bits.{Bits, has}
use Rattle.lalrpop_collections.specs.lists.Spreading.{set_at}
use Rattle.lalrpop_grammar.specs.grammars.Grammar.{IsFirst, IsNullable}
use Rattle.lalrpop_grammar.specs.grammars.WellFormed.{Rules, rules_of}
use Rattle.lalrpop_grammar.specs.first.FirstNumbers.{place}

-- the set has the terminals that are in FIRST of the symbols, Eof exactly if the symbols are
-- nullable, and nothing else (Aho, Sethi, Ullman, section 4.4)
pub record IsFirstSet (g : Rules) (symbols : List Symbol) (set : Bits) : Type 0 where
  pub begins : (bit : ℕ) (t : TerminalString) → slice_get g.terminals bit ≡ Some t → (has set bit ≡ true) ↔ IsFirst g.productions symbols t
  pub ends : (has set (length g.terminals) ≡ true) ↔ IsNullable g.productions symbols
  pub fits : (bit : ℕ) → has set bit ≡ true → bit ≤ length g.terminals

-- the set has the terminals that are in FIRST of the symbols and, exactly if the symbols are
-- nullable, all tokens of `follow`. Eof and Error can come from `follow` only
pub record IsFirstSetBefore (g : Rules) (symbols : List Symbol) (follow set : Bits) : Type 0 where
  pub begins : (bit : ℕ) (t : TerminalString) → slice_get g.terminals bit ≡ Some t → (has set bit ≡ true) ↔ (IsFirst g.productions symbols t ⊎ (IsNullable g.productions symbols × (has follow bit ≡ true)))
  pub others : (bit : ℕ) → length g.terminals ≤ bit → (has set bit ≡ true) ↔ (IsNullable g.productions symbols × (has follow bit ≡ true))

-- a bit is in FIRST of the symbols if it is that of a terminal in FIRST
abbrev pub IsFirstBit : Rules → List Symbol → ℕ → Type 0
IsFirstBit g symbols bit = (t : TerminalString) × (slice_get g.terminals bit ≡ Some t) × IsFirst g.productions symbols t

-- the set has the terminals in FIRST of the name, and the flag says whether the name is nullable
pub record IsFirstOfName (g : Rules) (a : NonterminalString) (nullable : Bool) (set : Bits) : Type 0 where
  pub begins : (bit : ℕ) → (has set bit ≡ true) ↔ IsFirstBit g (Nonterminal a ∷ []) bit
  pub told : (nullable ≡ true) ↔ IsNullable g.productions (Nonterminal a ∷ [])

-- sets and flags are those of the names, by their numbers. All names without an entry share the
-- last ones
pub record HoldFirstSets (g : Grammar) (names : List NonterminalString) (sets : List Bits) (nullable : List Bool) : Type 0 where
  pub named : names ≡ keys_of g.nonterminals.entries
  pub counted : length sets ≡ length names + 1
  pub flagged : length nullable ≡ length names + 1
  pub first : (a : NonterminalString) → IsFirstOfName (rules_of g) a (slice_index_or nullable (place names a) false) (set_at sets (place names a))

-- the terminals in FIRST of a name are joined to a set
pub record IsFirstJoined (g : Rules) (a : NonterminalString) (nullable : Bool) (old new : Bits) : Type 0 where
  pub members : (bit : ℕ) → (has new bit ≡ true) ↔ ((has old bit ≡ true) ⊎ IsFirstBit g (Nonterminal a ∷ []) bit)
  pub told : (nullable ≡ true) ↔ IsNullable g.productions (Nonterminal a ∷ [])
