-- A grammar whose marked nonterminals are inlined.
use Rattle.std.specs.Prelude.{◌↔◌, List}
use Rattle.lalrpop_base.specs.Words.{IsSentence, IsWellFormed, productions}
use Rattle.lalrpop_grammar.specs.declared.repr.NonterminalString.{NonterminalString}
use Rattle.lalrpop_grammar.specs.declared.repr.TerminalString.{TerminalString}
use Rattle.lalrpop_grammar.specs.declared.repr.grammar.Grammar.{Grammar}
use Rattle.lalrpop_inline.specs.Words.{IsMarked, Mentions, IsInlined}

-- `h` is `g` with its marked nonterminals inlined: no production mentions one, and each nonterminal
-- derives the lists of terminals that it derives in `g`
pub record IsInlining (g h : Grammar) : Type 0 where
  pub inlined : IsInlined g h
  pub well_formed : IsWellFormed h
  pub unmentioned : (a c : NonterminalString) → IsMarked g c → Mentions h a c → ⊥
  pub terminal_lists : (a : NonterminalString) (w : List TerminalString) → IsSentence (productions g) a w ↔ IsSentence (productions h) a w

-- something is shown of a grammar after its marked nonterminals are inlined
pub record IsShownInlined (IsShown : Grammar → Type 0) (g : Grammar) : Type 0 where
  pub inlined : Grammar
  pub inlining : IsInlining g inlined
  pub shown : IsShown inlined
