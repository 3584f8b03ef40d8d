-- The lines of a report, as texts: lists of bytes.
use Rattle.std.specs.Prelude.{◌≡◌, ℕ, ◌-◌, List, [], ◌∷◌, ◌++◌, length, map, max, codes, replicate, slice_get, Some}
use Rattle.std.specs.Fmt.{char_count, decimal}
use Rattle.std.specs.List.{flat_map}
use Rattle.std.specs.Borrow.{Bor}
use Rattle.lalrpop_base.specs.Words.{Bits, rising, Dotted, nonterminal_text, production_text, symbols_text, terminal_text, token_text, token_of, prefix_of, rest_of}
use Rattle.lalrpop_grammar.specs.declared.repr.NonterminalString.{NonterminalString}
use Rattle.lalrpop_grammar.specs.declared.repr.TerminalString.{TerminalString}
use Rattle.lalrpop_grammar.specs.declared.repr.Production.{Production}
use Rattle.lalrpop_grammar.specs.declared.lookahead.token.Token.{Token}
use Rattle.lalrpop_states.specs.declared.lr1_core.state.StateIndex.{StateIndex}

-- a text padded with spaces on its right to a number of characters; a longer text is not cut
abbrev pub filled : ℕ → List ℕ → List ℕ
filled width text = text ++ replicate (width - char_count text) 32

-- the length in bytes of the longest text, 0 if there is none
abbrev pub longest : List (List ℕ) → ℕ
longest [] = 0
longest (text ∷ texts) = max (length text) (longest texts)

-- the line of a production
abbrev pub production_line : Production → List ℕ
production_line p = production_text p ++ codes "\n"

-- the tokens of a set, by rising bit
abbrev pub tokens_in : List TerminalString → Bits → List Token
tokens_in terminals set = map (token_of terminals) (rising set)

-- tokens, each after a space
abbrev pub tokens_text : List Token → List ℕ
tokens_text tokens = flat_map (λ t. codes " " ++ token_text t) tokens

-- the line of the tokens of a lookahead; without tokens there is no line
abbrev pub tokens_line : List Token → List ℕ
tokens_line [] = []
tokens_line (t ∷ tokens) = codes "        lookahead" ++ (tokens_text (t ∷ tokens) ++ codes "\n")

-- the line of a shift, with the terminal padded to a width
abbrev pub shift_line : ℕ → TerminalString × StateIndex → List ℕ
shift_line width (t, target) = codes "    " ++ (filled width (terminal_text t) ++ (codes " shift and goto " ++ (decimal target.0 ++ codes "\n")))

-- the line of a goto, with the nonterminal padded to a width
abbrev pub goto_line : ℕ → NonterminalString × StateIndex → List ℕ
goto_line width (name, target) = codes "    " ++ (filled width (nonterminal_text name) ++ (codes " goto " ++ (decimal target.0 ++ codes "\n")))

-- the parameter says which bits a lookahead means, so that the definitions serve each kind of
-- lookahead
module _ {L : Type 0} (meaning : L → Bits) (terminals : List TerminalString) where
  -- the line of a lookahead
  abbrev pub lookahead_line : L → List ℕ
  lookahead_line lookahead = tokens_line (tokens_in terminals (meaning lookahead))

  -- each entry has a lookahead and its line
  abbrev pub AreLines : List (L × List ℕ) → Type 0
  AreLines entries = (n : ℕ) (e : L × List ℕ) → slice_get entries n ≡ Some e → e.1 ≡ lookahead_line e.0

  -- an empty line and the lines of an item: its nonterminal padded to a width, the symbols before
  -- its dot, the dot, the symbols after it, and its lookahead
  abbrev pub item_lines : ℕ → Dotted L → List ℕ
  item_lines width item = codes "\n    " ++ (filled width (nonterminal_text item.production.nonterminal) ++ (codes " ->" ++ (symbols_text (prefix_of item) ++ (codes " ." ++ (symbols_text (rest_of item) ++ (codes "\n" ++ lookahead_line item.lookahead))))))

  -- an empty line and the lines of a reduction
  abbrev pub reduction_lines : L × Bor Production → List ℕ
  reduction_lines reduction = codes "\n    reduction " ++ (production_line reduction.1.now ++ lookahead_line reduction.0)
