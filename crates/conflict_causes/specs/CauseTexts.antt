-- The text of the causes of conflicts: a line with their numbers, and a paragraph for each cause.
use Rattle.std.specs.Prelude.{◌≡◌, ◌==◌, ℕ, ◌+◌, List, [], ◌++◌, cond, codes, length, map, take, drop, slice_get, slice_index, Some}
use Rattle.std.specs.BTreeSet.{BTreeSet}
use Rattle.std.specs.Fmt.{decimal}
use Rattle.std.specs.List.{flat_map}
use Rattle.lalrpop_ambiguity.specs.declared.search.Search.{Search}
use Rattle.lalrpop_ambiguity.specs.declared.search.Search.TheVariants.{Found, Exhausted, Cut}
use Rattle.lalrpop_ambiguity.specs.declared.witness.Ambiguity.{Ambiguity}
use Rattle.lalrpop_ambiguity.specs.derivations.Derivations.{root}
use Rattle.lalrpop_ambiguity.specs.derivations.MarkedTexts.{marked_text}
use Rattle.lalrpop_ambiguity.specs.derivations.Represented.{tree_of}
use Rattle.lalrpop_ambiguity.specs.witnesses.Searches.{AreCommonMoves, IfFound}
use Rattle.lalrpop_ambiguity.specs.witnesses.Witnesses.{IsWitness}
use Rattle.lalrpop_collections.specs.lists.Bits.{Bits, rising}
use Rattle.lalrpop_grammar.specs.declared.lookahead.token.Token.{Token}
use Rattle.lalrpop_grammar.specs.declared.repr.grammar.Grammar.{Grammar}
use Rattle.lalrpop_grammar.specs.declared.repr.Production.{Production}
use Rattle.lalrpop_grammar.specs.declared.repr.TerminalString.{TerminalString}
use Rattle.lalrpop_grammar.specs.grammars.Names.{nonterminal_text, symbol_text, symbols_text, token_text}
use Rattle.lalrpop_grammar.specs.grammars.Tokens.{token_of}
use Rattle.lalrpop_grammar.specs.grammars.WellFormed.{productions, rules_of}
use Rattle.lalrpop_states.specs.declared.lookahead.nil.Nil.{Nil}
use Rattle.lalrpop_states.specs.declared.lr1_core.state.Action.{Action}
use Rattle.lalrpop_states.specs.declared.lr1_core.state.Action.TheVariants.{Shift, Reduce}
use Rattle.lalrpop_states.specs.declared.lr1_core.state.Conflict.{Conflict}
use Rattle.lalrpop_states.specs.declared.lr1_core.state.State.{State}
use Rattle.lalrpop_states.specs.states.Items.{Dotted}
use Rattle.conflict_causes.specs.Causes.{AreCauses}
use Rattle.conflict_causes.specs.ExampleTexts.{IsAfterSearch}
use Rattle.conflict_causes.specs.Extents.{AreCauseStates, AreCauseTokens}
use Rattle.conflict_causes.specs.Keys.{AreItemsOfAction}

-- ---- the lines
-- the end of a noun after a number
abbrev pub plural : ℕ → List ℕ
plural n = cond (n == 1) [] (codes "s")

-- the numbers of conflicts and of causes
abbrev pub summary_line : ℕ → ℕ → List ℕ
summary_line conflicts causes = decimal conflicts ++ (codes " conflict" ++ (plural conflicts ++ (codes " of " ++ (decimal causes ++ (codes " cause" ++ (plural causes ++ codes "\n"))))))

-- the kind of a conflict whose other action is given
abbrev pub kind_of : Action → List ℕ
kind_of (Shift t target) = codes "shift/reduce"
kind_of (Reduce p) = codes "reduce/reduce"

-- tokens, each after a space
abbrev pub cause_tokens : List Token → List ℕ
cause_tokens tokens = flat_map (λ t. codes " " ++ token_text t) tokens

-- the numbers of states, each after a space
abbrev pub cause_numbers : List ℕ → List ℕ
cause_numbers numbers = flat_map (λ n. codes " " ++ decimal n) numbers

-- the heading of a cause: its number, its kind, its tokens and its states
abbrev pub heading : ℕ → Action → List TerminalString → Bits → List ℕ → List ℕ
heading number action terminals tokens states =
    codes "cause " ++ (decimal number ++ (codes ": " ++ (kind_of action ++ (codes " on" ++ (cause_tokens (map (token_of terminals) (rising tokens)) ++ (codes " in state" ++ (plural (length states) ++ (cause_numbers states ++ codes "\n"))))))))

-- an item, with a mark in the place of its dot
abbrev pub item_text : Dotted Nil → List ℕ
item_text item = nonterminal_text item.production.nonterminal ++ (codes " =" ++ (symbols_text (take item.index item.production.symbols) ++ (codes " (*)" ++ symbols_text (drop item.index item.production.symbols))))

-- a production
abbrev pub rule_text : Production → List ℕ
rule_text p = nonterminal_text p.nonterminal ++ (codes " =" ++ symbols_text p.symbols)

-- the line of an item that shifts
abbrev pub shifting_line : Dotted Nil → List ℕ
shifting_line item = codes "  shift by   " ++ (item_text item ++ codes "\n")

-- the line of a reduction
abbrev pub reduce_line : Production → List ℕ
reduce_line p = codes "  reduce     " ++ (rule_text p ++ codes "\n")

-- the lines of the other action: one for each item that shifts, or that of the other reduction
abbrev pub other_lines : Action → List (Dotted Nil) → List ℕ
other_lines (Shift t target) items = flat_map shifting_line items
other_lines (Reduce p) items = reduce_line p.now

-- two derivations, one under the other, each with a mark after so many moves. The first takes the
-- other action of the conflict
abbrev pub found_text : ℕ → Ambiguity → List ℕ
found_text moves found = codes "  two derivations of " ++ (symbol_text (root (tree_of found.left)) ++ (codes ":\n    " ++ (marked_text moves (tree_of found.right) ++ (codes "\n    " ++ (marked_text moves (tree_of found.left) ++ codes "\n")))))

-- the result of a search of so many steps. Two derivations have a mark after so many moves
abbrev pub search_text : ℕ → ℕ → Search → List ℕ
search_text steps moves (Found found) = found_text moves found
search_text steps moves Exhausted = codes "  no input with two derivations was found: the search was exhausted\n"
search_text steps moves Cut = codes "  no input with two derivations was found: the search was cut at " ++ (decimal steps ++ codes " steps or its memory limit\n")

-- ---- the paragraphs
-- a grammar, its states and their conflicts, and the bound of a search
module _ (g : Grammar) (states : List (State Bits)) (conflicts : List (Conflict Bits)) (steps : ℕ) where
  -- the text is the paragraph of a cause with a number. Two derivations that it shows are a witness,
  -- and have a mark after the moves that they have in common. If it has none, it has examples
  pub record IsCauseText (number : ℕ) (cause : List ℕ) (text : List ℕ) : Type 0 where
    pub first : Conflict Bits
    pub is_first : slice_get conflicts (slice_index cause 0) ≡ Some first
    pub tokens : Bits
    pub are_tokens : AreCauseTokens conflicts cause tokens
    pub numbers : BTreeSet ℕ
    pub are_states : AreCauseStates conflicts cause numbers.keys
    pub items : BTreeSet (Dotted Nil)
    pub are_items : AreItemsOfAction states first.state first.action items
    pub search : Search
    pub is_witness : IfFound (λ found. IsWitness (productions g) (tree_of found.left) (tree_of found.right)) search
    pub moves : ℕ
    pub are_moves : AreCommonMoves moves search
    pub examples : List ℕ
    pub are_examples : IsAfterSearch (rules_of g) states first search examples
    pub is_text : text ≡ heading number first.action g.terminals tokens numbers.keys ++ (other_lines first.action items.keys ++ (reduce_line first.production.now ++ (search_text steps moves search ++ examples)))

  -- a text grew by the paragraph of a cause
  pub record AppendsCause (number : ℕ) (cause : List ℕ) (old new : List ℕ) : Type 0 where
    pub paragraph : List ℕ
    pub is_paragraph : IsCauseText number cause paragraph
    pub grown : new ≡ old ++ paragraph

  -- the paragraphs are those of the first causes, which are numbered from 1
  pub record AreParagraphs (causes : List (List ℕ)) (count : ℕ) (paragraphs : List (List ℕ)) : Type 0 where
    pub many : length paragraphs ≡ count
    pub each : (n : ℕ) (cause text : List ℕ) → slice_get causes n ≡ Some cause → slice_get paragraphs n ≡ Some text → IsCauseText (n + 1) cause text

  -- a text grew by the paragraphs of the first causes
  pub record AppendsFirst (causes : List (List ℕ)) (count : ℕ) (old new : List ℕ) : Type 0 where
    pub paragraphs : List (List ℕ)
    pub are_paragraphs : AreParagraphs causes count paragraphs
    pub grown : new ≡ old ++ flat_map (λ paragraph. paragraph) paragraphs

  -- a text grew by the paragraphs of all causes
  abbrev pub AppendsCauses : List (List ℕ) → List ℕ → List ℕ → Type 0
  AppendsCauses causes old new = AppendsFirst causes (length causes) old new

  -- the text has the numbers of conflicts and of causes, and the paragraph of each cause
  pub record IsConflictsText (text : List ℕ) : Type 0 where
    pub causes : List (List ℕ)
    pub are_causes : AreCauses states conflicts causes
    pub shown : AppendsCauses causes (summary_line (length conflicts) (length causes)) text
