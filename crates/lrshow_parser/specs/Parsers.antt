-- What the program shows if a parser is asked for: a file that parses by the tables of a grammar.
use Rattle.std.specs.Prelude.{◌≡◌, ◌⊎◌, ◌<◌, ◌^◌, ℕ, suc, Bool, false, true, List, [], ◌++◌, length, map, codes, Option, None, Some, vec_len}
use Rattle.std.specs.Fmt.{decimal}
use Rattle.lalrpop_base.specs.Words.{Bits, HasNewStart, IsOnNoRightSide, contents, nonterminal_text, productions}
use Rattle.lalrpop_states.specs.declared.lr1_core.state.State.{State}
use Rattle.lalrpop_grammar.specs.declared.repr.NonterminalString.{NonterminalString}
use Rattle.lalrpop_grammar.specs.declared.repr.grammar.Grammar.{Grammar}
use Rattle.lalrpop_grammar.specs.declared.repr.grammar.NonterminalData.{NonterminalData}
use Rattle.lalrpop_construction.specs.declared.options.Method.{Method}
use Rattle.lalrpop_construction.specs.declared.options.Method.TheVariants.{Canonical, Lane}
use Rattle.lalrpop_tables.specs.Words.{AreTablesOf, IsConflictCount}
use Rattle.lalrpop_grammar.specs.grammars.SameGrammars.{IsSameGrammar}
use Rattle.packed_tables.specs.declared.packed.PackedTables.{PackedTables}
use Rattle.parse_tables.specs.Tables.{IsTableOf}
use Rattle.parse_tables.specs.declared.table.ParseTable.{ParseTable}
use Rattle.parser_text.specs.Arrays.{AreArraysOf}
use Rattle.parser_text.specs.Parsers.{IsCParser, IsPythonParser, IsRustParser}
use Rattle.program_answers.specs.declared.answer.Shown.{Shown}
use Rattle.program_answers.specs.Texts.{most_copies}
use Rattle.lrshow_check.specs.Output.{IsOutput}
use Rattle.lrshow_arguments.specs.Words.{AskedParser, Language, C, Rust, Python}

-- the name of a method
abbrev pub method_name : Method → List ℕ
method_name Canonical = codes "canonical"
method_name Lane = codes "lane"

-- a text is the file in a language with the symbols and productions of a parse table, and with packed
-- arrays of so many states
abbrev pub IsTextIn : Language → ParseTable → PackedTables → ℕ → NonterminalString → Method → (prefix text : List ℕ) → Type 0
IsTextIn C t arrays states start method prefix text = IsCParser t arrays states start.text (method_name method) prefix text
IsTextIn Rust t arrays states start method prefix text = IsRustParser t arrays states start.text (method_name method) text
IsTextIn Python t arrays states start method prefix text = IsPythonParser t arrays states start.text (method_name method) text

-- a text is the file of a parser that is asked for
abbrev pub IsParserText : AskedParser → ParseTable → PackedTables → ℕ → NonterminalString → Method → (text : List ℕ) → Type 0
IsParserText p t arrays states start method text = IsTextIn p.language t arrays states start method p.prefix text

-- a parse table lists the symbols and productions of a grammar
pub record IsListOf (g : Grammar) (t : ParseTable) : Type 0 where
  pub terminals : t.terminals ≡ g.terminals
  pub nonterminals : t.nonterminals ≡ map (λ (e : NonterminalString × NonterminalData). e.0) g.nonterminals.entries
  pub productions : t.productions ≡ productions g

-- a parse table has the actions and gotos of states, and lists the symbols and productions of a grammar
pub record IsTableFor (g : Grammar) (states : List (State Bits)) (t : ParseTable) : Type 0 where
  pub of_states : IsTableOf t (contents g.terminals states)
  pub lists : IsListOf g t

-- arrays are those of the states of a grammar h, by the numbers in the list of a grammar g. They are
-- one grammar, or h is the augmented grammar of g, and its start symbol is hidden
pub record AreArraysFor (g h : Grammar) (hidden : Option NonterminalString) (states : List (State Bits)) (listed : ParseTable) (arrays : PackedTables) : Type 0 where
  pub lists : IsListOf g listed
  pub table : ParseTable
  pub of_states : IsTableFor h states table
  pub packs : AreArraysOf hidden arrays listed table (length states)

-- a text is the file of a grammar g by the states of a grammar h
pub record IsFileOf (p : AskedParser) (method : Method) (g : Grammar) (start : NonterminalString) (h : Grammar) (hidden : Option NonterminalString) (states : List (State Bits)) (text : List ℕ) : Type 0 where
  pub listed : ParseTable
  pub arrays : PackedTables
  pub of_states : AreArraysFor g h hidden states listed arrays
  pub file : IsParserText p listed arrays (length states) start method text

-- the file of states is shown
pub record IsFileShown (p : AskedParser) (method : Method) (g : Grammar) (start : NonterminalString) (h : Grammar) (hidden : Option NonterminalString) (states : List (State Bits)) (s : Shown) : Type 0 where
  pub text : List ℕ
  pub file : IsFileOf p method g start h hidden states text
  pub shown : IsOutput 0 text [] s

-- or a remark on why there is no file, with status 2
pub record IsNoFileRemarked (s : Shown) : Type 0 where
  pub remark : List ℕ
  pub shown : IsOutput 2 [] remark s

-- the file of states is shown, or why there is none
abbrev pub IsFileOrReason : AskedParser → Method → Grammar → NonterminalString → Grammar → Option NonterminalString → List (State Bits) → Shown → Type 0
IsFileOrReason p method g start h hidden states s = IsFileShown p method g start h hidden states s ⊎ IsNoFileRemarked s

-- ---- for a start symbol that is on no right side
-- the start symbol is on no right side, and the file of the tables that the method makes is shown, or
-- why they have none
pub record IsFileOfTables (p : AskedParser) (method : Method) (g : Grammar) (start : NonterminalString) (s : Shown) : Type 0 where
  pub unused : IsOnNoRightSide (productions g) start
  pub states : List (State Bits)
  pub tables : AreTablesOf ⊥ method most_copies g start states
  pub shown : IsFileOrReason p method g start g None states s

-- the remark on so many conflicts
abbrev pub conflicts_remark : NonterminalString → ℕ → List ℕ
conflicts_remark start count = codes "conflicts: " ++ (decimal count ++ (codes "; see `lrshow FILE " ++ (nonterminal_text start ++ codes " conflicts`\n")))

-- the remark if the start symbol is on a right side
abbrev pub right_side_remark : NonterminalString → List ℕ
right_side_remark start = codes "`" ++ (nonterminal_text start ++ codes "` is on a right side; `--augment` makes a new start symbol\n")

-- or, if there are no tables, the number of the canonical conflicts, and what shows them
pub record AreConflictsRemarked (g : Grammar) (start : NonterminalString) (s : Shown) : Type 0 where
  pub count : ℕ
  pub counted : IsConflictCount g start count
  pub shown : IsOutput 1 [] (conflicts_remark start count) s

-- or, if the start symbol is on a right side, that it is
pub record IsRightSideRemarked (g : Grammar) (start : NonterminalString) (s : Shown) : Type 0 where
  pub used : IsOnNoRightSide (productions g) start → ⊥
  pub shown : IsOutput 2 [] (right_side_remark start) s

-- what is shown of a grammar as it is
abbrev pub IsPlainShown : AskedParser → Method → Grammar → NonterminalString → Shown → Type 0
IsPlainShown p method g start s = IsFileOfTables p method g start s ⊎ (AreConflictsRemarked g start s ⊎ IsRightSideRemarked g start s)

-- ---- with a new start symbol
-- h is a copy of g with a new start symbol f
pub record IsAugmentedCopy (g : Grammar) (start : NonterminalString) (h : Grammar) (f : NonterminalString) : Type 0 where
  pub copy : Grammar
  pub same : IsSameGrammar g copy
  pub added : HasNewStart copy start h f

-- the file of the tables that the method makes of the augmented grammar is shown, or why they have none
pub record IsFileOfAugmented (p : AskedParser) (method : Method) (g : Grammar) (start : NonterminalString) (h : Grammar) (f : NonterminalString) (s : Shown) : Type 0 where
  pub states : List (State Bits)
  pub tables : AreTablesOf ⊥ method most_copies h f states
  pub shown : IsFileOrReason p method g start h (Some f) states s

-- the remark on so many conflicts of the augmented grammar
abbrev pub augmented_remark : (start f : NonterminalString) → ℕ → List ℕ
augmented_remark start f count = codes "conflicts: " ++ (decimal count ++ (codes "; add `" ++ (nonterminal_text f ++ (codes " = " ++ (nonterminal_text start
    ++ (codes "`, and see `lrshow FILE " ++ (nonterminal_text f ++ codes " conflicts`\n")))))))

-- or, if there are no tables, the number of the canonical conflicts of the augmented grammar
pub record AreAugmentedRemarked (start : NonterminalString) (h : Grammar) (f : NonterminalString) (s : Shown) : Type 0 where
  pub count : ℕ
  pub counted : IsConflictCount h f count
  pub shown : IsOutput 1 [] (augmented_remark start f count) s

-- what is shown of the augmented grammar
pub record IsOfAugmented (p : AskedParser) (method : Method) (g : Grammar) (start : NonterminalString) (s : Shown) : Type 0 where
  pub h : Grammar
  pub f : NonterminalString
  pub augmented : IsAugmentedCopy g start h f
  pub shown : IsFileOfAugmented p method g start h f s ⊎ AreAugmentedRemarked start h f s

-- or, if the new production would have an action above the greatest number, why there is no file
pub record IsNewStartRefused (g : Grammar) (s : Shown) : Type 0 where
  pub refused : 2 ^ 32 < suc (vec_len g.action_fn_defns)
  pub shown : IsNoFileRemarked s

-- ---- what is asked
-- what is shown if a parser is asked for, with a new start symbol or without one
abbrev pub IsShownBy : Bool → AskedParser → Method → Grammar → NonterminalString → Shown → Type 0
IsShownBy false p method g start s = IsPlainShown p method g start s
IsShownBy true p method g start s = IsOfAugmented p method g start s ⊎ IsNewStartRefused g s

abbrev pub IsParserShown : AskedParser → Method → Grammar → NonterminalString → Shown → Type 0
IsParserShown p method g start s = IsShownBy p.is_augmented p method g start s
