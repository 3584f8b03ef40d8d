-- A grammar with a new start symbol: the augmented grammar of Aho, Sethi and Ullman, "Compilers",
-- section 4.7. This layer chooses the name, the action and the span of the new production.
use Rattle.std.specs.Prelude.{◌≡◌, ℕ, zero, suc, ◌<◌, ◌^◌, false, List, [], ◌∷◌, ◌++◌, codes, vec_len, Option, Some, None}
use Rattle.std.specs.BTreeMap.{get, insert_entry}
use Rattle.lalrpop_grammar.specs.grammars.Grammar.{IsOnNoRightSide}
use Rattle.lalrpop_grammar.specs.parsing.Trees.{Tree, Node, beside, no_trees, nodes, IsParseTree}
use Rattle.lalrpop_grammar.specs.grammars.WellFormed.{name_cmp, productions}
use Rattle.lalrpop_grammar.specs.declared.repr.NonterminalString.{NonterminalString}
use Rattle.lalrpop_grammar.specs.declared.repr.TerminalString.{TerminalString}
use Rattle.lalrpop_grammar.specs.declared.repr.Production.{Production}
use Rattle.lalrpop_grammar.specs.declared.repr.Span.{Span}
use Rattle.lalrpop_grammar.specs.declared.repr.Symbol.TheVariants.{Nonterminal}
use Rattle.lalrpop_grammar.specs.declared.repr.grammar.ActionFnDefn.{ActionFnDefn}
use Rattle.lalrpop_grammar.specs.declared.repr.grammar.ActionFnDefnKind.TheVariants.{User}
use Rattle.lalrpop_grammar.specs.declared.repr.grammar.NonterminalData.{NonterminalData}
use Rattle.lalrpop_grammar.specs.declared.repr.grammar.Grammar.{Grammar}
use Rattle.lalrpop_grammar.specs.declared.repr.norm_error.NormError.{NormError}
use Rattle.lalrpop_grammar.specs.declared.repr.norm_error.NormError.TheVariants.{Cycle, TooManyActions, Memory}

-- a name with a number of underscores before it
abbrev pub underscored : ℕ → NonterminalString → NonterminalString
underscored zero a = a
underscored (suc k) a = record { text = codes "_" ++ (underscored k a).text }

-- a name is unused if it has no entry, and is on no right side
abbrev pub IsUnused : Grammar → NonterminalString → Type 0
IsUnused g a = (get name_cmp g.nonterminals a ≡ None) × IsOnNoRightSide (productions g) a

-- the name of a new start symbol is the old one's after two or more underscores, as few as make the
-- name unused
pub record IsNewName (g : Grammar) (start f : NonterminalString) : Type 0 where
  pub more : ℕ
  pub name : f ≡ underscored (suc (suc more)) start
  pub unused : IsUnused g f
  pub first : (fewer : ℕ) → fewer < more → IsUnused g (underscored (suc (suc fewer)) start) → ⊥

-- the span of an entry, and the beginning of the file if there is none
abbrev pub span_of : Option NonterminalData → Span
span_of None = record { 0 = 0; 1 = 0 }
span_of (Some entry) = entry.span

-- the production of a new start symbol, with the next action and the span of the old start symbol's
-- entry
abbrev pub start_production : Grammar → NonterminalString → NonterminalString → Production
start_production g start f = record { nonterminal = f; symbols = Nonterminal start ∷ []; action = record { 0 = vec_len g.action_fn_defns }; span = span_of (get name_cmp g.nonterminals start) }

-- a user's action that cannot fail, with the return type ()
abbrev pub start_action : ActionFnDefn
start_action = record { fallible = false; ret_type = codes "()"; kind = User }

-- the entry with one production, without attributes
pub record IsEntryOf (p : Production) (entry : NonterminalData) : Type 0 where
  pub productions : entry.productions.items ≡ p ∷ []
  pub attributes : entry.attributes.items ≡ []
  pub span : entry.span ≡ p.span

-- h is g with a new start symbol f. It has one more entry and one more action, and nothing else is
-- changed
pub record HasNewStart (g : Grammar) (start : NonterminalString) (h : Grammar) (f : NonterminalString) : Type 0 where
  pub name : IsNewName g start f
  pub entry : NonterminalData
  pub added : IsEntryOf (start_production g start f) entry
  pub entries : h.nonterminals.entries ≡ insert_entry name_cmp g.nonterminals.entries f entry
  pub terminals : h.terminals ≡ g.terminals
  pub action_fn_defns : h.action_fn_defns.items ≡ g.action_fn_defns.items ++ start_action ∷ []
  pub algorithm : h.algorithm ≡ g.algorithm

-- a tree is a node f over one parse tree from the old start symbol, and has one more node
abbrev pub IsAboveParseTree : List Production → NonterminalString → NonterminalString → List TerminalString → Tree → Type 0
IsAboveParseTree g start f w t = (s : Tree) × (t ≡ Node f (beside s no_trees)) × (nodes (beside t no_trees) ≡ suc (nodes (beside s no_trees))) × IsParseTree g start w s

-- a new start symbol is refused if the next action has no number, since numbers are 0 to
-- 4294967295. An allocation may fail at any step
abbrev pub IsRefusedStart : Grammar → NormError → Type 0
IsRefusedStart g (Cycle span name) = ⊥
IsRefusedStart g TooManyActions = 2 ^ 32 < suc (vec_len g.action_fn_defns)
IsRefusedStart g Memory = Unit {0}
