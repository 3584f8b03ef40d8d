-- A grammar with its marked nonterminals inlined, and the reasons why there may be none.
use Rattle.std.specs.Prelude.{◌≡◌, ◌<◌, ◌^◌, ◌||◌, List, length, slice_get, Some, Contains}
use Rattle.std.specs.List.{list_any}
use Rattle.lalrpop_grammar.specs.declared.repr.ActionFn.{ActionFn}
use Rattle.lalrpop_grammar.specs.declared.repr.Symbol.{Symbol}
use Rattle.lalrpop_grammar.specs.declared.repr.Production.{Production}
use Rattle.lalrpop_grammar.specs.declared.repr.inlined.InlinedSymbol.{InlinedSymbol}
use Rattle.lalrpop_grammar.specs.declared.repr.inlined.InlinedSymbol.TheVariants.{Inlined}
use Rattle.lalrpop_grammar.specs.declared.repr.grammar.ActionFnDefn.{ActionFnDefn}
use Rattle.lalrpop_grammar.specs.declared.repr.grammar.ActionFnDefnKind.TheVariants.{Inline}
use Rattle.lalrpop_inline.specs.inlining.InlineChoices.{laid_out}
use Rattle.lalrpop_grammar.specs.declared.repr.NonterminalString.{NonterminalString}
use Rattle.lalrpop_grammar.specs.declared.repr.grammar.Grammar.{Grammar}
use Rattle.lalrpop_grammar.specs.declared.repr.norm_error.NormError.{NormError}
use Rattle.lalrpop_grammar.specs.declared.repr.norm_error.NormError.TheVariants.{Cycle, TooManyActions, Memory}
use Rattle.lalrpop_inline.specs.inlining.InlineOrder.{IsInlineOrder, IsCycleOf}
use Rattle.lalrpop_inline.specs.inlining.InlineSteps.{is_fallible, is_fallible_part, view_of, inlined_by}

-- the marked nonterminals were inlined one after another, each after the marked ones that it
-- mentions
pub record IsInlined (g h : Grammar) : Type 0 where
  pub order : List NonterminalString
  pub in_order : IsInlineOrder g order
  pub view : view_of h ≡ inlined_by order (view_of g)
  pub terminals : h.terminals ≡ g.terminals
  pub algorithm : h.algorithm ≡ g.algorithm

-- the right side of the production is the parts in the definition of its action, laid out. The
-- definition can fail if the outer action or that of an inlined part can. These actions have
-- smaller numbers
pub record IsLaidOut (defns : List ActionFnDefn) (p : Production) : Type 0 where
  pub outer : ActionFn
  pub parts : List InlinedSymbol
  pub defn : ActionFnDefn
  pub defined : slice_get defns p.action.0 ≡ Some defn
  pub kind : defn.kind ≡ Inline (record { action = outer; symbols = parts })
  pub symbols : p.symbols ≡ laid_out parts
  pub outer_before : outer.0 < p.action.0
  pub parts_before : (a : ActionFn) (s : List Symbol) → Contains parts (Inlined a s) → a.0 < p.action.0
  pub fallible : defn.fallible ≡ (is_fallible defns outer || list_any (is_fallible_part defns) parts)

-- with the marked nonterminals inlined there would be more actions than numbers for them, 0 to
-- 4294967295
pub record HasTooMany (g : Grammar) : Type 0 where
  pub order : List NonterminalString
  pub in_order : IsInlineOrder g order
  pub past : 2 ^ 32 < length (inlined_by order (view_of g)).defns

-- the error names a nonterminal on a ring, or there are too many actions; nothing is said of an
-- allocation failure
abbrev pub IsRefusalOf : Grammar → NormError → Type 0
IsRefusalOf g (Cycle span name) = IsCycleOf g (Cycle span name)
IsRefusalOf g TooManyActions = HasTooMany g
IsRefusalOf g Memory = Unit {0}
