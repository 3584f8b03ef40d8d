-- What is doubtful with a grammar. The definitions of the single doubts are those of `lalrpop_useful`.
use Rattle.std.specs.Prelude.{◌≡◌, Bool, false, not, ◌&&◌, List, [], ◌∷◌, ◌++◌, map, find, Contains, Option, None, Some, is_some, option_map, codes, if◌then◌else◌}
use Rattle.std.specs.List.{flat_map, list_any}
use Rattle.std.specs.Str.{bytes_eq}
use Rattle.std.specs.BTreeSet.{BTreeSet, contains}
use Rattle.lalrpop_grammar.specs.declared.repr.NonterminalString.{NonterminalString}
use Rattle.lalrpop_grammar.specs.declared.repr.Symbol.{Symbol}
use Rattle.lalrpop_grammar.specs.declared.repr.Symbol.TheVariants.{Nonterminal, Terminal}
use Rattle.lalrpop_grammar.specs.declared.repr.Production.{Production}
use Rattle.lalrpop_grammar.specs.declared.repr.Span.{Span}
use Rattle.lalrpop_grammar.specs.declared.repr.grammar.Attribute.{Attribute}
use Rattle.lalrpop_grammar.specs.declared.repr.grammar.NonterminalData.{NonterminalData}
use Rattle.lalrpop_grammar.specs.declared.repr.grammar.Grammar.{Grammar}
use Rattle.lalrpop_grammar.specs.grammars.Marks.{inline_mark}
use Rattle.lalrpop_grammar.specs.grammars.WellFormed.{name_cmp, productions, productions_of}
use Rattle.lalrpop_useful.specs.useful.Cycles.{IsCyclic}
use Rattle.lalrpop_useful.specs.useful.Productive.{IsProductive}
use Rattle.lalrpop_useful.specs.useful.Reachable.{HasProduction, IsOnRightSide, IsReachable}
use Rattle.lalrpop_useful.specs.useful.Repeats.{IsRepeat}
use Rattle.lalrpop_useful.specs.useful.Undefined.{IsFirstUse, IsUndefined}
use Rattle.grammar_text.specs.Lines.{is_empty}
use Rattle.grammar_diagnostics.specs.TextErrors.{option_list}
use Rattle.grammar_diagnostics.specs.declared.warnings.Sets.{Sets}
use Rattle.grammar_diagnostics.specs.declared.warnings.Warning.{Warning as WarningWords}
use Rattle.grammar_diagnostics.specs.declared.warnings.Warning.TheVariants as words

-- a doubt. An undefined nonterminal has its first use. One that is unreachable, unproductive or
-- cyclic has the span of its entry. So has one that is marked without a production, or without a use.
-- A production may repeat the right side of an earlier one. A start symbol may have no production,
-- or be on the right side of one
pub data Doubt : Type 0 where
  Undefined : NonterminalString → Production → Doubt
  Unreachable : NonterminalString → Span → Doubt
  Unproductive : NonterminalString → Span → Doubt
  Cyclic : NonterminalString → Span → Doubt
  NothingToInline : NonterminalString → Span → Doubt
  NeverInlined : NonterminalString → Span → Doubt
  Repeated : Production → Production → Doubt
  NoStart : Doubt
  StartUsed : Production → Doubt

-- a warning, from the type of the code
abbrev pub warning_view : WarningWords → Doubt
warning_view (words.Undefined a p) = Undefined a.now p.now
warning_view (words.Unreachable a span) = Unreachable a.now span
warning_view (words.Unproductive a span) = Unproductive a.now span
warning_view (words.Cyclic a span) = Cyclic a.now span
warning_view (words.NothingToInline a span) = NothingToInline a.now span
warning_view (words.NeverInlined a span) = NeverInlined a.now span
warning_view (words.Repeated later first) = Repeated later.now first.now
warning_view words.NoStart = NoStart
warning_view (words.StartUsed p) = StartUsed p.now

-- a nonterminal has an entry with a span
pub record HasEntryAt (g : Grammar) (a : NonterminalString) (span : Span) : Type 0 where
  pub entry : NonterminalData
  pub there : Contains g.nonterminals.entries (a, entry)
  pub at : entry.span ≡ span

-- a nonterminal has an entry with a span and the mark of those that are to be inlined
pub record IsMarkedAt (g : Grammar) (a : NonterminalString) (span : Span) : Type 0 where
  pub entry : NonterminalData
  pub there : Contains g.nonterminals.entries (a, entry)
  pub marked : Contains entry.attributes.items inline_mark
  pub at : entry.span ≡ span

-- a warning holds of a grammar with a start symbol. If the start symbol has no production, all other
-- nonterminals are unreachable, and no warning says so
abbrev pub IsWarning : Grammar → NonterminalString → Doubt → Type 0
IsWarning g start (Undefined a p) = IsUndefined (productions g) a × IsFirstUse (productions g) a p
IsWarning g start (Unreachable a span) = HasProduction (productions g) start × HasProduction (productions g) a × (IsReachable (productions g) start a → ⊥) × HasEntryAt g a span
IsWarning g start (Unproductive a span) = HasProduction (productions g) a × (IsProductive (productions g) a → ⊥) × HasEntryAt g a span
IsWarning g start (Cyclic a span) = IsCyclic (productions g) a × HasEntryAt g a span
IsWarning g start (NothingToInline a span) = IsMarkedAt g a span × (HasProduction (productions g) a → ⊥)
IsWarning g start (NeverInlined a span) = IsMarkedAt g a span × (IsOnRightSide (productions g) a → ⊥)
IsWarning g start (Repeated later first) = IsRepeat g later first
IsWarning g start NoStart = HasProduction (productions g) start → ⊥
IsWarning g start (StartUsed p) = IsFirstUse (productions g) start p

-- ---- how they are found
-- whether a symbol is a nonterminal
abbrev pub is_nonterminal : NonterminalString → Symbol → Bool
is_nonterminal a (Nonterminal b) = bytes_eq b.text a.text
is_nonterminal a (Terminal t) = false

-- whether a nonterminal is on the right side of a production
abbrev pub has_use : NonterminalString → Production → Bool
has_use a p = list_any (is_nonterminal a) p.symbols

-- whether an attribute is the mark of a nonterminal that is to be inlined
abbrev pub is_inline : Attribute → Bool
is_inline a = bytes_eq a.id (codes "inline")

-- whether an entry has that mark
abbrev pub is_marked : NonterminalData → Bool
is_marked e = list_any is_inline e.attributes.items

-- whether an entry has a production
abbrev pub is_defined : NonterminalData → Bool
is_defined e = not (is_empty e.productions.items)

-- a list with an element, if a test holds
abbrev pub when : {A : Type 0} → Bool → A → List A
when test x = if test then x ∷ [] else []

-- whether a nonterminal is in a set
abbrev pub set_has : BTreeSet NonterminalString → NonterminalString → Bool
set_has set a = contains name_cmp set a

-- the warnings of an entry, by what is known of the nonterminals, and by all productions
abbrev pub entry_warnings : Sets → List Production → NonterminalString × NonterminalData → List Doubt
entry_warnings sets all e =
    when (sets.has_start && (is_defined e.1 && not (set_has sets.reachable e.0))) (Unreachable e.0 e.1.span)
    ++ (when (is_defined e.1 && not (set_has sets.productive e.0)) (Unproductive e.0 e.1.span)
    ++ (when (set_has sets.cyclic e.0) (Cyclic e.0 e.1.span)
    ++ (when (is_marked e.1 && not (is_defined e.1)) (NothingToInline e.0 e.1.span)
    ++ when (is_marked e.1 && not (is_some (find (has_use e.0) all))) (NeverInlined e.0 e.1.span))))

-- the warnings of the start symbol
abbrev pub start_warnings : Grammar → NonterminalString → List Doubt
start_warnings g start = when (is_empty (productions_of g start)) NoStart ++ option_list (option_map StartUsed (find (has_use start) (productions g)))

-- the warning of a use
abbrev pub use_warning : NonterminalString × Production → Doubt
use_warning u = Undefined u.0 u.1

-- the warning of a production with the right side of an earlier one
abbrev pub repeat_warning : Production × Production → Doubt
repeat_warning r = Repeated r.0 r.1

-- all warnings, by what was found
abbrev pub all_warnings : Grammar → NonterminalString → Sets → List (NonterminalString × Production) → List (Production × Production) → List Doubt
all_warnings g start sets uses repeats =
    map use_warning uses ++ (map repeat_warning repeats
    ++ (flat_map (entry_warnings sets (productions g)) g.nonterminals.entries ++ start_warnings g start))

-- ---- where they are
-- the span of a warning: that of the production or the entry that it is about, and that of no byte if
-- there is none
abbrev pub doubt_span : Doubt → Span
doubt_span (Undefined a p) = p.span
doubt_span (Unreachable a span) = span
doubt_span (Unproductive a span) = span
doubt_span (Cyclic a span) = span
doubt_span (NothingToInline a span) = span
doubt_span (NeverInlined a span) = span
doubt_span (Repeated later first) = later.span
doubt_span NoStart = record { 0 = 0; 1 = 0 }
doubt_span (StartUsed p) = p.span

-- ---- the missing name
-- the name without a production of a warning, in the place of which another may be meant: an undefined
-- nonterminal, or the start symbol. There is none for other warnings
abbrev pub missing_name : NonterminalString → Doubt → Option NonterminalString
missing_name start (Undefined a p) = Some a
missing_name start (Unreachable a span) = None
missing_name start (Unproductive a span) = None
missing_name start (Cyclic a span) = None
missing_name start (NothingToInline a span) = None
missing_name start (NeverInlined a span) = None
missing_name start (Repeated later first) = None
missing_name start NoStart = Some start
missing_name start (StartUsed p) = None
