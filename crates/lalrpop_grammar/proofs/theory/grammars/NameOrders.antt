-- Names, terminals and symbols that tie in their orders are equal.
use Rattle.std.specs.declared.cmp.Ordering.{Ordering}
use Rattle.std.specs.Cmp.{IsTotalOrder}
use Rattle.std.proofs.lemmas.Map.Lookups.{CmpEqualImpliesEq}
use Rattle.lalrpop_grammar.proofs.Types.{NonterminalString, Symbol, TerminalString}
use Rattle.lalrpop_grammar.specs.contracts.repr.NonterminalStringPartialEq.TheImpl as name_eq
use Rattle.lalrpop_grammar.specs.contracts.repr.NonterminalStringOrd.TheImpl as name_ord
use Rattle.lalrpop_grammar.specs.contracts.repr.TerminalStringPartialEq.TheImpl as terminal_eq
use Rattle.lalrpop_grammar.specs.contracts.repr.TerminalStringOrd.TheImpl as terminal_ord
use Rattle.lalrpop_grammar.specs.contracts.repr.SymbolPartialEq.TheImpl as symbol_eq
use Rattle.lalrpop_grammar.specs.contracts.repr.SymbolOrd.TheImpl as symbol_ord
use Rattle.lalrpop_grammar.specs.contracts.repr.exact.NonterminalStringExact.TheImpl as name_exactly
use Rattle.lalrpop_grammar.specs.contracts.repr.exact.TerminalStringExact.TheImpl as terminal_exactly
use Rattle.lalrpop_grammar.specs.contracts.repr.exact.SymbolExact.TheImpl as symbol_exactly
use Rattle.lalrpop_collections.proofs.theory.lists.Updates.{exact_order}
use Rattle.std.specs.declared.cmp.Ordering.TheVariants.{Less, Equal, Greater}
use Rattle.std.specs.Ordering.{is_eq}
use Rattle.std.proofs.Common.{◌≡◌, true, refl}

-- an ordering that `is_eq` accepts is Equal
pub is_equal : (o : Ordering) → is_eq o ≡ true → o ≡ Equal
is_equal Less e = cc
is_equal Equal e = refl
is_equal Greater e = cc

abbrev pub name_order : NonterminalString → NonterminalString → Ordering
name_order = name_ord.ghosts.cmp

abbrev pub terminal_order : TerminalString → TerminalString → Ordering
terminal_order = terminal_ord.ghosts.cmp

abbrev pub symbol_order : Symbol → Symbol → Ordering
symbol_order = symbol_ord.ghosts.cmp

pub name_exact : CmpEqualImpliesEq name_order
name_exact = exact_order name_eq.ghosts.eq name_order name_exactly.Laws.exact-law name_ord.Laws.matches_eq-law

pub name_total : IsTotalOrder name_order
name_total = name_ord.Laws.total-law

pub terminal_exact : CmpEqualImpliesEq terminal_order
terminal_exact = exact_order terminal_eq.ghosts.eq terminal_order terminal_exactly.Laws.exact-law terminal_ord.Laws.matches_eq-law

pub terminal_total : IsTotalOrder terminal_order
terminal_total = terminal_ord.Laws.total-law

pub symbol_exact : CmpEqualImpliesEq symbol_order
symbol_exact = exact_order symbol_eq.ghosts.eq symbol_order symbol_exactly.Laws.exact-law symbol_ord.Laws.matches_eq-law

pub symbol_total : IsTotalOrder symbol_order
symbol_total = symbol_ord.Laws.total-law
