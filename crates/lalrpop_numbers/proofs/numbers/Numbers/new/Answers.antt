use Rattle.std.proofs.Common.{ℕ, List, subst, sym}
use Rattle.std.specs.Prelude.{Contains, Option}
use Rattle.lalrpop_states.specs.Words.{Dotted}
use Rattle.lalrpop_grammar.specs.Words.{Rules, rules_of}
use Rattle.lalrpop_numbers.specs.Words.{AreAllExpansions, AreNumbersBehind, lists_of, AreBehindDots, AreSuffixes}
use Rattle.lalrpop_numbers.proofs.Types.{Nil, Symbol}
use Rattle.lalrpop_grammar.proofs.theory.grammars.Grammars.{known_symbols}
use Rattle.lalrpop_numbers.proofs.theory.numbers.Numbering.{symbols_differ}
use Rattle.lalrpop_numbers.proofs.numbers.Numbers.new.Goals as goal

pub numbers_behind-requires-clause-known : goal.numbers_behind-requires-clause-known
numbers_behind-requires-clause-known c =
    let items = subst (λ (l : List (Dotted Nil)). AreBehindDots l c.in_ok-symbols.symbols.items) c.deref.ensures.value c.in_ok-symbols.ensures.behind in
    subst (AreBehindDots c.deref-3.result.now) (sym c.deref-2.ensures.value) (subst (λ (l : List (Dotted Nil)). AreBehindDots l c.in_ok-symbols.symbols.items) (sym c.deref-3.ensures.value) items)

pub suffixes_of-requires-clause-known : goal.suffixes_of-requires-clause-known
suffixes_of-requires-clause-known c i among = known_symbols c.args.grammar.now i.production c.requires.well_formed (c.in_ok-items.ensures.items.each i (subst (λ (l : List (Dotted Nil)). Contains l i) c.deref-6.ensures.value among)).0

pub returns : goal.returns
returns c =
    let symbols : List Symbol = c.in_ok-symbols.symbols.items in
    let numbers : List (Option ℕ) = c.in_ok-behind.behind.items in
    let lists : List (List ℕ) = lists_of c.in_ok-expansions.expansions.items in
    let behind = subst (λ (l : List (Dotted Nil)). AreNumbersBehind symbols l numbers) c.deref-3.ensures.value (subst (λ (l : List Symbol). AreNumbersBehind l c.deref-3.result.now numbers) c.deref-2.ensures.value c.in_ok-behind.ensures) in
    let expanded = subst (λ (l : List (Dotted Nil)). AreAllExpansions symbols l lists) c.deref-5.ensures.value (subst (λ (l : List Symbol). AreAllExpansions l c.deref-5.result.now lists) c.deref-4.ensures.value c.in_ok-expansions.ensures) in
    record {
      items = c.in_ok-items.ensures.items;
      next = c.in_ok-items.ensures.next;
      behind = behind.each;
      differ = symbols_differ symbols c.in_ok-symbols.ensures.ascend;
      symbols = subst (λ (l : List (Dotted Nil)). AreBehindDots l symbols) c.deref.ensures.value c.in_ok-symbols.ensures.behind;
      symbols_ascend = c.in_ok-symbols.ensures.ascend;
      expansions = expanded.each;
      suffixes = subst (λ (l : List (Dotted Nil)). AreSuffixes (rules_of c.args.grammar.now) l c.in_ok-suffixes.suffixes.items) c.deref-6.ensures.value (subst (λ (r : Rules). AreSuffixes r c.deref-6.result.now c.in_ok-suffixes.suffixes.items) c.requires.firsts c.in_ok-suffixes.ensures);
    }
