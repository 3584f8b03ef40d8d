use Rattle.std.proofs.Common.{◌≡◌, ◌+◌, List, take, arith, subst, sym}
use Rattle.std.specs.Prelude.{Contains}
use Rattle.std.proofs.lemmas.List.{take_all}
use Rattle.lalrpop_inline.proofs.Types.{Symbol}
use Rattle.lalrpop_grammar.specs.declared.repr.Symbol.TheVariants.{Nonterminal}
use Rattle.lalrpop_collections.proofs.theory.lists.Lists.{contains-nil}
use Rattle.lalrpop_inline.specs.Words.{KeepsUsers}
use Rattle.lalrpop_inline.proofs.theory.inlining.InlineUsers.{IsUnderSymbols, symbol_added, symbol_passed, keeps_twice}
use Rattle.lalrpop_grammar.specs.grammars.Entries.{UserMap}
use Rattle.lalrpop_inline.proofs.inline.users.add_to_symbols.Goals.{in-Nonterminal+in_ok-add_user, in_default}
use Rattle.lalrpop_inline.proofs.inline.users.add_to_symbols.Goals as goal

pub loop-symbol-init : goal.loop-symbol-init
loop-symbol-init c = record { added = λ a marked there. absurd (contains-nil there); kept = λ a b there. there }

pub loop-symbol-preserved : goal.loop-symbol-preserved
loop-symbol-preserved c =
    let g = c.args.grammar.now in
    let user = c.args.user.now in
    let old : UserMap = c.loop-symbol.users in
    elim c.match-symbol.branch [
      | in-Nonterminal+in_ok-add_user w ↦
          let grown : UserMap = w.add_user.new.users in
          record {
            added = subst (λ (users : UserMap). IsUnderSymbols g users (take (c.loop-symbol.symbol-index + 1) c.args.symbols.now) user) (sym w.users-is)
                (symbol_added g c.args.symbols.now c.loop-symbol.symbol-index c.symbol-item.result w.in-Nonterminal.name user old grown (omega arith) c.symbol-item.is w.in-Nonterminal.is c.loop-symbol.invariant.added w.in_ok-add_user.ensures.kept w.in_ok-add_user.ensures.added);
            kept = subst (KeepsUsers c.args.users.now) (sym w.users-is) (keeps_twice c.args.users.now old grown c.loop-symbol.invariant.kept w.in_ok-add_user.ensures.kept);
          }
      | in_default w ↦ record {
        added = symbol_passed g c.args.symbols.now c.loop-symbol.symbol-index c.symbol-item.result user old c.match-symbol.users (omega arith) c.symbol-item.is w.in_default.not-Nonterminal c.loop-symbol.invariant.added w.users-is;
        kept = subst (KeepsUsers c.args.users.now) (sym w.users-is) c.loop-symbol.invariant.kept;
      }
    ]

pub returns-clause-added : goal.returns-clause-added
returns-clause-added c =
    let every : take c.loop-symbol.symbol-index c.args.symbols.now ≡ c.args.symbols.now = take_all c.loop-symbol.symbol-index c.args.symbols.now (omega (arith, c.loop-symbol-test.false)) in
    λ a marked there. c.loop-symbol.invariant.added a marked (subst (λ (l : List Symbol). Contains l (Nonterminal a)) (sym every) there)
