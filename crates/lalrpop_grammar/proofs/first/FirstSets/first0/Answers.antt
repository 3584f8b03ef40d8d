use Rattle.std.proofs.Common.{◌≡◌, ℕ, IsSome, Some, None, List, Option, ◌∙◌, ap, refl, length}
use Rattle.std.specs.Prelude.{IsNone, slice_get}
use Rattle.std.proofs.lemmas.Option.{slice_get_read}
use Rattle.lalrpop_grammar.proofs.Types.{TerminalString}
use Rattle.lalrpop_grammar.specs.Words.{Rules}
use Rattle.lalrpop_grammar.proofs.theory.first.FirstLists.{First-init, First-terminal, First-passed, First-stopped, First-end}
use Rattle.lalrpop_grammar.proofs.first.FirstSets.first0.Goals as goal

pub loop-symbol-init : goal.loop-symbol-init
loop-symbol-init c = First-init _ _ _ c.new-set.ensures

is_known : (place : Option ℕ) (P : Type 0) → (IsNone place → P → ⊥) → P → IsSome place
is_known None P absent known = absurd (absent refl known)
is_known (Some k) P absent known = refl

pub unwrap-bit-requires : goal.unwrap-bit-requires
unwrap-bit-requires c =
    let terminals : c.self.inside.grammar.now.terminals ≡ c.args.self.now.terminals = ap (λ (g : Rules). g.terminals) c.self.view_is in
    let at = slice_get_read c.args.symbols.now (length c.args.symbols.now) c.loop-symbol.symbol-index c.symbol-item.result refl c.loop-symbol-test.true c.symbol-item.is ∙ ap Some c.in-Terminal.is in
    is_known c.bit.result _ (rw terminals at c.bit.ensures.absent) (c.requires.known _ _ at)

same_place : {place : Option ℕ} {a b : ℕ} → place ≡ Some a → place ≡ Some b → a ≡ b
same_place e f = cc

pub returns-in-Terminal : goal.returns-in-Terminal
returns-in-Terminal c =
    let terminals : c.self.inside.grammar.now.terminals ≡ c.args.self.now.terminals = ap (λ (g : Rules). g.terminals) c.self.view_is in
    let is = c.unwrap-bit.ensures in
    record {
      first = First-terminal _ _ _ _ _ c.loop-symbol-test.true c.symbol-item.is c.loop-symbol.invariant _ _ _ c.in-Terminal.is (rw (is, terminals) at c.bit.ensures.found)
          (λ bit at. same_place is (c.bit.ensures.only bit (ap (λ (ts : List TerminalString). slice_get ts bit) terminals ∙ at))) c.in_ok-insert_bit-in-Terminal.ensures.inserted;
    }

pub loop-symbol-preserved : goal.loop-symbol-preserved
loop-symbol-preserved c = First-passed _ _ _ _ _ c.loop-symbol-test.true c.symbol-item.is c.loop-symbol.invariant _ _ _ c.in-Nonterminal.is c.in_ok-join-in-Nonterminal.ensures c.if-not-branch.false

pub returns-then-not-branch : goal.returns-then-not-branch
returns-then-not-branch c = record { first = First-stopped _ _ _ _ _ c.loop-symbol-test.true c.symbol-item.is c.loop-symbol.invariant _ _ _ c.in-Nonterminal.is c.in_ok-join-in-Nonterminal.ensures c.if-not-branch.true }

pub returns : goal.returns
returns c =
    let terminals : c.self.inside.grammar.now.terminals ≡ c.args.self.now.terminals = ap (λ (g : Rules). g.terminals) c.self.view_is in
    record { first = First-end _ _ _ _ _ c.loop-symbol.invariant c.loop-symbol-test.false (rw terminals at c.in_ok-insert_eof.ensures.inserted) }
