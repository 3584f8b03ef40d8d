use Rattle.std.proofs.Common.{◌≡◌, ◌∙◌, ℕ, suc, ◌+◌, ◌++◌, ◌∷◌, [], List, take, drop, length, refl, subst, ap, arith}
use Rattle.std.specs.Prelude.{slice_get, Some}
use Rattle.std.proofs.lemmas.Option.{slice_get_read}
use Rattle.std.proofs.lemmas.Grind.{common_steps}
use Rattle.lalrpop_grammar.specs.Words.{IsNullable}
use Rattle.lalrpop_grammar.specs.declared.repr.Symbol.{Symbol}
use Rattle.lalrpop_grammar.specs.declared.repr.Symbol.TheVariants.{Nonterminal}
use Rattle.lalrpop_useful.specs.Words.{IsAloneAt}
use Rattle.grammar_diagnostics.specs.CyclePaths.{names_now}
use Rattle.grammar_diagnostics.proofs.CycleSteps.{adds_one}
use Rattle.grammar_diagnostics.proofs.cycle.push_place.Goals as goal

pub returns : goal.returns
returns c =
    let g = c.args.sets.now.productions in
    let l : List Symbol = c.args.symbols.now in
    let k : ℕ = c.args.place in
    let x : Symbol = c.index-symbols-place.result in
    let at : slice_get l k ≡ Some (Nonterminal c.in-Nonterminal.name) = slice_get_read l (length l) k x refl c.requires c.index-symbols-place.is ∙ ap (λ (s : Symbol). Some s) c.in-Nonterminal.is in
    let before : IsNullable g (take k l) = subst (λ (s : List Symbol). IsNullable g s) c.symbols_before.ensures (c.if-not-are_nullable.ensures refl) in
    let next : k + 1 ≡ suc k = omega arith in
    let after : IsNullable g (drop (k + 1) l) = subst (λ (s : List Symbol). IsNullable g s) c.symbols_after.ensures (c.if-not-are_nullable-2.ensures refl) in
    let pushed : names_now c.push.new.self.items ≡ names_now c.args.names.now.items ++ c.in-Nonterminal.name ∷ [] = grind (arith, common_steps) in
    adds_one (IsAloneAt g l k) (names_now c.args.names.now.items) (names_now c.push.new.self.items) c.in-Nonterminal.name pushed (at, before, subst (λ (n : ℕ). IsNullable g (drop n l)) next after)
