use Rattle.std.proofs.Common.{◌≡◌, ◌<◌, ◌∙◌, ℕ, List, Some, refl, sym, ap, ap₂, get_or, length, arith}
use Rattle.std.specs.Prelude.{slice_get}
use Rattle.std.proofs.lemmas.Option.{slice_get_read}
use Rattle.lalrpop_grammar.proofs.Types.{Symbol}
use Rattle.lalrpop_grammar.specs.Words.{Rest}
use Rattle.lalrpop_grammar.proofs.theory.first.FirstNumbers.{Ready-all}
use Rattle.lalrpop_grammar.proofs.theory.first.FirstRests.{Passing-begin, Passing-within, Passing-turn, Passing-falls, Passing-end}
use Rattle.lalrpop_grammar.proofs.first.rests.rests_of.Goals as goal

pub loop-next-init : goal.loop-next-init
loop-next-init c = Passing-begin _ _ (λ p h. rw c.requires.names (Ready-all c.args.grammar.now c.requires.formed p h).named) _ _ c.in_ok-rests.ensures (c.in_ok-pending.ensures.count ∙ c.count.ensures) c.in_ok-pending.ensures.empty

-- a rest that is read in two parts
row : (rests : List Rest) (k : ℕ) (x : Rest) (n : ℕ) (l : List Symbol) → k < length rests → x ≡ get_or rests k x → n ≡ x.0 → l ≡ x.1 → slice_get rests k ≡ Some (n, l)
row rests k x n l within is d e = slice_get_read rests (length rests) k x refl within is ∙ ap Some (ap₂ (λ (a : ℕ) (b : List Symbol). (a, b)) (sym d) (sym e))

pub pass-requires-clause-within : goal.pass-requires-clause-within
pass-requires-clause-within c =
    let within : c.loop-next.next < length c.loop-next.rests.items = let ok = c.loop-next.rests.ok in omega arith in
    Passing-within _ _ c.loop-next.invariant (row _ _ _ _ _ within c.index.ensures c.parts-name.ensures.name c.parts-name.ensures.symbols)

pub loop-next-smaller : goal.loop-next-smaller
loop-next-smaller c =
    let within : c.loop-next.next < length c.loop-next.rests.items = let ok = c.loop-next.rests.ok in omega arith in
    Passing-falls _ _ c.pass.new.rests.items c.pass.new.pending.items c.loop-next.invariant (row _ _ _ _ _ within c.index.ensures c.parts-name.ensures.name c.parts-name.ensures.symbols) c.in_ok-pass.ensures

pub loop-next-preserved : goal.loop-next-preserved
loop-next-preserved c =
    let within : c.loop-next.next < length c.loop-next.rests.items = let ok = c.loop-next.rests.ok in omega arith in
    Passing-turn _ _ c.pass.new.rests.items c.pass.new.pending.items c.loop-next.invariant (row _ _ _ _ _ within c.index.ensures c.parts-name.ensures.name c.parts-name.ensures.symbols) c.in_ok-pass.ensures

pub returns : goal.returns
returns c = Passing-end _ _ c.loop-next.invariant (let ok = c.loop-next.rests.ok in omega arith)
