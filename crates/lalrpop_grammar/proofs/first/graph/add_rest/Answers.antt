use Rattle.std.proofs.Common.{◌≡◌, ◌+◌, ◌<◌, ◌∙◌, ◌++◌, ◌∷◌, [], ℕ, List, length, refl, set, ap, ap₂, arith}
use Rattle.std.proofs.lemmas.List.{get_or_default, nil_from_length}
use Rattle.lalrpop_collections.specs.Words.{Bits, with_bit}
use Rattle.lalrpop_collections.specs.lists.Spreading.{set_at}
use Rattle.lalrpop_collections.proofs.theory.lists.Spreading.{ends_read}
use Rattle.lalrpop_grammar.proofs.Types.{Symbol}
use Rattle.lalrpop_grammar.specs.Words.{Rest}
use Rattle.lalrpop_grammar.proofs.theory.first.FirstGraphs.{Added-unknown, Added-terminal, Added-name, Added-empty}
use Rattle.lalrpop_grammar.proofs.first.graph.add_rest.Goals as goal

-- a rest that is read in two parts
whole : (x : Rest) (n : ℕ) (l : List Symbol) → n ≡ x.0 → l ≡ x.1 → (n, l) ≡ x
whole x n l d e = ap₂ (λ (a : ℕ) (b : List Symbol). (a, b)) d e

pub returns-in_default : goal.returns-in_default
returns-in_default c =
    let within : c.parts-number.result.0 < length c.args.graph.now.nullable.items = let here = c.requires.within in let flags = c.requires.sized.flags in let name = c.parts-number.ensures.name in omega arith in
    rw (← (whole c.args.rest.now c.parts-number.result.0 c.parts-number.result.1.now c.parts-number.ensures.name c.parts-number.ensures.symbols))
    (Added-empty _ _ _ _ _ _ (nil_from_length c.parts-number.result.1.now c.in_default.ensures.cases) within refl refl refl)

pub returns-in_default-bit : goal.returns-in_default-bit
returns-in_default-bit c =
    rw (← (whole c.args.rest.now c.parts-number.result.0 c.parts-number.result.1.now c.parts-number.ensures.name c.parts-number.ensures.symbols))
    (Added-unknown _ _ _ _ _ _ _ _ (c.in-Some.ensures.cases.0 ∙ ap (λ (x : Symbol). x ∷ c.in-Some._after.now) c.in-Terminal.is) (c.in_default-bit.ensures.absent refl) refl)

pub returns-in_ok-insert_bit-in-Terminal : goal.returns-in_ok-insert_bit-in-Terminal
returns-in_ok-insert_bit-in-Terminal c =
    let within : c.parts-number.result.0 < length c.args.graph.now.sets.items = let here = c.requires.within in let sets = c.requires.sized.sets in let name = c.parts-number.ensures.name in omega arith in
    let own : c.index_mut-in-Terminal.result.now ≡ set_at c.args.graph.now.sets.items c.parts-number.result.0 = c.index_mut-in-Terminal.ensures.value ∙ get_or_default _ _ _ _ within in
    rw (← (whole c.args.rest.now c.parts-number.result.0 c.parts-number.result.1.now c.parts-number.ensures.name c.parts-number.ensures.symbols))
    (Added-terminal _ _ _ _ _ _ _ _ _ (c.in-Some.ensures.cases.0 ∙ ap (λ (x : Symbol). x ∷ c.in-Some._after.now) c.in-Terminal.is) within c.in-Some-bit.ensures.found (λ bit at. cc (c.in-Some-bit.ensures.only bit at)) (ap (λ (s : Bits). set c.args.graph.now.sets.items c.parts-number.result.0 s) (c.in_ok-insert_bit-in-Terminal.ensures.inserted ∙ ap (λ (s : Bits). with_bit s c.in-Some-bit.bit) own)) refl refl)

pub returns-in_ok-push-in-Nonterminal : goal.returns-in_ok-push-in-Nonterminal
returns-in_ok-push-in-Nonterminal c =
    let edges = c.args.graph.now.edges.items in
    let within : c.number.result < length edges = let most = c.number.ensures.most in let count = c.requires.sized.edges in omega arith in
    let read = c.index_mut-in-Nonterminal.result.now in
    rw (← (whole c.args.rest.now c.parts-number.result.0 c.parts-number.result.1.now c.parts-number.ensures.name c.parts-number.ensures.symbols))
    (Added-name _ _ _ _ _ _ _ _ c.number.result _ (c.in-Some.ensures.cases.0 ∙ ap (λ (x : Symbol). x ∷ c.in-Some._after.now) c.in-Nonterminal.is) c.number.ensures.place within (c.in_ok-push-in-Nonterminal.ensures.items ∙ ap (λ (xs : List ℕ). xs ++ c.parts-number.result.0 ∷ []) (ends_read edges c.number.result read read.items within c.index_mut-in-Nonterminal.ensures.value refl)) refl refl refl)
