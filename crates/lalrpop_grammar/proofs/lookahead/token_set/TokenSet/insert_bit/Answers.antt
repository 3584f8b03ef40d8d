use Rattle.std.proofs.Common.{◌≡◌, ◌∙◌, ◌+◌, ◌/◌, ◌%◌, ◌^◌, ◌<◌, ℕ, List, max, take, drop, ◌++◌, length, slice_index, sym, ap, subst, arith}
use Rattle.std.proofs.lemmas.List.{with_items_is}
use Rattle.std.proofs.lemmas.Nat.{or_lt, pow_below}
use Rattle.lalrpop_collections.specs.Words.{new_bit, with_bit}
use Rattle.lalrpop_collections.specs.lists.BitVectors.{bits_of_words, IsBitVector}
use Rattle.lalrpop_collections.proofs.theory.sets.BitLemmas.{with_bit-there}
use Rattle.lalrpop_collections.proofs.theory.sets.TokenSetLemmas.{inserted_set, inserted_vector}
use Rattle.lalrpop_grammar.proofs.lookahead.token_set.TokenSet.insert_bit.Goals as goal

pub returns-then-contains_bit-clause-inserted : goal.returns-then-contains_bit-clause-inserted
returns-then-contains_bit-clause-inserted c = sym (with_bit-there c.args.self.now c.args.bit (sym c.if-contains_bit.ensures.has))

pub invariant_of-self-2 : goal.invariant_of-self-2
invariant_of-self-2 c =
    let xs = c.self.inside.words.items in
    let ds = c.deref_mut.result.now in
    let zs = c.put.new.words in
    let at = c.args.bit / 64 in
    let bit = c.args.bit % 64 in
    let whole : take c.pad.new.words.len (zs ++ drop (length zs) c.pad.new.words.items) ≡ zs = with_items_is c.pad.new.words zs (omega (arith, c.put.ensures.len, c.deref_mut.ensures.len)) in
    let same : (k : ℕ) → slice_index ds k ≡ slice_index xs k = λ k. ap (λ (ws : List ℕ). slice_index ws k) c.deref_mut.ensures.value ∙ c.in_ok-pad.ensures.same k in
    let padded : length ds ≡ max (length xs) (at + 1) = ap length c.deref_mut.ensures.value ∙ c.in_ok-pad.ensures.padded in
    let low : slice_index ds at < 2 ^ 64 = subst (λ (w : ℕ). w < 2 ^ 64) (sym (same at)) (c.self.invariant.each at) in
    let small : slice_index zs at < 2 ^ 64 = subst (λ (w : ℕ). w < 2 ^ 64) (sym c.put.ensures.word) (or_lt 64 (slice_index ds at) (2 ^ bit) low (pow_below bit 64 (omega arith))) in
    subst IsBitVector (sym whole) (inserted_vector xs ds zs c.args.bit c.self.invariant c.requires padded same c.put.ensures.len c.put.ensures.there small c.put.ensures.others)

pub returns-clause-inserted : goal.returns-clause-inserted
returns-clause-inserted c =
    let xs = c.self.inside.words.items in
    let ds = c.deref_mut.result.now in
    let zs = c.put.new.words in
    let whole : take c.pad.new.words.len (zs ++ drop (length zs) c.pad.new.words.items) ≡ zs = with_items_is c.pad.new.words zs (omega (arith, c.put.ensures.len, c.deref_mut.ensures.len)) in
    let same : (k : ℕ) → slice_index ds k ≡ slice_index xs k = λ k. ap (λ (ws : List ℕ). slice_index ws k) c.deref_mut.ensures.value ∙ c.in_ok-pad.ensures.same k in
    ap bits_of_words whole ∙ inserted_set xs ds zs c.args.self.now c.args.bit c.self.view_is same c.put.ensures.put

pub returns-clause-told : goal.returns-clause-told
returns-clause-told c =
    let xs = c.self.inside.words.items in
    let ds = c.deref_mut.result.now in
    let zs = c.put.new.words in
    let whole : take c.pad.new.words.len (zs ++ drop (length zs) c.pad.new.words.items) ≡ zs = with_items_is c.pad.new.words zs (omega (arith, c.put.ensures.len, c.deref_mut.ensures.len)) in
    let same : (k : ℕ) → slice_index ds k ≡ slice_index xs k = λ k. ap (λ (ws : List ℕ). slice_index ws k) c.deref_mut.ensures.value ∙ c.in_ok-pad.ensures.same k in
    let made : bits_of_words (take c.pad.new.words.len (zs ++ drop (length zs) c.pad.new.words.items)) ≡ with_bit c.args.self.now c.args.bit =
    ap bits_of_words whole ∙ inserted_set xs ds zs c.args.self.now c.args.bit c.self.view_is same c.put.ensures.put in
    λ equal. new_bit c.args.self.now c.args.bit (sym c.if-contains_bit.ensures.has) (sym made ∙ equal)
