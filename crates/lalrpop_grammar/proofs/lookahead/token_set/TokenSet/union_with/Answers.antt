use Rattle.std.proofs.Common.{◌≡◌, ◌≢◌, ◌∙◌, ℕ, List, MatchBool, max, take, drop, ◌++◌, length, slice_index, sym, ap, subst, arith}
use Rattle.std.proofs.lemmas.List.{with_items_is}
use Rattle.lalrpop_collections.specs.lists.BitVectors.{bits_of_words, IsBitVector}
use Rattle.lalrpop_collections.proofs.theory.sets.TokenSetLemmas.{union_set, union_vector, union_told}
use Rattle.lalrpop_grammar.proofs.lookahead.token_set.TokenSet.union_with.Goals as goal

pub invariant_of-self-2 : goal.invariant_of-self-2
invariant_of-self-2 c =
    let xs = c.self.inside.words.items in
    let ys = c.deref.result.now in
    let ds = c.deref_mut.result.now in
    let zs = c.join_words.new.words in
    let whole : take c.pad.new.words.len (zs ++ drop (length zs) c.pad.new.words.items) ≡ zs = with_items_is c.pad.new.words zs (omega (arith, c.join_words.ensures.len, c.deref_mut.ensures.len)) in
    let same : (k : ℕ) → slice_index ds k ≡ slice_index xs k = λ k. ap (λ (ws : List ℕ). slice_index ws k) c.deref_mut.ensures.value ∙ c.in_ok-pad.ensures.same k in
    let padded : length ds ≡ max (length xs) (length ys) = omega (arith, ap length c.deref_mut.ensures.value, c.in_ok-pad.ensures.padded, c.len.ensures, c.deref.ensures.len) in
    subst IsBitVector (sym whole) (union_vector xs ys ds zs same c.join_words.ensures.joined c.self.invariant (subst IsBitVector (sym c.deref.ensures.value) c.other.invariant) padded c.join_words.ensures.len)

pub returns-clause-joined : goal.returns-clause-joined
returns-clause-joined c =
    let xs = c.self.inside.words.items in
    let ys = c.deref.result.now in
    let ds = c.deref_mut.result.now in
    let zs = c.join_words.new.words in
    let whole : take c.pad.new.words.len (zs ++ drop (length zs) c.pad.new.words.items) ≡ zs = with_items_is c.pad.new.words zs (omega (arith, c.join_words.ensures.len, c.deref_mut.ensures.len)) in
    let same : (k : ℕ) → slice_index ds k ≡ slice_index xs k = λ k. ap (λ (ws : List ℕ). slice_index ws k) c.deref_mut.ensures.value ∙ c.in_ok-pad.ensures.same k in
    ap bits_of_words whole
    ∙ union_set xs ys ds zs same c.join_words.ensures.joined c.args.self.now c.args.other.now c.self.view_is (ap bits_of_words c.deref.ensures.value ∙ c.other.view_is)

pub returns-clause-told : goal.returns-clause-told
returns-clause-told c =
    let xs = c.self.inside.words.items in
    let ys = c.deref.result.now in
    let ds = c.deref_mut.result.now in
    let zs = c.join_words.new.words in
    let whole : take c.pad.new.words.len (zs ++ drop (length zs) c.pad.new.words.items) ≡ zs = with_items_is c.pad.new.words zs (omega (arith, c.join_words.ensures.len, c.deref_mut.ensures.len)) in
    let same : (k : ℕ) → slice_index ds k ≡ slice_index xs k = λ k. ap (λ (ws : List ℕ). slice_index ws k) c.deref_mut.ensures.value ∙ c.in_ok-pad.ensures.same k in
    let padded : length ds ≡ max (length xs) (length ys) = omega (arith, ap length c.deref_mut.ensures.value, c.in_ok-pad.ensures.padded, c.len.ensures, c.deref.ensures.len) in
    let is : IsBitVector zs = union_vector xs ys ds zs same c.join_words.ensures.joined c.self.invariant (subst IsBitVector (sym c.deref.ensures.value) c.other.invariant) padded c.join_words.ensures.len in
    subst (λ (ws : List ℕ). MatchBool c.join_words.result (bits_of_words ws ≢ c.args.self.now) (bits_of_words ws ≡ c.args.self.now)) (sym whole)
    (union_told xs ys ds zs same c.join_words.ensures.joined c.join_words.result c.args.self.now c.self.view_is c.self.invariant.each is.each c.join_words.ensures.told)
