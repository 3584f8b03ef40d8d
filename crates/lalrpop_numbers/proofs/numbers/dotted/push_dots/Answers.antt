use Rattle.std.proofs.Common.{◌≡◌, ◌∙◌, ◌+◌, ◌++◌, ◌∷◌, ◌≤◌, [], ℕ, List, length, map, ap, sym, arith, append_assoc}
use Rattle.std.specs.List.{range_with_len}
use Rattle.std.proofs.lemmas.List.FromFn.{map-range_with_len_more}
use Rattle.lalrpop_states.specs.Words.{Dotted, with_dot}
use Rattle.lalrpop_numbers.specs.Words.{with_dots}
use Rattle.lalrpop_numbers.proofs.Types.{Nil, Production}
use Rattle.lalrpop_numbers.proofs.numbers.dotted.push_dots.Goals as goal

-- one more dot
more : (p : Production) (old mid new : List (Dotted Nil)) (k : ℕ) (i : Dotted Nil) → mid ≡ old ++ map (with_dot p) (range_with_len 0 k) → new ≡ mid ++ i ∷ [] → i ≡ with_dot p k → new ≡ old ++ map (with_dot p) (range_with_len 0 (k + 1))
more p old mid new k i whole pushed is =
    let before : List (Dotted Nil) = map (with_dot p) (range_with_len 0 k) in
    pushed ∙ ap (λ (x : Dotted Nil). mid ++ x ∷ []) is ∙ ap (λ (m : List (Dotted Nil)). m ++ with_dot p k ∷ []) whole ∙ append_assoc old before (with_dot p k ∷ [])
    ∙ ap (λ (m : List (Dotted Nil)). old ++ m) (sym (map-range_with_len_more (with_dot p) 0 k k (omega arith)))

-- the last dot
last : (p : Production) (old mid new : List (Dotted Nil)) (k n : ℕ) (i : Dotted Nil) → n ≤ k → k ≤ n → n ≡ length p.symbols → mid ≡ old ++ map (with_dot p) (range_with_len 0 k) → new ≡ mid ++ i ∷ [] → i ≡ with_dot p n → new ≡ old ++ with_dots p
last p old mid new k n i l m count whole pushed is =
    let same : n ≡ k = omega arith in
    more p old mid new k i whole pushed (is ∙ ap (with_dot p) same) ∙ ap (λ (c : ℕ). old ++ map (with_dot p) (range_with_len 0 (c + 1))) (sym same ∙ count)

pub loop-index-preserved : goal.loop-index-preserved
loop-index-preserved c = more c.args.production.now c.args.items.now.items c.loop-index.items.items c.push.new.self.items c.loop-index.index c.lr0.result c.loop-index.invariant c.in_ok-push.ensures.items c.lr0.ensures

pub returns : goal.returns
returns c = last c.args.production.now c.args.items.now.items c.loop-index.items.items c.push-2.new.self.items c.loop-index.index c.len-length.result c.lr0-2.result c.loop-index-test.false (c.loop-index.auto.index-end) c.len-length.ensures c.loop-index.invariant c.in_ok-push-2.ensures.items c.lr0-2.ensures
