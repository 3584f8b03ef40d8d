use Rattle.std.proofs.Common.{◌≡◌, ◌++◌, ◌∷◌, drop, map, codes, string_bytes}
use Rattle.lr1_calls.proofs.words.arguments.Given as goal

-- the arguments so far, and the parts that are left
abbrev pub invariant-loop-part : goal.invariant-loop-part
invariant-loop-part l = map string_bytes l.all.items ++ map (λ p. p.now) (drop l.part-index l.part-items) ≡ codes "grammar" ∷ map (λ p. p.now) l.part-items
