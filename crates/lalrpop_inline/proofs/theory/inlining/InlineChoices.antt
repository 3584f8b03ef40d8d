-- Choices, one part at a time.
use Rattle.std.proofs.Common.{◌≡◌, List, [], ◌∷◌, ◌++◌, refl, sym, ◌∙◌, ap, ap₂, append_assoc, append-nil}
use Rattle.std.specs.List.{flat_map}
use Rattle.lalrpop_grammar.specs.declared.repr.inlined.InlinedSymbol.{InlinedSymbol}
use Rattle.lalrpop_inline.specs.Words.{prefixed, completed, extended, followed}

-- each choice after each part
abbrev pub with_parts : List InlinedSymbol → List (List InlinedSymbol) → List (List InlinedSymbol)
with_parts ps cs = flat_map (λ (part : InlinedSymbol). prefixed (part ∷ []) cs) ps

-- choices after parts and one more are choices after that one, after the parts
pub behind_part : (chosen : List InlinedSymbol) (part : InlinedSymbol) (cs : List (List InlinedSymbol)) → prefixed (chosen ++ part ∷ []) cs ≡ prefixed chosen (prefixed (part ∷ []) cs)
behind_part chosen part [] = refl
behind_part chosen part (c ∷ cs) = ap₂ (λ (x : List InlinedSymbol) (xs : List (List InlinedSymbol)). x ∷ xs) (append_assoc chosen (part ∷ []) c) (behind_part chosen part cs)

pub prefixed-append : (chosen : List InlinedSymbol) (cs ds : List (List InlinedSymbol)) → prefixed chosen (cs ++ ds) ≡ prefixed chosen cs ++ prefixed chosen ds
prefixed-append chosen [] ds = refl
prefixed-append chosen (c ∷ cs) ds = ap (λ (xs : List (List InlinedSymbol)). (chosen ++ c) ∷ xs) (prefixed-append chosen cs ds)

-- choices after no part stay
pub prefixed-nil : (cs : List (List InlinedSymbol)) → prefixed [] cs ≡ cs
prefixed-nil [] = refl
prefixed-nil (c ∷ cs) = ap (λ (xs : List (List InlinedSymbol)). c ∷ xs) (prefixed-nil cs)

-- the completion of two lists of fronts is that of the first and that of the second
pub completed-append : (fronts more cs : List (List InlinedSymbol)) → completed (fronts ++ more) cs ≡ completed fronts cs ++ completed more cs
completed-append [] more cs = refl
completed-append (front ∷ fronts) more cs = ap (λ (xs : List (List InlinedSymbol)). prefixed front cs ++ xs) (completed-append fronts more cs) ∙ sym (append_assoc (prefixed front cs) (completed fronts cs) (completed more cs))

-- the completion of a front that is followed by parts
followed_by : (front : List InlinedSymbol) (ps : List InlinedSymbol) (cs : List (List InlinedSymbol)) → completed (followed front ps) cs ≡ prefixed front (with_parts ps cs)
followed_by front [] cs = refl
followed_by front (p ∷ ps) cs =
    ap₂ (λ (x y : List (List InlinedSymbol)). x ++ y) (behind_part front p cs) (followed_by front ps cs)
    ∙ sym (prefixed-append front (prefixed (p ∷ []) cs) (with_parts ps cs))

-- the completion of fronts that are extended by parts
pub completed_step : (fronts : List (List InlinedSymbol)) (ps : List InlinedSymbol) (cs : List (List InlinedSymbol)) → completed (extended ps fronts) cs ≡ completed fronts (with_parts ps cs)
completed_step [] ps cs = refl
completed_step (front ∷ fronts) ps cs =
    completed-append (followed front ps) (extended ps fronts) cs
    ∙ ap₂ (λ (x y : List (List InlinedSymbol)). x ++ y) (followed_by front ps cs) (completed_step fronts ps cs)

-- a completion by no parts changes nothing
pub completed-nil : (fronts : List (List InlinedSymbol)) → completed fronts ([] ∷ []) ≡ fronts
completed-nil [] = refl
completed-nil (front ∷ fronts) = ap₂ (λ (x : List InlinedSymbol) (xs : List (List InlinedSymbol)). x ∷ xs) (append-nil front) (completed-nil fronts)

-- the completion of no parts is the choices
pub completed-one : (cs : List (List InlinedSymbol)) → completed ([] ∷ []) cs ≡ cs
completed-one cs = append-nil (prefixed [] cs) ∙ prefixed-nil cs
