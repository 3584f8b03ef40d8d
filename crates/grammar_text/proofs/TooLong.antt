-- More productions than numbers of actions.
use Rattle.std.proofs.Common.{◌≡◌, ℕ, ◌+◌, ◌<◌, true, List, [], ◌∷◌, ◌++◌, length, refl, ap, ◌∙◌, arith, length-append}
use Rattle.std.proofs.lemmas.List.{length-map}
use Rattle.lalrpop_grammar.specs.declared.repr.Span.{Span}
use Rattle.grammar_text.specs.declared.lines.Line.{Line}
use Rattle.grammar_text.specs.declared.lines.Line.TheVariants.{Blank, Production, Inline, Fault}
use Rattle.grammar_text.specs.declared.lines.PlacedLine.{PlacedLine}
use Rattle.grammar_text.specs.declared.collected.Collected.{Collected}
use Rattle.grammar_text.specs.declared.read_error.ReadError.{ReadError}
use Rattle.grammar_text.specs.declared.read_error.ReadError.TheVariants.{Line as LineError, TooManyActions, Memory}
use Rattle.grammar_text.specs.Grammar.{productions_in, productions_from, production_of, user_action}
use Rattle.grammar_text.specs.Collected.{IsCollected, IsAddError, is_production, is_production_line}
use Rattle.grammar_text.specs.Faults.{IsTooLong}
use Rattle.grammar_text.proofs.Numbered.{productions_from-append, productions_in-more}

one : (n : ℕ) (span : Span) (line : Line) → is_production_line line ≡ true → length (production_of n span line) ≡ 1
one n span Blank h = cc
one n span (Production a symbols) h = refl
one n span (Inline a) h = cc
one n span Fault h = cc

-- there are as many actions as productions
pub counted : (ls : List PlacedLine) (c : Collected) → IsCollected ls c → c.action_fn_defns.len ≡ length (productions_in ls)
counted ls c was = c.action_fn_defns.ok.0 ∙ ap length was.actions ∙ length-map (productions_in ls) (λ _. user_action)

longer : (ls : List PlacedLine) (l : PlacedLine) → is_production l ≡ true → length (productions_in ls) < length (productions_in (ls ++ l ∷ []))
longer ls l h =
    let n = length (productions_in ls) in
    omega (arith, ap length (productions_in-more ls l), length-append (productions_in ls) (production_of n l.span l.line), one n l.span l.line h)

-- if a line cannot be added to what lines give, the lines and it are too long
pub too_long : (ls : List PlacedLine) (l : PlacedLine) (c : Collected) (e : ReadError) → IsCollected ls c → IsAddError c l e → IsTooLong (ls ++ l ∷ []) e
too_long ls l c (LineError n) was full = full
too_long ls l c TooManyActions was full = omega (arith, counted ls c was, full.1, longer ls l full.0)
too_long ls l c Memory was full = tt

-- lines that are too long are too long with more lines after them
pub too_long_still : (ls more : List PlacedLine) (e : ReadError) → IsTooLong ls e → IsTooLong (ls ++ more) e
too_long_still ls more (LineError n) was = was
too_long_still ls more TooManyActions was = omega (arith, was, ap length (productions_from-append 0 ls more), length-append (productions_in ls) (productions_from (0 + length (productions_in ls)) more))
too_long_still ls more Memory was = tt
