-- The productions of lines have their actions in the order of lines.
use Rattle.std.proofs.Common.{◌≡◌, ℕ, ◌+◌, Bool, true, false, List, [], ◌∷◌, ◌++◌, length, Option, None, Some, cond, option_map, refl, sym, ap, ◌∙◌, arith, append_assoc, length-append, add-zero, zero-add}
use Rattle.std.proofs.lemmas.List.{append-nil}
use Rattle.std.proofs.lemmas.List.Elements.{filter-append}
use Rattle.std.proofs.lemmas.List.Folds.{find-append}
use Rattle.std.specs.Prelude.{filter, find}
use Rattle.std.specs.Option.{option_or}
use Rattle.lalrpop_grammar.specs.declared.repr.NonterminalString.{NonterminalString}
use Rattle.lalrpop_grammar.specs.declared.repr.Production.{Production}
use Rattle.lalrpop_grammar.specs.declared.repr.Span.{Span}
use Rattle.lalrpop_grammar.specs.declared.repr.grammar.Attribute.{Attribute}
use Rattle.grammar_text.specs.declared.lines.Line.{Line}
use Rattle.grammar_text.specs.declared.lines.Line.TheVariants.{Blank, Production as production_line, Inline, Fault}
use Rattle.grammar_text.specs.declared.lines.PlacedLine.{PlacedLine}
use Rattle.std.proofs.lemmas.Grind.{flat_map-append}
use Rattle.lalrpop_base.specs.Words.{inline_mark}
use Rattle.grammar_text.specs.Grammar.{production_of, productions_from, productions_in, has_name, names, line_names, line_marks, marks_in, entry_of, with_production, with_mark}
use Rattle.lalrpop_grammar.specs.grammars.Entries.{Entry}

-- the productions of two lists of lines are those of the first, and then those of the second with
-- the next actions
pub productions_from-append : (k : ℕ) (ls ms : List PlacedLine) → productions_from k (ls ++ ms) ≡ productions_from k ls ++ productions_from (k + length (productions_from k ls)) ms
productions_from-append k [] ms = ap (λ n. productions_from n ms) (sym (add-zero k))
productions_from-append k (l ∷ ls) ms =
    let first = production_of k l.span l.line in
    let next : ℕ = k + length first in
    let others = productions_from next ls in
    let counted : next + length others ≡ k + length (first ++ others) = omega (arith, length-append first others) in
    ap (λ ps. first ++ ps) (productions_from-append next ls ms)
    ∙ ap (λ n. first ++ (others ++ productions_from n ms)) counted
    ∙ sym (append_assoc first others (productions_from (k + length (first ++ others)) ms))

-- the productions of lines and one more are those of the lines, and then that of the one
pub productions_in-more : (ls : List PlacedLine) (l : PlacedLine) → productions_in (ls ++ l ∷ []) ≡ productions_in ls ++ production_of (length (productions_in ls)) l.span l.line
productions_in-more ls l =
    productions_from-append 0 ls (l ∷ [])
    ∙ ap (λ n. productions_in ls ++ productions_from n (l ∷ [])) (zero-add (length (productions_in ls)))
    ∙ ap (λ ps. productions_in ls ++ ps) (append-nil (production_of (length (productions_in ls)) l.span l.line))

kept_none : (a : NonterminalString) (k : ℕ) (span : Span) (line : Line) → line_names a line ≡ false → filter (has_name a) (production_of k span line) ≡ []
kept_none a k span Blank e = refl
kept_none a k span (production_line b symbols) e = rw e refl
kept_none a k span (Inline b) e = refl
kept_none a k span Fault e = refl

not_found : {A : Type 0} (b : Bool) (x : A) (o : Option A) → cond b (Some x) o ≡ None → (b ≡ false) × (o ≡ None)
not_found true x o h = cc
not_found false x o h = (refl, h)

-- a name that no line names has no productions
pub unnamed : (a : NonterminalString) (k : ℕ) (ls : List PlacedLine) → find (names a) ls ≡ None → filter (has_name a) (productions_from k ls) ≡ []
unnamed a k [] h = refl
unnamed a k (l ∷ ls) h =
    let parts = not_found (names a l) l (find (names a) ls) h in
    let first = production_of k l.span l.line in
    filter-append (has_name a) first (productions_from (k + length first) ls)
    ∙ ap (λ ps. ps ++ filter (has_name a) (productions_from (k + length first) ls)) (kept_none a k l.span l.line parts.0)
    ∙ unnamed a (k + length first) ls parts.1

no_marks : (a : NonterminalString) (line : Line) → line_names a line ≡ false → line_marks a line ≡ []
no_marks a Blank e = refl
no_marks a (production_line b symbols) e = refl
no_marks a (Inline b) e = rw e refl
no_marks a Fault e = refl

-- a name that no line names has no marks
pub unmarked : (a : NonterminalString) (ls : List PlacedLine) → find (names a) ls ≡ None → marks_in a ls ≡ []
unmarked a [] h = refl
unmarked a (l ∷ ls) h =
    let parts = not_found (names a l) l (find (names a) ls) h in
    ap (λ (ms : List Attribute). ms ++ marks_in a ls) (no_marks a l.line parts.0) ∙ unmarked a ls parts.1

marks_in-more : (a : NonterminalString) (ls : List PlacedLine) (l : PlacedLine) → marks_in a (ls ++ l ∷ []) ≡ marks_in a ls ++ line_marks a l.line
marks_in-more a ls l = flat_map-append (λ (x : PlacedLine). line_marks a x.line) ls (l ∷ []) ∙ ap (λ (ms : List Attribute). marks_in a ls ++ ms) (append-nil (line_marks a l.line))

marks_in-same : (a : NonterminalString) (ls : List PlacedLine) (l : PlacedLine) → line_marks a l.line ≡ [] → marks_in a (ls ++ l ∷ []) ≡ marks_in a ls
marks_in-same a ls l e = marks_in-more a ls l ∙ ap (λ (ms : List Attribute). marks_in a ls ++ ms) e ∙ append-nil (marks_in a ls)

-- an entry, given its productions, its marks and the first line that names it
abbrev pub entry_from : List Production → List Attribute → Option PlacedLine → Option Entry
entry_from ps marks found = option_map (λ (first : PlacedLine). record { productions = ps; attributes = marks; span = first.span }) found

entry_at : (named : Bool) (found : Option PlacedLine) (ps : List Production) (marks : List Attribute) (p : Production) (l : PlacedLine) → l.span ≡ p.span → (found ≡ None → ps ≡ []) → (found ≡ None → marks ≡ [])
    → entry_from (ps ++ cond named (p ∷ []) []) marks (option_or found (cond named (Some l) None)) ≡ cond named (with_production (entry_from ps marks found) p) (entry_from ps marks found)
entry_at true None ps marks p l e empty bare = rw (e, empty refl, bare refl) refl
entry_at true (Some first) ps marks p l e empty bare = refl
entry_at false None ps marks p l e empty bare = refl
entry_at false (Some first) ps marks p l e empty bare = ap (λ qs. entry_from qs marks (Some first)) (append-nil ps)

-- if a line has a production of a name, it is added to the entry of that name, and the other
-- entries stay
pub entry_of-more : (a b : NonterminalString) (ls : List PlacedLine) (l : PlacedLine) (p : Production)
    → productions_in (ls ++ l ∷ []) ≡ productions_in ls ++ p ∷ [] → l.span ≡ p.span → names a l ≡ has_name a p → line_marks a l.line ≡ []
    → entry_of a (ls ++ l ∷ []) ≡ cond (has_name a p) (with_production (entry_of a ls) p) (entry_of a ls)
entry_of-more a b ls l p more span named bare =
    ap (λ ms. entry_from (filter (has_name a) (productions_in (ls ++ l ∷ []))) ms (find (names a) (ls ++ l ∷ []))) (marks_in-same a ls l bare)
    ∙ ap (λ ps. entry_from (filter (has_name a) ps) (marks_in a ls) (find (names a) (ls ++ l ∷ []))) more
    ∙ ap (λ ps. entry_from ps (marks_in a ls) (find (names a) (ls ++ l ∷ []))) (filter-append (has_name a) (productions_in ls) (p ∷ []))
    ∙ ap (λ found. entry_from (filter (has_name a) (productions_in ls) ++ filter (has_name a) (p ∷ [])) (marks_in a ls) found) (find-append (names a) ls (l ∷ []))
    ∙ ap (λ t. entry_from (filter (has_name a) (productions_in ls) ++ filter (has_name a) (p ∷ [])) (marks_in a ls) (option_or (find (names a) ls) (cond t (Some l) None))) named
    ∙ entry_at (has_name a p) (find (names a) ls) (filter (has_name a) (productions_in ls)) (marks_in a ls) p l span (unnamed a 0 ls) (unmarked a ls)

mark_at : (named : Bool) (found : Option PlacedLine) (ps : List Production) (marks : List Attribute) (l : PlacedLine) → (found ≡ None → ps ≡ []) → (found ≡ None → marks ≡ [])
    → entry_from ps (marks ++ cond named (inline_mark ∷ []) []) (option_or found (cond named (Some l) None)) ≡ cond named (with_mark (entry_from ps marks found) l.span) (entry_from ps marks found)
mark_at true None ps marks l empty bare = rw (empty refl, bare refl) refl
mark_at true (Some first) ps marks l empty bare = refl
mark_at false None ps marks l empty bare = refl
mark_at false (Some first) ps marks l empty bare = ap (λ ms. entry_from ps ms (Some first)) (append-nil marks)

-- if a line has a mark of a name, it is added to the entry of that name
pub entry_of-marked : (a b : NonterminalString) (ls : List PlacedLine) (l : PlacedLine) → productions_in (ls ++ l ∷ []) ≡ productions_in ls → (named : Bool) → names a l ≡ named → line_marks a l.line ≡ cond named (inline_mark ∷ []) []
    → entry_of a (ls ++ l ∷ []) ≡ cond named (with_mark (entry_of a ls) l.span) (entry_of a ls)
entry_of-marked a b ls l same named is marks =
    ap (λ ms. entry_from (filter (has_name a) (productions_in (ls ++ l ∷ []))) ms (find (names a) (ls ++ l ∷ []))) (marks_in-more a ls l ∙ ap (λ (ms : List Attribute). marks_in a ls ++ ms) marks)
    ∙ ap (λ ps. entry_from (filter (has_name a) ps) (marks_in a ls ++ cond named (inline_mark ∷ []) []) (find (names a) (ls ++ l ∷ []))) same
    ∙ ap (λ found. entry_from (filter (has_name a) (productions_in ls)) (marks_in a ls ++ cond named (inline_mark ∷ []) []) found) (find-append (names a) ls (l ∷ []))
    ∙ ap (λ t. entry_from (filter (has_name a) (productions_in ls)) (marks_in a ls ++ cond named (inline_mark ∷ []) []) (option_or (find (names a) ls) (cond t (Some l) None))) is
    ∙ mark_at named (find (names a) ls) (filter (has_name a) (productions_in ls)) (marks_in a ls) l (unnamed a 0 ls) (unmarked a ls)

-- a line that does not name a nonterminal and has no production leaves its entry
pub entry_of-same : (a : NonterminalString) (ls : List PlacedLine) (l : PlacedLine) → productions_in (ls ++ l ∷ []) ≡ productions_in ls → names a l ≡ false → entry_of a (ls ++ l ∷ []) ≡ entry_of a ls
entry_of-same a ls l same unnamed =
    ap (λ ms. entry_from (filter (has_name a) (productions_in (ls ++ l ∷ []))) ms (find (names a) (ls ++ l ∷ []))) (marks_in-same a ls l (no_marks a l.line unnamed))
    ∙ ap (λ ps. entry_from (filter (has_name a) ps) (marks_in a ls) (find (names a) (ls ++ l ∷ []))) same
    ∙ ap (λ found. entry_from (filter (has_name a) (productions_in ls)) (marks_in a ls) found) (find-append (names a) ls (l ∷ []))
    ∙ ap (λ t. entry_from (filter (has_name a) (productions_in ls)) (marks_in a ls) (option_or (find (names a) ls) (cond t (Some l) None))) unnamed
    ∙ ap (λ found. entry_from (filter (has_name a) (productions_in ls)) (marks_in a ls) found) (or_none (find (names a) ls))
  where
    or_none : (o : Option PlacedLine) → option_or o None ≡ o
    or_none None = refl
    or_none (Some x) = refl
