-- The names of symbols and of productions differ.
use Rattle.std.proofs.Common.{◌≡◌, ◌⊎◌, inl, inr, ⊎_elim, ℕ, ◌<◌, ◌^◌, suc, zero, Bool, true, false, not, cond, ◌&&◌, ◌==◌, List, [], ◌∷◌, ◌++◌, codes, length, map, string_bytes, take, slice_get, Option, Some, None, option_map, refl, ap, sym, subst, ◌∙◌}
use Rattle.std.proofs.lemmas.List.{length-map}
use Rattle.std.proofs.lemmas.Option.{slice_get-map}
use Rattle.std.specs.List.{flat_map}
use Rattle.symbol_texts.specs.Differ.{AreApart, Differ, HasNo, HaveNo}
use Rattle.symbol_texts.specs.Distinct.{distinct_names}
use Rattle.symbol_texts.specs.Names.{begins_with_a_digit, long_name, nonterminal_names, production_name, production_names, right_words, symbol_name, symbol_words, terminal_names}
use Rattle.symbol_texts.specs.Style.{mark_of, reserved_in, words_in}
use Rattle.symbol_texts.specs.declared.grammar.ProductionText.{ProductionText}
use Rattle.symbol_texts.specs.declared.grammar.SymbolText.{SymbolText}
use Rattle.symbol_texts.specs.declared.style.Style.{Style}
use Rattle.symbol_texts.specs.declared.style.Style.TheVariants.{Camel, Capitals}
use Rattle.symbol_texts.proofs.DistinctNames.{names_are_free, names_differ}
use Rattle.symbol_texts.proofs.WordTexts.{camel_no_bar, clean, clean_append, more_clean, no_bar, no_bar_append, no_one_bar, no_two_bars, upper_clean}

-- ---- one name more

at_push : (xs : List (List ℕ)) (y : List ℕ) (i : ℕ) (n : List ℕ) → slice_get (xs ++ y ∷ []) i ≡ Some n → (slice_get xs i ≡ Some n) ⊎ ((i ≡ length xs) × (y ≡ n))
at_push [] y zero n at = inr (refl, cc at)
at_push [] y (suc i) n at = absurd (cc at)
at_push (x ∷ xs) y zero n at = inl at
at_push (x ∷ xs) y (suc i) n at = ⊎_elim (λ (h : slice_get xs i ≡ Some n). inl h) (λ (h : (i ≡ length xs) × (y ≡ n)). inr (ap suc h.0, h.1)) (at_push xs y i n at)

at_end : (xs : List (List ℕ)) (y : List ℕ) → slice_get (xs ++ y ∷ []) (length xs) ≡ Some y
at_end [] y = refl
at_end (x ∷ xs) y = at_end xs y

differ_more : (names : List (List ℕ)) (last : List ℕ) → Differ names → ((i : ℕ) → slice_get names i ≡ Some last → ⊥) → Differ (names ++ last ∷ [])
differ_more names last differ apart = λ i j n at_i at_j. ⊎_elim
    (λ (hi : slice_get names i ≡ Some n). ⊎_elim
    (λ (hj : slice_get names j ≡ Some n). differ i j n hi hj)
    (λ (hj : (j ≡ length names) × (last ≡ n)). absurd (apart i (hi ∙ ap Some (sym hj.1))))
    (at_push names last j n at_j))
    (λ (hi : (i ≡ length names) × (last ≡ n)). ⊎_elim
    (λ (hj : slice_get names j ≡ Some n). absurd (apart j (hj ∙ ap Some (sym hi.1))))
    (λ (hj : (j ≡ length names) × (last ≡ n)). hi.0 ∙ sym hj.0)
    (at_push names last j n at_j))
    (at_push names last i n at_i)

-- ---- no mark in a name

weaken_step : (is : Bool) (t : List ℕ) → cond is (not true && clean true t) (clean false t) ≡ true → cond is (not false && clean true t) (clean false t) ≡ true
weaken_step true t h = absurd (cc h)
weaken_step false t h = h

weaken : (u : List ℕ) → clean true u ≡ true → clean false u ≡ true
weaken [] h = refl
weaken (b ∷ u) h = weaken_step (b == 95) u h

as_name_clean : (is : Bool) (u : List ℕ) → clean true u ≡ true → clean true (cond is (codes "N" ++ u) u) ≡ true
as_name_clean true u h = weaken u h
as_name_clean false u h = h

as_name_no_bar : (is : Bool) (u : List ℕ) → no_bar u ≡ true → no_bar (cond is (codes "N" ++ u) u) ≡ true
as_name_no_bar true u h = h
as_name_no_bar false u h = h

no_mark_capitals : (t : List ℕ) → clean true t ≡ true → HasNo (codes "__") t
no_mark_capitals t h = λ before after e. no_two_bars true before after (subst (λ (x : List ℕ). clean true x ≡ true) e h)

no_mark_camel : (t : List ℕ) → no_bar t ≡ true → HasNo (codes "_") t
no_mark_camel t h = λ before after e. no_one_bar before after (subst (λ (x : List ℕ). no_bar x ≡ true) e h)

pub no_mark_in_symbol : (style : Style) (text : List ℕ) → HasNo (mark_of style) (symbol_name style text)
no_mark_in_symbol Capitals text = no_mark_capitals (symbol_name Capitals text) (as_name_clean (begins_with_a_digit (words_in Capitals false text)) (words_in Capitals false text) (upper_clean text))
no_mark_in_symbol Camel text = no_mark_camel (symbol_name Camel text) (as_name_no_bar (begins_with_a_digit (words_in Camel false text)) (words_in Camel false text) (camel_no_bar text))

symbols_clean : (symbols : List SymbolText) → clean false (flat_map (symbol_words Capitals) symbols) ≡ true
symbols_clean [] = refl
symbols_clean (s ∷ symbols) = clean_append false (symbol_words Capitals s) (flat_map (symbol_words Capitals) symbols) (more_clean (string_bytes s.text)) (symbols_clean symbols)

symbols_no_bar : (symbols : List SymbolText) → no_bar (flat_map (symbol_words Camel) symbols) ≡ true
symbols_no_bar [] = refl
symbols_no_bar (s ∷ symbols) = no_bar_append (symbol_words Camel s) (flat_map (symbol_words Camel) symbols) (camel_no_bar (string_bytes s.text)) (symbols_no_bar symbols)

right_clean : (none : Bool) (symbols : List SymbolText) → clean false (cond none (words_in Capitals true (codes "empty")) (flat_map (symbol_words Capitals) symbols)) ≡ true
right_clean true symbols = more_clean (codes "empty")
right_clean false symbols = symbols_clean symbols

right_no_bar : (none : Bool) (symbols : List SymbolText) → no_bar (cond none (words_in Camel true (codes "empty")) (flat_map (symbol_words Camel) symbols)) ≡ true
right_no_bar true symbols = camel_no_bar (codes "empty")
right_no_bar false symbols = symbols_no_bar symbols

pub no_mark_in_production : (style : Style) (p : ProductionText) → HasNo (mark_of style) (production_name style p)
no_mark_in_production Capitals p =
    let first = words_in Capitals false (string_bytes p.left) in
    let verb = words_in Capitals true (codes "is") in
    let last = right_words Capitals p.right.items in
    let words = first ++ (verb ++ last) in
    no_mark_capitals (production_name Capitals p) (as_name_clean (begins_with_a_digit words) words (clean_append true first (verb ++ last) (upper_clean (string_bytes p.left)) (clean_append false verb last (more_clean (codes "is")) (right_clean (length p.right.items == 0) (take 6 p.right.items)))))
no_mark_in_production Camel p =
    let first = words_in Camel false (string_bytes p.left) in
    let verb = words_in Camel true (codes "is") in
    let last = right_words Camel p.right.items in
    let words = first ++ (verb ++ last) in
    no_mark_camel (production_name Camel p) (as_name_no_bar (begins_with_a_digit words) words (no_bar_append first (verb ++ last) (camel_no_bar (string_bytes p.left)) (no_bar_append verb last (camel_no_bar (codes "is")) (right_no_bar (length p.right.items == 0) (take 6 p.right.items)))))

-- each image of a function has no mark, if no result has
have_no : {X : Type 0} (mark : List ℕ) (f : X → List ℕ) → ((x : X) → HasNo mark (f x)) → (xs : List X) → HaveNo mark (map f xs)
have_no mark f none xs = λ i text at. at_image mark f none (slice_get xs i) text (sym (slice_get-map f xs i) ∙ at)
  where
    at_image : {X : Type 0} (mark : List ℕ) (f : X → List ℕ) → ((x : X) → HasNo mark (f x)) → (o : Option X) (text : List ℕ) → option_map f o ≡ Some text → HasNo mark text
    at_image mark f none None text e = absurd (cc e)
    at_image mark f none (Some x) text e = let same : f x ≡ text = cc e in subst (HasNo mark) same (none x)

-- ---- the names of each kind

pub symbols_differ : (style : Style) (bases : List (List ℕ)) (taken : List (List ℕ)) → HaveNo (mark_of style) bases → length bases < 2 ^ 64 → Differ (distinct_names bases (mark_of style) taken)
symbols_differ Capitals bases taken none few = names_differ bases taken (codes "_") none few
symbols_differ Camel bases taken none few = names_differ bases taken [] none few

pub symbols_are_free : (style : Style) (bases : List (List ℕ)) (taken : List (List ℕ)) → HaveNo (mark_of style) taken → AreApart (distinct_names bases (mark_of style) taken) taken
symbols_are_free Capitals bases taken none = names_are_free bases taken (codes "_") none
symbols_are_free Camel bases taken none = names_are_free bases taken [] none

fewer : {X Y : Type 0} (f : X → Y) (xs : List X) (n : ℕ) → length xs < n → length (map f xs) < n
fewer f xs n few = subst (λ k. k < n) (sym (length-map xs f)) few

pub nonterminals_differ : (style : Style) (names : List (List ℕ)) → length names < 2 ^ 64 → Differ (nonterminal_names style names)
nonterminals_differ style names few = symbols_differ style (map (symbol_name style) names) (reserved_in style) (have_no (mark_of style) (symbol_name style) (no_mark_in_symbol style) names) (fewer (symbol_name style) names (2 ^ 64) few)

pub productions_differ : (style : Style) (productions : List ProductionText) → length productions < 2 ^ 64 → Differ (production_names style productions)
productions_differ style productions few = symbols_differ style (map (production_name style) productions) (reserved_in style ++ flat_map (long_name style) productions) (have_no (mark_of style) (production_name style) (no_mark_in_production style) productions) (fewer (production_name style) productions (2 ^ 64) few)

-- what is taken of the names of terminals has no mark
reserved_no_mark : (style : Style) → HaveNo (mark_of style) (reserved_in style)
reserved_no_mark Capitals = λ i text at. absurd (cc at)
reserved_no_mark Camel = λ i text at. self_no_mark i text at
  where
    self_no_mark : (i : ℕ) (text : List ℕ) → slice_get (codes "Self" ∷ []) i ≡ Some text → HasNo (codes "_") text
    self_no_mark zero text at = let same : codes "Self" ≡ text = cc at in subst (HasNo (codes "_")) same (no_mark_camel (codes "Self") refl)
    self_no_mark (suc i) text at = absurd (cc at)

pushed_no_mark : (mark : List ℕ) (texts : List (List ℕ)) (last : List ℕ) → HaveNo mark texts → HasNo mark last → HaveNo mark (texts ++ last ∷ [])
pushed_no_mark mark texts last none own = λ i text at. ⊎_elim
    (λ (h : slice_get texts i ≡ Some text). none i text h)
    (λ (h : (i ≡ length texts) × (last ≡ text)). subst (HasNo mark) h.1 own)
    (at_push texts last i text at)

pub terminals_differ : (style : Style) (terminals : List (List ℕ)) → length terminals < 2 ^ 64 → Differ (terminal_names style terminals)
terminals_differ style terminals few =
    let end = symbol_name style (codes "end") in
    let taken = reserved_in style ++ end ∷ [] in
    let bases = map (symbol_name style) terminals in
    let none = pushed_no_mark (mark_of style) (reserved_in style) end (reserved_no_mark style) (no_mark_in_symbol style (codes "end")) in
    differ_more (distinct_names bases (mark_of style) taken) end
    (symbols_differ style bases taken (have_no (mark_of style) (symbol_name style) (no_mark_in_symbol style) terminals) (fewer (symbol_name style) terminals (2 ^ 64) few))
    (λ i at. symbols_are_free style bases taken none i (length (reserved_in style)) end at (at_end (reserved_in style) end))
