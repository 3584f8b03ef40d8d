-- The grammar that lines give is well-formed.
use Rattle.std.proofs.Common.{◌≡◌, ℕ, suc, zero, ◌+◌, ◌<◌, ◌≤◌, Bool, true, false, ◌||◌, List, [], ◌∷◌, ◌++◌, length, Option, None, Some, cond, option_map, refl, sym, ap, ◌∙◌, subst, arith, add-zero, get_or}
use Rattle.std.specs.Prelude.{filter, find, Contains, All, vec_len, slice_get}
use Rattle.std.specs.List.{flat_map, list_any}
use Rattle.std.specs.Ordering.{is_eq, ordering_reverse}
use Rattle.std.specs.declared.cmp.Ordering.{Ordering}
use Rattle.std.specs.declared.cmp.Ordering.TheVariants.{Less, Equal, Greater}
use Rattle.std.specs.List.Sorted.{IsStrictlySortedBy}
use Rattle.std.proofs.lemmas.Map.Keys.{Less-from_sorted}
use Rattle.lalrpop_grammar.specs.declared.repr.TerminalString.TheVariants.{Literal, Bare, Error}
use Rattle.std.specs.BTreeMap.{BTreeMap, get, IsOrdered}
use Rattle.std.specs.BTreeSet as set
use Rattle.std.specs.BTreeSet.{BTreeSet}
use Rattle.std.proofs.lemmas.List.{length-map}
use Rattle.std.proofs.lemmas.List.Elements.{All-cons, All-contains, All-filter, All-contains_itself, filter_passes, Contains-append_left, Contains-append_right}
use Rattle.std.proofs.lemmas.Option.{slice_get_within, get_or_from_slice_get}
use Rattle.std.proofs.lemmas.Map.Entries.{btree_map_get_place}
use Rattle.std.proofs.lemmas.Map.Lookups.{CmpEqualImpliesEq, exact_bytes}
use Rattle.std.proofs.lemmas.Map.Views.{btree_set_contains_iff}
use Rattle.lalrpop_base.specs.Words.{AllDiffer, IsFirstRepeat, name_exact, IsWellFormed, IsWellFormedEntry, IsWellFormedProduction, name_cmp}
use Rattle.lalrpop_grammar.specs.contracts.repr.NonterminalStringOrd.TheImpl.Laws as name_order
use Rattle.lalrpop_grammar.specs.contracts.repr.TerminalStringOrd.TheImpl.Laws as terminal_order
use Rattle.lalrpop_grammar.specs.declared.repr.NonterminalString.{NonterminalString}
use Rattle.lalrpop_grammar.specs.declared.repr.TerminalString.{TerminalString}
use Rattle.lalrpop_grammar.specs.declared.repr.Symbol.TheVariants.{Terminal}
use Rattle.lalrpop_grammar.specs.declared.repr.Production.{Production}
use Rattle.lalrpop_grammar.specs.declared.repr.Span.{Span}
use Rattle.lalrpop_grammar.specs.declared.repr.grammar.Attribute.{Attribute}
use Rattle.lalrpop_grammar.specs.declared.repr.grammar.Grammar.{Grammar}
use Rattle.lalrpop_grammar.specs.declared.repr.grammar.NonterminalData.{NonterminalData}
use Rattle.grammar_text.specs.declared.lines.Line.{Line}
use Rattle.grammar_text.specs.declared.lines.Line.TheVariants.{Blank, Production as production_line, Inline, Fault}
use Rattle.grammar_text.specs.declared.lines.PlacedLine.{PlacedLine}
use Rattle.grammar_text.specs.Grammar.{terminal_of, terminals_of, terminals_in, terminal_cmp, user_action, productions_in, productions_from, production_of, has_name, names, marks_in, StandsFor, AreTerminalsOf}
use Rattle.lalrpop_grammar.specs.grammars.Entries.{entry_view}
use Rattle.lalrpop_grammar.specs.grammars.Entries.{Entry}
use Rattle.grammar_text.specs.declared.collected.Collected.{Collected}
use Rattle.grammar_text.specs.Collected.{IsCollected, is_same}
use Rattle.grammar_text.proofs.Numbered.{entry_from}
use Rattle.lalrpop_collections.proofs.theory.lists.Lists.{contains_place, place_contains}

-- the actions of productions are k, k + 1 and so on
abbrev IsNumberedFrom : ℕ → List Production → Type 0
IsNumberedFrom k [] = Unit {0}
IsNumberedFrom k (p ∷ ps) = (p.action.0 ≡ k) × IsNumberedFrom (k + 1) ps

numbered_line : (k : ℕ) (span : Span) (line : Line) (ps : List Production) → IsNumberedFrom (k + length (production_of k span line)) ps → IsNumberedFrom k (production_of k span line ++ ps)
numbered_line k span Blank ps h = let P : ℕ → Type 0 = λ n. IsNumberedFrom n ps in subst P (add-zero k) h
numbered_line k span (production_line a symbols) ps h = (refl, h)
numbered_line k span (Inline a) ps h = let P : ℕ → Type 0 = λ n. IsNumberedFrom n ps in subst P (add-zero k) h
numbered_line k span Fault ps h = let P : ℕ → Type 0 = λ n. IsNumberedFrom n ps in subst P (add-zero k) h

numbered : (k : ℕ) (ls : List PlacedLine) → IsNumberedFrom k (productions_from k ls)
numbered k [] = tt
numbered k (l ∷ ls) = numbered_line k l.span l.line _ (numbered (k + length (production_of k l.span l.line)) ls)

below : (n k : ℕ) (ps : List Production) → IsNumberedFrom k ps → k + length ps ≤ n → All (λ (p : Production). p.action.0 < n) ps
below n k [] h le = λ i d lt. omega arith
below n k (p ∷ ps) h le = All-cons (λ (p : Production). p.action.0 < n) p ps (omega (arith, h.0)) (below n (k + 1) ps h.1 (omega arith))

-- the actions of productions are at least k and ascend
abbrev Rises : ℕ → List Production → Type 0
Rises k [] = Unit {0}
Rises k (p ∷ ps) = (k ≤ p.action.0) × Rises (p.action.0 + 1) ps

rises_less : (m n : ℕ) (ps : List Production) → m ≤ n → Rises n ps → Rises m ps
rises_less m n [] le h = tt
rises_less m n (p ∷ ps) le h = (omega (arith, h.0), h.1)

rises_numbered : (k : ℕ) (ps : List Production) → IsNumberedFrom k ps → Rises k ps
rises_numbered k [] h = tt
rises_numbered k (p ∷ ps) h = (omega (arith, h.0), rises_less (p.action.0 + 1) (k + 1) ps (omega (arith, h.0)) (rises_numbered (k + 1) ps h.1))

rises_kept : (keep : Bool) (k : ℕ) (p : Production) (ps : List Production) → k ≤ p.action.0 → Rises (p.action.0 + 1) ps → Rises k (cond keep (p ∷ ps) ps)
rises_kept true k p ps le h = (le, h)
rises_kept false k p ps le h = rises_less k (p.action.0 + 1) ps (omega arith) h

rises_filter : (q : Production → Bool) (k : ℕ) (ps : List Production) → Rises k ps → Rises k (filter q ps)
rises_filter q k [] h = tt
rises_filter q k (p ∷ ps) h = rises_kept (q p) k p (filter q ps) h.0 (rises_filter q (p.action.0 + 1) ps h.1)

rises_above : (k : ℕ) (ps : List Production) (j : ℕ) (x : Production) → Rises k ps → slice_get ps j ≡ Some x → k ≤ x.action.0
rises_above k [] j x h e = cc
rises_above k (p ∷ ps) zero x h e = let same : p ≡ x = cc in let P : Production → Type 0 = λ y. k ≤ y.action.0 in subst P same h.0
rises_above k (p ∷ ps) (suc j) x h e = omega (arith, h.0, rises_above (p.action.0 + 1) ps j x h.1 e)

differ : (k : ℕ) (ps : List Production) → Rises k ps → AllDiffer ps
differ k [] h i j x lt e f = cc
differ k (p ∷ ps) h i zero x lt e f = omega arith
differ k (p ∷ ps) h zero (suc j) x lt e f =
    let same : p ≡ x = cc in
    let number : p.action.0 ≡ x.action.0 = ap (λ (y : Production). y.action.0) same in
    omega (arith, number, rises_above (p.action.0 + 1) ps j x h.1 f)
differ k (p ∷ ps) h (suc i) (suc j) x lt e f = differ (p.action.0 + 1) ps h.1 i j x (omega arith) e f

in_flat : {X A : Type 0} (f : X → List A) (xs : List X) (k : ℕ) (x : X) (y : A) → slice_get xs k ≡ Some x → Contains (f x) y → Contains (flat_map f xs) y
in_flat f [] k x y e c = cc
in_flat {X} {A} f (z ∷ xs) zero x y e c = let same : x ≡ z = cc in let P : X → Type 0 = λ w. Contains (f w) y in Contains-append_left (f z) (flat_map f xs) y (subst P same c)
in_flat f (z ∷ xs) (suc k) x y e c = Contains-append_right (f z) (flat_map f xs) y (in_flat f xs k x y e c)

-- a terminal of the right side of a production is among the terminals of all productions
known : (ps : List Production) (p : Production) → Contains ps p → (k : ℕ) (t : TerminalString) → slice_get p.symbols k ≡ Some (Terminal t) → Contains (terminals_in ps) t
known ps p c k t e =
    let at = contains_place ps p c in
    in_flat (λ (x : Production). terminals_of x.symbols) ps at.0 p t at.1 (in_flat terminal_of p.symbols k (Terminal t) t e (place_contains (t ∷ []) 0 t refl))

listed : (e : Entry) (ps : List Production) (marks : List Attribute) (found : Option PlacedLine) → Some e ≡ entry_from ps marks found → e.productions ≡ ps
listed e ps marks None h = cc
listed e ps marks (Some first) h = let same : e ≡ record { productions = ps; attributes = marks; span = first.span } = cc in ap (λ (x : Entry). x.productions) same

-- the entry of a name has the productions of that name
entry_listed : (ls : List PlacedLine) (g : Grammar) (name : NonterminalString) (entry : NonterminalData) → StandsFor ls g → get name_cmp g.nonterminals name ≡ Some entry → entry.productions.items ≡ filter (has_name name) (productions_in ls)
entry_listed ls g name entry stands found =
    listed (entry_view entry) (filter (has_name name) (productions_in ls)) (marks_in name ls) (find (names name) ls) (ap (option_map entry_view) (sym found) ∙ stands.entries name)

one_of : (ls : List PlacedLine) (g : Grammar) (name : NonterminalString) (p : Production) → StandsFor ls g → Contains (filter (has_name name) (productions_in ls)) p → IsWellFormedProduction g.terminals (vec_len g.action_fn_defns) name p
one_of ls g name p stands c =
    let ps = productions_in ls in
    let there : Contains ps p = All-contains (Contains ps) (filter (has_name name) ps) p (All-filter (has_name name) (Contains ps) ps (All-contains_itself ps)) c in
    let passes : has_name name p ≡ true = All-contains (λ x. has_name name x ≡ true) (filter (has_name name) ps) p (filter_passes (has_name name) ps) c in
    let counted : vec_len g.action_fn_defns ≡ length ps = g.action_fn_defns.ok.0 ∙ ap length stands.actions ∙ length-map ps (λ _. user_action) in
    let low : p.action.0 < length ps = All-contains (λ (x : Production). x.action.0 < length ps) ps p (below (length ps) 0 ps (numbered 0 ls) (omega arith)) there in
    record {
      named = name_exact p.nonterminal name passes;
      known = λ k t e. (stands.terminals.found t).1 (known ps p there k t e);
      numbered = omega (arith, counted, low);
    }

-- the grammar that lines give is well-formed
pub well_formed : (ls : List PlacedLine) (g : Grammar) → StandsFor ls g → IsWellFormed g
well_formed ls g stands k name entry e =
    let found = btree_map_get_place name_order.total-law g.nonterminals k name entry stands.ordered e in
    let same = entry_listed ls g name entry stands found in
    let kept = filter (has_name name) (productions_in ls) in
    let P : List Production → Type 0 = IsWellFormedEntry g.terminals (vec_len g.action_fn_defns) name in
    subst P (sym same) (record {
      each = λ i p at. one_of ls g name p stands (place_contains kept i p at);
      differ = differ 0 kept (rises_filter (has_name name) 0 (productions_in ls) (rises_numbered 0 (productions_in ls) (numbered 0 ls)));
    })

exact_terminals : CmpEqualImpliesEq terminal_cmp
exact_terminals (Literal a) (Literal b) e = ap Literal (exact_bytes a b e)
exact_terminals (Bare a) (Bare b) e = ap Bare (exact_bytes a b e)
exact_terminals Error Error e = refl
exact_terminals (Literal a) (Bare b) e = cc
exact_terminals (Literal a) Error e = cc
exact_terminals (Bare a) (Literal b) e = cc
exact_terminals (Bare a) Error e = cc
exact_terminals Error (Literal b) e = cc
exact_terminals Error (Bare b) e = cc

equal_from : (r : Ordering) → is_eq r ≡ true → r ≡ Equal
equal_from Less h = cc
equal_from Equal h = refl
equal_from Greater h = cc

equal_itself : (r : Ordering) → r ≡ ordering_reverse r → r ≡ Equal
equal_itself Less h = cc
equal_itself Equal h = refl
equal_itself Greater h = cc

-- a terminal is equal to itself
same_terminal : (t : TerminalString) → terminal_cmp t t ≡ Equal
same_terminal t = equal_itself (terminal_cmp t t) (terminal_order.total-law.antisymm t t)

any_step : (t x : TerminalString) (xs : List TerminalString) (b : Bool) → (b ≡ true → x ≡ t) → (list_any (λ y. is_same y t) xs ≡ true → Contains xs t) → (b || list_any (λ y. is_same y t) xs) ≡ true → Contains (x ∷ xs) t
any_step t x xs true same rest h = place_contains (x ∷ xs) 0 t (ap Some (same refl))
any_step t x xs false same rest h = Contains-append_right (x ∷ []) xs t (rest h)

any_to : (t : TerminalString) (xs : List TerminalString) → list_any (λ x. is_same x t) xs ≡ true → Contains xs t
any_to t [] h = cc
any_to t (x ∷ xs) h = any_step t x xs (is_same x t) (λ e. exact_terminals x t (equal_from (terminal_cmp x t) e)) (any_to t xs) h

or_true : (b c : Bool) → c ≡ true → (b || c) ≡ true
or_true true c h = refl
or_true false c h = h

any_at : (t : TerminalString) (xs : List TerminalString) (k : ℕ) → slice_get xs k ≡ Some t → list_any (λ x. is_same x t) xs ≡ true
any_at t [] k e = cc
any_at t (x ∷ xs) zero e =
    let same : x ≡ t = cc in
    ap (λ y. is_same y t || list_any (λ x. is_same x t) xs) same ∙ ap (λ r. is_eq r || list_any (λ x. is_same x t) xs) (same_terminal t)
any_at t (x ∷ xs) (suc k) e = or_true (is_same x t) (list_any (λ x. is_same x t) xs) (any_at t xs k e)

any_from : (t : TerminalString) (xs : List TerminalString) → Contains xs t → list_any (λ x. is_same x t) xs ≡ true
any_from t xs c = let at = contains_place xs t c in any_at t xs at.0 at.1

-- an ascending list of terminals has no repeated terminal
pub no_repeat : (xs : List TerminalString) → IsStrictlySortedBy terminal_cmp xs → (place : ℕ) (x : TerminalString) → IsFirstRepeat xs place x → ⊥
no_repeat xs ordered place x repeat =
    let k = repeat.before.0 in
    let less = Less-from_sorted terminal_cmp xs k place x ordered repeat.before.1 (slice_get_within xs place x repeat.there) in
    let first : get_or xs k x ≡ x = get_or_from_slice_get xs k x x repeat.before.2 in
    let second : get_or xs place x ≡ x = get_or_from_slice_get xs place x x repeat.there in
    let both : terminal_cmp x x ≡ Less = ap (λ y. terminal_cmp y x) (sym first) ∙ ap (λ y. terminal_cmp (get_or xs k x) y) (sym second) ∙ less in
    let never : Equal ≡ Less = sym (same_terminal x) ∙ both in
    cc

-- the keys of the set that was collected are the terminals of the right sides
pub terminals_found : (ls : List PlacedLine) (s : BTreeSet TerminalString) → set.IsOrdered terminal_cmp s → ((t : TerminalString) → set.contains terminal_cmp s t ≡ list_any (λ x. is_same x t) (terminals_in (productions_in ls))) → AreTerminalsOf ls s.keys
terminals_found ls s ordered has = record {
  ascending = ordered;
  found = λ t.
      let iff = btree_set_contains_iff terminal_order.total-law exact_terminals s t in
      (λ c. any_to t (terminals_in (productions_in ls)) (sym (has t) ∙ iff.1 c), λ c. iff.0 (has t ∙ any_from t (terminals_in (productions_in ls)) c));
}

-- a grammar that has the parts that were collected is the one that lines give
pub stands_for : (ls : List PlacedLine) (c : Collected) (g : Grammar) → IsCollected ls c → g.nonterminals ≡ c.nonterminals → g.terminals ≡ c.terminals.keys → IsStrictlySortedBy terminal_cmp g.terminals
    → g.action_fn_defns.items ≡ c.action_fn_defns.items → g.algorithm.lalr ≡ false → StandsFor ls g
stands_for ls c g was entries terminals ascending actions lane =
    let P : List TerminalString → Type 0 = IsStrictlySortedBy terminal_cmp in
    let Q : List TerminalString → Type 0 = AreTerminalsOf ls in
    let R : BTreeMap NonterminalString NonterminalData → Type 0 = IsOrdered name_cmp in
    record {
      ordered = subst R (sym entries) was.ordered;
      entries = λ a. ap (λ m. option_map entry_view (get name_cmp m a)) entries ∙ was.entries a;
      terminals = subst Q (sym terminals) (terminals_found ls c.terminals (subst P terminals ascending) was.terminals);
      actions = actions ∙ was.actions;
      algorithm = lane;
    }
