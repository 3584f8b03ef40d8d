-- How what was collected grows by a line.
use Rattle.std.proofs.Common.{◌≡◌, ◌⊎◌, inl, inr, ℕ, Bool, true, false, ◌||◌, List, [], ◌∷◌, ◌++◌, map, length, Option, None, Some, cond, option_map, refl, sym, ap, ◌∙◌}
use Rattle.std.specs.List.{list_any}
use Rattle.std.specs.Ordering.{is_eq, nat_cmp}
use Rattle.std.specs.Cmp.Lexicographic.{slice_cmp}
use Rattle.std.specs.Str.{bytes_eq}
use Rattle.std.specs.BTreeMap.{BTreeMap, get, is_at, IsOrdered}
use Rattle.std.proofs.lemmas.Map.Text.{is_eq-slice_cmp}
use Rattle.lalrpop_base.specs.Words.{name_cmp, name_exact}
use Rattle.lalrpop_grammar.specs.declared.repr.NonterminalString.{NonterminalString}
use Rattle.lalrpop_grammar.specs.declared.repr.TerminalString.{TerminalString}
use Rattle.lalrpop_grammar.specs.declared.repr.Symbol.{Symbol}
use Rattle.lalrpop_grammar.specs.declared.repr.Production.{Production}
use Rattle.lalrpop_grammar.specs.declared.repr.grammar.NonterminalData.{NonterminalData}
use Rattle.std.proofs.lemmas.List.{map-append, append-nil, length-map}
use Rattle.std.proofs.lemmas.List.Folds.{list_any-append}
use Rattle.std.proofs.lemmas.Grind.{flat_map-append}
use Rattle.std.specs.BTreeSet.{contains}
use Rattle.lalrpop_grammar.specs.declared.repr.ActionFn.{ActionFn}
use Rattle.lalrpop_grammar.specs.declared.repr.Span.{Span}
use Rattle.grammar_text.specs.declared.lines.Line.TheVariants.{Blank, Fault}
use Rattle.grammar_text.specs.declared.lines.PlacedLine.{PlacedLine}
use Rattle.grammar_text.specs.declared.collected.Collected.{Collected}
use Rattle.grammar_text.specs.Grammar.{with_production, with_mark, terminals_of, terminals_in, terminal_cmp, user_action, entry_of, productions_in, production_of, names, line_names}
use Rattle.lalrpop_grammar.specs.grammars.Entries.{entry_view}
use Rattle.lalrpop_grammar.specs.grammars.Entries.{Entry}
use Rattle.grammar_text.specs.Collected.{IsCollected, is_same, production_at, inline_at}
use Rattle.grammar_text.proofs.Numbered.{productions_in-more, entry_of-more, entry_of-marked, entry_of-same}

grown_at : (b : Bool) (grown : NonterminalData) (old without new : Option NonterminalData) (w : Option Entry) → without ≡ cond b None old → new ≡ cond b (Some grown) without → Some (entry_view grown) ≡ w
    → option_map entry_view new ≡ cond b w (option_map entry_view old)
grown_at true grown old without new w e f g = ap (option_map entry_view) f ∙ g
grown_at false grown old without new w e f g = ap (option_map entry_view) (f ∙ e)

-- the entry of a name grows by a production, and the other entries stay
pub entries_grown : (m without n : BTreeMap NonterminalString NonterminalData) (name : NonterminalString) (grown : NonterminalData) (entry : Option NonterminalData) (p : Production)
    → ((a : NonterminalString) → get name_cmp without a ≡ cond (is_at (name_cmp name) a) None (get name_cmp m a))
    → ((a : NonterminalString) → get name_cmp n a ≡ cond (is_at (name_cmp name) a) (Some grown) (get name_cmp without a))
    → entry ≡ get name_cmp m name → Some (entry_view grown) ≡ with_production (option_map entry_view entry) p
    → (a : NonterminalString) → option_map entry_view (get name_cmp n a) ≡ cond (bytes_eq name.text a.text) (with_production (option_map entry_view (get name_cmp m name)) p) (option_map entry_view (get name_cmp m a))
entries_grown m without n name grown entry p removed inserted was made a =
    let w = with_production (option_map entry_view (get name_cmp m name)) p in
    let is : Some (entry_view grown) ≡ w = made ∙ ap (λ e. with_production (option_map entry_view e) p) was in
    grown_at (is_eq (slice_cmp nat_cmp name.text a.text)) grown (get name_cmp m a) (get name_cmp without a) (get name_cmp n a) w (removed a) (inserted a) is
    ∙ ap (λ b. cond b w (option_map entry_view (get name_cmp m a))) (is_eq-slice_cmp name.text a.text)

-- the entry of a name grows by a mark, and the other entries stay
pub entries_marked : (m without n : BTreeMap NonterminalString NonterminalData) (name : NonterminalString) (grown : NonterminalData) (entry : Option NonterminalData) (span : Span)
    → ((a : NonterminalString) → get name_cmp without a ≡ cond (is_at (name_cmp name) a) None (get name_cmp m a))
    → ((a : NonterminalString) → get name_cmp n a ≡ cond (is_at (name_cmp name) a) (Some grown) (get name_cmp without a))
    → entry ≡ get name_cmp m name → Some (entry_view grown) ≡ with_mark (option_map entry_view entry) span
    → (a : NonterminalString) → option_map entry_view (get name_cmp n a) ≡ cond (bytes_eq name.text a.text) (with_mark (option_map entry_view (get name_cmp m name)) span) (option_map entry_view (get name_cmp m a))
entries_marked m without n name grown entry span removed inserted was made a =
    let w = with_mark (option_map entry_view (get name_cmp m name)) span in
    let is : Some (entry_view grown) ≡ w = made ∙ ap (λ e. with_mark (option_map entry_view e) span) was in
    grown_at (is_eq (slice_cmp nat_cmp name.text a.text)) grown (get name_cmp m a) (get name_cmp without a) (get name_cmp n a) w (removed a) (inserted a) is
    ∙ ap (λ b. cond b w (option_map entry_view (get name_cmp m a))) (is_eq-slice_cmp name.text a.text)

-- a production with an action and a span
abbrev pub production_with : NonterminalString → List Symbol → ActionFn → Span → Production
production_with a symbols action span = record { nonterminal = a; symbols = symbols; action = action; span = span }

named_once : (named : Bool) (a b : NonterminalString) (ls : List PlacedLine) (p : Production) → (named ≡ true → b ≡ a)
    → cond named (with_production (entry_of b ls) p) (entry_of a ls) ≡ cond named (with_production (entry_of a ls) p) (entry_of a ls)
named_once true a b ls p h = ap (λ x. with_production (entry_of x ls) p) (h refl)
named_once false a b ls p h = refl

-- a terminal passes among those of productions and one more exactly if it passes among those of the
-- productions or of the one
terminals_in-more : (p : TerminalString → Bool) (ps : List Production) (q : Production) → list_any p (terminals_in (ps ++ q ∷ [])) ≡ (list_any p (terminals_in ps) || list_any p (terminals_of q.symbols))
terminals_in-more p ps q =
    ap (list_any p) (flat_map-append (λ (x : Production). terminals_of x.symbols) ps (q ∷ []) ∙ ap (λ ts. terminals_in ps ++ ts) (append-nil (terminals_of q.symbols)))
    ∙ list_any-append p (terminals_in ps) (terminals_of q.symbols)

-- if what was collected of lines grows by a production, it is collected of the lines and that one
pub collected_more : (ls : List PlacedLine) (old new : Collected) (a name : NonterminalString) (symbols : List Symbol) (action : ActionFn) (span : Span) → IsCollected ls old
    → action.0 ≡ length old.action_fn_defns.items → name ≡ a
    → ((b : NonterminalString) → option_map entry_view (get name_cmp new.nonterminals b)
    ≡ cond (bytes_eq name.text b.text) (with_production (option_map entry_view (get name_cmp old.nonterminals name)) (production_with a symbols action span)) (option_map entry_view (get name_cmp old.nonterminals b)))
    → IsOrdered name_cmp new.nonterminals
    → ((t : TerminalString) → contains terminal_cmp new.terminals t ≡ (contains terminal_cmp old.terminals t || list_any (λ x. is_same x t) (terminals_of symbols)))
    → new.action_fn_defns.items ≡ old.action_fn_defns.items ++ user_action ∷ []
    → IsCollected (ls ++ production_at a symbols span ∷ []) new
collected_more ls old new a name symbols action span was number same entries ordered terminals actions =
    let l = production_at a symbols span in
    let p = production_with a symbols action span in
    let make : ℕ → ActionFn = λ n. record { 0 = n } in
    let counted : action.0 ≡ length (productions_in ls) = number ∙ ap length was.actions ∙ length-map (productions_in ls) (λ _. user_action) in
    let more : productions_in (ls ++ l ∷ []) ≡ productions_in ls ++ p ∷ [] = productions_in-more ls l ∙ ap (λ n. productions_in ls ++ production_with a symbols (make n) span ∷ []) (sym counted) in
    record {
      entries = λ b.
          entries b
          ∙ ap (λ x. cond (bytes_eq x.text b.text) (with_production (option_map entry_view (get name_cmp old.nonterminals x)) p) (option_map entry_view (get name_cmp old.nonterminals b))) same
          ∙ ap (λ e. cond (bytes_eq a.text b.text) (with_production e p) (option_map entry_view (get name_cmp old.nonterminals b))) (was.entries a)
          ∙ ap (λ e. cond (bytes_eq a.text b.text) (with_production (entry_of a ls) p) e) (was.entries b)
          ∙ named_once (bytes_eq a.text b.text) b a ls p (name_exact a b)
          ∙ sym (entry_of-more b a ls l p more refl refl refl);
      ordered = ordered;
      terminals = λ t.
          terminals t
          ∙ ap (λ x. x || list_any (λ x. is_same x t) (terminals_of symbols)) (was.terminals t)
          ∙ sym (terminals_in-more (λ x. is_same x t) (productions_in ls) p)
          ∙ ap (λ ps. list_any (λ x. is_same x t) (terminals_in ps)) (sym more);
      actions = actions ∙ ap (λ ds. ds ++ user_action ∷ []) was.actions ∙ sym (map-append (λ _. user_action) (productions_in ls) (p ∷ [])) ∙ ap (λ ps. map (λ _. user_action) ps) (sym more);
    }

marked_once : (named : Bool) (a b : NonterminalString) (ls : List PlacedLine) (span : Span) → (named ≡ true → b ≡ a)
    → cond named (with_mark (entry_of b ls) span) (entry_of a ls) ≡ cond named (with_mark (entry_of a ls) span) (entry_of a ls)
marked_once true a b ls span h = ap (λ x. with_mark (entry_of x ls) span) (h refl)
marked_once false a b ls span h = refl

-- if what was collected of lines grows by a mark, it is collected of the lines and that one
pub collected_marked : (ls : List PlacedLine) (old new : Collected) (a : NonterminalString) (span : Span) → IsCollected ls old
    → ((b : NonterminalString) → option_map entry_view (get name_cmp new.nonterminals b)
    ≡ cond (bytes_eq a.text b.text) (with_mark (option_map entry_view (get name_cmp old.nonterminals a)) span) (option_map entry_view (get name_cmp old.nonterminals b)))
    → IsOrdered name_cmp new.nonterminals → new.terminals ≡ old.terminals → new.action_fn_defns ≡ old.action_fn_defns → IsCollected (ls ++ inline_at a span ∷ []) new
collected_marked ls old new a span was entries ordered terminals actions =
    let l = inline_at a span in
    let same : productions_in (ls ++ l ∷ []) ≡ productions_in ls = productions_in-more ls l ∙ append-nil (productions_in ls) in
    record {
      entries = λ b.
          entries b
          ∙ ap (λ e. cond (bytes_eq a.text b.text) (with_mark e span) (option_map entry_view (get name_cmp old.nonterminals b))) (was.entries a)
          ∙ ap (λ e. cond (bytes_eq a.text b.text) (with_mark (entry_of a ls) span) e) (was.entries b)
          ∙ marked_once (bytes_eq a.text b.text) b a ls span (name_exact a b)
          ∙ sym (entry_of-marked b a ls l same (bytes_eq a.text b.text) refl refl);
      ordered = ordered;
      terminals = λ t. ap (λ s. contains terminal_cmp s t) terminals ∙ was.terminals t ∙ ap (λ ps. list_any (λ x. is_same x t) (terminals_in ps)) (sym same);
      actions = ap (λ d. d.items) actions ∙ was.actions ∙ ap (λ ps. map (λ _. user_action) ps) (sym same);
    }

idle : (l : PlacedLine) → (l.line ≡ Blank) ⊎ (l.line ≡ Fault) → ((n : ℕ) → production_of n l.span l.line ≡ []) × ((a : NonterminalString) → names a l ≡ false)
idle l (inl e) = (λ n. ap (production_of n l.span) e, λ a. ap (line_names a) e)
idle l (inr e) = (λ n. ap (production_of n l.span) e, λ a. ap (line_names a) e)

-- what was collected of lines is collected of them and a line without a production or mark, too
pub collected_same : (ls : List PlacedLine) (c : Collected) (l : PlacedLine) → IsCollected ls c → (l.line ≡ Blank) ⊎ (l.line ≡ Fault) → IsCollected (ls ++ l ∷ []) c
collected_same ls c l was is =
    let (none, unnamed) = idle l is in
    let same : productions_in (ls ++ l ∷ []) ≡ productions_in ls = productions_in-more ls l ∙ ap (λ ps. productions_in ls ++ ps) (none (length (productions_in ls))) ∙ append-nil (productions_in ls) in
    record {
      entries = λ a. was.entries a ∙ sym (entry_of-same a ls l same (unnamed a));
      ordered = was.ordered;
      terminals = λ t. was.terminals t ∙ ap (λ ps. list_any (λ x. is_same x t) (terminals_in ps)) (sym same);
      actions = was.actions ∙ ap (λ ps. map (λ _. user_action) ps) (sym same);
    }
