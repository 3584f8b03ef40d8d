-- The text of an explained conflict is the part of the conflict.
use Rattle.std.proofs.Common.{◌≡◌, ℕ, ◌+◌, List, [], ◌∷◌, ◌++◌, length, refl, sym, ◌∙◌, ap, subst, append-nil}
use Rattle.std.specs.Prelude.{codes}
use Rattle.std.specs.List.{flat_map}
use Rattle.lalrpop_base.specs.Words.{Bits, Dotted, Rules}
use Rattle.lalrpop_states.specs.declared.lr1_core.state.Action.{Action}
use Rattle.lalrpop_states.specs.declared.lr1_core.state.Action.TheVariants.{Shift, Reduce}
use Rattle.lalrpop_states.specs.declared.lr1_core.state.Conflict.{Conflict}
use Rattle.lalrpop_states.specs.declared.lr1_core.state.State.{State}
use Rattle.lalrpop_states.specs.declared.lr1_core.state.StateIndex.{StateIndex}
use Rattle.lalrpop_grammar.specs.declared.repr.Production.{Production}
use Rattle.lalrpop_grammar.specs.declared.repr.TerminalString.{TerminalString}
use Rattle.lalrpop_lr1.specs.Words.{AreExamplesOf, AreExplainedBy, AreExplainedShifts, IsExampleOf, IsExplained, IsExplainedReduction, Graph, prefixes, production_line}
use Rattle.lalrpop_explain.specs.explained.ExplainedConflicts.{no_item, other, shifting}
use Rattle.lalrpop_explain.specs.explained.FirstExamples.{no_example, one_example}
use Rattle.lalrpop_explain.specs.declared.explain.ExplainedConflict.{ExplainedConflict}
use Rattle.lalrpop_explain.specs.declared.explain.ExplainedItem.{ExplainedItem}
use Rattle.lalrpop_traces.specs.declared.trace.example.Example.{Example}
use Rattle.lrtab_run.specs.Explained.{HasParts, IsActionPart, IsConflictPart, IsItemPart, IsReducePart, indented_line, no_part, other as other_item, part, path_line, path_lines, shifting as shifting_item}
use Rattle.lrtab_run.specs.Explaining.{action_text, conflict_text, example_line, example_lines, reduction_text}

-- the line of an example is that of its path
line_of_path : (graph : Graph) (path : List ℕ) (x : Example) → IsExampleOf graph path x → example_line x ≡ path_line graph path
line_of_path graph path x h = ap (λ n. indented_line x.symbols.items n) h.cursor ∙ ap (λ xs. indented_line xs (length (prefixes graph path))) h.symbols

lines_of_paths : (graph : Graph) (paths : List (List ℕ)) (xs : List Example) → AreExamplesOf graph paths xs → flat_map example_line xs ≡ path_lines graph paths
lines_of_paths graph [] [] no_example = refl
lines_of_paths graph [] (x ∷ xs) h = elim h [ ]
lines_of_paths graph (path ∷ paths) [] h = elim h [ ]
lines_of_paths graph (path ∷ paths) (x ∷ xs) (one_example is others) =
    ap (λ l. l ++ flat_map example_line xs) (line_of_path graph path x is) ∙ ap (λ l. path_line graph path ++ l) (lines_of_paths graph paths xs others)

module _ (g : Rules) (states : List (State Bits)) (state : StateIndex) where
  reduction_part : (lookahead : Bits) (p : Production) (item : ExplainedItem) → IsExplainedReduction g states 3 state lookahead p item → IsReducePart g states state lookahead p (reduction_text item)
  reduction_part lookahead p item h =
      let e = h.examples in
      record {
        examples = example_lines item;
        of_item = record { graph = e.graph; traced = e.traced; ordered = e.ordered; first = e.first; are_first = e.are_first; shown = lines_of_paths e.graph e.first item.examples.items e.spelled };
        shown = ap (λ (q : Production). codes "  reduce " ++ (production_line q ++ example_lines item)) h.production;
      }

  shift_parts : (t : TerminalString) (n : ℕ) (items : List (Dotted Bits)) (xs : List ExplainedItem) → AreExplainedShifts g states 3 state t items xs → HasParts (λ _ item. IsItemPart g states state t item) n items (flat_map example_lines xs)
  shift_parts t n [] [] no_item = no_part
  shift_parts t n [] (x ∷ xs) h = elim h [ ]
  shift_parts t n (i ∷ items) (x ∷ xs) (shifting at is others) =
      let e = is.examples in
      part (example_lines x) (flat_map example_lines xs) (shifting_item at (record { graph = e.graph; traced = e.traced; ordered = e.ordered; shown = lines_of_paths e.graph _ x.examples.items e.spelled })) (shift_parts t (n + 1) items xs others) refl
  shift_parts t n (i ∷ items) xs (other not others) = part [] (flat_map example_lines xs) (other_item not refl) (shift_parts t (n + 1) items xs others) refl

  action_part : (lookahead : Bits) (action : Action) (items : List ExplainedItem) → AreExplainedBy g states 3 state lookahead action items → IsActionPart g states state lookahead action (action_text action items)
  action_part lookahead (Shift t target) items h = record { examples = flat_map example_lines items; of_items = shift_parts t 0 _ items h; shown = refl }
  action_part lookahead (Reduce p) items h =
      let whole : reduction_text h.item ≡ flat_map reduction_text items = sym (append-nil (reduction_text h.item)) ∙ ap (flat_map reduction_text) (sym h.alone) in
      subst (IsReducePart g states state lookahead p.now) whole (reduction_part lookahead p.now h.item h.explained)

-- the text of a conflict that is explained by at most three examples of each item is its part
pub conflict_part : (g : Rules) (states : List (State Bits)) (number : ℕ) (c : Conflict Bits) (x : ExplainedConflict) → IsExplained g states 3 c x → IsConflictPart g states number c (conflict_text g.terminals number x)
conflict_part g states number c x h = subst (λ (d : Conflict Bits). IsConflictPart g states number d (conflict_text g.terminals number x)) h.conflict (record {
  reduction = reduction_text x.reduction;
  action = action_text x.conflict.now.action x.others.items;
  reduces = reduction_part g states x.conflict.now.state x.conflict.now.lookahead x.conflict.now.production.now x.reduction (subst (λ (d : Conflict Bits). IsExplainedReduction g states 3 d.state d.lookahead d.production.now x.reduction) (sym h.conflict) h.reduction);
  acts = action_part g states x.conflict.now.state x.conflict.now.lookahead x.conflict.now.action x.others.items (subst (λ (d : Conflict Bits). AreExplainedBy g states 3 d.state d.lookahead d.action x.others.items) (sym h.conflict) h.others);
  shown = refl;
})
