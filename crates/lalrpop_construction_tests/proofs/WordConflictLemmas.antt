-- A list of conflicts that grows by those of one shift more.
use Rattle.std.proofs.Common.{◌≡◌, List, ◌∷◌, ◌++◌, ◌∙◌, sym, ap, append_assoc}
use Rattle.std.specs.List.{flat_map}
use Rattle.lalrpop_grammar.specs.declared.repr.TerminalString.{TerminalString}
use Rattle.lalrpop_states.specs.declared.lr1_core.state.StateIndex.{StateIndex}
use Rattle.lalrpop_states.specs.declared.lr1_core.state.Conflict.{Conflict}
use Rattle.lalrpop_construction_tests.specs.declared.word_lookahead.Word.{Word}
use Rattle.lalrpop_construction_tests.specs.WordConflicts.{WordReduction, word_shift_conflicts}

pub shift_more : (terminals : List TerminalString) (state : StateIndex) (rs : List WordReduction) (list new start : List (Conflict Word)) (whole before rest : List (TerminalString × StateIndex)) (e : TerminalString × StateIndex) →
    before ≡ e ∷ rest → list ++ flat_map (word_shift_conflicts terminals state rs) before ≡ start ++ flat_map (word_shift_conflicts terminals state rs) whole → new ≡ list ++ word_shift_conflicts terminals state rs e →
    new ++ flat_map (word_shift_conflicts terminals state rs) rest ≡ start ++ flat_map (word_shift_conflicts terminals state rs) whole
shift_more terminals state rs list new start whole before rest e is so_far grown =
    ap (λ ys. ys ++ flat_map (word_shift_conflicts terminals state rs) rest) grown ∙ append_assoc list (word_shift_conflicts terminals state rs e) (flat_map (word_shift_conflicts terminals state rs) rest)
    ∙ ap (λ ys. list ++ ys) (sym (ap (λ ys. flat_map (word_shift_conflicts terminals state rs) ys) is)) ∙ so_far
