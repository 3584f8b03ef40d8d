-- A text that grows by the paragraph of one cause more.
use Rattle.std.proofs.Common.{◌≡◌, ℕ, ◌+◌, ◌<◌, inl, inr, List, [], ◌∷◌, ◌++◌, length, get_or, refl, sym, ◌∙◌, ap, subst, arith, append_assoc, length-append}
use Rattle.std.specs.Prelude.{slice_get, Some}
use Rattle.std.specs.List.{flat_map}
use Rattle.std.proofs.lemmas.List.{append-nil}
use Rattle.std.proofs.lemmas.Option.{slice_get_read, slice_get_within}
use Rattle.lalrpop_collections.specs.Words.{Bits}
use Rattle.lalrpop_collections.proofs.theory.lists.Places.{push_cases, same_some}
use Rattle.lalrpop_grammar.specs.declared.repr.grammar.Grammar.{Grammar}
use Rattle.lalrpop_states.specs.declared.lr1_core.state.Conflict.{Conflict}
use Rattle.lalrpop_states.specs.declared.lr1_core.state.State.{State}
use Rattle.conflict_causes.specs.CauseTexts.{AppendsCause, AppendsFirst, IsCauseText}

-- texts one after the other, and one more
joined_more : (texts : List (List ℕ)) (text : List ℕ) → flat_map (λ (t : List ℕ). t) (texts ++ text ∷ []) ≡ flat_map (λ (t : List ℕ). t) texts ++ text
joined_more [] text = append-nil text
joined_more (first ∷ texts) text = ap (λ (rest : List ℕ). first ++ rest) (joined_more texts text) ∙ sym (append_assoc first (flat_map (λ (t : List ℕ). t) texts) text)

module _ (g : Grammar) (states : List (State Bits)) (conflicts : List (Conflict Bits)) (steps : ℕ) (causes : List (List ℕ)) where
  pub no_paragraph : (text : List ℕ) → AppendsFirst g states conflicts steps causes 0 text text
  no_paragraph text = record {
    paragraphs = [];
    are_paragraphs = record { many = refl; each = λ n cause own at at_text. absurd (omega (arith, slice_get_within [] n own at_text)) };
    grown = sym (append-nil text);
  }

  pub paragraph_more : (count : ℕ) (cause : List ℕ) (start old new : List ℕ) → count < length causes → cause ≡ get_or causes count cause → AppendsFirst g states conflicts steps causes count start old → AppendsCause g states conflicts steps (count + 1) cause old new → AppendsFirst g states conflicts steps causes (count + 1) start new
  paragraph_more count cause start old new within is before adds =
      let paragraphs = before.paragraphs in
      let own = adds.paragraph in
      let cause_at : slice_get causes count ≡ Some cause = slice_get_read causes (length causes) count cause refl within is in
      record {
        paragraphs = paragraphs ++ own ∷ [];
        are_paragraphs = record {
          many = length-append paragraphs (own ∷ []) ∙ ap (λ (n : ℕ). n + 1) before.are_paragraphs.many;
          each = λ n other text at at_text. elim (push_cases paragraphs own n text at_text) [
            | inl earlier ↦ before.are_paragraphs.each n other text at earlier
            | inr here ↦
                let place : n ≡ count = here.0 ∙ before.are_paragraphs.many in
                let same : cause ≡ other = same_some cause other (sym cause_at ∙ ap (slice_get causes) (sym place) ∙ at) in
                subst (λ (m : ℕ). IsCauseText g states conflicts steps (m + 1) other text) (sym place) (subst (λ (c : List ℕ). IsCauseText g states conflicts steps (count + 1) c text) same (subst (IsCauseText g states conflicts steps (count + 1) cause) here.1 adds.is_paragraph))
          ];
        };
        grown = adds.grown ∙ ap (λ (t : List ℕ). t ++ own) before.grown ∙ append_assoc start (flat_map (λ (t : List ℕ). t) paragraphs) own ∙ ap (λ (t : List ℕ). start ++ t) (sym (joined_more paragraphs own));
      }
