use Rattle.std.proofs.Common.{◌≡◌, ◌++◌, ◌<◌, ◌∙◌, ℕ, List, ap, get_or, length, refl, string_bytes, subst, sym}
use Rattle.std.specs.Prelude.{Some, slice_get}
use Rattle.std.proofs.lemmas.List.Elements.{Contains-get_or}
use Rattle.lalrpop_collections.specs.Words.{Bits}
use Rattle.lalrpop_states.specs.declared.lr1_core.state.Conflict.{Conflict}
use Rattle.conflict_causes.specs.CauseLines.{choice_text, extent_text}
use Rattle.conflict_causes.proofs.text.one_line.cause_line.Goals as goal

pub conflict_at-first-requires : goal.conflict_at-first-requires
conflict_at-first-requires c =
    let cause : List ℕ = c.args.cause.now in
    subst (λ (numbers : List ℕ). get_or numbers 0 0 < length c.args.conflicts.now) (sym c.conflicts-numbers.ensures) (c.requires.within (get_or cause 0 0) (Contains-get_or cause 0 0 c.requires.some))

pub returns : goal.returns
returns c =
    let first : Conflict Bits = c.conflict_at-first.result.now in
    let extent : List ℕ = extent_text first.action c.args.terminals.now c.in_ok-tokens.tokens c.in_ok-set.set.keys in
    let choice : List ℕ = choice_text first.production.now first.action c.in_ok-items.items.keys in
    let begun : string_bytes c.push_extent.new.text ≡ extent = c.in_ok-push_extent.ensures ∙ ap (λ (s : List ℕ). s ++ extent) c.new-text.ensures.bytes in
    record {
      first = first;
      is_first = subst (λ (numbers : List ℕ). slice_get c.args.conflicts.now (get_or numbers 0 0) ≡ Some first) c.conflicts-numbers.ensures c.conflict_at-first.ensures;
      reduction = refl;
      tokens = c.in_ok-tokens.tokens;
      are_tokens = c.in_ok-tokens.ensures.tokens;
      numbers = c.in_ok-set.set;
      are_states = c.in_ok-set.ensures.states;
      items = c.in_ok-items.items;
      are_items = c.in_ok-items.ensures;
      is_text = c.in_ok-push_choice.ensures ∙ ap (λ (s : List ℕ). s ++ choice) begun;
    }
