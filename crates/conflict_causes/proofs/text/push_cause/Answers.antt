use Rattle.std.proofs.Common.{◌≡◌, ◌++◌, ◌<◌, ℕ, List, get_or, length, refl, subst, sym}
use Rattle.std.specs.Prelude.{Some, slice_get}
use Rattle.std.proofs.lemmas.List.Elements.{Contains-get_or}
use Rattle.lalrpop_collections.specs.Words.{Bits}
use Rattle.lalrpop_collections.proofs.theory.lists.Pieces.{five_pieces}
use Rattle.lalrpop_grammar.specs.declared.repr.grammar.Grammar.{Grammar}
use Rattle.lalrpop_grammar.specs.grammars.WellFormed.{IsWellFormed, productions, rules_of}
use Rattle.lalrpop_states.specs.declared.lr1_core.state.Conflict.{Conflict}
use Rattle.lalrpop_states.specs.declared.lr1_core.state.State.{State}
use Rattle.lalrpop_ambiguity.specs.declared.search.Search.{Search}
use Rattle.lalrpop_ambiguity.specs.derivations.Represented.{tree_of}
use Rattle.lalrpop_ambiguity.specs.witnesses.Searches.{IfFound}
use Rattle.lalrpop_ambiguity.specs.witnesses.Witnesses.{IsWitness}
use Rattle.conflict_causes.specs.CauseTexts.{heading, other_lines, reduce_line, search_text}
use Rattle.conflict_causes.specs.ExampleTexts.{IsAfterSearch}
use Rattle.conflict_causes.proofs.text.push_cause.Goals as goal

pub conflict_at-first-requires : goal.conflict_at-first-requires
conflict_at-first-requires c =
    let cause : List ℕ = c.args.cause.now in
    subst (λ (numbers : List ℕ). get_or numbers 0 0 < length c.args.given.now.conflicts.now) (sym c.conflicts-numbers.ensures) (c.requires.within (get_or cause 0 0) (Contains-get_or cause 0 0 c.requires.some))

pub push_examples-requires-clause-well_formed : goal.push_examples-requires-clause-well_formed
push_examples-requires-clause-well_formed c = subst IsWellFormed (sym c.args.given.now.of_grammar) c.requires.well_formed

pub returns : goal.returns
returns c =
    let given = c.args.given.now in
    let first : Conflict Bits = c.conflict_at-first.result.now in
    let search : Search = c.in_ok-search.search in
    let added : List ℕ = c.in_ok-push_examples.ensures.added in
    record {
      paragraph = heading c.args.number first.action given.grammar.now.terminals c.in_ok-tokens.tokens c.in_ok-states.states.keys ++ (other_lines first.action c.in_ok-items.items.keys ++ (reduce_line first.production.now ++ (search_text given.steps c.in_ok-moves.moves search ++ added)));
      is_paragraph = record {
        first = first;
        is_first = subst (λ (numbers : List ℕ). slice_get given.conflicts.now (get_or numbers 0 0) ≡ Some first) c.conflicts-numbers.ensures c.conflict_at-first.ensures;
        tokens = c.in_ok-tokens.tokens;
        are_tokens = c.in_ok-tokens.ensures.tokens;
        numbers = c.in_ok-states.states;
        are_states = c.in_ok-states.ensures.states;
        items = c.in_ok-items.items;
        are_items = c.in_ok-items.ensures;
        search = search;
        is_witness = subst (λ (g : Grammar). IfFound (λ found. IsWitness (productions g) (tree_of found.left) (tree_of found.right)) search) given.finds c.in_ok-search.ensures.witness;
        moves = c.in_ok-moves.moves;
        are_moves = c.in_ok-moves.ensures.common;
        examples = added;
        are_examples = subst (λ (states : List (State Bits)). IsAfterSearch (rules_of given.grammar.now) states first search added) given.of_states (subst (λ (g : Grammar). IsAfterSearch (rules_of g) given.examples.now.explainer.now.context.states.now first search added) given.of_grammar c.in_ok-push_examples.ensures.holds);
        is_text = refl;
      };
      grown = five_pieces _ _ _ _ _ _ _ _ _ _ _ c.in_ok-push_heading.ensures c.in_ok-push_others.ensures c.in_ok-push_reduction.ensures c.in_ok-push_search.ensures c.in_ok-push_examples.ensures.grown;
    }
