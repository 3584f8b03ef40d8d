use Rattle.std.proofs.Common.{ℕ, ◌∙◌, ap, subst}
use Rattle.std.specs.BTreeMap.{insert_entry}
use Rattle.lalrpop_grammar.specs.Words.{same_production, start_production, IsEntryOf, name_cmp, productions}
use Rattle.lalrpop_grammar.specs.declared.repr.ActionFn.{ActionFn}
use Rattle.lalrpop_grammar.proofs.Types.{NonterminalString, Production}
use Rattle.lalrpop_grammar.proofs.theory.grammars.NewStart.{is_augmented, well_formed}
use Rattle.lalrpop_grammar.proofs.theory.grammars.Augmented.{alone, augmented_trees, same_sentences, same_beginnings, same_wrong}
use Rattle.lalrpop_grammar.proofs.repr.augmentation.augment.Goals as goal

abbrev numbered : ℕ → ActionFn
numbered n = record { 0 = n }

pub returns-clause-added : goal.returns-clause-added
returns-clause-added c =
    let f : NonterminalString = c.in_ok-name.name in
    let production : Production = record { nonterminal = c.in_ok-clone.field-0; symbols = c.in_ok-only.field-0; action = c.in_ok-action.action; span = c.span_of-span.result } in
    record {
      name = c.in_ok-name.ensures;
      entry = c.in_ok-entry.entry;
      added = subst (λ (p : Production). IsEntryOf p c.in_ok-entry.entry)
          (same_production production (start_production c.args.grammar c.args.start f) c.in_ok-clone.ensures c.in_ok-only.ensures (ap numbered c.in_ok-action.ensures.ok) c.span_of-span.ensures) c.in_ok-entry.ensures;
      entries = c.in_ok-augmented.ensures.entries ∙ ap (λ (a : NonterminalString). insert_entry name_cmp c.args.grammar.nonterminals.entries a c.in_ok-entry.entry) c.in_ok-clone-2.ensures;
      terminals = c.in_ok-augmented.ensures.terminals;
      action_fn_defns = c.in_ok-augmented.ensures.actions;
      algorithm = c.in_ok-augmented.ensures.algorithm;
    }

pub returns-clause-well_formed : goal.returns-clause-well_formed
returns-clause-well_formed c = well_formed c.args.grammar c.in_ok-augmented.augmented c.args.start c.in_ok-name.name c.requires (returns-clause-added c)

pub returns-clause-alone : goal.returns-clause-alone
returns-clause-alone c = alone (productions c.args.grammar) (productions c.in_ok-augmented.augmented) c.args.start c.in_ok-name.name (is_augmented c.args.grammar c.in_ok-augmented.augmented c.args.start c.in_ok-name.name c.requires (returns-clause-added c))

pub returns-clause-trees : goal.returns-clause-trees
returns-clause-trees c = augmented_trees (productions c.args.grammar) (productions c.in_ok-augmented.augmented) c.args.start c.in_ok-name.name (is_augmented c.args.grammar c.in_ok-augmented.augmented c.args.start c.in_ok-name.name c.requires (returns-clause-added c))

pub returns-clause-sentences : goal.returns-clause-sentences
returns-clause-sentences c = same_sentences (productions c.args.grammar) (productions c.in_ok-augmented.augmented) c.args.start c.in_ok-name.name (is_augmented c.args.grammar c.in_ok-augmented.augmented c.args.start c.in_ok-name.name c.requires (returns-clause-added c))

pub returns-clause-beginnings : goal.returns-clause-beginnings
returns-clause-beginnings c = same_beginnings (productions c.args.grammar) (productions c.in_ok-augmented.augmented) c.args.start c.in_ok-name.name (is_augmented c.args.grammar c.in_ok-augmented.augmented c.args.start c.in_ok-name.name c.requires (returns-clause-added c))

pub returns-clause-wrong : goal.returns-clause-wrong
returns-clause-wrong c = same_wrong (productions c.args.grammar) (productions c.in_ok-augmented.augmented) c.args.start c.in_ok-name.name (is_augmented c.args.grammar c.in_ok-augmented.augmented c.args.start c.in_ok-name.name c.requires (returns-clause-added c))
