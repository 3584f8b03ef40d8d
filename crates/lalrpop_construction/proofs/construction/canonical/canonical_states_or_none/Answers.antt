use Rattle.std.proofs.Common.{subst}
use Rattle.std.specs.Prelude.{IfSome}
use Rattle.std.proofs.lemmas.Option.{IfSome_then}
use Rattle.lalrpop_base.specs.Words.{Bits}
use Rattle.lalrpop_construction.specs.Words.{AreTables, Construction}
use Rattle.lalrpop_construction.specs.canonical.ConflictFree.{HasConflict}
use Rattle.lalrpop_grammar.proofs.theory.grammars.Grammars.{productions_own}
use Rattle.lalrpop_construction.proofs.theory.canonical.CanonicalAnswers.{Canonical-tables}
use Rattle.lalrpop_construction.proofs.theory.canonical.ConflictFree.{Conflict-not}
use Rattle.lalrpop_construction.proofs.construction.canonical.canonical_states_or_none.Goals as goal

pub returns-clause-tables : goal.returns-clause-tables
returns-clause-tables c =
    let g = c.args.grammar.now in
    let start = c.args.lr.construction.start in
    let own = productions_own g c.requires.well_formed c.len-names.ensures.ordered in
    let made = subst (λ (k : Construction Bits). IfSome c.in_ok-answer.answer (λ states. AreTables k states.items)) c.in_ok-canonical.ensures c.in_ok-answer.ensures.tables in
    IfSome_then c.in_ok-answer.answer made (λ states of. Canonical-tables g start c.requires.well_formed own c.all-terminals.ensures.distinct states.items of)

pub returns-clause-none : goal.returns-clause-none
returns-clause-none c none =
    let g = c.args.grammar.now in
    let start = c.args.lr.construction.start in
    let own = productions_own g c.requires.well_formed c.len-names.ensures.ordered in
    Conflict-not g start c.requires.well_formed own c.all-terminals.ensures.distinct (subst HasConflict c.in_ok-canonical.ensures (c.in_ok-answer.ensures.none none))
