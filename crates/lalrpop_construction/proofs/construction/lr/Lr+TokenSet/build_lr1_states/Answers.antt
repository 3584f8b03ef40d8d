use Rattle.std.proofs.Common.{◌≡◌, ℕ, ◌∙◌, ap, length, sym, subst}
use Rattle.std.proofs.lemmas.Result.{IfOk-weaker, IfErr-weaker}
use Rattle.lalrpop_base.specs.Words.{Bits, no_bits, with_bit, rules_of, productions_of, Begins}
use Rattle.lalrpop_construction.specs.Words.{StopsFor, Construction, Settings, AreTablesFor, canonical_of}
use Rattle.lalrpop_construction.proofs.Types.{Grammar, NonterminalString}
use Rattle.lalrpop_states.specs.closures.Closure.{itself}
use Rattle.lalrpop_collections.proofs.theory.lists.BothFacts.{MatchResult-both, IfErr-given}
use Rattle.lalrpop_construction.proofs.theory.canonical.CanonicalAnswers.{Set-tables, Set-fails}
use Rattle.lalrpop_construction.proofs.theory.canonical.SameConstruction.{Same-tables, Same-fails}
use Rattle.lalrpop_construction.proofs.theory.early_stop.StoppedAnswers.{stopping}
use Rattle.lalrpop_construction.proofs.theory.closures.TokenTables.{Passes, Lists, Tables-of, Fails-of}
use Rattle.lalrpop_construction.proofs.construction.lr.Lr+TokenSet.build_lr1_states.Goals as goal

abbrev settings : Grammar → NonterminalString → ℕ → Bits → Settings Bits
settings g start stop_after lookahead = record { construction = record { rules = rules_of g; start = start; first = productions_of g start; lookahead = lookahead }; stop_after = stop_after }

-- a construction that is the canonical one of a grammar is that of its own grammar
of_own : (g h : Grammar) (start other : NonterminalString) (stop_after : ℕ) (lookahead : Bits) (s : Settings Bits) → settings g start stop_after lookahead ≡ s → s.construction ≡ canonical_of h other → s ≡ stopping g start stop_after
of_own g h start other stop_after lookahead s is given =
    let all : (settings g start stop_after lookahead).construction ≡ canonical_of h other = ap (λ (k : Settings Bits). k.construction) is ∙ given in
    let counted : length h.terminals ≡ length g.terminals = sym (ap (λ (k : Construction Bits). length k.rules.terminals) all) in
    let e : lookahead ≡ with_bit no_bits (length g.terminals) = ap (λ (k : Construction Bits). k.lookahead) all ∙ ap (with_bit no_bits) counted in
    sym is ∙ ap (settings g start stop_after) e

pub returns-clause-made : goal.returns-clause-made
returns-clause-made c =
    let r = c.build_states.result in
    let failure = IfErr-given r _ c.build_states.ensures.failure in
    MatchResult-both r _ _
    (IfOk-weaker r _ _ (λ tables t. Tables-of c.args.self.construction tables.items t) c.build_states.ensures.tables)
    (IfErr-weaker r _ _ (λ error f none. Fails-of c.args.self.construction error (f none)) failure)

pub returns-clause-tables : goal.returns-clause-tables
returns-clause-tables c h other given =
    let g = c.self.inside.grammar.now in
    let start = c.self.inside.start in
    let same = of_own g h start other c.self.inside.stop_after c.self.inside.lookahead c.args.self c.self.view_is given in
    let own : c.args.self.construction ≡ canonical_of g start = ap (λ (s : Settings Bits). s.construction) same in
    IfOk-weaker c.build_states.result _ _ (λ tables t. Same-tables g h start other (sym own ∙ given) tables.items (Set-tables g start c.self.invariant.well_formed c.self.invariant.own c.all-terminals.ensures.distinct tables.items (subst (λ (k : Construction Bits). AreTablesFor itself Begins Passes Lists k tables.items) own t))) c.build_states.ensures.tables

pub returns-clause-no_tables : goal.returns-clause-no_tables
returns-clause-no_tables c h other given =
    let g = c.self.inside.grammar.now in
    let start = c.self.inside.start in
    let stop = c.self.inside.stop_after in
    let same = of_own g h start other stop c.self.inside.lookahead c.args.self c.self.view_is given in
    let own : c.args.self.construction ≡ canonical_of g start = ap (λ (s : Settings Bits). s.construction) same in
    rw same (IfErr-weaker c.build_states.result _ _ (λ error f. Same-fails g h start other (sym own ∙ given) stop error (Set-fails g start c.self.invariant.well_formed c.self.invariant.own c.all-terminals.ensures.distinct stop error (subst (λ (s : Settings Bits). StopsFor itself Begins Passes Lists s error) same f))) c.build_states.ensures.stopped)
