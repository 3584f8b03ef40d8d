use Rattle.std.proofs.Common.{◌∙◌, ◌<◌, ℕ, length, sym, subst, List}
use Rattle.std.specs.Prelude.{get_or}
use Rattle.std.proofs.lemmas.List.{take_all}
use Rattle.lalrpop_base.specs.Words.{readings}
use Rattle.lalrpop_construction.specs.Words.{unfolded}
use Rattle.lalrpop_construction.proofs.theory.closures.Unfolded.{list_read}
use Rattle.canonical_by_number.specs.TokenSets.{set_at}
use Rattle.canonical_by_number.specs.Closures.{GathersNumbers}
use Rattle.canonical_by_number.proofs.TokenSets.{kept_within}
use Rattle.canonical_by_number.proofs.Closures.{Gathers-nothing, entry_among, entry_read}
use Rattle.canonical_by_number.proofs.Gathering.{Nonterminals-more}
use Rattle.canonical_by_number.proofs.closure.gather_nonterminals.Goals as goal

pub loop-entry-init : goal.loop-entry-init
loop-entry-init c = Gathers-nothing c.args.sets.now c.args.table.now c.requires.table

pub returns : goal.returns
returns c =
    subst (λ (xs : List (ℕ × ℕ)). GathersNumbers (unfolded c.args.numbers.now (readings (set_at c.args.sets.now) xs)) c.args.sets.now c.loop-entry.sets c.args.table.now c.loop-entry.table) (take_all c.loop-entry.entry-index c.args.shared.now c.loop-entry-test.false) c.loop-entry.invariant

pub index-requires : goal.index-requires
index-requires c =
    let i = c.loop-entry.entry-index in
    let e : ℕ × ℕ = get_or c.args.shared.now i (0, 0) in
    subst (λ (k : ℕ). e.0 < k) (sym c.args.numbers.now.expansions.ok.0) (c.requires.numbered e (entry_among c.args.shared.now i c.loop-entry-test.true))

pub gather_expansions-requires-clause-tokens : goal.gather_expansions-requires-clause-tokens
gather_expansions-requires-clause-tokens c =
    let i = c.loop-entry.entry-index in
    let e : ℕ × ℕ = get_or c.args.shared.now i (0, 0) in
    kept_within c.args.sets.now c.loop-entry.sets c.loop-entry.invariant.kept e.1 (c.requires.shared e (entry_among c.args.shared.now i c.loop-entry-test.true))

pub gather_expansions-requires-clause-table : goal.gather_expansions-requires-clause-table
gather_expansions-requires-clause-table c = c.loop-entry.invariant.known

pub loop-entry-preserved : goal.loop-entry-preserved
loop-entry-preserved c =
    let n = c.args.numbers.now in
    let shared : List (ℕ × ℕ) = c.args.shared.now in
    let i = c.loop-entry.entry-index in
    let e : ℕ × ℕ = get_or shared i (0, 0) in
    let among = entry_among shared i c.loop-entry-test.true in
    let known : e.0 < length n.expansions.items = c.requires.numbered e among in
    let list = list_read n.expansions.items e.0 c.index.result.now known c.index.ensures ∙ sym c.deref.ensures.value in
    Nonterminals-more c.args.sets.now c.loop-entry.sets c.gather_expansions.new.sets c.args.table.now c.loop-entry.table c.gather_expansions.new.table n shared i e c.loop-entry-test.true (entry_read shared i c.loop-entry-test.true) (c.requires.shared e among) c.deref.result.now list c.loop-entry.invariant c.in_ok-gather_expansions.ensures
