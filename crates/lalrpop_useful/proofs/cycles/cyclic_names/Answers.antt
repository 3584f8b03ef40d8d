use Rattle.std.proofs.Common.{◌≡◌, refl, rules}
use Rattle.std.specs.Prelude.{vec_len}
use Rattle.lalrpop_grammar.specs.Words.{productions}
use Rattle.lalrpop_useful.proofs.theory.useful.Cycles.{Collecting-start, Collecting-step, Collecting-end}
use Rattle.lalrpop_useful.proofs.cycles.cyclic_names.Goals as goal

pub loop-name-init : goal.loop-name-init
loop-name-init c =
    let g = c.args.grammar.now in
    let all : c.into_iter-name-iterator.result ≡ g.nonterminals.entries = search rules in (
      rw all (Collecting-start g.terminals (vec_len g.action_fn_defns) (productions g) g.nonterminals.entries c.in_ok-known.known.cyclic.keys c.requires refl c.in_ok-known.ensures.sound),
      c.in_ok-known.ensures,
    )

pub loop-name-preserved : goal.loop-name-preserved
loop-name-preserved c =
    let g = c.args.grammar.now in (
      Collecting-step g.terminals (vec_len g.action_fn_defns) (productions g) c.in-Some.name.now _ _ _ c.loop-name.known.cyclic.keys c.decide.new.known.cyclic.keys c.in-Some.ensures.steps c.loop-name.invariant.0 c.in_ok-decide.ensures.adds,
      c.in_ok-decide.ensures.known,
    )

pub returns : goal.returns
returns c =
    let g = c.args.grammar.now in
    record { cyclic = Collecting-end g.terminals (vec_len g.action_fn_defns) (productions g) _ _ c.in-None.ensures.steps.0 c.loop-name.invariant.0 }
