use Rattle.std.proofs.Common.{◌≡◌, ◌∙◌, List, ap, sym, subst}
use Rattle.lalrpop_base.specs.Words.{Bits, FitsTokens}
use Rattle.lalrpop_construction.specs.Words.{Construction, Settings, construction_of}
use Rattle.lalrpop_construction.proofs.Types.{Nil, TerminalString}
use Rattle.lalrpop_construction.proofs.theory.construction.Lookaheads.{eof_fits}
use Rattle.lalrpop_construction.proofs.construction.canonical.canonical_construction.Goals as goal

pub with_lookahead-requires : goal.with_lookahead-requires
with_lookahead-requires c =
    let own = c.args.grammar.now.terminals in
    let same : own ≡ c.args.lr.construction.rules.terminals = sym (ap (λ (k : Construction Nil). k.rules.terminals) c.requires) in
    subst (λ (terminals : List TerminalString). FitsTokens terminals c.in_ok-eof.eof) same (subst (FitsTokens own) (sym c.in_ok-eof.ensures) (eof_fits own))

pub returns : goal.returns
returns c =
    let of : Construction Nil → Bits → Construction Bits = λ k tokens. record { rules = k.rules; start = k.start; first = k.first; lookahead = tokens } in
    ap (λ (s : Settings Bits). s.construction) c.with_lookahead.ensures ∙ ap (λ (k : Construction Nil). of k c.in_ok-eof.eof) c.requires ∙ ap (of (construction_of c.args.grammar.now c.args.lr.construction.start (record {}))) c.in_ok-eof.ensures
