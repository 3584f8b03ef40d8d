-- A copy of a well-formed grammar is well-formed, and why a new start symbol is refused.
use Rattle.std.proofs.Common.{◌≡◌, ℕ, suc, ◌<◌, ◌^◌, List, length, refl, sym, ap, subst, arith}
use Rattle.std.specs.Prelude.{vec_len}
use Rattle.lalrpop_base.specs.Words.{IsRefusedStart, IsWellFormed}
use Rattle.lalrpop_collections.proofs.theory.lists.Zipped.{zip_old}
use Rattle.lalrpop_grammar.specs.declared.repr.NonterminalString.{NonterminalString}
use Rattle.lalrpop_grammar.specs.declared.repr.Production.{Production}
use Rattle.lalrpop_grammar.specs.declared.repr.TerminalString.{TerminalString}
use Rattle.lalrpop_grammar.specs.declared.repr.grammar.Grammar.{Grammar}
use Rattle.lalrpop_grammar.proofs.theory.grammars.NewStart.{Entry}
use Rattle.lalrpop_grammar.specs.declared.repr.norm_error.NormError.{NormError}
use Rattle.lalrpop_grammar.specs.declared.repr.norm_error.NormError.TheVariants.{Cycle, TooManyActions, Memory}
use Rattle.lalrpop_grammar.specs.grammars.SameGrammars.{IsSameEntry, IsSameGrammar}
use Rattle.lalrpop_grammar.specs.grammars.WellFormed.{IsWellFormedEntry}

-- an error that is no allocation failure is that of too many actions
pub many_actions : (g : Grammar) (e : NormError) → (e ≡ Memory → ⊥) → IsRefusedStart g e → 2 ^ 32 < suc (vec_len g.action_fn_defns)
many_actions g (Cycle span name) other refused = absurd refused
many_actions g TooManyActions other refused = refused
many_actions g Memory other refused = absurd (other refl)

-- the same name, and the same entry
abbrev IsSame : Entry → Entry → Type 0
IsSame x y = (y.0 ≡ x.0) × IsSameEntry x.1 y.1

module _ (g h : Grammar) (same : IsSameGrammar g h) where
  -- a copy has as many actions
  pub same_actions : vec_len h.action_fn_defns ≡ vec_len g.action_fn_defns
  same_actions = let e = ap length same.action_fn_defns in omega (arith, e, g.action_fn_defns.ok, h.action_fn_defns.ok)

  -- and is well-formed
  pub copy_is_well_formed : IsWellFormed g → IsWellFormed h
  copy_is_well_formed well k name entry at =
      let old = zip_old IsSame g.nonterminals.entries h.nonterminals.entries same.entries k (name, entry) at in
      let own = well k old.0.0 old.0.1 old.1 in
      let named = subst (λ (a : NonterminalString). IsWellFormedEntry g.terminals (vec_len g.action_fn_defns) a old.0.1.productions.items) (sym old.2.0) own in
      let listed = subst (λ (ps : List Production). IsWellFormedEntry g.terminals (vec_len g.action_fn_defns) name ps) (sym old.2.1.productions) named in
      let known = subst (λ (ts : List TerminalString). IsWellFormedEntry ts (vec_len g.action_fn_defns) name entry.productions.items) (sym same.terminals) listed in
      subst (λ (n : ℕ). IsWellFormedEntry h.terminals n name entry.productions.items) (sym same_actions) known
