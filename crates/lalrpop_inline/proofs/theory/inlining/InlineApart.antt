-- No production of an inlined grammar is there twice. An old production has an old action, and each
-- new one has an action of its own.
use Rattle.std.proofs.Common.{ℕ, ◌≤◌, ◌<◌, inl, inr, Bool, true, false, cond, List, [], ◌∷◌, ◌++◌, length, refl, sym, subst, arith, length-append}
use Rattle.std.specs.Prelude.{Contains}
use Rattle.lalrpop_inline.proofs.Types.{NonterminalString, Production}
use Rattle.lalrpop_grammar.specs.declared.repr.inlined.InlinedSymbol.{InlinedSymbol}
use Rattle.lalrpop_grammar.specs.declared.repr.grammar.ActionFnDefn.{ActionFnDefn}
use Rattle.lalrpop_collections.proofs.theory.lists.Lists.{contains-cons, contains-nil, contains_head, contains_tail}
use Rattle.lalrpop_inline.specs.Words.{mentions, choices, choice_defn, choice_production, Made, made_of, chosen, replaced, replaced_all}
use Rattle.lalrpop_inline.proofs.theory.inlining.InlineSteps.{more_longer, replaced_more}
use Rattle.lalrpop_inline.proofs.theory.inlining.InlineArising.{chosen_sound, Arises, kept, made, replaced_by_sound, replaced_all_sound}
use Rattle.lalrpop_collections.proofs.theory.lists.Apart.{Apart, Apart-append}

-- the productions of choices differ
chosen_apart : (p : Production) (cs : List (List InlinedSymbol)) (defns : List ActionFnDefn) → Apart (chosen p cs defns).productions
chosen_apart p [] defns = tt
chosen_apart p (c ∷ cs) defns =
    let grown : List ActionFnDefn = defns ++ choice_defn defns p.action c ∷ [] in (
      λ k. let r = chosen_sound p cs grown (choice_production (length defns) p c) k in let above : length grown ≤ length defns = r.from in omega (arith, length-append defns (choice_defn defns p.action c ∷ [])),
      chosen_apart p cs grown,
    )

module _ (b : NonterminalString) (alternatives : List Production) (old : ℕ) where
  replaced_apart : (m : Bool) (p : Production) (defns : List ActionFnDefn) → Apart (cond m (chosen p (choices b alternatives p.symbols) defns) (made_of (p ∷ []) defns)).productions
  replaced_apart true p defns = chosen_apart p (choices b alternatives p.symbols) defns
  replaced_apart false p defns = (λ k. contains-nil k, tt)

  -- a production that arises from the first one differs from one that arises later from the others
  never_both : (p : Production) (ps : List Production) (low middle high : ℕ) (q : Production) → old ≤ low → low ≤ middle → ((x : Production) → Contains (p ∷ ps) x → x.action.0 < old) → (Contains ps p → ⊥)
      → Arises b alternatives (p ∷ []) low middle q → Arises b alternatives ps middle high q → ⊥
  never_both p ps low middle high q l m is_old differs (kept c h) (kept d k) = elim (contains-cons p [] q c) [
    | inl e ↦ differs (subst (Contains ps) (sym e) d)
    | inr n ↦ contains-nil n
  ]
  never_both p ps low middle high q l m is_old differs (kept c h) (made o d k r) = elim (contains-cons p [] q c) [
    | inl e ↦ let few : q.action.0 < old = subst (λ (x : Production). x.action.0 < old) e (is_old p (contains_head p ps)) in omega (arith, r.from)
    | inr n ↦ contains-nil n
  ]
  never_both p ps low middle high q l m is_old differs (made o c h r) (kept d k) = let few : q.action.0 < old = is_old q (contains_tail p ps q d) in omega (arith, r.from)
  never_both p ps low middle high q l m is_old differs (made o c h r) (made o' d k s) = omega (arith, r.below, s.from)

  -- the productions that replace all productions differ
  pub replaced_all_apart : (ps : List Production) (defns : List ActionFnDefn) → old ≤ length defns → ((x : Production) → Contains ps x → x.action.0 < old) → Apart ps → Apart (replaced_all b alternatives ps defns).productions
  replaced_all_apart [] defns l is_old h = tt
  replaced_all_apart (p ∷ ps) defns l is_old h =
      let r : Made = replaced b alternatives p defns in
      let s : Made = replaced_all b alternatives ps r.defns in
      let grows : length defns ≤ length r.defns = more_longer defns r.defns (replaced_more b alternatives p defns) in
      let grown : old ≤ length r.defns = omega arith in
      Apart-append r.productions s.productions (replaced_apart (mentions b p.symbols) p defns) (replaced_all_apart ps r.defns grown (λ x c. is_old x (contains_tail p ps x c)) h.1)
      (λ q c d. never_both p ps (length defns) (length r.defns) (length s.defns) q l grows is_old h.0 (first_arises p defns q c) (replaced_all_sound b alternatives ps r.defns q d))
    where
      first_arises : (p : Production) (defns : List ActionFnDefn) (q : Production) → Contains (replaced b alternatives p defns).productions q → Arises b alternatives (p ∷ []) (length defns) (length (replaced b alternatives p defns).defns) q
      first_arises p defns q c = replaced_by_sound b alternatives (mentions b p.symbols) p defns q refl c
