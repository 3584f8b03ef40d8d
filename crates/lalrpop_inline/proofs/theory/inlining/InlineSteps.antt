-- Inlining, one production and one choice at a time.
use Rattle.std.proofs.Common.{◌≡◌, ℕ, ◌+◌, ◌≤◌, ◌<◌, ◌^◌, Bool, true, false, cond, List, [], ◌∷◌, ◌++◌, length, refl, sym, ◌∙◌, ap, append_assoc, arith, length-append}
use Rattle.std.proofs.lemmas.List.{append-nil}
use Rattle.lalrpop_inline.proofs.Types.{NonterminalString, Production}
use Rattle.lalrpop_grammar.specs.declared.repr.inlined.InlinedSymbol.{InlinedSymbol}
use Rattle.lalrpop_grammar.specs.declared.repr.grammar.ActionFnDefn.{ActionFnDefn}
use Rattle.lalrpop_grammar.specs.declared.repr.norm_error.NormError.{NormError}
use Rattle.lalrpop_grammar.specs.declared.repr.norm_error.NormError.TheVariants.{Cycle, TooManyActions, Memory}
use Rattle.lalrpop_inline.specs.Words.{mentions, choices, choice_defn, Made, made_of, in_front, chosen, replaced, replaced_all, Entry, replaced_entries, IsPastLast}

-- the second definitions are the first with more after them
abbrev pub IsMore : List ActionFnDefn → List ActionFnDefn → Type 0
IsMore defns all = (more : List ActionFnDefn) × (all ≡ defns ++ more)

pub more_none : (defns : List ActionFnDefn) → IsMore defns defns
more_none defns = ([], sym (append-nil defns))

pub more_twice : (a b c : List ActionFnDefn) → IsMore a b → IsMore b c → IsMore a c
more_twice a b c m n = (m.0 ++ n.0, n.1 ∙ ap (λ (xs : List ActionFnDefn). xs ++ n.0) m.1 ∙ append_assoc a m.0 n.0)

pub more_longer : (a b : List ActionFnDefn) → IsMore a b → length a ≤ length b
more_longer a b m = omega (arith, ap length m.1, length-append a m.0)

-- the definitions after a step are the old ones with more after them
pub chosen_more : (p : Production) (cs : List (List InlinedSymbol)) (defns : List ActionFnDefn) → IsMore defns (chosen p cs defns).defns
chosen_more p [] defns = more_none defns
chosen_more p (c ∷ cs) defns =
    let d : ActionFnDefn = choice_defn defns p.action c in
    more_twice defns (defns ++ d ∷ []) (chosen p cs (defns ++ d ∷ [])).defns (d ∷ [], refl) (chosen_more p cs (defns ++ d ∷ []))

module _ (b : NonterminalString) (alternatives : List Production) where
  replaced_by_more : (m : Bool) (p : Production) (defns : List ActionFnDefn) → IsMore defns (cond m (chosen p (choices b alternatives p.symbols) defns) (made_of (p ∷ []) defns)).defns
  replaced_by_more true p defns = chosen_more p (choices b alternatives p.symbols) defns
  replaced_by_more false p defns = more_none defns

  pub replaced_more : (p : Production) (defns : List ActionFnDefn) → IsMore defns (replaced b alternatives p defns).defns
  replaced_more p defns = replaced_by_more (mentions b p.symbols) p defns

  pub replaced_all_more : (ps : List Production) (defns : List ActionFnDefn) → IsMore defns (replaced_all b alternatives ps defns).defns
  replaced_all_more [] defns = more_none defns
  replaced_all_more (p ∷ ps) defns =
      let r : Made = replaced b alternatives p defns in
      more_twice defns r.defns (replaced_all b alternatives ps r.defns).defns (replaced_more p defns) (replaced_all_more ps r.defns)

  pub replaced_entries_more : (es : List (NonterminalString × Entry)) (defns : List ActionFnDefn) → IsMore defns (replaced_entries b alternatives es defns).defns
  replaced_entries_more [] defns = more_none defns
  replaced_entries_more (e ∷ es) defns =
      let r : Made = replaced_all b alternatives e.1.productions defns in
      more_twice defns r.defns (replaced_entries b alternatives es r.defns).defns (replaced_all_more e.1.productions defns) (replaced_entries_more es r.defns)

-- too many actions for a step are too many for all
pub past_more : (m n : ℕ) (e : NormError) → m ≤ n → IsPastLast m e → IsPastLast n e
past_more m n (Cycle span name) l h = h
past_more m n TooManyActions l h = let g : 2 ^ 32 < m = h in omega arith
past_more m n Memory l h = h

-- there is no number for a choice
pub choice_past : (p : Production) (c : List InlinedSymbol) (cs all : List (List InlinedSymbol)) (made : List Production) (defns : List ActionFnDefn) (d : Made) (e : NormError) → all ≡ c ∷ cs →
    in_front made (chosen p all defns) ≡ d → IsPastLast (length defns + 1) e → IsPastLast (length d.defns) e
choice_past p c cs all made defns d e parted so_far past =
    let grown : List ActionFnDefn = defns ++ choice_defn defns p.action c ∷ [] in
    let whole : (chosen p cs grown).defns ≡ d.defns = ap (λ (xs : List (List InlinedSymbol)). (chosen p xs defns).defns) (sym parted) ∙ ap (λ (m : Made). m.defns) so_far in
    past_more (length defns + 1) (length d.defns) e (omega (arith, ap length whole, more_longer grown (chosen p cs grown).defns (chosen_more p cs grown), length-append defns (choice_defn defns p.action c ∷ []))) past

module _ (b : NonterminalString) (alternatives : List Production) where
  -- a production that mentions the nonterminal is replaced by one for each choice
  pub replaced_by_choices : (p : Production) (all : List (List InlinedSymbol)) (defns : List ActionFnDefn) → mentions b p.symbols ≡ true → all ≡ choices b alternatives p.symbols → chosen p all defns ≡ replaced b alternatives p defns
  replaced_by_choices p all defns m e =
      ap (λ (xs : List (List InlinedSymbol)). chosen p xs defns) e ∙ ap (λ (x : Bool). cond x (chosen p (choices b alternatives p.symbols) defns) (made_of (p ∷ []) defns)) (sym m)

  -- there is no number for a choice of a production
  pub production_past : (p : Production) (ps all : List Production) (made : List Production) (defns : List ActionFnDefn) (d : Made) (e : NormError) → all ≡ p ∷ ps →
      in_front made (replaced_all b alternatives all defns) ≡ d → IsPastLast (length (replaced b alternatives p defns).defns) e → IsPastLast (length d.defns) e
  production_past p ps all made defns d e parted so_far past =
      let r : Made = replaced b alternatives p defns in
      let whole : (replaced_all b alternatives ps r.defns).defns ≡ d.defns = ap (λ (xs : List Production). (replaced_all b alternatives xs defns).defns) (sym parted) ∙ ap (λ (m : Made). m.defns) so_far in
      past_more (length r.defns) (length d.defns) e (omega (arith, ap length whole, more_longer r.defns (replaced_all b alternatives ps r.defns).defns (replaced_all_more b alternatives ps r.defns))) past
