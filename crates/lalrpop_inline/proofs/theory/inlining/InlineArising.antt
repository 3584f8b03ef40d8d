-- The productions from which those of an inlined grammar arise, and the numbers of their actions.
use Rattle.std.proofs.Common.{◌≡◌, ℕ, ◌+◌, ◌≤◌, ◌<◌, inl, inr, Bool, true, false, ◌||◌, cond, List, [], ◌∷◌, ◌++◌, map, length, refl, sym, ◌∙◌, ap, subst, arith, length-append}
use Rattle.std.specs.Prelude.{Contains}
use Rattle.std.proofs.lemmas.List.Elements.{Contains-append_left, Contains-append_right, Contains-append_cases}
use Rattle.lalrpop_inline.proofs.Types.{NonterminalString, Production, Symbol}
use Rattle.lalrpop_grammar.specs.declared.repr.inlined.InlinedSymbol.{InlinedSymbol}
use Rattle.lalrpop_grammar.specs.declared.repr.inlined.InlinedSymbol.TheVariants.{Original}
use Rattle.lalrpop_grammar.specs.declared.repr.grammar.ActionFnDefn.{ActionFnDefn}
use Rattle.lalrpop_collections.proofs.theory.lists.Lists.{contains-cons, contains-nil, contains_head, contains_tail}
use Rattle.lalrpop_inline.specs.Words.{is_named, mentions, inlined, choices, laid_out, choice_defn, choice_production, Made, made_of, chosen, replaced, replaced_all}
use Rattle.lalrpop_inline.proofs.theory.inlining.InlineForests.{choice_cons, first_part, which_part}
use Rattle.lalrpop_inline.proofs.theory.inlining.InlineSteps.{more_longer, chosen_more, replaced_more, replaced_all_more}

-- a production of one of the choices, with an action from `low` to below `high`
pub record IsChosen (p : Production) (cs : List (List InlinedSymbol)) (low high : ℕ) (q : Production) : Type 0 where
  pub choice : List InlinedSymbol
  pub among : Contains cs choice
  pub name : q.nonterminal ≡ p.nonterminal
  pub symbols : q.symbols ≡ laid_out choice
  pub from : low ≤ q.action.0
  pub below : q.action.0 < high

-- each production that is made for the choices is such a one
pub chosen_sound : (p : Production) (cs : List (List InlinedSymbol)) (defns : List ActionFnDefn) (q : Production) → Contains (chosen p cs defns).productions q → IsChosen p cs (length defns) (length (chosen p cs defns).defns) q
chosen_sound p [] defns q k = absurd (contains-nil k)
chosen_sound p (c ∷ cs) defns q k =
    let grown : List ActionFnDefn = defns ++ choice_defn defns p.action c ∷ [] in
    let longer : length grown ≡ length defns + 1 = length-append defns (choice_defn defns p.action c ∷ []) in
    let all : length grown ≤ length (chosen p cs grown).defns = more_longer grown (chosen p cs grown).defns (chosen_more p cs grown) in
    elim (contains-cons (choice_production (length defns) p c) (chosen p cs grown).productions q k) [
      | inl e ↦
          let number : length defns ≡ q.action.0 = ap (λ (x : Production). x.action.0) e in
          record {
            choice = c;
            among = contains_head c cs;
            name = ap (λ (x : Production). x.nonterminal) (sym e);
            symbols = ap (λ (x : Production). x.symbols) (sym e);
            from = omega arith;
            below = omega arith;
          }
      | inr h ↦
          let r = chosen_sound p cs grown q h in
          record { choice = r.choice; among = contains_tail c cs r.choice r.among; name = r.name; symbols = r.symbols; from = omega (arith, r.from); below = r.below }
    ]

-- the list has a production of the name with the right side that the choice makes
pub record HasMade (ps : List Production) (p : Production) (c : List InlinedSymbol) : Type 0 where
  pub made : Production
  pub there : Contains ps made
  pub name : made.nonterminal ≡ p.nonterminal
  pub symbols : made.symbols ≡ laid_out c

-- each choice has a production
pub chosen_complete : (p : Production) (cs : List (List InlinedSymbol)) (defns : List ActionFnDefn) (c : List InlinedSymbol) → Contains cs c → HasMade (chosen p cs defns).productions p c
chosen_complete p [] defns c k = absurd (contains-nil k)
chosen_complete p (d ∷ cs) defns c k =
    let grown : List ActionFnDefn = defns ++ choice_defn defns p.action d ∷ [] in
    let front : Production = choice_production (length defns) p d in
    elim (contains-cons d cs c k) [
      | inl e ↦ record { made = front; there = contains_head front (chosen p cs grown).productions; name = refl; symbols = ap laid_out e }
      | inr h ↦ let r = chosen_complete p cs grown c h in record { made = r.made; there = contains_tail front (chosen p cs grown).productions r.made r.there; name = r.name; symbols = r.symbols }
    ]

module _ (b : NonterminalString) (alternatives : List Production) where
  or_false : (x y : Bool) → (x || y) ≡ false → (x ≡ false) × (y ≡ false)
  or_false true y h = cc
  or_false false y h = (refl, h)

  original_there : (m : Bool) (x : Symbol) → m ≡ false → Contains (cond m (map inlined alternatives) (Original x ∷ [])) (Original x)
  original_there true x h = cc
  original_there false x h = contains_head (Original x) []

  -- a right side that does not mention the nonterminal has one choice, itself
  pub own_choice : (l : List Symbol) → mentions b l ≡ false → Contains (choices b alternatives l) (map Original l)
  own_choice [] h = contains_head [] []
  own_choice (x ∷ l) h =
      let r = or_false (is_named b x) (mentions b l) h in
      choice_cons b alternatives x l (Original x) (map Original l) (original_there (is_named b x) x r.0) (own_choice l r.1)

  pub own_laid_out : (l : List Symbol) → laid_out (map Original l) ≡ l
  own_laid_out [] = refl
  own_laid_out (x ∷ l) = ap (λ (s : List Symbol). x ∷ s) (own_laid_out l)

  pub only_choice : (l : List Symbol) (c : List InlinedSymbol) → mentions b l ≡ false → Contains (choices b alternatives l) c → laid_out c ≡ l
  only_choice [] c h k = elim (contains-cons [] [] c k) [ inl e ↦ ap laid_out (sym e) | inr n ↦ absurd (contains-nil n) ]
  only_choice (x ∷ l) c h k =
      let r = or_false (is_named b x) (mentions b l) h in
      let f = first_part b alternatives x l c k in
      elim (which_part b alternatives (is_named b x) x f.part f.among) [
        | inl m ↦ let same : true ≡ false = sym m.0 ∙ r.0 in cc
        | inr e ↦ ap laid_out (sym f.joined) ∙ ap (λ (y : InlinedSymbol). laid_out (y ∷ f.rest)) (sym e.1) ∙ ap (λ (s : List Symbol). x ∷ s) (only_choice l f.rest r.1 f.others)
      ]

  -- the production is an old one, or was made for a choice
  pub data Arises (ps : List Production) (low high : ℕ) (q : Production) : Type 0 where
    kept : Contains ps q → mentions b q.symbols ≡ false → Arises ps low high q
    made : (p : Production) → Contains ps p → mentions b p.symbols ≡ true → IsChosen p (choices b alternatives p.symbols) low high q → Arises ps low high q

  -- a production also arises from more productions, with wider bounds
  pub arises_wider : (ps qs : List Production) (low high under over : ℕ) (q : Production) → ((p : Production) → Contains ps p → Contains qs p) → under ≤ low → high ≤ over → Arises ps low high q → Arises qs under over q
  arises_wider ps qs low high under over q more l m (kept c h) = kept (more q c) h
  arises_wider ps qs low high under over q more l m (made p c h k) =
      made p (more p c) h (record { choice = k.choice; among = k.among; name = k.name; symbols = k.symbols; from = omega (arith, k.from); below = omega (arith, k.below) })

  pub replaced_by_sound : (m : Bool) (p : Production) (defns : List ActionFnDefn) (q : Production) → mentions b p.symbols ≡ m → Contains (cond m (chosen p (choices b alternatives p.symbols) defns) (made_of (p ∷ []) defns)).productions q
      → Arises (p ∷ []) (length defns) (length (cond m (chosen p (choices b alternatives p.symbols) defns) (made_of (p ∷ []) defns)).defns) q
  replaced_by_sound true p defns q h k = made p (contains_head p []) h (chosen_sound p (choices b alternatives p.symbols) defns q k)
  replaced_by_sound false p defns q h k = elim (contains-cons p [] q k) [
    | inl e ↦ kept k (ap (λ (x : Production). mentions b x.symbols) (sym e) ∙ h)
    | inr n ↦ absurd (contains-nil n)
  ]

  replaced_by_complete : (m : Bool) (p : Production) (defns : List ActionFnDefn) (c : List InlinedSymbol) → mentions b p.symbols ≡ m → Contains (choices b alternatives p.symbols) c
      → HasMade (cond m (chosen p (choices b alternatives p.symbols) defns) (made_of (p ∷ []) defns)).productions p c
  replaced_by_complete true p defns c h k = chosen_complete p (choices b alternatives p.symbols) defns c k
  replaced_by_complete false p defns c h k = record { made = p; there = contains_head p []; name = refl; symbols = sym (only_choice p.symbols c h k) }

  -- the productions that replace others arise from them
  pub replaced_all_sound : (ps : List Production) (defns : List ActionFnDefn) (q : Production) → Contains (replaced_all b alternatives ps defns).productions q → Arises ps (length defns) (length (replaced_all b alternatives ps defns).defns) q
  replaced_all_sound [] defns q k = absurd (contains-nil k)
  replaced_all_sound (p ∷ ps) defns q k =
      let r : Made = replaced b alternatives p defns in
      let all : List ActionFnDefn = (replaced_all b alternatives ps r.defns).defns in
      let grows : length defns ≤ length r.defns = more_longer defns r.defns (replaced_more b alternatives p defns) in
      let ends : length r.defns ≤ length all = more_longer r.defns all (replaced_all_more b alternatives ps r.defns) in
      elim (Contains-append_cases r.productions (replaced_all b alternatives ps r.defns).productions q k) [
        | inl h ↦ arises_wider (p ∷ []) (p ∷ ps) (length defns) (length r.defns) (length defns) (length all) q (λ x c. Contains-append_left (p ∷ []) ps x c) (omega arith) ends (replaced_by_sound (mentions b p.symbols) p defns q refl h)
        | inr h ↦ arises_wider ps (p ∷ ps) (length r.defns) (length all) (length defns) (length all) q (λ x c. contains_tail p ps x c) grows (omega arith) (replaced_all_sound ps r.defns q h)
      ]

  -- and each choice of each production is there
  pub replaced_all_complete : (ps : List Production) (defns : List ActionFnDefn) (p : Production) (c : List InlinedSymbol) → Contains ps p → Contains (choices b alternatives p.symbols) c → HasMade (replaced_all b alternatives ps defns).productions p c
  replaced_all_complete [] defns p c h k = absurd (contains-nil h)
  replaced_all_complete (o ∷ ps) defns p c h k =
      let r : Made = replaced b alternatives o defns in
      let rest : List Production = (replaced_all b alternatives ps r.defns).productions in
      elim (contains-cons o ps p h) [
        | inl e ↦
            let f = replaced_by_complete (mentions b o.symbols) o defns c refl (subst (λ (x : Production). Contains (choices b alternatives x.symbols) c) (sym e) k) in
            record { made = f.made; there = Contains-append_left r.productions rest f.made f.there; name = f.name ∙ ap (λ (x : Production). x.nonterminal) e; symbols = f.symbols }
        | inr i ↦ let f = replaced_all_complete ps r.defns p c i k in record { made = f.made; there = Contains-append_right r.productions rest f.made f.there; name = f.name; symbols = f.symbols }
      ]
