-- The productions of an inlined grammar are laid out by the definitions of their actions, which say
-- whether these can fail. Later definitions change nothing of that.
use Rattle.std.proofs.Common.{◌≡◌, ℕ, zero, suc, ◌+◌, ◌≤◌, ◌<◌, ◌⊎◌, inl, inr, Bool, true, false, ◌||◌, cond, List, [], ◌∷◌, ◌++◌, length, Some, refl, sym, ◌∙◌, ap, ap₂, subst, arith, length-append}
use Rattle.std.specs.Prelude.{Contains, slice_get}
use Rattle.std.specs.List.{list_any, flat_map}
use Rattle.std.proofs.lemmas.List.Elements.{Contains-append_left, Contains-append_right, Contains-append_cases}
use Rattle.lalrpop_inline.proofs.Types.{NonterminalString, Production, Symbol}
use Rattle.lalrpop_grammar.specs.declared.repr.ActionFn.{ActionFn}
use Rattle.lalrpop_grammar.specs.declared.repr.inlined.InlinedSymbol.{InlinedSymbol}
use Rattle.lalrpop_grammar.specs.declared.repr.inlined.InlinedSymbol.TheVariants.{Original, Inlined}
use Rattle.lalrpop_grammar.specs.declared.repr.grammar.ActionFnDefn.{ActionFnDefn}
use Rattle.lalrpop_collections.proofs.theory.lists.Lists.{contains-cons, contains-nil, contains_head, contains_tail}
use Rattle.lalrpop_inline.specs.Words.{is_named, mentions, inlined, choices, is_fallible, is_fallible_part, fallible_of, choice_defn, choice_production, Made}
use Rattle.lalrpop_inline.specs.Words.{made_of, chosen, replaced, replaced_all, Entry, View, productions_of_view, replaced_entries, IsLaidOut}
use Rattle.lalrpop_inline.proofs.theory.inlining.InlineForests.{first_part, which_part}
use Rattle.lalrpop_inline.proofs.theory.inlining.InlineSteps.{IsMore, more_longer, chosen_more, replaced_more, replaced_all_more, replaced_entries_more}

-- an element of a list is at the same place in a longer one
get_more : (xs ys : List ActionFnDefn) (k : ℕ) → k < length xs → slice_get (xs ++ ys) k ≡ slice_get xs k
get_more [] ys k l = absurd (omega arith)
get_more (x ∷ xs) ys zero l = refl
get_more (x ∷ xs) ys (suc k) l = get_more xs ys k (omega arith)

get_last : (xs : List ActionFnDefn) (x : ActionFnDefn) → slice_get (xs ++ x ∷ []) (length xs) ≡ Some x
get_last [] x = refl
get_last (y ∷ xs) x = get_last xs x

module _ (defns all : List ActionFnDefn) (longer : IsMore defns all) where
  get_all : (k : ℕ) → k < length defns → slice_get all k ≡ slice_get defns k
  get_all k l = ap (λ (ds : List ActionFnDefn). slice_get ds k) longer.1 ∙ get_more defns longer.0 k l

  same_flag : (a : ActionFn) → a.0 < length defns → is_fallible all a ≡ is_fallible defns a
  same_flag a l = ap fallible_of (get_all a.0 l)

  same_flags : (parts : List InlinedSymbol) → ((a : ActionFn) (s : List Symbol) → Contains parts (Inlined a s) → a.0 < length defns) → list_any (is_fallible_part all) parts ≡ list_any (is_fallible_part defns) parts
  same_flags [] below = refl
  same_flags (Original x ∷ parts) below = same_flags parts (λ a s c. below a s (contains_tail (Original x) parts (Inlined a s) c))
  same_flags (Inlined a s ∷ parts) below =
      ap₂ (λ (p q : Bool). p || q) (same_flag a (below a s (contains_head (Inlined a s) parts))) (same_flags parts (λ b t c. below b t (contains_tail (Inlined a s) parts (Inlined b t) c)))

  -- a production stays laid out with later definitions
  pub laid_out_more : (p : Production) → p.action.0 < length defns → IsLaidOut defns p → IsLaidOut all p
  laid_out_more p l is = record {
    outer = is.outer;
    parts = is.parts;
    defn = is.defn;
    defined = get_all p.action.0 l ∙ is.defined;
    kind = is.kind;
    symbols = is.symbols;
    outer_before = is.outer_before;
    parts_before = is.parts_before;
    fallible = is.fallible ∙ sym (ap₂ (λ (a b : Bool). a || b) (same_flag is.outer (let o : is.outer.0 < p.action.0 = is.outer_before in omega arith)) (same_flags is.parts (λ a s c. let o : a.0 < p.action.0 = is.parts_before a s c in omega arith)));
  }

-- the actions of the inlined parts of a choice are below a number
PartsBelow : ℕ → List InlinedSymbol → Type 0
PartsBelow n parts = (a : ActionFn) (s : List Symbol) → Contains parts (Inlined a s) → a.0 < n

-- the production of a choice is laid out
head_laid_out : (p : Production) (c : List InlinedSymbol) (old : ℕ) (defns : List ActionFnDefn) → old ≤ length defns → p.action.0 < old → PartsBelow old c → IsLaidOut (defns ++ choice_defn defns p.action c ∷ []) (choice_production (length defns) p c)
unfolding PartsBelow
head_laid_out p c old defns l outer below =
    let d : ActionFnDefn = choice_defn defns p.action c in
    let more : IsMore defns (defns ++ d ∷ []) = (d ∷ [], refl) in
    record {
      outer = p.action;
      parts = c;
      defn = d;
      defined = get_last defns d;
      kind = refl;
      symbols = refl;
      outer_before = omega arith;
      parts_before = λ a s k. let o : a.0 < old = below a s k in omega arith;
      fallible = sym (ap₂ (λ (a b : Bool). a || b) (same_flag defns (defns ++ d ∷ []) more p.action (omega arith)) (same_flags defns (defns ++ d ∷ []) more c (λ a s k. let o : a.0 < old = below a s k in omega arith)));
    }

chosen_laid_out : (p : Production) (cs : List (List InlinedSymbol)) (old : ℕ) (defns : List ActionFnDefn) → old ≤ length defns → p.action.0 < old → ((c : List InlinedSymbol) → Contains cs c → PartsBelow old c)
    → (q : Production) → Contains (chosen p cs defns).productions q → IsLaidOut (chosen p cs defns).defns q
chosen_laid_out p [] old defns l outer below q k = absurd (contains-nil k)
chosen_laid_out p (c ∷ cs) old defns l outer below q k =
    let grown : List ActionFnDefn = defns ++ choice_defn defns p.action c ∷ [] in
    let longer : length grown ≡ length defns + 1 = length-append defns (choice_defn defns p.action c ∷ []) in
    elim (contains-cons (choice_production (length defns) p c) (chosen p cs grown).productions q k) [
      | inl e ↦ subst (IsLaidOut (chosen p cs grown).defns) e
          (laid_out_more grown (chosen p cs grown).defns (chosen_more p cs grown) (choice_production (length defns) p c) (omega arith) (head_laid_out p c old defns l outer (below c (contains_head c cs))))
      | inr h ↦ chosen_laid_out p cs old grown (omega arith) outer (λ d m. below d (contains_tail c cs d m)) q h
    ]

module _ (b : NonterminalString) (alternatives : List Production) (old : ℕ) (few : (r : Production) → Contains alternatives r → r.action.0 < old) where
  inlined_action : (r : Production) (a : ActionFn) (s : List Symbol) → inlined r ≡ Inlined a s → r.action ≡ a
  inlined_action r a s e = cc

  not_original : (x : Symbol) (a : ActionFn) (s : List Symbol) → Original x ≡ Inlined a s → ⊥
  not_original x a s e = cc

  -- the parts of a choice are alternatives
  parts_below : (l : List Symbol) (c : List InlinedSymbol) → Contains (choices b alternatives l) c → PartsBelow old c
  unfolding PartsBelow
  parts_below [] c k a s m = elim (contains-cons [] [] c k) [ inl e ↦ absurd (contains-nil (subst (λ (z : List InlinedSymbol). Contains z (Inlined a s)) (sym e) m)) | inr n ↦ absurd (contains-nil n) ]
  parts_below (x ∷ l) c k a s m =
      let f = first_part b alternatives x l c k in
      elim (contains-cons f.part f.rest (Inlined a s) (subst (λ (z : List InlinedSymbol). Contains z (Inlined a s)) (sym f.joined) m)) [
        | inl e ↦ elim (which_part b alternatives (is_named b x) x f.part f.among) [
          | inl r ↦ subst (λ (y : ActionFn). y.0 < old) (inlined_action (r.1).0 a s ((r.1).2 ∙ e)) (few (r.1).0 (r.1).1)
          | inr o ↦ absurd (not_original x a s (o.1 ∙ e))
        ]
        | inr h ↦ parts_below l f.rest f.others a s h
      ]

  -- a production that replaces another one is that one, or is laid out
  replaced_by_laid_out : (m : Bool) (p : Production) (defns : List ActionFnDefn) → old ≤ length defns → p.action.0 < old → (q : Production) → Contains (cond m (chosen p (choices b alternatives p.symbols) defns) (made_of (p ∷ []) defns)).productions q
      → (p ≡ q) ⊎ IsLaidOut (cond m (chosen p (choices b alternatives p.symbols) defns) (made_of (p ∷ []) defns)).defns q
  replaced_by_laid_out true p defns l outer q k = inr (chosen_laid_out p (choices b alternatives p.symbols) old defns l outer (parts_below p.symbols) q k)
  replaced_by_laid_out false p defns l outer q k = elim (contains-cons p [] q k) [ inl e ↦ inl e | inr n ↦ absurd (contains-nil n) ]

  replaced_all_laid_out : (ps : List Production) (defns : List ActionFnDefn) → old ≤ length defns → ((p : Production) → Contains ps p → p.action.0 < old) → (q : Production) → Contains (replaced_all b alternatives ps defns).productions q
      → Contains ps q ⊎ (IsLaidOut (replaced_all b alternatives ps defns).defns q × (q.action.0 < length (replaced_all b alternatives ps defns).defns))
  replaced_all_laid_out [] defns l below q k = absurd (contains-nil k)
  replaced_all_laid_out (p ∷ ps) defns l below q k =
      let r : Made = replaced b alternatives p defns in
      let s : Made = replaced_all b alternatives ps r.defns in
      let grows : length defns ≤ length r.defns = more_longer defns r.defns (replaced_more b alternatives p defns) in
      let later : IsMore r.defns s.defns = replaced_all_more b alternatives ps r.defns in
      elim (Contains-append_cases r.productions s.productions q k) [
        | inl h ↦ elim (replaced_by_laid_out (mentions b p.symbols) p defns l (below p (contains_head p ps)) q h) [
          | inl e ↦ inl (subst (Contains (p ∷ ps)) e (contains_head p ps))
          | inr is ↦ let there = in_range r.defns q is in inr (laid_out_more r.defns s.defns later q there is, (let w : length r.defns ≤ length s.defns = more_longer r.defns s.defns later in omega arith))
        ]
        | inr h ↦ elim (replaced_all_laid_out ps r.defns (omega arith) (λ x c. below x (contains_tail p ps x c)) q h) [
          | inl c ↦ inl (contains_tail p ps q c)
          | inr is ↦ inr is
        ]
      ]
    where
      some_within : (ds : List ActionFnDefn) (k : ℕ) (d : ActionFnDefn) → slice_get ds k ≡ Some d → k < length ds
      some_within [] k d e = cc
      some_within (x ∷ ds) zero d e = omega arith
      some_within (x ∷ ds) (suc k) d e = let r : k < length ds = some_within ds k d e in omega arith

      in_range : (ds : List ActionFnDefn) (q : Production) → IsLaidOut ds q → q.action.0 < length ds
      in_range ds q is = some_within ds q.action.0 is.defn is.defined

  -- each production of the entries was there before, or is laid out
  pub entries_laid_out : (es : List (NonterminalString × Entry)) (defns : List ActionFnDefn) → old ≤ length defns → ((e : NonterminalString × Entry) (p : Production) → Contains es e → Contains e.1.productions p → p.action.0 < old)
      → (q : Production) → Contains (productions_of_view (replaced_entries b alternatives es defns)) q → Contains (flat_map (λ (e : NonterminalString × Entry). e.1.productions) es) q ⊎ IsLaidOut (replaced_entries b alternatives es defns).defns q
  entries_laid_out [] defns l below q k = absurd (contains-nil k)
  entries_laid_out (e ∷ es) defns l below q k =
      let r : Made = replaced_all b alternatives e.1.productions defns in
      let rest : View = replaced_entries b alternatives es r.defns in
      let grows : length defns ≤ length r.defns = more_longer defns r.defns (replaced_all_more b alternatives e.1.productions defns) in
      elim (Contains-append_cases r.productions (productions_of_view rest) q k) [
        | inl h ↦ elim (replaced_all_laid_out e.1.productions defns l (λ p c. below e p (contains_head e es) c) q h) [
          | inl c ↦ inl (Contains-append_left e.1.productions (flat_map (λ (x : NonterminalString × Entry). x.1.productions) es) q c)
          | inr is ↦ inr (laid_out_more r.defns rest.defns (replaced_entries_more b alternatives es r.defns) q is.1 is.0)
        ]
        | inr h ↦ elim (entries_laid_out es r.defns (omega arith) (λ x p c. below x p (contains_tail e es x c)) q h) [
          | inl c ↦ inl (Contains-append_right e.1.productions (flat_map (λ (x : NonterminalString × Entry). x.1.productions) es) q c)
          | inr is ↦ inr is
        ]
      ]
