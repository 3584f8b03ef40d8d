-- If a nonterminal that does not mention itself is inlined, every nonterminal keeps its terminal
-- lists. The proof goes by induction on derivations one way, and on forests the other way.
use Rattle.std.proofs.Common.{◌≡◌, ◌↔◌, ◌⊎◌, inl, inr, Bool, true, false, cond, List, [], ◌∷◌, ◌++◌, map, refl, sym, ◌∙◌, ap, append-nil}
use Rattle.std.specs.Prelude.{Contains}
use Rattle.std.proofs.lemmas.Bool.{cases_Bool}
use mathlib.Core.List.{head-eq_of_cons-eq, tail-eq_of_cons-eq, cons≢nil}
use Rattle.lalrpop_inline.proofs.Types.{NonterminalString, Production, Symbol, TerminalString}
use Rattle.lalrpop_grammar.specs.declared.repr.Symbol.TheVariants.{Nonterminal}
use Rattle.lalrpop_grammar.specs.declared.repr.inlined.InlinedSymbol.{InlinedSymbol}
use Rattle.lalrpop_grammar.specs.declared.repr.inlined.InlinedSymbol.TheVariants.{Original}
use Rattle.lalrpop_base.specs.Words.{Derives, as_it_is, replace, terminal_symbols, IsSentence}
use Rattle.lalrpop_collections.proofs.theory.lists.Lists.{contains-cons, contains-nil, contains_head, contains_of_map, contains_map}
use Rattle.lalrpop_grammar.proofs.theory.grammars.SymbolLists.{same_nonterminal, terminal_parts}
use Rattle.lalrpop_grammar.proofs.theory.grammars.Derivations.{Derives-from, Derives-to, Derives-trans, Derives-left, Derives-right, Derives-append, Derives-production}
use Rattle.lalrpop_grammar.proofs.theory.grammars.Forests.{Forest, empty, leaf, node, Forest-from, Forest-append, forest_derives, derives_forest}
use Rattle.lalrpop_inline.specs.Words.{is_named, inlined, prefixed, parts, choices, laid_out}
use Rattle.lalrpop_inline.proofs.theory.inlining.InlineMembers.{named_exactly}
use Rattle.lalrpop_collections.proofs.theory.lists.Members.{of_flat}
use Rattle.lalrpop_collections.proofs.theory.lists.Bounded.{in_flat_map}

module _ (b : NonterminalString) (alternatives : List Production) where
  -- a part and a choice for the rest are a choice
  pub choice_cons : (x : Symbol) (l : List Symbol) (part : InlinedSymbol) (c : List InlinedSymbol) → Contains (parts b alternatives x) part → Contains (choices b alternatives l) c → Contains (choices b alternatives (x ∷ l)) (part ∷ c)
  choice_cons x l part c h k =
      in_flat_map (λ (p : InlinedSymbol). prefixed (p ∷ []) (choices b alternatives l)) (parts b alternatives x) part (part ∷ c) h (contains_map (λ (d : List InlinedSymbol). (part ∷ []) ++ d) (choices b alternatives l) c k)

  -- a choice for a list that is not empty, as a part and a choice for the rest
  pub record FirstPart (x : Symbol) (l : List Symbol) (c : List InlinedSymbol) : Type 0 where
    pub part : InlinedSymbol
    pub rest : List InlinedSymbol
    pub joined : part ∷ rest ≡ c
    pub among : Contains (parts b alternatives x) part
    pub others : Contains (choices b alternatives l) rest

  -- each choice for a list that is not empty is such a one
  pub first_part : (x : Symbol) (l : List Symbol) (c : List InlinedSymbol) → Contains (choices b alternatives (x ∷ l)) c → FirstPart x l c
  first_part x l c h =
      let r = of_flat (λ (p : InlinedSymbol). prefixed (p ∷ []) (choices b alternatives l)) (parts b alternatives x) c h in
      let s = contains_of_map (λ (d : List InlinedSymbol). (r.0 ∷ []) ++ d) (choices b alternatives l) c r.2 in
      record { part = r.0; rest = s.0; joined = s.2; among = r.1; others = s.1 }

  -- the part of a symbol that is not the nonterminal is the symbol itself
  original_part : (m : Bool) (x : Symbol) → m ≡ false → Contains (cond m (map inlined alternatives) (Original x ∷ [])) (Original x)
  original_part true x h = cc
  original_part false x h = contains_head (Original x) []

  -- each alternative is a part of the nonterminal
  inlined_part : (m : Bool) (x : Symbol) (r : Production) → m ≡ true → Contains alternatives r → Contains (cond m (map inlined alternatives) (Original x ∷ [])) (inlined r)
  inlined_part true x r h c = contains_map inlined alternatives r c
  inlined_part false x r h c = cc

  -- a part is an alternative of the nonterminal, or the symbol itself
  pub which_part : (m : Bool) (x : Symbol) (part : InlinedSymbol) → Contains (cond m (map inlined alternatives) (Original x ∷ [])) part → ((m ≡ true) × ((r : Production) × Contains alternatives r × (inlined r ≡ part))) ⊎ ((m ≡ false) × (Original x ≡ part))
  which_part true x part c = inl (refl, contains_of_map inlined alternatives part c)
  which_part false x part c = elim (contains-cons (Original x) [] part c) [ inl e ↦ inr (refl, e) | inr n ↦ absurd (contains-nil n) ]

  -- the productions h are g with the nonterminal inlined. Each of h is of g or of a choice, each
  -- choice is there, and the nonterminal's own productions are the alternatives
  pub record IsReplaced (g h : List Production) : Type 0 where
    pub own : (r : Production) → Contains alternatives r → Contains g r × (r.nonterminal ≡ b)
    pub only : (r : Production) → Contains h r → r.nonterminal ≡ b → Contains alternatives r
    pub sound : (p : Production) → Contains h p → (q : Production) × (c : List InlinedSymbol) × Contains g q × Contains (choices b alternatives q.symbols) c × (p.nonterminal ≡ q.nonterminal) × (p.symbols ≡ laid_out c)
    pub complete : (q : Production) (c : List InlinedSymbol) → Contains g q → Contains (choices b alternatives q.symbols) c → (p : Production) × Contains h p × (p.nonterminal ≡ q.nonterminal) × (p.symbols ≡ laid_out c)

  module _ (g h : List Production) (is : IsReplaced g h) where
    -- a right side derives each of its choices
    part_derives : (x : Symbol) (part : InlinedSymbol) → Contains (parts b alternatives x) part → Derives g (x ∷ []) (laid_out (part ∷ []))
    part_derives x part c = elim (which_part (is_named b x) x part c) [
      | inl r ↦
          let own = is.own (r.1).0 (r.1).1 in
          let named : Nonterminal ((r.1).0).nonterminal ≡ x = ap Nonterminal own.1 ∙ sym (named_exactly b x r.0) in
          Derives-to (sym (append-nil ((r.1).0).symbols) ∙ ap (λ (y : InlinedSymbol). laid_out (y ∷ [])) (r.1).2) (Derives-from (ap (λ (y : Symbol). y ∷ []) named) (Derives-production (r.1).0 own.0))
      | inr e ↦ Derives-to (ap (λ (y : InlinedSymbol). laid_out (y ∷ [])) e.1) as_it_is
    ]

    choice_derives : (l : List Symbol) (c : List InlinedSymbol) → Contains (choices b alternatives l) c → Derives g l (laid_out c)
    choice_derives [] c k = elim (contains-cons [] [] c k) [ inl e ↦ Derives-to (ap laid_out e) as_it_is | inr n ↦ absurd (contains-nil n) ]
    choice_derives (x ∷ l) c k =
        let r = first_part x l c k in
        Derives-to (ap (λ (s : List Symbol). s ++ laid_out r.rest) (append-nil _) ∙ ap laid_out r.joined) (Derives-append (part_derives x r.part r.among) (choice_derives l r.rest r.others))

    -- the old productions derive what the new ones derive
    derives_old : {l m : List Symbol} → Derives h l m → Derives g l m
    derives_old as_it_is = as_it_is
    derives_old (replace before after p k d) =
        let (q, c, of, among, name, symbols) = is.sound p k in
        let one : Derives g (Nonterminal p.nonterminal ∷ []) p.symbols =
        Derives-from (ap (λ (a : NonterminalString). Nonterminal a ∷ []) (sym name)) (Derives-to (sym symbols) (Derives-trans (Derives-production q of) (choice_derives q.symbols c among))) in
        Derives-trans (Derives-left before (Derives-right after one)) (derives_old d)

    -- a forest over terminals, with the alternatives in the place of the nonterminal's trees
    record Collapsed (l m : List Symbol) : Type 0 where
      pub choice : List InlinedSymbol
      pub among : Contains (choices b alternatives l) choice
      pub forest : Forest h (laid_out choice) m

    collapsed : {l m : List Symbol} (w : List TerminalString) → Forest h l m → m ≡ terminal_symbols w → Collapsed l m
    collapsed w empty e = record { choice = []; among = contains_head [] []; forest = empty }
    collapsed [] (leaf x f) e = absurd (cons≢nil e)
    collapsed (t ∷ w) (leaf x {l} {n} f) e =
        let r = collapsed w f (tail-eq_of_cons-eq e) in
        let plain : is_named b x ≡ false = ap (is_named b) (head-eq_of_cons-eq e) in
        record { choice = Original x ∷ r.choice; among = choice_cons x l (Original x) r.choice (original_part (is_named b x) x plain) r.among; forest = leaf x r.forest }
    collapsed w (node p {l} {m} {n} k f rest) e =
        let r = collapsed ((terminal_parts m n w e).second) rest ((terminal_parts m n w e).right) in
        let x : Symbol = Nonterminal p.nonterminal in
        elim (cases_Bool (is_named b x)) [
          | inl named ↦
              let own : Contains alternatives p = is.only p k (same_nonterminal (named_exactly b x named)) in
              record { choice = inlined p ∷ r.choice; among = choice_cons x l (inlined p) r.choice (inlined_part (is_named b x) x p named own) r.among; forest = Forest-append f r.forest }
          | inr other ↦
              record { choice = Original x ∷ r.choice; among = choice_cons x l (Original x) r.choice (original_part (is_named b x) x other) r.among; forest = node p k f r.forest }
        ]

    -- the new productions derive the terminals that the old ones derive
    forest_new : {l m : List Symbol} (w : List TerminalString) → Forest g l m → m ≡ terminal_symbols w → Forest h l m
    forest_new w empty e = empty
    forest_new [] (leaf x f) e = absurd (cons≢nil e)
    forest_new (t ∷ w) (leaf x f) e = leaf x (forest_new w f (tail-eq_of_cons-eq e))
    forest_new w (node p {l} {m} {n} k f rest) e =
        let ends = terminal_parts m n w e in
        let r = collapsed ends.first (forest_new ends.first f ends.left) ends.left in
        let (q, there, name, symbols) = is.complete p r.choice k r.among in
        Forest-from (ap (λ (a : NonterminalString). Nonterminal a ∷ l) name) (node q there (Forest-from (sym symbols) r.forest) (forest_new ends.second rest ends.right))

    -- every nonterminal keeps its terminal lists
    pub same_terminal_lists : (a : NonterminalString) (w : List TerminalString) → IsSentence g a w ↔ IsSentence h a w
    same_terminal_lists a w = (λ d. forest_derives (forest_new w (derives_forest d) refl), derives_old)
