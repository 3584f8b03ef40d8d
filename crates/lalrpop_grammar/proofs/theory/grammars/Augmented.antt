-- From a new start symbol the parse trees, sentences and beginnings are those from the old one, and
-- the new one is on no right side. The proof is from its one production, which no other production
-- mentions.
use Rattle.std.proofs.Common.{◌≡◌, ◌↔◌, ◌≤◌, ℕ, suc, ◌⊎◌, inl, inr, List, [], ◌∷◌, ◌++◌, append-nil, sym, subst, refl, ap, ap₂, ◌∙◌, arith}
use Rattle.std.specs.Prelude.{Contains}
use mathlib.Core.List.{head-eq_of_cons-eq, tail-eq_of_cons-eq, nil≢cons, cons≢nil}
use Rattle.lalrpop_grammar.proofs.Types.{NonterminalString, Production, Symbol, TerminalString, Token}
use Rattle.lalrpop_grammar.specs.declared.repr.Symbol.TheVariants.{Nonterminal, Terminal}
use Rattle.lalrpop_grammar.specs.Words.{Derives, as_it_is, replace, terminal_symbols, IsSentence, IsBeginning, IsOnNoRightSide, Tree, Leaf, Node, Trees, no_trees}
use Rattle.lalrpop_grammar.specs.Words.{beside, root, roots, leaves, nodes, IsNode, AreOfGrammar, IsParseTree, IsAugmented, Contents, AreFaithful, HasOutcome}
use Rattle.lalrpop_grammar.specs.Words.{Parsed, Refused, IsFirstWrong, at_terminal, at_end}
use Rattle.lalrpop_collections.proofs.theory.lists.Lists.{contains-cons, contains-nil, contains_head, contains_tail}
use Rattle.lalrpop_grammar.proofs.theory.grammars.SymbolLists.{same_nonterminal, not_both}
use Rattle.lalrpop_grammar.proofs.theory.grammars.Derivations.{Derives-to, Derives-from, Derives-trans, Derives-production}
use Rattle.lalrpop_grammar.proofs.theory.grammars.Forests.{Forest, empty, leaf, node, Forest-from, forest_derives, derives_forest, forest-nil}
use Rattle.lalrpop_grammar.proofs.theory.runs.Runs.{answered_is_tree, answered_within}
use Rattle.lalrpop_grammar.proofs.theory.runs.Sentences.{tree_parsed}
use Rattle.lalrpop_grammar.proofs.theory.runs.Refusals.{refused_wrong}

module _ (g h : List Production) (start f : NonterminalString) (aug : IsAugmented g h start f) where
  -- the old productions are kept
  kept : (p : Production) → Contains g p → Contains h p
  kept p c = (aug.more p).1 (inl c)

  -- the added production is there
  added_there : Contains h aug.added
  added_there = (aug.more aug.added).1 (inr refl)

  -- the new name is on no right side
  pub alone : IsOnNoRightSide h f
  alone p c k = elim ((aug.more p).0 c) [
    | inl i ↦ aug.fresh.1 p i k
    | inr e ↦ elim (contains-cons (Nonterminal start) [] (Nonterminal f) (subst (λ l. Contains l (Nonterminal f)) (ap (λ (q : Production). q.symbols) e ∙ aug.symbols) k)) [
      | inl s ↦ aug.other (same_nonterminal s)
      | inr n ↦ contains-nil n
    ]
  ]

  -- trees without the new name at a root are trees of the old grammar
  smaller : (ts : Trees) → AreOfGrammar h ts → (Contains (roots ts) (Nonterminal f) → ⊥) → AreOfGrammar g ts
  smaller no_trees of free = tt
  smaller (beside (Leaf t) ts) of free = smaller ts of (λ c. free (contains_tail (Terminal t) (roots ts) (Nonterminal f) c))
  smaller (beside (Node a children) ts) of free = go ((aug.more (of.0).production).0 (of.0).of_grammar) (λ k. smaller children of.1 k) (smaller ts of.2 (λ c. free (contains_tail (Nonterminal a) (roots ts) (Nonterminal f) c)))
    where
      go : Contains g (of.0).production ⊎ ((of.0).production ≡ aug.added) → ((Contains (roots children) (Nonterminal f) → ⊥) → AreOfGrammar g children) → AreOfGrammar g ts → IsNode g a children × AreOfGrammar g children × AreOfGrammar g ts
      go (inl i) more rest = (
        record { production = (of.0).production; of_grammar = i; name = (of.0).name; symbols = (of.0).symbols },
        more (λ c. aug.fresh.1 (of.0).production i (subst (λ l. Contains l (Nonterminal f)) (sym (of.0).symbols) c)),
        rest,
      )
      go (inr e) more rest =
          let is_f : a ≡ f = sym (of.0).name ∙ ap (λ (q : Production). q.nonterminal) e ∙ aug.name in
          absurd (free (subst (λ b. Contains (Nonterminal a ∷ roots ts) (Nonterminal b)) is_f (contains_head (Nonterminal a) (roots ts))))

  -- trees of the old grammar are trees of the new one
  larger : (ts : Trees) → AreOfGrammar g ts → AreOfGrammar h ts
  larger no_trees of = tt
  larger (beside (Leaf t) ts) of = larger ts of
  larger (beside (Node a children) ts) of = (record { production = (of.0).production; of_grammar = kept (of.0).production (of.0).of_grammar; name = (of.0).name; symbols = (of.0).symbols }, larger children of.1, larger ts of.2)

  -- a node over a parse tree from the old start symbol is a parse tree from the new name
  pub from_old : (w : List TerminalString) (t : Tree) → IsParseTree g start w t → IsParseTree h f w (Node f (beside t no_trees))
  from_old w t p = record {
    from_start = refl;
    of_grammar = (record { production = aug.added; of_grammar = added_there; name = aug.name; symbols = aug.symbols ∙ ap (λ x. x ∷ []) (sym p.from_start) }, larger (beside t no_trees) p.of_grammar, tt);
    of_list = append-nil (leaves (beside t no_trees)) ∙ p.of_list;
  }

  -- each parse tree from the new name is such a node
  pub to_old : (w : List TerminalString) (t : Tree) → IsParseTree h f w t → (s : Tree) × (t ≡ Node f (beside s no_trees)) × IsParseTree g start w s
  to_old w (Leaf x) p = absurd (not_both (sym p.from_start))
  to_old w (Node a children) p = go children (of.0).symbols (of.1) p.of_list
    where
      of : AreOfGrammar h (beside (Node a children) no_trees)
      of = p.of_grammar

      is_f : a ≡ f
      is_f = same_nonterminal p.from_start

      is_added : (of.0).production ≡ aug.added
      is_added = elim ((aug.more (of.0).production).0 (of.0).of_grammar) [
        | inl i ↦ absurd (aug.fresh.0 (of.0).production i ((of.0).name ∙ is_f))
        | inr e ↦ e
      ]

      start_symbols : (of.0).production.symbols ≡ Nonterminal start ∷ []
      start_symbols = ap (λ (q : Production). q.symbols) is_added ∙ aug.symbols

      go : (us : Trees) → (of.0).production.symbols ≡ roots us → AreOfGrammar h us → leaves (beside (Node a us) no_trees) ≡ w → (s : Tree) × (Node a us ≡ Node f (beside s no_trees)) × IsParseTree g start w s
      go no_trees e o l = absurd (nil≢cons (sym e ∙ start_symbols))
      go (beside s no_trees) e o l =
          let r : root s ≡ Nonterminal start = head-eq_of_cons-eq (sym e ∙ start_symbols) in (
            s,
            ap (λ b. Node b (beside s no_trees)) is_f,
            record {
              from_start = r;
              of_grammar = smaller (beside s no_trees) o (λ c. elim (contains-cons (root s) [] (Nonterminal f) c) [ inl k ↦ aug.other (same_nonterminal (sym r ∙ k)) | inr n ↦ contains-nil n ]);
              of_list = sym (append-nil (leaves (beside s no_trees))) ∙ l;
            },
          )
      go (beside s (beside v us)) e o l = absurd (cons≢nil (tail-eq_of_cons-eq (sym e ∙ start_symbols)))

  -- a node over one tree has one more node than the tree
  pub one_more : (t : Tree) → nodes (beside (Node f (beside t no_trees)) no_trees) ≡ suc (nodes (beside t no_trees))
  one_more t = omega arith

  -- the new grammar derives what the old one does
  derives_new : {l m : List Symbol} → Derives g l m → Derives h l m
  derives_new as_it_is = as_it_is
  derives_new (replace a b p c d) = replace a b p (kept p c) (derives_new d)

  -- forests without the new name at a root are forests of the old grammar
  narrower : {l m : List Symbol} → Forest h l m → (Contains l (Nonterminal f) → ⊥) → Forest g l m
  narrower empty free = empty
  narrower (leaf x {l} k) free = leaf x (narrower k (λ c. free (contains_tail x l (Nonterminal f) c)))
  narrower (node p {l} c d e) free = elim ((aug.more p).0 c) [
    | inl i ↦ node p i (narrower d (aug.fresh.1 p i)) (narrower e (λ k. free (contains_tail (Nonterminal p.nonterminal) l (Nonterminal f) k)))
    | inr s ↦
        let is_f : p.nonterminal ≡ f = ap (λ (q : Production). q.nonterminal) s ∙ aug.name in
        absurd (free (subst (λ b. Contains (Nonterminal p.nonterminal ∷ l) (Nonterminal b)) is_f (contains_head (Nonterminal p.nonterminal) l)))
  ]

  -- the new name derives only itself, and what the old start symbol derives
  derived_old : {l m : List Symbol} → Forest h l m → l ≡ Nonterminal f ∷ [] → (m ≡ Nonterminal f ∷ []) ⊎ Derives g (Nonterminal start ∷ []) m
  derived_old empty e = absurd (nil≢cons e)
  derived_old (leaf x k) e = inl (ap₂ (λ y n. y ∷ n) (head-eq_of_cons-eq e) (forest-nil (Forest-from (tail-eq_of_cons-eq e) k)))
  derived_old (node p {m = m} {n = n} c d k) e =
      let is_f : p.nonterminal ≡ f = same_nonterminal (head-eq_of_cons-eq e) in
      let nothing : n ≡ [] = forest-nil (Forest-from (tail-eq_of_cons-eq e) k) in
      elim ((aug.more p).0 c) [
        | inl i ↦ absurd (aug.fresh.0 p i is_f)
        | inr s ↦
            let symbols : p.symbols ≡ Nonterminal start ∷ [] = ap (λ (q : Production). q.symbols) s ∙ aug.symbols in
            let old : Forest g (Nonterminal start ∷ []) m = narrower (Forest-from symbols d) (λ q. elim (contains-cons (Nonterminal start) [] (Nonterminal f) q) [ inl z ↦ aug.other (same_nonterminal z) | inr z ↦ contains-nil z ]) in
            inr (Derives-to (sym (append-nil m) ∙ ap (λ z. m ++ z) (sym nothing)) (forest_derives old))
      ]

  -- the new name derives what the old start symbol does
  derived_new : {m : List Symbol} → Derives g (Nonterminal start ∷ []) m → Derives h (Nonterminal f ∷ []) m
  derived_new d =
      Derives-trans (Derives-from (ap (λ a. Nonterminal a ∷ []) aug.name) (Derives-to aug.symbols (Derives-production aug.added added_there))) (derives_new d)

  -- a list of terminals is not the beginning of the list of the new name, unless it is empty
  not_terminals : (w : List TerminalString) (rest : List Symbol) → terminal_symbols w ++ rest ≡ Nonterminal f ∷ [] → w ≡ []
  not_terminals [] rest e = refl
  not_terminals (t ∷ w) rest e = absurd (not_both (sym (head-eq_of_cons-eq e)))

  -- the sentences are those from the old start symbol
  pub same_sentences : (w : List TerminalString) → IsSentence h f w ↔ IsSentence g start w
  same_sentences w = (λ d. go (derived_old (derives_forest d) refl), derived_new)
    where
      nothing : (v : List TerminalString) → terminal_symbols v ≡ Nonterminal f ∷ [] → ⊥
      nothing [] e = nil≢cons e
      nothing (t ∷ v) e = not_both (sym (head-eq_of_cons-eq e))

      go : (terminal_symbols w ≡ Nonterminal f ∷ []) ⊎ IsSentence g start w → IsSentence g start w
      go (inl e) = absurd (nothing w e)
      go (inr d) = d

  -- the beginnings are those from the old start symbol
  pub same_beginnings : (w : List TerminalString) → IsBeginning h f w ↔ IsBeginning g start w
  same_beginnings w = (λ b. go b.0 (derived_old (derives_forest b.1) refl), λ b. (b.0, derived_new b.1))
    where
      go : (rest : List Symbol) → (terminal_symbols w ++ rest ≡ Nonterminal f ∷ []) ⊎ Derives g (Nonterminal start ∷ []) (terminal_symbols w ++ rest) → IsBeginning g start w
      go rest (inl e) = subst (IsBeginning g start) (sym (not_terminals w rest e)) (Nonterminal start ∷ [], as_it_is)
      go rest (inr d) = (rest, d)

  -- the first wrong token is that for the old start symbol
  pub same_wrong : (w : List TerminalString) (t : Token) → IsFirstWrong h f w t → IsFirstWrong g start w t
  same_wrong w _ (at_terminal before t after e b n) = at_terminal before t after e ((same_beginnings before).0 b) (λ c. n ((same_beginnings (before ++ t ∷ [])).1 c))
  same_wrong w _ (at_end b n) = at_end ((same_beginnings w).0 b) (λ d. n ((same_sentences w).1 d))

  -- the parse trees from the new name are the nodes over a parse tree from the old start symbol
  pub augmented_trees : (w : List TerminalString) (t : Tree) → IsParseTree h f w t ↔ ((s : Tree) × (t ≡ Node f (beside s no_trees)) × (nodes (beside t no_trees) ≡ suc (nodes (beside s no_trees))) × IsParseTree g start w s)
  augmented_trees w t = (
    λ p.
        let r = to_old w t p in
        (r.0, r.1, ap (λ (u : Tree). nodes (beside u no_trees)) r.1 ∙ one_more r.0, r.2),
    λ r. subst (λ (u : Tree). IsParseTree h f w u) (sym r.1) (from_old w r.0 r.3),
  )

  -- over faithful states the trees that a run returns are nodes over parse trees from the old start
  -- symbol
  pub augmented_answers : (states : ℕ → Contents) → AreFaithful h f states → (w : List TerminalString) (t : Tree) (limit : ℕ) → HasOutcome states w limit (Parsed t) ↔ ((s : Tree) × (t ≡ Node f (beside s no_trees)) × IsParseTree g start w s × (suc (nodes (beside s no_trees)) ≤ limit))
  augmented_answers states faithful w t limit = (
    λ o.
        let r = (augmented_trees w t).0 (answered_is_tree h f states faithful w t limit o) in
        (r.0, r.1, r.3, subst (λ n. n ≤ limit) r.2 (answered_within h f states faithful alone w t limit o)),
    λ r.
        let count : nodes (beside t no_trees) ≡ suc (nodes (beside r.0 no_trees)) = ap (λ (u : Tree). nodes (beside u no_trees)) r.1 ∙ one_more r.0 in
        tree_parsed h f states faithful alone w t limit ((augmented_trees w t).1 (r.0, r.1, count, r.2)) (subst (λ n. n ≤ limit) (sym count) r.3),
  )

  -- over faithful states refusals name the first wrong token for the old start symbol
  pub augmented_refusals : (states : ℕ → Contents) → AreFaithful h f states → (w : List TerminalString) (limit s : ℕ) (t : Token) → HasOutcome states w limit (Refused s t) → IsFirstWrong g start w t
  augmented_refusals states faithful w limit s t o = same_wrong w t (refused_wrong h f states faithful alone w limit s t o)
