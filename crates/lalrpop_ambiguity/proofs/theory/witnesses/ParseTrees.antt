-- Derivations of lists of terminals are parse trees: each production is replaced by its nonterminal.
use Rattle.std.proofs.Common.{◌≡◌, ◌∙◌, List, [], ◌∷◌, ◌++◌, refl, sym, ap, ap₂, subst}
use mathlib.Core.List.{cons≢nil, head-eq_of_cons-eq, nil≢cons, tail-eq_of_cons-eq}
use Rattle.lalrpop_grammar.specs.Words.{IsParseTree, terminal_symbols, AreOfGrammar as AreParseTrees, Leaf as ParseLeaf, Node as ParseNode, Tree as ParseTree, Trees as ParseTrees, beside as parse_beside, leaves as parse_leaves, no_trees as no_parse_trees, root as parse_root, roots as parse_roots}
use Rattle.lalrpop_grammar.specs.declared.repr.Symbol.TheVariants.{Nonterminal, Terminal}
use Rattle.lalrpop_grammar.proofs.theory.grammars.SymbolLists.{TerminalParts, not_both, same_nonterminal, same_terminal, terminal_parts}
use Rattle.lalrpop_ambiguity.proofs.Types.{NonterminalString, Production, Symbol, TerminalString}
use Rattle.lalrpop_ambiguity.specs.Words.{AreOfGrammar, DerivationsHaveTrees, HasNoTwins, IsDerivation, Leaf, Node, Tree, Trees, beside, leaves, no_trees, roots}
use Rattle.lalrpop_ambiguity.proofs.theory.witnesses.Rows.{same_first}

-- the parse trees that derivations give. A nonterminal at a leaf gives a node without children
abbrev pub parse_trees : Trees → ParseTrees
parse_trees no_trees = no_parse_trees
parse_trees (beside (Leaf (Terminal t)) ts) = parse_beside (ParseLeaf t) (parse_trees ts)
parse_trees (beside (Leaf (Nonterminal a)) ts) = parse_beside (ParseNode a no_parse_trees) (parse_trees ts)
parse_trees (beside (Node p cs) ts) = parse_beside (ParseNode p.nonterminal (parse_trees cs)) (parse_trees ts)

pub parse_roots_of : (ts : Trees) → parse_roots (parse_trees ts) ≡ roots ts
parse_roots_of no_trees = refl
parse_roots_of (beside (Leaf (Terminal t)) ts) = ap (λ l. Terminal t ∷ l) (parse_roots_of ts)
parse_roots_of (beside (Leaf (Nonterminal a)) ts) = ap (λ l. Nonterminal a ∷ l) (parse_roots_of ts)
parse_roots_of (beside (Node p cs) ts) = ap (λ l. Nonterminal p.nonterminal ∷ l) (parse_roots_of ts)

-- the leaves are the list of terminals
pub parse_leaves_of : (ts : Trees) (w : List TerminalString) → leaves ts ≡ terminal_symbols w → parse_leaves (parse_trees ts) ≡ w
parse_leaves_of no_trees [] e = refl
parse_leaves_of no_trees (t ∷ w) e = absurd (nil≢cons e)
parse_leaves_of (beside (Leaf (Terminal t)) ts) [] e = absurd (cons≢nil e)
parse_leaves_of (beside (Leaf (Terminal t)) ts) (u ∷ w) e = ap₂ (λ x l. x ∷ l) (same_terminal (head-eq_of_cons-eq e)) (parse_leaves_of ts w (tail-eq_of_cons-eq e))
parse_leaves_of (beside (Leaf (Nonterminal a)) ts) [] e = absurd (cons≢nil e)
parse_leaves_of (beside (Leaf (Nonterminal a)) ts) (u ∷ w) e = absurd (not_both (head-eq_of_cons-eq e))
parse_leaves_of (beside (Node p cs) ts) w e =
    let s : TerminalParts (leaves cs) (leaves ts) w = terminal_parts (leaves cs) (leaves ts) w e in
    ap₂ (λ u v. u ++ v) (parse_leaves_of cs s.first s.left) (parse_leaves_of ts s.second s.right) ∙ sym s.joined

-- they are of the grammar
pub parse_of_grammar : (g : List Production) (ts : Trees) (w : List TerminalString) → leaves ts ≡ terminal_symbols w → AreOfGrammar g ts → AreParseTrees g (parse_trees ts)
parse_of_grammar g no_trees w e h = tt
parse_of_grammar g (beside (Leaf (Terminal t)) ts) [] e h = absurd (cons≢nil e)
parse_of_grammar g (beside (Leaf (Terminal t)) ts) (u ∷ w) e h = parse_of_grammar g ts w (tail-eq_of_cons-eq e) h
parse_of_grammar g (beside (Leaf (Nonterminal a)) ts) [] e h = absurd (cons≢nil e)
parse_of_grammar g (beside (Leaf (Nonterminal a)) ts) (u ∷ w) e h = absurd (not_both (head-eq_of_cons-eq e))
parse_of_grammar g (beside (Node p cs) ts) w e h =
    let s : TerminalParts (leaves cs) (leaves ts) w = terminal_parts (leaves cs) (leaves ts) w e in (
      record { production = p; of_grammar = h.0; name = refl; symbols = h.1 ∙ sym (parse_roots_of cs) },
      parse_of_grammar g cs s.first s.left h.2,
      parse_of_grammar g ts s.second s.right h.3,
    )

-- ---- different derivations have different parse trees
first_parse : ParseTree → ParseTrees → ParseTree
first_parse t no_parse_trees = t
first_parse t (parse_beside u us) = u

other_parses : ParseTrees → ParseTrees
other_parses no_parse_trees = no_parse_trees
other_parses (parse_beside t ts) = ts

pub same_parse : {t u : ParseTree} {ts us : ParseTrees} → parse_beside t ts ≡ parse_beside u us → t ≡ u
unfolding first_parse
same_parse {t} e = ap (first_parse t) e

pub same_parses : {t u : ParseTree} {ts us : ParseTrees} → parse_beside t ts ≡ parse_beside u us → ts ≡ us
unfolding other_parses
same_parses e = ap other_parses e

children : ParseTree → ParseTrees
children (ParseLeaf t) = no_parse_trees
children (ParseNode a cs) = cs

pub same_children : {a b : NonterminalString} {cs ds : ParseTrees} → ParseNode a cs ≡ ParseNode b ds → cs ≡ ds
unfolding children
same_children e = ap children e

IsLeaf : ParseTree → Type 0
IsLeaf (ParseLeaf t) = Unit {0}
IsLeaf (ParseNode a cs) = ⊥

pub leaf_no_node : {t : TerminalString} {a : NonterminalString} {cs : ParseTrees} → ParseLeaf t ≡ ParseNode a cs → ⊥
unfolding IsLeaf
leaf_no_node e = subst IsLeaf e tt

none≢some : {t : ParseTree} {ts : ParseTrees} → no_parse_trees ≡ parse_beside t ts → ⊥
none≢some e = nil≢cons (ap parse_roots e)

some≢none : {t : ParseTree} {ts : ParseTrees} → parse_beside t ts ≡ no_parse_trees → ⊥
some≢none e = cons≢nil (ap parse_roots e)

-- a nonterminal is at no leaf of a list of terminals
no_nonterminal : (a : NonterminalString) (l : List Symbol) (w : List TerminalString) → Nonterminal a ∷ l ≡ terminal_symbols w → ⊥
no_nonterminal a l [] e = cons≢nil e
no_nonterminal a l (t ∷ w) e = not_both (head-eq_of_cons-eq e)

-- what follows a terminal of a list of terminals is one
pub record Rest (l : List Symbol) : Type 0 where
  pub terminals : List TerminalString
  pub are : l ≡ terminal_symbols terminals

rest_of : (t : TerminalString) (l : List Symbol) (w : List TerminalString) → Terminal t ∷ l ≡ terminal_symbols w → Rest l
rest_of t l [] e = absurd (cons≢nil e)
rest_of t l (u ∷ w) e = record { terminals = w; are = tail-eq_of_cons-eq e }

module _ (g : List Production) (twins : HasNoTwins g) where
  pub same_derivations : (ds es : Trees) (v w : List TerminalString) → leaves ds ≡ terminal_symbols v → leaves es ≡ terminal_symbols w → AreOfGrammar g ds → AreOfGrammar g es → parse_trees ds ≡ parse_trees es → ds ≡ es
  same_derivations no_trees no_trees v w a b h k e = refl
  same_derivations no_trees (beside (Leaf (Terminal t)) es) v w a b h k e = absurd (none≢some e)
  same_derivations no_trees (beside (Leaf (Nonterminal t)) es) v w a b h k e = absurd (none≢some e)
  same_derivations no_trees (beside (Node q bs) es) v w a b h k e = absurd (none≢some e)
  same_derivations (beside (Leaf (Terminal t)) ds) no_trees v w a b h k e = absurd (some≢none e)
  same_derivations (beside (Leaf (Nonterminal t)) ds) no_trees v w a b h k e = absurd (some≢none e)
  same_derivations (beside (Node p cs) ds) no_trees v w a b h k e = absurd (some≢none e)
  same_derivations (beside (Leaf (Nonterminal x)) ds) (beside (Leaf (Terminal t)) es) v w a b h k e = absurd (no_nonterminal x (leaves ds) v a)
  same_derivations (beside (Leaf (Nonterminal x)) ds) (beside (Leaf (Nonterminal t)) es) v w a b h k e = absurd (no_nonterminal x (leaves ds) v a)
  same_derivations (beside (Leaf (Nonterminal x)) ds) (beside (Node q bs) es) v w a b h k e = absurd (no_nonterminal x (leaves ds) v a)
  same_derivations (beside (Leaf (Terminal t)) ds) (beside (Leaf (Nonterminal y)) es) v w a b h k e = absurd (no_nonterminal y (leaves es) w b)
  same_derivations (beside (Node p cs) ds) (beside (Leaf (Nonterminal y)) es) v w a b h k e = absurd (no_nonterminal y (leaves es) w b)
  same_derivations (beside (Leaf (Terminal t)) ds) (beside (Node q bs) es) v w a b h k e = absurd (leaf_no_node (same_parse e))
  same_derivations (beside (Node p cs) ds) (beside (Leaf (Terminal t)) es) v w a b h k e = absurd (leaf_no_node (sym (same_parse e)))
  same_derivations (beside (Leaf (Terminal t)) ds) (beside (Leaf (Terminal u)) es) v w a b h k e =
      let r = rest_of t (leaves ds) v a in
      let s = rest_of u (leaves es) w b in
      ap₂ (λ x xs. beside (Leaf x) xs) (ap parse_root (same_parse e)) (same_derivations ds es r.terminals s.terminals r.are s.are h k (same_parses e))
  same_derivations (beside (Node p cs) ds) (beside (Node q bs) es) v w a b h k e =
      let r : TerminalParts (leaves cs) (leaves ds) v = terminal_parts (leaves cs) (leaves ds) v a in
      let s : TerminalParts (leaves bs) (leaves es) w = terminal_parts (leaves bs) (leaves es) w b in
      let below : cs ≡ bs = same_derivations cs bs r.first s.first r.left s.left h.2 k.2 (same_children (same_parse e)) in
      let named : p.nonterminal ≡ q.nonterminal = same_nonterminal (ap parse_root (same_parse e)) in
      let same : p ≡ q = twins p q h.0 k.0 named (h.1 ∙ ap roots below ∙ sym k.1) in
      ap₂ beside (ap₂ Node same below) (same_derivations ds es r.second s.second r.right s.right h.3 k.3 (same_parses e))

-- the parse tree that a derivation gives
abbrev pub parse_tree : Tree → ParseTree
parse_tree (Leaf (Terminal t)) = ParseLeaf t
parse_tree (Leaf (Nonterminal a)) = ParseNode a no_parse_trees
parse_tree (Node p cs) = ParseNode p.nonterminal (parse_trees cs)

parse_one : (t : Tree) → parse_trees (beside t no_trees) ≡ parse_beside (parse_tree t) no_parse_trees
parse_one (Leaf (Terminal t)) = refl
parse_one (Leaf (Nonterminal a)) = refl
parse_one (Node p cs) = refl

-- a derivation of a list of terminals gives a parse tree of it
pub derivation_parses : (g : List Production) (start : NonterminalString) (w : List TerminalString) (t : Tree) → IsDerivation g (Nonterminal start) (terminal_symbols w) t → IsParseTree g start w (parse_tree t)
derivation_parses g start w t d =
    let row : Trees = beside t no_trees in
    record {
      from_start = head-eq_of_cons-eq (ap parse_roots (sym (parse_one t)) ∙ parse_roots_of row) ∙ d.from;
      of_grammar = subst (AreParseTrees g) (parse_one t) (parse_of_grammar g row w d.of_list d.of_grammar);
      of_list = ap parse_leaves (sym (parse_one t)) ∙ parse_leaves_of row w d.of_list;
    }

-- two derivations of a sentence give two parse trees
pub two_trees : DerivationsHaveTrees
two_trees g start twins two =
    let w = two.sentence in
    record {
      sentence = w;
      left = parse_tree two.left;
      right = parse_tree two.right;
      left_parses = derivation_parses g start w two.left two.left_derives;
      right_parses = derivation_parses g start w two.right two.right_derives;
      differ = λ same. two.differ (same_first (same_derivations g twins (beside two.left no_trees) (beside two.right no_trees) w w two.left_derives.of_list two.right_derives.of_list two.left_derives.of_grammar two.right_derives.of_grammar
          (parse_one two.left ∙ ap (λ (t : ParseTree). parse_beside t no_parse_trees) same ∙ sym (parse_one two.right))));
    }
