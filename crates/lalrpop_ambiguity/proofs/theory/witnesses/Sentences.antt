-- A witness leads to two derivations of one sentence: its leaves are expanded to lists of terminals,
-- and it is put into a derivation from the start symbol.
use Rattle.std.proofs.Common.{◌≡◌, ◌∙◌, inl, inr, List, [], ◌∷◌, ◌++◌, refl, sym, ap, ap₂, subst}
use Rattle.std.specs.Prelude.{Contains}
use mathlib.Core.List.{nil≢cons}
use Rattle.lalrpop_collections.proofs.theory.lists.Members.{Contains-none, contains-cons, contains_head, contains_tail}
use Rattle.lalrpop_grammar.specs.Words.{Derives, terminal_symbols}
use Rattle.lalrpop_grammar.specs.declared.repr.Symbol.TheVariants.{Nonterminal}
use Rattle.lalrpop_grammar.proofs.theory.grammars.Forests.{Forest, derives_forest, empty, leaf, node}
use Rattle.lalrpop_grammar.proofs.theory.grammars.SymbolLists.{terminal_symbols-append}
use Rattle.lalrpop_ambiguity.proofs.Types.{NonterminalString, Production, Symbol, TerminalString}
use Rattle.lalrpop_ambiguity.specs.Words.{AreOfGrammar, DeriveTerminals, DeriveSome, Leaf, Node, Tree, Trees, WitnessesHaveSentences, beside, leaves, no_trees, root, roots}
use Rattle.lalrpop_ambiguity.proofs.theory.derivations.Views.{leaves_cons}
use Rattle.lalrpop_ambiguity.proofs.theory.witnesses.Rows.{Alone, HaveLeaves, along, alone, have_along, leaves_along, of_along, roots_along, same_first, same_others}
use Rattle.lalrpop_ambiguity.proofs.theory.witnesses.Expansions.{Expands, Expansion, Same, expand, leaves_expanded, of_expanded, pieces, roots_expanded, same_expanded}

-- ---- derivations have trees
pub record Row (g : List Production) (l m : List Symbol) : Type 0 where
  pub trees : Trees
  pub of_grammar : AreOfGrammar g trees
  pub over : roots trees ≡ l
  pub spells : leaves trees ≡ m

pub forest_row : {g : List Production} {l m : List Symbol} → Forest g l m → Row g l m
forest_row empty = record { trees = no_trees; of_grammar = tt; over = refl; spells = refl }
forest_row (leaf x f) =
    let r = forest_row f in
    record { trees = beside (Leaf x) r.trees; of_grammar = r.of_grammar; over = ap (λ l. x ∷ l) r.over; spells = ap (λ l. x ∷ l) r.spells }
forest_row (node p h d f) =
    let q = forest_row d in
    let r = forest_row f in
    record {
      trees = beside (Node p q.trees) r.trees;
      of_grammar = (h, sym q.over, q.of_grammar, r.of_grammar);
      over = ap (λ l. Nonterminal p.nonterminal ∷ l) r.over;
      spells = ap₂ (λ u v. u ++ v) q.spells r.spells;
    }

pub derives_row : {g : List Production} {l m : List Symbol} → Derives g l m → Row g l m
derives_row d = forest_row (derives_forest d)

-- ---- lists of symbols are expanded to lists of terminals
-- trees over a list of symbols, whose leaves are a list of terminals
pub record Spelled (g : List Production) (l : List Symbol) : Type 0 where
  pub sentence : List TerminalString
  pub row : Row g l (terminal_symbols sentence)

-- trees over two lists, one after the other
pub joined : {g : List Production} {l m : List Symbol} → Spelled g l → Spelled g m → Spelled g (l ++ m)
joined {g} a b =
    let s = a.row in
    let r = b.row in
    record {
      sentence = a.sentence ++ b.sentence;
      row = record {
        trees = along s.trees r.trees;
        of_grammar = of_along g s.trees r.trees s.of_grammar r.of_grammar;
        over = roots_along s.trees r.trees ∙ ap₂ (λ u v. u ++ v) s.over r.over;
        spells = leaves_along s.trees r.trees ∙ ap₂ (λ u v. u ++ v) s.spells r.spells ∙ sym (terminal_symbols-append a.sentence b.sentence);
      };
    }

pub spelled : (g : List Production) (l : List Symbol) → DeriveTerminals g l → Spelled g l
spelled g [] h = record { sentence = []; row = record { trees = no_trees; of_grammar = tt; over = refl; spells = refl } }
spelled g (x ∷ l) h =
    let d = h x (contains_head x l) in
    joined {l = x ∷ []} (record { sentence = d.0; row = derives_row d.1 }) (spelled g l (λ y c. h y (contains_tail x l y c)))

-- trees that each have a leaf
pub record SpelledSome (g : List Production) (l : List Symbol) : Type 0 where
  pub spelled : Spelled g l
  pub have : HaveLeaves spelled.row.trees

-- one tree whose leaves are not empty
have_one : {g : List Production} {x : Symbol} {y : Symbol} {m : List Symbol} (r : Row g (x ∷ []) (y ∷ m)) → HaveLeaves r.trees
have_one {x = x} r =
    let a : Alone r.trees x = alone r.trees x r.over in
    subst HaveLeaves (sym a.is) ((λ none. nil≢cons (sym none ∙ ap leaves (sym a.is) ∙ r.spells)), tt)

pub spelled_some : (g : List Production) (l : List Symbol) → DeriveSome g l → SpelledSome g l
unfolding joined derives_row
spelled_some g [] h = record { spelled = record { sentence = []; row = record { trees = no_trees; of_grammar = tt; over = refl; spells = refl } }; have = tt }
spelled_some g (x ∷ l) h =
    let d = h x (contains_head x l) in
    let one : Row g (x ∷ []) (terminal_symbols (d.0 ∷ d.1)) = derives_row d.2 in
    let rest = spelled_some g l (λ y c. h y (contains_tail x l y c)) in
    record {
      spelled = joined {l = x ∷ []} (record { sentence = d.0 ∷ d.1; row = one }) rest.spelled;
      have = have_along one.trees rest.spelled.row.trees (have_one one) rest.have;
    }

-- ---- a symbol of a list, with the symbols before and after it
pub record Around (l : List Symbol) (x : Symbol) : Type 0 where
  pub before : List Symbol
  pub after : List Symbol
  pub whole : l ≡ before ++ x ∷ after

pub around : (l : List Symbol) (x : Symbol) → Contains l x → Around l x
around [] x h = absurd (Contains-none x h)
around (y ∷ l) x h = elim (contains-cons y l x h) [
  | inl here ↦ record { before = []; after = l; whole = ap (λ z. z ∷ l) here }
  | inr later ↦ let r = around l x later in record { before = y ∷ r.before; after = r.after; whole = ap (λ k. y ∷ k) r.whole }
]

contains_before : (u v : List Symbol) (x y : Symbol) → Contains u y → Contains (u ++ x ∷ v) y
contains_before [] v x y h = absurd (Contains-none y h)
contains_before (z ∷ u) v x y h = elim (contains-cons z u y h) [
  | inl here ↦ subst (λ w. Contains (z ∷ (u ++ x ∷ v)) w) here (contains_head z (u ++ x ∷ v))
  | inr later ↦ contains_tail z (u ++ x ∷ v) y (contains_before u v x y later)
]

contains_after : (u v : List Symbol) (x y : Symbol) → Contains v y → Contains (u ++ x ∷ v) y
contains_after [] v x y h = contains_tail x v y h
contains_after (z ∷ u) v x y h = contains_tail z (u ++ x ∷ v) y (contains_after u v x y h)

-- ---- the tree of a witness, with its leaves expanded
module _ (g : List Production) where
  -- a tree over a nonterminal, with the leaves of given trees
  pub record Grown (a : NonterminalString) (d : Tree) (es : Trees) : Type 0 where
    pub tree : Tree
    pub rooted : root tree ≡ Nonterminal a
    pub of_grammar : AreOfGrammar g (beside tree no_trees)
    pub expands : Expands (beside d no_trees) (beside tree no_trees)
    pub made : pieces (beside d no_trees) (beside tree no_trees) ≡ es
    pub spells : leaves (beside tree no_trees) ≡ leaves es

  pub grown : (a : NonterminalString) (d : Tree) (es : Trees) → root d ≡ Nonterminal a → AreOfGrammar g (beside d no_trees) → AreOfGrammar g es → roots es ≡ leaves (beside d no_trees) → Grown a d es
  grown a d es rooted own others over =
      let ds : Trees = beside d no_trees in
      let r : Expansion ds es = expand ds es over in
      let one : Alone r.trees (Nonterminal a) = alone r.trees (Nonterminal a) (roots_expanded ds r.trees r.expands ∙ ap (λ x. x ∷ []) rooted) in
      let own_trees : AreOfGrammar g r.trees = of_expanded g ds r.trees r.expands own (subst (AreOfGrammar g) (sym r.made) others) in
      record {
        tree = one.tree;
        rooted = one.rooted;
        of_grammar = subst (AreOfGrammar g) one.is own_trees;
        expands = subst (Expands ds) one.is r.expands;
        made = ap (pieces ds) (sym one.is) ∙ r.made;
        spells = ap leaves (sym one.is) ∙ leaves_expanded ds r.trees r.expands ∙ ap leaves r.made;
      }

  -- trees that grow to one tree with the same pieces are the same, if each of the pieces has a leaf
  pub same_grown : (a : NonterminalString) (d e : Tree) (es : Trees) → HaveLeaves es → (m : Grown a d es) (n : Grown a e es) → m.tree ≡ n.tree → d ≡ e
  same_grown a d e es have m n same =
      let ds : Trees = beside d no_trees in
      let us : Trees = beside e no_trees in
      let ts : Trees = beside m.tree no_trees in
      let row : beside n.tree no_trees ≡ ts = ap (λ t. beside t no_trees) (sym same) in
      let fits : Expands us ts = subst (Expands us) row n.expands in
      let made : pieces us ts ≡ es = ap (pieces us) (sym row) ∙ n.made in
      let end : along (pieces ds ts) no_trees ≡ along (pieces us ts) no_trees = ap (λ x. along x no_trees) (m.made ∙ sym made) in
      let r : Same ds us no_trees no_trees = same_expanded ds us ts no_trees no_trees m.expands fits (subst HaveLeaves (sym m.made) have) (subst HaveLeaves (sym made) have) end in
      same_first r.trees

  -- ---- a derivation from the start symbol, with a tree in it
  -- trees over the symbols before and after a nonterminal
  pub record Context (a : NonterminalString) (form : List Symbol) : Type 0 where
    pub before : List Symbol
    pub after : List Symbol
    pub whole : form ≡ before ++ Nonterminal a ∷ after
    pub left : Spelled g before
    pub right : Spelled g after

  pub context : (a : NonterminalString) (form : List Symbol) → Contains form (Nonterminal a) → DeriveTerminals g form → Context a form
  context a form there productive =
      let r = around form (Nonterminal a) there in
      let all : DeriveTerminals g (r.before ++ Nonterminal a ∷ r.after) = subst (DeriveTerminals g) r.whole productive in
      record {
        before = r.before;
        after = r.after;
        whole = r.whole;
        left = spelled g r.before (λ y h. all y (contains_before r.before r.after (Nonterminal a) y h));
        right = spelled g r.after (λ y h. all y (contains_after r.before r.after (Nonterminal a) y h));
      }

  -- the row of trees with a tree in the middle
  abbrev pub within : {a : NonterminalString} {form : List Symbol} → Context a form → Tree → Trees
  within c t = along c.left.row.trees (beside t c.right.row.trees)

  same_within : (ts us : Trees) (t u : Tree) → along ts (beside t us) ≡ along ts (beside u us) → t ≡ u
  same_within no_trees us t u e = same_first e
  same_within (beside d ds) us t u e = same_within ds us t u (same_others e)

  own_beside : (t : Tree) (ts : Trees) → AreOfGrammar g (beside t no_trees) → AreOfGrammar g ts → AreOfGrammar g (beside t ts)
  own_beside t ts h k = of_along g (beside t no_trees) ts h k

  pub own_within : {a : NonterminalString} {form : List Symbol} (c : Context a form) (t : Tree) → AreOfGrammar g (beside t no_trees) → AreOfGrammar g (within c t)
  own_within c t h = of_along g c.left.row.trees (beside t c.right.row.trees) c.left.row.of_grammar (own_beside t c.right.row.trees h c.right.row.of_grammar)

  pub roots_within : {a : NonterminalString} {form : List Symbol} (c : Context a form) (t : Tree) → root t ≡ Nonterminal a → roots (within c t) ≡ form
  roots_within {a} c t h =
      roots_along c.left.row.trees (beside t c.right.row.trees)
      ∙ ap₂ (λ u v. u ++ v) c.left.row.over (ap₂ (λ x l. x ∷ l) h c.right.row.over)
      ∙ sym c.whole

  pub leaves_within : {a : NonterminalString} {form : List Symbol} (c : Context a form) (t : Tree) (w : List TerminalString) → leaves (beside t no_trees) ≡ terminal_symbols w → leaves (within c t) ≡ terminal_symbols (c.left.sentence ++ (w ++ c.right.sentence))
  leaves_within c t w h =
      leaves_along c.left.row.trees (beside t c.right.row.trees)
      ∙ ap₂ (λ u v. u ++ v) c.left.row.spells (leaves_cons t c.right.row.trees ∙ ap₂ (λ u v. u ++ v) h c.right.row.spells ∙ sym (terminal_symbols-append w c.right.sentence))
      ∙ sym (terminal_symbols-append c.left.sentence (w ++ c.right.sentence))

-- a witness with a useful root leads to two derivations of a sentence
pub two_derivations : WitnessesHaveSentences
two_derivations g start a left right wit rooted useful some =
    let some_leaves = spelled_some g (leaves (beside left no_trees)) some in
    let es = some_leaves.spelled.row in
    let w = some_leaves.spelled.sentence in
    let other : root right ≡ Nonterminal a = wit.one_root.2 ∙ sym wit.one_root.1 ∙ rooted in
    let m : Grown g a left es.trees = grown g a left es.trees rooted wit.left_of_grammar es.of_grammar es.over in
    let n : Grown g a right es.trees = grown g a right es.trees other wit.right_of_grammar es.of_grammar (es.over ∙ wit.same_leaves) in
    let c : Context g a useful.form = context g a useful.form useful.there useful.productive in
    let base : Row g (Nonterminal start ∷ []) useful.form = derives_row useful.derived in
    let top : Alone base.trees (Nonterminal start) = alone base.trees (Nonterminal start) base.over in
    let own : AreOfGrammar g (beside top.tree no_trees) = subst (AreOfGrammar g) top.is base.of_grammar in
    let spells : leaves (beside top.tree no_trees) ≡ useful.form = ap leaves (sym top.is) ∙ base.spells in
    let p : Grown g start top.tree (within g c m.tree) = grown g start top.tree (within g c m.tree) top.rooted own (own_within g c m.tree m.of_grammar) (roots_within g c m.tree m.rooted ∙ sym spells) in
    let q : Grown g start top.tree (within g c n.tree) = grown g start top.tree (within g c n.tree) top.rooted own (own_within g c n.tree n.of_grammar) (roots_within g c n.tree n.rooted ∙ sym spells) in
    record {
      sentence = c.left.sentence ++ (w ++ c.right.sentence);
      left = p.tree;
      right = q.tree;
      left_derives = record { from = p.rooted; of_grammar = p.of_grammar; of_list = p.spells ∙ leaves_within g c m.tree w (m.spells ∙ es.spells) };
      right_derives = record { from = q.rooted; of_grammar = q.of_grammar; of_list = q.spells ∙ leaves_within g c n.tree w (n.spells ∙ es.spells) };
      differ = λ same. wit.differ (same_grown g a left right es.trees some_leaves.have m n
          (same_within g c.left.row.trees c.right.row.trees m.tree n.tree (sym p.made ∙ ap (λ (t : Tree). pieces (beside top.tree no_trees) (beside t no_trees)) same ∙ q.made)));
    }
