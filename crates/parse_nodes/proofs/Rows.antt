-- Nodes of trees in a row.
use Rattle.std.proofs.Common.{◌≡◌, ℕ, suc, ◌+◌, List, [], ◌∷◌, ◌++◌, length, length-append, append_assoc, refl, sym, ap, subst, ◌∙◌, arith}
use Rattle.lalrpop_base.specs.Words.{Leaf, Node, Tree, Trees, beside, leaves, no_trees, trees_of}
use Rattle.lalrpop_grammar.specs.declared.repr.Production.{Production}
use Rattle.lalrpop_grammar.specs.declared.repr.TerminalString.{TerminalString}
use Rattle.table_parser.specs.Events.{width}
use Rattle.parse_nodes.specs.Nodes.{AreNodes}
use Rattle.parse_nodes.specs.declared.node.ParseNode.{ParseNode}

-- the last node of a tree is its root, which has the size of the tree
pub record HasRoot (own : List ParseNode) : Type 0 where
  pub below : List ParseNode
  pub root : ParseNode
  pub is : own ≡ below ++ root ∷ []
  pub size : root.size ≡ suc (length below)

-- the nodes of the trees in the front of a row, and those of the others
pub record IsSplit (terminals : List TerminalString) (productions : List Production) (ts us : List Tree) (nodes : List ParseNode) (k : ℕ) : Type 0 where
  pub front : List ParseNode
  pub back : List ParseNode
  pub at : ℕ
  pub is : nodes ≡ front ++ back
  pub in_front : AreNodes terminals productions front k (trees_of ts)
  pub in_back : AreNodes terminals productions back at (trees_of us)

module _ (terminals : List TerminalString) (productions : List Production) where
  pub moved : (ts : Trees) (xs ys : List ParseNode) (k m : ℕ) → xs ≡ ys → k ≡ m → AreNodes terminals productions xs k ts → AreNodes terminals productions ys m ts
  moved ts xs ys k m same at nodes =
      subst (λ (zs : List ParseNode). AreNodes terminals productions zs m ts) same (subst (λ n. AreNodes terminals productions xs n ts) at nodes)

  -- the nodes of two rows of trees, one behind the other
  pub row_append : (ts us : List Tree) (xs ys : List ParseNode) (k : ℕ) → AreNodes terminals productions xs k (trees_of ts) → AreNodes terminals productions ys (k + width ts) (trees_of us) → AreNodes terminals productions (xs ++ ys) k (trees_of (ts ++ us))
  row_append [] us xs ys k none more = moved (trees_of us) ys (xs ++ ys) (k + 0) k (sym (ap (λ zs. zs ++ ys) none)) (omega arith) more
  row_append (Leaf t ∷ ts) us xs ys k row more = (
    row.0,
    row.1 ++ ys,
    ap (λ zs. zs ++ ys) row.2,
    row.3,
    row_append ts us row.1 ys (k + 1) row.4 (moved (trees_of us) ys ys (k + width (Leaf t ∷ ts)) (k + 1 + width ts) refl (omega arith) more),
  )
  row_append (Node a children ∷ ts) us xs ys k row more =
      let one = length-append (leaves children) [] in (
        row.0,
        row.1,
        row.2 ++ ys,
        ap (λ zs. zs ++ ys) row.3 ∙ append_assoc row.0 (row.1 ∷ row.2) ys,
        row.4,
        row.5,
        row_append ts us row.2 ys (k + length (leaves children)) row.6
            (moved (trees_of us) ys ys (k + width (Node a children ∷ ts)) (k + length (leaves children) + width ts) refl (omega (arith, one)) more),
      )

  -- the root of a tree
  pub root_of : (t : Tree) (own : List ParseNode) (k : ℕ) → AreNodes terminals productions own k (beside t no_trees) → HasRoot own
  root_of (Leaf t) own k row = record {
    below = [];
    root = row.0;
    is = row.2 ∙ ap (λ zs. row.0 ∷ zs) row.4;
    size = row.3.size;
  }
  root_of (Node a children) own k row = record {
    below = row.0;
    root = row.1;
    is = row.3 ∙ ap (λ zs. row.0 ++ row.1 ∷ zs) row.6;
    size = row.4.size;
  }

  -- a row of trees can be split before each tree
  pub row_split : (ts us : List Tree) (nodes : List ParseNode) (k : ℕ) → AreNodes terminals productions nodes k (trees_of (ts ++ us)) → IsSplit terminals productions ts us nodes k
  row_split [] us nodes k row = record { front = []; back = nodes; at = k; is = refl; in_front = refl; in_back = row }
  row_split (Leaf t ∷ ts) us nodes k row =
      let r = row_split ts us row.1 (k + 1) row.4 in
      record {
        front = row.0 ∷ r.front;
        back = r.back;
        at = r.at;
        is = row.2 ∙ ap (λ zs. row.0 ∷ zs) r.is;
        in_front = (row.0, r.front, refl, row.3, r.in_front);
        in_back = r.in_back;
      }
  row_split (Node a children ∷ ts) us nodes k row =
      let r = row_split ts us row.2 (k + length (leaves children)) row.6 in
      record {
        front = row.0 ++ row.1 ∷ r.front;
        back = r.back;
        at = r.at;
        is = row.3 ∙ ap (λ zs. row.0 ++ row.1 ∷ zs) r.is ∙ sym (append_assoc row.0 (row.1 ∷ r.front) r.back);
        in_front = (row.0, row.1, r.front, refl, row.4, row.5, r.in_front);
        in_back = r.in_back;
      }
