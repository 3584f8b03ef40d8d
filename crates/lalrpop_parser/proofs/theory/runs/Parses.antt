-- The result of a run over coherent states: trees built of productions, over the input, with a node
-- for each step.
use Rattle.std.proofs.Common.{◌≡◌, ℕ, Bool, zero, suc, ◌+◌, ◌<◌, ◌≤◌, List, [], ◌∷◌, ◌++◌, map, append_assoc, append-nil, sym, subst, refl, ap, ap₂, ◌∙◌, Option, Some, None, arith}
use Rattle.std.specs.Prelude.{Contains, slice_get}
use Rattle.std.specs.List.{flat_map}
use Rattle.std.specs.Borrow.{Bor}
use Rattle.lalrpop_base.specs.Words.{contents_in, contents_at, reduction_of, reduced_productions, Contents, Tree, Leaf, Node, Trees, no_trees, beside, trees_of}
use Rattle.lalrpop_base.specs.Words.{leaves, nodes, IsNode, AreOfGrammar, Configuration, reduction_on, Goes, Ends, goes_on, reduces, shifts_or, moves_on, move}
use Rattle.lalrpop_base.specs.Words.{Reaches, here, further, begin, Parsed, HasOutcome, parsed}
use Rattle.lalrpop_grammar.specs.states.States.{Reduction}
use Rattle.lalrpop_parser.proofs.Types.{Production, State, TerminalString, Token}
use Rattle.lalrpop_grammar.specs.declared.lookahead.token.Token.TheVariants.{Eof, Terminal as TokenOf}
use Rattle.lalrpop_states.proofs.theory.states.ContentsViews.{LeadAsItemsSay}
use Rattle.lalrpop_collections.proofs.theory.lists.Lists.{contains_map, contains_of_map, contains_place, place_contains}
use Rattle.lalrpop_parser.specs.Words.{bottom, IsParsedIn}
use Rattle.lalrpop_parser.proofs.theory.trees.TreeViews.{leaves_cons}
use Rattle.lalrpop_parser.proofs.theory.runs.Stacks.{onto, Found, found, IsStackOf, step_keeps}
use Rattle.lalrpop_grammar.proofs.theory.runs.Steps.{same_goes, same_ends}

-- the terminals that the trees on a stack spell
abbrev spelled : List Tree → List TerminalString
spelled [] = []
spelled (t ∷ trees) = spelled trees ++ leaves (beside t no_trees)

-- how many nodes the trees on a stack have
abbrev counted : List Tree → ℕ
counted [] = 0
counted (t ∷ trees) = counted trees + nodes (beside t no_trees)

pub nodes_cons : (t : Tree) (ts : Trees) → nodes (beside t ts) ≡ nodes (beside t no_trees) + nodes ts
nodes_cons (Leaf x) ts = omega arith
nodes_cons (Node a children) ts = omega arith

spelled_onto : (ts : Trees) (trees : List Tree) → spelled (onto ts trees) ≡ spelled trees ++ leaves ts
spelled_onto no_trees trees = sym (append-nil (spelled trees))
spelled_onto (beside t ts) trees =
    spelled_onto ts (t ∷ trees) ∙ append_assoc (spelled trees) (leaves (beside t no_trees)) (leaves ts) ∙ ap (λ l. spelled trees ++ l) (sym (leaves_cons t ts))

counted_onto : (ts : Trees) (trees : List Tree) → counted (onto ts trees) ≡ counted trees + nodes ts
counted_onto no_trees trees = omega arith
counted_onto (beside t ts) trees =
    let r : counted (onto ts (t ∷ trees)) ≡ (counted trees + nodes (beside t no_trees)) + nodes ts = counted_onto ts (t ∷ trees) in
    let n : nodes (beside t ts) ≡ nodes (beside t no_trees) + nodes ts = nodes_cons t ts in
    let sum : (counted trees + nodes (beside t no_trees)) + nodes ts ≡ counted trees + (nodes (beside t no_trees) + nodes ts) = omega arith in
    r ∙ sum ∙ ap (λ k. counted trees + k) (sym n)

of_onto : (g : List Production) (ts : Trees) (trees : List Tree) → AreOfGrammar g (trees_of (onto ts trees)) → AreOfGrammar g ts × AreOfGrammar g (trees_of trees)
of_onto g no_trees trees h = (tt, h)
of_onto g (beside (Leaf x) ts) trees h = of_onto g ts (Leaf x ∷ trees) h
of_onto g (beside (Node a children) ts) trees h =
    let r = of_onto g ts (Node a children ∷ trees) h in
    ((r.1.0, r.1.1, r.0), r.1.2)

-- a configuration after n steps of a run on w: its trees are built of productions, spell what was
-- read, and have n nodes
record Tracks (g : List Production) (states : ℕ → Contents) (w : List TerminalString) (n : ℕ) (c : Configuration) : Type 0 where
  stack : IsStackOf states c
  input : spelled c.trees ++ c.rest ≡ w
  steps : counted c.trees ≡ n
  of_grammar : AreOfGrammar g (trees_of c.trees)

-- a parse is built of productions, has the list as its leaves, and has a node for each step, within
-- the limit
pub record IsBuilt (g : List Production) (states : ℕ → Contents) (w : List TerminalString) (limit : ℕ) (t : Tree) : Type 0 where
  pub of_grammar : AreOfGrammar g (beside t no_trees)
  pub of_list : leaves (beside t no_trees) ≡ w
  pub steps : IsParsedIn states w (nodes (beside t no_trees)) t
  pub within : nodes (beside t no_trees) ≤ limit

module _ (g : List Production) (states : ℕ → Contents) (count : ℕ) (lead : LeadAsItemsSay states count) (of : (n : ℕ) (r : Reduction) → Contains (states n).reductions r → Contains g r.production) where
  -- the trees after a reduction: they spell the input, and have a node more than there were steps
  record Gathered (w : List TerminalString) (n : ℕ) (c : Configuration) (trees : List Tree) : Type 0 where
    input : spelled trees ++ c.rest ≡ w
    steps : counted trees ≡ suc n
    of_grammar : AreOfGrammar g (trees_of trees)

  gathers : (w : List TerminalString) (n : ℕ) (c : Configuration) (p : Production) → Tracks g states w n c → (f : Found states c p) → Gathered w n c (Node p.nonterminal f.popped.taken ∷ f.popped.kept)
  gathers w n c p tr f =
      let taken = f.popped.taken in
      let kept = f.popped.kept in
      let parts : AreOfGrammar g taken × AreOfGrammar g (trees_of kept) = of_onto g taken kept (subst (λ ts. AreOfGrammar g (trees_of ts)) f.popped.joined tr.of_grammar) in
      let member : Contains g p = subst (Contains g) f.by.2 (of c.state f.by.0 f.by.1) in
      let node : IsNode g p.nonterminal taken = record { production = p; of_grammar = member; name = refl; symbols = f.popped.symbols } in
      let sum : counted kept + nodes taken ≡ n = sym (counted_onto taken kept) ∙ ap counted (sym f.popped.joined) ∙ tr.steps in
      record {
        input = ap (λ l. (spelled kept ++ l) ++ c.rest) (append-nil (leaves taken)) ∙ ap (λ l. l ++ c.rest) (sym (spelled_onto taken kept)) ∙ ap (λ ts. spelled ts ++ c.rest) (sym f.popped.joined) ∙ tr.input;
        steps = omega (arith, sum);
        of_grammar = (node, parts.0, parts.1);
      }

  reduction_tracks : (w : List TerminalString) (n : ℕ) (c d : Configuration) (t : Token) → IsStackOf states d → Tracks g states w n c → (o : Option Production) → reduction_on (states c.state).reductions t ≡ o → reduces states c o ≡ Goes d → Tracks g states w (suc n) d
  reduction_tracks w n c d t st tr None h e = cc
  reduction_tracks w n c d t st tr (Some p) h e = go ((states f.popped.state).goto p.nonterminal) (sym f.move_is ∙ e)
    where
      f : Found states c p
      f = found states count lead c t p tr.stack h

      go : (o : Option ℕ) → goes_on o f.popped.state f.popped.under (Node p.nonterminal f.popped.taken ∷ f.popped.kept) c.rest ≡ Goes d → Tracks g states w (suc n) d
      go None k = cc
      go (Some m) k =
          let made = gathers w n c p tr f in
          let same = same_goes k in
          record {
            stack = st;
            input = subst (λ (x : Configuration). spelled x.trees ++ x.rest ≡ w) same made.input;
            steps = subst (λ (x : Configuration). counted x.trees ≡ suc n) same made.steps;
            of_grammar = subst (λ (x : Configuration). AreOfGrammar g (trees_of x.trees)) same made.of_grammar;
          }

  step_tracks : (w : List TerminalString) (n : ℕ) (c d : Configuration) → Tracks g states w n c → move states c ≡ Goes d → Tracks g states w (suc n) d
  step_tracks w n c d tr e = go c.rest refl e
    where
      st : IsStackOf states d
      st = step_keeps states count lead c d e tr.stack

      at_shift : (t : TerminalString) (rest : List TerminalString) → c.rest ≡ t ∷ rest → (o : Option ℕ) → shifts_or states c t rest o ≡ Goes d → Tracks g states w (suc n) d
      at_shift t rest i (Some m) k =
          let same = same_goes k in
          let before : spelled c.trees ++ t ∷ rest ≡ w = ap (λ l. spelled c.trees ++ l) (sym i) ∙ tr.input in
          let size : counted c.trees ≡ n = tr.steps in
          let more : counted c.trees + 1 ≡ suc n = omega (arith, size) in
          record {
            stack = st;
            input = subst (λ (x : Configuration). spelled x.trees ++ x.rest ≡ w) same (append_assoc (spelled c.trees) (t ∷ []) rest ∙ before);
            steps = subst (λ (x : Configuration). counted x.trees ≡ suc n) same more;
            of_grammar = subst (λ (x : Configuration). AreOfGrammar g (trees_of x.trees)) same tr.of_grammar;
          }
      at_shift t rest i None k = reduction_tracks w n c d (TokenOf t) st tr (reduction_on (states c.state).reductions (TokenOf t)) refl k

      go : (rest : List TerminalString) → c.rest ≡ rest → moves_on states c rest ≡ Goes d → Tracks g states w (suc n) d
      go [] i k = reduction_tracks w n c d Eof st tr (reduction_on (states c.state).reductions Eof) refl k
      go (t ∷ rest) i k = at_shift t rest i ((states c.state).shift t) k

  run_tracks : (w : List TerminalString) (n : ℕ) {k : ℕ} {c d : Configuration} → Reaches states k c d → Tracks g states w n c → Tracks g states w (n + k) d
  run_tracks w n (here {c}) tr = let e : n ≡ n + 0 = omega arith in subst (λ m. Tracks g states w m c) e tr
  run_tracks w n (further {n = k} {c} {d} {e} h r) tr =
      let e' : suc n + k ≡ n + suc k = omega arith in
      subst (λ m. Tracks g states w m e) e' (run_tracks w (suc n) r (step_tracks w n c d tr h))

  begin_tracks : (w : List TerminalString) → Tracks g states w 0 (begin w)
  begin_tracks w = record { stack = bottom; input = refl; steps = refl; of_grammar = tt }

  -- the trees that the last step leaves
  ends_gathered : (w : List TerminalString) (n : ℕ) (c : Configuration) (trees : List Tree) → Tracks g states w n c → move states c ≡ Ends trees → Gathered w n c trees
  ends_gathered w n c trees tr e = go c.rest e
    where
      by_reduction : (t : Token) (o : Option Production) → reduction_on (states c.state).reductions t ≡ o → reduces states c o ≡ Ends trees → Gathered w n c trees
      by_reduction t None h k = cc
      by_reduction t (Some p) h k = at_goto ((states f.popped.state).goto p.nonterminal) (sym f.move_is ∙ k)
        where
          f : Found states c p
          f = found states count lead c t p tr.stack h

          at_goto : (o : Option ℕ) → goes_on o f.popped.state f.popped.under (Node p.nonterminal f.popped.taken ∷ f.popped.kept) c.rest ≡ Ends trees → Gathered w n c trees
          at_goto None i = subst (Gathered w n c) (same_ends i) (gathers w n c p tr f)
          at_goto (Some m) i = cc

      at_shift : (t : TerminalString) (rest : List TerminalString) (o : Option ℕ) → shifts_or states c t rest o ≡ Ends trees → Gathered w n c trees
      at_shift t rest (Some m) k = cc
      at_shift t rest None k = by_reduction (TokenOf t) (reduction_on (states c.state).reductions (TokenOf t)) refl k

      go : (rest : List TerminalString) → moves_on states c rest ≡ Ends trees → Gathered w n c trees
      go [] k = by_reduction Eof (reduction_on (states c.state).reductions Eof) refl k
      go (t ∷ rest) k = at_shift t rest ((states c.state).shift t) k

  -- a tree of an outcome is built of productions, has the list as its leaves, and has a node for
  -- each step
  pub parsed_built : (w : List TerminalString) (limit : ℕ) {t : Tree} → HasOutcome states w limit (Parsed t) → IsBuilt g states w limit t
  parsed_built w limit (parsed n c trees t l r e p) =
      let tr : Tracks g states w (0 + n) c = run_tracks w 0 r (begin_tracks w) in
      let made : Gathered w (0 + n) c trees = ends_gathered w (0 + n) c trees tr e in
      let size : 0 + nodes (beside t no_trees) ≡ suc (0 + n) = ap counted (sym p.0) ∙ made.steps in
      let exact : nodes (beside t no_trees) ≡ suc n = omega (arith, size) in
      let one : AreOfGrammar g (beside t no_trees) = subst (λ ts. AreOfGrammar g (trees_of ts)) p.0 made.of_grammar in
      record {
        of_grammar = one;
        of_list = sym (append-nil (leaves (beside t no_trees))) ∙ ap₂ (λ ts rest. spelled ts ++ rest) (sym p.0) (sym p.1) ∙ made.input;
        steps = record { before = n; last = c; counted = exact; reached = r; ends = e ∙ ap Ends p.0; used_up = p.1 };
        within = omega (arith, exact, l);
      }

-- an element of a part is one of the whole
in_front : {A : Type 0} (xs ys : List A) (k : ℕ) (y : A) → slice_get xs k ≡ Some y → (j : ℕ) × (slice_get (xs ++ ys) j ≡ Some y)
in_front [] ys k y e = cc
in_front (x ∷ xs) ys zero y e = (0, e)
in_front (x ∷ xs) ys (suc k) y e = let r = in_front xs ys k y e in (suc r.0, r.1)

behind : {A : Type 0} (xs ys : List A) (y : A) → (j : ℕ) × (slice_get ys j ≡ Some y) → (j : ℕ) × (slice_get (xs ++ ys) j ≡ Some y)
behind [] ys y r = r
behind (x ∷ xs) ys y r = let s = behind xs ys y r in (suc s.0, s.1)

in_flat : {X A : Type 0} (f : X → List A) (xs : List X) (k : ℕ) (x : X) (y : A) → slice_get xs k ≡ Some x → Contains (f x) y → (j : ℕ) × (slice_get (flat_map f xs) j ≡ Some y)
in_flat f [] k x y e h = cc
in_flat {X} f (z ∷ xs) zero x y e h =
    let same : z ≡ x = cc in
    let (i, at) = contains_place (f x) y h in
    in_front (f z) (flat_map f xs) i y (subst (λ (q : X). slice_get (f q) i ≡ Some y) (sym same) at)
in_flat f (z ∷ xs) (suc k) x y e h = behind (f z) (flat_map f xs) y (in_flat f xs k x y e h)

-- each reduction is by one of the productions by which states reduce
pub reduces_by : {L : Type 0} (holds : L → Token → Bool) (states : List (State L)) (n : ℕ) (r : Reduction) → Contains (contents_in holds states n).reductions r → Contains (reduced_productions states) r.production
reduces_by {L} holds states n r h = go (slice_get states n) refl h
  where
    go : (o : Option (State L)) → slice_get states n ≡ o → Contains (contents_at holds o).reductions r → Contains (reduced_productions states) r.production
    go None e k = absurd (let l : k.0 < 0 = k.1 in omega arith)
    go (Some s) e k =
        let (pair, there, same) = contains_of_map (reduction_of holds) s.reductions.items r k in
        let named : Contains (map (λ (q : L × Bor Production). q.1.now) s.reductions.items) pair.1.now = contains_map (λ (q : L × Bor Production). q.1.now) s.reductions.items pair there in
        let (j, at) = in_flat (λ (x : State L). map (λ (q : L × Bor Production). q.1.now) x.reductions.items) states n s pair.1.now e named in
        subst (Contains (reduced_productions states)) (ap (λ (q : Reduction). q.production) same) (place_contains (reduced_productions states) j pair.1.now at)
