-- Stacks with the newest last are popped from their end.
use Rattle.std.proofs.Common.{◌≡◌, ℕ, zero, suc, ◌+◌, ◌-◌, ◌<◌, ◌≤◌, Bool, List, [], ◌∷◌, ◌++◌, take, drop, length, map, reverse, get_or, Some, None, refl, sym, ap, ap₂, ◌∙◌, arith, length-append}
use Rattle.std.specs.Prelude.{slice_get, option_map}
use Rattle.std.specs.BTreeMap.{get}
use Rattle.std.proofs.lemmas.List.{reverse-append, reverse-reverse, length-reverse, take-map, drop-map, length-map, map-append, take-append-drop}
use Rattle.std.proofs.Math.ListN.{length-drop}
use Rattle.std.proofs.Math.Seq.{take-append_seam, drop-append_seam}
use Rattle.lalrpop_base.specs.Words.{number_of, contents_at, contents_in, Goes, Ends, reduced, goes_on, received, Tree, Node, trees_of, name_cmp}
use Rattle.lalrpop_parser.proofs.Types.{Production, State, StateIndex, TerminalString, Token}
use Rattle.lalrpop_parser.specs.Words.{numbers, trees_on, tree_of}
use Rattle.lalrpop_parser.specs.declared.interpret.tree.ParseTree.{ParseTree}
use Rattle.lalrpop_collections.proofs.theory.lists.Lists.{Ended, nothing, last, ended}

-- a list read from its last element is the last n elements and then the others
record IsSplit {A : Type 0} (n : ℕ) (xs : List A) : Type 0 where
  whole : reverse xs ≡ reverse (drop (length xs - n) xs) ++ reverse (take (length xs - n) xs)
  front : length (reverse (drop (length xs - n) xs)) ≡ n

split : {A : Type 0} (n : ℕ) (xs : List A) → n ≤ length xs → IsSplit n xs
split n xs l = record {
  whole = ap reverse (sym (take-append-drop (length xs - n) xs)) ∙ reverse-append (take (length xs - n) xs) (drop (length xs - n) xs);
  front = length-reverse (drop (length xs - n) xs) ∙ length-drop (length xs - n) xs ∙ (let e : length xs - (length xs - n) ≡ n = omega arith in e);
}

-- the newest n elements, the oldest first
pub newest : {A : Type 0} (n : ℕ) (xs : List A) → n ≤ length xs → reverse (take n (reverse xs)) ≡ drop (length xs - n) xs
newest n xs l =
    let s = split n xs l in
    let front = reverse (drop (length xs - n) xs) in
    let back = reverse (take (length xs - n) xs) in
    ap (λ ys. reverse (take n ys)) s.whole
    ∙ ap (λ k. reverse (take k (front ++ back))) (sym s.front)
    ∙ ap reverse (take-append_seam front back)
    ∙ reverse-reverse (drop (length xs - n) xs)

-- the list without its newest n elements
pub without : {A : Type 0} (n : ℕ) (xs : List A) → n ≤ length xs → drop n (reverse xs) ≡ reverse (take (length xs - n) xs)
without n xs l =
    let s = split n xs l in
    let front = reverse (drop (length xs - n) xs) in
    let back = reverse (take (length xs - n) xs) in
    ap (drop n) s.whole ∙ ap (λ k. drop k (front ++ back)) (sym s.front) ∙ drop-append_seam front back

pub reverse_more : {A : Type 0} (xs : List A) (x : A) → reverse (xs ++ x ∷ []) ≡ x ∷ reverse xs
reverse_more xs x = reverse-append xs (x ∷ [])

pub numbers_more : (xs : List StateIndex) (x : StateIndex) → numbers (xs ++ x ∷ []) ≡ x.0 ∷ numbers xs
numbers_more xs x = ap reverse (map-append number_of xs (x ∷ [])) ∙ reverse_more (map number_of xs) x.0

pub trees_more : (xs : List ParseTree) (x : ParseTree) → trees_on (xs ++ x ∷ []) ≡ tree_of x ∷ trees_on xs
trees_more xs x = ap reverse (map-append tree_of xs (x ∷ [])) ∙ reverse_more (map tree_of xs) (tree_of x)

-- the newest trees go below the new one
pub reduced_trees : (p : Production) (trees after : List ParseTree) (made : ParseTree) → length p.symbols ≤ length trees →
    tree_of made ≡ Node p.nonterminal (trees_of (map tree_of (drop (length trees - length p.symbols) trees))) →
    after ≡ take (length trees - length p.symbols) trees ++ made ∷ [] → reduced p (trees_on trees) ≡ trees_on after
reduced_trees p trees after made l is e =
    let n = length p.symbols in
    let all = map tree_of trees in
    let same : length all ≡ length trees = length-map trees tree_of in
    let fits : n ≤ length all = omega arith in
    let children : reverse (take n (reverse all)) ≡ map tree_of (drop (length trees - n) trees) =
    newest n all fits ∙ ap (λ k. drop (k - n) all) same ∙ drop-map tree_of (length trees - n) trees in
    let kept : drop n (reverse all) ≡ trees_on (take (length trees - n) trees) =
    without n all fits ∙ ap (λ k. reverse (take (k - n) all)) same ∙ ap reverse (take-map tree_of (length trees - n) trees) in
    ap₂ (λ cs ts. Node p.nonterminal (trees_of cs) ∷ ts) children kept
    ∙ ap (λ t. t ∷ trees_on (take (length trees - n) trees)) (sym is)
    ∙ sym (trees_more (take (length trees - n) trees) made)
    ∙ ap trees_on (sym e)

-- the states below the newest n states
pub numbers_left : (n : ℕ) (below : List StateIndex) (s : StateIndex) → n ≤ length below → drop n (s.0 ∷ numbers below) ≡ numbers (take (length below + 1 - n) (below ++ s ∷ []))
numbers_left n below s l =
    let stack = below ++ s ∷ [] in
    let all = map number_of stack in
    let longer : length stack ≡ length below + 1 = length-append below (s ∷ []) in
    let same : length all ≡ length below + 1 = length-map stack number_of ∙ longer in
    let fits : n ≤ length all = omega arith in
    ap (drop n) (sym (numbers_more below s))
    ∙ without n all fits
    ∙ ap (λ k. reverse (take (k - n) all)) same
    ∙ ap reverse (take-map number_of (length below + 1 - n) stack)

get_last : {A : Type 0} (xs : List A) (x d : A) → get_or (xs ++ x ∷ []) (length xs) d ≡ x
get_last [] x d = refl
get_last (y ∷ xs) x d = get_last xs x d

-- the state on top, and those below it
pub topped : (stack : List StateIndex) (top : StateIndex) → 0 < length stack → top ≡ get_or stack (length stack - 1) top → (under : List ℕ) × (numbers stack ≡ top.0 ∷ under)
topped stack top some at = go (ended stack) some at
  where
    go : {xs : List StateIndex} → Ended xs → 0 < length xs → top ≡ get_or xs (length xs - 1) top → (under : List ℕ) × (numbers xs ≡ top.0 ∷ under)
    go nothing l e = absurd (omega arith)
    go (last xs x) l e =
        let longer : length (xs ++ x ∷ []) ≡ length xs + 1 = length-append xs (x ∷ []) in
        let place : length (xs ++ x ∷ []) - 1 ≡ length xs = omega arith in
        let same : x ≡ top = sym (e ∙ ap (λ k. get_or (xs ++ x ∷ []) k top) place ∙ get_last xs x top) in
        (numbers xs, numbers_more xs x ∙ ap (λ (y : StateIndex). y.0 ∷ numbers xs) same)

-- the state that receives a reduction goes on by its goto
pub received_by : {L : Type 0} (holds : L → Token → Bool) (states : List (State L)) (p : Production) (number : ℕ) (under : List ℕ) (state : State L) (stack : List ℕ) (trees : List Tree) (rest : List TerminalString) →
    stack ≡ number ∷ under → slice_get states number ≡ Some state → received (contents_in holds states) p stack trees rest ≡ goes_on (option_map number_of (get name_cmp state.gotos p.nonterminal)) number under trees rest
received_by holds states p number under state stack trees rest e there =
    ap (λ l. received (contents_in holds states) p l trees rest) e
    ∙ ap (λ o. goes_on ((contents_at holds o).goto p.nonterminal) number under trees rest) there

-- an element of the front of a list is one of the list
pub stands_in : {A : Type 0} (m : ℕ) (xs : List A) (j : ℕ) (x : A) → slice_get (take m xs) j ≡ Some x → slice_get xs j ≡ Some x
stands_in zero xs j x e = cc
stands_in (suc m) [] j x e = e
stands_in (suc m) (y ∷ xs) zero x e = e
stands_in (suc m) (y ∷ xs) (suc j) x e = stands_in m xs j x e

module _ {L : Type 0} (holds : L → Token → Bool) (states : List (State L)) (p : Production) (number : ℕ) (under : List ℕ) (state : State L) (stack : List ℕ) (trees : List Tree) (rest : List TerminalString) where
  pub goes_to : (target : StateIndex) → stack ≡ number ∷ under → slice_get states number ≡ Some state → get name_cmp state.gotos p.nonterminal ≡ Some target →
      received (contents_in holds states) p stack trees rest ≡ Goes (record { state = target.0; below = stack; trees = trees; rest = rest })
  goes_to target e there goto =
      received_by holds states p number under state stack trees rest e there
      ∙ ap (λ o. goes_on (option_map number_of o) number under trees rest) goto
      ∙ ap (λ l. Goes (record { state = target.0; below = l; trees = trees; rest = rest })) (sym e)

  pub ends_at : stack ≡ number ∷ under → slice_get states number ≡ Some state → get name_cmp state.gotos p.nonterminal ≡ None → received (contents_in holds states) p stack trees rest ≡ Ends trees
  ends_at e there goto =
      received_by holds states p number under state stack trees rest e there
      ∙ ap (λ o. goes_on (option_map number_of o) number under trees rest) goto
