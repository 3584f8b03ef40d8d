-- Where trees begin.
use Rattle.std.proofs.Common.{◌≡◌, ℕ, zero, suc, ◌+◌, ◌-◌, ◌<◌, ◌≤◌, List, [], ◌∷◌, ◌++◌, Some, length, length-append, slice_get, refl, sym, ap, ◌∙◌, arith}
use Rattle.parse_nodes.specs.Building.{size_of, start_of, tree_start}
use Rattle.parse_nodes.specs.declared.node.ParseNode.{ParseNode}
use Rattle.parse_nodes.proofs.Rows.{HasRoot}

module _ {A : Type 0} where
  -- an element of the first of two lists
  pub got_left : (xs ys : List A) (k : ℕ) → k < length xs → slice_get (xs ++ ys) k ≡ slice_get xs k
  got_left [] ys k l = absurd (omega (arith, l))
  got_left (x ∷ xs) ys zero l = refl
  got_left (x ∷ xs) ys (suc k) l = got_left xs ys k (omega (arith, l))

  -- an element of the second of two lists
  pub got_right : (xs ys : List A) (k : ℕ) → slice_get (xs ++ ys) (length xs + k) ≡ slice_get ys k
  got_right [] ys k = let none : 0 + k ≡ k = omega arith in ap (slice_get ys) none
  got_right (x ∷ xs) ys k =
      let more : suc (length xs) + k ≡ suc (length xs + k) = omega arith in
      ap (slice_get (x ∷ (xs ++ ys))) more ∙ got_right xs ys k

tree_start_within : (nodes : List ParseNode) (place : ℕ) → tree_start nodes place ≤ place
tree_start_within nodes zero = omega arith
tree_start_within nodes (suc root) = omega arith

-- trees begin before they end
pub starts_within : (nodes : List ParseNode) (n place : ℕ) → start_of nodes n place ≤ place
starts_within nodes zero place = omega arith
starts_within nodes (suc n) place =
    let last = tree_start_within nodes (start_of nodes n place) in
    let rest = starts_within nodes n place in
    omega (arith, last, rest)

-- the last tree is walked over first
pub start_of_next : (nodes : List ParseNode) (n place : ℕ) → start_of nodes (suc n) place ≡ start_of nodes n (tree_start nodes place)
start_of_next nodes zero place = refl
start_of_next nodes (suc n) place = ap (tree_start nodes) (start_of_next nodes n place)

-- the last tree is found without the nodes after it
pub tree_start_in : (xs ys : List ParseNode) (place : ℕ) → place ≤ length xs → tree_start (xs ++ ys) place ≡ tree_start xs place
tree_start_in xs ys zero l = refl
tree_start_in xs ys (suc root) l = ap (λ o. suc root - size_of o) (got_left xs ys root (omega (arith, l)))

-- nodes behind a place do not matter
pub start_in : (xs ys : List ParseNode) (n place : ℕ) → place ≤ length xs → start_of (xs ++ ys) n place ≡ start_of xs n place
start_in xs ys zero place l = refl
start_in xs ys (suc n) place l =
    let within = starts_within xs n place in
    ap (tree_start (xs ++ ys)) (start_in xs ys n place l) ∙ tree_start_in xs ys (start_of xs n place) (omega (arith, within, l))

-- the root of the last tree is the last node
pub root_at : (before own : List ParseNode) (r : HasRoot own) → slice_get (before ++ own) (length before + length r.below) ≡ Some r.root
root_at before own r =
    let none : length r.below + 0 ≡ length r.below = omega arith in
    got_right before own (length r.below)
    ∙ ap (λ zs. slice_get zs (length r.below)) r.is
    ∙ ap (slice_get (r.below ++ r.root ∷ [])) (sym none)
    ∙ got_right r.below (r.root ∷ []) 0

-- the last tree begins behind the nodes before it
pub last_tree : (before own : List ParseNode) → HasRoot own → tree_start (before ++ own) (length (before ++ own)) ≡ length before
last_tree before own r =
    let k = length before + length r.below in
    let whole = length-append before own in
    let parts = length-append r.below (r.root ∷ []) in
    let counted = ap length r.is in
    let place : length (before ++ own) ≡ suc k = omega (arith, whole, parts, counted) in
    let size = r.size in
    let left : suc k - r.root.size ≡ length before = omega (arith, size) in
    ap (tree_start (before ++ own)) place ∙ ap (λ o. suc k - size_of o) (root_at before own r) ∙ left
