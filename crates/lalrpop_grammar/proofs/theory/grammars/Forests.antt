-- Derivations are forests. So they split if their lists do, and FIRST and nullable go by cases on a
-- list. The proofs are by induction on derivations and on forests.
use Rattle.std.proofs.Common.{◌≡◌, ◌↔◌, ◌⊎◌, inl, inr, List, [], ◌∷◌, ◌++◌, append_assoc, sym, subst, refl, ap, ◌∙◌}
use Rattle.std.specs.Prelude.{Contains}
use mathlib.Core.List.{head-eq_of_cons-eq, nil≢cons, cons≢nil}
use Rattle.lalrpop_grammar.proofs.Types.{Production, Symbol, TerminalString}
use Rattle.lalrpop_grammar.specs.declared.repr.Symbol.TheVariants.{Nonterminal, Terminal}
use Rattle.lalrpop_grammar.specs.Words.{Derives, as_it_is, replace, IsNullable, IsFirst}
use Rattle.lalrpop_grammar.proofs.theory.grammars.Derivations.{Derives-to, Derives-append}

-- a forest is a row of trees, with a list of symbols at the roots and a list of symbols at the
-- leaves
pub data Forest (g : List Production) : List Symbol → List Symbol → Type 0 where
  empty : Forest g [] []
  leaf : (x : Symbol) {l n : List Symbol} → Forest g l n → Forest g (x ∷ l) (x ∷ n)
  node : (p : Production) {l m n : List Symbol} → Contains g p → Forest g p.symbols m → Forest g l n → Forest g (Nonterminal p.nonterminal ∷ l) (m ++ n)

-- a forest is one over equal leaves
pub Forest-to : {g : List Production} {l m n : List Symbol} → m ≡ n → Forest g l m → Forest g l n
Forest-to {g} {l} e f = subst (λ x. Forest g l x) e f

-- a forest is one with equal roots
pub Forest-from : {g : List Production} {l k m : List Symbol} → l ≡ k → Forest g l m → Forest g k m
Forest-from {g} {m = m} e f = subst (λ x. Forest g x m) e f

-- a forest in which each symbol is its own leaf
pub leaves_only : (g : List Production) (l : List Symbol) → Forest g l l
leaves_only g [] = empty
leaves_only g (x ∷ l) = leaf x (leaves_only g l)

-- two forests, one after the other
pub Forest-append : {g : List Production} {a l m n : List Symbol} → Forest g a m → Forest g l n → Forest g (a ++ l) (m ++ n)
Forest-append empty f = f
Forest-append (leaf x e) f = leaf x (Forest-append e f)
Forest-append {n = n} (node p {m = m} {n = k} h e₁ e₂) f = Forest-to (sym (append_assoc m k n)) (node p h e₁ (Forest-append e₂ f))

-- a forest with the roots of two lists, taken apart
pub record Split (g : List Production) (a l m : List Symbol) : Type 0 where
  pub first : List Symbol
  pub second : List Symbol
  pub joined : m ≡ first ++ second
  pub left : Forest g a first
  pub right : Forest g l second

-- each such forest can be taken apart
pub split : {g : List Production} (a : List Symbol) {l m : List Symbol} → Forest g (a ++ l) m → Split g a l m
split [] {l} {m} f = record { first = []; second = m; joined = refl; left = empty; right = f }
split (x ∷ a) (leaf y f) =
    let r = split a f in
    record { first = y ∷ r.first; second = r.second; joined = ap (λ v. y ∷ v) r.joined; left = leaf y r.left; right = r.right }
split (x ∷ a) (node p {m = m} h e f) =
    let r = split a f in
    record { first = m ++ r.first; second = r.second; joined = ap (λ v. m ++ v) r.joined ∙ sym (append_assoc m r.first r.second); left = node p h e r.left; right = r.right }

-- a forest gives a derivation
pub forest_derives : {g : List Production} {l m : List Symbol} → Forest g l m → Derives g l m
forest_derives empty = as_it_is
forest_derives (leaf x f) = Derives-append {k = x ∷ []} {m = x ∷ []} as_it_is (forest_derives f)
forest_derives (node p {l} h e f) = replace [] l p h (Derives-append (forest_derives e) (forest_derives f))

-- a derivation gives a forest
pub derives_forest : {g : List Production} {l m : List Symbol} → Derives g l m → Forest g l m
derives_forest {g} (as_it_is {l}) = leaves_only g l
derives_forest (replace a b p h d) =
    let f = derives_forest d in
    let r = split a f in
    let s = split p.symbols r.right in
    Forest-to (sym (r.joined ∙ ap (λ v. r.first ++ v) s.joined)) (Forest-append r.left (node p h s.left s.right))

-- a list that l ++ m derives, as a list that l derives and a list that m derives
pub record DerivesParts (g : List Production) (l m n : List Symbol) : Type 0 where
  pub first : List Symbol
  pub second : List Symbol
  pub joined : n ≡ first ++ second
  pub left : Derives g l first
  pub right : Derives g m second

-- each list that l ++ m derives is made of two such lists
pub Derives-parts : {g : List Production} (l m n : List Symbol) → Derives g (l ++ m) n → DerivesParts g l m n
Derives-parts l m n d =
    let r = split l (derives_forest d) in
    record { first = r.first; second = r.second; joined = r.joined; left = forest_derives r.left; right = forest_derives r.right }

-- the empty list is nullable
pub nullable-nil : {g : List Production} → IsNullable g []
nullable-nil = as_it_is

-- parts of the empty list are empty
pub nil_parts : {A : Type 0} (xs ys : List A) → [] ≡ xs ++ ys → (xs ≡ []) × (ys ≡ [])
nil_parts [] ys e = (refl, sym e)
nil_parts (x ∷ xs) ys e = absurd (nil≢cons e)

-- a list is nullable exactly if its head and its tail are
pub nullable-cons : {g : List Production} (x : Symbol) (s : List Symbol) → IsNullable g (x ∷ s) ↔ IsNullable g (x ∷ []) × IsNullable g s
nullable-cons x s = (
  λ d. let r = Derives-parts (x ∷ []) s [] d in let e = nil_parts r.first r.second r.joined in (Derives-to e.0 r.left, Derives-to e.1 r.right),
  λ h. Derives-append h.0 h.1,
)

-- a forest without roots has no leaves
pub forest-nil : {g : List Production} {m : List Symbol} → Forest g [] m → m ≡ []
forest-nil empty = refl

-- nothing is in FIRST of the empty list
pub first-nil : {g : List Production} (t : TerminalString) → IsFirst g [] t → ⊥
first-nil t h = cons≢nil (forest-nil (derives_forest h.1))

-- FIRST of a list is FIRST of its head and, if the head is nullable, FIRST of its tail
pub first-cons : {g : List Production} (x : Symbol) (s : List Symbol) (t : TerminalString) → IsFirst g (x ∷ s) t ↔ (IsFirst g (x ∷ []) t ⊎ (IsNullable g (x ∷ []) × IsFirst g s t))
first-cons {g} x s t = (
  λ h. let r = Derives-parts (x ∷ []) s (Terminal t ∷ h.0) h.1 in go h.0 r.first r.second r.joined r.left r.right,
  back,
)
  where
    go : (rest first second : List Symbol) → Terminal t ∷ rest ≡ first ++ second → Derives g (x ∷ []) first → Derives g s second → IsFirst g (x ∷ []) t ⊎ (IsNullable g (x ∷ []) × IsFirst g s t)
    go rest [] second e d₁ d₂ = inr (d₁, (rest, Derives-to (sym e) d₂))
    go rest (y ∷ first) second e d₁ d₂ = inl (first, Derives-to (ap (λ z. z ∷ first) (sym (head-eq_of_cons-eq e))) d₁)

    back : IsFirst g (x ∷ []) t ⊎ (IsNullable g (x ∷ []) × IsFirst g s t) → IsFirst g (x ∷ s) t
    back (inl h) = (h.0 ++ s, Derives-append h.1 as_it_is)
    back (inr h) = (h.1.0, Derives-append h.0 h.1.1)

-- a forest with a terminal as its first root has the terminal as its first leaf
pub forest-terminal : {g : List Production} {t : TerminalString} {s m : List Symbol} → Forest g (Terminal t ∷ s) m → (n : List Symbol) × (m ≡ Terminal t ∷ n) × Forest g s n
forest-terminal (leaf x {n = n} f) = (n, refl, f)
