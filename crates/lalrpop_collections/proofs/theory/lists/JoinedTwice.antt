-- Tokens that are added to a key twice, as if all were added at once.
use Rattle.std.proofs.Common.{◌≡◌, ◌≢◌, ◌||◌, suc, inl, inr, Bool, true, false, List, [], ◌∷◌, ◌++◌, refl, sym, ◌∙◌, ap, subst, arith}
use Rattle.std.specs.Prelude.{Contains, MatchBool}
use Rattle.std.specs.Map.{keys_of}
use Rattle.std.proofs.lemmas.List.{map-append}
use Rattle.lalrpop_collections.specs.Words.{AllDiffer, Bits, has, has-join, join, same_bits, IsJoinedAt}
use Rattle.lalrpop_collections.specs.lists.Entries.IsJoinedAt.{fresh, known}
use Rattle.lalrpop_collections.proofs.theory.lists.Lists.{contains_place}
use Rattle.lalrpop_collections.proofs.theory.lists.Members.{contains-cons, contains_map}
use Rattle.lalrpop_collections.proofs.theory.lists.Places.{at_midst}
use Rattle.lalrpop_collections.proofs.theory.sets.BitSets.{join_left, join_right, join_within}

-- ---- sets
join_both : (s a b : Bits) → join (join s a) b ≡ join s (join a b)
join_both s a b = same_bits _ _ (λ q. grind (arith, has-join))

-- if the first join makes another set, the second does not lead back to the first set
grown_stays : (s a b : Bits) → join s a ≢ s → join (join s a) b ≢ s
grown_stays s a b grew same = grew (join_within s a (λ bit h. sym (ap (λ t. has t bit) same) ∙ join_left (join s a) b bit (join_right s a bit h)))

told_both : (first second : Bool) (s a b : Bits) → MatchBool first (join s a ≢ s) (join s a ≡ s) → MatchBool second (join (join s a) b ≢ join s a) (join (join s a) b ≡ join s a) →
    MatchBool (first || second) (join s (join a b) ≢ s) (join s (join a b) ≡ s)
told_both true second s a b grew told = λ same. grown_stays s a b grew (join_both s a b ∙ same)
told_both false true s a b same grew = λ back. grew (join_both s a b ∙ back ∙ sym same)
told_both false false s a b same again = sym (join_both s a b) ∙ again ∙ same

-- ---- a key that is in a list once
module _ {X : Type 0} where
  differ_tail : (x : X) (xs : List X) → AllDiffer (x ∷ xs) → AllDiffer xs
  differ_tail x xs d i j y l = d (suc i) (suc j) y (omega (arith, l))

  head_apart : (x : X) (xs : List X) → AllDiffer (x ∷ xs) → Contains xs x → ⊥
  head_apart x xs d c = let p = contains_place xs x c in d 0 (suc p.0) x (omega arith) refl p.1

  once_midst : (xs ys : List X) (x : X) → AllDiffer (xs ++ x ∷ ys) → Contains (xs ++ ys) x → ⊥
  once_midst [] ys x d c = head_apart x ys d c
  once_midst (z ∷ xs) ys x d c = elim (contains-cons z (xs ++ ys) x c) [
    | inl same ↦ head_apart z (xs ++ x ∷ ys) d (subst (Contains (xs ++ x ∷ ys)) (sym same) (at_midst xs ys x))
    | inr later ↦ once_midst xs ys x (differ_tail z (xs ++ x ∷ ys) d) later
  ]

module _ {K X : Type 0} (k : K) where
  abbrev entry : X → K × X
  entry x = (k, x)

  midst_key : (front back : List (K × X)) (x : X) → Contains (keys_of (front ++ (k, x) ∷ back)) k
  midst_key front back x = contains_map (λ (e : K × X). e.0) (front ++ (k, x) ∷ back) (k, x) (at_midst front back (k, x))

  -- the key is at one place, with one value
  same_midst : (front front' back back' : List (K × X)) (x y : X) → AllDiffer (keys_of (front ++ (k, x) ∷ back)) → front ++ (k, x) ∷ back ≡ front' ++ (k, y) ∷ back' → (front ≡ front') × (x ≡ y) × (back ≡ back')
  same_midst [] [] back back' x y d e =
      let head : entry x ≡ entry y = cc in
      (refl, ap (λ (u : K × X). u.1) head, cc)
  same_midst [] (z ∷ front') back back' x y d e =
      let tail : back ≡ front' ++ (k, y) ∷ back' = cc in
      absurd (head_apart k (keys_of back) d (subst (λ (es : List (K × X)). Contains (keys_of es) k) (sym tail) (midst_key front' back' y)))
  same_midst (z ∷ front) [] back back' x y d e =
      let head : z ≡ (k, y) = cc in
      absurd (head_apart z.0 (keys_of (front ++ (k, x) ∷ back)) d (subst (Contains (keys_of (front ++ (k, x) ∷ back))) (sym (ap (λ (u : K × X). u.0) head)) (midst_key front back x)))
  same_midst (z ∷ front) (w ∷ front') back back' x y d e =
      let head : z ≡ w = cc in
      let tail : front ++ (k, x) ∷ back ≡ front' ++ (k, y) ∷ back' = cc in
      let rest = same_midst front front' back back' x y (differ_tail z.0 (keys_of (front ++ (k, x) ∷ back)) d) tail in
      (ap (λ (u : K × X). u ∷ front) head ∙ ap (λ (us : List (K × X)). w ∷ us) rest.0, rest.1, rest.2)

-- ---- tokens that are added to a key twice
module _ {K : Type 0} (k : K) (a b : Bits) where
  -- a key that has tokens is not new
  not_fresh : (mid new : List (K × Bits)) (front back : List (K × Bits)) → mid ≡ front ++ back → new ≡ front ++ (k, b) ∷ back → Contains (keys_of mid) k → AllDiffer (keys_of new) → ⊥
  not_fresh mid new front back before after c d =
      let parts : keys_of (front ++ back) ≡ keys_of front ++ keys_of back = map-append (λ (e : K × Bits). e.0) front back in
      let keys : keys_of new ≡ keys_of front ++ k ∷ keys_of back = ap keys_of after ∙ map-append (λ (e : K × Bits). e.0) front ((k, b) ∷ back) in
      once_midst (keys_of front) (keys_of back) k (subst AllDiffer keys d) (subst (λ (ks : List K). Contains ks k) (ap keys_of before ∙ parts) c)

  pub joined_both : (first second : Bool) (old mid new : List (K × Bits)) → IsJoinedAt k a first old mid → IsJoinedAt k b second mid new → AllDiffer (keys_of mid) → AllDiffer (keys_of new) → IsJoinedAt k (join a b) (first || second) old new
  joined_both first second old mid new (fresh front back before after told) (fresh front' back' before' after' told') d d' =
      absurd (not_fresh mid new front' back' before' after' (subst (λ (es : List (K × Bits)). Contains (keys_of es) k) (sym after) (midst_key k front back a)) d')
  joined_both first second old mid new (known front back s before after told) (fresh front' back' before' after' told') d d' =
      absurd (not_fresh mid new front' back' before' after' (subst (λ (es : List (K × Bits)). Contains (keys_of es) k) (sym after) (midst_key k front back (join s a))) d')
  joined_both first second old mid new (fresh front back before after told) (known front' back' s before' after' told') d d' =
      let same = same_midst k front front' back back' a s (subst (λ (es : List (K × Bits)). AllDiffer (keys_of es)) after d) (sym after ∙ before') in
      fresh front back before (grind (arith, after', same.0, same.1, same.2)) (ap (λ t. t || second) told)
  joined_both first second old mid new (known front back s before after told) (known front' back' u before' after' told') d d' =
      let same = same_midst k front front' back back' (join s a) u (subst (λ (es : List (K × Bits)). AllDiffer (keys_of es)) after d) (sym after ∙ before') in
      known front back s before (grind (arith, after', same.0, same.1, same.2, join_both s a b)) (told_both first second s a b told (subst (λ (t : Bits). MatchBool second (join t b ≢ t) (join t b ≡ t)) (sym same.1) told'))
