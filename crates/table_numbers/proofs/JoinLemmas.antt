-- A list to which seven parts were added one after the other.
use Rattle.std.proofs.Common.{◌≡◌, ℕ, List, ◌++◌, ◌∙◌, ap, append_assoc}

-- a list with one more part at its end
add : (x y z p q : List ℕ) → x ≡ y ++ p → z ≡ x ++ q → z ≡ y ++ (p ++ q)
add x y z p q e f = f ∙ ap (λ (w : List ℕ). w ++ q) e ∙ append_assoc y p q

-- the list is its first part, and then the others
pub joined : (h p q r s t u v a b d e f g i j : List ℕ) → a ≡ h → b ≡ a ++ p → d ≡ b ++ q → e ≡ d ++ r → f ≡ e ++ s → g ≡ f ++ t → i ≡ g ++ u → j ≡ i ++ v →
    j ≡ h ++ (p ++ (q ++ (r ++ (s ++ (t ++ (u ++ v))))))
joined h p q r s t u v a b d e f g i j zero one two three four five six seven =
    let last : j ≡ g ++ (u ++ v) = add i g j u v six seven in
    let fifth : j ≡ f ++ (t ++ (u ++ v)) = add g f j t (u ++ v) five last in
    let fourth : j ≡ e ++ (s ++ (t ++ (u ++ v))) = add f e j s (t ++ (u ++ v)) four fifth in
    let third : j ≡ d ++ (r ++ (s ++ (t ++ (u ++ v)))) = add e d j r (s ++ (t ++ (u ++ v))) three fourth in
    let second : j ≡ b ++ (q ++ (r ++ (s ++ (t ++ (u ++ v))))) = add d b j q (r ++ (s ++ (t ++ (u ++ v)))) two third in
    let first : j ≡ a ++ (p ++ (q ++ (r ++ (s ++ (t ++ (u ++ v)))))) = add b a j p (q ++ (r ++ (s ++ (t ++ (u ++ v))))) one second in
    first ∙ ap (λ (x : List ℕ). x ++ (p ++ (q ++ (r ++ (s ++ (t ++ (u ++ v))))))) zero
