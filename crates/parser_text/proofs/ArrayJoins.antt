-- Lists to which arrays are appended one after the other.
use Rattle.std.proofs.Common.{◌≡◌, ◌++◌, ◌∷◌, [], ◌∙◌, ℕ, List, ap, append_assoc}
use Rattle.parser_text.specs.FileArrays.{Parts}

-- one array is appended, and then a list
pub then_list : (old mid new : List Parts) (array : Parts) (rest : List Parts) → mid ≡ old ++ array ∷ [] → new ≡ mid ++ rest → new ≡ old ++ array ∷ rest
then_list old mid new array rest first second = second ∙ ap (λ t. t ++ rest) first ∙ append_assoc old (array ∷ []) rest

-- two lists that are appended are one
pub then_lists : (old mid new a b : List Parts) → mid ≡ old ++ a → new ≡ mid ++ b → new ≡ old ++ (a ++ b)
then_lists old mid new a b first second = second ∙ ap (λ t. t ++ b) first ∙ append_assoc old a b

-- an array of numbers that are other ones
pub of_numbers : (array : List ℕ → Parts) (x y : List ℕ) (old new : List Parts) → new ≡ old ++ array x ∷ [] → x ≡ y → new ≡ old ++ array y ∷ []
of_numbers array x y old new is same = is ∙ ap (λ (z : List ℕ). old ++ array z ∷ []) same
