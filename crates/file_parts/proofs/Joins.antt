-- Texts that are appended one after the other.
use Rattle.std.proofs.Common.{◌≡◌, ◌++◌, ◌∙◌, ℕ, List, ap, append_assoc}
use Rattle.file_parts.specs.Fixed.{fixed_text}

-- two texts that are appended are one
pub then_more : (old mid new a b : List ℕ) → mid ≡ old ++ a → new ≡ mid ++ b → new ≡ old ++ (a ++ b)
then_more old mid new a b first second = second ∙ ap (λ t. t ++ b) first ∙ append_assoc old a b

-- the text of a value that is another one is the text of that one
pub of_same : {X : Type 0} (f : X → List ℕ) (x y : X) (old new : List ℕ) → new ≡ old ++ f x → x ≡ y → new ≡ old ++ f y
of_same f x y old new e same = e ∙ ap (λ z. old ++ f z) same

-- a fixed text with prefixes that are other ones
pub fixed_same : (small big s b lit old new : List ℕ) → new ≡ old ++ fixed_text s b lit → s ≡ small → b ≡ big → new ≡ old ++ fixed_text small big lit
fixed_same small big s b lit old new e is_small is_big = e ∙ ap (λ (x : List ℕ). old ++ fixed_text x b lit) is_small ∙ ap (λ (x : List ℕ). old ++ fixed_text small x lit) is_big
