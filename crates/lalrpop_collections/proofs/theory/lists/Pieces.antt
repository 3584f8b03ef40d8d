-- Texts that grow by pieces.
use Rattle.std.proofs.Common.{◌≡◌, ◌<◌, ◌+◌, ℕ, List, [], ◌++◌, length, get_or, take, sym, ap, ◌∙◌, append_assoc}
use Rattle.std.proofs.lemmas.List.{flat_map_more, take_more}
use Rattle.std.specs.List.{flat_map}

-- two pieces, one after the other
pub two_pieces : (start first second a b : List ℕ) → first ≡ start ++ a → second ≡ first ++ b → second ≡ start ++ (a ++ b)
two_pieces start first second a b e f = f ∙ ap (λ t. t ++ b) e ∙ append_assoc start a b

-- three pieces, one after another
pub three_pieces : (start t1 t2 t3 a b c : List ℕ) → t1 ≡ start ++ a → t2 ≡ t1 ++ b → t3 ≡ t2 ++ c → t3 ≡ start ++ (a ++ (b ++ c))
three_pieces start t1 t2 t3 a b c p q r = two_pieces start t1 t3 a _ p (two_pieces t1 t2 t3 b c q r)

-- four pieces, one after another
pub four_pieces : (start t1 t2 t3 t4 a b c d : List ℕ) → t1 ≡ start ++ a → t2 ≡ t1 ++ b → t3 ≡ t2 ++ c → t4 ≡ t3 ++ d → t4 ≡ start ++ (a ++ (b ++ (c ++ d)))
four_pieces start t1 t2 t3 t4 a b c d p q r s = two_pieces start t1 t4 a _ p (three_pieces t1 t2 t3 t4 b c d q r s)

-- five pieces, one after another
pub five_pieces : (start t1 t2 t3 t4 t5 a b c d e : List ℕ) → t1 ≡ start ++ a → t2 ≡ t1 ++ b → t3 ≡ t2 ++ c → t4 ≡ t3 ++ d → t5 ≡ t4 ++ e →
    t5 ≡ start ++ (a ++ (b ++ (c ++ (d ++ e))))
five_pieces start t1 t2 t3 t4 t5 a b c d e p q r s u = two_pieces start t1 t5 a _ p (two_pieces t1 t2 t5 b _ q (three_pieces t2 t3 t4 t5 c d e r s u))

-- six pieces, one after another
pub six_pieces : (start t1 t2 t3 t4 t5 t6 a b c d e f : List ℕ) → t1 ≡ start ++ a → t2 ≡ t1 ++ b → t3 ≡ t2 ++ c → t4 ≡ t3 ++ d → t5 ≡ t4 ++ e → t6 ≡ t5 ++ f →
    t6 ≡ start ++ (a ++ (b ++ (c ++ (d ++ (e ++ f)))))
six_pieces start t1 t2 t3 t4 t5 t6 a b c d e f p q r s t u =
    two_pieces start t1 t6 a _ p (two_pieces t1 t2 t6 b _ q (two_pieces t2 t3 t6 c _ r (two_pieces t3 t4 t6 d _ s (two_pieces t4 t5 t6 e f t u))))

-- a text that grows by the text of one more item
pub one_more : {X : Type 0} (f : X → List ℕ) (xs : List X) (i : ℕ) (x : X) (start now next : List ℕ) → i < length xs → x ≡ get_or xs i x → now ≡ start ++ flat_map f (take i xs) → next ≡ now ++ f x →
    next ≡ start ++ flat_map f (take (i + 1) xs)
one_more f xs i x start now next inside same so_far grew =
    grew ∙ ap (λ text. text ++ f x) so_far ∙ append_assoc start (flat_map f (take i xs)) (f x) ∙ ap (λ text. start ++ text) (ap (λ y. flat_map f (take i xs) ++ f y) same ∙ flat_map_more f (flat_map f []) (take i xs) (get_or xs i x) ∙ ap (flat_map f) (sym (take_more xs i x inside)))
