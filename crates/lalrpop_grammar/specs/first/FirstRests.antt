-- The rests of right sides after nullable names, and the steps that list them.
use Rattle.std.specs.Prelude.{◌≡◌, ℕ, ◌<◌, List, [], ◌∷◌, ◌++◌, slice_index_or, length, slice_set, Option, Some, None, Contains}
use Rattle.lalrpop_grammar.specs.declared.repr.NonterminalString.{NonterminalString}
use Rattle.lalrpop_grammar.specs.declared.repr.Production.{Production}
use Rattle.lalrpop_grammar.specs.declared.repr.Symbol.{Symbol}
use Rattle.lalrpop_grammar.specs.declared.repr.Symbol.TheVariants.{Nonterminal, Terminal}
use Rattle.lalrpop_grammar.specs.grammars.Grammar.{Derives}
use Rattle.lalrpop_grammar.specs.first.FirstNumbers.{place}

-- a list of symbols, with the number of a name
abbrev pub Rest : Type 0
Rest = ℕ × List Symbol

-- the right side of a production
abbrev pub right_side : List NonterminalString → Production → Rest
right_side names p = (place names p.nonterminal, p.symbols)

-- all rests are listed: the right sides, and what follows a nullable name at the front of a rest. A
-- name is nullable if the empty list is one of its rests. Each rest has the number of a name that
-- derives it
pub record AreRests (g : List Production) (names : List NonterminalString) (rests : List Rest) : Type 0 where
  pub sides : (p : Production) → Contains g p → Contains rests (right_side names p)
  pub onward : (n : ℕ) (b : NonterminalString) (l : List Symbol) → Contains rests (n, Nonterminal b ∷ l) → Contains rests (place names b, []) → Contains rests (n, l)
  pub named : (n : ℕ) (l : List Symbol) → Contains rests (n, l) → n < length names
  pub right : (n : ℕ) (l : List Symbol) (a : NonterminalString) → Contains rests (n, l) → place names a ≡ n → Derives g (Nonterminal a ∷ []) l

-- ---- steps
-- for each name the rests that wait for it, or none if it is known to be nullable
abbrev pub Pending : Type 0
Pending = List (Option (List Rest))

-- what waits for the name with a number
abbrev pub pending_at : Pending → ℕ → Option (List Rest)
pending_at pending n = slice_index_or pending n (Some [])

-- the rests that wait, if there is a list of them
abbrev pub pending_rests : Option (List Rest) → List Rest
pending_rests None = []
pending_rests (Some list) = list

-- what is listed of a rest after a name: the rest, if the name is nullable
abbrev pub listed_rest : Option (List Rest) → Rest → List Rest
listed_rest None rest = rest ∷ []
listed_rest (Some list) rest = []

-- what waits for the name then
abbrev pub pending_with : Option (List Rest) → Rest → Option (List Rest)
pending_with None rest = None
pending_with (Some list) rest = Some (list ++ rest ∷ [])

-- the rests that wait for a nullable name are listed, and no more wait for it
pub record IsReleased (n : ℕ) (rests new : List Rest) (pending after : Pending) : Type 0 where
  pub listed : new ≡ rests ++ pending_rests (pending_at pending n)
  pub left : after ≡ slice_set pending n None

-- a rest after a name is listed, or waits for the name
pub record IsListedOrPending (n : ℕ) (rest : Rest) (rests new : List Rest) (pending after : Pending) : Type 0 where
  pub listed : new ≡ rests ++ listed_rest (pending_at pending n) rest
  pub left : after ≡ slice_set pending n (pending_with (pending_at pending n) rest)

-- the name of an empty rest is nullable. What follows a name is listed, or waits for the name
abbrev pub IsPassed : List NonterminalString → ℕ → List Symbol → (rests new : List Rest) (pending after : Pending) → Type 0
IsPassed names n [] rests new pending after = IsReleased n rests new pending after
IsPassed names n (Terminal t ∷ l) rests new pending after = (new ≡ rests) × (after ≡ pending)
IsPassed names n (Nonterminal b ∷ l) rests new pending after = IsListedOrPending (place names b) (n, l) rests new pending after
