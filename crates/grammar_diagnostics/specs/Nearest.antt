-- The name that may be meant by an undefined one: the nearest name that has a production.
use Rattle.std.specs.Prelude.{◌≤◌, ◌<◌, ◌/◌, ℕ, ◌+◌, nat_eq, nat_lt, ◌&&◌, List, [], ◌∷◌, length, Option, None, Some, if◌then◌else◌, option_copied}
use Rattle.std.specs.Str.{chars}
use Rattle.strsim.specs.Edits.{levenshtein_row}
use Rattle.lalrpop_grammar.specs.declared.repr.NonterminalString.{NonterminalString}
use Rattle.lalrpop_grammar.specs.declared.repr.grammar.NonterminalData.{NonterminalData}
use Rattle.lalrpop_grammar.specs.declared.repr.grammar.Grammar.{Grammar}
use Rattle.lalrpop_grammar.specs.grammars.WellFormed.{productions}
use Rattle.lalrpop_useful.specs.useful.Reachable.{HasProduction}
use Rattle.grammar_diagnostics.specs.declared.nearest.Near.{Near as NearWords}
use Rattle.grammar_diagnostics.specs.Warnings.{Doubt, is_defined, missing_name}

-- the distance of two names: the least number of insertions, deletions and substitutions of
-- characters from one to the other (Levenshtein, "Binary codes capable of correcting deletions,
-- insertions, and reversals")
abbrev pub name_distance : NonterminalString → NonterminalString → ℕ
name_distance a b = levenshtein_row nat_eq (chars a.text) (chars b.text) (length (chars b.text))

-- the greatest distance of a name that may be meant: a third of the bytes of the name and one more. So
-- it is 0 for a name of one byte
abbrev pub name_reach : NonterminalString → ℕ
name_reach a = (length a.text + 1) / 3

-- a name that may be meant by another: it has a production and is within reach, and no name with a
-- production is nearer
pub record IsNearestName (g : Grammar) (a b : NonterminalString) : Type 0 where
  pub defined : HasProduction (productions g) b
  pub within : name_distance a b ≤ name_reach a
  pub least : (c : NonterminalString) → HasProduction (productions g) c → name_distance a b ≤ name_distance a c

-- what is found for a name: a name that may be meant, or none if no name with a production is within
-- reach
abbrev pub IsNearestResult : Grammar → NonterminalString → Option NonterminalString → Type 0
IsNearestResult g a None = (c : NonterminalString) → HasProduction (productions g) c → name_reach a < name_distance a c
IsNearestResult g a (Some b) = IsNearestName g a b

-- ---- how it is found
-- a name so far, if there is one, and the distance that a nearer one is below
pub record Near : Type 0 where
  pub limit : ℕ
  pub name : Option NonterminalString

-- it, from the type of the code
abbrev pub near_view : NearWords → Near
near_view near = record { limit = near.limit; name = option_copied near.name }

-- an entry, if it has a production and is nearer to a name than what was found before
abbrev pub nearer_of : NonterminalString → Near → NonterminalString × NonterminalData → Near
nearer_of a near e = if is_defined e.1 && nat_lt (name_distance a e.0) near.limit then record { limit = name_distance a e.0; name = Some e.0 } else near

-- the nearest of some entries, after what was found before
abbrev pub nearest_from : NonterminalString → Near → List (NonterminalString × NonterminalData) → Near
nearest_from a near [] = near
nearest_from a near (e ∷ es) = nearest_from a (nearer_of a near e) es

-- the first of the nearest names with a production that are within reach, in the order of names
abbrev pub nearest_name : Grammar → NonterminalString → Option NonterminalString
nearest_name g a = (nearest_from a (record { limit = name_reach a + 1; name = None }) g.nonterminals.entries).name

-- the nearest name to one, if there is one
abbrev pub nearest_to : Grammar → Option NonterminalString → Option NonterminalString
nearest_to g None = None
nearest_to g (Some a) = nearest_name g a

-- the name that may be meant by the missing one of a warning, and none for other warnings
abbrev pub suggested : Grammar → NonterminalString → Doubt → Option NonterminalString
suggested g start w = nearest_to g (missing_name start w)
