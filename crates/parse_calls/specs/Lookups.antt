-- The actions and gotos that a list of numbers has. The list may be any.
use Rattle.std.specs.Prelude.{◌==◌, ◌&&◌, ℕ, Bool, false, cond, nat_le, nat_lt, List, [], ◌∷◌, Option, Some, None}
use Rattle.std.specs.List.{list_any}
use Rattle.parse_calls.specs.Pairs.{pairs_of}
use Rattle.parse_calls.specs.Places.{Lists, block_of, counts_of, set_of, side_of}
use Rattle.parse_calls.specs.declared.lookups.Found.{Found}
use Rattle.parse_calls.specs.declared.lookups.Found.TheVariants.{Fault, Nothing, Reduce, Shift}
use Rattle.parse_calls.specs.declared.lookups.Target.{Target}
use Rattle.parse_calls.specs.declared.lookups.Target.TheVariants.{Fault as NoTarget, Nothing as NoGoto, State}
use Rattle.parse_calls.specs.declared.places.Counts.{Counts}

-- the target of the first pair with a name
abbrev pub target_in : List (ℕ × ℕ) → ℕ → Option ℕ
target_in [] name = None
target_in (p ∷ pairs) name = cond (p.0 == name) (Some p.1) (target_in pairs name)

-- the target of the shift on a token. The end of the input, which is the number of terminals, is
-- never shifted
abbrev pub shift_on : Counts → ℕ → List (ℕ × ℕ) → Option ℕ
shift_on counts token shifts = cond (nat_lt token counts.terminals) (target_in shifts token) None

-- whether a list of tokens, if there is one, has a token
abbrev pub holds : Option (List ℕ) → ℕ → Bool
holds None token = false
holds (Some tokens) token = list_any (λ (x : ℕ). x == token) tokens

-- whether the token set with a number has a token
abbrev pub has_token : List ℕ → Counts → ℕ → ℕ → Bool
has_token numbers counts set token = holds (set_of numbers counts set) token

-- whether a reduction, which is a production and a token set, is made on a token: there is such a
-- production, and the set has the token
abbrev pub is_reduced : List ℕ → Counts → ℕ → ℕ × ℕ → Bool
is_reduced numbers counts token r = nat_lt r.0 counts.productions && has_token numbers counts r.1 token

-- the production of the first reduction that is made on a token
abbrev pub production_in : List ℕ → Counts → ℕ → List (ℕ × ℕ) → Option ℕ
production_in numbers counts token [] = None
production_in numbers counts token (r ∷ reductions) = cond (is_reduced numbers counts token r) (Some r.0) (production_in numbers counts token reductions)

-- a shift to the target, if there is one, and otherwise a reduction by the production, if there is
-- one
abbrev pub action_by : Option ℕ → Option ℕ → Found
action_by (Some target) production = Shift target
action_by None (Some production) = Reduce production
action_by None None = Nothing

-- the action on a token, of the lists of a state
abbrev pub action_of : List ℕ → Counts → ℕ → Option Lists → Found
action_of numbers counts token None = Fault
action_of numbers counts token (Some s) = action_by (shift_on counts token (pairs_of s.shifts)) (production_in numbers counts token (pairs_of s.reductions))

-- the action of a state on a token, if the counts are known
abbrev pub action_in : List ℕ → ℕ → ℕ → Counts → Found
action_in numbers state token counts = cond (nat_le token counts.terminals) (action_of numbers counts token (block_of numbers counts state)) Fault

-- the action of a state on a token, of the counts that the list has
abbrev pub action_with : List ℕ → ℕ → ℕ → Option Counts → Found
action_with numbers state token None = Fault
action_with numbers state token (Some counts) = action_in numbers state token counts

-- the action of a state on a token
abbrev pub action_at : List ℕ → ℕ → ℕ → Found
action_at numbers state token = action_with numbers state token (counts_of numbers)

-- the goto to a target, if there is one
abbrev pub goto_by : Option ℕ → Target
goto_by (Some target) = State target
goto_by None = NoGoto

-- the goto on a nonterminal, of the lists of a state
abbrev pub goto_of : ℕ → Option Lists → Target
goto_of name None = NoTarget
goto_of name (Some s) = goto_by (target_in (pairs_of s.gotos) name)

-- the goto of a state on a nonterminal, if the counts are known
abbrev pub goto_in : List ℕ → ℕ → ℕ → Counts → Target
goto_in numbers state name counts = cond (nat_lt name counts.nonterminals) (goto_of name (block_of numbers counts state)) NoTarget

-- the goto of a state on a nonterminal, of the counts that the list has
abbrev pub goto_with : List ℕ → ℕ → ℕ → Option Counts → Target
goto_with numbers state name None = NoTarget
goto_with numbers state name (Some counts) = goto_in numbers state name counts

-- the goto of a state on a nonterminal
abbrev pub goto_at : List ℕ → ℕ → ℕ → Target
goto_at numbers state name = goto_with numbers state name (counts_of numbers)

-- the nonterminal of a production and the length of its right side, of the counts that the list has
abbrev pub side_with : List ℕ → ℕ → Option Counts → Option (ℕ × ℕ)
side_with numbers production None = None
side_with numbers production (Some counts) = side_of numbers counts production

-- the nonterminal of the production with a number and the length of its right side, if there is one
abbrev pub side_at : List ℕ → ℕ → Option (ℕ × ℕ)
side_at numbers production = side_with numbers production (counts_of numbers)
