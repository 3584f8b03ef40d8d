-- The way from a cyclic nonterminal back to itself, over nonterminals around which all is nullable.
use Rattle.std.specs.Prelude.{◌≡◌, ◌<◌, ◌⊎◌, ℕ, List, [], ◌∷◌, map, slice_get, Some, Contains}
use Rattle.std.specs.Borrow.{Bor}
use Rattle.lalrpop_grammar.specs.declared.repr.NonterminalString.{NonterminalString}
use Rattle.lalrpop_grammar.specs.declared.repr.grammar.Grammar.{Grammar}
use Rattle.lalrpop_grammar.specs.grammars.WellFormed.{productions, productions_of}
use Rattle.lalrpop_useful.specs.useful.Cycles.{IsAloneOn}
use Rattle.grammar_diagnostics.specs.declared.cycle.Step.{Step}
use Rattle.grammar_diagnostics.specs.Messages.{name_now}

-- a nonterminal leads to another alone: a production of the first has the other on its right side,
-- and all that is before and after it is nullable
abbrev pub LeadsAlone : Grammar → NonterminalString → NonterminalString → Type 0
LeadsAlone g a b = IsAloneOn (productions g) (productions_of g a) b

-- each name of a list leads to the next alone, and the list ends with a name
abbrev pub IsUnitPath : Grammar → NonterminalString → List NonterminalString → Type 0
IsUnitPath g last [] = ⊥
IsUnitPath g last (x ∷ []) = x ≡ last
IsUnitPath g last (x ∷ y ∷ ys) = LeadsAlone g x y × IsUnitPath g last (y ∷ ys)

-- a list begins and ends with a name, has at least one step, and each name leads to the next alone
abbrev pub IsUnitCycle : Grammar → NonterminalString → List NonterminalString → Type 0
IsUnitCycle g a [] = ⊥
IsUnitCycle g a (x ∷ []) = ⊥
IsUnitCycle g a (x ∷ y ∷ ys) = (x ≡ a) × IsUnitPath g a (x ∷ y ∷ ys)

-- ---- how it is found
-- the names to which a list of references refers
abbrev pub names_now : List (Bor NonterminalString) → List NonterminalString
names_now names = map name_now names

-- a nonterminal leads to each name of a list
abbrev pub LeadsToEach : Grammar → NonterminalString → List NonterminalString → Type 0
LeadsToEach g a names = (b : NonterminalString) → Contains names b → LeadsAlone g a b

-- what is added to a list of names has a property
abbrev pub AddsSuch : (NonterminalString → Type 0) → List NonterminalString → List NonterminalString → Type 0
AddsSuch Such old new = (b : NonterminalString) → Contains new b → Contains old b ⊎ Such b

-- a step at a place leads from a step at a place
pub record IsStepFrom (g : Grammar) (steps : List Step) (place : ℕ) (s : Step) : Type 0 where
  pub parent : Step
  pub there : slice_get steps s.from ≡ Some parent
  pub before : s.from < place
  pub leads : LeadsAlone g parent.name.now s.name.now

-- each step of a list has the first name or leads from a step before it
abbrev pub AreSteps : Grammar → NonterminalString → List Step → Type 0
AreSteps g a steps = (k : ℕ) (s : Step) → slice_get steps k ≡ Some s → ((s.name.now ≡ a) × (k ≡ 0)) ⊎ IsStepFrom g steps k s

-- a step at a place has a name
pub record HasStepAt (steps : List Step) (place : ℕ) (a : NonterminalString) : Type 0 where
  pub step : Step
  pub there : slice_get steps place ≡ Some step
  pub named : step.name.now ≡ a
