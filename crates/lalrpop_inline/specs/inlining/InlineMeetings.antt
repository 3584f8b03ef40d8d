-- A depth first walk goes from marked nonterminals to those that they mention. These definitions
-- say to which nonterminal the walk comes back while it is in that one.
use Rattle.std.specs.Prelude.{◌≡◌, ◌↔◌, true, List, [], ◌∷◌, ◌++◌, Contains, Option, None, Some, reverse}
use Rattle.std.proofs.Common.{◌⊎◌}
use Rattle.std.specs.BTreeSet.{contains}
use Rattle.lalrpop_base.specs.Words.{inline_mark, name_cmp, productions_of}
use Rattle.lalrpop_grammar.specs.declared.repr.NonterminalString.{NonterminalString}
use Rattle.lalrpop_grammar.specs.declared.repr.grammar.NonterminalData.{NonterminalData}
use Rattle.lalrpop_grammar.specs.declared.repr.grammar.Grammar.{Grammar}
use Rattle.lalrpop_grammar.specs.declared.repr.norm_error.NormError.{NormError}
use Rattle.lalrpop_grammar.specs.declared.repr.norm_error.NormError.TheVariants.{Cycle, TooManyActions, Memory}
use Rattle.lalrpop_inline.specs.declared.inline.graph.depth_first.Frame.{Frame}
use Rattle.lalrpop_inline.specs.declared.inline.graph.depth_first.Walk.{Walk}
use Rattle.lalrpop_inline.specs.inlining.InlineOrder.{IsMarked}
use Rattle.lalrpop_inline.specs.inlining.InlineWalks.{mentioned_in, names_on}

-- a walk that is in the nonterminals of a path, and has left others, enters a nonterminal that is
-- marked and none of these
pub record IsEntered (g : Grammar) (path left : List NonterminalString) (a : NonterminalString) : Type 0 where
  pub marked : IsMarked g a
  pub outside : Contains path a → ⊥
  pub new : Contains left a → ⊥

-- such a walk passes over a nonterminal that it is not in, and that it has left or that is not
-- marked
pub record IsPassed (g : Grammar) (path left : List NonterminalString) (a : NonterminalString) : Type 0 where
  pub outside : Contains path a → ⊥
  pub done : IsMarked g a → Contains left a

-- the nonterminals that one mentions, from the last mention to the first
abbrev pub mentions_back : Grammar → NonterminalString → List NonterminalString
mentions_back g a = reverse (mentioned_in (productions_of g a))

-- a walk goes through nonterminals, and leaves each one that it enters after those that this one
-- mentions. The lists are the path, the nonterminals, those left before, and those left at the end
pub data Leaves (g : Grammar) : List NonterminalString → List NonterminalString → List NonterminalString → List NonterminalString → Type 0 where
  no_more : {path left : List NonterminalString} → Leaves g path [] left left
  past_over : {path rest left after : List NonterminalString} {a : NonterminalString} → IsPassed g path left a → Leaves g path rest left after → Leaves g path (a ∷ rest) left after
  through : {path rest left within after : List NonterminalString} {a : NonterminalString} → IsEntered g path left a → Leaves g (a ∷ path) (mentions_back g a) left within → Leaves g path rest (within ++ a ∷ []) after → Leaves g path (a ∷ rest) left after

-- a walk that goes through nonterminals comes back to one that it is in. The arguments are the
-- path, the nonterminals, those left before, and the one to which it comes back
pub data ComesBack (g : Grammar) : List NonterminalString → List NonterminalString → List NonterminalString → NonterminalString → Type 0 where
  here : {path rest left : List NonterminalString} {a : NonterminalString} → Contains path a → ComesBack g path (a ∷ rest) left a
  passing : {path rest left : List NonterminalString} {a b : NonterminalString} → IsPassed g path left a → ComesBack g path rest left b → ComesBack g path (a ∷ rest) left b
  inside : {path rest left : List NonterminalString} {a b : NonterminalString} → IsEntered g path left a → ComesBack g (a ∷ path) (mentions_back g a) left b → ComesBack g path (a ∷ rest) left b
  later : {path rest left within : List NonterminalString} {a b : NonterminalString} → IsEntered g path left a → Leaves g (a ∷ path) (mentions_back g a) left within → ComesBack g path rest (within ++ a ∷ []) b → ComesBack g path (a ∷ rest) left b

-- the names are those of the marked entries, in the order of the entries
abbrev pub AreMarkedAmong : List (NonterminalString × NonterminalData) → List NonterminalString → Type 0
AreMarkedAmong [] names = names ≡ []
AreMarkedAmong (e ∷ es) names =
    (Contains e.1.attributes.items inline_mark × (more : List NonterminalString) × (names ≡ e.0 ∷ more) × AreMarkedAmong es more) ⊎ ((Contains e.1.attributes.items inline_mark → ⊥) × AreMarkedAmong es names)

-- the walk through the marked nonterminals, in the order of their names, comes back to the
-- nonterminal
abbrev pub IsComeBackTo : Grammar → NonterminalString → Type 0
IsComeBackTo g a = (names : List NonterminalString) × AreMarkedAmong g.nonterminals.entries names × ComesBack g [] names [] a

-- the name in the error has the property, if the error has a name
abbrev pub NamesBy : (NonterminalString → Type 0) → NormError → Type 0
NamesBy P (Cycle span name) = P name
NamesBy P TooManyActions = Unit {0}
NamesBy P Memory = Unit {0}

-- ---- the frames of a walk
-- the walk is in exactly the nonterminals of the path
abbrev pub IsInside : Walk → List NonterminalString → Type 0
IsInside w path = (a : NonterminalString) → (contains name_cmp w.visiting a ≡ true) ↔ Contains path a

-- the name is that of the nonterminal, and the walk is in it
abbrev pub IsMetName : Walk → NonterminalString → NonterminalString → Type 0
IsMetName w a name = (name ≡ a) × (contains name_cmp w.visiting a ≡ true)

-- the list with the next nonterminal at its front, if there is one
abbrev pub with_next : Option NonterminalString → List NonterminalString → List NonterminalString
with_next None rest = rest
with_next (Some a) rest = a ∷ rest

-- a walk through the list `to` can be lengthened to one through the list `from`: it comes back to
-- the same nonterminals, and leaves the same ones
pub record GoesPast (g : Grammar) (path left from to : List NonterminalString) : Type 0 where
  pub back : (b : NonterminalString) → ComesBack g path to left b → ComesBack g path from left b
  pub leaves : (after : List NonterminalString) → Leaves g path to left after → Leaves g path from left after

-- a walk comes back to a nonterminal from its frames, the newest first, or from the rest
abbrev pub ComesBackFrom : Grammar → List NonterminalString → List Frame → List NonterminalString → NonterminalString → Type 0
ComesBackFrom g rest [] left b = ComesBack g [] rest left b
ComesBackFrom g rest (f ∷ older) left b =
    ComesBack g (f.name ∷ names_on older) (reverse f.others.items) left b ⊎ ((after : List NonterminalString) × Leaves g (f.name ∷ names_on older) (reverse f.others.items) left after × ComesBackFrom g rest older (after ++ f.name ∷ []) b)

-- a walk from the first frames comes back to each nonterminal to which one from the second ones
-- does
abbrev pub ComesBackToAllOf : Grammar → List Frame → List NonterminalString → List Frame → List NonterminalString → Type 0
ComesBackToAllOf g fs left gs after = (rest : List NonterminalString) (b : NonterminalString) → ComesBackFrom g rest gs after b → ComesBackFrom g rest fs left b

-- there is one new frame, which is of the nonterminal and has all that this one mentions
abbrev pub IsNewest : Grammar → NonterminalString → List Frame → List Frame → Type 0
IsNewest g a old new = (f : Frame) × (new ≡ f ∷ old) × (f.name ≡ a) × (f.others.items ≡ mentioned_in (productions_of g a))
