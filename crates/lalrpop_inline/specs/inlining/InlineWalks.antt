-- A depth first walk from marked nonterminals to those that they mention: Cormen, Leiserson, Rivest
-- and Stein, "Introduction to Algorithms", section 22.3.
use Rattle.std.specs.Prelude.{◌≡◌, ◌↔◌, true, false, List, [], ◌∷◌, ◌++◌, map, Contains, Option, None, Some}
use Rattle.std.proofs.Common.{◌⊎◌}
use Rattle.std.specs.List.{flat_map}
use Rattle.std.specs.BTreeSet.{contains}
use Rattle.lalrpop_base.specs.Words.{AllDiffer, name_cmp}
use Rattle.lalrpop_grammar.specs.declared.repr.NonterminalString.{NonterminalString}
use Rattle.lalrpop_grammar.specs.declared.repr.Production.{Production}
use Rattle.lalrpop_grammar.specs.declared.repr.Symbol.{Symbol}
use Rattle.lalrpop_grammar.specs.declared.repr.Symbol.TheVariants.{Nonterminal, Terminal}
use Rattle.lalrpop_grammar.specs.declared.repr.grammar.Grammar.{Grammar}
use Rattle.lalrpop_inline.specs.declared.inline.graph.depth_first.Frame.{Frame}
use Rattle.lalrpop_inline.specs.declared.inline.graph.depth_first.Walk.{Walk}
use Rattle.lalrpop_inline.specs.inlining.InlineOrder.{IsMarked, Mentions, Leads}

-- the nonterminal that a symbol is, if it is one
abbrev pub nonterminal_names : Symbol → List NonterminalString
nonterminal_names (Nonterminal a) = a ∷ []
nonterminal_names (Terminal t) = []

-- the nonterminals that productions mention, once for each mention
abbrev pub mentioned_in : List Production → List NonterminalString
mentioned_in productions = flat_map (λ (p : Production). flat_map nonterminal_names p.symbols) productions

-- each marked nonterminal is pending, visited or left, and only one of these. Each one that was
-- left has the marked ones that it mentions before it
pub record IsWalk (g : Grammar) (w : Walk) : Type 0 where
  pub marked : (a : NonterminalString) → IsMarked g a ↔ ((contains name_cmp w.pending a ≡ true) ⊎ (contains name_cmp w.visiting a ≡ true) ⊎ Contains w.order.items a)
  pub pending : (a : NonterminalString) → contains name_cmp w.pending a ≡ true → (contains name_cmp w.visiting a ≡ false) × (Contains w.order.items a → ⊥)
  pub visiting : (a : NonterminalString) → contains name_cmp w.visiting a ≡ true → Contains w.order.items a → ⊥
  pub once : AllDiffer w.order.items
  pub behind : (before after : List NonterminalString) (a c : NonterminalString) → w.order.items ≡ before ++ a ∷ after → Mentions g a c → IsMarked g c → Contains before c

-- the frame is of a marked nonterminal. Each marked one that this mentions is still to be visited,
-- is the next, or was left. The nonterminal mentions those to be visited and the next one
pub record IsFrame (g : Grammar) (order : List NonterminalString) (next : Option NonterminalString) (f : Frame) : Type 0 where
  pub marked : IsMarked g f.name
  pub others : (c : NonterminalString) → Contains f.others.items c → Mentions g f.name c
  pub on : (c : NonterminalString) → next ≡ Some c → Mentions g f.name c
  pub left : (c : NonterminalString) → Mentions g f.name c → IsMarked g c → Contains f.others.items c ⊎ (next ≡ Some c) ⊎ Contains order c

-- the nonterminals of frames
abbrev pub names_on : List Frame → List NonterminalString
names_on fs = map (λ (f : Frame). f.name) fs

-- the frames, from the newest on, are of different nonterminals. The next of the newest is given.
-- The next of each other frame is the nonterminal of the frame before it in the list
abbrev pub AreFrames : Grammar → List NonterminalString → Option NonterminalString → List Frame → Type 0
AreFrames g order next [] = Unit {0}
AreFrames g order next (f ∷ older) = IsFrame g order next f × (Contains (names_on older) f.name → ⊥) × AreFrames g order (Some f.name) older

-- the walk is in the nonterminals of the frames and in no other
pub record HasFrames (g : Grammar) (w : Walk) (next : Option NonterminalString) (fs : List Frame) : Type 0 where
  pub frames : AreFrames g w.order.items next fs
  pub visiting : (a : NonterminalString) → (contains name_cmp w.visiting a ≡ true) ↔ Contains (names_on fs) a

-- the next of a frame is pending; if there is none, no nonterminal is still to be visited
pub record HasNext (g : Grammar) (w : Walk) (f : Frame) (next : Option NonterminalString) : Type 0 where
  pub frame : IsFrame g w.order.items next f
  pub pending : (c : NonterminalString) → next ≡ Some c → contains name_cmp w.pending c ≡ true
  pub none : next ≡ None → f.others.items ≡ []

-- the walk went on and has these frames now, of which the newest has no next yet; no nonterminal
-- became pending
pub record IsWalked (g : Grammar) (old new : Walk) (fs : List Frame) : Type 0 where
  pub walk : IsWalk g new
  pub frames : HasFrames g new None fs
  pub pending : (a : NonterminalString) → contains name_cmp new.pending a ≡ true → contains name_cmp old.pending a ≡ true

-- each nonterminal that the walk is in leads to the given one
abbrev pub LeadTo : Grammar → Walk → NonterminalString → Type 0
LeadTo g w name = (a : NonterminalString) → contains name_cmp w.visiting a ≡ true → Leads g a name
