-- Entries by name: the alternatives of a view are the productions of the name.
use Rattle.std.proofs.Common.{◌≡◌, Bool, true, false, cond, List, [], ◌∷◌, map, Option, Some, refl}
use Rattle.std.specs.BTreeMap.{is_at}
use Rattle.std.specs.Map.{lookup}
use Rattle.lalrpop_base.specs.Words.{name_cmp, listed_productions, productions_of}
use Rattle.lalrpop_inline.proofs.Types.{Grammar, NonterminalData, NonterminalString}
use Rattle.lalrpop_inline.specs.Words.{Entry, named_entry, view_of, productions_of_entry, alternatives_in}

pick : (m : Bool) (e : NonterminalString × NonterminalData) (x : Option Entry) (y : Option NonterminalData) → productions_of_entry x ≡ listed_productions y → productions_of_entry (cond m (Some (named_entry e).1) x) ≡ listed_productions (cond m (Some e.1) y)
pick true e x y h = refl
pick false e x y h = h

listed_view : (t : NonterminalString → Bool) (es : List (NonterminalString × NonterminalData)) → productions_of_entry (lookup t (map named_entry es)) ≡ listed_productions (lookup t es)
listed_view t [] = refl
listed_view t (e ∷ es) = pick (t e.0) e (lookup t (map named_entry es)) (lookup t es) (listed_view t es)

pub alternatives_view : (g : Grammar) (a : NonterminalString) → alternatives_in (view_of g) a ≡ productions_of g a
alternatives_view g a = listed_view (is_at (name_cmp a)) g.nonterminals.entries
