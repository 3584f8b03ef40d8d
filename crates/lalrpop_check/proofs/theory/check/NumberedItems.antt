-- The symbol after the dot of an item, by its number.
use Rattle.std.proofs.Common.{◌≡◌, ◌∙◌, ℕ, List, length, refl, sym, ap, arith, Option, Some, None}
use Rattle.std.specs.Prelude.{slice_get}
use Rattle.std.proofs.lemmas.Option.{slice_get_within}
use Rattle.lalrpop_base.specs.Words.{Dotted, Rules, with_dot, AreNumbers, IsNumberBehind}
use Rattle.lalrpop_check.proofs.Types.{Nil, Production, Symbol}
use Rattle.lr1_theory.proofs.theory.grammars.Tables.{same_lr0}
use Rattle.lalrpop_collections.proofs.theory.lists.Places.{filled, same_some}
use Rattle.lalrpop_numbers.specs.declared.numbers.Numbers.{Numbers}

-- equal dotted productions have equal parts
pub one_production : (p q : Production) (d e : ℕ) → with_dot p d ≡ with_dot q e → p ≡ q
one_production p q d e same = ap (λ (i : Dotted Nil). i.production) same

pub one_dot : (p q : Production) (d e : ℕ) → with_dot p d ≡ with_dot q e → d ≡ e
one_dot p q d e same = ap (λ (i : Dotted Nil). i.index) same

-- a dotted production is given by its parts
pub by_parts : (i : Dotted Nil) → i ≡ with_dot i.production i.index
by_parts i = same_lr0 i (with_dot i.production i.index) refl refl

module _ (g : Rules) (n : Numbers) (numbers : AreNumbers g n) where
  abbrev known : List (Dotted Nil)
  known = n.items.items

  -- the entry of a number has the symbol after its dot
  pub record Behind (k : ℕ) (i : Dotted Nil) : Type 0 where
    pub number : Option ℕ
    pub at : slice_get n.behind.items k ≡ Some number
    pub is : IsNumberBehind n.symbols.items i number

  pub behind_of : (k : ℕ) (i : Dotted Nil) → slice_get known k ≡ Some i → Behind k i
  behind_of k i at =
      let l = slice_get_within known k i at in
      let c = n.counted in
      let f = filled n.behind.items k (omega arith) in
      record { number = f.0; at = f.1; is = numbers.behind k i f.0 at f.1 }

  -- a symbol after the dot has a number
  pub record BehindSome (k : ℕ) (s : Symbol) : Type 0 where
    pub number : ℕ
    pub at : slice_get n.behind.items k ≡ Some (Some number)
    pub symbol : slice_get n.symbols.items number ≡ Some s

  pub behind_some : (k : ℕ) (i : Dotted Nil) (s : Symbol) → slice_get known k ≡ Some i → slice_get i.production.symbols i.index ≡ Some s → BehindSome k s
  behind_some k i s at there = go (behind_of k i at).number (behind_of k i at).at (behind_of k i at).is
    where
      go : (o : Option ℕ) → slice_get n.behind.items k ≡ Some o → IsNumberBehind n.symbols.items i o → BehindSome k s
      go None at_o is = let l = slice_get_within i.production.symbols i.index s there in absurd (omega (arith, is, l))
      go (Some x) at_o is = record { number = x; at = at_o; symbol = is.1 ∙ ap Some (same_some is.0 s (sym is.2 ∙ there)) }

  -- a dot at the end has no symbol after it
  pub behind_none : (k : ℕ) (i : Dotted Nil) → slice_get known k ≡ Some i → i.index ≡ length i.production.symbols → slice_get n.behind.items k ≡ Some None
  behind_none k i at end = go (behind_of k i at).number (behind_of k i at).at (behind_of k i at).is
    where
      go : (o : Option ℕ) → slice_get n.behind.items k ≡ Some o → IsNumberBehind n.symbols.items i o → slice_get n.behind.items k ≡ Some None
      go None at_o is = at_o
      go (Some x) at_o is = let l = slice_get_within i.production.symbols i.index is.0 is.2 in absurd (omega (arith, end, l))
