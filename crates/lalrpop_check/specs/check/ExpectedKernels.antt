-- The kernels that the check of tables by number expects of states (kernel items of Aho, Sethi and
-- Ullman, section 4.7).
use Rattle.std.specs.Prelude.{◌≡◌, ◌↔◌, ◌<◌, ℕ, List, length, slice_get, Some, Contains}
use Rattle.lalrpop_states.specs.closures.Closure.{AreItemsBy, InKernel}
use Rattle.lalrpop_grammar.specs.closures.Closures.{IsAtStart}
use Rattle.lalrpop_collections.specs.lists.Each.{Ordered}
use Rattle.lalrpop_grammar.specs.grammars.WellFormed.{Rules}
use Rattle.lalrpop_collections.specs.lists.Bits.{Bits, no_bits}
use Rattle.lalrpop_states.specs.states.Items.{Dotted}
use Rattle.lalrpop_states.specs.declared.lookahead.nil.Nil.{Nil}
use Rattle.lalrpop_grammar.specs.declared.repr.NonterminalString.{NonterminalString}
use Rattle.lalrpop_grammar.specs.declared.repr.Production.{Production}
use Rattle.lalrpop_construction.specs.construction.Results.{Construction}
use Rattle.lalrpop_numbers.specs.numbers.Numbers.{AreNumbered, items_by}
use Rattle.lalrpop_numbers.specs.declared.numbers.numbered.Numbered.{Numbered}
use Rattle.lalrpop_numbers.specs.declared.numbers.Numbers.{Numbers}

-- the number is that of a dotted production whose dot is not at the start
pub record IsMovedNumber (n : Numbers) (k : ℕ) : Type 0 where
  pub item : Dotted Nil
  pub at : slice_get n.items.items k ≡ Some item
  pub moved : 0 < item.index

-- the numbers of items rise
abbrev pub NumbersRise : List (Numbered Nil) → Type 0
NumbersRise kernel = Ordered (λ (d e : Numbered Nil). d.number < e.number) kernel

-- there are items, their dots are not at the start, and their numbers rise
pub record AreMovedKernel (n : Numbers) (kernel : List (Numbered Nil)) : Type 0 where
  pub some : 0 < length kernel
  pub each : (e : Numbered Nil) → Contains kernel e → IsMovedNumber n e.number
  pub rise : NumbersRise kernel

-- the list is a kernel of the state with the number: for state 0 the productions of the start
-- symbol, and for another state some dotted productions whose dots are not at the start
pub record IsKernelAt (g : Rules) (start : NonterminalString) (s : ℕ) (kernel : List (Dotted Nil)) : Type 0 where
  pub first : s ≡ 0 → (p : Production) (dot : ℕ) → InKernel kernel p dot ↔ IsAtStart g.productions start p dot
  pub some : 0 < s → 0 < length kernel
  pub moved : 0 < s → (i : Dotted Nil) → Contains kernel i → 0 < i.index

-- without lookahead no token is held
abbrev pub no_tokens : Nil → Bits
no_tokens lookahead = no_bits

-- the list is such a kernel by numbers
pub record IsKernelOf (c : Construction Nil) (n : Numbers) (s : ℕ) (kernel : List (Numbered Nil)) : Type 0 where
  pub known : AreNumbered n.items.items kernel
  pub items : AreItemsBy no_tokens c.rules (items_by n.items.items kernel)
  pub is : IsKernelAt c.rules c.start s (items_by n.items.items kernel)
