-- The tokens that an item gives to the nonterminal after its dot, with sets by number.
use Rattle.std.proofs.Common.{◌≡◌, ◌∙◌, ◌+◌, ◌<◌, ◌⊎◌, ◌/◌, ◌%◌, ℕ, suc, Bool, true, false, inl, inr, List, [], ◌∷◌, ◌++◌, length, drop, get_or, map, refl, sym, ap, subst, take, arith, Some}
use Rattle.std.specs.Prelude.{IsTrue, slice_get}
use Rattle.std.specs.Map.{keys_of}
use Rattle.std.proofs.lemmas.Bool.{false≢true}
use Rattle.std.proofs.lemmas.Option.{get_or_from_slice_get, slice_get_within}
use Rattle.std.proofs.lemmas.List.{map-append}
use Rattle.lalrpop_base.specs.Words.{items_by}
use Rattle.lalrpop_base.specs.Words.{AllDiffer, AreNumbers, Begins, Bits, Dotted, IsJoinedAt, IsSuffix, IsWellFormed, Rules, dotted_at, item_by, join, readings, rules_of}
use Rattle.lalrpop_collections.specs.lists.Entries.{IsPut}
use Rattle.lalrpop_collections.proofs.theory.collections.JoinedEntries.{readings_differ}
use Rattle.lalrpop_collections.proofs.theory.lists.Growth.{mapped_more}
use Rattle.lalrpop_collections.proofs.theory.lists.Lists.{drop_past}
use Rattle.lalrpop_construction.proofs.theory.closures.PropagatedItems.{Gave-shares, rest_known}
use Rattle.lalrpop_construction.proofs.theory.numbers.Numbers.{stands_at}
use Rattle.lalrpop_construction.proofs.theory.numbers.SuffixesGiven.{rest_gives}
use Rattle.lalrpop_construction.specs.Words.{Propagates, expansions_in}
use Rattle.lalrpop_construction.specs.closures.EpsilonMoves.{IsGiven}
use Rattle.lalrpop_construction.specs.closures.EpsilonMoves.IsGivenAt.{given}
use Rattle.lalrpop_grammar.proofs.theory.grammars.Grammars.{known_by_rules}
use Rattle.lalrpop_grammar.specs.declared.repr.NonterminalString.{NonterminalString}
use Rattle.lalrpop_grammar.specs.declared.repr.Symbol.{Symbol}
use Rattle.lalrpop_grammar.specs.declared.repr.Symbol.TheVariants.{Nonterminal}
use Rattle.lalrpop_grammar.specs.declared.repr.grammar.Grammar.{Grammar}
use Rattle.lalrpop_numbers.specs.declared.numbers.Numbers.{Numbers}
use Rattle.lalrpop_numbers.specs.declared.numbers.numbered.Numbered.{Numbered}
use Rattle.lalrpop_numbers.specs.declared.numbers.suffixes.Suffix.{Suffix}
use Rattle.lalrpop_states.proofs.theory.closures.Closing.{split_drop}
use Rattle.lalrpop_states.specs.closures.Closure.{itself}
use Rattle.lalrpop_states.specs.declared.lookahead.nil.Nil.{Nil}
use Rattle.canonical_by_number.specs.TokenSets.{set_at}
use Rattle.canonical_by_number.specs.Closures.{AreFirsts, LetsPass, PropagatesNumbers, given_set, kernel_in, unpacked}
use Rattle.canonical_by_number.proofs.Closures.{Numbers-then}
use Rattle.canonical_by_number.proofs.TokenSets.{kept_at, set_is}

-- what is given is FIRST of the suffix and, if the suffix is nullable, the tokens
given_cases : (nullable : Bool) (first tokens : Bits) → (IsTrue nullable × (given_set nullable first tokens ≡ join first tokens)) ⊎ ((IsTrue nullable → ⊥) × (given_set nullable first tokens ≡ first))
given_cases true first tokens = inl (refl, refl)
given_cases false first tokens = inr (λ is. false≢true is, refl)

module _ (g : Rules) (n : Numbers) (numbers : AreNumbers g n) (sets : List Bits) (firsts : List ℕ) (are : AreFirsts n sets firsts) (number : ℕ) (known : number < length n.items.items) (suffix : Suffix) (at : slice_get n.suffixes.items number ≡ Some (Some suffix)) (first : ℕ) (read : first ≡ get_or firsts number 0) where
  first_is : slice_get sets first ≡ Some suffix.first
  first_is =
      let a = are.each number suffix at in
      let same : a.number ≡ first = sym (get_or_from_slice_get firsts number a.number 0 a.there) ∙ sym read in
      subst (λ (k : ℕ). slice_get sets k ≡ Some suffix.first) same a.is

  -- the number that is listed for a dotted production is that of a set
  pub first_within : first < length sets
  first_within = slice_get_within sets first suffix.first first_is

  abbrev place : Dotted Nil
  place = dotted_at n.items.items number

  suffix_of : (a : NonterminalString) × (after : List Symbol) × (drop place.index place.production.symbols ≡ Nonterminal a ∷ after) × IsSuffix g after suffix
  suffix_of = numbers.suffixes.each number place (Some suffix) (stands_at n.items.items number known) at

  abbrev name : NonterminalString
  name = suffix_of.0

  abbrev after : List Symbol
  after = suffix_of.1

  next_is : slice_get place.production.symbols place.index ≡ Some (Nonterminal name)
  next_is = split_drop place.index place.production.symbols (Nonterminal name) after suffix_of.2

  after_is : after ≡ drop (place.index + 1) place.production.symbols
  after_is = let e : suc place.index ≡ place.index + 1 = omega arith in sym (drop_past place.index place.production.symbols suffix_of.2) ∙ ap (λ (k : ℕ). drop k place.production.symbols) e

  module _ (grammar : Grammar) (same : rules_of grammar ≡ g) (well : IsWellFormed grammar) (tokens : ℕ) where
    abbrev gift : Bits
    gift = given_set suffix.nullable (set_at sets first) (set_at sets tokens)

    gives : IsGiven itself Begins LetsPass g after (set_at sets tokens) gift
    gives =
        let e : set_at sets first ≡ suffix.first = set_is sets first suffix.first first_is in
        subst (λ (s : Bits). IsGiven itself Begins LetsPass g after (set_at sets tokens) (given_set suffix.nullable s (set_at sets tokens))) (sym e)
        (rest_gives g after suffix suffix_of.3 (known_by_rules grammar g same well) (rest_known grammar g n numbers same well number known after after_is) (set_at sets tokens) (given_set suffix.nullable suffix.first (set_at sets tokens)) (given_cases suffix.nullable suffix.first (set_at sets tokens)))

    pub Given-numbers : (x : ℕ) → slice_get n.behind.items number ≡ Some (Some x) → (new_sets : List Bits) (told : Bool) (old new : List (ℕ × ℕ)) (queue pushed : List ℕ) → IsJoinedAt x gift told (readings (set_at sets) old) (readings (set_at new_sets) new) → AllDiffer (keys_of new) → IsPut x told queue pushed →
        Propagates Begins LetsPass g n (item_by n.items.items (record { number = number; lookahead = set_at sets tokens }) ∷ []) (readings (set_at sets) old) (readings (set_at new_sets) new) queue pushed
    Given-numbers x behind new_sets told old new queue pushed joined differ put =
        Gave-shares Begins LetsPass g n numbers number (set_at sets tokens) x name after known behind next_is after_is itself (set_at sets tokens) refl told (readings (set_at sets) old) (readings (set_at new_sets) new) queue pushed
        (given gift gives joined (readings_differ (set_at new_sets) new differ)) put

-- ---- the items of a kernel, one after the other
module _ (g : Rules) (n : Numbers) (begun now next : List Bits) (a b c : List (ℕ × ℕ)) (p q r : List ℕ) where
  abbrev Given : List (Dotted Bits) → List Bits → List Bits → List (ℕ × ℕ) → List (ℕ × ℕ) → List ℕ → List ℕ → Type 0
  Given = PropagatesNumbers g n

  pub Kernel-more : (kernel : List ℕ) (i x : ℕ) → i < length kernel → x ≡ get_or kernel i x → x % 4294967296 < length begun → Given (items_by n.items.items (kernel_in begun (take i kernel))) begun now a b p q →
      Given (item_by n.items.items (record { number = x / 4294967296; lookahead = set_at now (x % 4294967296) }) ∷ []) now next b c q r → Given (items_by n.items.items (kernel_in begun (take (i + 1) kernel))) begun next a c p r
  Kernel-more kernel i x l at within before here =
      let front = kernel_in begun (take i kernel) in
      let one : Dotted Bits = item_by n.items.items (unpacked begun x) in
      let more : items_by n.items.items (kernel_in begun (take (i + 1) kernel)) ≡ items_by n.items.items front ++ one ∷ [] = ap (items_by n.items.items) (mapped_more (unpacked begun) kernel i x l at) ∙ map-append (item_by n.items.items) front (unpacked begun x ∷ []) in
      let same : Given (one ∷ []) now next b c q r = subst (λ (s : Bits). Given (item_by n.items.items (record { number = x / 4294967296; lookahead = s }) ∷ []) now next b c q r) (kept_at begun now before.kept (x % 4294967296) within) here in
      subst (λ (is : List (Dotted Bits)). Given is begun next a c p r) (sym more) (Numbers-then g n (items_by n.items.items front) (one ∷ []) begun now next a b c p q r before same)

  pub Expansions-more : (tokens : ℕ) (expansions : List ℕ) (i x : ℕ) → i < length expansions → x ≡ get_or expansions i x → tokens < length begun → Given (items_by n.items.items (expansions_in (set_at begun tokens) (take i expansions))) begun now a b p q →
      Given (item_by n.items.items (record { number = x; lookahead = set_at now tokens }) ∷ []) now next b c q r → Given (items_by n.items.items (expansions_in (set_at begun tokens) (take (i + 1) expansions))) begun next a c p r
  Expansions-more tokens expansions i x l at within before here =
      let with_set : ℕ → Numbered Bits = λ k. record { number = k; lookahead = set_at begun tokens } in
      let front : List (Numbered Bits) = map with_set (take i expansions) in
      let one : Dotted Bits = item_by n.items.items (with_set x) in
      let more : items_by n.items.items (map with_set (take (i + 1) expansions)) ≡ items_by n.items.items front ++ one ∷ [] = ap (items_by n.items.items) (mapped_more with_set expansions i x l at) ∙ map-append (item_by n.items.items) front (with_set x ∷ []) in
      let same : Given (one ∷ []) now next b c q r = subst (λ (s : Bits). Given (item_by n.items.items (record { number = x; lookahead = s }) ∷ []) now next b c q r) (kept_at begun now before.kept tokens within) here in
      subst (λ (is : List (Dotted Bits)). Given is begun next a c p r) (sym more) (Numbers-then g n (items_by n.items.items front) (one ∷ []) begun now next a b c p q r before same)
