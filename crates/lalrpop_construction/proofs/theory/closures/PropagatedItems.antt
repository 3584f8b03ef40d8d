-- The tokens that an item by number gives to the nonterminal after its dot.
use Rattle.std.proofs.Common.{◌≡◌, ◌≢◌, ◌↔◌, ◌⊎◌, inl, inr, Bool, ℕ, zero, suc, ◌+◌, ◌<◌, List, [], ◌∷◌, length, drop, refl, sym, ◌∙◌, ap, subst, arith, Some, None, true, false, map, option_map, Vec, Global}
use Rattle.std.specs.Prelude.{Contains, slice_get, get_or}
use Rattle.std.proofs.lemmas.Option.{slice_get-map, slice_get_within}
use Rattle.lalrpop_base.specs.Words.{Bits, Dotted, has, HasKnownTerminals, IsWellFormed, Rules, holds_token, rules_of, AreExpansions, AreNumbered, AreNumbers}
use Rattle.lalrpop_base.specs.Words.{dotted_at, item_by, items_by, IsSuffix}
use Rattle.lalrpop_construction.specs.Words.{IsExpansionWith, IsNamed, IsPropagated, NonterminalTokens, Propagates, expansions_in}
use Rattle.lalrpop_construction.proofs.Types.{Grammar, Nil, NonterminalString, Symbol, Token}
use Rattle.lalrpop_grammar.specs.declared.repr.Symbol.TheVariants.{Nonterminal}
use Rattle.lalrpop_construction.specs.closures.EpsilonMoves.{HasNoProduction, IsGiven, IsGivenAt}
use Rattle.lalrpop_construction.specs.closures.EpsilonMoves.IsGivenAt.{given as gave, barren}
use Rattle.lalrpop_numbers.specs.declared.numbers.suffixes.Suffix.{Suffix}
use Rattle.lalrpop_collections.specs.lists.Entries.{IsPut, IsQueued}
use Rattle.lalrpop_collections.specs.lists.Entries.IsPut.{came, waited}
use Rattle.lalrpop_collections.proofs.theory.lists.Lists.{contains_of_map, drop_past}
use Rattle.lalrpop_grammar.proofs.theory.grammars.SymbolLists.{same_nonterminal}
use Rattle.lalrpop_numbers.specs.declared.numbers.numbered.Numbered.{Numbered}
use Rattle.lalrpop_numbers.specs.declared.numbers.Numbers.{Numbers}
use Rattle.lalrpop_states.proofs.theory.closures.Closing.{drop_split, rest_from, split_drop}
use Rattle.lalrpop_grammar.proofs.theory.grammars.Grammars.{known_rest, known_symbols}
use Rattle.lalrpop_collections.proofs.theory.lists.Members.{contains-cons, contains_map, Contains-none, place}
use Rattle.lalrpop_construction.proofs.theory.numbers.Numbers.{at_number, behind_is, stands_at}
use Rattle.lalrpop_collections.proofs.theory.lists.Places.{contains_at, filled, same_some, slice_get_at}
use Rattle.lalrpop_construction.proofs.theory.closures.Propagation.{Propagates-nothing, Propagates-one}

-- the element that is read at a number is the dotted production with that number
pub read_item : (items : List (Dotted Nil)) (k : ℕ) (i : Dotted Nil) → k < length items → i ≡ get_or items k i → i ≡ dotted_at items k
read_item items k i l e = sym (at_number items k i (slice_get_at items k i l e))

-- the terminals after the symbol after a dot are known
pub rest_known : (grammar : Grammar) (rules : Rules) (n : Numbers) → AreNumbers rules n → rules_of grammar ≡ rules → IsWellFormed grammar → (k : ℕ) → k < length n.items.items → (rest : List Symbol) →
    rest ≡ drop ((dotted_at n.items.items k).index + 1) (dotted_at n.items.items k).production.symbols → HasKnownTerminals rules.terminals rest
rest_known grammar rules n numbers same well k l rest is =
    let d = dotted_at n.items.items k in
    let among = (numbers.items.each d (contains_at n.items.items d k (stands_at n.items.items k l))).0 in
    subst (λ (r : Rules). HasKnownTerminals r.terminals rest) same
    (known_rest grammar.terminals (d.index + 1) d.production.symbols rest (known_symbols grammar d.production well (subst (λ (r : Rules). Contains r.productions d.production) (sym same) among)) is)

module _ (begins : Rules → List Symbol → Token → Type 0) (passes : Rules → List Symbol → Type 0) (g : Rules) (n : Numbers) (numbers : AreNumbers g n) (number : ℕ) (tokens : Bits) where
  abbrev item : Dotted Bits
  item = item_by n.items.items (record { number = number; lookahead = tokens })

  gives_nothing : ((name : NonterminalString) → slice_get item.production.symbols item.index ≡ Some (Nonterminal name) → HasNoProduction g name) → (table : NonterminalTokens) (queue : List ℕ) → Propagates begins passes g n (item ∷ []) table table queue queue
  gives_nothing none table queue = Propagates-nothing begins passes g n (item ∷ []) table queue (λ i c. elim (contains-cons item [] i c) [
    | inl same ↦ subst (IsPropagated begins passes g n table) same (λ q after behind among. absurd (none q.nonterminal (split_drop item.index item.production.symbols (Nonterminal q.nonterminal) after behind) q among refl))
    | inr out ↦ absurd (Contains-none i out)
  ])

  -- a finished item gives nothing
  pub Finished-shares : item.index ≡ length item.production.symbols → (table : NonterminalTokens) (queue : List ℕ) → Propagates begins passes g n (item ∷ []) table table queue queue
  Finished-shares end = gives_nothing (λ name at. let l = slice_get_within item.production.symbols item.index (Nonterminal name) at in absurd (omega arith))

  -- an item with a terminal after its dot gives nothing
  pub Terminal-shares : (x : Symbol) → slice_get item.production.symbols item.index ≡ Some x → ((name : NonterminalString) → x ≢ Nonterminal name) → (table : NonterminalTokens) (queue : List ℕ) → Propagates begins passes g n (item ∷ []) table table queue queue
  Terminal-shares x at other = gives_nothing (λ name behind. absurd (other name (same_some x (Nonterminal name) (sym at ∙ behind))))

  -- an item without a rest gives nothing, since no nonterminal is after its dot
  pub Restless-shares : number < length n.items.items → slice_get n.suffixes.items number ≡ Some None → (table : NonterminalTokens) (queue : List ℕ) → Propagates begins passes g n (item ∷ []) table table queue queue
  Restless-shares known at = gives_nothing (λ name behind.
      absurd (((numbers.suffixes).each number (dotted_at n.items.items number) None (stands_at n.items.items number known) at) name (drop (suc item.index) item.production.symbols) (drop_split item.index item.production.symbols (Nonterminal name) behind)))

  -- the rest with the number of an item is that of the symbols after the nonterminal
  pub rest_is : number < length n.items.items → (rest : Suffix) → slice_get n.suffixes.items number ≡ Some (Some rest) → (remainder : List Symbol) → remainder ≡ drop (item.index + 1) item.production.symbols → IsSuffix g remainder rest
  rest_is known rest at remainder is =
      let r = (numbers.suffixes).each number (dotted_at n.items.items number) (Some rest) (stands_at n.items.items number known) at in
      subst (λ (xs : List Symbol). IsSuffix g xs rest) (sym (rest_from item.index item.production.symbols remainder is ∙ drop_past item.index item.production.symbols r.2)) r.3

  -- an item gives nothing to a nonterminal without productions
  pub Barren-shares : (name : NonterminalString) → slice_get item.production.symbols item.index ≡ Some (Nonterminal name) → HasNoProduction g name → (table : NonterminalTokens) (queue : List ℕ) → Propagates begins passes g n (item ∷ []) table table queue queue
  Barren-shares name at none = gives_nothing (λ other behind q among named. none q among (named ∙ same_nonterminal (same_some (Nonterminal other) (Nonterminal name) (sym behind ∙ at))))

  -- the tokens that may follow the nonterminal after the dot are added to those of the nonterminal
  Given-shares : (x : ℕ) (name : NonterminalString) (rest : List Symbol) → number < length n.items.items → slice_get n.behind.items number ≡ Some (Some x) → slice_get item.production.symbols item.index ≡ Some (Nonterminal name) → rest ≡ drop (item.index + 1) item.production.symbols →
      {L : Type 0} (meaning : L → Bits) (lookahead given : L) → meaning lookahead ≡ tokens → IsGiven meaning begins passes g rest lookahead given →
      (old new : NonterminalTokens) (queue pushed : List ℕ) → IsQueued x (meaning given) old new queue pushed → Propagates begins passes g n (item ∷ []) old new queue pushed
  Given-shares x name rest known at next is meaning lookahead given of gives old new queue pushed queued =
      let named : IsNamed n x name = (behind_is g n numbers (record { number = number; lookahead = tokens }) x (Nonterminal name) at).0 next in
      let after : rest ≡ drop (suc item.index) item.production.symbols = rest_from item.index item.production.symbols rest is in
      let behind : drop item.index item.production.symbols ≡ Nonterminal name ∷ rest = drop_split item.index item.production.symbols (Nonterminal name) next ∙ ap (λ (xs : List Symbol). Nonterminal name ∷ xs) (sym after) in
      Propagates-one begins passes g n item x name rest named behind (meaning given)
      (λ t. subst (λ (b : Bits). (holds_token g.terminals (meaning given) t ≡ true) ↔ (begins g rest t ⊎ (passes g rest × (holds_token g.terminals b t ≡ true)))) of (gives.holds t))
      (λ fit. gives.fits (λ bit h. fit bit (subst (λ (b : Bits). has b bit ≡ true) of h)))
      old new queue pushed queued

  put_nowhere : (x : ℕ) (queue pushed : List ℕ) → IsPut x false queue pushed → pushed ≡ queue
  put_nowhere x queue pushed (came e) = e
  put_nowhere x queue pushed (waited there e) = e

  -- an item shares the tokens that it gives, whether the nonterminal has productions or not
  pub Gave-shares : (x : ℕ) (name : NonterminalString) (rest : List Symbol) → number < length n.items.items → slice_get n.behind.items number ≡ Some (Some x) → slice_get item.production.symbols item.index ≡ Some (Nonterminal name) → rest ≡ drop (item.index + 1) item.production.symbols →
      {L : Type 0} (meaning : L → Bits) (lookahead : L) → meaning lookahead ≡ tokens → (told : Bool) (old new : NonterminalTokens) (queue pushed : List ℕ) →
      IsGivenAt meaning begins passes g name rest lookahead x told old new → IsPut x told queue pushed → Propagates begins passes g n (item ∷ []) old new queue pushed
  Gave-shares x name rest known at next is meaning lookahead of told old new queue pushed (gave tokens gives joined differ) put =
      Given-shares x name rest known at next is meaning lookahead tokens of gives old new queue pushed (record { told = told; joined = joined; put = put; differ = differ })
  Gave-shares x name rest known at next is meaning lookahead of told old new queue pushed (barren none same not) put =
      let stays : pushed ≡ queue = put_nowhere x queue pushed (rw not at put) in
      let shares = Barren-shares name next none old queue in
      subst (λ (t : NonterminalTokens). Propagates begins passes g n (item ∷ []) old t queue pushed) (sym same) (subst (λ (p : List ℕ). Propagates begins passes g n (item ∷ []) old old queue p) (sym stays) shares)

-- the element that is read at an index within a list does not depend on the default
pub read_within : (xs : List ℕ) (i : ℕ) → i < length xs → get_or xs i 0 ≡ get_or xs i (get_or xs i 0)
read_within [] i l = absurd (omega arith)
read_within (x ∷ xs) zero l = refl
read_within (x ∷ xs) (suc i) l = read_within xs i (omega arith)

-- ---- the numbers of the productions of a nonterminal, with the dot at the start
module _ (g : Rules) (n : Numbers) (numbers : AreNumbers g n) where
  pub number_known : (x : ℕ) → x < length n.symbols.items → x < length n.expansions.items
  number_known x l = let e = n.expanded in omega arith

  module _ (x : ℕ) (tokens : Bits) (known : x < length n.symbols.items) (list : Vec ℕ Global) (read : list ≡ get_or n.expansions.items x list) where
    symbol : (s : Symbol) × (slice_get n.symbols.items x ≡ Some s)
    symbol = filled n.symbols.items x known

    expansions : AreExpansions n.items.items symbol.0 list.items
    expansions =
        let at = slice_get_at n.expansions.items x list (number_known x known) read in
        numbers.expansions x symbol.0 list.items symbol.1 (slice_get-map (λ (v : Vec ℕ Global). v.items) n.expansions.items x ∙ ap (option_map (λ (v : Vec ℕ Global). v.items)) at)

    abbrev front_of : ℕ → Numbered Bits
    front_of k = record { number = k; lookahead = tokens }

    pub front_known : AreNumbered n.items.items (expansions_in tokens list.items)
    front_known e c =
        let k = contains_of_map front_of list.items e c in
        let i = (expansions k.0).0 k.1 in
        subst (λ (f : Numbered Bits). f.number < length n.items.items) k.2 (slice_get_within n.items.items k.0 i.0 i.1)

    pub fronts_are : (i : Dotted Bits) → Contains (items_by n.items.items (expansions_in tokens list.items)) i ↔ IsExpansionWith g n x tokens i
    fronts_are i = (
      λ c.
          let e = contains_of_map (item_by n.items.items) (map front_of list.items) i c in
          let k = contains_of_map front_of list.items e.0 e.1 in
          let d = (expansions k.0).0 k.1 in
          let at : dotted_at n.items.items k.0 ≡ d.0 = at_number n.items.items k.0 d.0 d.1 in
          let front : IsExpansionWith g n x tokens (item_by n.items.items (front_of k.0)) = subst (λ (j : Dotted Nil). IsExpansionWith g n x tokens (record { production = j.production; index = j.index; lookahead = tokens })) (sym at) (record {
            start = d.2;
            among = (numbers.items.each d.0 (contains_at n.items.items d.0 k.0 d.1)).0;
            named = symbol.1 ∙ ap Some d.3;
            same = refl;
          }) in
          subst (IsExpansionWith g n x tokens) (ap (item_by n.items.items) k.2 ∙ e.2) front,
      λ f.
          let begun : Dotted Nil = record { production = i.production; index = 0; lookahead = record {} } in
          let p = place n.items.items begun (numbers.items.all i.production 0 f.among (omega arith)) in
          let same : symbol.0 ≡ Nonterminal i.production.nonterminal = same_some symbol.0 (Nonterminal i.production.nonterminal) (sym symbol.1 ∙ f.named) in
          let member = (expansions p.0).1 (begun, p.2, refl, same) in
          let at : dotted_at n.items.items p.0 ≡ begun = at_number n.items.items p.0 begun p.2 in
          let is : item_by n.items.items (front_of p.0) ≡ i =
          ap (λ (j : Dotted Nil). record { production = j.production; index = j.index; lookahead = tokens }) at ∙ ap (λ (k : ℕ). record { production = i.production; index = k; lookahead = tokens }) (sym f.start) ∙ ap (λ (b : Bits). record { production = i.production; index = i.index; lookahead = b }) (sym f.same) in
          subst (Contains (items_by n.items.items (expansions_in tokens list.items))) is (contains_map (item_by n.items.items) (map front_of list.items) (front_of p.0) (contains_map front_of list.items p.0 member)),
    )
