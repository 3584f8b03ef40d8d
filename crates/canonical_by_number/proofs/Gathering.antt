-- The items of a closure are gathered in a table, with sets by number.
use Rattle.std.proofs.Common.{◌≡◌, ◌∙◌, ◌+◌, ◌<◌, ◌/◌, ◌%◌, ℕ, Bool, List, [], ◌∷◌, ◌++◌, length, get_or, map, sym, ap, subst, take, append-nil}
use Rattle.std.specs.Map.{keys_of}
use Rattle.std.proofs.lemmas.Grind.{flat_map-append}
use Rattle.std.proofs.lemmas.List.{map-append}
use Rattle.lalrpop_base.specs.Words.{AllDiffer, Bits, IsJoinedAt, readings}
use Rattle.lalrpop_collections.proofs.theory.lists.Growth.{mapped_more}
use Rattle.lalrpop_construction.specs.Words.{parts_in, unfolded, vec_items_at, with_tokens}
use Rattle.lalrpop_numbers.specs.declared.numbers.Numbers.{Numbers}
use Rattle.lalrpop_numbers.specs.declared.numbers.numbered.Numbered.{Numbered}
use Rattle.lalrpop_states.specs.closures.Closure.{itself}
use Rattle.canonical_by_number.specs.TokenSets.{AreSetsIn, KeepsNumbers, set_at}
use Rattle.canonical_by_number.specs.Closures.{GathersNumbers, kernel_in, unpacked}
use Rattle.canonical_by_number.proofs.TokenSets.{kept_at}
use Rattle.canonical_by_number.proofs.Closures.{Gathers-one, Gathers-then}

module _ (begun now next : List Bits) (a b c : List (ℕ × ℕ)) where
  -- an entry more, whose set had its number when the table was begun
  pub Entry-more : (list : List (ℕ × Bits)) (k tokens : ℕ) → tokens < length begun → GathersNumbers list begun now a b → (told : Bool) → KeepsNumbers now next → AreSetsIn next c →
      IsJoinedAt k (set_at now tokens) told (readings (set_at now) b) (readings (set_at next) c) → AllDiffer (keys_of c) → GathersNumbers (list ++ (k, set_at begun tokens) ∷ []) begun next a c
  Entry-more list k tokens within before told kept known joined differ =
      let one = Gathers-one k (set_at now tokens) told now next b c kept known joined differ in
      let same : GathersNumbers ((k, set_at begun tokens) ∷ []) now next b c = subst (λ (s : Bits). GathersNumbers ((k, s) ∷ []) now next b c) (kept_at begun now before.kept tokens within) one in
      Gathers-then list ((k, set_at begun tokens) ∷ []) begun now next a b c before same

  -- an item of a kernel more
  pub Kernel_gathered-more : (kernel : List ℕ) (i x : ℕ) → i < length kernel → x ≡ get_or kernel i x → x % 4294967296 < length begun → GathersNumbers (parts_in itself (kernel_in begun (take i kernel))) begun now a b → (told : Bool) → KeepsNumbers now next → AreSetsIn next c →
      IsJoinedAt (x / 4294967296) (set_at now (x % 4294967296)) told (readings (set_at now) b) (readings (set_at next) c) → AllDiffer (keys_of c) → GathersNumbers (parts_in itself (kernel_in begun (take (i + 1) kernel))) begun next a c
  Kernel_gathered-more kernel i x l at within before told kept known joined differ =
      let front : List (Numbered Bits) = kernel_in begun (take i kernel) in
      let part : Numbered Bits → ℕ × Bits = λ e. (e.number, itself e.lookahead) in
      let more : parts_in itself (kernel_in begun (take (i + 1) kernel)) ≡ parts_in itself front ++ part (unpacked begun x) ∷ [] = ap (map part) (mapped_more (unpacked begun) kernel i x l at) ∙ map-append part front (unpacked begun x ∷ []) in
      subst (λ (ps : List (ℕ × Bits)). GathersNumbers ps begun next a c) (sym more) (Entry-more (parts_in itself front) (x / 4294967296) (x % 4294967296) within before told kept known joined differ)

  -- a production more
  pub Expansions_gathered-more : (tokens : ℕ) (expansions : List ℕ) (i x : ℕ) → i < length expansions → x ≡ get_or expansions i x → tokens < length begun → GathersNumbers (with_tokens (set_at begun tokens) (take i expansions)) begun now a b → (told : Bool) → KeepsNumbers now next → AreSetsIn next c →
      IsJoinedAt x (set_at now tokens) told (readings (set_at now) b) (readings (set_at next) c) → AllDiffer (keys_of c) → GathersNumbers (with_tokens (set_at begun tokens) (take (i + 1) expansions)) begun next a c
  Expansions_gathered-more tokens expansions i x l at within before told kept known joined differ =
      let part : ℕ → ℕ × Bits = λ k. (k, set_at begun tokens) in
      let more : with_tokens (set_at begun tokens) (take (i + 1) expansions) ≡ with_tokens (set_at begun tokens) (take i expansions) ++ part x ∷ [] = mapped_more part expansions i x l at in
      subst (λ (ps : List (ℕ × Bits)). GathersNumbers ps begun next a c) (sym more) (Entry-more (with_tokens (set_at begun tokens) (take i expansions)) x tokens within before told kept known joined differ)

  -- the productions of a nonterminal more
  pub Nonterminals-more : (n : Numbers) (shared : List (ℕ × ℕ)) (i : ℕ) (e : ℕ × ℕ) → i < length shared → e ≡ get_or shared i e → e.1 < length begun → (list : List ℕ) → vec_items_at n.expansions.items e.0 ≡ list → GathersNumbers (unfolded n (readings (set_at begun) (take i shared))) begun now a b →
      GathersNumbers (with_tokens (set_at now e.1) list) now next b c → GathersNumbers (unfolded n (readings (set_at begun) (take (i + 1) shared))) begun next a c
  Nonterminals-more n shared i e l at within list is before here =
      let read : ℕ × ℕ → ℕ × Bits = λ e. (e.0, set_at begun e.1) in
      let expansions : ℕ × Bits → List (ℕ × Bits) = λ f. with_tokens f.1 (vec_items_at n.expansions.items f.0) in
      let front : List (ℕ × Bits) = readings (set_at begun) (take i shared) in
      let more : unfolded n (readings (set_at begun) (take (i + 1) shared)) ≡ unfolded n front ++ with_tokens (set_at begun e.1) list =
      ap (unfolded n) (mapped_more read shared i e l at) ∙ flat_map-append expansions front (read e ∷ []) ∙ ap (λ (fs : List (ℕ × Bits)). unfolded n front ++ fs) (append-nil (expansions (read e)) ∙ ap (with_tokens (set_at begun e.1)) is) in
      let same : GathersNumbers (with_tokens (set_at begun e.1) list) now next b c = subst (λ (s : Bits). GathersNumbers (with_tokens s list) now next b c) (kept_at begun now before.kept e.1 within) here in
      subst (λ (ps : List (ℕ × Bits)). GathersNumbers ps begun next a c) (sym more) (Gathers-then (unfolded n front) (with_tokens (set_at begun e.1) list) begun now next a b c before same)
