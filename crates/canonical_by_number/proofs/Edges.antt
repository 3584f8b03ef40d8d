-- The transitions of states, by numbers of symbols and of kernels.
use Rattle.std.proofs.Common.{◌≡◌, ◌∙◌, ◌<◌, ℕ, List, [], ◌∷◌, ◌++◌, Option, Some, length, option_map, refl, sym, ap, subst, arith, append-nil}
use Rattle.std.specs.Prelude.{Contains, slice_get}
use Rattle.std.specs.List.{AllByRecursion}
use Rattle.std.specs.List.Sorted.{IsStrictlySortedBy}
use Rattle.std.specs.Map.{keys_of}
use Rattle.std.specs.declared.cmp.Ordering.TheVariants.{Less}
use Rattle.std.proofs.lemmas.Grind.{flat_map-append}
use Rattle.std.proofs.lemmas.Option.{slice_get-map}
use Rattle.lalrpop_base.specs.Words.{AreEdges, Bits, Dotted, Entries, Groups, IsEntryAdded, Kernels, NumbersAscend, SymbolsAscend, symbol_at, symbol_order}
use Rattle.lalrpop_collections.proofs.theory.lists.Lists.{some_of_map}
use Rattle.lalrpop_collections.proofs.theory.lists.Members.{contains_head, contains_tail}
use Rattle.lalrpop_collections.proofs.theory.lists.SortedPlaces.{Sorted-places}
use Rattle.lalrpop_construction.proofs.theory.construction.Moves.{AreSomeEdges}
use Rattle.lalrpop_construction.proofs.theory.construction.NumberedMoves.{symbol_stands}
use Rattle.lalrpop_grammar.proofs.theory.conflicts.ConflictLists.{ordered-head, ordered-tail}
use Rattle.lalrpop_grammar.proofs.theory.grammars.NameOrders.{terminal_order}
use Rattle.lalrpop_grammar.specs.declared.repr.NonterminalString.{NonterminalString}
use Rattle.lalrpop_grammar.specs.declared.repr.Symbol.{Symbol}
use Rattle.lalrpop_grammar.specs.declared.repr.Symbol.TheVariants.{Nonterminal, Terminal}
use Rattle.lalrpop_grammar.specs.declared.repr.TerminalString.{TerminalString}
use Rattle.lalrpop_states.specs.declared.lr1_core.state.StateIndex.{StateIndex}
use Rattle.canonical_by_number.specs.Edges.{AreOverSymbols, edges_in, entries_of, goto_at, goto_over, gotos_in, shift_at, shift_over, shifts_in}

abbrev Shifts : Type 0
Shifts = List (TerminalString × StateIndex)

-- ---- one more edge
added_by : (s : Symbol) (target : StateIndex) (old new : Entries) → new.shifts ≡ old.shifts ++ shift_over s target → new.gotos ≡ old.gotos ++ goto_over s target → IsEntryAdded s target old new
added_by (Terminal t) target old new shifts gotos = (shifts, gotos ∙ append-nil old.gotos)
added_by (Nonterminal a) target old new shifts gotos = (gotos, shifts ∙ append-nil old.shifts)

module _ (symbols : List Symbol) where
  pub shifts-more : (old : List (ℕ × ℕ)) (e : ℕ × ℕ) → shifts_in symbols (old ++ e ∷ []) ≡ shifts_in symbols old ++ shift_at symbols e
  shifts-more old e = flat_map-append (shift_at symbols) old (e ∷ []) ∙ ap (λ (xs : Shifts). shifts_in symbols old ++ xs) (append-nil (shift_at symbols e))

  gotos-more : (old : List (ℕ × ℕ)) (e : ℕ × ℕ) → gotos_in symbols (old ++ e ∷ []) ≡ gotos_in symbols old ++ goto_at symbols e
  gotos-more old e = flat_map-append (goto_at symbols) old (e ∷ []) ∙ ap (λ (xs : List (NonterminalString × StateIndex)). gotos_in symbols old ++ xs) (append-nil (goto_at symbols e))

  pub Entry-added : (old : List (ℕ × ℕ)) (x k : ℕ) → IsEntryAdded (symbol_at symbols x) (record { 0 = k }) (entries_of symbols old) (entries_of symbols (old ++ (x, k) ∷ []))
  Entry-added old x k = added_by (symbol_at symbols x) (record { 0 = k }) (entries_of symbols old) (entries_of symbols (old ++ (x, k) ∷ [])) (shifts-more old (x, k)) (gotos-more old (x, k))

-- ---- the shifts ascend
-- what holds of the terminal of an edge and of the rest holds of all
with_first : (s : Symbol) (target : StateIndex) (P : TerminalString → Type 0) (rest : Shifts) → ((u : TerminalString) → s ≡ Terminal u → P u) → AllByRecursion P (keys_of rest) → AllByRecursion P (keys_of (shift_over s target ++ rest))
with_first (Terminal u) target P rest here all = (here u refl, all)
with_first (Nonterminal a) target P rest here all = all

sorted_first : (s : Symbol) (target : StateIndex) (rest : Shifts) → ((t : TerminalString) → s ≡ Terminal t → AllByRecursion (λ u. terminal_order t u ≡ Less) (keys_of rest)) → IsStrictlySortedBy terminal_order (keys_of rest) → IsStrictlySortedBy terminal_order (keys_of (shift_over s target ++ rest))
unfolding IsStrictlySortedBy
sorted_first (Terminal t) target rest less sorted = (less t refl, sorted)
sorted_first (Nonterminal a) target rest less sorted = sorted

module _ (symbols : List Symbol) (ascend : SymbolsAscend symbols) where
  terminals_less : (x y : ℕ) (t u : TerminalString) → x < y → y < length symbols → symbol_at symbols x ≡ Terminal t → symbol_at symbols y ≡ Terminal u → terminal_order t u ≡ Less
  terminals_less x y t u l within is_t is_u = Sorted-places symbol_order symbols ascend x y (Terminal t) (Terminal u) l (symbol_stands symbols x (omega arith) ∙ ap Some is_t) (symbol_stands symbols y within ∙ ap Some is_u)

  greater : (t : TerminalString) (x : ℕ) → symbol_at symbols x ≡ Terminal t → (edges : List (ℕ × ℕ)) → ((e : ℕ × ℕ) → Contains edges e → (x < e.0) × (e.0 < length symbols)) → AllByRecursion (λ u. terminal_order t u ≡ Less) (keys_of (shifts_in symbols edges))
  greater t x is [] each = tt
  greater t x is (e ∷ es) each =
      let here = each e (contains_head e es) in
      with_first (symbol_at symbols e.0) (record { 0 = e.1 }) (λ u. terminal_order t u ≡ Less) (shifts_in symbols es) (λ u at. terminals_less x e.0 t u here.0 here.1 is at) (greater t x is es (λ d c. each d (contains_tail e es d c)))

  pub Shifts-ascend : (edges : List (ℕ × ℕ)) → NumbersAscend edges → AreOverSymbols symbols edges → IsStrictlySortedBy terminal_order (keys_of (shifts_in symbols edges))
  unfolding IsStrictlySortedBy
  Shifts-ascend [] rise within = tt
  Shifts-ascend (e ∷ es) rise within =
      let later : (d : ℕ × ℕ) → Contains es d → (e.0 < d.0) × (d.0 < length symbols) = λ d c. (ordered-head (λ (a b : ℕ × ℕ). a.0 < b.0) e es rise d c, within d (contains_tail e es d c)) in
      sorted_first (symbol_at symbols e.0) (record { 0 = e.1 }) (shifts_in symbols es) (λ t is. greater t e.0 is es later) (Shifts-ascend es (ordered-tail (λ (a b : ℕ × ℕ). a.0 < b.0) e es rise) (λ d c. within d (contains_tail e es d c)))

  -- ---- all edges
  pub Edges-made : (groups first : Groups Bits) (old new : Kernels (List (Dotted Bits))) (edges : List (ℕ × ℕ)) → first ≡ groups → AreSomeEdges groups first old new (entries_of symbols edges) → NumbersAscend edges → AreOverSymbols symbols edges → AreEdges groups new.list (edges_in symbols edges)
  Edges-made groups first old new edges e s rise within = record {
    leads = s.leads;
    all = λ x k c. s.all x k (subst (λ (gs : Groups Bits). Contains gs (x, k)) (sym e) c);
    ascend = Shifts-ascend edges rise within;
  }

-- ---- the numbers of symbols
module _ {V W : Type 0} (xs : List (ℕ × V)) (ys : List (ℕ × W)) (same : keys_of xs ≡ keys_of ys) where
  abbrev first_key : ℕ × V → ℕ
  first_key e = e.0

  abbrev second_key : ℕ × W → ℕ
  second_key e = e.0

  key_there : (i : ℕ) (y : ℕ × W) → slice_get ys i ≡ Some y → (x : ℕ × V) × (slice_get xs i ≡ Some x) × (x.0 ≡ y.0)
  key_there i y at = some_of_map first_key (slice_get xs i) y.0 (sym (slice_get-map first_key xs i) ∙ ap (λ (ks : List ℕ). slice_get ks i) same ∙ slice_get-map second_key ys i ∙ ap (λ (o : Option (ℕ × W)). option_map second_key o) at)

  -- lists with the same numbers at the front ascend alike
  pub numbers_ascend : NumbersAscend xs → NumbersAscend ys
  numbers_ascend rise i j x y l at_i at_j =
      let a = key_there i x at_i in
      let b = key_there j y at_j in
      let below : a.0.0 < b.0.0 = rise i j a.0 b.0 l a.1 b.1 in
      omega (arith, below, a.2, b.2)
