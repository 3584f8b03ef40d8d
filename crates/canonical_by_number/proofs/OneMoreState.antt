-- One state more, from the closure of a kernel with sets by number.
use Rattle.std.proofs.Common.{◌≡◌, ◌∙◌, ◌+◌, ◌%◌, ◌<◌, ◌==◌, ◌++◌, ◌∷◌, [], ℕ, Bool, true, false, cond, List, length, map, refl, sym, ap, subst, arith, eqb-true, eq-eqb, Some, None, Option, Vec, Global}
use Rattle.std.specs.Prelude.{Contains, slice_get}
use Rattle.std.specs.Vec.Covariant.{in_vec}
use Rattle.std.proofs.lemmas.Option.{slice_get_within}
use Rattle.lalrpop_base.specs.Words.{AreAllNumbered, AreNumbers, AreTransitions, Begins, Bits, Dotted, Extends, IsBuiltBy, IsClosureBy, Kernels, LeadsToAdded, Rules, dotted_at, item_at_start, item_by, items_by, kernels_by, reductions_of, seen_reduction}
use Rattle.lalrpop_collections.proofs.theory.lists.Members.{contains_head, contains_tail}
use Rattle.lalrpop_collections.proofs.theory.lists.Places.{filled}
use Rattle.lalrpop_construction.proofs.theory.construction.Coherence.{Built-made, Reached-extends, Reached-led}
use Rattle.lalrpop_construction.proofs.theory.construction.NumberedBuilding.{Building-grown}
use Rattle.lalrpop_construction.proofs.theory.numbers.Numbers.{stands_at}
use Rattle.lalrpop_construction.specs.Words.{Construction}
use Rattle.lalrpop_grammar.specs.declared.repr.Production.{Production}
use Rattle.lalrpop_numbers.specs.declared.numbers.Numbers.{Numbers}
use Rattle.lalrpop_numbers.specs.declared.numbers.numbered.Numbered.{Numbered}
use Rattle.lalrpop_states.proofs.theory.conflicts.ConflictCounts.{all_counted}
use Rattle.lalrpop_states.specs.closures.Closure.{itself}
use Rattle.lalrpop_states.specs.declared.lookahead.nil.Nil.{Nil}
use Rattle.lalrpop_states.specs.declared.lr1_core.state.State.{State}
use Rattle.canonical_by_number.specs.TokenSets.{KeepsNumbers}
use Rattle.canonical_by_number.specs.Closures.{IsNumberedClosure, LetsPass, entries_in, entry_in, kernel_in}
use Rattle.canonical_by_number.specs.Conflicts.{finished_entries, finished_if, reduction_in, reductions_in}
use Rattle.canonical_by_number.specs.Edges.{edges_in}
use Rattle.canonical_by_number.specs.Kernels.{AreKernelsIn, kernels_in}
use Rattle.canonical_by_number.specs.States.{AreMadeIn, IsStateMore}
use Rattle.lalrpop_collections.proofs.theory.lists.Lists.{some≢none}
use Rattle.canonical_by_number.proofs.Closures.{kernel_kept}
use Rattle.canonical_by_number.proofs.PackedMoves.{kernel_there}
use Rattle.canonical_by_number.proofs.TokenSets.{kept_within}

-- ---- the kernels are the same when sets are added
module _ (n : Numbers) (old new : List Bits) (kept : KeepsNumbers old new) where
  lists_kept : (kernels : List (List ℕ)) → ((kernel : List ℕ) → Contains kernels kernel → (e : ℕ) → Contains kernel e → e % 4294967296 < length old) → map (kernel_in new) kernels ≡ map (kernel_in old) kernels
  lists_kept [] packed = refl
  lists_kept (k ∷ ks) packed =
      ap (λ (is : List (Numbered Bits)). is ∷ map (kernel_in new) ks) (kernel_kept old new kept k (packed k (contains_head k ks)))
      ∙ ap (λ (rest : List (List (Numbered Bits))). kernel_in old k ∷ rest) (lists_kept ks (λ l c. packed l (contains_tail k ks l c)))

  pub kernels_kept : (kernels : Kernels (List ℕ)) → AreKernelsIn n old kernels.list → kernels_in new kernels ≡ kernels_in old kernels
  kernels_kept kernels are =
      let of : List (List (Numbered Bits)) → Kernels (List (Numbered Bits)) = λ ks. record { list = ks; handed = kernels.handed } in
      ap of (lists_kept kernels.list are.packed)

  pub kernels_still : (kernels : List (List ℕ)) → AreKernelsIn n old kernels → AreKernelsIn n new kernels
  kernels_still kernels are = record {
    known = subst (AreAllNumbered n.items.items) (sym (lists_kept kernels are.packed)) are.known;
    packed = λ k c e d. kept_within old new kept (e % 4294967296) (are.packed k c e d);
  }

-- ---- the reductions of the finished items
module _ (g : Rules) (n : Numbers) (numbers : AreNumbers g n) (sets : List Bits) where
  abbrev item : ℕ × ℕ → Dotted Bits
  item e = item_by n.items.items (entry_in sets e)

  abbrev rest_of : List (ℕ × ℕ) → List (Bits × Production)
  rest_of es = reductions_of (items_by n.items.items (entries_in sets es))

  abbrev seen : List (ℕ × ℕ) → List (Bits × Production)
  seen finished = map seen_reduction (reductions_in n sets finished)

  reduced_at : (e : ℕ × ℕ) (es : List (ℕ × ℕ)) (o : Option (Option ℕ)) → slice_get n.behind.items e.0 ≡ o → e.0 < length n.items.items → seen (finished_entries n es) ≡ rest_of es → seen (finished_if o e ++ finished_entries n es) ≡ cond ((item e).index == length (item e).production.symbols) (((item e).lookahead, (item e).production) ∷ rest_of es) (rest_of es)
  reduced_at e es None at l later = let w = n.counted in let f = filled n.behind.items e.0 (omega arith) in absurd (some≢none (sym f.1 ∙ at))
  reduced_at e es (Some None) at l later =
      let end : (item e).index ≡ length (item e).production.symbols = numbers.behind e.0 (dotted_at n.items.items e.0) None (stands_at n.items.items e.0 l) at in
      ap (λ (rs : List (Bits × Production)). ((item e).lookahead, (item e).production) ∷ rs) later ∙ ap (λ (b : Bool). cond b (((item e).lookahead, (item e).production) ∷ rest_of es) (rest_of es)) (sym (eq-eqb (item e).index (length (item e).production.symbols) end))
  reduced_at e es (Some (Some x)) at l later =
      let b = numbers.behind e.0 (dotted_at n.items.items e.0) (Some x) (stands_at n.items.items e.0 l) at in
      let short : (item e).index < length (item e).production.symbols = slice_get_within (item e).production.symbols (item e).index b.0 b.2 in
      later ∙ by ((item e).index == length (item e).production.symbols) refl short
    where
      by : (b : Bool) → ((item e).index == length (item e).production.symbols) ≡ b → (item e).index < length (item e).production.symbols → rest_of es ≡ cond b (((item e).lookahead, (item e).production) ∷ rest_of es) (rest_of es)
      by true same short = let k = eqb-true (item e).index (length (item e).production.symbols) same in absurd (omega arith)
      by false same short = refl

  pub Finished-reduced : (list : List (ℕ × ℕ)) → ((e : ℕ × ℕ) → Contains list e → e.0 < length n.items.items) → seen (finished_entries n list) ≡ rest_of list
  Finished-reduced [] known = refl
  Finished-reduced (e ∷ es) known =
      reduced_at e es (slice_get n.behind.items e.0) refl (known e (contains_head e es)) (Finished-reduced es (λ d c. known d (contains_tail e es d c)))

-- ---- one state more
module _ (c : Construction Bits) (n : Numbers) (numbers : AreNumbers c.rules n) (old_sets sets : List Bits) (kept : KeepsNumbers old_sets sets) (old middle new : Kernels (List ℕ)) (number : ℕ) (packed : List ℕ) (edges : List (ℕ × ℕ)) (list finished : Vec (ℕ × ℕ) Global)
    (are : AreKernelsIn n old_sets old.list) (handed : middle ≡ record { list = old.list; handed = old.handed + 1 }) (next : number ≡ old.handed) (there : slice_get old.list number ≡ Some packed) (closed : IsNumberedClosure c.rules n (items_by n.items.items (kernel_in old_sets packed)) sets list.items)
    (done : finished.items ≡ finished_entries n list.items) (known : (e : ℕ × ℕ) → Contains list.items e → e.0 < length n.items.items) (moved : AreTransitions (items_by n.items.items (entries_in sets list.items)) (kernels_by n.items.items (kernels_in sets middle)) (kernels_by n.items.items (kernels_in sets new)) (edges_in n.symbols.items edges)) (after : AreKernelsIn n sets new.list) where
  abbrev known_items : List (Dotted Nil)
  known_items = n.items.items

  abbrev made_state : State Bits
  made_state = record {
    index = record { 0 = number };
    items = record { vec = in_vec (item_by known_items) (in_vec (entry_in sets) list) };
    shifts = (edges_in n.symbols.items edges).shifts;
    reductions = in_vec (reduction_in n sets) finished;
    gotos = (edges_in n.symbols.items edges).gotos;
  }

  abbrev C : List (Dotted Bits) → List (Dotted Bits) → Type 0
  C = IsClosureBy itself Begins LetsPass c.rules

  abbrev items : List (Dotted Bits)
  items = items_by known_items (entries_in sets list.items)

  abbrev kernel : List (Dotted Bits)
  kernel = items_by known_items (kernel_in old_sets packed)

  reduced : map seen_reduction made_state.reductions.items ≡ reductions_of items
  reduced = ap (λ (fs : List (ℕ × ℕ)). map seen_reduction (reductions_in n sets fs)) done ∙ Finished-reduced c.rules n numbers sets list.items known

  built : IsBuiltBy C (kernels_by known_items (kernels_in sets new)).list kernel number made_state
  built = Built-made C kernel items moved.groups (kernels_by known_items (kernels_in sets new)).list number made_state refl refl reduced closed.closed moved.moves moved.lead

  extends : Extends itself c.rules (kernels_by known_items (kernels_in sets middle)) (kernels_by known_items (kernels_in sets new))
  extends = Reached-extends itself c.rules items moved.groups (kernels_by known_items (kernels_in sets middle)) (kernels_by known_items (kernels_in sets new)) closed.closed.are_items moved.moves moved.reached

  led : LeadsToAdded (kernels_by known_items (kernels_in sets middle)) (kernels_by known_items (kernels_in sets new)) made_state
  led = Reached-led items moved.groups (kernels_by known_items (kernels_in sets middle)) (kernels_by known_items (kernels_in sets new)) made_state moved.moves moved.lead moved.reached

  same_old : kernels_in sets old ≡ kernels_in old_sets old
  same_old = kernels_kept n old_sets sets kept old are

  handed_in : kernels_in sets middle ≡ record { list = (kernels_in old_sets old).list; handed = (kernels_in old_sets old).handed + 1 }
  handed_in =
      let one_more : Kernels (List (Numbered Bits)) → Kernels (List (Numbered Bits)) = λ ks. record { list = ks.list; handed = ks.handed + 1 } in
      ap (kernels_in sets) handed ∙ ap one_more same_old

  pub handed_one : new.handed ≡ old.handed + 1
  handed_one = extends.handed ∙ ap (λ (ks : Kernels (List ℕ)). ks.handed) handed

  pub State-more : (states : List (State Bits)) → AreMadeIn c n old_sets old states → IsStateMore c n sets new states finished.items edges
  State-more states made =
      let stands : slice_get (kernels_in old_sets old).list (kernels_in old_sets old).handed ≡ Some (kernel_in old_sets packed) = kernel_there old_sets old.list old.handed packed (subst (λ (k : ℕ). slice_get old.list k ≡ Some packed) next there) in
      let built_here : IsBuiltBy C (kernels_by known_items (kernels_in sets new)).list kernel (length states) made_state = subst (λ (k : ℕ). IsBuiltBy C (kernels_by known_items (kernels_in sets new)).list kernel k made_state) (next ∙ made.building.handed) built in
      record {
        state = made_state;
        made = record {
          building = Building-grown itself C c.rules (map (item_at_start c.lookahead) c.first) known_items (kernels_in old_sets old) (kernels_in sets middle) (kernels_in sets new) states (kernel_in old_sets packed) made.building stands handed_in extends made_state built_here led;
          numbered = after.known;
        };
        counted = λ terminals. all_counted terminals made_state (reductions_in n sets finished.items) (reductions_in n sets finished.items) refl refl;
      }
