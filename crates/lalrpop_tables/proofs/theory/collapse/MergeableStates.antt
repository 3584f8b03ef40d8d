-- Collapsible states under the numbers of their dotted productions: states with one number can be
-- joined.
use Rattle.std.proofs.Common.{◌≡◌, ℕ, suc, ◌<◌, List, [], ◌∷◌, length, map, refl, sym, ap, ◌∙◌, subst, arith, Option, Some, None, option_map}
use Rattle.std.specs.Prelude.{slice_get, unwrap_or}
use Rattle.std.specs.BTreeMap.{BTreeMap, get, is_at}
use Rattle.std.specs.Map.{lookup}
use Rattle.std.specs.declared.cmp.Ordering.{Ordering}
use Rattle.std.proofs.lemmas.Map.Entries.{place_from_lookup}
use Rattle.std.proofs.lemmas.Map.Lookups.{CmpEqualImpliesEq}
use Rattle.std.proofs.lemmas.Map.Made.{lookup-map_values}
use Rattle.std.proofs.lemmas.Option.{slice_get_within, slice_get-map}
use Rattle.lalrpop_base.specs.Words.{Bits, dots, dots_at, dots_of, LeadAlike, AreAlike, AreCollapsible, name_cmp}
use Rattle.lalrpop_grammar.specs.contracts.repr.TerminalStringOrd.TheImpl as terminal_ord
use Rattle.lalrpop_tables.proofs.Types.{State, StateIndex}
use Rattle.lalrpop_tables.specs.Words.{dots_in}
use Rattle.lalrpop_base.specs.Words.{AreFirstNumbers, AreMoved, number_in, retargeted, retargeted_all, IsRenumberedState}
use Rattle.lalrpop_tables.specs.collapse.Collapsed.{LeadsToRenumbered}
use Rattle.lalrpop_tables.proofs.theory.collapse.MergedStates.{Agree, CanJoin, CanMerge}
use Rattle.lr1_theory.proofs.theory.renumbering.Moved.{Moved-length, Moved-at}
use Rattle.lalrpop_grammar.proofs.theory.grammars.NameOrders.{name_exact, terminal_exact, is_equal}
use Rattle.lalrpop_collections.proofs.theory.lists.Places.{same_some, filled}

length_map : {X Y : Type 0} (f : X → Y) (xs : List X) → length (map f xs) ≡ length xs
length_map f [] = refl
length_map f (x ∷ xs) = ap suc (length_map f xs)

-- ---- transitions under new numbers
module _ {K : Type 0} (order : K → K → Ordering) (new : ℕ → ℕ) (edges led : BTreeMap K StateIndex) (same : led.entries ≡ retargeted_all new edges.entries) where
  under : (key : K) → get order led key ≡ option_map (retargeted new) (get order edges key)
  under key = ap (λ (es : List (K × StateIndex)). lookup (is_at (order key)) es) same ∙ lookup-map_values (retargeted new) (is_at (order key)) edges.entries

  was_at : (o : Option StateIndex) (target : StateIndex) → option_map (retargeted new) o ≡ Some target → (old : StateIndex) × (o ≡ Some old) × (target ≡ retargeted new old)
  was_at None target e = cc
  was_at (Some old) target e = (old, refl, sym (same_some (retargeted new old) target e))

  pub was : (key : K) (target : StateIndex) → get order led key ≡ Some target → LeadsToRenumbered order new edges key target
  was key target e = was_at (get order edges key) target (sym (under key) ∙ e)

  pub goes : (key : K) (target : StateIndex) → LeadsToRenumbered order new edges key target → get order led key ≡ Some target
  goes key target l = under key ∙ ap (option_map (retargeted new)) l.1 ∙ ap Some (sym l.2)

-- ---- states under the numbers of their dotted productions
module _ (before moved : List (State Bits)) (numbers : List ℕ) (collapsible : AreCollapsible before) (named : AreFirstNumbers (map dots_in before) numbers) (under_new : AreMoved (number_in numbers) before moved) where
  abbrev new : ℕ → ℕ
  new = number_in numbers

  pub as_many : length numbers ≡ length before
  as_many = named.counted ∙ length_map dots_in before

  pub moved_to : (k : ℕ) (s : State Bits) → slice_get before k ≡ Some s → (t : State Bits) × (slice_get moved k ≡ Some t) × IsRenumberedState new s t
  moved_to k s at = Moved-at new under_new k s at

  pub came_from : (k : ℕ) (t : State Bits) → slice_get moved k ≡ Some t → (s : State Bits) × (slice_get before k ≡ Some s) × IsRenumberedState new s t
  came_from k t at =
      let within : k < length before = omega (arith, slice_get_within moved k t at, Moved-length new under_new) in
      let s = filled before k within in
      let m = moved_to k s.0 s.1 in
      (s.0, s.1, subst (IsRenumberedState new s.0) (same_some m.0 t (sym m.1 ∙ at)) m.2)

  -- the new number of a place
  pub number_of_place : (k : ℕ) (s : State Bits) → slice_get before k ≡ Some s → (m : ℕ) × (slice_get numbers k ≡ Some m) × (new k ≡ m)
  number_of_place k s at =
      let m = filled numbers k (omega (arith, slice_get_within before k s at, as_many)) in
      (m.0, m.1, ap (λ o. unwrap_or o k) m.1)

  pub index_there : (k : ℕ) (t : State Bits) → slice_get moved k ≡ Some t → t.index.0 ≡ new k
  index_there k t at =
      let s = came_from k t at in
      ap (λ (i : StateIndex). i.0) s.2.index ∙ ap new (collapsible.coherent k s.0 s.1).numbered

  pub same_number : (n m : ℕ) (a b : State Bits) → slice_get before n ≡ Some a → slice_get before m ≡ Some b → dots_in a ≡ dots_in b → new n ≡ new m
  same_number n m a b at_n at_m e =
      let p = number_of_place n a at_n in
      let q = number_of_place m b at_m in
      let one : slice_get numbers n ≡ slice_get numbers m = named.same n m (dots_in a) (slice_get-map dots_in before n ∙ ap (option_map dots_in) at_n) (slice_get-map dots_in before m ∙ ap (option_map dots_in) at_m ∙ ap Some (sym e)) in
      p.2 ∙ same_some p.0 q.0 (sym p.1 ∙ one ∙ q.1) ∙ sym q.2

  same_dots : (n m : ℕ) (a b : State Bits) → slice_get before n ≡ Some a → slice_get before m ≡ Some b → new n ≡ new m → dots_in a ≡ dots_in b
  same_dots n m a b at_n at_m e =
      let p = number_of_place n a at_n in
      let q = number_of_place m b at_m in
      let number : q.0 ≡ p.0 = sym q.2 ∙ sym e ∙ p.2 in
      let one : slice_get (map dots_in before) n ≡ slice_get (map dots_in before) m = named.apart n m p.0 p.1 (q.1 ∙ ap Some number) in
      same_some (dots_in a) (dots_in b) (ap (option_map dots_in) (sym at_n) ∙ sym (slice_get-map dots_in before n) ∙ one ∙ slice_get-map dots_in before m ∙ ap (option_map dots_in) at_m)

  -- targets inside the list with the same dotted productions have one number
  same_target : (n m : ℕ) (a b : State Bits) → slice_get before n ≡ Some a → slice_get before m ≡ Some b → dots_at before n ≡ dots_at before m → new n ≡ new m
  same_target n m a b at_n at_m e = same_number n m a b at_n at_m (sym (ap (dots_of {L = Bits}) at_n) ∙ e ∙ ap (dots_of {L = Bits}) at_m)

  module _ {K : Type 0} (order : K → K → Ordering) (exact : CmpEqualImpliesEq order) where
    abbrev Inside : List (K × StateIndex) → Type 0
    Inside edges = (k : ℕ) (e : K × StateIndex) → slice_get edges k ≡ Some e → (to : State Bits) × (slice_get before e.1.0 ≡ Some to)

    entry : (edges : BTreeMap K StateIndex) (key : K) (target : StateIndex) → get order edges key ≡ Some target → (i : ℕ) × (slice_get edges.entries i ≡ Some (key, target))
    entry edges key target h =
        let f = place_from_lookup (is_at (order key)) edges.entries target h in
        (f.0, f.2 ∙ ap (λ (k : K). Some (k, target)) (sym (exact key f.1 (is_equal (order key f.1) f.3))))

    agree : (edges others led others_led : BTreeMap K StateIndex) → led.entries ≡ retargeted_all new edges.entries → others_led.entries ≡ retargeted_all new others.entries → LeadAlike order before edges.entries others → Inside edges.entries → Inside others.entries → Agree order led others_led
    agree edges others led others_led same others_same alike inside others_inside key x y h k =
        let p = was order new edges led same key x h in
        let q = was order new others others_led others_same key y k in
        let i = entry edges key p.0 p.1 in
        let j = entry others key q.0 q.1 in
        let a = inside i.0 (key, p.0) i.1 in
        let b = others_inside j.0 (key, q.0) j.1 in
        let one : new p.0.0 ≡ new q.0.0 = same_target p.0.0 q.0.0 a.0 b.0 a.1 b.1 (alike i.0 (key, p.0) i.1 q.0 q.1) in
        let index : ℕ → StateIndex = λ n. record { 0 = n } in
        p.2 ∙ ap index one ∙ sym q.2

  shifts_inside : (n : ℕ) (s : State Bits) → slice_get before n ≡ Some s → Inside terminal_ord.ghosts.cmp terminal_exact s.shifts.entries
  shifts_inside n s at k e there = let step = (collapsible.coherent n s at).shifts k e there in (step.to, step.there)

  gotos_inside : (n : ℕ) (s : State Bits) → slice_get before n ≡ Some s → Inside name_cmp name_exact s.gotos.entries
  gotos_inside n s at k e there = let step = (collapsible.coherent n s at).gotos k e there in (step.to, step.there)

  pub dots_moved : (s t : State Bits) → IsRenumberedState new s t → dots_in t ≡ dots_in s
  dots_moved s t r = ap (λ is. dots is.vec.items) r.items

  can_join : (n m : ℕ) (a b : State Bits) → slice_get moved n ≡ Some a → slice_get moved m ≡ Some b → a.index.0 ≡ b.index.0 → CanJoin a b
  can_join n m a b at_n at_m e =
      let x = came_from n a at_n in
      let y = came_from m b at_m in
      let one : new n ≡ new m = sym (index_there n a at_n) ∙ e ∙ index_there m b at_m in
      let listed : dots_in x.0 ≡ dots_in y.0 = same_dots n m x.0 y.0 x.1 y.1 one in
      let alike : AreAlike before x.0 y.0 = collapsible.alike n x.0 x.1 m y.0 y.1 listed in
      record {
        listed = dots_moved x.0 a x.2 ∙ listed ∙ sym (dots_moved y.0 b y.2);
        shifts = agree terminal_ord.ghosts.cmp terminal_exact x.0.shifts y.0.shifts a.shifts b.shifts x.2.shifts y.2.shifts alike.shifts (shifts_inside n x.0 x.1) (shifts_inside m y.0 y.1);
        gotos = agree name_cmp name_exact x.0.gotos y.0.gotos a.gotos b.gotos x.2.gotos y.2.gotos alike.gotos (gotos_inside n x.0 x.1) (gotos_inside m y.0 y.1);
      }

  pub Numbered-merge : CanMerge moved
  Numbered-merge = record {
    alike = can_join;
    first = λ n earlier t at l.
        let s = came_from n t at in
        let m = number_of_place n s.0 s.1 in
        let index : t.index.0 ≡ m.0 = index_there n t at ∙ m.2 in
        let f = named.first n m.0 earlier m.1 (omega arith) in
        let x = filled before f.0 (let b = slice_get_within before n s.0 s.1 in let c = f.1 in omega arith) in
        let y = moved_to f.0 x.0 x.1 in
        let k = number_of_place f.0 x.0 x.1 in
        (f.0, y.0, f.1, y.1, index_there f.0 y.0 y.1 ∙ k.2 ∙ same_some k.0 earlier (sym k.1 ∙ f.2));
  }
