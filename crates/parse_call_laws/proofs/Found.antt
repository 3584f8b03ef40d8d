-- The targets and reductions that numbers have are those of the contents of a state.
use Rattle.std.proofs.Common.{◌≡◌, ⊎_elim, ℕ, ◌==◌, ◌&&◌, ◌||◌, cond, Bool, true, false, List, [], ◌∷◌, length, slice_get, Option, None, Some, option_map, refl, sym, ◌∙◌, ap, arith, eqb-true, lt-ltb, ne_eqb, eq-eqb}
use Rattle.std.specs.BTreeMap.{is_at}
use Rattle.std.specs.List.{cons_option, filter_map, list_any}
use Rattle.std.specs.declared.cmp.Ordering.{Ordering}
use Rattle.std.specs.declared.cmp.Ordering.TheVariants.{Equal, Greater, Less}
use Rattle.std.specs.Ordering.{is_eq, ordering_reverse}
use Rattle.std.specs.Cmp.{IsTotalOrder}
use Rattle.std.proofs.lemmas.Bool.{eqb-false, le-leb, le-ltb}
use Rattle.std.proofs.lemmas.Bool.Decides.{leb_tells}
use Rattle.std.proofs.lemmas.List.{length-map}
use Rattle.std.proofs.lemmas.Option.{slice_get_cases, slice_get_within, slice_get-map}
use Rattle.lalrpop_base.specs.Words.{AllDiffer, CanStandNext, IsBitOf, action_on, bits_of, has-bits_of, holds_token, no_contents, reduction_on, shift_of, shift_or}
use Rattle.lalrpop_grammar.proofs.theory.grammars.NameOrders.{name_exact, name_order, name_total, terminal_exact, terminal_order, terminal_total}
use Rattle.lalrpop_grammar.specs.declared.lookahead.token.Token.{Token}
use Rattle.lalrpop_grammar.specs.declared.lookahead.token.Token.TheVariants.{Eof, Error, Terminal}
use Rattle.lalrpop_grammar.specs.declared.repr.NonterminalString.{NonterminalString}
use Rattle.lalrpop_grammar.specs.declared.repr.Production.{Production}
use Rattle.parse_calls.specs.Lookups.{action_at, action_by, action_of, action_with, goto_at, goto_by, goto_of, goto_with, has_token, holds, is_reduced, production_in, shift_on, side_at, side_with, target_in}
use Rattle.parse_calls.specs.Pairs.{pairs_of}
use Rattle.parse_calls.specs.Places.{block_of, set_of}
use Rattle.parse_calls.specs.declared.lookups.Found.TheVariants.{Fault}
use Rattle.parse_calls.specs.declared.lookups.Target.TheVariants.{Fault as NoTarget}
use Rattle.parse_tables.proofs.ActionRows.{bit_within, holds_bit}
use Rattle.table_numbers.specs.Words.{AreAbout, Lists, contents_if, named, numbered_contents, numbered_reduction, numbers_of, pair_numbers, passes, reduction_on_set, side_of as side_of_production, state_contents, target_at}
use Rattle.table_numbers.specs.declared.tables.NumberedState.{NumberedState}
use Rattle.table_numbers.specs.declared.tables.NumberedTables.{NumberedTables}
use Rattle.parse_call_laws.specs.Laws.{entry_by, state_by}
use Rattle.parse_call_laws.proofs.TablePlaces.{counts, counts_right, no_set, no_side, no_state, set_there, side_there, state_there}

-- the pairs of the numbers of pairs are these
pub pairs_back : (pairs : List (ℕ × ℕ)) → pairs_of (pair_numbers pairs) ≡ pairs
pairs_back [] = refl
pairs_back (p ∷ pairs) = ap (λ (ps : List (ℕ × ℕ)). p ∷ ps) (pairs_back pairs)

-- `==` of numbers is symmetric
swap_eq : (a b : ℕ) → (a == b) ≡ (b == a)
swap_eq a b = by (a == b) refl
  where
    by : (x : Bool) → (a == b) ≡ x → (a == b) ≡ (b == a)
    by true e = e ∙ sym (eq-eqb b a (sym (eqb-true a b e)))
    by false e = e ∙ sym (ne_eqb b a (λ same. eqb-false a b e (sym same)))

-- so a test for a number in a list has two forms
swap_any : (q : ℕ) (xs : List ℕ) → list_any (λ (x : ℕ). x == q) xs ≡ list_any (λ (x : ℕ). q == x) xs
swap_any q [] = refl
swap_any q (x ∷ xs) = ap (λ b. b || list_any (λ (y : ℕ). y == q) xs) (swap_eq x q) ∙ ap (λ b. (q == x) || b) (swap_any q xs)

less_not_greater : Less ≡ Greater → ⊥
less_not_greater e = cc

not_less : Equal ≡ Less → ⊥
not_less e = cc

not_greater : Equal ≡ Greater → ⊥
not_greater e = cc

some_not_none : {A : Type 0} (x : A) → Some x ≡ None → ⊥
some_not_none x e = cc

one_value : {A : Type 0} (x y : A) → Some x ≡ Some y → x ≡ y
one_value x y e = cc

module _ {K : Type 0} (cmp : K → K → Ordering) (total : IsTotalOrder cmp) (exact : (x y : K) → cmp x y ≡ Equal → x ≡ y) (names : List K) (differ : AllDiffer names) (number : ℕ) (name : K) (at : slice_get names number ≡ Some name) where
  -- the name ties with itself
  itself : cmp name name ≡ Equal
  itself = by (cmp name name) refl
    where
      by : (o : Ordering) → cmp name name ≡ o → cmp name name ≡ Equal
      by Less e = let other = total.antisymm name name in absurd (less_not_greater (sym e ∙ other ∙ ap ordering_reverse e))
      by Equal e = e
      by Greater e = let other = total.antisymm name name in absurd (less_not_greater (sym (sym e ∙ other ∙ ap ordering_reverse e)))

  -- the name is at no other number
  one_number : (n : ℕ) → slice_get names n ≡ Some name → n ≡ number
  one_number n e = ⊎_elim
      (λ first. ⊎_elim (λ second. let a = first.1 in let b = second.1 in omega (arith, a, b)) (λ less. absurd (differ n number name less.1 e at)) (leb_tells number n))
      (λ more. absurd (differ number n name more.1 at e))
      (leb_tells n number)

  -- a number is that of the name exactly if the name is at it
  same_test : (n : ℕ) → (n == number) ≡ passes (is_at (cmp name)) (slice_get names n)
  same_test n = by (slice_get names n) refl
    where
      some_tied : (x : K) → slice_get names n ≡ Some x → (o : Ordering) → cmp name x ≡ o → (n == number) ≡ is_eq o
      some_tied x e Equal tied = eq-eqb n number (one_number n (e ∙ ap (λ (y : K). Some y) (sym (exact name x tied))))
      some_tied x e Less tied = ne_eqb n number (λ same. not_less (sym itself ∙ ap (cmp name) (one_value name x (sym at ∙ ap (slice_get names) (sym same) ∙ e)) ∙ tied))
      some_tied x e Greater tied = ne_eqb n number (λ same. not_greater (sym itself ∙ ap (cmp name) (one_value name x (sym at ∙ ap (slice_get names) (sym same) ∙ e)) ∙ tied))

      by : (o : Option K) → slice_get names n ≡ o → (n == number) ≡ passes (is_at (cmp name)) o
      by None e = ne_eqb n number (λ same. some_not_none name (sym at ∙ ap (slice_get names) (sym same) ∙ e))
      by (Some x) e = some_tied x e (cmp name x) refl

  -- the target of the name is that of its number
  pub same_target : (pairs : List (ℕ × ℕ)) → target_in pairs number ≡ target_at (is_at (cmp name)) (named names pairs)
  same_target [] = refl
  same_target (p ∷ pairs) =
      ap (λ b. cond b (Some p.1) (target_in pairs number)) (same_test p.0)
      ∙ ap (λ o. cond (passes (is_at (cmp name)) (slice_get names p.0)) (Some p.1) o) (same_target pairs)

module _ (lists : Lists) (t : NumberedTables) (about : AreAbout lists t) (bit : ℕ) where
  -- the production with a number, if there is one
  abbrev production_at : Option ℕ → Option Production
  production_at None = None
  production_at (Some n) = slice_get lists.productions n

  -- whether a reduction by number is made on the token
  abbrev made : Option Production → Option (List ℕ) → Bool
  made None set = false
  made (Some p) set = holds set bit

  -- the tables have as many productions
  as_many : length t.productions ≡ length lists.productions
  as_many = sym (length-map t.productions (λ (p : ℕ × ℕ). (slice_get lists.nonterminals p.0, p.1))) ∙ ap length about.productions ∙ length-map lists.productions side_of_production

  -- a set of the numbers is that of the tables
  pub same_set : (k : ℕ) → set_of (numbers_of t) (counts t) k ≡ slice_get t.sets k
  same_set k = ⊎_elim
      (λ there. set_there t k there.0 there.2 ∙ sym there.2)
      (λ past. no_set t k past.0 ∙ sym past.1)
      (slice_get_cases t.sets k).1

  -- whether a reduction is made, as the numbers say and as the lists say
  same_made : (r : ℕ × ℕ) → is_reduced (numbers_of t) (counts t) bit r ≡ made (slice_get lists.productions r.0) (slice_get t.sets r.1)
  same_made r = ⊎_elim
      (λ there. ap (λ b. b && has_token (numbers_of t) (counts t) r.1 bit) (lt-ltb r.0 (length t.productions) (let within = there.1 in let many = as_many in omega (arith, within, many)))
      ∙ ap (λ o. holds o bit) (same_set r.1)
      ∙ sym (ap (λ o. made o (slice_get t.sets r.1)) there.2))
      (λ past. ap (λ b. b && has_token (numbers_of t) (counts t) r.1 bit) (le-ltb r.0 (length t.productions) (let within = past.0 in let many = as_many in omega (arith, within, many)))
      ∙ sym (ap (λ o. made o (slice_get t.sets r.1)) past.1))
      (slice_get_cases lists.productions r.0).1

  module _ (differ : AllDiffer lists.terminals) (token : Token) (next : CanStandNext token) (at : IsBitOf lists.terminals token bit) where
    -- a set has a token by its bit
    has_bit : (tokens : List ℕ) → holds (Some tokens) bit ≡ holds_token lists.terminals (bits_of tokens) token
    has_bit tokens = swap_any bit tokens ∙ sym (has-bits_of tokens bit) ∙ sym (holds_bit lists.terminals differ (bits_of tokens) token bit next at)

    -- a production that is found is that of the number
    chosen : (b : Bool) (n : ℕ) (p : Production) (others : Option ℕ) (all : Option Production) → slice_get lists.productions n ≡ Some p → production_at others ≡ all → production_at (cond b (Some n) others) ≡ cond b (Some p) all
    chosen true n p others all here later = here
    chosen false n p others all here later = later

    -- the production of the first reduction that is made is that of the first one that holds the token
    pub same_reduction : (rs : List (ℕ × ℕ)) → production_at (production_in (numbers_of t) (counts t) bit rs) ≡ reduction_on (filter_map (numbered_reduction lists t.sets) rs) token
    same_reduction [] = refl
    same_reduction (r ∷ rs) =
        ap (λ b. production_at (cond b (Some r.0) (production_in (numbers_of t) (counts t) bit rs))) (same_made r)
        ∙ by (same_reduction rs) (slice_get lists.productions r.0) (slice_get t.sets r.1) refl
      where
        by : production_at (production_in (numbers_of t) (counts t) bit rs) ≡ reduction_on (filter_map (numbered_reduction lists t.sets) rs) token →
            (o : Option Production) (q : Option (List ℕ)) → slice_get lists.productions r.0 ≡ o →
            production_at (cond (made o q) (Some r.0) (production_in (numbers_of t) (counts t) bit rs)) ≡ reduction_on (cons_option (reduction_on_set lists.terminals o q) (filter_map (numbered_reduction lists t.sets) rs)) token
        by later None q e = later
        by later (Some p) None e = later
        by later (Some p) (Some tokens) e =
            ap (λ b. production_at (cond b (Some r.0) (production_in (numbers_of t) (counts t) bit rs))) (has_bit tokens)
            ∙ chosen (holds_token lists.terminals (bits_of tokens) token) r.0 p (production_in (numbers_of t) (counts t) bit rs) (reduction_on (filter_map (numbered_reduction lists t.sets) rs) token) e later

    -- the shift on the token
    pub same_shift : (sets : List (List ℕ)) (s : NumberedState) → shift_on (counts t) bit s.shifts ≡ shift_of (state_contents lists sets s) token
    same_shift sets s = by token next at
      where
        by : (u : Token) → CanStandNext u → IsBitOf lists.terminals u bit → shift_on (counts t) bit s.shifts ≡ shift_of (state_contents lists sets s) u
        by Eof n e = ap (λ b. cond b (target_in s.shifts bit) None) (le-ltb bit t.terminals (let many = about.terminals in omega (arith, e, many)))
        by Error n e = absurd n
        by (Terminal x) n e =
            ap (λ b. cond b (target_in s.shifts bit) None) (lt-ltb bit t.terminals (let many = about.terminals in let within = slice_get_within lists.terminals bit x e in omega (arith, many, within)))
            ∙ same_target terminal_order terminal_total terminal_exact lists.terminals differ bit x e s.shifts

    -- a state that there is not does nothing
    nothing_done : (u : Token) → CanStandNext u → action_on no_contents u ≡ None
    nothing_done Eof n = refl
    nothing_done Error n = absurd n
    nothing_done (Terminal x) n = refl

    -- an action of the calls, as an entry
    as_entry : (a b : Option ℕ) → entry_by lists.productions (action_by a b) ≡ shift_or a (production_at b)
    as_entry (Some target) b = refl
    as_entry None None = refl
    as_entry None (Some n) = refl

    -- the action of a state, of its lists
    of_lists : (n : ℕ) → entry_by lists.productions (action_of (numbers_of t) (counts t) bit (block_of (numbers_of t) (counts t) n)) ≡ action_on (numbered_contents lists t n) token
    of_lists n = ⊎_elim
        (λ there. let s = there.0 in
        ap (λ o. entry_by lists.productions (action_of (numbers_of t) (counts t) bit o)) (state_there t n s there.2)
        ∙ ap (λ (ps : List (ℕ × ℕ)). entry_by lists.productions (action_by (shift_on (counts t) bit ps) (production_in (numbers_of t) (counts t) bit (pairs_of (pair_numbers s.reductions))))) (pairs_back s.shifts)
        ∙ ap (λ (ps : List (ℕ × ℕ)). entry_by lists.productions (action_by (shift_on (counts t) bit s.shifts) (production_in (numbers_of t) (counts t) bit ps))) (pairs_back s.reductions)
        ∙ as_entry (shift_on (counts t) bit s.shifts) (production_in (numbers_of t) (counts t) bit s.reductions)
        ∙ ap (λ o. shift_or o (production_at (production_in (numbers_of t) (counts t) bit s.reductions))) (same_shift t.sets s)
        ∙ ap (shift_or (shift_of (state_contents lists t.sets s) token)) (same_reduction s.reductions)
        ∙ sym (ap (λ o. action_on (contents_if lists t.sets o) token) there.2))
        (λ past. ap (λ o. entry_by lists.productions (action_of (numbers_of t) (counts t) bit o)) (no_state t n past.0)
        ∙ sym (ap (λ o. action_on (contents_if lists t.sets o) token) past.1 ∙ nothing_done token next))
        (slice_get_cases t.states n).1

    -- the action of a state
    pub same_action : (n : ℕ) → entry_by lists.productions (action_at (numbers_of t) n bit) ≡ action_on (numbered_contents lists t n) token
    same_action n =
        ap (λ o. entry_by lists.productions (action_with (numbers_of t) n bit o)) (counts_right t)
        ∙ ap (λ b. entry_by lists.productions (cond b (action_of (numbers_of t) (counts t) bit (block_of (numbers_of t) (counts t) n)) Fault)) (le-leb bit t.terminals (let many = about.terminals in let within = bit_within lists.terminals token bit next at in omega (arith, many, within)))
        ∙ of_lists n

-- the parts of a pair, if there is one
abbrev first_or : Option (Option NonterminalString × ℕ) → Option NonterminalString
first_or None = None
first_or (Some e) = e.0

abbrev second_or : Option (Option NonterminalString × ℕ) → ℕ
second_or None = 0
second_or (Some e) = e.1

module _ (lists : Lists) (t : NumberedTables) (about : AreAbout lists t) (differ : AllDiffer lists.nonterminals) where
  -- a goto of the calls, as a state
  as_state : (o : Option ℕ) → state_by (goto_by o) ≡ o
  as_state None = refl
  as_state (Some target) = refl

  -- the goto of a state, of its lists
  goto_of_lists : (n number : ℕ) (name : NonterminalString) → slice_get lists.nonterminals number ≡ Some name → state_by (goto_of number (block_of (numbers_of t) (counts t) n)) ≡ (numbered_contents lists t n).goto name
  goto_of_lists n number name at = ⊎_elim
      (λ there. let s = there.0 in
      ap (λ o. state_by (goto_of number o)) (state_there t n s there.2)
      ∙ ap (λ (ps : List (ℕ × ℕ)). state_by (goto_by (target_in ps number))) (pairs_back s.gotos)
      ∙ as_state (target_in s.gotos number)
      ∙ same_target name_order name_total name_exact lists.nonterminals differ number name at s.gotos
      ∙ sym (ap (λ o. (contents_if lists t.sets o).goto name) there.2))
      (λ past. ap (λ o. state_by (goto_of number o)) (no_state t n past.0) ∙ sym (ap (λ o. (contents_if lists t.sets o).goto name) past.1))
      (slice_get_cases t.states n).1

  -- the goto of a state
  pub same_goto : (n number : ℕ) (name : NonterminalString) → slice_get lists.nonterminals number ≡ Some name → state_by (goto_at (numbers_of t) n number) ≡ (numbered_contents lists t n).goto name
  same_goto n number name at =
      ap (λ o. state_by (goto_with (numbers_of t) n number o)) (counts_right t)
      ∙ ap (λ b. state_by (cond b (goto_of number (block_of (numbers_of t) (counts t) n)) NoTarget)) (lt-ltb number t.nonterminals (let many = about.nonterminals in let within = slice_get_within lists.nonterminals number name at in omega (arith, many, within)))
      ∙ goto_of_lists n number name at

  -- the nonterminal of a production and the length of its right side
  pub same_side : (n : ℕ) (p : Production) → slice_get lists.productions n ≡ Some p → (name : ℕ) × (len : ℕ) × (side_at (numbers_of t) n ≡ Some (name, len)) × (slice_get lists.nonterminals name ≡ Some p.nonterminal) × (len ≡ length p.symbols)
  same_side n p at = ⊎_elim
      (λ there. let side = there.0 in
      let seen : Some (slice_get lists.nonterminals side.0, side.1) ≡ Some (side_of_production p) =
      sym (slice_get-map (λ (q : ℕ × ℕ). (slice_get lists.nonterminals q.0, q.1)) t.productions n ∙ ap (option_map (λ (q : ℕ × ℕ). (slice_get lists.nonterminals q.0, q.1))) there.2)
      ∙ ap (λ (l : List (Option NonterminalString × ℕ)). slice_get l n) about.productions
      ∙ slice_get-map side_of_production lists.productions n
      ∙ ap (option_map side_of_production) at in
      (side.0, side.1, ap (λ o. side_with (numbers_of t) n o) (counts_right t) ∙ side_there t n side there.2, ap first_or seen, ap second_or seen))
      (λ past. absurd (let within = slice_get_within lists.productions n p at in let over = past.0 in let many = as_many lists t about 0 in omega (arith, within, over, many)))
      (slice_get_cases t.productions n).1

-- a production that is not there has no side
pub no_side_at : (lists : Lists) (t : NumberedTables) → AreAbout lists t → (n : ℕ) → slice_get lists.productions n ≡ None → side_at (numbers_of t) n ≡ None
no_side_at lists t about n none = ⊎_elim
    (λ there. absurd (some_not_none there.0 (sym there.2 ∙ none)))
    (λ past. ap (λ o. side_with (numbers_of t) n o) (counts_right t) ∙ no_side t n (let over = past.0 in let many = as_many lists t about 0 in omega (arith, over, many)))
    (slice_get_cases lists.productions n).1
