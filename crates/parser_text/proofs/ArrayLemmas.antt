-- The arrays that were packed of the rows of a table are those of the table.
use Rattle.std.proofs.Common.{◌≡◌, ◌≢◌, ⊎_elim, ℕ, ◌+◌, ◌<◌, ◌≤◌, cond, List, length, slice_get, slice_index, Option, None, Some, ◌∙◌, ap, subst, arith, ne_eqb}
use Rattle.std.proofs.lemmas.Bool.{cases_lt}
use Rattle.std.proofs.lemmas.Option.{slice_get_past, slice_get_within}
use Rattle.std.specs.declared.alloc.Global.{Global}
use Rattle.std.specs.declared.vec.Vec.{Vec}
use Rattle.lalrpop_base.specs.Words.{CanStandNext, Contents, IsBitOf, action_on}
use Rattle.lalrpop_grammar.specs.declared.lookahead.token.Token.{Token}
use Rattle.lalrpop_grammar.specs.declared.repr.NonterminalString.{NonterminalString}
use Rattle.packed_tables.specs.Lookup.{action_in, goto_in}
use Rattle.packed_tables.specs.Packed.{ArePacked, AreRows, goto_or, numbers_of, row_at}
use Rattle.packed_tables.specs.declared.packed.PackedTables.{PackedTables}
use Rattle.parse_tables.specs.Codes.{entry_of}
use Rattle.parse_tables.specs.Tables.{IsTableOf}
use Rattle.parse_tables.specs.declared.table.ParseTable.{ParseTable}
use Rattle.parse_tables.proofs.ActionRows.{bit_within}
use Rattle.parser_text.specs.Arrays.{AreArraysOf}
use Rattle.parser_text.specs.Hidden.{shown_entry}
use Rattle.parser_text.specs.Rows.{HaveActionRows, HaveGotoRows, target_number}

module _ (hidden : Option NonterminalString) (p : PackedTables) (listed t : ParseTable) (count : ℕ) (actions gotos : List (Vec ℕ Global)) (packed : ArePacked p actions gotos) (all_actions : length actions ≡ count) (all_gotos : length gotos ≡ count) (of_actions : HaveActionRows hidden listed t actions) (of_gotos : HaveGotoRows listed t gotos) where
  in_actions : (state : ℕ) → state < count → state < length actions
  in_actions state l = omega (arith, l, all_actions)

  in_gotos : (state : ℕ) → state < count → state < length gotos
  in_gotos state l = omega (arith, l, all_gotos)

  in_action_row : (state bit : ℕ) → state < count → bit < length t.terminals + 1 → bit < length (row_at actions state)
  in_action_row state bit l few = let long = (of_actions state (in_actions state l)).long in omega (arith, few, long)

  in_goto_row : (state number : ℕ) → state < count → number < length listed.nonterminals → number < length (row_at gotos state)
  in_goto_row state number l few = let long = (of_gotos state (in_gotos state l)).long in omega (arith, few, long)

  actions_are : (states : ℕ → Contents) → IsTableOf t states → (state bit : ℕ) (token : Token) → state < count → CanStandNext token → IsBitOf t.terminals token bit → entry_of listed.productions (action_in p state bit) ≡ shown_entry hidden (action_on (states state) token)
  actions_are states is state bit token l next at =
      let within = in_action_row state bit l (bit_within t.terminals token bit next at) in
      ap (entry_of listed.productions) (packed.each_action state (in_actions state l) bit within).found
      ∙ (of_actions state (in_actions state l)).each bit within states is token next at

  -- what the lookup of a goto finds
  found : (state number : ℕ) → state < count → number < length listed.nonterminals → goto_in p state number ≡ goto_or (slice_index (row_at gotos state) number) (slice_index p.goto_usual.items number)
  found state number l few = (packed.each_goto state (in_gotos state l) number (in_goto_row state number l few)).found

  -- the number of a goto is that of the state
  number_is : (states : ℕ → Contents) → IsTableOf t states → (state number : ℕ) (name : NonterminalString) → state < count → slice_get listed.nonterminals number ≡ Some name → slice_index (row_at gotos state) number ≡ target_number ((states state).goto name)
  number_is states is state number name l at = ((of_gotos state (in_gotos state l)).each number (in_goto_row state number l (slice_get_within listed.nonterminals number name at))).is states is name at

  gotos_are : (states : ℕ → Contents) → IsTableOf t states → (state number target : ℕ) (name : NonterminalString) → state < count → slice_get listed.nonterminals number ≡ Some name → (states state).goto name ≡ Some target → goto_in p state number ≡ target
  gotos_are states is state number target name l at leads =
      let few = slice_get_within listed.nonterminals number name at in
      let usual = slice_index p.goto_usual.items number in
      let own : slice_index (row_at gotos state) number ≡ target = number_is states is state number name l at ∙ ap target_number leads in
      let some : target ≢ 0 = λ (zero : target ≡ 0). ((of_gotos state (in_gotos state l)).each number (in_goto_row state number l few)).some states is name at (leads ∙ ap Some zero) in
      found state number l few ∙ ap (λ n. goto_or n usual) own ∙ ap (λ b. cond b usual target) (ne_eqb target 0 some)

  none_are : (states : ℕ → Contents) → IsTableOf t states → (number : ℕ) (name : NonterminalString) → slice_get listed.nonterminals number ≡ Some name → ((state : ℕ) → state < count → (states state).goto name ≡ None) → (state : ℕ) → state < count → goto_in p state number ≡ 0
  none_are states is number name at none state l =
      let few = slice_get_within listed.nonterminals number name at in
      let zero : (s : ℕ) → slice_index (row_at gotos s) number ≡ 0 = λ s. ⊎_elim
      (λ (before : s < count). number_is states is s number name before at ∙ ap target_number (none s before))
      (λ (past : count ≤ s). ap (λ o. slice_index (numbers_of o) number) (slice_get_past gotos s (omega (arith, past, all_gotos))))
      (cases_lt s count) in
      let usual : slice_index p.goto_usual.items number ≡ 0 = packed.usual number zero in
      found state number l few ∙ ap (λ n. goto_or n (slice_index p.goto_usual.items number)) (zero state) ∙ usual

  pub arrays_are : AreArraysOf hidden p listed t count
  arrays_are = record {
    action_rows = subst (AreRows p.actions) all_actions packed.action_rows;
    goto_rows = subst (AreRows p.gotos) all_gotos packed.goto_rows;
    reductions = packed.reductions ∙ all_actions;
    state_sets = packed.state_sets ∙ all_actions;
    actions = actions_are;
    gotos = gotos_are;
    none = none_are;
    action_within = λ state bit l few. let it = packed.each_action state (in_actions state l) bit (in_action_row state bit l few) in record { cell = it.cell; byte = it.byte };
    goto_within = λ state number l few. let it = packed.each_goto state (in_gotos state l) number (in_goto_row state number l few) in record { cell = it.cell; usual = it.usual };
  }
