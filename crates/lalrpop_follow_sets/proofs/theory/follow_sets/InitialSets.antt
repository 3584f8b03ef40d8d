-- The tokens that follow nonterminals in states at once: the bits of suffixes, and of Eof after the
-- start symbol.
use Rattle.std.proofs.Common.{◌≡◌, ◌∙◌, ◌⊎◌, inl, inr, ℕ, ◌+◌, ◌<◌, ◌≤◌, ◌↔◌, true, List, [], ◌∷◌, ◌++◌, drop, length, get_or, set, refl, sym, ap, subst, arith}
use Rattle.std.specs.Prelude.{slice_get, Option, Some, None, Contains}
use Rattle.std.proofs.lemmas.Bool.{cases_lt}
use Rattle.std.proofs.lemmas.List.{get_or_default}
use Rattle.std.proofs.lemmas.List.Elements.{Contains-append_left, Contains-push_cases, Contains-push}
use Rattle.std.proofs.lemmas.Option.{slice_get_within}
use Rattle.lalrpop_base.specs.Words.{Bits, Dotted, IsBitOf, IsFirst, has, join, rules_of, with_bit, HasSuffix, IsSuffix, with_dot, dotted_at}
use Rattle.lalrpop_follow_sets.specs.Words.{HasBitAtOnce, IsFollowNode}
use Rattle.lalrpop_follow_sets.specs.Words.{FollowsAtOnce}
use Rattle.lalrpop_follow_sets.proofs.Types.{Nil, NonterminalString, Symbol, Token}
use Rattle.lalrpop_grammar.specs.declared.lookahead.token.Token.TheVariants.{Eof, Terminal as TokenOf}
use Rattle.lalrpop_grammar.specs.declared.repr.Symbol.TheVariants.{Nonterminal}
use Rattle.lalrpop_follow_sets.specs.follow_sets.FollowNodes.{IsPass, nodes_of}
use Rattle.lalrpop_follow_sets.specs.lanes.FollowSets.FollowsAtOnce.{ends_input, is_first_behind}
use Rattle.lalrpop_follow_sets.specs.follow_sets.FollowWalks.{AreInitialSets, AreEmptySets, IsEofOfStartNode, IsSuffixBit, IsSuffixBitIn, IsSomeSuffixBit, TakesBits}
use Rattle.lalrpop_construction.specs.states.SamePlaces.{places_in}
use Rattle.lalrpop_construction.specs.states.NumberedStates.{item_numbers_at, transitions_at}
use Rattle.lalrpop_construction.specs.declared.construction.numbered_state.NumberedState.{NumberedState}
use Rattle.lalrpop_follow_sets.specs.declared.follow_sets.pass.Pass.{Pass}
use Rattle.lalrpop_numbers.specs.declared.numbers.suffixes.Suffix.{Suffix}
use Rattle.lalrpop_states.proofs.theory.closures.Closing.{split_drop}
use Rattle.lalrpop_follow_sets.proofs.theory.follow_sets.FollowBits.{join_bits, takes_at, takes_none, takes_same, takes_then, with_bit_bits}
use Rattle.lalrpop_follow_sets.proofs.theory.follow_sets.FollowNodes.{item_known, item_listed, node_of_pair, node_within, nodes_counted, one_node, one_number, pair_of_node, state_of_item, state_of_node, transition_leads, transition_node, transitions_read}
use Rattle.lalrpop_collections.proofs.theory.lists.Members.{Contains-none, place}
use Rattle.lalrpop_construction.proofs.theory.numbers.Numbers.{stands_at}
use Rattle.lalrpop_collections.proofs.theory.lists.Places.{same_some, slice_get_at}
use Rattle.lalrpop_grammar.proofs.theory.grammars.Grammars.{same_front, same_after}

-- ---- the rest of one item
module _ (pass : Pass) (is : IsPass pass) (s k : ℕ) (held : Contains (item_numbers_at pass.numbered.now s) k) where
  abbrev items : List (Dotted Nil)
  items = pass.numbers.now.items.items

  abbrev item : Dotted Nil
  item = dotted_at items k

  -- the item is at its number
  at : slice_get items k ≡ Some item
  at = stands_at items k (item_known pass is s k held)

  -- the list of suffixes has an entry at the number of the item
  pub rest_listed : k < length pass.suffixes.now
  rest_listed = let l = item_known pass is s k held in let e = is.suffixes.counted in omega arith

  -- the list of symbols after dots has an entry at the number of the item
  pub behind_listed : k < length pass.numbers.now.behind.items
  behind_listed = let l = item_known pass is s k held in let e = pass.numbers.now.counted in omega arith

  -- a finished item gives no bit
  pub finished_gives : slice_get pass.numbers.now.behind.items k ≡ Some None → (sets : List Bits) → TakesBits (IsSuffixBit pass s k) sets sets
  finished_gives none = takes_none (IsSuffixBit pass s k) (λ n bit r.
      let end : r.item.index ≡ length r.item.production.symbols = is.numbers.behind k r.item None r.numbered none in
      let l = slice_get_within r.item.production.symbols r.item.index (Nonterminal r.name) (split_drop r.item.index r.item.production.symbols (Nonterminal r.name) r.after r.behind) in
      omega arith)

  -- an item without a nonterminal after its dot gives no bit
  pub other_gives : slice_get pass.suffixes.now k ≡ Some None → (sets : List Bits) → TakesBits (IsSuffixBit pass s k) sets sets
  other_gives none = takes_none (IsSuffixBit pass s k) (λ n bit r. is.suffixes.each k r.item None r.numbered none r.name r.after r.behind)

  module _ (behind : Option ℕ) (x : ℕ) (read_behind : behind ≡ get_or pass.numbers.now.behind.items k behind) (some_behind : behind ≡ Some x)
      (found : Option Suffix) (rest : Suffix) (read_rest : found ≡ get_or pass.suffixes.now k found) (some_rest : get_or pass.suffixes.now k found ≡ Some rest)
      (state : NumberedState) (edges : List (ℕ × ℕ)) (read_state : state ≡ get_or pass.numbered.now s state) (read_edges : edges ≡ (get_or pass.numbered.now s state).edges.items) where
    -- the number of the symbol after the dot
    at_behind : slice_get pass.numbers.now.behind.items k ≡ Some (Some x)
    at_behind = slice_get_at pass.numbers.now.behind.items k behind behind_listed read_behind ∙ ap Some some_behind

    -- the rest of the item
    at_rest : slice_get pass.suffixes.now k ≡ Some (Some rest)
    at_rest = slice_get_at pass.suffixes.now k found rest_listed read_rest ∙ ap Some (read_rest ∙ some_rest)

    -- the transitions of the state
    all_edges : edges ≡ transitions_at pass.numbered.now s
    all_edges = transitions_read pass is s (state_of_item pass is s k held) state edges read_state read_edges

    -- a nonterminal is after the dot, and its rest is known
    told : (a : NonterminalString) × (after : List Symbol) × HasSuffix item a after × IsSuffix (rules_of pass.grammar.now) after rest
    told = is.suffixes.each k item (Some rest) at at_rest

    -- the number after the dot is that of the nonterminal
    symbol_there : slice_get pass.numbers.now.symbols.items x ≡ Some (Nonterminal told.0)
    symbol_there =
        let b = is.numbers.behind k item (Some x) at at_behind in
        b.1 ∙ sym b.2 ∙ split_drop item.index item.production.symbols (Nonterminal told.0) told.1 told.2

    -- the state has a transition over the nonterminal
    leads_on : (target : ℕ) × Contains edges (x, target)
    leads_on =
        let there = (item_listed pass is s k item at (state_of_item pass is s k held)).0 held in
        let edge = (is.closed.edges s (Nonterminal told.0)).1 (record { production = item.production; dot = item.index; after = told.1; item = there; behind = told.2 }) in
        (edge.0, subst (λ (es : List (ℕ × ℕ)). Contains es (x, edge.0)) (sym all_edges) ((transition_leads pass is s x edge.0 (Nonterminal told.0) symbol_there).1 edge.1))

    -- so the search for this transition never finds none
    pub no_place_gives : ((target : ℕ) → ¬ Contains edges (x, target)) → (sets : List Bits) → TakesBits (IsSuffixBit pass s k) sets sets
    no_place_gives none = absurd (none leads_on.0 leads_on.1)

    module _ (p target first : ℕ) (there_edge : slice_get edges p ≡ Some (x, target)) (read : first ≡ get_or pass.nodes.now.firsts.items s first) where
      -- the transition over the nonterminal
      edge : slice_get (transitions_at pass.numbered.now s) p ≡ Some (x, target)
      edge = subst (λ (es : List (ℕ × ℕ)). slice_get es p ≡ Some (x, target)) all_edges there_edge

      -- its node
      node_there : IsFollowNode (nodes_of pass) (first + p) s told.0
      node_there =
          let listed : s < length pass.nodes.now.firsts.items =
          let l = state_of_item pass is s k held in let e = is.nodes.counted in let f = is.numbered.counted in omega arith in
          let same : first ≡ get_or pass.nodes.now.firsts.items s 0 = read ∙ get_or_default pass.nodes.now.firsts.items s first 0 listed in
          subst (λ (n : ℕ). IsFollowNode (nodes_of pass) (n + p) s told.0) (sym same) (transition_node pass is s p x target told.0 edge symbol_there)

      -- the node is one of the pass
      pub node_listed : first + p < length (nodes_of pass)
      node_listed = let l = node_within pass is (first + p) s told.0 node_there in let e = nodes_counted pass is in omega arith

      -- the rest gives its FIRST set to the node of the transition
      pub rest_gives : (sets : List Bits) → length sets ≡ length (nodes_of pass) → (there after : Bits) → there ≡ get_or sets (first + p) there → after ≡ join there rest.first → TakesBits (IsSuffixBit pass s k) sets (set sets (first + p) after)
      rest_gives sets counted there after reads joined =
          let n : ℕ = first + p in
          let more : (bit : ℕ) → (has after bit ≡ true) ↔ ((has there bit ≡ true) ⊎ (has rest.first bit ≡ true)) = λ bit. subst (λ (b : Bits). (has b bit ≡ true) ↔ ((has there bit ≡ true) ⊎ (has rest.first bit ≡ true))) (sym joined) (join_bits there rest.first bit) in
          let taken = takes_at sets n (let l = node_listed in omega arith) there after reads (λ bit. has rest.first bit ≡ true) more in
          takes_same (λ m bit. (m ≡ n) × (has rest.first bit ≡ true)) (IsSuffixBit pass s k) (λ m bit. (
            λ h. record {
              name = told.0;
              after = told.1;
              item = item;
              numbered = at;
              behind = told.2;
              node = subst (λ (j : ℕ). IsFollowNode (nodes_of pass) j s told.0) (sym h.0) node_there;
              first = (told.3.first bit).0 h.1;
            },
            λ r.
                let same : r.item ≡ item = same_some r.item item (sym r.numbered ∙ at) in
                let both : Nonterminal r.name ∷ r.after ≡ Nonterminal told.0 ∷ told.1 = sym r.behind ∙ ap (λ (i : Dotted Nil). drop i.index i.production.symbols) same ∙ told.2 in
                let name : r.name ≡ told.0 = same_front r.name told.0 r.after told.1 both in
                let rest_same : r.after ≡ told.1 = same_after r.name told.0 r.after told.1 both in (
                  one_node pass is m n s told.0 (subst (λ (b : NonterminalString). IsFollowNode (nodes_of pass) m s b) name r.node) node_there,
                  (told.3.first bit).1 (r.first.0, r.first.1, subst (λ (l : List Symbol). IsFirst (rules_of pass.grammar.now).productions l r.first.0) rest_same r.first.2),
                ),
          )) sets (set sets n after) taken

-- ---- the suffixes of items, one more
module _ (pass : Pass) (s : ℕ) where
  -- the bit is of the rest of one of the items
  abbrev pub RestAmong : List ℕ → ℕ → ℕ → Type 0
  RestAmong ks n bit = (k : ℕ) × Contains ks k × IsSuffixBit pass s k n bit

  -- no items give no bits
  pub among_none : (sets : List Bits) → TakesBits (RestAmong []) sets sets
  among_none = takes_none (RestAmong []) (λ n bit r. Contains-none r.0 r.1)

  -- one item more gives its bits
  pub among_more : (ks : List ℕ) (k : ℕ) (old mid new : List Bits) → TakesBits (RestAmong ks) old mid → TakesBits (IsSuffixBit pass s k) mid new → TakesBits (RestAmong (ks ++ k ∷ [])) old new
  among_more ks k old mid new before last = takes_same (λ n bit. RestAmong ks n bit ⊎ IsSuffixBit pass s k n bit) (RestAmong (ks ++ k ∷ [])) (λ n bit. (
    λ h. elim h [
      | inl r ↦ (r.0, Contains-append_left ks (k ∷ []) r.0 r.1, r.2)
      | inr r ↦ (k, Contains-push ks k, r)
    ],
    λ r. elim (Contains-push_cases ks k r.0 r.1) [
      | inl c ↦ inl (r.0, c, r.2)
      | inr same ↦ inr (subst (λ (j : ℕ). IsSuffixBit pass s j n bit) (sym same) r.2)
    ],
  )) old new (takes_then (RestAmong ks) (IsSuffixBit pass s k) old mid new before last)

-- ---- the suffixes of states, one more
module _ (pass : Pass) where
  -- the bit is of the rest of an item of one of the first states
  abbrev pub RestBelow : ℕ → ℕ → ℕ → Type 0
  RestBelow count n bit = (s : ℕ) × (s < count) × IsSuffixBitIn pass s n bit

  -- no states give no bits
  pub below_none : (sets : List Bits) → TakesBits (RestBelow 0) sets sets
  below_none = takes_none (RestBelow 0) (λ n bit r. let l = r.1 in absurd (omega arith))

  -- one state more gives its bits
  pub below_more : (s : ℕ) (old mid new : List Bits) → TakesBits (RestBelow s) old mid → TakesBits (IsSuffixBitIn pass s) mid new → TakesBits (RestBelow (s + 1)) old new
  below_more s old mid new before last = takes_same (λ n bit. RestBelow s n bit ⊎ IsSuffixBitIn pass s n bit) (RestBelow (s + 1)) (λ n bit. (
    λ h. elim h [
      | inl r ↦ (r.0, (let l = r.1 in omega arith), r.2)
      | inr r ↦ (s, omega arith, r)
    ],
    λ r. elim (cases_lt r.0 s) [
      | inl l ↦ inl (r.0, l, r.2)
      | inr l ↦ let same : r.0 ≡ s = (let m = r.1 in omega arith) in inr (subst (λ (j : ℕ). IsSuffixBitIn pass j n bit) same r.2)
    ],
  )) old new (takes_then (RestBelow s) (IsSuffixBitIn pass s) old mid new before last)

  -- all states give all bits of suffixes
  pub below_all : IsPass pass → (count : ℕ) → length pass.numbered.now ≤ count → (old new : List Bits) → TakesBits (RestBelow count) old new → TakesBits (IsSomeSuffixBit pass) old new
  below_all is count all = takes_same (RestBelow count) (IsSomeSuffixBit pass) (λ n bit. (
    λ r. (r.0, r.2),
    λ r. (r.0, (let l = state_of_item pass is r.0 r.1.0 r.1.1 in let e = is.numbered.counted in omega arith), r.1),
  ))

-- ---- Eof after the start symbol
-- the bit is that of Eof, and the node is one of the first
abbrev pub EndBelow : Pass → ℕ → ℕ → ℕ → Type 0
EndBelow pass count n bit = (n < count) × IsEofOfStartNode pass n bit

-- before the first node no set gets Eof
pub ends_none : (pass : Pass) (sets : List Bits) → TakesBits (EndBelow pass 0) sets sets
ends_none pass = takes_none (EndBelow pass 0) (λ n bit r. let l = r.0 in absurd (omega arith))

module _ (pass : Pass) (is : IsPass pass) where
  module _ (node : ℕ) (old mid : List Bits) (pair : ℕ × ℕ) (at : slice_get pass.nodes.now.pairs.items node ≡ Some pair) (counted : length old ≡ length (nodes_of pass)) (before : TakesBits (EndBelow pass node) old mid) where
    -- a node of the start symbol gets Eof
    pub ends_here : pair.1 ≡ pass.start.now.number → (there after : Bits) → there ≡ get_or mid node there → after ≡ with_bit there (length pass.grammar.now.terminals) → TakesBits (EndBelow pass (node + 1)) old (set mid node after)
    ends_here same there after read added =
        let end : ℕ = length pass.grammar.now.terminals in
        let within : node < length mid =
        let l = slice_get_within pass.nodes.now.pairs.items node pair at in let e = nodes_counted pass is in let f = before.counted in omega arith in
        let here : IsFollowNode (nodes_of pass) node pair.0 pass.name.now = node_of_pair pass is node pair.0 pair.1 pass.name.now at (inr (same, refl)) in
        let more : (bit : ℕ) → (has after bit ≡ true) ↔ ((has there bit ≡ true) ⊎ (bit ≡ end)) = λ bit. subst (λ (b : Bits). (has b bit ≡ true) ↔ ((has there bit ≡ true) ⊎ (bit ≡ end))) (sym added) (with_bit_bits there end bit) in
        let taken = takes_at mid node within there after read (λ bit. bit ≡ end) more in
        takes_same (λ n bit. EndBelow pass node n bit ⊎ ((n ≡ node) × (bit ≡ end))) (EndBelow pass (node + 1)) (λ n bit. (
          λ h. elim h [
            | inl r ↦ ((let l = r.0 in omega arith), r.1)
            | inr r ↦ ((let e = r.0 in omega arith), (pair.0, subst (λ (j : ℕ). IsFollowNode (nodes_of pass) j pair.0 pass.name.now) (sym r.0) here, r.1))
          ],
          λ r. elim (cases_lt n node) [
            | inl l ↦ inl (l, r.1)
            | inr l ↦ inr ((let m = r.0 in omega arith), r.1.2)
          ],
        )) old (set mid node after) (takes_then (EndBelow pass node) (λ n bit. (n ≡ node) × (bit ≡ end)) old mid (set mid node after) before taken)

    -- a node of another nonterminal gets no bit
    pub ends_past : (pair.1 ≡ pass.start.now.number → ⊥) → TakesBits (EndBelow pass (node + 1)) old mid
    ends_past other = takes_same (EndBelow pass node) (EndBelow pass (node + 1)) (λ n bit. (
      λ r. ((let l = r.0 in omega arith), r.1),
      λ r. elim (cases_lt n node) [
        | inl l ↦ (l, r.1)
        | inr l ↦
            let here : n ≡ node = (let m = r.0 in omega arith) in
            let p = pair_of_node pass is n r.1.0 pass.name.now r.1.1 in
            let number : p.0 ≡ pass.start.now.number = one_number pass is p.0 pass.start.now.number pass.name.now p.2 (inr (refl, refl)) in
            let same : pair ≡ (r.1.0, p.0) = same_some pair (r.1.0, p.0) (sym at ∙ ap (slice_get pass.nodes.now.pairs.items) (sym here) ∙ p.1) in
            absurd (other (ap (λ (q : ℕ × ℕ). q.1) same ∙ number))
      ],
    )) old mid before

  -- after the last node each set of the start symbol has Eof
  pub ends_all : (count : ℕ) → length pass.nodes.now.pairs.items ≤ count → (old new : List Bits) → TakesBits (EndBelow pass count) old new → TakesBits (IsEofOfStartNode pass) old new
  ends_all count all = takes_same (EndBelow pass count) (IsEofOfStartNode pass) (λ n bit. (
    λ r. r.1,
    λ r. ((let l = node_within pass is n r.0 pass.name.now r.1 in omega arith), r),
  ))

-- ---- all tokens that follow at once
module _ (pass : Pass) (is : IsPass pass) (n s : ℕ) (a : NonterminalString) (node : IsFollowNode (nodes_of pass) n s a) (bit : ℕ) where
  abbrev AtOnce : Type 0
  AtOnce = HasBitAtOnce (rules_of pass.grammar.now) pass.name.now (places_in pass.states.now) (nodes_of pass) s a bit

  -- a bit of a rest is that of a token which follows at once
  rest_token : IsSomeSuffixBit pass n bit → AtOnce
  rest_token h =
      let from = h.0 in
      let k = h.1.0 in
      let r = h.1.2 in
      let same : (from, r.name) ≡ (s, a) = same_some (from, r.name) (s, a) (sym r.node ∙ node) in
      let there = (item_listed pass is from k r.item r.numbered (state_of_item pass is from k h.1.1)).0 h.1.1 in
      let follows : FollowsAtOnce (rules_of pass.grammar.now).productions pass.name.now (places_in pass.states.now) from r.name (TokenOf r.first.0) = is_first_behind from r.name r.item.production r.item.index r.after r.first.0 there r.behind r.first.2 in
      (TokenOf r.first.0, r.first.1, subst (λ (p : ℕ × NonterminalString). FollowsAtOnce (rules_of pass.grammar.now).productions pass.name.now (places_in pass.states.now) p.0 p.1 (TokenOf r.first.0)) same follows)

  -- the bit of Eof is that of a token which follows at once
  end_token : IsEofOfStartNode pass n bit → AtOnce
  end_token h =
      let same : (h.0, pass.name.now) ≡ (s, a) = same_some (h.0, pass.name.now) (s, a) (sym h.1 ∙ node) in
      (Eof, h.2, subst (λ (p : ℕ × NonterminalString). FollowsAtOnce (rules_of pass.grammar.now).productions pass.name.now (places_in pass.states.now) p.0 p.1 Eof) same (ends_input h.0))

-- a token that follows at once is of a rest, or is Eof
token_bit : (pass : Pass) → IsPass pass → (n s : ℕ) (a : NonterminalString) (t : Token) (bit : ℕ) → IsFollowNode (nodes_of pass) n s a → IsBitOf (rules_of pass.grammar.now).terminals t bit →
    FollowsAtOnce (rules_of pass.grammar.now).productions pass.name.now (places_in pass.states.now) s a t → IsSomeSuffixBit pass n bit ⊎ IsEofOfStartNode pass n bit
token_bit pass is n s a t bit node number (is_first_behind _ _ q dot after u there behind first) =
    let own = is.own s q dot there in
    let k = place pass.numbers.now.items.items (with_dot q dot) (is.numbers.items.all q dot own.0 own.1) in
    inl (
      s,
      (
        k.0,
        (item_listed pass is s k.0 (with_dot q dot) k.2 (state_of_node pass is n s a node)).1 there,
        record {
          name = a;
          after = after;
          item = with_dot q dot;
          numbered = k.2;
          behind = behind;
          node = node;
          first = (u, number, first);
        },
      ),
    )
token_bit pass is n s a t bit node number (ends_input _) = inr (s, node, number)

-- the bits of suffixes and of Eof are those of all tokens that follow at once
pub initial_is : (pass : Pass) → IsPass pass → (count : ℕ) → count ≡ length pass.nodes.now.pairs.items → (empty mid new : List Bits) → AreEmptySets count empty → TakesBits (IsSomeSuffixBit pass) empty mid → TakesBits (IsEofOfStartNode pass) mid new → AreInitialSets pass new
initial_is pass is count whole empty mid new none suffixes ends = record {
  counted = ends.counted ∙ suffixes.counted ∙ none.counted ∙ whole ∙ sym (nodes_counted pass is);
  begun = λ n s a node bit. (
    λ h. elim ((ends.bits n bit).0 h) [
      | inl there ↦ elim ((suffixes.bits n bit).0 there) [
        | inl first ↦ absurd (none.empty n bit first)
        | inr r ↦ rest_token pass is n s a node bit r
      ]
      | inr e ↦ end_token pass is n s a node bit e
    ],
    λ h. (ends.bits n bit).1 (elim (token_bit pass is n s a h.0 bit node h.1 h.2) [
      | inl r ↦ inl ((suffixes.bits n bit).1 (inr r))
      | inr e ↦ inr e
    ]),
  );
}
