-- A closure by nonterminals: the tokens that items give, and the loop until the queue is empty.
use Rattle.std.proofs.Common.{◌≡◌, ◌↔◌, ℕ, ◌+◌, ◌-◌, ◌*◌, ◌<◌, ◌≤◌, ◌⊎◌, inl, inr, List, [], ◌∷◌, ◌++◌, length, drop, refl, sym, ◌∙◌, ap, subst, arith, true}
use Rattle.std.specs.Prelude.{Contains}
use Rattle.std.specs.Map.{keys_of}
use Rattle.std.proofs.lemmas.List.Elements.{Contains-append_left, Contains-append_right, Contains-append_cases}
use Rattle.std.proofs.lemmas.Option.{slice_get_within}
use Rattle.std.specs.List.{range_with_len}
use Rattle.std.proofs.lemmas.List.FromFn.{length-range_with_len}
use Rattle.std.proofs.lemmas.List.Sums.{sum_by-cons}
use Rattle.std.proofs.lemmas.List.{length-map}
use Rattle.std.proofs.lemmas.Nat.{mul-le}
use Rattle.lalrpop_base.specs.Words.{Bits, has, InClosure, in_kernel, expanded, holds_token, Dotted, AllDiffer, FitsTokens, Rules, Adds, count, HasItemToken}
use Rattle.lalrpop_base.specs.Words.{InKernel, InTokenClosureBy, IsFound, IsBelow, burden, from_parent, from_rest, own_token}
use Rattle.lalrpop_construction.specs.Words.{AllFit, IsExpansionWith, IsNamed, IsPropagated}
use Rattle.lalrpop_construction.specs.Words.{IsPropagation, MayFollow, MayFollowIn, NonterminalTokens, Propagates, StandsBehind, StandsBehindOne}
use Rattle.lalrpop_construction.proofs.Types.{NonterminalString, Production, Symbol, Token}
use Rattle.lalrpop_grammar.specs.declared.repr.Symbol.TheVariants.{Nonterminal}
use Rattle.lalrpop_states.specs.states.Items.{dotted_of}
use Rattle.lalrpop_collections.specs.lists.Entries.{IsQueued}
use Rattle.lalrpop_numbers.specs.declared.numbers.Numbers.{Numbers}
use Rattle.lalrpop_collections.proofs.theory.lists.Growth.{Adds-one, Grows-none, Grows-then, entry_key, key_entry, known_kept, queued_among, queued_weighed}
use Rattle.lalrpop_states.proofs.theory.grammars.KnownTerminals.{bit_held, held_bit, holds_more}
use Rattle.lalrpop_collections.proofs.theory.lists.Members.{contains-cons, contains_head, contains_map, Contains-none, Contains-range, contains_tail, pigeonhole}
use Rattle.lalrpop_collections.proofs.theory.lists.Places.{apart_from_differ, same_some}
use Rattle.lalrpop_collections.proofs.theory.sets.Subsets.{count_few}
use Rattle.lalrpop_collections.proofs.theory.lists.Updates.{one_value}
use Rattle.lalrpop_grammar.proofs.theory.grammars.Grammars.{same_front, same_after}

one_name : (n : Numbers) (x : ℕ) (a b : NonterminalString) → IsNamed n x a → IsNamed n x b → a ≡ b
one_name n x a b p q = let e = same_some _ _ (sym p ∙ q) in cc

-- ---- the loop ends
module _ (g : Rules) (n : Numbers) where
  shared_le : (table : NonterminalTokens) → burden (length g.terminals + 2) table ≤ length table * (length g.terminals + 3)
  shared_le [] = omega arith
  shared_le (e ∷ es) =
      let l = shared_le es in
      let c = count_few (length g.terminals + 2) e.1 in
      let w = sum_by-cons (λ (x : ℕ × Bits). 1 + count (length g.terminals + 2) x.1) e es in
      omega arith

  shared_few : (table : NonterminalTokens) → ((e : ℕ × Bits) → Contains table e → e.0 < length n.symbols.items) → AllDiffer (keys_of table) → burden (length g.terminals + 2) table ≤ length n.symbols.items * (length g.terminals + 3)
  shared_few table known differ =
      let m = length n.symbols.items in
      let few = pigeonhole (keys_of table) (range_with_len 0 m) (apart_from_differ (keys_of table) differ) (λ k c. let h = key_entry table k c in Contains-range m k (known (k, h.0) h.1)) in
      let l = shared_le table in
      let p = mul-le (length table) (length g.terminals + 3) m (length g.terminals + 3) (omega (arith, few, length-map table (λ (e : ℕ × Bits). e.0), length-range_with_len 0 m)) (omega arith) in
      omega arith

  -- a bound of the number of steps that are left
  abbrev pub work : NonterminalTokens → List ℕ → ℕ
  work table queue = length n.symbols.items * (length g.terminals + 3) + length queue - burden (length g.terminals + 2) table

module _ (begins : Rules → List Symbol → Token → Type 0) (passes : Rules → List Symbol → Type 0) (g : Rules) (n : Numbers) where
  -- ---- tokens that are shared stay shared
  pub shared_kept : (a b : NonterminalTokens) → ((e : ℕ × Bits) → Contains a e → IsFound b e.0 e.1) → (i : Dotted Bits) → IsPropagated begins passes g n a i → IsPropagated begins passes g n b i
  shared_kept a b kept i s q after behind among =
      let h = s q after behind among in
      let k = kept (h.0, h.2.set) h.2.entry in
      (h.0, h.1, record { set = k.set; entry = k.entry; all = λ t f. holds_more g.terminals h.2.set k.set t k.all (h.2.all t f) })

  -- ---- nothing is given
  pub Propagates-nothing : (items : List (Dotted Bits)) (table : NonterminalTokens) (queue : List ℕ) → ((i : Dotted Bits) → Contains items i → IsPropagated begins passes g n table i) → Propagates begins passes g n items table table queue queue
  Propagates-nothing items table queue owed = record {
    grows = Grows-none table queue;
    keys = λ e c. inl (entry_key table e c);
    tokens = λ e t c h. inl (record { set = e.1; entry = c; there = h });
    there = owed;
    pushed_found = λ x c. inl c;
    differ = λ d. d;
    weighed = λ fit all. (all, omega arith);
  }

  -- ---- an item gives tokens to the nonterminal after its dot
  module _ (i : Dotted Bits) (x : ℕ) (name : NonterminalString) (after : List Symbol) (named : IsNamed n x name) (behind : drop i.index i.production.symbols ≡ Nonterminal name ∷ after)
      (given : Bits) (is : (t : Token) → (holds_token g.terminals given t ≡ true) ↔ MayFollow begins passes g n i after t) (fits : FitsTokens g.terminals i.lookahead → FitsTokens g.terminals given)
      (old new : NonterminalTokens) (queue pushed : List ℕ) (q : IsQueued x given old new queue pushed) where
    stands : (k : ℕ) → x ≡ k → StandsBehind n i k after
    stands k same = record { name = name; named = subst (λ (m : ℕ). IsNamed n m name) same named; behind = behind }

    adds : Adds (λ k. x ≡ k) given old new queue pushed
    adds = Adds-one x given old new queue pushed q

    shared_here : IsPropagated begins passes g n new i
    shared_here p later stood among =
        let f = adds.there x refl in
        let e = sym behind ∙ stood in
        let a : after ≡ later = same_after name p.nonterminal after later e in (
          x,
          subst (IsNamed n x) (same_front name p.nonterminal after later e) named,
          record {
            set = f.set;
            entry = f.entry;
            all = λ t m. holds_more g.terminals given f.set t f.all ((is t).1 (subst (λ (l : List Symbol). MayFollow begins passes g n i l t) (sym a) m));
          },
        )

    below : FitsTokens g.terminals i.lookahead → IsBelow (length g.terminals + 2) given
    below fit bit h = let l = fits fit bit h in omega arith

    all_below : FitsTokens g.terminals i.lookahead → AllFit g old → AllFit g new
    all_below fit all e c bit h = elim (adds.bits e bit c h) [ inl f ↦ all (e.0, f.set) f.entry bit f.there | inr m ↦ below fit bit m.1 ]

    pub Propagates-one : Propagates begins passes g n (i ∷ []) old new queue pushed
    Propagates-one = record {
      grows = adds.grows;
      keys = λ e c. elim (adds.keys e c) [ inl o ↦ inl o | inr same ↦ inr (record { item = i; among = contains_head i []; after = after; behind = stands e.0 same }) ];
      tokens = λ e t c h.
          let b = held_bit g.terminals e.1 t h in
          elim (adds.bits e b.0 c b.2) [
            | inl f ↦ inl (record { set = f.set; entry = f.entry; there = bit_held g.terminals f.set t b.0 b.1 f.there })
            | inr m ↦ inr (record { item = i; among = contains_head i []; after = after; behind = stands e.0 m.0; follows = (is t).0 (bit_held g.terminals given t b.0 b.1 m.1) })
          ];
      there = λ j c. elim (contains-cons i [] j c) [ inl same ↦ subst (IsPropagated begins passes g n new) same shared_here | inr none ↦ absurd (Contains-none j none) ];
      pushed_found = queued_among x given old new queue pushed q;
      differ = λ d. q.differ;
      weighed = λ fit all.
          let f = fit i (contains_head i []) in
          (all_below f all, queued_weighed x given old new queue pushed q (length g.terminals + 2) (below f) all);
    }

  -- ---- some items give tokens, and then others do
  module _ (firsts seconds : List (Dotted Bits)) where
    left_one : (x : ℕ) → StandsBehindOne n firsts x → StandsBehindOne n (firsts ++ seconds) x
    left_one x s = record { item = s.item; among = Contains-append_left firsts seconds s.item s.among; after = s.after; behind = s.behind }

    right_one : (x : ℕ) → StandsBehindOne n seconds x → StandsBehindOne n (firsts ++ seconds) x
    right_one x s = record { item = s.item; among = Contains-append_right firsts seconds s.item s.among; after = s.after; behind = s.behind }

    left_follow : (x : ℕ) (t : Token) → MayFollowIn begins passes g n firsts x t → MayFollowIn begins passes g n (firsts ++ seconds) x t
    left_follow x t s = record { item = s.item; among = Contains-append_left firsts seconds s.item s.among; after = s.after; behind = s.behind; follows = s.follows }

    right_follow : (x : ℕ) (t : Token) → MayFollowIn begins passes g n seconds x t → MayFollowIn begins passes g n (firsts ++ seconds) x t
    right_follow x t s = record { item = s.item; among = Contains-append_right firsts seconds s.item s.among; after = s.after; behind = s.behind; follows = s.follows }

    pub Propagates-then : (a b c : NonterminalTokens) (s t u : List ℕ) → Propagates begins passes g n firsts a b s t → Propagates begins passes g n seconds b c t u → Propagates begins passes g n (firsts ++ seconds) a c s u
    Propagates-then a b c s t u x y = record {
      grows = Grows-then a b c s t u x.grows y.grows;
      keys = λ e h. elim (y.keys e h) [
        | inl o ↦ let f = key_entry b e.0 o in elim (x.keys (e.0, f.0) f.1) [ inl p ↦ inl p | inr q ↦ inr (left_one e.0 q) ]
        | inr q ↦ inr (right_one e.0 q)
      ];
      tokens = λ e k h m. elim (y.tokens e k h m) [
        | inl f ↦ elim (x.tokens (e.0, f.set) k f.entry f.there) [ inl p ↦ inl p | inr q ↦ inr (left_follow e.0 k q) ]
        | inr q ↦ inr (right_follow e.0 k q)
      ];
      there = λ i h. elim (Contains-append_cases firsts seconds i h) [ inl p ↦ shared_kept b c y.grows.kept i (x.there i p) | inr q ↦ y.there i q ];
      pushed_found = λ k h. elim (y.pushed_found k h) [
        | inl o ↦ elim (x.pushed_found k o) [ inl p ↦ inl p | inr q ↦ inr (known_kept b c t u y.grows k q) ]
        | inr q ↦ inr q
      ];
      differ = λ d. y.differ (x.differ d);
      weighed = λ fit all.
          let p = x.weighed (λ i h. fit i (Contains-append_left firsts seconds i h)) all in
          let q = y.weighed (λ i h. fit i (Contains-append_right firsts seconds i h)) p.0 in
          (q.0, omega (arith, p.1, q.1));
    }

  -- ---- the loop
  module _ (kernel : List (Dotted Bits)) where
    abbrev pub Reached : Production → ℕ → Type 0
    Reached = InClosure g.productions (InKernel kernel)

    abbrev pub ReachedWith : Production → ℕ → Token → Type 0
    ReachedWith = InTokenClosureBy (begins g) (passes g) g.productions Reached (HasItemToken g.terminals kernel)

    -- the tokens that items of the closure give belong to the closure
    module _ (items : List (Dotted Bits)) (reached : (i : Dotted Bits) → Contains items i → Reached i.production i.index) (x : ℕ) (q : Production) (named : IsNamed n x q.nonterminal) (among : Contains g.productions q) where
      stood : (i : Dotted Bits) (after : List Symbol) → StandsBehind n i x after → drop i.index i.production.symbols ≡ Nonterminal q.nonterminal ∷ after
      stood i after s = s.behind ∙ ap (λ (a : NonterminalString). Nonterminal a ∷ after) (one_name n x s.name q.nonterminal s.named named)

      behind_reached : StandsBehindOne n items x → Reached q 0
      behind_reached s = expanded q s.after (reached s.item s.among) (stood s.item s.after s.behind) among

      followed : ((i : Dotted Bits) (t : Token) → Contains items i → holds_token g.terminals i.lookahead t ≡ true → ReachedWith i.production i.index t) → (t : Token) → MayFollowIn begins passes g n items x t → ReachedWith q 0 t
      followed held t m = elim m.follows [
        | inl b ↦ from_rest q m.after (reached m.item m.among) (stood m.item m.after m.behind) among b
        | inr p ↦ from_parent q m.after (held m.item t m.among p.1) (stood m.item m.after m.behind) among p.0
      ]

    within : (items : List (Dotted Bits)) (x : ℕ) → StandsBehindOne n items x → x < length n.symbols.items
    within items x s = slice_get_within n.symbols.items x (Nonterminal s.behind.name) s.behind.named

    pub kernel_token : (i : Dotted Bits) (t : Token) → Contains kernel i → holds_token g.terminals i.lookahead t ≡ true → ReachedWith i.production i.index t
    kernel_token i t c h = own_token (record { item = i; there = c; is = refl; holds = h })

    pub kernel_reached : (i : Dotted Bits) → Contains kernel i → Reached i.production i.index
    kernel_reached i c = in_kernel (contains_map dotted_of kernel i c)

    pub Sharing-start : (table : NonterminalTokens) (queue : List ℕ) → ((i : Dotted Bits) → Contains kernel i → FitsTokens g.terminals i.lookahead) → Propagates begins passes g n kernel [] table [] queue → IsPropagation begins passes g n kernel table queue
    Sharing-start table queue fit s = record {
      known = λ e c. within kernel e.0 (given_keys e c);
      reached = λ e q c named among. behind_reached kernel kernel_reached e.0 q named among (given_keys e c);
      tokens = λ e q t c named among h. followed kernel kernel_reached e.0 q named among kernel_token t (given_tokens e t c h);
      kernel_shared = s.there;
      shared = λ e c. elim (s.grows.changed e c) [ inl p ↦ inl p | inr none ↦ absurd (Contains-none e none) ];
      queued = λ x c. elim (s.pushed_found x c) [ inl none ↦ absurd (Contains-none x none) | inr k ↦ k ];
      differ = s.differ (λ i j x l at. cc);
      fit = (s.weighed fit (λ e c. absurd (Contains-none e c))).0;
    }
      where
        given_keys : (e : ℕ × Bits) → Contains table e → StandsBehindOne n kernel e.0
        given_keys e c = elim (s.keys e c) [ inl none ↦ absurd (Contains-none e.0 none) | inr b ↦ b ]

        given_tokens : (e : ℕ × Bits) (t : Token) → Contains table e → holds_token g.terminals e.1 t ≡ true → MayFollowIn begins passes g n kernel e.0 t
        given_tokens e t c h = elim (s.tokens e t c h) [ inl none ↦ absurd (Contains-none (e.0, none.set) none.entry) | inr m ↦ m ]

    module _ (x : ℕ) (set : Bits) (items : List (Dotted Bits)) (old new : NonterminalTokens) (queue pushed : List ℕ) (before : IsPropagation begins passes g n kernel old (x ∷ queue)) (entry : Contains old (x, set))
        (expansions : (i : Dotted Bits) → Contains items i ↔ IsExpansionWith g n x set i) (s : Propagates begins passes g n items old new queue pushed) where
      front_reached : (i : Dotted Bits) → Contains items i → Reached i.production i.index
      front_reached i c = let f = (expansions i).0 c in subst (Reached i.production) (sym f.start) (before.reached (x, set) i.production entry f.named f.among)

      front_token : (i : Dotted Bits) (t : Token) → Contains items i → holds_token g.terminals i.lookahead t ≡ true → ReachedWith i.production i.index t
      front_token i t c h =
          let f = (expansions i).0 c in
          subst (λ (k : ℕ). ReachedWith i.production k t) (sym f.start) (before.tokens (x, set) i.production t entry f.named f.among (subst (λ (b : Bits). holds_token g.terminals b t ≡ true) f.same h))

      front_fits : (i : Dotted Bits) → Contains items i → FitsTokens g.terminals i.lookahead
      front_fits i c bit h = let l = before.fit (x, set) entry bit (subst (λ (b : Bits). has b bit ≡ true) ((expansions i).0 c).same h) in omega arith

      old_entry : (k : ℕ) → Contains (keys_of old) k → (b : Bits) × Contains old (k, b)
      old_entry k c = key_entry old k c

      popped : (e : ℕ × Bits) → Contains old e → Contains (x ∷ queue) e.0 → Contains pushed e.0 ⊎ ((i : Dotted Bits) → IsExpansionWith g n e.0 e.1 i → IsPropagated begins passes g n new i)
      popped e c w = elim (contains-cons x queue e.0 w) [
        | inr later ↦ inl (s.grows.stays e.0 later)
        | inl same ↦ inr (λ i f.
            let value : e.1 ≡ set = one_value old before.differ x e.1 set (subst (λ (k : ℕ). Contains old (k, e.1)) (sym same) c) entry in
            let here : IsExpansionWith g n x set i = subst (λ (b : Bits). IsExpansionWith g n x b i) value (subst (λ (k : ℕ). IsExpansionWith g n k e.1 i) (sym same) f) in
            s.there i ((expansions i).1 here))
      ]

      pub Sharing-step : IsPropagation begins passes g n kernel new pushed
      Sharing-step = record {
        known = λ e c. elim (s.keys e c) [ inl o ↦ (let h = old_entry e.0 o in before.known (e.0, h.0) h.1) | inr b ↦ within items e.0 b ];
        reached = λ e q c named among. elim (s.keys e c) [
          | inl o ↦ let h = old_entry e.0 o in before.reached (e.0, h.0) q h.1 named among
          | inr b ↦ behind_reached items front_reached e.0 q named among b
        ];
        tokens = λ e q t c named among h. elim (s.tokens e t c h) [
          | inl f ↦ before.tokens (e.0, f.set) q t f.entry named among f.there
          | inr m ↦ followed items front_reached e.0 q named among front_token t m
        ];
        kernel_shared = λ i c. shared_kept old new s.grows.kept i (before.kernel_shared i c);
        shared = λ e c. elim (s.grows.changed e c) [
          | inl p ↦ inl p
          | inr o ↦ elim (before.shared e o) [ inl w ↦ popped e o w | inr done ↦ inr (λ i f. shared_kept old new s.grows.kept i (done i f)) ]
        ];
        queued = λ k c. elim (s.pushed_found k c) [
          | inl o ↦ known_kept old new queue pushed s.grows k (before.queued k (contains_tail x queue k o))
          | inr m ↦ m
        ];
        differ = s.differ before.differ;
        fit = (s.weighed front_fits before.fit).0;
      }

      pub Sharing-smaller : work g n new pushed < work g n old (x ∷ queue)
      Sharing-smaller =
          let few = shared_few g n new Sharing-step.known Sharing-step.differ in
          let more = (s.weighed front_fits before.fit).1 in
          omega arith
