-- The loop that lists the rests of right sides.
use Rattle.std.proofs.Common.{◌≡◌, ℕ, suc, ◌+◌, ◌<◌, ◌≤◌, ◌⊎◌, inl, inr, List, [], ◌∷◌, ◌++◌, length, refl, sym, ap, subst, ◌∙◌, arith, Option, Some, None, set, drop, map, append-nil, length-set, get_or, get_or-set_same, get_or-set_other}
use Rattle.std.specs.Prelude.{slice_get, Contains, sum_by}
use Rattle.std.proofs.lemmas.Bool.{cases_eq, cases_lt}
use Rattle.std.proofs.lemmas.List.{get_or_past, get_or_default, set_past, set-get_or, set-set, drop-append-le}
use Rattle.std.proofs.lemmas.List.Elements.{Contains-append_left, Contains-append_right, Contains-append_cases, Contains-push, Contains-push_cases}
use Rattle.std.proofs.lemmas.List.Sums.{sum_by-append, sum_by-set, sum_by-drop_more, sum_by_push}
use Rattle.std.proofs.lemmas.Option.{slice_get_within, get_or_from_slice_get}
use Rattle.lalrpop_grammar.proofs.Types.{NonterminalString, Production, Symbol, TerminalString}
use Rattle.lalrpop_grammar.specs.declared.repr.Symbol.TheVariants.{Nonterminal, Terminal}
use Rattle.lalrpop_grammar.specs.first.FirstRests.{AreRests, Rest, right_side, Pending, pending_at, pending_rests, listed_rest, pending_with, IsReleased, IsListedOrPending, IsPassed}
use Rattle.lalrpop_grammar.specs.Words.{place, Derives}
use Rattle.lalrpop_grammar.proofs.theory.grammars.Derivations.{Derives-trans, Derives-production, Derives-right}
use Rattle.lalrpop_grammar.proofs.theory.first.FirstNumbers.{place_same, place_most}
use Rattle.lalrpop_collections.proofs.theory.lists.Lists.{same_some, contains_map, contains_of_map, contains_place, place_contains}
use Rattle.lalrpop_collections.proofs.theory.lists.Members.{Contains-none}
use Rattle.lalrpop_grammar.proofs.theory.lists.ListEnds.{only_one}
use Rattle.lalrpop_collections.proofs.theory.lists.Places.{slice_get-append_before}

-- a written place has what was written, or all is as it was
at_set : (pending : Pending) (m : ℕ) (v : Option (List Rest)) (k : ℕ) → (pending_at (set pending m v) k ≡ pending_at pending k) ⊎ ((k ≡ m) × (pending_at (set pending m v) k ≡ v))
at_set pending m v k = elim (cases_eq k m) [
  | inl e ↦ elim (cases_lt m (length pending)) [
    | inl within ↦ inr (e, ap (pending_at (set pending m v)) e ∙ get_or-set_same pending m v (Some []) within)
    | inr past ↦ inl (ap (λ (p : Pending). pending_at p k) (set_past pending m v past))
  ]
  | inr apart ↦ inl (get_or-set_other pending m k v (Some []) apart)
]

-- ---- the lists of one name are read and written
module _ (n : ℕ) (rests : List Rest) (pending : Pending) (within : n < length pending) (o : Option (List Rest)) (read : o ≡ get_or pending n o) where
  there : o ≡ pending_at pending n
  there = read ∙ get_or_default pending n o (Some []) within

  pub Released : (new : List Rest) → new ≡ rests ++ pending_rests o → IsReleased n rests new pending (set pending n None)
  Released new is = record { listed = is ∙ ap (λ p. rests ++ pending_rests p) there; left = refl }

  pub Listed : (rest : Rest) (new : List Rest) → o ≡ None → new ≡ rests ++ rest ∷ [] → IsListedOrPending n rest rests new pending (set pending n None)
  Listed rest new e is = record { listed = is ∙ ap (λ p. rests ++ listed_rest p rest) (sym e ∙ there); left = ap (λ p. set pending n (pending_with p rest)) (sym e ∙ there) }

  pub Put-off : (rest : Rest) (list longer : List Rest) → o ≡ Some list → longer ≡ list ++ rest ∷ [] → IsListedOrPending n rest rests rests pending (set (set pending n None) n (Some longer))
  Put-off rest list longer e is = record {
    listed = sym (append-nil rests) ∙ ap (λ p. rests ++ listed_rest p rest) (sym e ∙ there);
    left = set-set pending n None (Some longer) ∙ ap (λ (l : List Rest). set pending n (Some l)) is ∙ ap (λ p. set pending n (pending_with p rest)) (sym e ∙ there);
  }

-- ---- a measure that falls: the symbols that are left of the rests which are not done, and one
-- more for each such rest
abbrev size : Rest → ℕ
size r = suc (length r.1)

abbrev held : Option (List Rest) → ℕ
held o = sum_by size (pending_rests o)

abbrev pub left_to_pass : ℕ → List Rest → Pending → ℕ
left_to_pass next rests pending = sum_by size (drop next rests) + sum_by held pending

pub Pass-falls : (next : ℕ) (rests extra : List Rest) (x : Rest) (pending : Pending) (m : ℕ) (v : Option (List Rest)) → slice_get rests next ≡ Some x → sum_by size extra + held v ≤ held (pending_at pending m) + length x.1 →
    left_to_pass (next + 1) (rests ++ extra) (set pending m v) < left_to_pass next rests pending
Pass-falls next rests extra x pending m v at few =
    let within : next < length rests = slice_get_within rests next x at in
    let first : sum_by size (drop next rests) ≡ suc (length x.1) + sum_by size (drop (next + 1) rests) = sum_by-drop_more size rests next x within ∙ ap (λ (r : Rest). size r + sum_by size (drop (next + 1) rests)) (get_or_from_slice_get rests next x x at) in
    let more : sum_by size (drop (next + 1) (rests ++ extra)) ≡ sum_by size (drop (next + 1) rests) + sum_by size extra = ap (sum_by size) (drop-append-le (next + 1) rests extra (omega arith)) ∙ sum_by-append size (drop (next + 1) rests) extra in
    elim (cases_lt m (length pending)) [
      | inl there ↦ let written : sum_by held (set pending m v) + held (pending_at pending m) ≡ sum_by held pending + held v = sum_by-set held pending m v (Some []) there in omega arith
      | inr past ↦
          let same : sum_by held (set pending m v) ≡ sum_by held pending = ap (sum_by held) (set_past pending m v past) in
          let none : held (pending_at pending m) ≡ 0 = ap held (get_or_past pending m (Some []) past) in
          omega arith
    ]

module _ (g : List Production) (names : List NonterminalString) where
  -- a rest is done: its name is known to be nullable, or the rest after the name at its front is
  -- listed or waits
  abbrev IsDone : List Rest → Pending → ℕ → List Symbol → Type 0
  IsDone rests pending n [] = pending_at pending n ≡ None
  IsDone rests pending n (Terminal t ∷ l) = Unit {0}
  IsDone rests pending n (Nonterminal b ∷ l) = Contains (pending_rests (pending_at pending (place names b))) (n, l) ⊎ Contains rests (n, l)

  -- each name with the number derives the list
  record IsRight (n : ℕ) (l : List Symbol) : Type 0 where
    within : n < length names
    derives : (a : NonterminalString) → place names a ≡ n → Derives g (Nonterminal a ∷ []) l

  right_after : {n : ℕ} {b : NonterminalString} {l : List Symbol} → IsRight n (Nonterminal b ∷ l) → IsRight (place names b) [] → IsRight n l
  right_after {b = b} {l} r e = record { within = r.within; derives = λ a is. Derives-trans (r.derives a is) (Derives-right l (e.derives b refl)) }

  -- what is listed is right, and the first rests are done
  pub record Passing (next : ℕ) (rests : List Rest) (pending : Pending) : Type 0 where
    pub counted : length pending ≡ length names + 1
    pub sides : (p : Production) → Contains g p → Contains rests (right_side names p)
    right : (n : ℕ) (l : List Symbol) → Contains rests (n, l) → IsRight n l
    nullable : (m : ℕ) → pending_at pending m ≡ None → IsRight m []
    waits : (m n : ℕ) (l : List Symbol) → Contains (pending_rests (pending_at pending m)) (n, l) → (b : NonterminalString) × (place names b ≡ m) × IsRight n (Nonterminal b ∷ l)
    done : (k n : ℕ) (l : List Symbol) → k < next → slice_get rests k ≡ Some (n, l) → IsDone rests pending n l

  pub Passing-begin : ((p : Production) → Contains g p → place names p.nonterminal < length names) → (rests : List Rest) (pending : Pending) → rests ≡ map (right_side names) g → length pending ≡ length names + 1 → ((n : ℕ) → pending_at pending n ≡ Some []) → Passing 0 rests pending
  Passing-begin named rests pending all count empty = record {
    counted = count;
    sides = λ p c. subst (λ (rs : List Rest). Contains rs (right_side names p)) (sym all) (contains_map (right_side names) g p c);
    right = λ n l c. let (p, in_grammar, e) = contains_of_map (right_side names) g (n, l) (subst (λ (rs : List Rest). Contains rs (n, l)) all c) in subst (λ (x : Rest). IsRight x.0 x.1) e (side p in_grammar);
    nullable = λ m e. absurd (cc (empty m));
    waits = λ m n l c. absurd (Contains-none (n, l) (subst (λ o. Contains (pending_rests o) (n, l)) (empty m) c));
    done = λ k n l less at. absurd (omega arith);
  }
    where
      side : (p : Production) → Contains g p → IsRight (place names p.nonterminal) p.symbols
      side p c = record { within = named p c; derives = λ a e. subst (λ (b : NonterminalString). Derives g (Nonterminal b ∷ []) p.symbols) (place_same names p.nonterminal a (named p c) e) (Derives-production p c) }

  -- ---- one step: extra is listed, and v is written for the name with number m
  record Step (n : ℕ) (l : List Symbol) (rests extra : List Rest) (pending : Pending) (m : ℕ) (v : Option (List Rest)) : Type 0 where
    listed : (k : ℕ) (r : List Symbol) → Contains extra (k, r) → IsRight k r
    nullable : v ≡ None → IsRight m []
    waits : (k : ℕ) (r : List Symbol) → Contains (pending_rests v) (k, r) → (b : NonterminalString) × (place names b ≡ m) × IsRight k (Nonterminal b ∷ r)
    kept : (r : Rest) → Contains (pending_rests (pending_at pending m)) r → Contains (pending_rests v) r ⊎ Contains extra r
    known : pending_at pending m ≡ None → v ≡ None
    done : IsDone (rests ++ extra) (set pending m v) n l
    few : sum_by size extra + held v ≤ held (pending_at pending m) + length l

  module _ {next n : ℕ} {l : List Symbol} {rests extra : List Rest} {pending : Pending} {m : ℕ} {v : Option (List Rest)} (at : slice_get rests next ≡ Some (n, l)) (h : Passing next rests pending) (s : Step n l rests extra pending m v) where
    still_waits : (k : ℕ) (r : Rest) → Contains (pending_rests (pending_at pending k)) r → Contains (pending_rests (pending_at (set pending m v) k)) r ⊎ Contains (rests ++ extra) r
    still_waits k r c = elim (at_set pending m v k) [
      | inl same ↦ inl (subst (λ o. Contains (pending_rests o) r) (sym same) c)
      | inr here ↦ elim (s.kept r (subst (λ j. Contains (pending_rests (pending_at pending j)) r) here.0 c)) [
        | inl w ↦ inl (subst (λ o. Contains (pending_rests o) r) (sym here.1) w)
        | inr e ↦ inr (Contains-append_right rests extra r e)
      ]
    ]

    still_done : (k : ℕ) (r : List Symbol) → IsDone rests pending k r → IsDone (rests ++ extra) (set pending m v) k r
    still_done k [] d = elim (at_set pending m v k) [
      | inl same ↦ same ∙ d
      | inr here ↦ here.1 ∙ s.known (sym (ap (pending_at pending) here.0) ∙ d)
    ]
    still_done k (Terminal t ∷ r) d = tt
    still_done k (Nonterminal b ∷ r) d = elim d [
      | inl w ↦ still_waits (place names b) (k, r) w
      | inr c ↦ inr (Contains-append_left rests extra (k, r) c)
    ]

    Passing-more : Passing (next + 1) (rests ++ extra) (set pending m v)
    Passing-more = record {
      counted = length-set pending m v ∙ h.counted;
      sides = λ p c. Contains-append_left rests extra (right_side names p) (h.sides p c);
      right = λ k r c. elim (Contains-append_cases rests extra (k, r) c) [ inl old ↦ h.right k r old | inr e ↦ s.listed k r e ];
      nullable = λ k e. elim (at_set pending m v k) [
        | inl same ↦ h.nullable k (sym same ∙ e)
        | inr here ↦ subst (λ j. IsRight j []) (sym here.0) (s.nullable (sym here.1 ∙ e))
      ];
      waits = λ j k r c. elim (at_set pending m v j) [
        | inl same ↦ h.waits j k r (subst (λ o. Contains (pending_rests o) (k, r)) same c)
        | inr here ↦ let w = s.waits k r (subst (λ o. Contains (pending_rests o) (k, r)) here.1 c) in (w.0, w.1 ∙ sym here.0, w.2)
      ];
      done = λ k j r less there. elim (cases_eq k next) [
        | inl e ↦
            let within : next < length rests = slice_get_within rests next (n, l) at in
            let same : (n, l) ≡ (j, r) = same_some (sym at ∙ sym (slice_get-append_before rests extra next within) ∙ ap (slice_get (rests ++ extra)) (sym e) ∙ there) in
            subst (λ (x : Rest). IsDone (rests ++ extra) (set pending m v) x.0 x.1) same s.done
        | inr apart ↦
            let within : next < length rests = slice_get_within rests next (n, l) at in
            still_done j r (h.done k j r (omega arith) (sym (slice_get-append_before rests extra k (omega arith)) ∙ there))
      ];
    }

  -- the three kinds of steps
  release : {next n : ℕ} {rests : List Rest} {pending : Pending} → n < length pending → Passing next rests pending → IsRight n [] → Step n [] rests (pending_rests (pending_at pending n)) pending n None
  release {next} {n} {rests} {pending} within h empty = record {
    listed = λ k r c. let w = h.waits n k r c in right_after w.2 (subst (λ j. IsRight j []) (sym w.1) empty);
    nullable = λ e. empty;
    waits = λ k r c. absurd (Contains-none (k, r) c);
    kept = λ r c. inr c;
    known = λ e. refl;
    done = get_or-set_same pending n None (Some []) within;
    few = omega arith;
  }

  over : {next n : ℕ} (b : NonterminalString) (l : List Symbol) {rests : List Rest} {pending : Pending} → place names b < length pending → Passing next rests pending → IsRight n (Nonterminal b ∷ l) → (o : Option (List Rest)) → pending_at pending (place names b) ≡ o →
      Step n (Nonterminal b ∷ l) rests (listed_rest o (n, l)) pending (place names b) (pending_with o (n, l))
  over {next} {n} b l {rests} {pending} within h is None e = record {
    listed = λ k r c. let same = only_one (n, l) (k, r) c in subst (λ (x : Rest). IsRight x.0 x.1) same (right_after is (h.nullable (place names b) e));
    nullable = λ same. h.nullable (place names b) e;
    waits = λ k r c. absurd (Contains-none (k, r) c);
    kept = λ r c. inl (subst (λ o. Contains (pending_rests o) r) e c);
    known = λ same. refl;
    done = inr (Contains-push rests (n, l));
    few = omega arith;
  }
  over {next} {n} b l {rests} {pending} within h is (Some list) e = record {
    listed = λ k r c. absurd (Contains-none (k, r) c);
    nullable = λ same. absurd cc;
    waits = λ k r c. elim (Contains-push_cases list (n, l) (k, r) c) [
      | inl old ↦ h.waits (place names b) k r (subst (λ o. Contains (pending_rests o) (k, r)) (sym e) old)
      | inr same ↦ (b, refl, subst (λ (x : Rest). IsRight x.0 (Nonterminal b ∷ x.1)) same is)
    ];
    kept = λ r c. inl (Contains-append_left list ((n, l) ∷ []) r (subst (λ o. Contains (pending_rests o) r) e c));
    known = λ none. cc;
    done = inl (subst (λ o. Contains (pending_rests o) (n, l)) (sym (get_or-set_same pending (place names b) (Some (list ++ (n, l) ∷ [])) (Some []) within)) (Contains-push list (n, l)));
    few = let all : sum_by size (list ++ (n, l) ∷ []) ≡ sum_by size list + suc (length l) = sum_by_push size list (n, l) in let was : held (pending_at pending (place names b)) ≡ sum_by size list = ap held e in omega arith;
  }

  nothing : {next n : ℕ} (t : TerminalString) (l : List Symbol) {rests : List Rest} {pending : Pending} → Passing next rests pending → Step n (Terminal t ∷ l) rests [] pending 0 (pending_at pending 0)
  nothing t l {rests} {pending} h = record {
    listed = λ k r c. absurd (Contains-none (k, r) c);
    nullable = λ e. h.nullable 0 e;
    waits = λ k r c. h.waits 0 k r c;
    kept = λ r c. inl c;
    known = λ e. e;
    done = tt;
    few = omega arith;
  }

  -- what a step changes
  record Stepped (n : ℕ) (l : List Symbol) (rests new : List Rest) (pending after : Pending) : Type 0 where
    extra : List Rest
    m : ℕ
    v : Option (List Rest)
    step : Step n l rests extra pending m v
    new_is : new ≡ rests ++ extra
    after_is : after ≡ set pending m v

  stepped : {next n : ℕ} (l : List Symbol) {rests : List Rest} (new : List Rest) {pending : Pending} (after : Pending) → n < length pending → Passing next rests pending → IsRight n l → IsPassed names n l rests new pending after → Stepped n l rests new pending after
  stepped {n = n} [] new {pending = pending} after within h is p = record { extra = pending_rests (pending_at pending n); m = n; v = None; step = release within h is; new_is = p.listed; after_is = p.left }
  stepped (Terminal t ∷ l) {rests} new {pending = pending} after within h is p = record { extra = []; m = 0; v = pending_at pending 0; step = nothing t l h; new_is = p.0 ∙ sym (append-nil rests); after_is = p.1 ∙ sym (set-get_or pending 0 (Some [])) }
  stepped {n = n} (Nonterminal b ∷ l) new {pending = pending} after within h is p = record {
    extra = listed_rest (pending_at pending (place names b)) (n, l);
    m = place names b;
    v = pending_with (pending_at pending (place names b)) (n, l);
    step = over b l (let most = place_most names b in let counted = h.counted in omega arith) h is (pending_at pending (place names b)) refl;
    new_is = p.listed;
    after_is = p.left;
  }

  -- ---- a turn of the loop
  pub Passing-within : {next n : ℕ} {l : List Symbol} {rests : List Rest} {pending : Pending} → Passing next rests pending → slice_get rests next ≡ Some (n, l) → n < length pending
  Passing-within {next} {n} {l} {rests} {pending} h at = let within : n < length names = (h.right n l (place_contains rests next (n, l) at)).within in let counted = h.counted in omega arith

  module _ {next n : ℕ} {l : List Symbol} {rests : List Rest} {pending : Pending} (new : List Rest) (after : Pending) (h : Passing next rests pending) (at : slice_get rests next ≡ Some (n, l)) (p : IsPassed names n l rests new pending after) where
    turn : Stepped n l rests new pending after
    turn = stepped l new after (Passing-within h at) h (h.right n l (place_contains rests next (n, l) at)) p

    pub Passing-turn : Passing (next + 1) new after
    Passing-turn = subst (λ (rs : List Rest). Passing (next + 1) rs after) (sym turn.new_is) (subst (λ (ps : Pending). Passing (next + 1) (rests ++ turn.extra) ps) (sym turn.after_is) (Passing-more at h turn.step))

    pub Passing-falls : left_to_pass (next + 1) new after < left_to_pass next rests pending
    Passing-falls = subst (λ (rs : List Rest). left_to_pass (next + 1) rs after < left_to_pass next rests pending) (sym turn.new_is) (subst (λ (ps : Pending). left_to_pass (next + 1) (rests ++ turn.extra) ps < left_to_pass next rests pending) (sym turn.after_is) (Pass-falls next rests turn.extra (n, l) pending turn.m turn.v at (turn.step).few))

  -- at the end all rests are done
  pub Passing-end : {next : ℕ} {rests : List Rest} {pending : Pending} → Passing next rests pending → length rests ≤ next → AreRests g names rests
  Passing-end {next} {rests} {pending} h all = record {
    sides = h.sides;
    onward = λ n b l c empty.
        elim (done n (Nonterminal b ∷ l) c) [
          | inl w ↦ absurd (Contains-none (n, l) (subst (λ o. Contains (pending_rests o) (n, l)) (done (place names b) [] empty) w))
          | inr there ↦ there
        ];
    named = λ n l c. (h.right n l c).within;
    right = λ n l a c e. (h.right n l c).derives a e;
  }
    where
      done : (n : ℕ) (l : List Symbol) → Contains rests (n, l) → IsDone rests pending n l
      done n l c = let (k, at) = contains_place rests (n, l) c in let within : k < length rests = slice_get_within rests k (n, l) at in h.done k n l (omega arith) at
