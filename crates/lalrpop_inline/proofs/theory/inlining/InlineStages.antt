-- Inlining of nonterminals in their order. At each stage the next one mentions no marked one, and
-- those that were inlined are mentioned nowhere.
use Rattle.std.proofs.Common.{◌≡◌, ◌↔◌, inl, inr, ℕ, zero, suc, ◌+◌, ◌≤◌, ◌<◌, get_or, drop, arith, false, List, [], ◌∷◌, ◌++◌, map, length, refl, sym, ◌∙◌, ap, subst}
use Rattle.std.specs.Prelude.{Contains}
use Rattle.std.specs.List.{flat_map}
use Rattle.std.specs.List.Sorted.{IsStrictlySortedBy}
use Rattle.std.specs.BTreeMap.{IsOrdered}
use Rattle.std.specs.Map.{keys_of}
use Rattle.std.proofs.lemmas.Bool.{cases_Bool}
use mathlib.Core.Bool.{true≢false}
use Rattle.lalrpop_base.specs.Words.{IsSentence, name_cmp, IsWellFormed, IsWellFormedEntry, productions, productions_of}
use Rattle.lalrpop_inline.proofs.Types.{Grammar, NonterminalData, NonterminalString, Production, TerminalString}
use Rattle.lalrpop_grammar.specs.declared.repr.Symbol.TheVariants.{Nonterminal}
use Rattle.lalrpop_collections.proofs.theory.lists.Lists.{contains-cons, contains-nil, contains_head, contains_tail, contains_place, place_contains, contains_of_map, contains_map}
use Rattle.lalrpop_inline.specs.Words.{is_named, mentions, Entry, View, named_entry, view_of, alternatives_in, productions_of_view, inlined_of, inlined_by, IsMarked}
use Rattle.lalrpop_inline.specs.Words.{Mentions, IsInlineOrder, IsPastLast, IsRefusalOf, IsLaidOut}
use Rattle.std.proofs.lemmas.List.{drop_more}
use Rattle.lalrpop_grammar.specs.declared.repr.norm_error.NormError.{NormError}
use Rattle.lalrpop_grammar.specs.declared.repr.norm_error.NormError.TheVariants.{Cycle, TooManyActions, Memory}
use Rattle.lalrpop_inline.proofs.theory.inlining.InlineDefinitions.{laid_out_more, entries_laid_out}
use Rattle.lalrpop_inline.proofs.theory.inlining.InlineMembers.{mentioned_stands, names_itself}
use Rattle.lalrpop_inline.proofs.theory.inlining.InlineSteps.{IsMore, more_none, more_twice, more_longer, past_more, replaced_entries_more}
use Rattle.lalrpop_inline.proofs.theory.inlining.InlineEntries.{alternatives_view}
use Rattle.lalrpop_inline.proofs.theory.inlining.InlineViews.{IsProper, listed_entry, proper_production, alternatives_own, alternatives_all, step_keeps_lists, step_proper, step_mentions}

-- the definitions only grow
pub inlined_by_more : (order : List NonterminalString) (v : View) → IsMore v.defns (inlined_by order v).defns
inlined_by_more [] v = more_none v.defns
inlined_by_more (b ∷ order) v =
    more_twice v.defns (inlined_of b v).defns (inlined_by order (inlined_of b v)).defns (replaced_entries_more b (alternatives_in v b) v.entries v.defns) (inlined_by_more order (inlined_of b v))

module _ (Marked : NonterminalString → Type 0) (terminals : List TerminalString) where
  -- some marked nonterminals are left to be inlined. No other marked one is mentioned, and each of
  -- these mentions only those before it
  pub record Stage (rest : List NonterminalString) (v : View) : Type 0 where
    pub proper : IsProper terminals v
    pub behind : (before after : List NonterminalString) (a c : NonterminalString) (p : Production) → rest ≡ before ++ a ∷ after → Contains (productions_of_view v) p → p.nonterminal ≡ a → Contains p.symbols (Nonterminal c) → Marked c → Contains before c
    pub mentioned : (c : NonterminalString) (p : Production) → Contains (productions_of_view v) p → Contains p.symbols (Nonterminal c) → Marked c → Contains rest c
    pub marked : (c : NonterminalString) → Contains rest c → Marked c

  -- the next one does not mention itself
  pub stage_alone : (b : NonterminalString) (rest : List NonterminalString) (v : View) → Stage (b ∷ rest) v → (r : Production) → Contains (alternatives_in v b) r → mentions b r.symbols ≡ false
  stage_alone b rest v s r c = elim (cases_Bool (mentions b r.symbols)) [
    | inl h ↦
        let (own, named) = alternatives_own terminals v s.proper b r c in
        absurd (contains-nil (s.behind [] rest b b r refl own named (mentioned_stands b r.symbols h) (s.marked b (contains_head b rest))))
    | inr h ↦ h
  ]

  other_one : (b c : NonterminalString) (l : List NonterminalString) → is_named b (Nonterminal c) ≡ false → Contains (b ∷ l) c → Contains l c
  other_one b c l other k = elim (contains-cons b l c k) [
    | inl e ↦ absurd (true≢false (sym (names_itself b) ∙ ap (λ (x : NonterminalString). is_named b (Nonterminal x)) e ∙ other))
    | inr h ↦ h
  ]

  pub stage_step : (b : NonterminalString) (rest : List NonterminalString) (v : View) → Stage (b ∷ rest) v → Stage rest (inlined_of b v)
  stage_step b rest v s =
      let alone = stage_alone b rest v s in
      record {
        proper = step_proper terminals v s.proper b alone;
        behind = λ before after a c p e k named m is.
            let (q, stands, whose, there, other) = step_mentions terminals v s.proper b alone p c k m in
            elim whose [
              | inl n ↦ other_one b c before other (s.behind (b ∷ before) after a c q (ap (λ (l : List NonterminalString). b ∷ l) e) stands (n ∙ named) there is)
              | inr n ↦ absurd (contains-nil (s.behind [] rest b c q refl stands n there is))
            ];
        mentioned = λ c p k m is.
            let (q, stands, whose, there, other) = step_mentions terminals v s.proper b alone p c k m in
            other_one b c rest other (s.mentioned c q stands there is);
        marked = λ c k. s.marked c (contains_tail b rest c k);
      }

  -- the last stage
  pub last_stage : (rest : List NonterminalString) (v : View) → Stage rest v → Stage [] (inlined_by rest v)
  last_stage [] v s = s
  last_stage (b ∷ rest) v s = last_stage rest (inlined_of b v) (stage_step b rest v s)

  -- every nonterminal keeps its terminal lists
  pub stages_keep_lists : (rest : List NonterminalString) (v : View) → Stage rest v → (a : NonterminalString) (w : List TerminalString) → IsSentence (productions_of_view v) a w ↔ IsSentence (productions_of_view (inlined_by rest v)) a w
  stages_keep_lists [] v s a w = (λ d. d, λ d. d)
  stages_keep_lists (b ∷ rest) v s a w =
      let here = step_keeps_lists terminals v s.proper b (stage_alone b rest v s) a w in
      let later = stages_keep_lists rest (inlined_of b v) (stage_step b rest v s) a w in
      (λ d. later.0 (here.0 d), λ d. here.1 (later.1 d))

module _ (Marked : NonterminalString → Type 0) (terminals : List TerminalString) (old : ℕ) where
  -- each production with an action from a number on is laid out
  abbrev pub AreLaidOut : View → Type 0
  AreLaidOut v = (p : Production) → Contains (productions_of_view v) p → old ≤ p.action.0 → IsLaidOut v.defns p

  step_laid_out : (b : NonterminalString) (rest : List NonterminalString) (v : View) → Stage Marked terminals (b ∷ rest) v → old ≤ length v.defns → AreLaidOut v → AreLaidOut (inlined_of b v)
  step_laid_out b rest v s l were p c from =
      let numbered : (e : NonterminalString × Entry) (q : Production) → Contains v.entries e → Contains e.1.productions q → q.action.0 < length v.defns = λ e q h k. (proper_production terminals v s.proper e q h k).numbered in
      let few : (r : Production) → Contains (alternatives_in v b) r → r.action.0 < length v.defns =
      λ r k. let (own, named) = alternatives_own terminals v s.proper b r k in let (e, there, stands) = listed_entry v r own in numbered e r there stands in
      elim (entries_laid_out b (alternatives_in v b) (length v.defns) few v.entries v.defns (le_itself (length v.defns)) numbered p c) [
        | inl k ↦
            let (e, there, stands) = listed_entry v p k in
            laid_out_more v.defns (inlined_of b v).defns (replaced_entries_more b (alternatives_in v b) v.entries v.defns) p (numbered e p there stands) (were p k from)
        | inr is ↦ is
      ]
    where
      le_itself : (n : ℕ) → n ≤ n
      le_itself n = omega arith

  pub stages_laid_out : (rest : List NonterminalString) (v : View) → Stage Marked terminals rest v → old ≤ length v.defns → AreLaidOut v → AreLaidOut (inlined_by rest v)
  stages_laid_out [] v s l were = were
  stages_laid_out (b ∷ rest) v s l were =
      let more : length v.defns ≤ length (inlined_of b v).defns = more_longer v.defns (inlined_of b v).defns (replaced_entries_more b (alternatives_in v b) v.entries v.defns) in
      stages_laid_out rest (inlined_of b v) (stage_step Marked terminals b rest v s) (omega arith) (step_laid_out b rest v s l were)

flat_view : (es : List (NonterminalString × NonterminalData)) → flat_map (λ (e : NonterminalString × NonterminalData). e.1.productions.items) es ≡ flat_map (λ (e : NonterminalString × Entry). e.1.productions) (map named_entry es)
flat_view [] = refl
flat_view (e ∷ es) = ap (λ (ps : List Production). e.1.productions.items ++ ps) (flat_view es)

-- the productions of a grammar are those of its view
pub productions_view : (g : Grammar) → productions g ≡ productions_of_view (view_of g)
productions_view g = flat_view g.nonterminals.entries

pub keys_view : (es : List (NonterminalString × NonterminalData)) → keys_of (map named_entry es) ≡ keys_of es
keys_view [] = refl
keys_view (e ∷ es) = ap (λ (ks : List NonterminalString). e.0 ∷ ks) (keys_view es)

-- the view of a well-formed grammar is proper
pub proper_view : (g : Grammar) → IsOrdered name_cmp g.nonterminals → IsWellFormed g → IsProper g.terminals (view_of g)
proper_view g ordered well = record {
  ordered = subst (IsStrictlySortedBy name_cmp) (sym (keys_view g.nonterminals.entries)) ordered;
  each = λ e c.
      let r = contains_of_map named_entry g.nonterminals.entries e c in
      let at = contains_place g.nonterminals.entries r.0 r.1 in
      let counted : IsWellFormedEntry g.terminals (length g.action_fn_defns.items) (r.0).0 (r.0).1.productions.items =
      subst (λ (n : ℕ). IsWellFormedEntry g.terminals n (r.0).0 (r.0).1.productions.items) g.action_fn_defns.ok.0 (well at.0 (r.0).0 (r.0).1 at.1) in
      subst (λ (x : NonterminalString × Entry). IsWellFormedEntry g.terminals (length g.action_fn_defns.items) x.0 x.1.productions) r.2 counted;
}

-- a grammar with a proper view is well-formed
pub well_formed_view : (h : Grammar) → IsProper h.terminals (view_of h) → IsWellFormed h
well_formed_view h proper k name entry at =
    subst (λ (n : ℕ). IsWellFormedEntry h.terminals n name entry.productions.items) (sym h.action_fn_defns.ok.0)
    (proper.each (named_entry (name, entry)) (contains_map named_entry h.nonterminals.entries (name, entry) (place_contains h.nonterminals.entries k (name, entry) at)))

-- the first stage
pub first_stage : (g : Grammar) (order : List NonterminalString) → IsOrdered name_cmp g.nonterminals → IsWellFormed g → IsInlineOrder g order → Stage (IsMarked g) g.terminals order (view_of g)
first_stage g order ordered well is =
    let proper = proper_view g ordered well in
    let own : (a : NonterminalString) (p : Production) → Contains (productions_of_view (view_of g)) p → p.nonterminal ≡ a → Contains (productions_of g a) p =
    λ a p c n. subst (λ (ps : List Production). Contains ps p) (alternatives_view g a) (alternatives_all g.terminals (view_of g) proper a p c n) in
    record {
      proper = proper;
      behind = λ before after a c p e k n m marked. is.behind before after a c e (p, own a p k n, m) marked;
      mentioned = λ c p k m marked. (is.marked c).1 marked;
      marked = λ c k. (is.marked c).0 k;
    }

-- a grammar h whose view is that of g with all inlined
module _ (g h : Grammar) (order : List NonterminalString) (ordered : IsOrdered name_cmp g.nonterminals) (well : IsWellFormed g) (is : IsInlineOrder g order) (view : view_of h ≡ inlined_by order (view_of g)) (same : h.terminals ≡ g.terminals) where
  end : Stage (IsMarked g) g.terminals [] (inlined_by order (view_of g))
  end = last_stage (IsMarked g) g.terminals order (view_of g) (first_stage g order ordered well is)

  proper_end : IsProper h.terminals (view_of h)
  proper_end = subst (λ (ts : List TerminalString). IsProper ts (view_of h)) (sym same) (subst (IsProper g.terminals) (sym view) end.proper)

  pub inlined_well_formed : IsWellFormed h
  inlined_well_formed = well_formed_view h proper_end

  pub inlined_unmentioned : (a c : NonterminalString) → IsMarked g c → Mentions h a c → ⊥
  inlined_unmentioned a c marked m =
      let listed = subst (λ (ps : List Production). Contains ps m.0) (sym (alternatives_view h a)) m.1 in
      let (own, named) = alternatives_own h.terminals (view_of h) proper_end a m.0 listed in
      contains-nil (end.mentioned c m.0 (subst (λ (v : View). Contains (productions_of_view v) m.0) view own) m.2 marked)

  pub inlined_lists : (a : NonterminalString) (w : List TerminalString) → IsSentence (productions g) a w ↔ IsSentence (productions h) a w
  inlined_lists a w =
      let across = stages_keep_lists (IsMarked g) g.terminals order (view_of g) (first_stage g order ordered well is) a w in
      let back : productions_of_view (inlined_by order (view_of g)) ≡ productions h = ap productions_of_view (sym view) ∙ sym (productions_view h) in (
        λ d. subst (λ (ps : List Production). IsSentence ps a w) back (across.0 (subst (λ (ps : List Production). IsSentence ps a w) (productions_view g) d)),
        λ d. subst (λ (ps : List Production). IsSentence ps a w) (sym (productions_view g)) (across.1 (subst (λ (ps : List Production). IsSentence ps a w) (sym back) d)),
      )

  pub inlined_kept : IsMore g.action_fn_defns.items h.action_fn_defns.items
  inlined_kept = let m = inlined_by_more order (view_of g) in (m.0, ap (λ (v : View). v.defns) view ∙ m.1)

-- each production of h with a new action is laid out
pub inlined_laid_out : (g h : Grammar) (order : List NonterminalString) → IsOrdered name_cmp g.nonterminals → IsWellFormed g → IsInlineOrder g order → view_of h ≡ inlined_by order (view_of g)
    → (p : Production) → Contains (productions h) p → length g.action_fn_defns.items ≤ p.action.0 → IsLaidOut h.action_fn_defns.items p
inlined_laid_out g h order ordered well is view p c from =
    let stage = first_stage g order ordered well is in
    let none : AreLaidOut (IsMarked g) g.terminals (length g.action_fn_defns.items) (view_of g) =
    λ q k l.
    let (e, there, stands) = listed_entry (view_of g) q k in
    let few : q.action.0 < length g.action_fn_defns.items = (proper_production g.terminals (view_of g) stage.proper e q there stands).numbered in
    absurd (omega arith) in
    let all = stages_laid_out (IsMarked g) g.terminals (length g.action_fn_defns.items) order (view_of g) stage (omega arith) none in
    let there : Contains (productions_of_view (inlined_by order (view_of g))) p = subst (λ (ps : List Production). Contains ps p) (productions_view h ∙ ap productions_of_view view) c in
    subst (λ (v : View). IsLaidOut v.defns p) (sym view) (all p there from)

drop_end : {A : Type 0} (xs : List A) (i : ℕ) → length xs ≤ i → drop i xs ≡ []
drop_end [] zero l = refl
drop_end [] (suc i) l = refl
drop_end (x ∷ xs) zero l = absurd (omega arith)
drop_end (x ∷ xs) (suc i) l = drop_end xs i (omega arith)

-- the next nonterminal is the first of those that are left
pub next_one : (order : List NonterminalString) (i : ℕ) (name : NonterminalString) → i < length order → name ≡ get_or order i name → drop i order ≡ name ∷ drop (i + 1) order
next_one order i name less is = drop_more order i name less ∙ ap (λ (y : NonterminalString). y ∷ drop (i + 1) order) (sym is)

-- one nonterminal more was inlined
pub one_inlined : (order : List NonterminalString) (i : ℕ) (name : NonterminalString) (v w d : View) → i < length order → name ≡ get_or order i name → inlined_by (drop i order) v ≡ d → w ≡ inlined_of name v → inlined_by (drop (i + 1) order) w ≡ d
one_inlined order i name v w d less is so_far step =
    ap (inlined_by (drop (i + 1) order)) step ∙ ap (λ (l : List NonterminalString). inlined_by l v) (sym (next_one order i name less is)) ∙ so_far

-- there is no number for an action
pub inlined_past : (order : List NonterminalString) (i : ℕ) (name : NonterminalString) (v d : View) (e : NormError) → i < length order → name ≡ get_or order i name → inlined_by (drop i order) v ≡ d → IsPastLast (length (inlined_of name v).defns) e → IsPastLast (length d.defns) e
inlined_past order i name v d e less is so_far past =
    let whole : inlined_by (drop (i + 1) order) (inlined_of name v) ≡ d = one_inlined order i name v (inlined_of name v) d less is so_far refl in
    let counted : length (inlined_by (drop (i + 1) order) (inlined_of name v)).defns ≡ length d.defns = ap (λ (x : View). length x.defns) whole in
    past_more (length (inlined_of name v).defns) (length d.defns) e
    (omega (arith, counted, more_longer (inlined_of name v).defns (inlined_by (drop (i + 1) order) (inlined_of name v)).defns (inlined_by_more (drop (i + 1) order) (inlined_of name v)))) past

-- all were inlined
pub all_inlined : (order : List NonterminalString) (i : ℕ) (v d : View) → length order ≤ i → inlined_by (drop i order) v ≡ d → v ≡ d
all_inlined order i v d l e = ap (λ (os : List NonterminalString). inlined_by os v) (sym (drop_end order i l)) ∙ e

-- the error for too many actions is a refusal of the grammar
pub refusal_past : (g : Grammar) (order : List NonterminalString) (e : NormError) → IsInlineOrder g order → IsPastLast (length (inlined_by order (view_of g)).defns) e → IsRefusalOf g e
refusal_past g order (Cycle span name) is h = absurd h
refusal_past g order TooManyActions is h = record { order = order; in_order = is; past = h }
refusal_past g order Memory is h = tt
