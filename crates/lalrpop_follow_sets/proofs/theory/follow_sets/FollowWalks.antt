-- Walks over right sides: the nodes that are passed before a dot, one symbol more, and the end of a
-- walk.
use Rattle.std.proofs.Common.{◌≡◌, ◌∙◌, inl, inr, ℕ, zero, suc, ◌+◌, ◌<◌, List, [], ◌∷◌, ◌++◌, length, get_or, refl, sym, ap, subst, arith, take, drop, true}
use Rattle.std.specs.Prelude.{slice_get, Option, Some, None}
use Rattle.std.proofs.lemmas.Option.{slice_get_within}
use Rattle.lalrpop_base.specs.Words.{Contents, Dotted, leads, onward, state_from, AddsThose, with_dot, IsNumberBehind}
use Rattle.lalrpop_follow_sets.specs.Words.{LeadsOver}
use Rattle.lalrpop_follow_sets.proofs.Types.{Nil, Production, Symbol}
use Rattle.lalrpop_grammar.specs.declared.repr.Symbol.TheVariants.{Nonterminal}
use Rattle.lalrpop_states.proofs.theory.states.ContentsViews.{lead_as_items_say}
use Rattle.lalrpop_collections.proofs.theory.lists.Lists.{take_all, take_past}
use Rattle.lalrpop_grammar.proofs.theory.runs.Steps.{state_from-more}
use Rattle.lalrpop_follow_sets.specs.follow_sets.FollowNodes.{IsPass}
use Rattle.lalrpop_follow_sets.specs.follow_sets.FollowWalks.{GoesThrough, IsEndOfWalk, IsNumberAtStart, IsGoneOver, StepsThrough}
use Rattle.lalrpop_construction.specs.states.SamePlaces.{places_in}
use Rattle.lalrpop_follow_sets.specs.declared.follow_sets.pass.Pass.{Pass}
use Rattle.lalrpop_states.proofs.theory.closures.Closing.{drop_split, split_drop}
use Rattle.lalrpop_numbers.proofs.theory.numbers.DottedProductions.{those_both, those_none}
use Rattle.lalrpop_follow_sets.proofs.theory.follow_sets.FollowSets.{take_none}
use Rattle.lalrpop_collections.proofs.theory.lists.Places.{places_apart, same_some, slice_get_at}

-- if a walk leads nowhere at a symbol, it leads nowhere over more symbols
pub dead_end : (states : ℕ → Contents) (u : List Symbol) (n dot m d : ℕ) (x : Symbol) → state_from states n (take dot u) ≡ Some m → slice_get u dot ≡ Some x → leads (states m) x ≡ None → dot < d → state_from states n (take d u) ≡ None
dead_end states [] n dot m d x l at none less = cc
dead_end states (y ∷ u) n zero m zero x l at none less = absurd (omega arith)
dead_end states (y ∷ u) n zero m (suc d) x l at none less =
    let out : leads (states n) y ≡ None = ap (λ k. leads (states k) y) (same_some n m l) ∙ ap (leads (states m)) (same_some y x at) ∙ none in
    ap (λ o. onward o (λ k. state_from states k (take d u))) out
dead_end states (y ∷ u) n (suc dot) m zero x l at none less = absurd (omega arith)
dead_end states (y ∷ u) n (suc dot) m (suc d) x l at none less = go (leads (states n) y) l (λ k l'. dead_end states u k dot m d x l' at none (omega arith))
  where
    go : (o : Option ℕ) → onward o (λ k. state_from states k (take dot u)) ≡ Some m → ((k : ℕ) → state_from states k (take dot u) ≡ Some m → state_from states k (take d u) ≡ None) → onward o (λ k. state_from states k (take d u)) ≡ None
    go None e h = refl
    go (Some k) e h = h k e

-- a production with a dot determines the production
same_production : (q r : Production) (dot : ℕ) → Some (with_dot q dot) ≡ Some (with_dot r dot) → q ≡ r
same_production q r dot e = ap (λ (i : Dotted Nil). i.production) (same_some (with_dot q dot) (with_dot r dot) e)

-- a number is that of one production with the dot at the start
pub one_front : (pass : Pass) (k : ℕ) (q r : Production) → IsNumberAtStart pass k q → IsNumberAtStart pass k r → q ≡ r
one_front pass k q r a b = same_production q r 0 (sym a ∙ b)

-- a walk goes through the node before the dot
abbrev pub GoesBefore : Pass → ℕ → Production → ℕ → ℕ → Type 0
GoesBefore pass from q dot n = (g : GoesThrough pass from q n) × (g.dot < dot)

-- a walk from a state has come to a dot: its place, and the nodes that it has passed
pub record IsWalking (pass : Pass) (from expansion : ℕ) (old : List ℕ) (state item : ℕ) (ends : List ℕ) : Type 0 where
  pub production : Production
  pub dot : ℕ
  pub begun : IsNumberAtStart pass expansion production
  pub numbered : slice_get pass.numbers.now.items.items item ≡ Some (with_dot production dot)
  pub over : LeadsOver (places_in pass.states.now) from (take dot production.symbols) state
  pub listed : state < length pass.states.now
  pub passed : AddsThose (GoesBefore pass from production dot) old ends

-- the walk begins with the dot at the start
pub walk_begins : (pass : Pass) (from expansion : ℕ) (q : Production) (old : List ℕ) → IsNumberAtStart pass expansion q → from < length pass.states.now → IsWalking pass from expansion old from expansion old
walk_begins pass from expansion q old begun listed = record {
  production = q;
  dot = 0;
  begun = begun;
  numbered = begun;
  over = ap (state_from (places_in pass.states.now) from) (take_none q.symbols);
  listed = listed;
  passed = those_none (GoesBefore pass from q 0) old (λ n g. absurd (let l = g.1 in omega arith));
}

module _ (pass : Pass) (ok : IsPass pass) (from expansion : ℕ) (old : List ℕ) (state item : ℕ) (ends : List ℕ) (w : IsWalking pass from expansion old state item ends) where
  -- the production over which the walk goes
  abbrev q : Production
  q = w.production

  -- the states through which the walk goes
  abbrev states : ℕ → Contents
  states = places_in pass.states.now

  -- the number that is read for the item is that of the symbol after its dot
  is_behind : (read : Option ℕ) → read ≡ get_or pass.numbers.now.behind.items item read → IsNumberBehind pass.numbers.now.symbols.items (with_dot q w.dot) read
  is_behind read is =
      let l = slice_get_within pass.numbers.now.items.items item (with_dot q w.dot) w.numbered in
      let e = pass.numbers.now.counted in
      ok.numbers.behind item (with_dot q w.dot) read w.numbered (slice_get_at pass.numbers.now.behind.items item read (omega arith) is)

  -- a number that is read is in the list, at the item's number
  pub number_behind : (read : Option ℕ) → read ≡ get_or pass.numbers.now.behind.items item read → (x : ℕ) → read ≡ Some x → slice_get pass.numbers.now.behind.items item ≡ Some (Some x)
  number_behind read is x some =
      let l = slice_get_within pass.numbers.now.items.items item (with_dot q w.dot) w.numbered in
      let e = pass.numbers.now.counted in
      slice_get_at pass.numbers.now.behind.items item read (omega arith) is ∙ ap Some some

  -- the symbol with this number is after the dot
  pub symbol_there : (read : Option ℕ) → read ≡ get_or pass.numbers.now.behind.items item read → (x : ℕ) → read ≡ Some x → (s : Symbol) × (slice_get q.symbols w.dot ≡ Some s)
  symbol_there read is x some = let b = subst (IsNumberBehind pass.numbers.now.symbols.items (with_dot q w.dot)) some (is_behind read is) in (b.0, b.2)

  -- if no number is read, the dot is at the end
  pub none_there : (read : Option ℕ) → read ≡ get_or pass.numbers.now.behind.items item read → read ≡ None → w.dot ≡ length q.symbols
  none_there read is none = subst (IsNumberBehind pass.numbers.now.symbols.items (with_dot q w.dot)) none (is_behind read is)

  -- at its dot a walk goes through a node as a step does there
  step_at : (n : ℕ) (g : GoesThrough pass from q n) → g.dot ≡ w.dot → StepsThrough pass state (with_dot q w.dot) n
  step_at n g e =
      let same : g.state ≡ state = same_some g.state state (sym g.leads ∙ ap (λ (d : ℕ). state_from states from (take d q.symbols)) e ∙ w.over) in
      record {
        name = g.name;
        after = g.after;
        target = g.target;
        behind = ap (λ (d : ℕ). drop d q.symbols) (sym e) ∙ g.behind;
        nullable = g.nullable;
        edge = ap (λ (r : ℕ). (states r).goto g.name) (sym same) ∙ g.edge;
        node = g.node ∙ ap (λ (r : ℕ). Some (r, g.name)) same;
      }

  -- a step at the dot goes through a node as the walk does
  walk_at : (n : ℕ) → StepsThrough pass state (with_dot q w.dot) n → (g : GoesThrough pass from q n) × (g.dot ≡ w.dot)
  walk_at n s = (
    record {
      dot = w.dot;
      state = state;
      name = s.name;
      after = s.after;
      target = s.target;
      behind = s.behind;
      nullable = s.nullable;
      leads = w.over;
      edge = s.edge;
      node = s.node;
    },
    refl,
  )

  module _ (x : Symbol) (behind : slice_get q.symbols w.dot ≡ Some x) (after : List ℕ) (stepped : AddsThose (StepsThrough pass state (with_dot q w.dot)) ends after) where
    -- the walk goes over one symbol more
    pub walk_more : (target : ℕ) → IsGoneOver pass state (with_dot q w.dot) (Some target) → IsWalking pass from expansion old target (item + 1) after
    walk_more target gone = record {
      production = q;
      dot = w.dot + 1;
      begun = w.begun;
      numbered = ok.numbers.next item (with_dot q w.dot) w.numbered (slice_get_within q.symbols w.dot x behind);
      over =
          let past : take (w.dot + 1) q.symbols ≡ take w.dot q.symbols ++ x ∷ [] = ap (λ (d : ℕ). take d q.symbols) (one_more w.dot) ∙ take_past w.dot q.symbols (drop_split w.dot q.symbols x behind) in
          ap (state_from states from) past ∙ state_from-more states from (take w.dot q.symbols) x w.over (gone x behind);
      listed = ((lead_as_items_say (λ lookahead t. true) pass.states.now ok.coherent).edges state target x (gone x behind)).within;
      passed = those_both (GoesBefore pass from q w.dot) (StepsThrough pass state (with_dot q w.dot)) (GoesBefore pass from q (w.dot + 1)) old ends after (λ n. (
        λ g. elim (places_apart g.0.dot w.dot) [
          | inl less ↦ inl (g.0, less)
          | inr other ↦ elim other [ inl more ↦ absurd (let l = g.1 in omega arith) | inr same ↦ inr (step_at n g.0 same) ]
        ],
        λ e. elim e [
          | inl g ↦ (g.0, let l = g.1 in omega arith)
          | inr s ↦ let g = walk_at n s in (g.0, let l = g.1 in omega arith)
        ],
      )) w.passed stepped;
    }
      where
        one_more : (d : ℕ) → d + 1 ≡ suc d
        one_more d = omega arith

    module _ (gone : IsGoneOver pass state (with_dot q w.dot) None) where
      -- the right side leads nowhere if this symbol leads nowhere
      pub walk_stops : state_from states from q.symbols ≡ None
      walk_stops = ap (state_from states from) (sym (take_all q.symbols)) ∙ dead_end states q.symbols from w.dot state (length q.symbols) x w.over behind (gone x behind) (slice_get_within q.symbols w.dot x behind)

      -- no node after the dot is passed
      pub stopped_through : AddsThose (GoesThrough pass from q) old after
      stopped_through = those_both (GoesBefore pass from q w.dot) (StepsThrough pass state (with_dot q w.dot)) (GoesThrough pass from q) old ends after (λ n. (
        λ g. elim (places_apart g.dot w.dot) [
          | inl less ↦ inl (g, less)
          | inr other ↦ elim other [
            | inl more ↦ absurd (let e : None ≡ Some g.state = sym (dead_end states q.symbols from w.dot state g.dot x w.over behind (gone x behind) more) ∙ g.leads in cc)
            | inr same ↦ inr (step_at n g same)
          ]
        ],
        λ e. elim e [ inl g ↦ g.0 | inr s ↦ (walk_at n s).0 ],
      )) w.passed stepped

  module _ (end : w.dot ≡ length q.symbols) where
    -- at the end all nodes are passed
    pub ended_through : AddsThose (GoesThrough pass from q) old ends
    ended_through n = (
      λ c. elim ((w.passed n).0 c) [ inl was ↦ inl was | inr g ↦ inr g.0 ],
      λ e. elim e [
        | inl was ↦ (w.passed n).1 (inl was)
        | inr g ↦ (w.passed n).1 (inr (g, let l = slice_get_within q.symbols g.dot (Nonterminal g.name) (split_drop g.dot q.symbols (Nonterminal g.name) g.after g.behind) in omega arith))
      ],
    )

    -- at the end the item is finished
    pub walk_ends : IsEndOfWalk pass from q (Some (state, item))
    walk_ends = (ap (state_from states from) (sym (take_all q.symbols) ∙ ap (λ (d : ℕ). take d q.symbols) (sym end)) ∙ w.over, w.listed, w.numbered ∙ ap (λ (d : ℕ). Some (with_dot q d)) end)
