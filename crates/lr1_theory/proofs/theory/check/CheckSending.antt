-- Sending tokens to places: to one place, and to many.
use Rattle.std.proofs.Common.{◌≡◌, ◌≢◌, ◌+◌, ℕ, ◌⊎◌, inl, inr, List, [], ◌∷◌, ◌++◌, length, refl, sym, ◌∙◌, ap, subst, arith, Bool, true, false, not, ⊎_elim, ◌↔◌, drop, Some, None}
use Rattle.std.specs.Prelude.{Contains, MatchBool, IsTrue, slice_get}
use Rattle.std.proofs.lemmas.List.Elements.{Contains-append_left, Contains-push_cases, Contains-push}
use Rattle.std.proofs.lemmas.Bool.{false≢true}
use Rattle.std.proofs.lemmas.Option.{slice_get_within}
use Rattle.lalrpop_collections.specs.Words.{Bits, has, join, same_bits, AllBelow, IsBelow}
use Rattle.lalrpop_grammar.specs.Words.{IsFirstSetBefore, FitsTokens, productions_of, rules_of}
use Rattle.lr1_theory.proofs.Types.{Grammar, NonterminalString, Production, State, Symbol}
use Rattle.lalrpop_grammar.specs.declared.repr.Symbol.TheVariants.{Nonterminal}
use Rattle.lalrpop_collections.specs.lists.Entries.{IsQueued}
use Rattle.lalrpop_states.specs.Words.{Carried, Sends, IsPlaceAtStart, IsOver, IsInto, CarriesFromPlace, at_place, target_in}
use Rattle.lalrpop_states.specs.declared.lr1_core.place.Place.{Place}
use Rattle.lalrpop_collections.proofs.theory.lists.Growth.{Adds-one, Adds-none, Adds-then, Adds-same, queued_weighed, known_kept, queued_among}
use Rattle.lalrpop_collections.proofs.theory.lists.Members.{Contains-none}
use Rattle.lalrpop_collections.proofs.theory.lists.Places.{same_some}
use Rattle.lalrpop_collections.proofs.theory.sets.BitSets.{join_left, join_right, join_cases}

abbrev pub Entry : Type 0
Entry = Place × Bits

-- ---- one place
module _ (key : Place) (tokens : Bits) where
  pub Sends-one : (old new : Carried) (queue pushed : List Place) → IsQueued key tokens old new queue pushed → Sends (λ k. key ≡ k) tokens old new queue pushed
  Sends-one old new queue pushed s = record {
    adds = Adds-one key tokens old new queue pushed s;
    found = queued_among key tokens old new queue pushed s;
    differ = λ _. s.differ;
    weighed = queued_weighed key tokens old new queue pushed s;
  }

-- ---- many places
pub Sends-none : (Such : Place → Type 0) (tokens : Bits) (table : Carried) (queue : List Place) → ((k : Place) → Such k → ⊥) → Sends Such tokens table table queue queue
Sends-none Such tokens table queue none = record { adds = Adds-none Such tokens table queue none; found = λ k c. inl c; differ = λ d. d; weighed = λ n f each. omega arith }

pub below_after : (Such : Place → Type 0) (tokens : Bits) (old new : Carried) (queue pushed : List Place) (n : ℕ) → Sends Such tokens old new queue pushed → IsBelow n tokens → AllBelow n old → AllBelow n new
below_after Such tokens old new queue pushed n s f each e c bit h = elim (s.adds.bits e bit c h) [ inl o ↦ each (e.0, o.set) o.entry bit o.there | inr t ↦ f bit t.1 ]

pub Sends-then : (A B C : Place → Type 0) (tokens : Bits) → ((k : Place) → A k → C k) → ((k : Place) → B k → C k) → ((k : Place) → C k → A k ⊎ B k) → (a b c : Carried) (s t u : List Place) → Sends A tokens a b s t → Sends B tokens b c t u → Sends C tokens a c s u
Sends-then A B C tokens left right cases a b c s t u x y = record {
  adds = Adds-then A B C tokens left right cases a b c s t u x.adds y.adds;
  found = λ k h. elim (y.found k h) [ inl o ↦ elim (x.found k o) [ inl p ↦ inl p | inr q ↦ inr (known_kept b c t u y.adds.grows k q) ] | inr n ↦ inr n ];
  differ = λ d. y.differ (x.differ d);
  weighed = λ n f each.
      let l = x.weighed n f each in
      let m = y.weighed n f (below_after A tokens a b s t n x f each) in
      omega arith;
}

pub Sends-same : (A B : Place → Type 0) (tokens : Bits) → ((k : Place) → A k → B k) → ((k : Place) → B k → A k) → (a b : Carried) (s t : List Place) → Sends A tokens a b s t → Sends B tokens a b s t
Sends-same A B tokens to back a b s t x = record { adds = Adds-same A B tokens to back a b s t x.adds; found = x.found; differ = x.differ; weighed = x.weighed }

-- places with equal parts are the same
pub same_place : (a b : Place) → a.state ≡ b.state → a.item.production ≡ b.item.production → a.item.index ≡ b.item.index → a ≡ b
same_place a b n p i =
    let make : ℕ → Production → ℕ → Place = λ n p i. record { state = n; item = record { production = p; index = i; lookahead = record {} } } in
    ap (λ n. make n a.item.production a.item.index) n ∙ ap (λ p. make b.state p a.item.index) p ∙ ap (λ i. make b.state b.item.production i) i

-- sending tokens to the productions of a list, one more at a time
pub Begun-none : (n : ℕ) (tokens : Bits) (table : Carried) (queue : List Place) → Sends (IsPlaceAtStart n []) tokens table table queue queue
Begun-none n tokens table queue = Sends-none (IsPlaceAtStart n []) tokens table queue (λ k b. Contains-none k.item.production b.among)

pub Begun-more : (n : ℕ) (ps : List Production) (p : Production) (key : Place) (tokens : Bits) (a b c : Carried) (s t u : List Place) → key.state ≡ n → key.item.production ≡ p → key.item.index ≡ 0 → Sends (IsPlaceAtStart n ps) tokens a b s t → IsQueued key tokens b c t u → Sends (IsPlaceAtStart n (ps ++ p ∷ [])) tokens a c s u
Begun-more n ps p key tokens a b c s t u at is dot x y =
    Sends-then (IsPlaceAtStart n ps) (λ k. key ≡ k) (IsPlaceAtStart n (ps ++ p ∷ [])) tokens
    (λ k h. record { state = h.state; start = h.start; among = Contains-append_left ps (p ∷ []) k.item.production h.among })
    (λ k e. record { state = sym (ap (λ (d : Place). d.state) e) ∙ at; start = sym (ap (λ (d : Place). d.item.index) e) ∙ dot; among = subst (Contains (ps ++ p ∷ [])) (sym is ∙ ap (λ (d : Place). d.item.production) e) (Contains-push ps p) })
    (λ k h. elim (Contains-push_cases ps p k.item.production h.among) [
      | inl f ↦ inl (record { state = h.state; start = h.start; among = f })
      | inr e ↦ inr (same_place key k (at ∙ sym h.state) (is ∙ e) (dot ∙ sym h.start))
    ])
    a b c s t u x (Sends-one key tokens b c t u y)

-- ---- over a symbol, and without one
module _ (states : List (State Bits)) (place : Place) (tokens : Bits) where
  pub Over-end : (table : Carried) (queue : List Place) → place.item.index ≡ length place.item.production.symbols → Sends (IsOver states place) tokens table table queue queue
  Over-end table queue end = Sends-none (IsOver states place) tokens table queue (λ k o. let w = slice_get_within place.item.production.symbols place.item.index o.symbol o.behind in absurd (omega arith))

  pub Over-nowhere : (x : Symbol) (table : Carried) (queue : List Place) → slice_get place.item.production.symbols place.item.index ≡ Some x → target_in states place.state x ≡ None → Sends (IsOver states place) tokens table table queue queue
  Over-nowhere x table queue at none = Sends-none (IsOver states place) tokens table queue (λ k o.
      let same : x ≡ o.symbol = same_some x o.symbol (sym at ∙ o.behind) in
      let edge = sym none ∙ ap (target_in states place.state) same ∙ o.edge in
      cc)

  pub Over-one : (x : Symbol) (to : ℕ) (key : Place) (old new : Carried) (queue pushed : List Place) → slice_get place.item.production.symbols place.item.index ≡ Some x → target_in states place.state x ≡ Some to → at_place to place.item.production (place.item.index + 1) ≡ key → IsQueued key tokens old new queue pushed → Sends (IsOver states place) tokens old new queue pushed
  Over-one x to key old new queue pushed at edge is sent =
      Sends-same (λ k. key ≡ k) (IsOver states place) tokens
      (λ k e. record { symbol = x; behind = at; to = to; edge = edge; is = is ∙ e })
      (λ k o.
      let same : o.symbol ≡ x = same_some o.symbol x (sym o.behind ∙ at) in
      let target : to ≡ o.to = same_some to o.to (sym edge ∙ ap (target_in states place.state) (sym same) ∙ o.edge) in
      sym is ∙ ap (λ (n : ℕ). at_place n place.item.production (place.item.index + 1)) target ∙ o.is)
      old new queue pushed (Sends-one key tokens old new queue pushed sent)

module _ (g : Grammar) (states : List (State Bits)) (place : Place) (tokens : Bits) where
  pub CarriesFromPlace-over : (old new : Carried) (queue pushed : List Place) → ((name : NonterminalString) → slice_get place.item.production.symbols place.item.index ≡ Some (Nonterminal name) → ⊥) → Contains old (place, tokens) → Sends (IsOver states place) tokens old new queue pushed → CarriesFromPlace g states place old new queue pushed
  CarriesFromPlace-over old new queue pushed none entry over = record {
    tokens = tokens;
    entry = entry;
    middle = new;
    waiting = pushed;
    over = over;
    given = tokens;
    into = Sends-none (IsInto g place) tokens new pushed (λ k i. none i.name i.behind);
    first = λ name b. absurd (none name b);
    fits = λ f. f;
  }

  pub CarriesFromPlace-into : (name : NonterminalString) (given : Bits) (old middle new : Carried) (queue waiting pushed : List Place) → slice_get place.item.production.symbols place.item.index ≡ Some (Nonterminal name) → Contains old (place, tokens) → Sends (IsOver states place) tokens old middle queue waiting → Sends (IsPlaceAtStart place.state (productions_of g name)) given middle new waiting pushed →
      IsFirstSetBefore (rules_of g) (drop (place.item.index + 1) place.item.production.symbols) tokens given → (FitsTokens g.terminals tokens → FitsTokens g.terminals given) → CarriesFromPlace g states place old new queue pushed
  CarriesFromPlace-into name given old middle new queue waiting pushed behind entry over into first fits = record {
    tokens = tokens;
    entry = entry;
    middle = middle;
    waiting = waiting;
    over = over;
    given = given;
    into = Sends-same (IsPlaceAtStart place.state (productions_of g name)) (IsInto g place) given
        (λ k b. record { name = name; behind = behind; begun = b })
        (λ k i.
        let both : Some (Nonterminal i.name) ≡ Some (Nonterminal name) = sym i.behind ∙ behind in
        let same : i.name ≡ name = cc in
        subst (λ (n : NonterminalString). IsPlaceAtStart place.state (productions_of g n) k) same i.begun)
        middle new waiting pushed into;
    first = λ n b. first;
    fits = fits;
  }

-- ---- a set that did not grow has all bits that were joined to it
same_tests : (a b : Bool) → (a ≡ true → b ≡ true) → (b ≡ true → a ≡ true) → a ≡ b
same_tests true b f g = sym (f refl)
same_tests false true f g = g refl
same_tests false false f g = refl

pub holds_joined : (more : Bool) (old new s : Bits) → new ≡ join old s → MatchBool more (new ≢ old) (new ≡ old) → IsTrue (not more) ↔ ((bit : ℕ) → has s bit ≡ true → has old bit ≡ true)
holds_joined true old new s e m = (
  λ h. let no : false ≡ true = h in absurd (false≢true no),
  λ all. absurd (m (e ∙ same_bits (join old s) old (λ q. same_tests (has (join old s) q) (has old q) (λ h. ⊎_elim (λ a. a) (λ b. all q b) (join_cases old s q h)) (λ h. join_left old s q h)))),
)
holds_joined false old new s e m = (
  λ h bit there. subst (λ (t : Bits). has t bit ≡ true) (sym e ∙ m) (join_right old s bit there),
  λ all. refl,
)
