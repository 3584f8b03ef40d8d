-- The steps of a search for the way from a nonterminal back to itself.
use Rattle.std.proofs.Common.{◌≡◌, ℕ, zero, suc, ◌<◌, ◌⊎◌, inl, inr, List, [], ◌∷◌, ◌++◌, length, Some, refl, sym, ap, subst, ◌∙◌, arith}
use Rattle.std.specs.Prelude.{Contains, slice_get}
use Rattle.std.specs.Borrow.{Bor}
use Rattle.std.proofs.lemmas.List.Elements.{Contains-push_cases}
use Rattle.std.proofs.lemmas.Option.{slice_get_within}
use Rattle.lalrpop_collections.proofs.theory.lists.Lists.{contains_head, contains_tail, same_some, some≢none}
use Rattle.lalrpop_grammar.specs.declared.repr.NonterminalString.{NonterminalString}
use Rattle.lalrpop_grammar.specs.declared.repr.Production.{Production}
use Rattle.lalrpop_grammar.specs.declared.repr.Symbol.{Symbol}
use Rattle.lalrpop_grammar.specs.declared.repr.grammar.Grammar.{Grammar}
use Rattle.lalrpop_useful.specs.Words.{IsAlone, IsAloneOn}
use Rattle.grammar_diagnostics.specs.declared.cycle.Step.{Step}
use Rattle.grammar_diagnostics.specs.CyclePaths.{AddsSuch, AreSteps, HasStepAt, IsStepFrom, IsUnitCycle, IsUnitPath, LeadsAlone, names_now}

abbrev Name : Type 0
Name = Bor NonterminalString

-- ---- names that are added
pub adds_one : (Such : NonterminalString → Type 0) (old new : List NonterminalString) (n : NonterminalString) → new ≡ old ++ n ∷ [] → Such n → AddsSuch Such old new
adds_one Such old new n same h b c = elim (Contains-push_cases old n b (subst (λ (l : List NonterminalString). Contains l b) same c)) [
  | inl there ↦ inl there
  | inr is ↦ inr (subst Such is h)
]

-- the name at a place of a list of references is in the list of names
pub each_at : (xs : List Name) (k : ℕ) (x : Name) → slice_get xs k ≡ Some x → Contains (names_now xs) x.now
each_at [] k x e = absurd (some≢none (sym e))
each_at (y ∷ ys) zero x e = subst (λ (z : Name). Contains (names_now (y ∷ ys)) z.now) (same_some e) (contains_head y.now (names_now ys))
each_at (y ∷ ys) (suc k) x e = contains_tail y.now (names_now ys) x.now (each_at ys k x e)

pub adds_then : (One All : NonterminalString → Type 0) (a b c : List NonterminalString) → ((n : NonterminalString) → One n → All n) → AddsSuch All a b → AddsSuch One b c → AddsSuch All a c
adds_then One All a b c more h k n there = elim (k n there) [ inl old ↦ h n old | inr new ↦ inr (more n new) ]

contains_at : (xs : List Production) (k : ℕ) (x : Production) → slice_get xs k ≡ Some x → Contains xs x
contains_at [] k x e = absurd (some≢none (sym e))
contains_at (y ∷ ys) zero x e = subst (λ (z : Production). Contains (y ∷ ys) z) (same_some e) (contains_head y ys)
contains_at (y ∷ ys) (suc k) x e = contains_tail y ys x (contains_at ys k x e)

-- the names that are alone on right sides, and those of one more
pub alone_more : (from g ps : List Production) (k : ℕ) (p : Production) (symbols : List Symbol) (old new : List NonterminalString) → from ≡ g → slice_get ps k ≡ Some p → symbols ≡ p.symbols → ((b : NonterminalString) → Contains old b → IsAloneOn g ps b) → AddsSuch (IsAlone from symbols) old new → (b : NonterminalString) → Contains new b → IsAloneOn g ps b
alone_more from g ps k p symbols old new same at read h adds b c = elim (adds b c) [
  | inl there ↦ h b there
  | inr alone ↦ (p, contains_at ps k p at, subst (λ (rules : List Production). IsAlone rules p.symbols b) same (subst (λ (l : List Symbol). IsAlone from l b) read alone))
]

-- ---- steps
get_push : (xs : List Step) (y : Step) (k : ℕ) (s : Step) → slice_get (xs ++ y ∷ []) k ≡ Some s → (slice_get xs k ≡ Some s) ⊎ ((k ≡ length xs) × (y ≡ s))
get_push [] y zero s e = inr (refl, same_some e)
get_push [] y (suc k) s e = absurd (some≢none (sym e))
get_push (x ∷ xs) y zero s e = inl e
get_push (x ∷ xs) y (suc k) s e = elim (get_push xs y k s e) [ inl old ↦ inl old | inr new ↦ inr (ap suc new.0, new.1) ]

get_kept : (xs : List Step) (y : Step) (k : ℕ) (s : Step) → slice_get xs k ≡ Some s → slice_get (xs ++ y ∷ []) k ≡ Some s
get_kept [] y k s e = absurd (some≢none (sym e))
get_kept (x ∷ xs) y zero s e = e
get_kept (x ∷ xs) y (suc k) s e = get_kept xs y k s e

-- the step of a name stays where it is
pub step_kept : (xs : List Step) (y : Step) (place : ℕ) (a : NonterminalString) → HasStepAt xs place a → HasStepAt (xs ++ y ∷ []) place a
step_kept xs y place a h = record { step = h.step; there = get_kept xs y place h.step h.there; named = h.named }

module _ (g : Grammar) (a : NonterminalString) where
  from_kept : (xs : List Step) (y : Step) (k : ℕ) (s : Step) → IsStepFrom g xs k s → IsStepFrom g (xs ++ y ∷ []) k s
  from_kept xs y k s h = record { parent = h.parent; there = get_kept xs y s.from h.parent h.there; before = h.before; leads = h.leads }

  -- one more step
  pub steps_more : (xs : List Step) (b : NonterminalString) (y : Step) → AreSteps g a xs → HasStepAt xs y.from b → LeadsAlone g b y.name.now → AreSteps g a (xs ++ y ∷ [])
  steps_more xs b y h p leads k s e = elim (get_push xs y k s e) [
    | inl old ↦ elim (h k s old) [ inl first ↦ inl first | inr from ↦ inr (from_kept xs y k s from) ]
    | inr new ↦
        let within : y.from < length xs = slice_get_within xs y.from p.step p.there in
        let made : IsStepFrom g (xs ++ y ∷ []) k y = record {
          parent = p.step;
          there = get_kept xs y y.from p.step p.there;
          before = omega (arith, within, new.0);
          leads = subst (λ (n : NonterminalString). LeadsAlone g n y.name.now) (sym p.named) leads;
        } in
        inr (subst (λ (t : Step). IsStepFrom g (xs ++ y ∷ []) k t) new.1 made)
  ]

  -- ---- the path so far: it begins with the name of the step at a place, and ends with the first name
  pub record IsPathFrom (steps : List Step) (at : ℕ) (names : List NonterminalString) : Type 0 where
    pub head : NonterminalString
    pub next : NonterminalString
    pub rest : List NonterminalString
    pub whole : names ≡ head ∷ next ∷ rest
    pub path : IsUnitPath g a (head ∷ next ∷ rest)
    pub there : HasStepAt steps at head

  pub path_start : (steps : List Step) (at : ℕ) (b : NonterminalString) (names : List NonterminalString) → HasStepAt steps at b → LeadsAlone g b a → names ≡ b ∷ a ∷ [] → IsPathFrom steps at names
  path_start steps at b names h leads whole = record { head = b; next = a; rest = []; whole = whole; path = (leads, refl); there = h }

  -- a step at a later place leads from one before it
  from_of : (steps : List Step) (at : ℕ) (s : Step) → AreSteps g a steps → slice_get steps at ≡ Some s → 0 < at → IsStepFrom g steps at s
  from_of steps at s h e after = elim (h at s e) [ inl first ↦ absurd (omega (arith, after, first.1)) | inr from ↦ from ]

  pub from_before : (steps : List Step) (at : ℕ) (s : Step) → AreSteps g a steps → slice_get steps at ≡ Some s → 0 < at → s.from < at
  from_before steps at s h e after = (from_of steps at s h e after).before

  pub from_within : (steps : List Step) (at : ℕ) (s : Step) → AreSteps g a steps → slice_get steps at ≡ Some s → 0 < at → s.from < length steps
  from_within steps at s h e after = let f = from_of steps at s h e after in slice_get_within steps s.from f.parent f.there

  pub path_within : (steps : List Step) (at : ℕ) (names : List NonterminalString) → IsPathFrom steps at names → at < length steps
  path_within steps at names h = slice_get_within steps at h.there.step h.there.there

  -- the name of the step before is put first
  pub path_more : (steps : List Step) (at : ℕ) (s t : Step) (old new : List NonterminalString) → AreSteps g a steps → slice_get steps at ≡ Some s → slice_get steps s.from ≡ Some t → 0 < at → IsPathFrom steps at old → new ≡ t.name.now ∷ old → IsPathFrom steps s.from new
  path_more steps at s t old new h e f after p whole =
      let from = from_of steps at s h e after in
      let parent : from.parent ≡ t = same_some (sym from.there ∙ f) in
      let step : p.there.step ≡ s = same_some (sym p.there.there ∙ e) in
      let head : s.name.now ≡ p.head = ap (λ (x : Step). x.name.now) (sym step) ∙ p.there.named in
      let leads : LeadsAlone g t.name.now s.name.now = subst (λ (x : Step). LeadsAlone g x.name.now s.name.now) parent from.leads in
      record {
        head = t.name.now;
        next = p.head;
        rest = p.next ∷ p.rest;
        whole = whole ∙ ap (λ (l : List NonterminalString). t.name.now ∷ l) p.whole;
        path = (subst (λ (n : NonterminalString). LeadsAlone g t.name.now n) head leads, p.path);
        there = record { step = t; there = f; named = refl };
      }

  -- at the first place, the path is a cycle
  pub path_end : (steps : List Step) (at : ℕ) (names : List NonterminalString) → AreSteps g a steps → (0 < at → ⊥) → IsPathFrom steps at names → IsUnitCycle g a names
  path_end steps at names h none p = subst (IsUnitCycle g a) (sym p.whole) (elim (h at p.there.step p.there.there) [
    | inl first ↦ (sym p.there.named ∙ first.0, p.path)
    | inr from ↦ absurd (none (omega (arith, from.before)))
  ])
