-- The users of a nonterminal: one push, one symbol and one production more.
use Rattle.std.proofs.Common.{◌≡◌, inl, inr, false, List, [], ◌∷◌, ◌++◌, Option, None, Some, sym, ◌∙◌, subst}
use Rattle.std.specs.Prelude.{Contains}
use Rattle.std.specs.Ordering.{is_eq}
use Rattle.std.specs.BTreeMap.{is_at}
use Rattle.std.specs.BTreeSet.{BTreeSet, insert_key}
use Rattle.std.proofs.lemmas.Bool.{cases_Bool}
use Rattle.std.proofs.lemmas.List.Elements.{Contains-append_cases, Contains-push_cases}
use Rattle.lalrpop_collections.specs.Words.{PushesAt, collection_at}
use Rattle.lalrpop_collections.proofs.theory.lists.Members.{Contains-none, contains-cons, insert_key-has, insert_key-kept}
use Rattle.lalrpop_grammar.specs.Words.{name_cmp}
use Rattle.lalrpop_grammar.proofs.theory.first.FirstNames.{name_same}
use Rattle.lalrpop_grammar.proofs.theory.grammars.NameOrders.{name_exact}
use Rattle.lalrpop_grammar.proofs.theory.grammars.SymbolLists.{same_nonterminal}
use Rattle.lalrpop_grammar.specs.declared.repr.Symbol.TheVariants.{Nonterminal}
use Rattle.lalrpop_useful.proofs.Types.{NonterminalString, Production, Symbol}
use Rattle.lalrpop_useful.specs.Words.{AddsUser, HasUsers, UserMap, listed_names, users_at}

-- a push puts a name into the set of another one
abbrev Pushed : Option (BTreeSet NonterminalString) → NonterminalString → Option (BTreeSet NonterminalString) → Type 0
Pushed = PushesAt (λ (s : BTreeSet NonterminalString). s.keys ≡ []) (λ (s : BTreeSet NonterminalString) (k : NonterminalString) (t : BTreeSet NonterminalString). t.keys ≡ insert_key name_cmp s.keys k)

pushed_there : (old new : Option (BTreeSet NonterminalString)) (k : NonterminalString) → Pushed old k new → Contains (listed_names new) k
pushed_there None None k p = absurd p
pushed_there (Some s) None k p = absurd p
pushed_there None (Some t) k p = subst (λ (ks : List NonterminalString). Contains ks k) (sym p.2) (insert_key-has name_cmp name_exact (p.0).keys k)
pushed_there (Some s) (Some t) k p = subst (λ (ks : List NonterminalString). Contains ks k) (sym p) (insert_key-has name_cmp name_exact s.keys k)

pushed_kept : (old new : Option (BTreeSet NonterminalString)) (k a : NonterminalString) → Pushed old k new → Contains (listed_names old) a → Contains (listed_names new) a
pushed_kept None new k a p c = absurd (Contains-none a c)
pushed_kept (Some s) None k a p c = absurd p
pushed_kept (Some s) (Some t) k a p c = subst (λ (ks : List NonterminalString). Contains ks a) (sym p) (insert_key-kept name_cmp s.keys k a c)

module _ (old new : UserMap) (name user key value : NonterminalString) (same : key ≡ name) (is : value ≡ user) (pushed : Pushed (collection_at name_cmp old key) value (collection_at name_cmp new key)) (others : (q : NonterminalString) → is_eq (name_cmp key q) ≡ false → collection_at name_cmp new q ≡ collection_at name_cmp old q) where
  there : Contains (users_at new name) user
  there = subst (λ (a : NonterminalString). Contains (users_at new a) user) same (subst (Contains (users_at new key)) is (pushed_there (collection_at name_cmp old key) (collection_at name_cmp new key) value pushed))

  kept : (a b : NonterminalString) → Contains (users_at old a) b → Contains (users_at new a) b
  kept a b c = elim (cases_Bool (is_at (name_cmp key) a)) [
    | inl t ↦
        let e : key ≡ a = name_same key a t in
        subst (λ (q : NonterminalString). Contains (users_at new q) b) e (pushed_kept (collection_at name_cmp old key) (collection_at name_cmp new key) value b pushed (subst (λ (q : NonterminalString). Contains (users_at old q) b) (sym e) c))
    | inr t ↦ subst (λ (o : Option (BTreeSet NonterminalString)). Contains (listed_names o) b) (sym (others a t)) c
  ]

  -- a symbol that is a nonterminal
  pub User-pushed : (symbol : Symbol) → symbol ≡ Nonterminal name → AddsUser user (symbol ∷ []) old new
  User-pushed symbol named = record {
    added = λ a c. elim (contains-cons symbol [] (Nonterminal a) c) [
      | inl e ↦ subst (λ (q : NonterminalString). Contains (users_at new q) user) (same_nonterminal (sym named ∙ e)) there
      | inr n ↦ absurd (Contains-none (Nonterminal a) n)
    ];
    kept = kept;
  }

pub User-none : (user : NonterminalString) (users : UserMap) → AddsUser user [] users users
User-none user users = record { added = λ a c. absurd (Contains-none (Nonterminal a) c); kept = λ a b c. c }

pub User-more : (user : NonterminalString) (symbols : List Symbol) (symbol : Symbol) (a b c : UserMap) → AddsUser user symbols a b → AddsUser user (symbol ∷ []) b c → AddsUser user (symbols ++ symbol ∷ []) a c
User-more user symbols symbol a b c x y = record {
  added = λ k h. elim (Contains-append_cases symbols (symbol ∷ []) (Nonterminal k) h) [ inl f ↦ y.kept k user (x.added k f) | inr l ↦ y.added k l ];
  kept = λ k m h. y.kept k m (x.kept k m h);
}

-- productions
pub Users-none : (users : UserMap) → HasUsers [] users
Users-none users p c = absurd (Contains-none p c)

pub Users-more : (ps : List Production) (p : Production) (old new : UserMap) → HasUsers ps old → AddsUser p.nonterminal p.symbols old new → HasUsers (ps ++ p ∷ []) new
Users-more ps p old new h x q c a on = elim (Contains-push_cases ps p q c) [
  | inl f ↦ x.kept a q.nonterminal (h q f a on)
  | inr e ↦ subst (λ (r : Production). Contains (users_at new a) r.nonterminal) e (x.added a (subst (λ (r : Production). Contains r.symbols (Nonterminal a)) (sym e) on))
]
