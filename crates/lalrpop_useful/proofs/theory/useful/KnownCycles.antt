-- What is known of cyclic nonterminals, and one nonterminal more.
use Rattle.std.proofs.Common.{◌≡◌, Bool, true, false, inl, inr, List, [], ◌∷◌, refl, sym, subst}
use Rattle.std.specs.Prelude.{Contains, ◌↔◌, IsTrue}
use Rattle.lalrpop_collections.specs.lists.CheckSets.{IsAdded}
use Rattle.lalrpop_collections.proofs.theory.lists.Members.{Contains-none}
use Rattle.lalrpop_grammar.specs.Words.{Derives, IsWellFormed, productions, productions_of}
use Rattle.lalrpop_grammar.proofs.theory.grammars.Derivations.{Derives-production, Derives-trans}
use Rattle.lalrpop_grammar.proofs.theory.grammars.Grammars.{productions_among, productions_named}
use Rattle.lalrpop_grammar.specs.declared.repr.Symbol.TheVariants.{Nonterminal}
use Rattle.lalrpop_useful.specs.declared.cycles.known.Known.{Known}
use Rattle.lalrpop_useful.specs.Words.{AddsCyclic, AddsIf, AreSettledBut, DerivesAlone, IsAloneOn, IsCyclic, IsKnown, IsNext, Meet}
use Rattle.lalrpop_useful.proofs.Types.{Grammar, NonterminalString, Production}
use Rattle.lalrpop_useful.proofs.theory.useful.Cycles.{alone_between, alone_derives, derived_between}

abbrev Names : Type 0
Names = List NonterminalString

-- ---- one name more, or the same ones
pub adds_cyclic : (g : List Production) (a : NonterminalString) (old new : Names) → IsAdded a old new → IsCyclic g a → AddsCyclic g a old new
adds_cyclic g a old new added cyclic b = (
  λ c. elim (added.from b c) [ inl o ↦ inl o | inr e ↦ inr (e, subst (IsCyclic g) e cyclic) ],
  λ h. elim h [ inl o ↦ added.kept b o | inr n ↦ subst (Contains new) n.0 added.there ],
)

pub adds_none : (g : List Production) (a : NonterminalString) (old new : Names) → new ≡ old → (IsCyclic g a → Contains old a) → AddsCyclic g a old new
adds_none g a old new same found b = (
  λ c. inl (subst (λ (names : Names). Contains names b) same c),
  λ h. elim h [
    | inl o ↦ subst (λ (names : Names). Contains names b) (sym same) o
    | inr n ↦ subst (λ (names : Names). Contains names b) (sym same) (subst (Contains old) n.0 (found (subst (IsCyclic g) (sym n.0) n.1)))
  ],
)

pub nothing_known : (g : Grammar) (k : Known) → k.settled.keys ≡ [] → k.done.keys ≡ [] → k.cyclic.keys ≡ [] → k.ring.keys ≡ [] → IsKnown g k
nothing_known g k settled done cyclic ring =
    let none : (names : Names) → names ≡ [] → (a : NonterminalString) → Contains names a → ⊥ = λ names same a c. Contains-none a (subst (λ (ns : Names). Contains ns a) same c) in
    record {
      closed = λ a b c l. absurd (none k.settled.keys settled a c);
      within = λ a c. absurd (none k.settled.keys settled a c);
      found = λ a c h. absurd (none k.done.keys done a c);
      sound = λ a c. absurd (none k.cyclic.keys cyclic a c);
      back = λ a b c d. absurd (none k.ring.keys ring a c);
    }

module _ (g : Grammar) (well : IsWellFormed g) where
  abbrev Rules : List Production
  Rules = productions g

  abbrev Leads : NonterminalString → NonterminalString → Type 0
  Leads a b = IsAloneOn Rules (productions_of g a) b

  -- what is led to alone is derived alone, and what that derives alone
  lead : (a b : NonterminalString) → Leads a b → DerivesAlone Rules a b
  lead a b l = (l.0, productions_among g a l.0 l.1, productions_named g well a l.0 l.1, alone_derives l.0.symbols b l.2)

  lead_on : (a s b : NonterminalString) → Leads a s → DerivesAlone Rules s b → DerivesAlone Rules a b
  lead_on a s b l d =
      let rest : Derives Rules (Nonterminal s ∷ []) (Nonterminal b ∷ []) = subst (λ (n : NonterminalString). Derives Rules (Nonterminal n ∷ []) (Nonterminal b ∷ [])) d.2 (Derives-trans (Derives-production d.0 d.1) d.3) in
      (l.0, productions_among g a l.0 l.1, productions_named g well a l.0 l.1, Derives-trans (alone_derives l.0.symbols s l.2) rest)

  module _ (own : (p : Production) → Contains Rules p → Contains (productions_of g p.nonterminal) p) where
    -- all that is derived alone is one of some closed names, if all that is led to is
    derived_within : (names : Names) → ((a b : NonterminalString) → Contains names a → Leads a b → Contains names b) → (a b : NonterminalString) → ((c : NonterminalString) → Leads a c → Contains names c) → DerivesAlone Rules a b → Contains names b
    derived_within names closed a b next r =
        derived_between Rules names (λ p among c d l. closed p.nonterminal d c (p, own p among, l)) b r.3 refl
        (λ u v c e m n. next c (r.0, subst (λ (x : NonterminalString). Contains (productions_of g x) r.0) r.2 (own r.0 r.1), alone_between r.0.symbols u v c e m n))

  module _ (k n : Known) (a : NonterminalString) (h : IsKnown g k) where
    -- a name that is done stays found
    done_found : IsAdded a k.done.keys n.done.keys → ((b : NonterminalString) → Contains k.cyclic.keys b → Contains n.cyclic.keys b) → (IsCyclic Rules a → Contains n.cyclic.keys a) → (b : NonterminalString) → Contains n.done.keys b → IsCyclic Rules b → Contains n.cyclic.keys b
    done_found done kept here b c cyclic = elim (done.from b c) [
      | inl o ↦ kept b (h.found b o cyclic)
      | inr e ↦ subst (Contains n.cyclic.keys) e (here (subst (IsCyclic Rules) (sym e) cyclic))
    ]

    -- ---- a nonterminal that leads to itself and to settled ones
    module _ (next : Names) (is_next : IsNext g a next) where
      settled_closed : AreSettledBut a next k.settled.keys → IsAdded a k.settled.keys n.settled.keys → (b c : NonterminalString) → Contains n.settled.keys b → Leads b c → Contains n.settled.keys c
      settled_closed but settled b c at l = elim (settled.from b at) [
        | inl o ↦ settled.kept c (h.closed b c o l)
        | inr e ↦ elim (but c ((is_next c).1 (subst (λ (x : NonterminalString). Leads x c) (sym e) l))) [
          | inl same ↦ subst (Contains n.settled.keys) (sym same) settled.there
          | inr o ↦ settled.kept c o
        ]
      ]

      settled_within : IsAdded a k.settled.keys n.settled.keys → IsAdded a k.done.keys n.done.keys → (b : NonterminalString) → Contains n.settled.keys b → Contains n.done.keys b
      settled_within settled done b c = elim (settled.from b c) [ inl o ↦ done.kept b (h.within b o) | inr e ↦ subst (Contains n.done.keys) e done.there ]

      not_cyclic : ((p : Production) → Contains Rules p → Contains (productions_of g p.nonterminal) p) → AreSettledBut a next k.settled.keys → (Contains k.done.keys a → ⊥) → (Contains next a → ⊥) → IsCyclic Rules a → ⊥
      not_cyclic own but new apart cyclic =
          new (h.within a (derived_within own k.settled.keys h.closed a a (λ c l. elim (but c ((is_next c).1 l)) [
            | inl same ↦ absurd (apart (subst (Contains next) same ((is_next c).1 l)))
            | inr o ↦ o
          ]) cyclic))

      pub settled_adds : ((p : Production) → Contains Rules p → Contains (productions_of g p.nonterminal) p) → AreSettledBut a next k.settled.keys → (Contains k.done.keys a → ⊥) → (t : Bool) → IsTrue t ↔ Contains next a → AddsIf t a k.cyclic.keys n.cyclic.keys → AddsCyclic Rules a k.cyclic.keys n.cyclic.keys
      settled_adds own but new true test adds = adds_cyclic Rules a k.cyclic.keys n.cyclic.keys adds (lead a a ((is_next a).0 (test.0 refl)))
      settled_adds own but new false test adds =
          let no : false ≡ true → ⊥ = λ e. cc in
          adds_none Rules a k.cyclic.keys n.cyclic.keys adds (λ cyclic. absurd (not_cyclic own but new (λ c. no (test.1 c)) cyclic))

      pub settled_known : AreSettledBut a next k.settled.keys → IsAdded a k.settled.keys n.settled.keys → IsAdded a k.done.keys n.done.keys → AddsCyclic Rules a k.cyclic.keys n.cyclic.keys → n.ring ≡ k.ring → n.onward ≡ k.onward → IsKnown g n
      settled_known but settled done adds ring onward = record {
        closed = settled_closed but settled;
        within = settled_within settled done;
        found = done_found done (λ b o. (adds b).1 (inl o)) (λ cyclic. (adds a).1 (inr (refl, cyclic)));
        sound = λ b c. elim ((adds b).0 c) [ inl o ↦ h.sound b o | inr m ↦ m.1 ];
        back = λ b c i j. h.back b c (subst (λ (s : _). Contains s.keys b) ring i) (subst (λ (s : _). Contains s.keys c) onward j);
      }

    -- ---- a nonterminal that is done, and no more is settled
    module _ (same : n.settled ≡ k.settled) (done : IsAdded a k.done.keys n.done.keys) (adds : AddsCyclic Rules a k.cyclic.keys n.cyclic.keys) where
      was : (b : NonterminalString) → Contains n.settled.keys b → Contains k.settled.keys b
      was b c = subst (λ (s : _). Contains s.keys b) same c

      is : (b : NonterminalString) → Contains k.settled.keys b → Contains n.settled.keys b
      is b c = subst (λ (s : _). Contains s.keys b) (sym same) c

      pub done_known : ((b c : NonterminalString) → Contains n.ring.keys b → Contains n.onward.keys c → DerivesAlone Rules b c) → IsKnown g n
      done_known back = record {
        closed = λ b c at l. is c (h.closed b c (was b at) l);
        within = λ b at. done.kept b (h.within b (was b at));
        found = done_found done (λ b o. (adds b).1 (inl o)) (λ cyclic. (adds a).1 (inr (refl, cyclic)));
        sound = λ b c. elim ((adds b).0 c) [ inl o ↦ h.sound b o | inr m ↦ m.1 ];
        back = back;
      }

    -- ---- a nonterminal of the last ring
    module _ (next : Names) (is_next : IsNext g a next) (meets : Meet next k.ring.keys) where
      onto : (b : NonterminalString) → Contains k.onward.keys b → DerivesAlone Rules a b
      onto b c = lead_on a meets.0 b ((is_next meets.0).0 meets.1) (h.back meets.0 b meets.2 c)

      pub ring_cyclic : Contains k.onward.keys a → IsCyclic Rules a
      ring_cyclic c = onto a c

      pub ring_back : IsAdded a k.ring.keys n.ring.keys → n.onward ≡ k.onward → (b c : NonterminalString) → Contains n.ring.keys b → Contains n.onward.keys c → DerivesAlone Rules b c
      ring_back added onward b c i j =
          let old : Contains k.onward.keys c = subst (λ (s : _). Contains s.keys c) onward j in
          elim (added.from b i) [
            | inl o ↦ h.back b c o old
            | inr e ↦ subst (λ (x : NonterminalString). DerivesAlone Rules x c) e (onto c old)
          ]
