-- A trace steps back alike from the starts of the productions of one nonterminal in a state. So a
-- second such step adds nothing more.
use Rattle.std.proofs.Common.{◌≡◌, ℕ, inl, inr, List, [], ◌∷◌, drop, sym, ◌∙◌, ap, subst, arith}
use Rattle.std.specs.Prelude.{Contains}
use Rattle.lalrpop_base.specs.Words.{LeadsBack, to_parent, behind_parent, of_start, Contents, IsBehindDot, Rules, rules_of}
use Rattle.lalrpop_grammar.specs.lanes.Lanes.{Gives}
use Rattle.lalrpop_lanes.proofs.Types.{NonterminalString, Production, Token}
use Rattle.lalrpop_grammar.specs.declared.repr.Symbol.TheVariants.{Nonterminal}
use Rattle.lalrpop_collections.specs.lists.CheckSets.{IsAdded}
use Rattle.lalrpop_lanes.specs.Words.{AddsNothing, AreExpanded, GainsOf, GivesBit, GivesCell, GivesSuccessor, KeepsAll, VisitsOf}
use Rattle.lalrpop_construction.specs.Words.{places_in}
use Rattle.lalrpop_lanes.specs.lanes.LaneSteps.{LeadsBackTo}
use Rattle.lalrpop_lanes.specs.declared.lane_table.lane.automaton.Automaton.{Automaton}
use Rattle.lalrpop_collections.specs.declared.collections.walk.Walk.{Walk}
use Rattle.lalrpop_lanes.specs.declared.lane_table.table.LaneTable.{LaneTable}
use Rattle.lalrpop_states.specs.declared.lr1_core.place.Place.{Place}
use Rattle.lalrpop_lanes.proofs.theory.lanes.Gains.{Gains-same}
use Rattle.lalrpop_lanes.proofs.theory.lanes.GainsSome.{GainsSome-all, Gains-again, kept_all}
use Rattle.lalrpop_collections.proofs.theory.lists.Members.{Contains-none}
use Rattle.lalrpop_lanes.proofs.theory.lanes.Unshifting.{back_cases}
use Rattle.lalrpop_collections.proofs.theory.collections.Walks.{Visits-again, Visits-same}

-- the two places are at the start of productions of one nonterminal, in one state
pub record AreAlike (p q : Place) : Type 0 where
  pub state : p.state ≡ q.state
  pub name : p.item.production.nonterminal ≡ q.item.production.nonterminal
  pub left : p.item.index ≡ 0
  pub right : q.item.index ≡ 0

turned : (p q : Place) → AreAlike p q → AreAlike q p
turned p q a = record { state = sym a.state; name = sym a.name; left = a.right; right = a.left }

gives_alike : {g : List Production} {start : NonterminalString} {states : ℕ → Contents} {s i : ℕ} {p : Production} {t : Token} (q : Production) → p.nonterminal ≡ q.nonterminal → Gives g start states s p i t → Gives g start states s q 0 t
gives_alike q e (behind_parent s p r dot after t c b f) = behind_parent s q r dot after t c (subst (λ (a : NonterminalString). drop dot r.symbols ≡ Nonterminal a ∷ after) e b) f
gives_alike q e (of_start s p h) = of_start s q (sym e ∙ h)

module _ {L : Type 0} (automaton : Automaton L) where
  abbrev R : Rules
  R = rules_of automaton.grammar.now

  abbrev S : ℕ → Contents
  S = places_in automaton.states.now

  abbrev Cell : Place → ℕ → Type 0
  Cell p = GivesCell R automaton.start.now S p

  abbrev Bit : Place → ℕ → ℕ → Type 0
  Bit p = GivesBit R automaton.start.now S p

  abbrev Successor : Place → ℕ → ℕ → Type 0
  Successor p = GivesSuccessor R automaton.start.now S p

  abbrev Led : Place → Place → Type 0
  Led p = LeadsBackTo R automaton.start.now S p

  -- ---- one as the other
  cell_alike : (p q : Place) → AreAlike p q → (row : ℕ) → Cell p row → Cell q row
  cell_alike p q a row h = record {
    here = sym a.state ∙ h.here;
    begun = a.right;
    given = elim h.given [
      | inl e ↦ inl (sym a.name ∙ e)
      | inr b ↦ inr (subst (λ (x : NonterminalString). IsBehindDot (S row) (Nonterminal x)) a.name b)
    ];
  }

  bit_alike : (p q : Place) → AreAlike p q → (row bit : ℕ) → Bit p row bit → Bit q row bit
  bit_alike p q a row bit h = record {
    here = sym a.state ∙ h.here;
    token = h.token;
    number = h.number;
    gives = subst (λ (i : ℕ). Gives R.productions automaton.start.now S row q.item.production i h.token) (sym a.right) (gives_alike q.item.production a.name h.gives);
  }

  no_successor : (p q : Place) → AreAlike p q → (l r : ℕ) → Successor p l r → Successor q l r
  no_successor p q a l r h = absurd (let m = h.moved in let z = a.left in omega arith)

  led_alike : (p q : Place) → AreAlike p q → (k : Place) → Led p k → Led q k
  led_alike p q a k b = elim (back_cases R.productions S b) [
    | inl o ↦ absurd (let m = o.moved in let z = a.left in omega arith)
    | inr t ↦
        let item : Contains (S q.state).items (k.item.production, k.item.index) = subst (λ (n : ℕ). Contains (S n).items (k.item.production, k.item.index)) a.state t.item in
        let behind : drop k.item.index k.item.production.symbols ≡ Nonterminal q.item.production.nonterminal ∷ t.after = subst (λ (x : NonterminalString). drop k.item.index k.item.production.symbols ≡ Nonterminal x ∷ t.after) a.name t.behind in
        subst (λ (n : ℕ). LeadsBack R.productions S q.state q.item.production q.item.index n k.item.production k.item.index) (sym a.state ∙ sym t.here)
        (subst (λ (i : ℕ). LeadsBack R.productions S q.state q.item.production i q.state k.item.production k.item.index) (sym a.right)
        (to_parent q.state q.item.production k.item.production k.item.index t.after item behind t.nullable))
  ]

  nothing_alike : (p q : Place) → AreAlike p q → (k : ℕ) (table : LaneTable) (walk : Walk Place) → AddsNothing automaton p k table walk → AddsNothing automaton q k table walk
  nothing_alike p q a k table walk h =
      let b = turned p q a in
      record {
        gains = Gains-same k (Cell p) (Cell q) (Bit p) (Bit q) (Successor p) (Successor q) (λ row. (cell_alike p q a row, cell_alike q p b row)) (λ row bit. (bit_alike p q a row bit, bit_alike q p b row bit)) (λ l r. (no_successor p q a l r, no_successor q p b l r)) table table h.gains;
        visits = Visits-same (Led p) (Led q) (led_alike p q a) (led_alike q p b) walk walk h.visits;
      }

  -- ---- tables and walks that keep their contents
  module _ (k : ℕ) (a b : LaneTable) (t u : Walk Place) (tables : KeepsAll a b) (walks : (q : Place) → Contains t.visited.keys q → Contains u.visited.keys q) where
    pub Expanded-kept : (keys : List (ℕ × NonterminalString)) → AreExpanded automaton k a t keys → AreExpanded automaton k b u keys
    Expanded-kept keys h = λ p begun c. let x = h p begun c in record { gains = Gains-again k (Cell p) (Bit p) (Successor p) a a b x.gains tables; visits = Visits-again (Led p) t t u x.visits walks }

  -- ---- one more
  pub Expanded-none : (k : ℕ) (table : LaneTable) (walk : Walk Place) (keys : List (ℕ × NonterminalString)) → keys ≡ [] → AreExpanded automaton k table walk keys
  Expanded-none k table walk keys none = λ p begun c. absurd (Contains-none (p.state, p.item.production.nonterminal) (subst (λ (l : List (ℕ × NonterminalString)). Contains l (p.state, p.item.production.nonterminal)) none c))

  module _ (k : ℕ) (place : Place) (begun : place.item.index ≡ 0) (old new : List (ℕ × NonterminalString)) (added : IsAdded (place.state, place.item.production.nonterminal) old new) where
    abbrev key : ℕ × NonterminalString
    key = (place.state, place.item.production.nonterminal)

    -- the nonterminal was in the list already
    pub Expanded-known : Contains old key → (table : LaneTable) (walk : Walk Place) → AreExpanded automaton k table walk old → AreExpanded automaton k table walk new
    Expanded-known before table walk h = λ p at c. elim (added.from (p.state, p.item.production.nonterminal) c) [
      | inl o ↦ h p at o
      | inr e ↦ h p at (subst (Contains old) e before)
    ]

    -- the trace stepped back from the place
    pub Expanded-new : (a b : LaneTable) (t u : Walk Place) → GainsOf automaton place k a b → VisitsOf automaton place t u → AreExpanded automaton k a t old → AreExpanded automaton k b u new
    Expanded-new a b t u gains visits h = λ p at c. elim (added.from (p.state, p.item.production.nonterminal) c) [
      | inl o ↦ Expanded-kept k a b t u (GainsSome-all k (Cell place) (Bit place) (Successor place) a b gains).kept visits.kept old h p at o
      | inr e ↦
          let alike : AreAlike place p = record { state = ap (λ (x : ℕ × NonterminalString). x.0) e; name = ap (λ (x : ℕ × NonterminalString). x.1) e; left = begun; right = at } in
          nothing_alike place p alike k b u (record { gains = Gains-again k (Cell place) (Bit place) (Successor place) a b b gains (kept_all b); visits = Visits-again (Led place) t u u visits (λ q d. d) })
    ]
