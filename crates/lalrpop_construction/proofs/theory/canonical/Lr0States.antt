-- The states that the construction makes without lookahead are the LR(0) states.
use Rattle.std.proofs.Common.{◌≡◌, ◌↔◌, ℕ, suc, List, map, sym, ◌∙◌, ap, subst}
use Rattle.std.specs.Prelude.{Contains}
use Rattle.lalrpop_base.specs.Words.{Bits, no_bits, Dotted, nil_conflicts, Rules, rules_of, productions, productions_of, IsWellFormed}
use Rattle.lalrpop_construction.proofs.Types.{BuildError, Conflict, Grammar, Nil, NonterminalString, Production, State, Symbol, TerminalString, Token}
use Rattle.lalrpop_states.specs.declared.lr1_core.state.BuildError.TheVariants.{Conflicts, Memory}
use Rattle.lalrpop_collections.proofs.theory.lists.Ascending.{ascending_same}
use Rattle.lr1_theory.proofs.theory.closures.Closures.{reached_live}
use Rattle.lr1_theory.proofs.theory.states.Lr0.{closed_lr0}
use Rattle.lalrpop_states.specs.states.Items.{dotted_of}
use Rattle.lalrpop_base.specs.Words.{Precedes, Ascend, AreOwn, InKernel, IsClosureBy}
use Rattle.lalrpop_construction.specs.Words.{on_any, AreLr0States, HasLr0States, HaveNoNilConflict, ListsNilConflicts}
use Rattle.lalrpop_construction.specs.Words.{StopsFor, Construction, Settings, AreStatesFor, AreTablesFor, FailsFor}
use Rattle.lalrpop_base.specs.Words.{item_at_start, Shifts}
use Rattle.lalrpop_states.proofs.theory.grammars.AscendingItems.{precedes_asymmetric}
use Rattle.lalrpop_construction.proofs.theory.canonical.Canonical.{start_items}
use Rattle.lalrpop_construction.proofs.theory.construction.ClosedStates.{IsExactClosure, closed, reduces, reached, source_reached, kernels_differ}
use Rattle.lalrpop_construction.proofs.theory.conflicts.GrownConflicts.{All-listed}
use Rattle.lalrpop_collections.proofs.theory.lists.Members.{contains_map}
use Rattle.lalrpop_construction.proofs.theory.construction.SameKernels.{Shifts-ascend, Shifts-past}
use Rattle.lalrpop_construction.proofs.theory.construction.Shifting.{of_dotted}
use Rattle.lr1_theory.proofs.theory.grammars.Tables.{same_lr0}

-- the meaning of no lookahead, which has no token
abbrev pub nothing : Nil → Bits
nothing lookahead = no_bits

abbrev pub never : Rules → List Symbol → Token → Type 0
never g rest t = ⊥

abbrev pub stopped : Rules → List Symbol → Type 0
stopped g rest = ⊥

abbrev pub Lists : State Nil → List TerminalString → List (Conflict Nil) → Type 0
Lists s terminals list = list ≡ nil_conflicts s

abbrev pub Closes : Rules → List (Dotted Nil) → List (Dotted Nil) → Type 0
Closes = IsClosureBy nothing never stopped

pub exactly : (g : Rules) (kernel items : List (Dotted Nil)) → Closes g kernel items → IsExactClosure g kernel items
exactly g kernel items c = record { exact = c.exact; ascend = c.ascend; begun = c.begun }

-- ---- kernels of moved items with the same dotted productions are the same
item_over : (x : Symbol) (a b is : List (Dotted Nil)) → Shifts x is a → ((p : Production) (d : ℕ) → InKernel a p (suc d) → InKernel b p (suc d)) → (i : Dotted Nil) → Contains a i → Contains b i
item_over x a b is s more i c =
    let d = Shifts-past x is a s i c in
    let e : dotted_of i ≡ (i.production, suc d.0) = ap (λ (k : ℕ). (i.production, k)) d.1 in
    let there = more i.production d.0 (subst (Contains (map dotted_of a)) e (contains_map dotted_of a i c)) in
    let j = of_dotted b (i.production, suc d.0) there in
    let same : dotted_of j.0 ≡ dotted_of i = j.2 ∙ sym e in
    subst (Contains b) (same_lr0 j.0 i (ap (λ (x : Production × ℕ). x.0) same) (ap (λ (x : Production × ℕ). x.1) same)) j.1

pub one_kernel : (x y : Symbol) (a b is js : List (Dotted Nil)) → Shifts x is a → Shifts y js b → Ascend is → Ascend js → ((p : Production) (d : ℕ) → InKernel a p (suc d) ↔ InKernel b p (suc d)) → a ≡ b
one_kernel x y a b is js s t ascend_is ascend_js same =
    ascending_same Precedes precedes_asymmetric a b (Shifts-ascend x is a s ascend_is) (Shifts-ascend y js b t ascend_js)
    (item_over x a b is s (λ p d. (same p d).0))
    (item_over y b a js t (λ p d. (same p d).1))

-- ---- the states
module _ (g : Grammar) (start : NonterminalString) (lookahead : Nil) (well : IsWellFormed g) (own : AreOwn g) where
  abbrev pub construction : Construction Nil
  construction = record { rules = rules_of g; start = start; first = productions_of g start; lookahead = lookahead }

  pub States-lr0 : (states : List (State Nil)) → AreStatesFor nothing never stopped Lists construction states → AreLr0States (rules_of g) start states
  States-lr0 states made =
      let r = rules_of g in
      let first : List (Dotted Nil) = map (item_at_start lookahead) (productions_of g start) in
      let begins = start_items g well own start lookahead in
      let c = closed on_any r start (Closes r) (exactly r) first begins states made.built in
      record {
        lr0 = closed_lr0 (productions g) start _ c (reduces on_any r start (Closes r) (exactly r) first begins states made.built)
            (kernels_differ on_any r start (Closes r) (exactly r) first begins states made.built one_kernel)
            (source_reached on_any r start (Closes r) (exactly r) first begins states made.built);
        live = λ n l.
            let u = reached_live (productions g) start _ c (reached on_any r start (Closes r) (exactly r) first begins states made.built n l) in
            record { prefix = u.0; live = u.1; after = u.2 };
        closed = c;
        ascend = λ n state at. (made.built.each n state at).built.closure.ascend;
        some = made.some;
        coherent = made.coherent;
      }

  pub Tables-lr0 : (states : List (State Nil)) → AreTablesFor nothing never stopped Lists construction states → AreLr0States (rules_of g) start states
  Tables-lr0 states t = States-lr0 states t.made

  pub Fails-lr0 : (error : BuildError Nil) → FailsFor nothing never stopped Lists construction error → HasLr0States (rules_of g) start error
  Fails-lr0 (Conflicts error) f = States-lr0 error.states.items f.0
  Fails-lr0 Memory f = tt

-- ---- the conflicts
pub Tables-free : (c : Construction Nil) (states : List (State Nil)) → AreTablesFor nothing never stopped Lists c states → HaveNoNilConflict states
Tables-free c states t = sym (All-listed (λ terminals s. nil_conflicts s) c.rules.terminals t.free)

pub Stops-listed : (k : Settings Nil) (error : BuildError Nil) → StopsFor nothing never stopped Lists k error → ListsNilConflicts error
Stops-listed k (Conflicts error) f = (All-listed (λ terminals s. nil_conflicts s) k.construction.rules.terminals (f.0).listed, f.1)
Stops-listed k Memory f = tt
