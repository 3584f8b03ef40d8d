-- The construction with sets of tokens: closures with FIRST, and conflicts on tokens.
use Rattle.std.proofs.Common.{◌≡◌, ℕ, List, ◌∷◌, sym}
use Rattle.std.specs.Prelude.{Contains, drop}
use Rattle.lalrpop_base.specs.Words.{Bits, InTokenClosure, with_token, begins_rest, inherits, IsNullable, Dotted, state_conflicts, Rules}
use Rattle.lalrpop_construction.proofs.Types.{BuildError, Conflict, Production, State, Symbol, TerminalString, Token}
use Rattle.lalrpop_grammar.specs.declared.lookahead.token.Token.TheVariants.{Eof, Error, Terminal as TokenOf}
use Rattle.lalrpop_states.specs.declared.lr1_core.state.BuildError.TheVariants.{Conflicts, Memory}
use Rattle.lalrpop_grammar.specs.declared.repr.Symbol.TheVariants.{Nonterminal}
use Rattle.lalrpop_states.specs.closures.Closure.{itself}
use Rattle.lalrpop_base.specs.Words.{Begins, IsClosureOf, IsClosureBy, InTokenClosureBy, own_token, from_rest, from_parent}
use Rattle.lalrpop_construction.specs.Words.{Construction, AreStatesOf, AreStatesFor, AreTables, AreTablesFor, FailsBy, FailsFor}
use Rattle.lalrpop_base.specs.Words.{IsBuiltOfBy}
use Rattle.lalrpop_construction.proofs.theory.conflicts.GrownConflicts.{All-listed, free_states}

-- symbols let tokens pass if they are nullable
abbrev pub Passes : Rules → List Symbol → Type 0
Passes g rest = IsNullable g.productions rest

abbrev pub Lists : State Bits → List TerminalString → List (Conflict Bits) → Type 0
Lists s terminals list = list ≡ state_conflicts terminals s

-- ---- the tokens of a closure
module _ (g : Rules) (items : Production → ℕ → Type 0) (kernel : Production → ℕ → Token → Type 0) where
  begun_token : (t : Token) {p : Production} {dot : ℕ} (q : Production) (after : List Symbol) → items p dot → drop dot p.symbols ≡ Nonterminal q.nonterminal ∷ after → Contains g.productions q → Begins g after t → InTokenClosure g.productions items kernel q 0 t
  begun_token Eof q after i e c b = absurd b
  begun_token Error q after i e c b = absurd b
  begun_token (TokenOf t) q after i e c b = begins_rest q after i e c b

  with_first : {p : Production} {dot : ℕ} {t : Token} → InTokenClosureBy (Begins g) (Passes g) g.productions items kernel p dot t → InTokenClosure g.productions items kernel p dot t
  with_first (own_token k) = with_token k
  with_first (from_rest {t} q after i e c b) = begun_token t q after i e c b
  with_first (from_parent q after h e c n) = inherits q after (with_first h) e c n

  without_first : {p : Production} {dot : ℕ} {t : Token} → InTokenClosure g.productions items kernel p dot t → InTokenClosureBy (Begins g) (Passes g) g.productions items kernel p dot t
  without_first (with_token k) = own_token k
  without_first (begins_rest q after i e c b) = from_rest q after i e c b
  without_first (inherits q after h e c n) = from_parent q after (without_first h) e c n

pub closed : (g : Rules) (kernel items : List (Dotted Bits)) → IsClosureBy itself Begins Passes g kernel items → IsClosureOf g kernel items
closed g kernel items c = record {
  are_items = c.are_items;
  ascend = c.ascend;
  begun = c.begun;
  exact = c.exact;
  tokens = λ p dot t. (λ h. with_first g _ _ ((c.tokens p dot t).0 h), λ h. (c.tokens p dot t).1 (without_first g _ _ h));
}

-- ---- the states
-- a state that is built by closures is also built by a weaker condition of closures
pub built_of_by : {L : Type 0} (C D : List (Dotted L) → List (Dotted L) → Type 0) → ((kernel items : List (Dotted L)) → C kernel items → D kernel items) → (kernels : List (List (Dotted L))) (n : ℕ) (state : State L) → IsBuiltOfBy C kernels n state → IsBuiltOfBy D kernels n state
built_of_by C D grows kernels n state e = record {
  kernel = e.kernel;
  numbered = e.numbered;
  built = record {
    index = e.built.index;
    closure = grows e.kernel state.items.vec.items e.built.closure;
    leads = e.built.leads;
    all = e.built.all;
    ascend = e.built.ascend;
    finished = e.built.finished;
  };
}

pub states_of : (c : Construction Bits) (states : List (State Bits)) → AreStatesFor itself Begins Passes Lists c states → AreStatesOf c states
states_of c states s = record {
  built = record {
    kernels = s.built.kernels;
    counted = s.built.counted;
    differ = s.built.differ;
    start = s.built.start;
    each = λ n state at. built_of_by (IsClosureBy itself Begins Passes c.rules) (IsClosureOf c.rules) (closed c.rules) s.built.kernels n state (s.built.each n state at);
    led = s.built.led;
  };
  some = s.some;
  coherent = s.coherent;
}

-- ---- the tables and errors
pub Tables-of : (c : Construction Bits) (states : List (State Bits)) → AreTablesFor itself Begins Passes Lists c states → AreTables c states
Tables-of c states t = record { made = states_of c states t.made; free = free_states c.rules.terminals states (sym (All-listed state_conflicts c.rules.terminals t.free)) }

pub Fails-of : (c : Construction Bits) (error : BuildError Bits) → FailsFor itself Begins Passes Lists c error → FailsBy c error
Fails-of c (Conflicts error) f = (states_of c error.states.items f.0, record { all = All-listed state_conflicts c.rules.terminals f.1; some = f.2 })
Fails-of c Memory f = tt
