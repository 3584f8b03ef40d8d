-- The merge of states with the same dotted productions: the LALR tables that Aho, Sethi and Ullman,
-- section 4.7, make of canonical states.
use Rattle.std.specs.Prelude.{◌≡◌, true, ◌↔◌, ℕ, Contains, Some}
use Rattle.lalrpop_grammar.specs.declared.repr.Production.{Production}
use Rattle.lalrpop_grammar.specs.declared.repr.Symbol.{Symbol}
use Rattle.lalrpop_grammar.specs.declared.lookahead.token.Token.{Token}
use Rattle.lalrpop_grammar.specs.states.States.{Contents, Reduction, leads, ReducesFinished}
use Rattle.lalrpop_grammar.specs.closures.Closures.{IsReached, items_of}

-- a reached state that is merged into the given one has a reduction by a production, which holds a
-- token
pub record HoldsInGroup (group : ℕ → ℕ) (before : ℕ → Contents) (merged : ℕ) (p : Production) (t : Token) : Type 0 where
  pub state : ℕ
  pub reached : IsReached before state
  pub same : group state ≡ merged
  pub reduction : Reduction
  pub there : Contains (before state).reductions reduction
  pub by_p : reduction.production ≡ p
  pub holds : reduction.holds t ≡ true

-- a reached state that is merged into the given one has an edge to a state that is merged into the
-- target
pub record LeadsInGroup (group : ℕ → ℕ) (before : ℕ → Contents) (merged : ℕ) (x : Symbol) (target : ℕ) : Type 0 where
  pub state : ℕ
  pub reached : IsReached before state
  pub same : group state ≡ merged
  pub to : ℕ
  pub edge : leads (before state) x ≡ Some to
  pub same_target : group to ≡ target

-- reached states with the same dotted productions are merged into one. It has these dotted
-- productions, edges to the merged states of the targets, and reductions with the tokens of all
-- that were merged
pub record IsCollapse (group : ℕ → ℕ) (before after : ℕ → Contents) : Type 0 where
  pub first : group 0 ≡ 0
  pub one : (n m : ℕ) → IsReached before n → IsReached before m → ((p : Production) (dot : ℕ) → items_of before n p dot ↔ items_of before m p dot) → group n ≡ group m
  pub items : (n : ℕ) → IsReached before n → (p : Production) (dot : ℕ) → items_of after (group n) p dot ↔ items_of before n p dot
  pub edges : (n m : ℕ) (x : Symbol) → IsReached before n → leads (before n) x ≡ Some m → leads (after (group n)) x ≡ Some (group m)
  pub only : (k m : ℕ) (x : Symbol) → leads (after k) x ≡ Some m → LeadsInGroup group before k x m
  pub reductions : (k : ℕ) → ReducesFinished (after k)
  pub holds : (k : ℕ) (r : Reduction) (t : Token) → Contains (after k).reductions r → (r.holds t ≡ true) ↔ HoldsInGroup group before k r.production t
