-- States built by closures, on which the construction and the check of tables rest. Closures and
-- gotos are those of Aho, Sethi and Ullman, section 4.7, without a start production. The check is
-- this project's.
use Rattle.std.specs.Prelude.{◌≡◌, ℕ, suc, true, ◌↔◌, List, ◌∷◌, drop, length, Contains, Some}
use Rattle.lalrpop_grammar.specs.declared.repr.NonterminalString.{NonterminalString}
use Rattle.lalrpop_grammar.specs.declared.repr.TerminalString.{TerminalString}
use Rattle.lalrpop_grammar.specs.declared.repr.Production.{Production}
use Rattle.lalrpop_grammar.specs.declared.repr.Symbol.{Symbol}
use Rattle.lalrpop_grammar.specs.declared.repr.Symbol.TheVariants.{Nonterminal}
use Rattle.lalrpop_grammar.specs.declared.lookahead.token.Token.{Token}
use Rattle.lalrpop_grammar.specs.declared.lookahead.token.Token.TheVariants.{Eof, Terminal as TokenOf}
use Rattle.lalrpop_grammar.specs.grammars.Grammar.{IsFirst, IsNullable}
use Rattle.lalrpop_grammar.specs.states.States.{Contents, Reduction, leads, LeadsOverDots, ReducesFinished}
use Rattle.lalrpop_grammar.specs.conflicts.Conflicts.{HasNoConflict}

-- the closure of a kernel has its dotted productions, and the productions of each nonterminal after
-- a dot
pub data InClosure (g : List Production) (kernel : Production → ℕ → Type 0) : Production → ℕ → Type 0 where
  in_kernel : {p : Production} {dot : ℕ} → kernel p dot → InClosure g kernel p dot
  expanded : {p : Production} {dot : ℕ} (q : Production) (after : List Symbol) → InClosure g kernel p dot → drop dot p.symbols ≡ Nonterminal q.nonterminal ∷ after → Contains g q → InClosure g kernel q 0

-- the tokens of the closure of a kernel: those of the kernel, FIRST of the symbols after an
-- expanded nonterminal and, if these are nullable, the tokens of the parent
pub data InTokenClosure (g : List Production) (items : Production → ℕ → Type 0) (kernel : Production → ℕ → Token → Type 0) : Production → ℕ → Token → Type 0 where
  with_token : {p : Production} {dot : ℕ} {t : Token} → kernel p dot t → InTokenClosure g items kernel p dot t
  begins_rest : {p : Production} {dot : ℕ} {t : TerminalString} (q : Production) (after : List Symbol) → items p dot → drop dot p.symbols ≡ Nonterminal q.nonterminal ∷ after → Contains g q → IsFirst g after t → InTokenClosure g items kernel q 0 (TokenOf t)
  inherits : {p : Production} {dot : ℕ} {t : Token} (q : Production) (after : List Symbol) → InTokenClosure g items kernel p dot t → drop dot p.symbols ≡ Nonterminal q.nonterminal ∷ after → Contains g q → IsNullable g after → InTokenClosure g items kernel q 0 t

-- the dotted productions of the start symbol, with the dot at the start
abbrev pub IsAtStart : List Production → NonterminalString → Production → ℕ → Type 0
IsAtStart g start p dot = (dot ≡ 0) × Contains g p × (p.nonterminal ≡ start)

-- the dotted productions of the start symbol, with their token Eof
abbrev pub IsAtStartWith : List Production → NonterminalString → Production → ℕ → Token → Type 0
IsAtStartWith g start p dot t = IsAtStart g start p dot × (t ≡ Eof)

-- the dotted productions of a state, moved over a symbol
pub record IsMoved (items : Production → ℕ → Type 0) (x : Symbol) (p : Production) (dot : ℕ) : Type 0 where
  pub before : ℕ
  pub after : List Symbol
  pub moved : dot ≡ suc before
  pub item : items p before
  pub behind : drop before p.symbols ≡ x ∷ after

-- the dotted productions that states list
abbrev pub items_of : (ℕ → Contents) → ℕ → Production → ℕ → Type 0
items_of states n p dot = Contains (states n).items (p, dot)

-- state 0 is the closure of the start, each target is the closure of the moved dotted productions,
-- and the edges are the symbols after the dots
pub record AreClosed (g : List Production) (start : NonterminalString) (states : ℕ → Contents) : Type 0 where
  pub first : (p : Production) (dot : ℕ) → items_of states 0 p dot ↔ InClosure g (IsAtStart g start) p dot
  pub next : (n m : ℕ) (x : Symbol) → leads (states n) x ≡ Some m → (p : Production) (dot : ℕ) → items_of states m p dot ↔ InClosure g (IsMoved (items_of states n) x) p dot
  pub edges : (n : ℕ) → LeadsOverDots (states n)

-- a state is reached if it is state 0, or if an edge leads to it from a reached state
pub data IsReached (states : ℕ → Contents) : ℕ → Type 0 where
  at_zero : IsReached states 0
  over_edge : {n : ℕ} (m : ℕ) (x : Symbol) → IsReached states n → leads (states n) x ≡ Some m → IsReached states m

-- the tokens that are carried from state 0 over the states' own edges. At the start there is Eof.
-- An edge keeps the tokens. An expansion gives FIRST of the symbols after the nonterminal and, if
-- these are nullable, the tokens of the parent
pub data IsCarried (g : List Production) (start : NonterminalString) (states : ℕ → Contents) : ℕ → Production → ℕ → Token → Type 0 where
  eof_at_start : (p : Production) → Contains g p → p.nonterminal ≡ start → IsCarried g start states 0 p 0 Eof
  over : {n : ℕ} {p : Production} {dot : ℕ} {t : Token} (m : ℕ) (x : Symbol) (after : List Symbol) → IsCarried g start states n p dot t → leads (states n) x ≡ Some m → drop dot p.symbols ≡ x ∷ after → IsCarried g start states m p (suc dot) t
  first_of_rest : {n : ℕ} {p : Production} {dot : ℕ} {t : TerminalString} (q : Production) (after : List Symbol) → IsReached states n → items_of states n p dot → drop dot p.symbols ≡ Nonterminal q.nonterminal ∷ after → Contains g q → IsFirst g after t → IsCarried g start states n q 0 (TokenOf t)
  through_rest : {n : ℕ} {p : Production} {dot : ℕ} {t : Token} (q : Production) (after : List Symbol) → IsCarried g start states n p dot t → drop dot p.symbols ≡ Nonterminal q.nonterminal ∷ after → Contains g q → IsNullable g after → IsCarried g start states n q 0 t

-- states pass the check of tables if they are closed, their reductions are the finished dotted
-- productions and hold the tokens carried to them, and no state has a conflict
pub record AreChecked (g : List Production) (start : NonterminalString) (states : ℕ → Contents) : Type 0 where
  pub closed : AreClosed g start states
  pub reductions : (n : ℕ) → ReducesFinished (states n)
  pub carried : (n : ℕ) (r : Reduction) (t : Token) → Contains (states n).reductions r → IsCarried g start states n r.production (length (r.production).symbols) t → r.holds t ≡ true
  pub no_conflict : (n : ℕ) → HasNoConflict (states n)

-- the dotted productions of a state with their tokens, moved over a symbol
pub record IsMovedWith (tokens : Production → ℕ → Token → Type 0) (x : Symbol) (p : Production) (dot : ℕ) (t : Token) : Type 0 where
  pub before : ℕ
  pub after : List Symbol
  pub moved : dot ≡ suc before
  pub token : tokens p before t
  pub behind : drop before p.symbols ≡ x ∷ after

-- canonical states, as Knuth 1965 builds them: closed, with the tokens of the closures, which the
-- reductions hold
pub record AreCanonical (g : List Production) (start : NonterminalString) (states : ℕ → Contents) (tokens : ℕ → Production → ℕ → Token → Type 0) : Type 0 where
  pub closed : AreClosed g start states
  pub reductions : (n : ℕ) → ReducesFinished (states n)
  pub first : (p : Production) (dot : ℕ) (t : Token) → tokens 0 p dot t ↔ InTokenClosure g (items_of states 0) (IsAtStartWith g start) p dot t
  pub next : (n m : ℕ) (x : Symbol) → leads (states n) x ≡ Some m → (p : Production) (dot : ℕ) (t : Token) → tokens m p dot t ↔ InTokenClosure g (items_of states m) (IsMovedWith (tokens n) x) p dot t
  pub holds : (n : ℕ) (r : Reduction) (t : Token) → Contains (states n).reductions r → (r.holds t ≡ true) ↔ tokens n r.production (length (r.production).symbols) t

-- two targets that have the same dotted productions after a moved dot are one state
abbrev pub KernelsDiffer : (ℕ → Contents) → Type 0
KernelsDiffer states = (k l n m : ℕ) (x y : Symbol) → leads (states k) x ≡ Some n → leads (states l) y ≡ Some m → ((p : Production) (dot : ℕ) → items_of states n p (suc dot) ↔ items_of states m p (suc dot)) → n ≡ m

-- two targets that have the same dotted productions after a moved dot, with the same tokens, are
-- one state
abbrev pub TokenKernelsDiffer : (ℕ → Contents) → (ℕ → Production → ℕ → Token → Type 0) → Type 0
TokenKernelsDiffer states tokens = (k l n m : ℕ) (x y : Symbol) → leads (states k) x ≡ Some n → leads (states l) y ≡ Some m → ((p : Production) (dot : ℕ) → items_of states n p (suc dot) ↔ items_of states m p (suc dot)) → ((p : Production) (dot : ℕ) (t : Token) → tokens n p (suc dot) t ↔ tokens m p (suc dot) t) → n ≡ m
