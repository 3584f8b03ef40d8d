-- Lists of symbols and of terminals: the parts of joined lists of terminals, and the place of a
-- terminal.
use Rattle.std.proofs.Common.{List, ap, ap₂, refl, subst, sym, ◌++◌, [], ◌∷◌, ◌≡◌}
use mathlib.Core.List.{cons≢nil, head-eq_of_cons-eq, tail-eq_of_cons-eq}
use Rattle.lalrpop_grammar.proofs.Types.{NonterminalString, Symbol, TerminalString}
use Rattle.lalrpop_grammar.specs.declared.repr.Symbol.TheVariants.{Nonterminal, Terminal}
use Rattle.lalrpop_grammar.specs.Words.{terminal_symbols}

-- the terminal of a symbol, and the given one if the symbol is a nonterminal
abbrev pub terminal_of : TerminalString → Symbol → TerminalString
terminal_of t (Nonterminal a) = t
terminal_of t (Terminal u) = u

-- equal symbols have equal terminals
pub same_terminal : {t u : TerminalString} → Terminal t ≡ Terminal u → t ≡ u
same_terminal {t} e = ap (terminal_of t) e

abbrev pub nonterminal_of : NonterminalString → Symbol → NonterminalString
nonterminal_of a (Nonterminal b) = b
nonterminal_of a (Terminal u) = a

-- equal symbols have equal nonterminals
pub same_nonterminal : {a b : NonterminalString} → Nonterminal a ≡ Nonterminal b → a ≡ b
same_nonterminal {a} e = ap (nonterminal_of a) e

abbrev pub IsTerminal : Symbol → Type 0
IsTerminal (Nonterminal a) = ⊥
IsTerminal (Terminal t) = Unit {0}

-- no symbol is both a terminal and a nonterminal
pub not_both : {a : NonterminalString} {t : TerminalString} → Nonterminal a ≡ Terminal t → ⊥
not_both e = subst IsTerminal (sym e) tt

-- two lists of symbols that make a list of terminals are themselves lists of terminals
pub record TerminalParts (m n : List Symbol) (w : List TerminalString) : Type 0 where
  pub first : List TerminalString
  pub second : List TerminalString
  pub joined : w ≡ first ++ second
  pub left : m ≡ terminal_symbols first
  pub right : n ≡ terminal_symbols second

-- if two lists of symbols make a list of terminals, both are lists of terminals
pub terminal_parts : (m n : List Symbol) (w : List TerminalString) → m ++ n ≡ terminal_symbols w → TerminalParts m n w
terminal_parts [] n w e = record { first = []; second = w; joined = refl; left = refl; right = e }
terminal_parts (x ∷ m) n [] e = absurd (cons≢nil e)
terminal_parts (x ∷ m) n (t ∷ w) e =
    let r = terminal_parts m n w (tail-eq_of_cons-eq e) in
    record {
      first = t ∷ r.first;
      second = r.second;
      joined = ap (λ v. t ∷ v) r.joined;
      left = ap₂ (λ y v. y ∷ v) (head-eq_of_cons-eq e) r.left;
      right = r.right;
    }

-- the symbols of joined lists are joined
pub terminal_symbols-append : (v w : List TerminalString) → terminal_symbols (v ++ w) ≡ terminal_symbols v ++ terminal_symbols w
terminal_symbols-append [] w = refl
terminal_symbols-append (t ∷ v) w = ap (λ l. Terminal t ∷ l) (terminal_symbols-append v w)

-- the place of a terminal after other terminals in a joined list: inside the first part, or after
-- it
pub data Place (m n : List Symbol) (v : List TerminalString) (t : TerminalString) (after : List Symbol) : Type 0 where
  inside : (k : List Symbol) → m ≡ terminal_symbols v ++ Terminal t ∷ k → Place m n v t after
  behind : (first second : List TerminalString) → v ≡ first ++ second → m ≡ terminal_symbols first → n ≡ terminal_symbols second ++ Terminal t ∷ after → Place m n v t after

-- the terminal is at one of the two places
pub place : (m n : List Symbol) (v : List TerminalString) (t : TerminalString) (after : List Symbol) → m ++ n ≡ terminal_symbols v ++ Terminal t ∷ after → Place m n v t after
place [] n v t after e = behind [] v refl refl e
place (x ∷ m) n [] t after e = inside m (ap (λ y. y ∷ m) (head-eq_of_cons-eq e))
place (x ∷ m) n (u ∷ v) t after e = go (place m n v t after (tail-eq_of_cons-eq e))
  where
    go : Place m n v t after → Place (x ∷ m) n (u ∷ v) t after
    go (inside k h) = inside k (ap₂ (λ y l. y ∷ l) (head-eq_of_cons-eq e) h)
    go (behind first second h k l) = behind (u ∷ first) second (ap (λ w. u ∷ w) h) (ap₂ (λ y w. y ∷ w) (head-eq_of_cons-eq e) k) l
