-- The transitions of a state over nonterminals come before its others.
use Rattle.std.proofs.Common.{◌≡◌, ◌∙◌, ℕ, zero, suc, ◌+◌, ◌<◌, ◌≤◌, List, [], ◌∷◌, ◌++◌, length, refl, sym, ap, subst, arith, append_assoc, append-nil, drop}
use Rattle.std.specs.Prelude.{slice_get, get_or, Option, Some, None, Contains}
use Rattle.std.specs.declared.cmp.Ordering.TheVariants.{Less, Greater}
use Rattle.std.proofs.Math.Seq.{drop-cons}
use Rattle.std.proofs.lemmas.List.{drop_all}
use Rattle.std.proofs.lemmas.Option.{slice_get-get_or, slice_get_within}
use Rattle.lalrpop_base.specs.Words.{AllDiffer, SymbolsAscend, symbol_order}
use Rattle.lalrpop_follow_sets.proofs.Types.{NonterminalString, Symbol, TerminalString}
use Rattle.lalrpop_grammar.specs.declared.repr.Symbol.TheVariants.{Nonterminal, Terminal}
use Rattle.lalrpop_grammar.proofs.theory.conflicts.ConflictLists.{ordered-head, ordered-tail}
use Rattle.lalrpop_follow_sets.specs.follow_sets.FollowNodes.{as_pair, nonterminals_of}
use Rattle.lalrpop_construction.specs.states.NumberedStates.{EdgesAscend}
use Rattle.lalrpop_collections.proofs.theory.lists.Places.{contains_at, filled, same_some}
use Rattle.lalrpop_collections.proofs.theory.lists.SortedPlaces.{Sorted-places}

-- a symbol that is less than a nonterminal is a nonterminal
no_terminal : (s : Symbol) (a : NonterminalString) → symbol_order s (Nonterminal a) ≡ Less → (b : NonterminalString) × (s ≡ Nonterminal b)
no_terminal (Nonterminal b) a less = (b, refl)
no_terminal (Terminal t) a less =
    let greater : symbol_order (Terminal t) (Nonterminal a) ≡ Greater = refl in
    let same : Less ≡ Greater = sym less ∙ greater in
    cc

-- a symbol with a smaller number than a nonterminal is a nonterminal
pub nonterminal_before : (symbols : List Symbol) → SymbolsAscend symbols → (y x : ℕ) (a : NonterminalString) → y < x → slice_get symbols x ≡ Some (Nonterminal a) → (b : NonterminalString) × (slice_get symbols y ≡ Some (Nonterminal b))
nonterminal_before symbols ascend y x a l at =
    let within : x < length symbols = slice_get_within symbols x (Nonterminal a) at in
    let s = filled symbols y (omega arith) in
    let b = no_terminal s.0 a (Sorted-places symbol_order symbols ascend y x s.0 (Nonterminal a) l s.1 at) in
    (b.0, s.1 ∙ ap Some b.1)

module _ (symbols : List Symbol) (s : ℕ) where
  -- the pair of a nonterminal is put at the start
  pub pair_of : (o : Option Symbol) (x : ℕ) (a : NonterminalString) (pairs : List (ℕ × ℕ)) → o ≡ Some (Nonterminal a) → as_pair s x o pairs ≡ (s, x) ∷ pairs
  pair_of (Some (Nonterminal b)) x a pairs e = refl
  pair_of (Some (Terminal t)) x a pairs e = cc
  pair_of None x a pairs e = cc

  -- a terminal ends the list
  pub none_of : (o : Option Symbol) (x : ℕ) (t : Symbol) (pairs : List (ℕ × ℕ)) → o ≡ Some t → ((a : NonterminalString) → t ≡ Nonterminal a → ⊥) → as_pair s x o pairs ≡ []
  none_of (Some (Nonterminal b)) x t pairs e other = absurd (other b (same_some t (Nonterminal b) (sym e)))
  none_of (Some (Terminal u)) x t pairs e other = refl
  none_of None x t pairs e other = refl

  -- a transition of the list whose pair this is
  pub record IsListed (edges : List (ℕ × ℕ)) (place : ℕ) (p : ℕ × ℕ) : Type 0 where
    pub state : p.0 ≡ s
    pub target : ℕ
    pub name : NonterminalString
    pub edge : slice_get edges place ≡ Some (p.1, target)
    pub symbol : slice_get symbols p.1 ≡ Some (Nonterminal name)

  -- a pair is that of the first transition, or of a later one
  listed_first : (o : Option Symbol) (x m : ℕ) (es pairs : List (ℕ × ℕ)) (place : ℕ) (p : ℕ × ℕ) → slice_get symbols x ≡ o →
      ((j : ℕ) → slice_get pairs j ≡ Some p → IsListed es j p) → slice_get (as_pair s x o pairs) place ≡ Some p → IsListed ((x, m) ∷ es) place p
  listed_first (Some (Nonterminal a)) x m es pairs zero p is later at =
      let same : (s, x) ≡ p = same_some (s, x) p at in
      subst (IsListed ((x, m) ∷ es) zero) same (record { state = refl; target = m; name = a; edge = refl; symbol = is })
  listed_first (Some (Nonterminal a)) x m es pairs (suc place) p is later at =
      let l = later place at in
      record { state = l.state; target = l.target; name = l.name; edge = l.edge; symbol = l.symbol }
  listed_first (Some (Terminal t)) x m es pairs place p is later at = cc
  listed_first None x m es pairs place p is later at = cc

  -- each pair is at the place of its transition
  pub Listed-at : (edges : List (ℕ × ℕ)) (place : ℕ) (p : ℕ × ℕ) → slice_get (nonterminals_of symbols s edges) place ≡ Some p → IsListed edges place p
  Listed-at [] place p at = cc
  Listed-at ((x, m) ∷ es) place p at = listed_first (slice_get symbols x) x m es (nonterminals_of symbols s es) place p refl (λ j h. Listed-at es j p h) at

  -- each transition over a nonterminal has its pair
  module _ (ascend : SymbolsAscend symbols) where
    pub pair_at : (edges : List (ℕ × ℕ)) → EdgesAscend edges → (place x target : ℕ) (a : NonterminalString) → slice_get edges place ≡ Some (x, target) → slice_get symbols x ≡ Some (Nonterminal a) → slice_get (nonterminals_of symbols s edges) place ≡ Some (s, x)
    pair_at [] up place x target a at symbol = cc
    pair_at (e ∷ es) up zero x target a at symbol =
        let same : e.0 ≡ x = ap (λ (d : ℕ × ℕ). d.0) (same_some e (x, target) at) in
        ap (λ (l : List (ℕ × ℕ)). slice_get l zero) (pair_of (slice_get symbols e.0) e.0 a (nonterminals_of symbols s es) (ap (slice_get symbols) same ∙ symbol)) ∙ ap (λ (y : ℕ). Some (s, y)) same
    pair_at (e ∷ es) up (suc place) x target a at symbol =
        let less : e.0 < x = ordered-head (λ (c d : ℕ × ℕ). c.0 < d.0) e es up (x, target) (contains_at es (x, target) place at) in
        let b = nonterminal_before symbols ascend e.0 x a less symbol in
        ap (λ (l : List (ℕ × ℕ)). slice_get l (suc place)) (pair_of (slice_get symbols e.0) e.0 b.0 (nonterminals_of symbols s es) b.1) ∙ pair_at es (ordered-tail (λ (c d : ℕ × ℕ). c.0 < d.0) e es up) place x target a at symbol

  -- no pair comes twice
  pub pairs_differ : (edges : List (ℕ × ℕ)) → EdgesAscend edges → AllDiffer (nonterminals_of symbols s edges)
  pairs_differ edges up i j p l at_i at_j =
      let first = Listed-at edges i p at_i in
      let second = Listed-at edges j p at_j in
      let less : p.1 < p.1 = up i j (p.1, first.target) (p.1, second.target) l first.edge second.edge in
      absurd (omega arith)

-- ---- one transition after the other
-- the number that is read is that of a symbol
pub read_known : (symbols : List Symbol) (edges : List (ℕ × ℕ)) (i : ℕ) → i < length edges → ((x target : ℕ) → Contains edges (x, target) → x < length symbols) → (get_or edges i (0, 0)).0 < length symbols
read_known symbols edges i within known =
    let e : ℕ × ℕ = get_or edges i (0, 0) in
    known e.0 e.1 (contains_at edges e i (slice_get-get_or edges i (0, 0) within))

module _ (symbols : List Symbol) (s : ℕ) (edges : List (ℕ × ℕ)) (i : ℕ) (within : i < length edges) (pairs old : List (ℕ × ℕ)) where
  abbrev read : ℕ × ℕ
  read = get_or edges i (0, 0)

  abbrev later : List (ℕ × ℕ)
  later = nonterminals_of symbols s (drop (i + 1) edges)

  -- the pairs that are left begin with that of the next transition
  rest_is : nonterminals_of symbols s (drop i edges) ≡ as_pair s read.0 (slice_get symbols read.0) later
  rest_is = ap (nonterminals_of symbols s) (drop-cons edges i (0, 0) within ∙ ap (λ (n : ℕ). read ∷ drop n edges) next)
    where
      next : suc i ≡ i + 1
      next = omega arith

  -- the next transition is over a nonterminal
  pub one_more : (a : NonterminalString) → slice_get symbols read.0 ≡ Some (Nonterminal a) → (new : List (ℕ × ℕ)) → new ≡ pairs ++ (s, read.0) ∷ [] → pairs ++ nonterminals_of symbols s (drop i edges) ≡ old → new ++ later ≡ old
  one_more a at new is before =
      ap (λ (l : List (ℕ × ℕ)). l ++ later) is ∙ append_assoc pairs ((s, read.0) ∷ []) later ∙ ap (λ (l : List (ℕ × ℕ)). pairs ++ l) (sym (rest_is ∙ pair_of symbols s (slice_get symbols read.0) read.0 a later at)) ∙ before

  -- the next transition is over a terminal
  pub stops_here : (t : TerminalString) → slice_get symbols read.0 ≡ Some (Terminal t) → pairs ++ nonterminals_of symbols s (drop i edges) ≡ old → pairs ≡ old
  stops_here t at before = sym (append-nil pairs) ∙ ap (λ (l : List (ℕ × ℕ)). pairs ++ l) (sym (rest_is ∙ none_of symbols s (slice_get symbols read.0) read.0 (Terminal t) later at other)) ∙ before
    where
      other : (a : NonterminalString) → Terminal t ≡ Nonterminal a → ⊥
      other a e = cc

-- after the last transition no pair is left
pub no_more : (symbols : List Symbol) (s : ℕ) (edges : List (ℕ × ℕ)) (i : ℕ) → length edges ≤ i → (pairs old : List (ℕ × ℕ)) → pairs ++ nonterminals_of symbols s (drop i edges) ≡ old → pairs ≡ old
no_more symbols s edges i end pairs old before = sym (append-nil pairs) ∙ ap (λ (l : List (ℕ × ℕ)). pairs ++ nonterminals_of symbols s l) (sym (drop_all i edges end)) ∙ before
