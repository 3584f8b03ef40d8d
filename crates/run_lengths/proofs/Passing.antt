-- Over faithful states a run comes to each stack for a live prefix, if the next token is right
-- after the prefix. The proof is by induction on the validity of a dotted production.
use Rattle.std.proofs.Common.{◌≡◌, ℕ, suc, ◌+◌, ◌⊎◌, inl, inr, List, [], ◌∷◌, ◌++◌, drop, append_assoc, append-nil, sym, subst, refl, ap, ◌∙◌, Some, arith}
use Rattle.std.specs.Prelude.{Contains}
use Rattle.lalrpop_grammar.specs.declared.lookahead.token.Token.{Token}
use Rattle.lalrpop_grammar.specs.declared.lookahead.token.Token.TheVariants.{Terminal as TokenOf}
use Rattle.lalrpop_grammar.specs.declared.repr.NonterminalString.{NonterminalString}
use Rattle.lalrpop_grammar.specs.declared.repr.Production.{Production}
use Rattle.lalrpop_grammar.specs.declared.repr.Symbol.{Symbol}
use Rattle.lalrpop_grammar.specs.declared.repr.Symbol.TheVariants.{Nonterminal, Terminal}
use Rattle.lalrpop_grammar.specs.declared.repr.TerminalString.{TerminalString}
use Rattle.lalrpop_grammar.specs.Words.{AreFaithful, AreOfGrammar, Configuration, Contents, Derives, IsAwaited, IsFirst, IsNullable, Leaf, Node, Reaches, Tree, Valid, ValidToken, as_it_is, at_start, begin, begins_behind, beside, expands, further, here, kept, leads, leaves, next_token, no_trees, nodes, passed_on, root, shifts, shifts_or, starts, terminal_symbols}
use Rattle.lalrpop_collections.proofs.theory.lists.Lists.{drop_past, nil≢more, same_last, same_some}
use Rattle.lalrpop_grammar.proofs.theory.closures.Valid.{valid}
use Rattle.lalrpop_grammar.proofs.theory.grammars.Derivations.{Derives-append, Derives-from, Derives-production, Derives-trans}
use Rattle.lalrpop_grammar.proofs.theory.runs.Reading.{IsNodeRead, IsRead, node_read, reads, roots_derive}
use Rattle.lalrpop_grammar.proofs.theory.runs.Stacks.{Stacked, above, bottom, spelled, stacked_after}
use Rattle.lalrpop_grammar.proofs.theory.runs.Steps.{Reaches-append, Reaches-from}
use Rattle.lalrpop_grammar.proofs.theory.states.RightStates.{terminal_in}
use Rattle.run_lengths.proofs.Counting.{counted}

-- the run of the leaves of the trees, with the rest, comes to the stack in as many steps as the
-- trees have nodes
abbrev pub IsPassed : (ℕ → Contents) → ℕ → List ℕ → List Tree → List TerminalString → Type 0
IsPassed states s below trees rest = Reaches states (counted trees) (begin (spelled trees ++ rest)) (record { state = s; below = below; trees = trees; rest = rest })

-- a list that begins with a terminal, which is one that symbols begin with
record BeginsRight (g : List Production) (l : List Symbol) (w : List TerminalString) : Type 0 where
  first : TerminalString
  others : List TerminalString
  joined : w ≡ first ∷ others
  derived : IsFirst g l first

-- what a symbol derives, and a terminal that the symbols after it begin with
begins_right : {g : List Production} (x : Symbol) (after : List Symbol) (w : List TerminalString) → Derives g (x ∷ []) (terminal_symbols w) → (t : TerminalString) (rest : List TerminalString) → IsFirst g after t → BeginsRight g (x ∷ after) (w ++ t ∷ rest)
begins_right x after [] d t rest f = record { first = t; others = rest; joined = refl; derived = (f.0, Derives-append {k = x ∷ []} {m = []} d f.1) }
begins_right x after (y ∷ w) d t rest f = record {
  first = y;
  others = w ++ t ∷ rest;
  joined = refl;
  derived = (terminal_symbols w ++ Terminal t ∷ f.0, Derives-append {k = x ∷ []} {m = Terminal y ∷ terminal_symbols w} d f.1);
}

-- what a symbol derives, if the symbols after it are nullable: nothing, or what they begin with
nothing_or_first : {g : List Production} (x : Symbol) (after : List Symbol) (w : List TerminalString) → Derives g (x ∷ []) (terminal_symbols w) → (rest : List TerminalString) → IsNullable g after → ((w ++ rest ≡ rest) × IsNullable g (x ∷ after)) ⊎ BeginsRight g (x ∷ after) (w ++ rest)
nothing_or_first x after [] d rest n = inl (refl, Derives-append {k = x ∷ []} {m = []} d n)
nothing_or_first x after (y ∷ w) d rest n = inr (record {
  first = y;
  others = w ++ rest;
  joined = refl;
  derived = (terminal_symbols w ++ [], Derives-append {k = x ∷ []} {m = Terminal y ∷ terminal_symbols w} d n);
})

-- a list whose next token is a terminal begins with that
pub terminal_next : (rest : List TerminalString) (t : TerminalString) → next_token rest ≡ TokenOf t → (others : List TerminalString) × (rest ≡ t ∷ others)
terminal_next [] t e = cc
terminal_next (x ∷ rest) t e = (rest, ap (λ y. y ∷ rest) (ap (terminal_in t) e))

module _ (g : List Production) (start : NonterminalString) (states : ℕ → Contents) (faithful : AreFaithful g start states) where
  -- the tree on top is read after the others
  tree_passed : {u : List Symbol} {p : Production} {dot : ℕ} (x : Symbol) (after : List Symbol) → Valid g start u p dot → drop dot p.symbols ≡ x ∷ after → {s : ℕ} {below : List ℕ} {trees : List Tree} → Stacked g states u s below trees → (t : Tree) (n : ℕ) → root t ≡ x → leads (states s) (root t) ≡ Some n → AreOfGrammar g (beside t no_trees) → (rest : List TerminalString) → ((q : Production) → Contains g q → x ≡ Nonterminal q.nonterminal → ValidToken g start u q 0 (next_token rest)) → IsPassed states s below trees (leaves (beside t no_trees) ++ rest) → IsPassed states n (s ∷ below) (t ∷ trees) rest
  tree_passed x after v e {s} {below} {trees} st (Leaf y) n same h of rest token r =
      let to : Configuration = record { state = n; below = s ∷ below; trees = Leaf y ∷ trees; rest = rest } in
      let step = further (ap (shifts_or states (record { state = s; below = below; trees = trees; rest = y ∷ rest }) y rest) h) here in
      Reaches-from (counted trees + 1) (counted trees + 1) (begin (spelled trees ++ y ∷ rest)) (begin ((spelled trees ++ y ∷ []) ++ rest)) to refl (ap begin (sym (append_assoc (spelled trees) (y ∷ []) rest))) (Reaches-append {e = to} r step)
  tree_passed {u} {p} {dot} x after v e {s} {below} {trees} st (Node a children) n same h of rest token r =
      let node = of.0 in
      let named : x ≡ Nonterminal (node.production).nonterminal = sym same ∙ ap Nonterminal (sym node.name) in
      let valid_token : ValidToken g start u node.production 0 (next_token rest) = token node.production node.of_grammar named in
      let awaited : IsAwaited g start u (Nonterminal a) = record { production = p; dot = dot; after = after; valid = v; behind = e ∙ ap (λ y. y ∷ after) (sym same) } in
      let inner : IsRead g start states faithful u children s below trees rest = reads g start states faithful children of.1 u node.production 0 rest valid_token node.symbols s below trees (stacked_after st) in
      let k : IsNodeRead g start states faithful u a children s below trees rest = node_read g start states faithful u a children node s below trees rest valid_token inner awaited (stacked_after st) in
      let at : k.state ≡ n = same_some (sym k.after ∙ stacked_after (above (Node a children) n st h of)) in
      let from : Configuration = record { state = s; below = below; trees = trees; rest = (leaves children ++ []) ++ rest } in
      let to : Configuration = record { state = n; below = s ∷ below; trees = Node a children ∷ trees; rest = rest } in
      let over : Reaches states (suc (nodes children)) from to = Reaches-from (suc (nodes children)) (suc (nodes children)) (record { state = s; below = below; trees = trees; rest = leaves children ++ rest }) from to refl
      (ap (λ l. record { state = s; below = below; trees = trees; rest = l ++ rest }) (sym (append-nil (leaves children))))
      (subst (λ m. Reaches states (suc (nodes children)) (record { state = s; below = below; trees = trees; rest = leaves children ++ rest }) (record { state = m; below = s ∷ below; trees = Node a children ∷ trees; rest = rest })) at k.run) in
      Reaches-from (counted trees + suc (nodes children)) (counted trees + suc (nodes children + 0)) (begin (spelled trees ++ ((leaves children ++ []) ++ rest))) (begin ((spelled trees ++ (leaves children ++ [])) ++ rest)) to (omega arith)
      (ap begin (sym (append_assoc (spelled trees) (leaves children ++ []) rest)))
      (Reaches-append {e = to} r over)

  -- a stack for the empty prefix is that at which runs begin
  bottom_passed : {u : List Symbol} {s : ℕ} {below : List ℕ} {trees : List Tree} → Stacked g states u s below trees → u ≡ [] → (rest : List TerminalString) → IsPassed states s below trees rest
  bottom_passed bottom e rest = here
  bottom_passed (above {u} t n st h of) e rest = absurd (nil≢more [] u (root t) (sym e))

  -- a stack is passed if that below its top is, with what the top tree derives before the rest
  shifted_passed : {u : List Symbol} {p : Production} {dot : ℕ} (x : Symbol) (after : List Symbol) → Valid g start u p dot → drop dot p.symbols ≡ x ∷ after → {w : List Symbol} {s : ℕ} {below : List ℕ} {trees : List Tree} → Stacked g states w s below trees → w ≡ u ++ x ∷ [] → (rest : List TerminalString) → ((q : Production) → Contains g q → x ≡ Nonterminal q.nonterminal → ValidToken g start u q 0 (next_token rest)) → ((m : ℕ) (under : List ℕ) (others : List Tree) (y : List TerminalString) → Stacked g states u m under others → Derives g (x ∷ []) (terminal_symbols y) → IsPassed states m under others (y ++ rest)) → IsPassed states s below trees rest
  shifted_passed {u} x after v e bottom same rest token before = absurd (nil≢more [] u x same)
  shifted_passed {u} x after v e (above {u = w} {s} {below} {trees} t n st h of) same rest token before =
      let last = same_last w u same in
      let under : Stacked g states u s below trees = subst (λ l. Stacked g states l s below trees) last.0 st in
      tree_passed x after v e under t n last.1 h of rest token
      (before s below trees (leaves (beside t no_trees)) under (Derives-from (ap (λ y. y ∷ []) last.1) (roots_derive (beside t no_trees) of)))

  -- a stack is passed before a terminal that the symbols after the dot begin with
  pub first_passed : {u : List Symbol} {p : Production} {dot : ℕ} → Valid g start u p dot → {s : ℕ} {below : List ℕ} {trees : List Tree} → Stacked g states u s below trees → (t : TerminalString) (rest : List TerminalString) → IsFirst g (drop dot p.symbols) t → IsPassed states s below trees (t ∷ rest)
  first_passed (starts p h e) st t rest f = bottom_passed st refl (t ∷ rest)
  first_passed (shifts {u} {p} {dot} x after v e) st t rest f =
      let behind : IsFirst g after t = (f.0, Derives-from (drop_past dot p.symbols e) f.1) in
      shifted_passed x after v e st refl (t ∷ rest) (λ q h i. begins_behind q after v (e ∙ ap (λ y. y ∷ after) i) h behind)
      (λ m under others y below d.
      let b = begins_right x after y d t rest behind in
      subst (IsPassed states m under others) (sym b.joined) (first_passed v below b.first b.others (b.derived.0, Derives-from (sym e) b.derived.1)))
  first_passed (expands q after v e h) st t rest f =
      first_passed v st t rest (f.0 ++ after, Derives-from (sym e) (Derives-append {k = Nonterminal q.nonterminal ∷ []} {m = Terminal t ∷ f.0} (Derives-trans (Derives-production q h) f.1) as_it_is))

  -- a stack is passed before a valid token, if the symbols after the dot are nullable
  pub valid_passed : {u : List Symbol} {p : Production} {dot : ℕ} {token : Token} → ValidToken g start u p dot token → {s : ℕ} {below : List ℕ} {trees : List Tree} → Stacked g states u s below trees → (rest : List TerminalString) → next_token rest ≡ token → IsNullable g (drop dot p.symbols) → IsPassed states s below trees rest
  valid_passed (at_start p h e) st rest same n = bottom_passed st refl rest
  valid_passed (kept {u} {p} {dot} x after v e) st rest same n =
      let behind : IsNullable g after = Derives-from (drop_past dot p.symbols e) n in
      shifted_passed x after (valid v) e st refl rest (λ q h i. passed_on q after (subst (ValidToken g start u p dot) (sym same) v) (e ∙ ap (λ y. y ∷ after) i) h behind)
      (λ m under others y below d.
      elim (nothing_or_first x after y d rest behind) [
        | inl k ↦ subst (IsPassed states m under others) (sym k.0) (valid_passed v below rest same (Derives-from (sym e) k.1))
        | inr b ↦ subst (IsPassed states m under others) (sym b.joined) (first_passed (valid v) below b.first b.others (b.derived.0, Derives-from (sym e) b.derived.1))
      ])
  valid_passed (begins_behind {t = t} q after v e h f) {s} {below} {trees} st rest same n =
      let k = terminal_next rest t same in
      subst (IsPassed states s below trees) (sym k.1)
      (first_passed v st t k.0 (f.0, Derives-from (sym e) (Derives-append {k = Nonterminal q.nonterminal ∷ []} {m = []} (Derives-trans (Derives-production q h) n) f.1)))
  valid_passed (passed_on q after v e h k) st rest same n =
      valid_passed v st rest same (Derives-from (sym e) (Derives-append {k = Nonterminal q.nonterminal ∷ []} {m = []} (Derives-trans (Derives-production q h) n) k))
