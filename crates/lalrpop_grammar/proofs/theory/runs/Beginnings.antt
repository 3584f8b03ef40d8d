-- Over faithful states each terminal with which the input so far is a beginning is shifted. The
-- proof reads a forest of a derivation from the left up to that terminal.
use Rattle.std.proofs.Common.{◌≡◌, ℕ, suc, ◌+◌, List, [], ◌∷◌, ◌++◌, drop, append_assoc, append-nil, sym, refl, ap, ◌∙◌, Some}
use Rattle.std.specs.Prelude.{Contains}
use mathlib.Core.List.{head-eq_of_cons-eq, tail-eq_of_cons-eq, nil≢cons}
use Rattle.lalrpop_grammar.proofs.Types.{NonterminalString, Production, Symbol, TerminalString}
use Rattle.lalrpop_grammar.specs.declared.repr.Symbol.TheVariants.{Nonterminal, Terminal}
use Rattle.lalrpop_grammar.specs.Words.{Derives, terminal_symbols, IsBeginning, Valid, starts, shifts, expands, ValidToken, begins_behind, IsAwaited, Contents}
use Rattle.lalrpop_grammar.specs.Words.{state_after, AreFaithful, Tree, Leaf, Node, leaves, nodes, IsNode, Configuration, next_token, shifts_or, Reaches, here, further, begin}
use Rattle.lalrpop_collections.proofs.theory.lists.Lists.{drop_past}
use Rattle.lalrpop_grammar.proofs.theory.grammars.SymbolLists.{same_nonterminal, not_both, place, terminal_symbols-append, inside, behind}
use Rattle.lalrpop_grammar.proofs.theory.grammars.Derivations.{Derives-to}
use Rattle.lalrpop_grammar.proofs.theory.grammars.Forests.{Forest, empty, leaf, node, forest_derives, derives_forest, forest-nil, Forest-from}
use Rattle.lalrpop_grammar.proofs.theory.grammars.Parses.{Parsed, forest_parsed}
use Rattle.lalrpop_grammar.proofs.theory.runs.Steps.{Reaches-append, Reaches-from}
use Rattle.lalrpop_grammar.proofs.theory.runs.Reading.{leads_on, reads, node_read, IsRead, IsNodeRead}

-- the token that follows in the input is one of the tokens of a production before it
pub token_behind : {g : List Production} {start : NonterminalString} {u : List Symbol} {p : Production} {dot : ℕ} (second : List TerminalString) (t : TerminalString) (rest : List TerminalString) (after : List Symbol) (q : Production) (l : List Symbol) → Valid g start u p dot → drop dot p.symbols ≡ Nonterminal q.nonterminal ∷ l → Contains g q → Derives g l (terminal_symbols second ++ Terminal t ∷ after) → ValidToken g start u q 0 (next_token (second ++ t ∷ rest))
token_behind [] t rest after q l v k h d = begins_behind q l v k h (after, d)
token_behind (x ∷ second) t rest after q l v k h d = begins_behind q l v k h (terminal_symbols second ++ Terminal t ∷ after, d)

module _ (g : List Production) (start : NonterminalString) (states : ℕ → Contents) (faithful : AreFaithful g start states) where
  -- a run from a configuration comes to a configuration in which t is the next token and is shifted
  pub record ComesTo (c : Configuration) (t : TerminalString) (rest : List TerminalString) : Type 0 where
    pub steps : ℕ
    pub at : Configuration
    pub run : Reaches states steps c at
    pub next : at.rest ≡ t ∷ rest
    pub target : ℕ
    pub shift : (states at.state).shift t ≡ Some target

  -- a run comes there also from an earlier configuration
  pub comes_from : {n : ℕ} {c d : Configuration} {t : TerminalString} {rest : List TerminalString} → Reaches states n c d → ComesTo d t rest → ComesTo c t rest
  comes_from {n} r k = record { steps = n + k.steps; at = k.at; run = Reaches-append r k.run; next = k.next; target = k.target; shift = k.shift }

  -- reading a forest from the left up to a terminal t brings the run to a shift of t, if the roots
  -- of the forest are after a dot
  pub reads_to : {l n : List Symbol} → Forest g l n → (v : List TerminalString) (t : TerminalString) (after : List Symbol) → n ≡ terminal_symbols v ++ Terminal t ∷ after → (rest : List TerminalString) (u : List Symbol) (p : Production) (dot : ℕ) → Valid g start u p dot → drop dot p.symbols ≡ l → (s : ℕ) (below : List ℕ) (trees : List Tree) → state_after states u ≡ Some s → ComesTo (record { state = s; below = below; trees = trees; rest = v ++ t ∷ rest }) t rest
  reads_to empty [] t after e rest u p dot v k s below trees at = absurd (nil≢cons e)
  reads_to empty (x ∷ w) t after e rest u p dot v k s below trees at = absurd (nil≢cons e)
  reads_to (leaf x {l} f) [] t after e rest u p dot v k s below trees at =
      let m = leads_on g start states faithful u s (Terminal t) (record { production = p; dot = dot; after = l; valid = v; behind = k ∙ ap (λ y. y ∷ l) (head-eq_of_cons-eq e) }) at in
      record { steps = 0; at = record { state = s; below = below; trees = trees; rest = t ∷ rest }; run = here; next = refl; target = m.0; shift = m.1 }
  reads_to (leaf x {l} f) (y ∷ w) t after e rest u p dot v k s below trees at =
      let b : drop dot p.symbols ≡ Terminal y ∷ l = k ∙ ap (λ z. z ∷ l) (head-eq_of_cons-eq e) in
      let m = leads_on g start states faithful u s (Terminal y) (record { production = p; dot = dot; after = l; valid = v; behind = b }) at in
      let r = reads_to f w t after (tail-eq_of_cons-eq e) rest (u ++ Terminal y ∷ []) p (suc dot) (shifts (Terminal y) l v b) (drop_past dot p.symbols b) m.0 (s ∷ below) (Leaf y ∷ trees) m.2 in
      comes_from (further (ap (shifts_or states (record { state = s; below = below; trees = trees; rest = y ∷ (w ++ t ∷ rest) }) y (w ++ t ∷ rest)) m.1) here) r
  reads_to (node q {l} {m} {n} h d f) w t after e rest u p dot v k s below trees at = elim (place m n w t after e) [
    | inside j i ↦ reads_to d w t j i rest u q 0 (expands q l v k h) refl s below trees at
    | behind first second e₁ e₂ e₃ ↦
        let r : Parsed g q.symbols first = forest_parsed d first e₂ in
        let nd : IsNode g q.nonterminal r.trees = record { production = q; of_grammar = h; name = refl; symbols = sym r.over } in
        let token : ValidToken g start u q 0 (next_token (second ++ t ∷ rest)) = token_behind second t rest after q l v k h (Derives-to e₃ (forest_derives f)) in
        let c : IsRead g start states faithful u r.trees s below trees (second ++ t ∷ rest) = reads g start states faithful r.trees r.of_grammar u q 0 (second ++ t ∷ rest) token (sym r.over) s below trees at in
        let a : IsAwaited g start u (Nonterminal q.nonterminal) = record { production = p; dot = dot; after = l; valid = v; behind = k } in
        let kk : IsNodeRead g start states faithful u q.nonterminal r.trees s below trees (second ++ t ∷ rest) = node_read g start states faithful u q.nonterminal r.trees nd s below trees (second ++ t ∷ rest) token c a at in
        let rec : ComesTo (record { state = kk.state; below = s ∷ below; trees = Node q.nonterminal r.trees ∷ trees; rest = second ++ t ∷ rest }) t rest =
        reads_to f second t after e₃ rest (u ++ Nonterminal q.nonterminal ∷ []) p (suc dot) (shifts (Nonterminal q.nonterminal) l v k) (drop_past dot p.symbols k) kk.state (s ∷ below) (Node q.nonterminal r.trees ∷ trees) kk.after in
        comes_from
        (Reaches-from (suc (nodes r.trees)) (suc (nodes r.trees)) (record { state = s; below = below; trees = trees; rest = leaves r.trees ++ (second ++ t ∷ rest) }) (record { state = s; below = below; trees = trees; rest = w ++ t ∷ rest }) (record { state = kk.state; below = s ∷ below; trees = Node q.nonterminal r.trees ∷ trees; rest = second ++ t ∷ rest }) refl
        (ap (λ x. record { state = s; below = below; trees = trees; rest = x }) (ap (λ x. x ++ (second ++ t ∷ rest)) r.spells ∙ sym (append_assoc first second (t ∷ rest)) ∙ ap (λ x. x ++ t ∷ rest) (sym e₁)))
        kk.run)
        rec
  ]

  -- each terminal with which the input so far is a beginning is shifted
  pub beginning_shifted : (v : List TerminalString) (t : TerminalString) (rest : List TerminalString) → IsBeginning g start (v ++ t ∷ []) → ComesTo (begin (v ++ t ∷ rest)) t rest
  beginning_shifted v t rest b =
      from_start (derives_forest b.1) refl (ap (λ l. l ++ b.0) (terminal_symbols-append v (t ∷ [])) ∙ append_assoc (terminal_symbols v) (Terminal t ∷ []) b.0)
    where
      no_leaf : {x : Symbol} {l : List Symbol} (w : List TerminalString) → x ≡ Nonterminal start → x ∷ l ≡ terminal_symbols w ++ Terminal t ∷ b.0 → ⊥
      no_leaf [] e k = not_both (sym e ∙ head-eq_of_cons-eq k)
      no_leaf (y ∷ w) e k = not_both (sym e ∙ head-eq_of_cons-eq k)

      from_start : {l n : List Symbol} → Forest g l n → l ≡ Nonterminal start ∷ [] → n ≡ terminal_symbols v ++ Terminal t ∷ b.0 → ComesTo (begin (v ++ t ∷ rest)) t rest
      from_start empty e k = absurd (nil≢cons e)
      from_start (leaf x f) e k = absurd (no_leaf v (head-eq_of_cons-eq e) k)
      from_start (node q {m = m} {n = n} h d f) e k =
          let nil : n ≡ [] = forest-nil (Forest-from (tail-eq_of_cons-eq e) f) in
          reads_to d v t b.0 (sym (append-nil m) ∙ ap (λ l. m ++ l) (sym nil) ∙ k) rest [] q 0 (starts q h (same_nonterminal (head-eq_of_cons-eq e))) refl 0 [] [] refl
