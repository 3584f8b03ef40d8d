-- A list of terminals is a sentence exactly if it has a parse tree. The proof is that a forest
-- whose leaves are terminals is one of parse trees.
use Rattle.std.proofs.Common.{◌≡◌, ◌↔◌, List, [], ◌∷◌, ◌++◌, sym, refl, ap, ap₂, ◌∙◌}
use mathlib.Core.List.{head-eq_of_cons-eq, tail-eq_of_cons-eq, nil≢cons, cons≢nil}
use Rattle.lalrpop_grammar.proofs.Types.{NonterminalString, Production, Symbol, TerminalString}
use Rattle.lalrpop_grammar.specs.declared.repr.Symbol.TheVariants.{Nonterminal}
use Rattle.lalrpop_grammar.specs.Words.{Derives, terminal_symbols, IsSentence, Tree, Leaf, Node, Trees, no_trees, beside, roots, leaves, AreOfGrammar, IsParseTree}
use Rattle.lalrpop_grammar.proofs.theory.grammars.SymbolLists.{TerminalParts, terminal_parts}
use Rattle.lalrpop_grammar.proofs.theory.grammars.Derivations.{Derives-from, Derives-to}
use Rattle.lalrpop_grammar.proofs.theory.grammars.Forests.{Forest, empty, leaf, node, derives_forest}
use Rattle.lalrpop_grammar.proofs.theory.runs.Reading.{roots_derive}

-- trees of a grammar over symbols, with terminals for leaves
pub record Parsed (g : List Production) (l : List Symbol) (w : List TerminalString) : Type 0 where
  pub trees : Trees
  pub of_grammar : AreOfGrammar g trees
  pub over : roots trees ≡ l
  pub spells : leaves trees ≡ w

-- a forest whose leaves are terminals is one of parse trees
pub forest_parsed : {g : List Production} {l n : List Symbol} → Forest g l n → (w : List TerminalString) → n ≡ terminal_symbols w → Parsed g l w
forest_parsed empty [] e = record { trees = no_trees; of_grammar = tt; over = refl; spells = refl }
forest_parsed empty (t ∷ w) e = absurd (nil≢cons e)
forest_parsed (leaf x f) [] e = absurd (cons≢nil e)
forest_parsed (leaf x f) (t ∷ w) e =
    let r = forest_parsed f w (tail-eq_of_cons-eq e) in
    record {
      trees = beside (Leaf t) r.trees;
      of_grammar = r.of_grammar;
      over = ap₂ (λ y k. y ∷ k) (sym (head-eq_of_cons-eq e)) r.over;
      spells = ap (λ v. t ∷ v) r.spells;
    }
forest_parsed (node p {m = m} {n = n} h d f) w e =
    let s : TerminalParts m n w = terminal_parts m n w e in
    let q = forest_parsed d s.first s.left in
    let r = forest_parsed f s.second s.right in
    record {
      trees = beside (Node p.nonterminal q.trees) r.trees;
      of_grammar = (record { production = p; of_grammar = h; name = refl; symbols = sym q.over }, q.of_grammar, r.of_grammar);
      over = ap (λ k. Nonterminal p.nonterminal ∷ k) r.over;
      spells = ap₂ (λ u v. u ++ v) q.spells r.spells ∙ sym s.joined;
    }

-- a derivation of a list of terminals gives trees
pub derives_parsed : {g : List Production} {l : List Symbol} (w : List TerminalString) → Derives g l (terminal_symbols w) → Parsed g l w
derives_parsed w d = forest_parsed (derives_forest d) w refl

-- trees give a derivation of the list of their leaves
pub parsed_derives : {g : List Production} {l : List Symbol} (w : List TerminalString) → Parsed g l w → Derives g l (terminal_symbols w)
parsed_derives w r = Derives-from r.over (Derives-to (ap terminal_symbols r.spells) (roots_derive r.trees r.of_grammar))

-- the sentences are the lists with a parse tree
pub sentence_tree : (g : List Production) (start : NonterminalString) (w : List TerminalString) → IsSentence g start w ↔ ((t : Tree) × IsParseTree g start w t)
sentence_tree g start w = (
  λ d. let r = derives_parsed w d in go r.trees r.of_grammar r.over r.spells,
  λ h. parsed_derives w (record { trees = beside h.0 no_trees; of_grammar = h.1.of_grammar; over = ap (λ x. x ∷ []) h.1.from_start; spells = h.1.of_list }),
)
  where
    go : (ts : Trees) → AreOfGrammar g ts → roots ts ≡ Nonterminal start ∷ [] → leaves ts ≡ w → (t : Tree) × IsParseTree g start w t
    go no_trees h e k = absurd (nil≢cons e)
    go (beside t no_trees) h e k = (t, record { from_start = head-eq_of_cons-eq e; of_grammar = h; of_list = k })
    go (beside t (beside u ts)) h e k = absurd (cons≢nil (tail-eq_of_cons-eq e))
