-- What a grammar with a new start symbol says of the old one.
use Rattle.std.proofs.Common.{◌≡◌, ℕ, ◌<◌, Bool, true, false, cond, not, List, [], ◌∷◌, ◌++◌, map, Some, None, refl, sym, subst, ap, ◌∙◌, arith}
use Rattle.std.specs.Prelude.{Contains, Ok, Err}
use Rattle.std.specs.declared.cmp.Ordering.{Ordering}
use Rattle.std.specs.declared.cmp.Ordering.TheVariants.{Less, Equal, Greater}
use Rattle.std.specs.Ordering.{is_eq, match_ordering}
use Rattle.std.specs.BTreeMap.{is_at, insert_entry}
use Rattle.std.specs.Map.{lookup}
use Rattle.std.proofs.lemmas.List.Elements.{filter-append}
use Rattle.lalrpop_base.specs.Words.{IsAugmented, contents, IsOnNoRightSide, start_production, HasNewStart, Outcome, Parsed, HasOutcome, IsFirstWrong, Tree}
use Rattle.lalrpop_base.specs.Words.{Node, no_trees, beside, trees_of, nodes, IsParseTree, IsWellFormed, name_cmp, productions}
use Rattle.lalrpop_lr1.proofs.Types.{Grammar, NonterminalData, NonterminalString, Production, TerminalString}
use Rattle.lalrpop_grammar.proofs.theory.first.FirstNames.{name_same, name_self}
use Rattle.lalrpop_grammar.proofs.theory.grammars.NewStart.{Entry, listed, is_augmented}
use Rattle.lalrpop_grammar.proofs.theory.grammars.Augmented.{alone, from_old, one_more, augmented_trees, same_wrong}
use Rattle.lalrpop_collections.proofs.theory.lists.Lists.{contains_head, contains_tail, some≢none}
use Rattle.lalrpop_construction.specs.declared.options.Options.{Options}
use Rattle.lalrpop_lr1.specs.Words.{productions_but, seen_over, IsAboveOld, IsTreeBelow, IsOutcomeBelow, TellsTreesBelow, IsOutcomeByTablesAbove}
use Rattle.lalrpop_parser.specs.Words.{IsTreeWithin}
use Rattle.lalrpop_parser.specs.Words.{IsOutcomeFor, tree_of}
use Rattle.lalrpop_lr1.specs.Words.{IsOutcomeByTables, IfRefusedAt, TellsTrees, ReportsParseOutcome}
use Rattle.lalrpop_lr1.specs.runs.AnyStart.{above}
use Rattle.lalrpop_lr1.specs.declared.headline.parse_error.ParseError.{ParseError}
use Rattle.lalrpop_lr1.specs.declared.headline.parse_error.ParseError.TheVariants.{Conflicts, Refused, Limit, Memory}
use Rattle.lalrpop_parser.specs.declared.interpret.tree.ParseTree.{ParseTree}

-- ---- without the production of the new start symbol the old ones are left
module _ (f : NonterminalString) (entry : NonterminalData) (p : Production) (one : entry.productions.items ≡ p ∷ []) (named : p.nonterminal ≡ f) where
  own_left_out : (ps : List Production) → productions_but f (entry.productions.items ++ ps) ≡ productions_but f ps
  own_left_out ps = ap (λ (qs : List Production). productions_but f (qs ++ ps)) one ∙ here (is_at (name_cmp f) p.nonterminal) (ap (is_at (name_cmp f)) named ∙ name_self f)
    where
      here : (b : Bool) → b ≡ true → cond (not b) (p ∷ productions_but f ps) (productions_but f ps) ≡ productions_but f ps
      here true e = refl
      here false e = cc

  inserted_left_out : (es : List Entry) → lookup (is_at (name_cmp f)) es ≡ None → productions_but f (listed (insert_entry name_cmp es f entry)) ≡ productions_but f (listed es)
  inserted_left_out [] none = own_left_out []
  inserted_left_out (e ∷ es) none = go (name_cmp f e.0) none (λ n. inserted_left_out es n)
    where
      go : (o : Ordering) → cond (is_eq o) (Some e.1) (lookup (is_at (name_cmp f)) es) ≡ None
          → (lookup (is_at (name_cmp f)) es ≡ None → productions_but f (listed (insert_entry name_cmp es f entry)) ≡ productions_but f (listed es))
          → productions_but f (listed (match_ordering o ((f, entry) ∷ e ∷ es) ((e.0, entry) ∷ es) (e ∷ insert_entry name_cmp es f entry))) ≡ productions_but f (listed (e ∷ es))
      go Less n rest = own_left_out (listed (e ∷ es))
      go Equal n rest = absurd (some≢none n)
      go Greater n rest =
          filter-append (λ (q : Production). not (is_at (name_cmp f) q.nonterminal)) e.1.productions.items (listed (insert_entry name_cmp es f entry)) ∙
          ap (λ (l : List Production). productions_but f e.1.productions.items ++ l) (rest n) ∙
          sym (filter-append (λ (q : Production). not (is_at (name_cmp f) q.nonterminal)) e.1.productions.items (listed es))

others_stay : (f : NonterminalString) (ps : List Production) → ((p : Production) → Contains ps p → p.nonterminal ≡ f → ⊥) → productions_but f ps ≡ ps
others_stay f [] apart = refl
others_stay f (p ∷ ps) apart = go (is_at (name_cmp f) p.nonterminal) (λ e. apart p (contains_head p ps) (sym (name_same f p.nonterminal e))) (others_stay f ps (λ q c. apart q (contains_tail p ps q c)))
  where
    go : (b : Bool) → (b ≡ true → ⊥) → productions_but f ps ≡ ps → cond (not b) (p ∷ productions_but f ps) (productions_but f ps) ≡ p ∷ ps
    go true differs e = absurd (differs refl)
    go false differs e = ap (λ (l : List Production). p ∷ l) e

pub old_again : (g h : Grammar) (start f : NonterminalString) → IsWellFormed g → HasNewStart g start h f → productions_but f (productions h) ≡ productions g
old_again g h start f well new =
    ap (λ (es : List Entry). productions_but f (listed es)) new.entries ∙
    inserted_left_out f new.entry (start_production g start f) new.added.productions refl g.nonterminals.entries new.name.unused.0 ∙
    others_stay f (productions g) (is_augmented g h start f well new).fresh.0

-- so clauses see the old grammar
pub is_above_old : (g h : Grammar) (start old_start f : NonterminalString) → IsWellFormed g → HasNewStart g start h f → IsWellFormed h → old_start ≡ start → IsAboveOld (seen_over old_start h f)
is_above_old g h start old_start f well new well_formed same = record {
  well_formed = well_formed;
  augmented = subst (λ (s : NonterminalString). IsAugmented (productions_but f (productions h)) (productions h) s f) (sym same)
      (subst (λ (ps : List Production). IsAugmented ps (productions h) start f) (sym (old_again g h start f well new)) (is_augmented g h start f well new));
}

-- ---- a property of a grammar and its start symbol under other names
pub carried : (P : Grammar → NonterminalString → Type 0) {g h : Grammar} {f k : NonterminalString} → g ≡ h → f ≡ k → P g f → P h k
carried P {h = h} {f = f} left right known = subst (P h) right (subst (λ (x : Grammar). P x f) left known)

-- ---- the last child of a node with one child
pub last_of_one : (a b : NonterminalString) (t : Tree) (children before : List ParseTree) (last : ParseTree) → Node b (trees_of (map tree_of children)) ≡ Node a (beside t no_trees) → children ≡ before ++ last ∷ [] → tree_of last ≡ t
last_of_one a b t children before last is split = go before (sym (ap (λ (l : List ParseTree). Node b (trees_of (map tree_of l))) split) ∙ is)
  where
    go : (before : List ParseTree) → Node b (trees_of (map tree_of (before ++ last ∷ []))) ≡ Node a (beside t no_trees) → tree_of last ≡ t
    go [] e = cc
    go (x ∷ []) e = cc
    go (x ∷ y ∷ more) e = cc

-- ---- what a result for the new start symbol is for the old one
module _ (g h : List Production) (start f : NonterminalString) (aug : IsAugmented g h start f) (w : List TerminalString) (limit : ℕ) where
  pub is_alone : IsOnNoRightSide h f
  is_alone = alone g h start f aug

  -- a tree has one child below its root
  pub has_child : (t : Tree) → (IsOnNoRightSide h f → IsTreeWithin limit w t h f) → (a : NonterminalString) × (s : Tree) × t ≡ Node a (beside s no_trees)
  has_child t told = let over = (augmented_trees g h start f aug w t).0 (told is_alone).parse in (f, over.0, over.1)

  module _ (tree child : ParseTree) (under : (a : NonterminalString) (t : Tree) → tree_of tree ≡ Node a (beside t no_trees) → tree_of child ≡ t) where
    pub child_below : (IsOnNoRightSide h f → IsTreeWithin limit w (tree_of tree) h f) → (tree_of tree ≡ Node f (beside (tree_of child) no_trees)) × IsTreeBelow limit w (tree_of child) g start
    child_below told =
        let within = told is_alone in
        let over = (augmented_trees g h start f aug w (tree_of tree)).0 within.parse in
        let same : tree_of child ≡ over.0 = under f over.0 over.1 in
        let few = within.within in
        let count = over.2 in (
          over.1 ∙ ap (λ (s : Tree). Node f (beside s no_trees)) (sym same),
          record {
            parse = subst (IsParseTree g start w) (sym same) over.3;
            below = subst (λ (s : Tree). nodes (beside s no_trees) < limit) (sym same) (omega (arith, few, count));
          },
        )

    pub child_told : TellsTrees limit w (Ok tree) h f → TellsTreesBelow limit w (Ok child) g start
    child_told told t parse =
        let answer = told (Node f (beside t no_trees)) (from_old g h start f aug w t parse) in
        let few = answer.1 in
        let count = one_more g h start f aug t in
        (under f t answer.0, omega (arith, few, count))

  pub error_told : (e : ParseError) → TellsTrees limit w (Err e) h f → TellsTreesBelow limit w (Err e) g start
  error_told e told t parse = go e (told (Node f (beside t no_trees)) (from_old g h start f aug w t parse))
    where
      go : (e : ParseError) → ReportsParseOutcome (IsOutcomeFor (Node f (beside t no_trees)) limit) (Err e) → ReportsParseOutcome (IsOutcomeBelow t limit) (Err e)
      go (Conflicts error) k = tt
      go (Refused token) k = k
      go Limit k = let count = one_more g h start f aug t in omega (arith, k, count)
      go Memory k = tt

  pub refused_old : (e : ParseError) → IfRefusedAt (λ token. IsOnNoRightSide h f → IsFirstWrong h f w token) e → IfRefusedAt (λ token. IsFirstWrong g start w token) e
  refused_old (Conflicts error) told = tt
  refused_old (Refused token) told = same_wrong g h start f aug w token (told is_alone)
  refused_old Limit told = tt
  refused_old Memory told = tt

-- ---- what the run says
module _ (h : Grammar) (options : Options) (f : NonterminalString) (w : List TerminalString) (limit : ℕ) (is_alone : IsOnNoRightSide (productions h) f) where
  pub run_of_child : (tree child : ParseTree) → tree_of tree ≡ Node f (beside (tree_of child) no_trees) → IsOutcomeByTables h options f w limit (Ok tree) → IsOutcomeByTablesAbove h options f w limit (Ok child)
  run_of_child tree child is run = record {
    tables = run.tables;
    made = run.made;
    alone = is_alone;
    told = subst (λ (t : Tree). HasOutcome (contents h.terminals run.tables) w limit (Parsed t)) is run.told;
  }

  pub run_of_error : (e : ParseError) → IsOutcomeByTables h options f w limit (Err e) → IsOutcomeByTablesAbove h options f w limit (Err e)
  run_of_error e run = record {
    tables = run.tables;
    made = run.made;
    alone = is_alone;
    told = go e run.told;
  }
    where
      R : Outcome → Type 0
      R = HasOutcome (contents h.terminals run.tables) w limit

      go : (e : ParseError) → ReportsParseOutcome R (Err e) → ReportsParseOutcome (λ o. R (above f o)) (Err e)
      go (Conflicts error) k = tt
      go (Refused token) k = k
      go Limit k = k
      go Memory k = tt
