-- The entries of a grammar, one at a time.
use Rattle.std.proofs.Common.{◌≡◌, ℕ, zero, suc, List, ◌∷◌, refl, subst, ap}
use Rattle.std.specs.Prelude.{Option, unwrap_or}
use Rattle.lalrpop_grammar.proofs.Types.{NonterminalData, NonterminalString, TerminalString}
use Rattle.lalrpop_grammar.specs.Words.{IsWellFormedEntry, AreWellFormedEntries}

module _ (terminals : List TerminalString) (actions : ℕ) where
  pub entries_cons : (name : NonterminalString) (entry : NonterminalData) (rest whole : List (NonterminalString × NonterminalData)) → whole ≡ (name, entry) ∷ rest →
      IsWellFormedEntry terminals actions name entry.productions.items → AreWellFormedEntries terminals actions rest → AreWellFormedEntries terminals actions whole
  entries_cons name entry rest whole e good goods = rw e (cons_at name entry rest good goods)
    where
      cons_at : (name : NonterminalString) (entry : NonterminalData) (rest : List (NonterminalString × NonterminalData)) →
          IsWellFormedEntry terminals actions name entry.productions.items → AreWellFormedEntries terminals actions rest → AreWellFormedEntries terminals actions ((name, entry) ∷ rest)
      cons_at name entry rest good goods zero n x h =
          subst (λ (d : NonterminalData). IsWellFormedEntry terminals actions n d.productions.items) (ap (λ (o : Option (NonterminalString × NonterminalData)). (unwrap_or o (n, x)).1) h)
          (subst (λ (m : NonterminalString). IsWellFormedEntry terminals actions m entry.productions.items) (ap (λ (o : Option (NonterminalString × NonterminalData)). (unwrap_or o (n, x)).0) h) good)
      cons_at name entry rest good goods (suc k) n x h = goods k n x h

  pub entries_head : (name : NonterminalString) (entry : NonterminalData) (rest whole : List (NonterminalString × NonterminalData)) → whole ≡ (name, entry) ∷ rest →
      AreWellFormedEntries terminals actions whole → IsWellFormedEntry terminals actions name entry.productions.items
  entries_head name entry rest whole e goods = goods 0 name entry (rw e refl)

  pub entries_tail : (name : NonterminalString) (entry : NonterminalData) (rest whole : List (NonterminalString × NonterminalData)) → whole ≡ (name, entry) ∷ rest →
      AreWellFormedEntries terminals actions whole → AreWellFormedEntries terminals actions rest
  entries_tail name entry rest whole e goods k n x h = goods (suc k) n x (rw e h)
