-- Findings of warnings.
use Rattle.std.proofs.Common.{ℕ, List, [], ◌∷◌, ◌++◌}
use Rattle.lalrpop_grammar.specs.declared.repr.NonterminalString.{NonterminalString}
use Rattle.lalrpop_grammar.specs.declared.repr.grammar.Grammar.{Grammar}
use Rattle.grammar_diagnostics.specs.Warnings.{Doubt}
use Rattle.lrshow_check.specs.Check.{AreDoubtFindings, IsDoubtFinding}
use Rattle.lrshow_check.specs.Findings.{Finding}

-- findings of warnings, and one of another warning at the end
pub one_doubt_more : (text : List ℕ) (start : NonterminalString) (g : Grammar) (ws : List Doubt) (fs : List Finding) (w : Doubt) (f : Finding) → AreDoubtFindings text start g ws fs → IsDoubtFinding text start g w f → AreDoubtFindings text start g (ws ++ w ∷ []) (fs ++ f ∷ [])
one_doubt_more text start g [] [] w f h is = (is, tt)
one_doubt_more text start g [] (x ∷ fs) w f h is = absurd h
one_doubt_more text start g (v ∷ ws) [] w f h is = absurd h
one_doubt_more text start g (v ∷ ws) (x ∷ fs) w f h is = (h.0, one_doubt_more text start g ws fs w f h.1 is)
