-- What a parse by a table of an augmented grammar says of the old start symbol.
use Rattle.std.proofs.Common.{◌≡◌, inl, inr, ⊎_elim, ℕ, List, [], ◌∷◌, ◌++◌, Option, refl, sym, ap, subst, ◌∙◌, arith}
use Rattle.lalrpop_base.specs.Words.{AreFaithful, Contents, Ends, IsAugmented, IsOnNoRightSide, begin}
use Rattle.lalrpop_grammar.specs.declared.lookahead.token.Token.{Token}
use Rattle.lalrpop_grammar.specs.declared.lookahead.token.Token.TheVariants.{Eof, Terminal as TokenOf}
use Rattle.lalrpop_grammar.specs.declared.repr.NonterminalString.{NonterminalString}
use Rattle.lalrpop_grammar.specs.declared.repr.Production.{Production}
use Rattle.lalrpop_grammar.specs.declared.repr.TerminalString.{TerminalString}
use Rattle.lalrpop_grammar.proofs.theory.grammars.Augmented.{alone, augmented_trees, same_wrong}
use Rattle.lalrpop_grammar.proofs.theory.runs.Runs.{begin_tracks}
use Rattle.parse_tables.specs.declared.table.ParseTable.{ParseTable}
use Rattle.table_parser.specs.Errors.{IfRefused}
use Rattle.table_parser.specs.Events.{Event}
use Rattle.table_parser.specs.Lists.{HasParsedAll, HasRefusedEnd, HasRefusedLast, IsParsed, IsRefusalOf, IsRefused}
use Rattle.table_parser.specs.Steps.{Handles}
use Rattle.table_parser.specs.declared.error.Refusal.{Refusal}
use Rattle.table_parser.specs.declared.error.TableParseError.{TableParseError}
use Rattle.table_parser.proofs.Reports.{if_refused}
use Rattle.any_start_parser.specs.Augmented.{IsOnlyOf}
use Rattle.any_start_parser.specs.Below.{TakesBelow}
use Rattle.any_start_parser.specs.Lists.{HasParsedFromAny, HasRefusedEndFromAny, HasRefusedLastFromAny, IsParsedFromAny, IsRefusalFromAny, IsRefusedFromAny}
use Rattle.any_start_parser.specs.declared.handler.BelowStart.{BelowStart}
use Rattle.any_start_parser.proofs.Below.{final_kept, steps_taken}
use Rattle.any_start_parser.proofs.Final.{final_over, only_child}

-- what follows from a clause on a refusal
pub if_refused_then : {T : Type 0} {P Q : Refusal → Type 0} → ((r : Refusal) → P r → Q r) → (e : TableParseError T) → IfRefused P e → IfRefused Q e
if_refused_then f e h = if_refused (λ r p same. f r p) e h h

module _ (table : ParseTable) {H : Type 0} (takes : H → Event → H → Type 0) (limit : ℕ) (u v : BelowStart H) where
  module _ (states : ℕ → Contents) (g h : List Production) (start f : NonterminalString) (aug : IsAugmented g h start f) (faithful : AreFaithful h f states) (only : IsOnlyOf table.productions f u.production) (w : List TerminalString) where
    by_itself : IsOnNoRightSide h f
    by_itself = alone g h start f aug

    -- a parse
    pub parsed_below : IsParsed table states (TakesBelow takes) limit u w v → IsParsedFromAny table states takes limit u.handler w g start f v.handler
    parsed_below q =
        let taken = steps_taken h f states faithful by_itself table.terminals table.productions takes u.production only w q.run.handled (begin_tracks h f states faithful w) refl in
        let over = final_over h f states faithful by_itself w q.last taken.tracks table.terminals table.productions (q.tree ∷ []) q.final.is q.final.ends in
        let same : v.handler ≡ q.before.handler = final_kept h f states faithful by_itself table.terminals table.productions takes u.production only w q.last taken.tracks q.before v taken.same (q.tree ∷ []) q.final in
        let whole = q.parse h f faithful by_itself in
        let old = (augmented_trees g h start f aug w q.tree).0 whole.parse in
        let few = whole.within in
        let count = old.2 in
        record {
          left = q.left;
          last = q.last;
          run = record {
            steps = q.run.steps;
            handled = subst (λ x. Handles table.terminals table.productions states takes q.run.steps (begin w) u.handler q.last x) (sym same) taken.handled;
            counted = q.run.counted;
          };
          tree = old.0;
          alone = only_child h f states faithful by_itself w q.last taken.tracks old.0 q.tree over old.1;
          used_up = q.used_up;
          ends = q.final.ends ∙ ap (λ t. Ends (t ∷ [])) old.1;
          parse = record { parse = old.3; below = omega (arith, few, count) };
        }

    -- a refusal
    pub refused_below : (state : ℕ) (token : Token) → IsRefused table states (TakesBelow takes) limit u w state token v → IsRefusedFromAny table states takes limit u.handler w g start token v.handler
    refused_below state token q =
        let taken = steps_taken h f states faithful by_itself table.terminals table.productions takes u.production only w q.run.handled (begin_tracks h f states faithful w) refl in
        let same : v.handler ≡ q.before.handler = ⊎_elim
        (λ stands. ap (λ (x : BelowStart H). x.handler) stands.1)
        (λ final. final_kept h f states faithful by_itself table.terminals table.productions takes u.production only w q.last taken.tracks q.before v taken.same final.0 final.1)
        q.why in
        record {
          left = q.left;
          last = q.last;
          run = record {
            steps = q.run.steps;
            handled = subst (λ x. Handles table.terminals table.productions states takes q.run.steps (begin w) u.handler q.last x) (sym same) taken.handled;
            counted = q.run.counted;
          };
          ended = ⊎_elim (λ stands. inl stands.0) (λ final. inr (final.0, final.1.ends)) q.why;
          wrong = same_wrong g h start f aug w token (q.wrong h f faithful by_itself);
        }

  -- the same of the terminals of an iterator
  module _ {S : Type 0} (gives : S → Option ℕ → S → Type 0) (input : S) where
    pub all_parsed : HasParsedAll gives input table (TakesBelow takes) limit u v → HasParsedFromAny gives input table takes limit u v
    all_parsed p = record {
      run = p;
      old = λ states is g h start f aug faithful only. parsed_below states g h start f aug faithful only p.list (p.parsed states is);
    }

    last_refused : (refusal : Refusal) → HasRefusedLast gives input table (TakesBelow takes) limit u v refusal → HasRefusedLastFromAny gives input table takes limit u v refusal
    last_refused refusal r = record {
      run = r;
      old = λ states is g h start f aug faithful only rest. refused_below states g h start f aug faithful only (r.list ++ r.terminal ∷ rest) refusal.state (TokenOf r.terminal) (r.refused states is rest);
    }

    end_refused : (refusal : Refusal) → HasRefusedEnd gives input table (TakesBelow takes) limit u v refusal → HasRefusedEndFromAny gives input table takes limit u v refusal
    end_refused refusal r = record {
      run = r;
      old = λ states is g h start f aug faithful only. refused_below states g h start f aug faithful only r.list refusal.state Eof (r.refused states is);
    }

    pub any_refused : (refusal : Refusal) → IsRefusalOf gives input table (TakesBelow takes) limit u v refusal → IsRefusalFromAny gives input table takes limit u v refusal
    any_refused refusal says = ⊎_elim (λ r. inl (last_refused refusal r)) (λ r. inr (end_refused refusal r)) says
