-- What is shown of the result of a parse by tables.
use Rattle.std.proofs.Common.{◌≡◌, ◌≤◌, ℕ, List, Result, Ok, Err, refl, subst, inl, map}
use Rattle.std.specs.Prelude.{IfOk, IfErr, string_bytes}
use Rattle.std.specs.declared.string.String.{String}
use Rattle.lalrpop_base.specs.Words.{Bits, contents, HasOutcome, IsOnNoRightSide, Parsed, Refused, Limit, IsFirstWrong, beside, no_trees, leaves, nodes, productions}
use Rattle.lalrpop_states.specs.declared.lr1_core.state.State.{State}
use Rattle.lalrpop_collections.specs.declared.memory.OutOfMemory.{OutOfMemory}
use Rattle.lalrpop_grammar.specs.declared.repr.NonterminalString.{NonterminalString}
use Rattle.lalrpop_grammar.specs.declared.repr.TerminalString.{TerminalString}
use Rattle.lalrpop_grammar.specs.declared.repr.TerminalString.TheVariants.{Literal}
use Rattle.lalrpop_grammar.specs.declared.repr.grammar.Grammar.{Grammar}
use Rattle.lalrpop_tables.specs.Words.{AreTablesOf}
use Rattle.lalrpop_construction.specs.declared.options.Method.{Method}
use Rattle.lalrpop_lr1.specs.Words.{ReportsOutcome, IsTreeWithin, IsCutOff, AnswersTrees, IfRefused, IfLimit, tree_of}
use Rattle.lalrpop_parser.specs.declared.interpret.error.InterpretError.{InterpretError}
use Rattle.lalrpop_parser.specs.declared.interpret.error.InterpretError.TheVariants.{Refused as RefusedBy, Limit as LimitPassed, Memory}
use Rattle.lalrpop_parser.specs.declared.interpret.tree.ParseTree.{ParseTree}
use Rattle.lrtab_run.specs.Words.{Parse}
use Rattle.lrtab_run.specs.Shown.{IsTextOf, IsParseShown, IsTaskShown}

-- what is promised of a result by the states
module _ (g : Grammar) (start : NonterminalString) (w : List TerminalString) (limit : ℕ) (states : List (State Bits)) where
  pub record IsPromised (answer : Result ParseTree (InterpretError Bits)) : Type 0 where
    pub parses : IfOk answer (λ tree. IsOnNoRightSide (productions g) start → IsTreeWithin limit w (tree_of tree) (productions g) start)
    pub refuses : IfErr answer (IfRefused (λ _ token. IsOnNoRightSide (productions g) start → IsFirstWrong (productions g) start w token) states)
    pub cut_off : IfErr answer (IfLimit (IsCutOff (contents g.terminals states) w limit))
    pub one_tree : IsOnNoRightSide (productions g) start → AnswersTrees limit w states answer (productions g) start
    pub run : ReportsOutcome (HasOutcome (contents g.terminals states) w limit) states answer
    pub of_list : IfOk answer (λ tree. leaves (beside (tree_of tree) no_trees) ≡ w)
    pub within : IfOk answer (λ tree. nodes (beside (tree_of tree) no_trees) ≤ limit)

module _ (method : Method) (max_copies : ℕ) (g : Grammar) (start name : NonterminalString) (named : name ≡ start) (w : List TerminalString) (limit : ℕ) (states : List (State Bits)) (tables : AreTablesOf ⊥ method max_copies g start states) where
  answer_shown : (answer : Result ParseTree (InterpretError Bits)) (status : ℕ) (text : List ℕ) → IsPromised g start w limit states answer → IsTextOf answer status text →
      IsParseShown method max_copies g start w limit status text
  answer_shown (Ok tree) status text h shown = record {
    states = states;
    tables = tables;
    run = record {
      outcome = Parsed (tree_of tree);
      run = h.run;
      shown = (shown.0, tree, refl, shown.1);
      of_tokens = (h.of_list, h.within);
      of_grammar = λ alone. (h.parses alone).parse;
      of_trees = h.one_tree;
    };
  }
  answer_shown (Err (RefusedBy state token)) status text h shown = record {
    states = states;
    tables = tables;
    run = record {
      outcome = Refused h.run.0 token;
      run = h.run.2;
      shown = shown;
      of_tokens = tt;
      of_grammar = h.refuses.2;
      of_trees = λ alone t parse. (h.one_tree alone t parse).2;
    };
  }
  answer_shown (Err LimitPassed) status text h shown = record {
    states = states;
    tables = tables;
    run = record {
      outcome = Limit;
      run = h.run;
      shown = shown;
      of_tokens = h.cut_off;
      of_grammar = λ alone. tt;
      of_trees = h.one_tree;
    };
  }
  answer_shown (Err Memory) status text h shown = absurd shown

  -- the text of a result is what a parse shows, also under other names of the start symbol and the
  -- tokens
  pub parse_shown : {A : Type 0} (words : List (List ℕ)) → w ≡ map Literal words → (answer : Result ParseTree (InterpretError Bits)) (r : Result (ℕ × String A) OutOfMemory) → IsPromised g name w limit states answer →
      IfOk r (λ o. IsTextOf answer o.0 (string_bytes o.1)) → IfOk r (λ o. IsTaskShown method max_copies g start (Parse limit words) o.0 (string_bytes o.1))
  parse_shown words same answer (Ok o) h shown =
      inl (subst (λ (tokens : List TerminalString). IsParseShown method max_copies g start tokens limit o.0 (string_bytes o.1)) same
      (answer_shown answer o.0 (string_bytes o.1) (subst (λ (s : NonterminalString). IsPromised g s w limit states answer) named h) shown))
  parse_shown words same answer (Err e) h shown = tt
