-- Runs on lists of terminals, from the calls of a machine.
use Rattle.std.proofs.Common.{◌≡◌, inl, inr, ⊎_elim, ℕ, suc, ◌+◌, true, List, [], ◌∷◌, ◌++◌, length, slice_get, Some, append_assoc, length-append, refl, sym, ap, ap₂, subst, ◌∙◌, arith}
use Rattle.std.proofs.lemmas.List.{map-append}
use Rattle.lalrpop_base.specs.Words.{Configuration, Contents, HasOutcome, Parsed, Refused as RefusedIn, Limit as CutOff, Reaches, Tree, begin, cut_off, further, here, next_token, other_end, parsed, stuck}
use Rattle.lalrpop_grammar.specs.declared.lookahead.token.Token.{Token}
use Rattle.lalrpop_grammar.specs.declared.repr.Production.{Production}
use Rattle.lalrpop_grammar.specs.declared.repr.TerminalString.{TerminalString}
use Rattle.lalrpop_grammar.proofs.theory.runs.Refusals.{refused_wrong}
use Rattle.lalrpop_grammar.proofs.theory.runs.Runs.{answered_is_tree, answered_within}
use Rattle.lalrpop_grammar.proofs.theory.runs.Steps.{Reaches-append}
use Rattle.lr1_theory.proofs.theory.runs.Prompt.{refused_promptly}
use Rattle.parse_tables.specs.Tables.{IsTableOf}
use Rattle.parse_tables.specs.declared.table.ParseTable.{ParseTable}
use Rattle.table_parser.specs.Events.{Event}
use Rattle.table_parser.specs.Lists.{AreTerminals, HasRun, IsParsed, IsRefused}
use Rattle.table_parser.specs.Machines.{HasReduced, IsAt, IsFresh, numbers_below, starts_below}
use Rattle.table_parser.specs.Runs.{AtTerminal, HasParsed, HasRead, IsCutOff, IsRefusal}
use Rattle.table_parser.specs.Steps.{Handles, nothing, once_more}
use Rattle.table_parser.specs.declared.error.Refusal.{Refusal}
use Rattle.table_parser.specs.declared.machine.Machine.{Machine}

module _ {terminals : List TerminalString} {productions : List Production} {states : ℕ → Contents} {H : Type 0} {takes : H → Event → H → Type 0} where
  -- steps after steps
  pub Handles-append : {n k : ℕ} {c d e : Configuration} {h i j : H} → Handles terminals productions states takes n c h d i → Handles terminals productions states takes k d i e j → Handles terminals productions states takes (n + k) c h e j
  Handles-append {n} {c = c} {h = h} r (nothing {c = d} {h = i}) = subst (λ m. Handles terminals productions states takes m c h d i) (omega arith) r
  Handles-append {n} {c = c} {h = h} {j = j} r (once_more {e = f} s step) = subst (λ m. Handles terminals productions states takes m c h f j) (omega arith) (once_more (Handles-append r s) step)

  -- steps that a handler takes are steps of the run
  pub handles_reaches : {n : ℕ} {c d : Configuration} {h i : H} → Handles terminals productions states takes n c h d i → Reaches states n c d
  handles_reaches nothing = here
  handles_reaches (once_more {n} {c} {d} {e} r step) = subst (λ m. Reaches states m c e) (omega arith) (Reaches-append (handles_reaches r) (further step.moves here))

-- the outcome for a list, if its run gets to a configuration
module _ (terminals : List TerminalString) (productions : List Production) (states : ℕ → Contents) {H : Type 0} (takes : H → Event → H → Type 0) (w : List TerminalString) (limit : ℕ) (c : Configuration) (m : Machine) (i j : H) (n : ℕ) (reached : Reaches states n (begin w) c) (counted : n + m.left ≡ limit) where
  -- and a token is refused there
  pub refused_outcome : (is_parse : List Tree → Type 0) (bit : ℕ) (refusal : Refusal) → ((trees : List Tree) (t : Tree) → trees ≡ t ∷ [] → c.rest ≡ [] → is_parse trees) → IsRefusal terminals productions states takes c m i is_parse bit refusal j → HasOutcome states w limit (RefusedIn refusal.state (next_token c.rest))
  refused_outcome is_parse bit refusal parses r =
      let more = r.reduced.counted in
      let says : RefusedIn r.at.state (next_token r.at.rest) ≡ RefusedIn refusal.state (next_token c.rest) = ap₂ (λ n rest. RefusedIn n (next_token rest)) (sym r.state) r.reduced.rest in
      let all = Reaches-append reached (handles_reaches r.reduced.handled) in
      subst (HasOutcome states w limit) says (⊎_elim
      (λ stands. stuck (n + r.reduced.steps) r.at (omega (arith, counted, more)) all stands.0)
      (λ final. let left = final.1 in other_end (n + r.reduced.steps) r.at final.2 (omega (arith, counted, more, left)) all final.3.ends (λ t one. final.4 (parses final.2 t one.0 (sym r.reduced.rest ∙ one.1))))
      r.why)

  -- and the last step ends it with a tree
  pub parsed_outcome : (new : Machine) → c.rest ≡ [] → (p : HasParsed terminals productions states takes c m i new j) → HasOutcome states w limit (Parsed p.tree)
  parsed_outcome new none p =
      let more = p.reduced.counted in
      parsed (n + p.reduced.steps) p.at (p.tree ∷ []) p.tree (omega (arith, counted, more)) (Reaches-append reached (handles_reaches p.reduced.handled)) p.final.ends (refl, p.reduced.rest ∙ none)

-- the terminals with more bits
pub named_more : (terminals : List TerminalString) (bits : List ℕ) (list : List TerminalString) (bit : ℕ) (t : TerminalString) → AreTerminals terminals bits list → slice_get terminals bit ≡ Some t → AreTerminals terminals (bits ++ bit ∷ []) (list ++ t ∷ [])
named_more terminals bits list bit t named there = map-append (slice_get terminals) bits (bit ∷ []) ∙ ap₂ (λ xs x. xs ++ x ∷ []) named there ∙ sym (map-append Some list (t ∷ []))

module _ (table : ParseTable) {H : Type 0} (takes : H → Event → H → Type 0) (limit : ℕ) (h : H) where
  -- terminals were read, whatever comes after them
  pub record IsReading (bits : List ℕ) (m : Machine) (i : H) : Type 0 where
    pub list : List TerminalString
    pub named : AreTerminals table.terminals bits list
    pub position : m.position ≡ length bits
    pub runs : (states : ℕ → Contents) → IsTableOf table states → (rest : List TerminalString) → (c : Configuration) × HasRun table states takes limit h (list ++ rest) m.left c i × IsAt m c × (c.rest ≡ rest)

  -- nothing was read yet
  pub begins : (m : Machine) → IsFresh limit m → IsReading [] m h
  begins m f = record {
    list = [];
    named = refl;
    position = f.position;
    runs = λ states is rest. (
      begin rest,
      record { steps = 0; handled = nothing; counted = let all = f.left in omega (arith, all) },
      record { state = f.state; below = ap numbers_below f.below; starts = ap starts_below f.below; position = f.position },
      refl,
    );
  }

  -- steps on a list, and more steps
  module _ (states : ℕ → Contents) (w : List TerminalString) (c d : Configuration) (i j : H) (old : Machine) where
    pub reduced_further : (left : ℕ) → HasRun table states takes limit h w old.left c i → HasReduced table.terminals table.productions states takes c old i left d j → HasRun table states takes limit h w left d j
    reduced_further left run more =
        let before = run.counted in
        let counted = more.counted in
        record {
          steps = run.steps + more.steps;
          handled = Handles-append run.handled more.handled;
          counted = omega (arith, before, counted);
        }

  -- one more terminal was read
  pub reads_on : (bits : List ℕ) (m : Machine) (i : H) (bit : ℕ) (t : TerminalString) (n : Machine) (j : H) → slice_get m.table.now.terminals bit ≡ Some t → m.table.now ≡ table → n.position ≡ m.position + 1
      → AtTerminal m bit (λ states c rest. HasRead m.table.now.terminals m.table.now.productions states takes c m i rest n j) → IsReading bits m i → IsReading (bits ++ bit ∷ []) n j
  reads_on bits m i bit t n j there same position read r = record {
    list = r.list ++ t ∷ [];
    named = named_more table.terminals bits r.list bit t r.named (ap (λ (p : ParseTable). slice_get p.terminals bit) (sym same) ∙ there);
    position = let one = position in let before = r.position in let more = length-append bits (bit ∷ []) in omega (arith, one, before, more);
    runs = λ states is rest.
        let run = r.runs states is (t ∷ rest) in
        let more : HasRead table.terminals table.productions states takes run.0 m i rest n j = subst (λ (p : ParseTable). HasRead p.terminals p.productions states takes run.0 m i rest n j) same (read states run.0 t rest (subst (λ (p : ParseTable). IsTableOf p states) (sym same) is) run.2 there run.3) in
        let before = run.1.counted in
        let counted = more.counted in (
          more.to,
          subst (λ w. HasRun table states takes limit h w n.left more.to j) (sym (append_assoc r.list (t ∷ []) rest)) (record {
            steps = run.1.steps + more.steps;
            handled = Handles-append run.1.handled more.handled;
            counted = omega (arith, before, counted);
          }),
          more.at,
          more.rest,
        );
  }

  -- what a refusal says of the list
  module _ (states : ℕ → Contents) (w : List TerminalString) (c : Configuration) (m : Machine) (i j : H) (run : HasRun table states takes limit h w m.left c i) where
    pub refuses : (is_parse : List Tree → Type 0) (bit : ℕ) (refusal : Refusal) (token : Token) → token ≡ next_token c.rest → ((trees : List Tree) (t : Tree) → trees ≡ t ∷ [] → c.rest ≡ [] → is_parse trees) → IsRefusal table.terminals table.productions states takes c m i is_parse bit refusal j → IsRefused table states takes limit h w refusal.state token j
    refuses is_parse bit refusal token next parses r =
        let outcome : HasOutcome states w limit (RefusedIn refusal.state token) = subst (λ u. HasOutcome states w limit (RefusedIn refusal.state u)) (sym next) (refused_outcome table.terminals table.productions states takes w limit c m i j run.steps (handles_reaches run.handled) run.counted is_parse bit refusal parses r) in
        record {
          left = r.left;
          last = r.at;
          before = r.handler;
          run = reduced_further states w c r.at i r.handler m r.left run r.reduced;
          why = ⊎_elim (λ stands. inl stands) (λ final. inr (final.2, final.3)) r.why;
          outcome = outcome;
          wrong = λ g start faithful alone. refused_wrong g start states faithful alone w limit refusal.state token outcome;
          prompt = λ g start tokens canonical lr1 alone. refused_promptly g start states (λ n p dot t. tokens n p dot t ≡ true) canonical lr1 alone w limit refusal.state token outcome;
        }

    -- a parse
    pub parsed_all : (n : Machine) → c.rest ≡ [] → HasParsed table.terminals table.productions states takes c m i n j → IsParsed table states takes limit h w j
    parsed_all n none p =
        let all = reduced_further states w c p.at i p.handler m (suc n.left) run p.reduced in
        let outcome = parsed_outcome table.terminals table.productions states takes w limit c m i j run.steps (handles_reaches run.handled) run.counted n none p in
        record {
          left = n.left;
          last = p.at;
          before = p.handler;
          run = all;
          tree = p.tree;
          final = p.final;
          used_up = p.reduced.rest ∙ none;
          outcome = outcome;
          parse = λ g start faithful alone. record {
            parse = answered_is_tree g start states faithful w p.tree limit outcome;
            within = answered_within g start states faithful alone w p.tree limit outcome;
          };
        }

    -- the limit
    pub cuts_off : IsCutOff table.terminals table.productions states takes c m i → HasOutcome states w limit CutOff
    cuts_off k =
        let all = reduced_further states w c k.at i k.handler m 0 run k.reduced in
        let counted = all.counted in
        let steps : all.steps ≡ limit = omega (arith, counted) in
        cut_off k.at (subst (λ n. Reaches states n (begin w) k.at) steps (handles_reaches all.handled)) k.another
