-- What a parse of an iterator's terminals reports.
use Rattle.std.proofs.Common.{◌≡◌, ⊎_elim, ℕ, ◌<◌, ◌≤◌, slice_get, List, [], ◌∷◌, ◌++◌, length, Option, Some, append_assoc, append-nil, sym, ap, subst, ◌∙◌}
use Rattle.std.specs.Iterator.{Drains, Yields}
use Rattle.std.specs.Prelude.{IfErr, IfOk, Result, Ok, Err}
use Rattle.std.proofs.lemmas.Bool.{cases_lt}
use Rattle.lalrpop_base.specs.Words.{Configuration, Contents, HasOutcome, Limit as CutOff, Tree, next_token}
use Rattle.lalrpop_grammar.specs.declared.lookahead.token.Token.TheVariants.{Eof, Terminal as TokenOf}
use Rattle.lalrpop_grammar.specs.declared.repr.TerminalString.{TerminalString}
use Rattle.parse_tables.specs.Tables.{IsTableOf}
use Rattle.parse_tables.specs.declared.table.ParseTable.{ParseTable}
use Rattle.table_parser.specs.Errors.{IfLimit, IfRefused, IfUnknown, IsUnknown}
use Rattle.table_parser.specs.Events.{Event}
use Rattle.table_parser.specs.Lists.{HasMetUnknown, HasParsedAll, HasPassedLimit, HasPassedLimitAtEnd, HasRefusedEnd, HasRefusedLast, HasRun}
use Rattle.table_parser.specs.Machines.{IsAt}
use Rattle.table_parser.specs.Runs.{AtEnd, AtTerminal, HasParsed, IsCutOff, IsRefusal}
use Rattle.table_parser.specs.declared.error.Refusal.{Refusal}
use Rattle.table_parser.specs.declared.error.TableParseError.{TableParseError}
use Rattle.table_parser.specs.declared.error.TableParseError.TheVariants.{Limit, Memory, Refused, Stopped, TooLong, Unknown}
use Rattle.table_parser.specs.declared.machine.Machine.{Machine}
use Rattle.table_parser.proofs.Lists.{IsReading, cuts_off, named_more, parsed_all, refuses}
use Rattle.table_parser.proofs.Reducing.{listed}

-- if the result is not the error for a number that is no terminal, the number is one of a terminal
below_count : (bit count : ℕ) → (count ≤ bit → ⊥) → bit < count
below_count bit count known = ⊎_elim (λ l. l) (λ past. absurd (known past)) (cases_lt bit count)

pub read_within : {A : Type 0} (T : Type 0) (bit count at : ℕ) (x : A) → (count ≤ bit → IsUnknown {S = T} at bit (Ok x)) → bit < count
read_within T bit count at x unknown = below_count bit count unknown

-- what follows from an error at a terminal, for each error of which something is said
module _ {T : Type 0} (bit count at : ℕ) where
  pub if_limit_within : {P Q : Type 0} → (bit < count → P → Q) → (e : TableParseError T) → (count ≤ bit → IsUnknown {A = Unit {0}} at bit (Err e)) → IfLimit P e → IfLimit Q e
  if_limit_within f (Refused refusal) unknown h = tt
  if_limit_within f (Unknown position number) unknown h = tt
  if_limit_within f (Stopped reason) unknown h = tt
  if_limit_within f Limit unknown h = f (below_count bit count unknown) h
  if_limit_within f TooLong unknown h = tt
  if_limit_within f Memory unknown h = tt

  pub if_refused_within : {P Q R : Refusal → Type 0} → ((r : Refusal) → bit < count → P r → Q r → R r) → (e : TableParseError T) → (count ≤ bit → IsUnknown {A = Unit {0}} at bit (Err e)) → IfRefused P e → IfRefused Q e → IfRefused R e
  if_refused_within f (Refused refusal) unknown p q = f refusal (below_count bit count unknown) p q
  if_refused_within f (Unknown position number) unknown p q = tt
  if_refused_within f (Stopped reason) unknown p q = tt
  if_refused_within f Limit unknown p q = tt
  if_refused_within f TooLong unknown p q = tt
  if_refused_within f Memory unknown p q = tt

module _ {T : Type 0} where
  pub if_unknown : {P Q : ℕ → ℕ → Type 0} → ((position number : ℕ) → P position number → Q position number) → (e : TableParseError T) → IfUnknown P e → IfUnknown Q e
  if_unknown f (Refused refusal) h = tt
  if_unknown f (Unknown position number) h = f position number h
  if_unknown f (Stopped reason) h = tt
  if_unknown f Limit h = tt
  if_unknown f TooLong h = tt
  if_unknown f Memory h = tt

  pub if_refused : {P Q R : Refusal → Type 0} → ((r : Refusal) → P r → Q r → R r) → (e : TableParseError T) → IfRefused P e → IfRefused Q e → IfRefused R e
  if_refused f (Refused refusal) p q = f refusal p q
  if_refused f (Unknown position number) p q = tt
  if_refused f (Stopped reason) p q = tt
  if_refused f Limit p q = tt
  if_refused f TooLong p q = tt
  if_refused f Memory p q = tt

-- what follows from two clauses on an error
pub both_err : {A E : Type 0} {P Q R : E → Type 0} → ((e : E) → P e → Q e → R e) → (r : Result A E) → IfErr r P → IfErr r Q → IfErr r R
both_err f (Ok x) p q = tt
both_err f (Err e) p q = f e p q

-- what follows from two clauses on a value
pub both_ok : {A E : Type 0} {P Q R : A → Type 0} → ((x : A) → P x → Q x → R x) → (r : Result A E) → IfOk r P → IfOk r Q → IfOk r R
both_ok f (Ok x) p q = f x p q
both_ok f (Err e) p q = tt

module _ {S : Type 0} (gives : S → Option ℕ → S → Type 0) (input : S) (table : ParseTable) {H : Type 0} (takes : H → Event → H → Type 0) (limit : ℕ) (h : H) (bits : List ℕ) (m : Machine) (i : H) (same : m.table.now ≡ table) (r : IsReading table takes limit h bits m i) where
  -- a table of the machine's is the table
  is_of : (states : ℕ → Contents) → IsTableOf table states → IsTableOf m.table.now states
  is_of states is = subst (λ (p : ParseTable). IsTableOf p states) (sym same) is

  -- whatever is said by the lists of the machine's table is said by those of the table
  by_table : (P : ParseTable → Type 0) → P m.table.now → P table
  by_table P says = subst P same says

  module _ (bit : ℕ) (left : S) (given : Yields gives input (bits ++ bit ∷ []) left) where
    -- the number that was given last is no terminal
    pub met_unknown : (position number : ℕ) → (position ≡ m.position) × (number ≡ bit) × (length m.table.now.terminals ≤ bit) → HasMetUnknown gives input table position number
    met_unknown position number says = record {
      bits = bits;
      left = left;
      given = subst (λ n. Yields gives input (bits ++ n ∷ []) left) (sym says.1) given;
      counted = says.0 ∙ r.position;
      list = r.list;
      named = r.named;
      past = by_table (λ (p : ParseTable). length p.terminals ≤ number) (subst (λ n. length m.table.now.terminals ≤ n) (sym says.1) says.2);
    }

    module _ (within : bit < length m.table.now.terminals) where
      abbrev terminal : TerminalString
      terminal = (listed m.table.now.terminals bit within).0

      -- the terminal that was given last was refused
      pub refused_last : (j : H) (refusal : Refusal) → (refusal.position ≡ m.position) × (refusal.bit ≡ bit)
          → AtTerminal m bit (λ states c _. IsRefusal m.table.now.terminals m.table.now.productions states takes c m i (λ _. ⊥) bit refusal j) → HasRefusedLast gives input table takes limit h j refusal
      refused_last j refusal place refuse =
          let there = (listed m.table.now.terminals bit within).1 in
          record {
            bits = bits;
            left = left;
            given = subst (λ n. Yields gives input (bits ++ n ∷ []) left) (sym place.1) given;
            position = place.0 ∙ r.position;
            list = r.list;
            named = r.named;
            terminal = terminal;
            is = by_table (λ (p : ParseTable). slice_get p.terminals refusal.bit ≡ Some terminal) (ap (slice_get m.table.now.terminals) place.1 ∙ there);
            refused = λ states is rest.
                let run = r.runs states is (terminal ∷ rest) in
                let says = by_table (λ (p : ParseTable). IsRefusal p.terminals p.productions states takes run.0 m i (λ _. ⊥) bit refusal j) (refuse states run.0 terminal rest (is_of states is) run.2 there run.3) in
                refuses table takes limit h states (r.list ++ terminal ∷ rest) run.0 m i j run.1 (λ _. ⊥) bit refusal (TokenOf terminal) (ap next_token (sym run.3)) (λ trees t one none. not_read rest (sym run.3 ∙ none)) says;
          }
        where
          not_read : (rest : List TerminalString) → terminal ∷ rest ≡ [] → ⊥
          not_read rest e = cc

      -- the limit was passed at the terminal that was given last
      pub limit_last : AtTerminal m bit (λ states c _. IsCutOff m.table.now.terminals m.table.now.productions states takes c m i) → HasPassedLimit gives input table limit
      limit_last cut =
          let there = (listed m.table.now.terminals bit within).1 in
          record {
            bits = bits ++ bit ∷ [];
            left = left;
            given = given;
            list = r.list ++ terminal ∷ [];
            named = named_more table.terminals bits r.list bit terminal r.named (by_table (λ (p : ParseTable). slice_get p.terminals bit ≡ Some terminal) there);
            cut_off = λ states is rest.
                let run = r.runs states is (terminal ∷ rest) in
                let says = by_table (λ (p : ParseTable). IsCutOff p.terminals p.productions states takes run.0 m i) (cut states run.0 terminal rest (is_of states is) run.2 there run.3) in
                subst (λ w. HasOutcome states w limit CutOff) (sym (append_assoc r.list (terminal ∷ []) rest)) (cuts_off table takes limit h states (r.list ++ terminal ∷ rest) run.0 m i i run.1 says);
          }

  module _ (drained : Drains gives input bits) where
    module _ (states : ℕ → Contents) (is : IsTableOf table states) where
      -- the run on the whole list
      abbrev at_end : (c : Configuration) × HasRun table states takes limit h r.list m.left c i × IsAt m c × (c.rest ≡ [])
      at_end = let run = r.runs states is [] in (run.0, subst (λ w. HasRun table states takes limit h w m.left run.0 i) (append-nil r.list) run.1, run.2, run.3)

    -- all terminals were parsed
    pub parsed_end : (n : Machine) (j : H) → AtEnd m (λ states c. HasParsed m.table.now.terminals m.table.now.productions states takes c m i n j) → HasParsedAll gives input table takes limit h j
    parsed_end n j parse = record {
      bits = bits;
      drained = drained;
      list = r.list;
      named = r.named;
      parsed = λ states is.
          let run = at_end states is in
          let says = by_table (λ (p : ParseTable). HasParsed p.terminals p.productions states takes run.0 m i n j) (parse states run.0 (is_of states is) run.2 run.3) in
          parsed_all table takes limit h states r.list run.0 m i j run.1 n run.3 says;
    }

    -- the end of the input was refused
    pub refused_end : (j : H) (refusal : Refusal) → (refusal.position ≡ m.position) × (refusal.bit ≡ length m.table.now.terminals)
        → AtEnd m (λ states c. IsRefusal m.table.now.terminals m.table.now.productions states takes c m i (λ trees. (t : Tree) × (trees ≡ t ∷ [])) (length m.table.now.terminals) refusal j) → HasRefusedEnd gives input table takes limit h j refusal
    refused_end j refusal place refuse = record {
      bits = bits;
      drained = drained;
      position = place.0 ∙ r.position;
      list = r.list;
      named = r.named;
      is = by_table (λ (p : ParseTable). refusal.bit ≡ length p.terminals) place.1;
      refused = λ states is.
          let run = at_end states is in
          let says = by_table (λ (p : ParseTable). IsRefusal p.terminals p.productions states takes run.0 m i (λ trees. (t : Tree) × (trees ≡ t ∷ [])) (length p.terminals) refusal j) (refuse states run.0 (is_of states is) run.2 run.3) in
          refuses table takes limit h states r.list run.0 m i j run.1 (λ trees. (t : Tree) × (trees ≡ t ∷ [])) (length table.terminals) refusal Eof (ap next_token (sym run.3)) (λ trees t one none. (t, one)) says;
    }

    -- the limit was passed at the end of the input
    pub limit_end : AtEnd m (λ states c. IsCutOff m.table.now.terminals m.table.now.productions states takes c m i) → HasPassedLimitAtEnd gives input table limit
    limit_end cut = record {
      bits = bits;
      drained = drained;
      list = r.list;
      named = r.named;
      cut_off = λ states is.
          let run = at_end states is in
          let says = by_table (λ (p : ParseTable). IsCutOff p.terminals p.productions states takes run.0 m i) (cut states run.0 (is_of states is) run.2 run.3) in
          cuts_off table takes limit h states r.list run.0 m i i run.1 says;
    }
