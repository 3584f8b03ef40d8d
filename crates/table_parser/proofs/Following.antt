-- Which tokens may come after a list that a machine has read.
use Rattle.std.proofs.Common.{◌≡◌, ◌&&◌, ◌||◌, ◌==◌, ℕ, ◌+◌, ◌<◌, ◌≤◌, ⊎_elim, Bool, true, false, List, [], ◌∷◌, ◌++◌, length, slice_get, Some, append_assoc, append-nil, refl, sym, ap, subst, ◌∙◌, arith, true≢false, Bor}
use Rattle.std.proofs.lemmas.Bool.{cases_lt, ne_eqb, eq-eqb}
use Rattle.std.proofs.lemmas.List.{map-append}
use Rattle.std.proofs.lemmas.Option.{slice_get_within}
use Rattle.lalrpop_base.specs.Words.{AreFaithful, Bits, Configuration, Contents, Derives, HasOutcome, IsBeginning, IsBitOf, IsFirstWrong, IsOnNoRightSide, IsRightNext, IsSentence, Reaches, Refused as RefusedIn, Stands, Tree, at_end, at_terminal, begin, has, here, move, next_token, stuck, terminal_symbols}
use Rattle.lalrpop_grammar.specs.declared.lookahead.token.Token.{Token}
use Rattle.lalrpop_grammar.specs.declared.lookahead.token.Token.TheVariants.{Eof, Terminal as TokenOf}
use Rattle.lalrpop_grammar.specs.declared.repr.NonterminalString.{NonterminalString}
use Rattle.lalrpop_grammar.specs.declared.repr.Production.{Production}
use Rattle.lalrpop_grammar.specs.declared.repr.Symbol.TheVariants.{Nonterminal, Terminal}
use Rattle.lalrpop_grammar.specs.declared.repr.TerminalString.{TerminalString}
use Rattle.lalrpop_grammar.proofs.theory.grammars.Parses.{sentence_tree}
use Rattle.lalrpop_grammar.proofs.theory.runs.Refusals.{refused_wrong, stack_begins}
use Rattle.lalrpop_grammar.proofs.theory.runs.Runs.{Tracks, answered_is_tree, begin_tracks, run_tracks}
use Rattle.lalrpop_grammar.proofs.theory.runs.Stacks.{spelled}
use Rattle.lalrpop_grammar.proofs.theory.runs.Steps.{Reaches-append}
use Rattle.parse_tables.specs.Tables.{IsTableOf}
use Rattle.parse_tables.specs.declared.table.ParseTable.{ParseTable}
use Rattle.table_parser.specs.Errors.{IfRefused}
use Rattle.table_parser.specs.Events.{Event}
use Rattle.table_parser.specs.Expected.{AreExpected, AreExpectedAfter, HasReadList, MayComeAfter, MayFollow}
use Rattle.table_parser.specs.Lists.{AreTerminals}
use Rattle.table_parser.specs.Machines.{IsAt, IsCopyOf, IsFresh, numbers_below, starts_below}
use Rattle.table_parser.specs.Runs.{AtEnd, AtTerminal, HasParsed, HasRead, IsRefusal}
use Rattle.table_parser.specs.declared.error.Refusal.{Refusal}
use Rattle.table_parser.specs.declared.error.TableParseError.{TableParseError}
use Rattle.table_parser.specs.declared.error.TableParseError.TheVariants.{Refused}
use Rattle.table_parser.specs.declared.machine.Machine.{Machine}
use Rattle.table_parser.proofs.Lists.{handles_reaches, named_more, parsed_outcome, refused_outcome}
use Rattle.table_parser.proofs.Reducing.{listed}

-- a list that is read to its end is a beginning
beginning_read : (g : List Production) (start : NonterminalString) (states : ℕ → Contents) → AreFaithful g start states → (w : List TerminalString) (n : ℕ) (c : Configuration) → Reaches states n (begin w) c → c.rest ≡ [] → IsBeginning g start w
beginning_read g start states faithful w n c r e =
    let tracks : Tracks g states w c = run_tracks g start states faithful w r (begin_tracks g start states faithful w) in
    subst (IsBeginning g start) (sym (append-nil (spelled c.trees)) ∙ ap (λ l. spelled c.trees ++ l) (sym e) ∙ tracks.input) (stack_begins g start states faithful tracks.stack)

-- a list up to a terminal and with it is a beginning, if the whole list is
beginning_before : (g : List Production) (start : NonterminalString) (before : List TerminalString) (t : TerminalString) (after : List TerminalString) → IsBeginning g start (before ++ t ∷ after) → IsBeginning g start (before ++ t ∷ [])
beginning_before g start before t after h =
    let whole : terminal_symbols (before ++ t ∷ after) ++ h.0 ≡ terminal_symbols (before ++ t ∷ []) ++ (terminal_symbols after ++ h.0) =
    ap (λ l. l ++ h.0) (map-append Terminal before (t ∷ after))
    ∙ append_assoc (terminal_symbols before) (Terminal t ∷ terminal_symbols after) h.0
    ∙ sym (append_assoc (terminal_symbols before) (Terminal t ∷ []) (terminal_symbols after ++ h.0))
    ∙ ap (λ l. l ++ (terminal_symbols after ++ h.0)) (sym (map-append Terminal before (t ∷ []))) in
    (terminal_symbols after ++ h.0, subst (λ l. Derives g (Nonterminal start ∷ []) l) whole h.1)

-- a list with a wrong terminal is no beginning
no_beginning : (g : List Production) (start : NonterminalString) (w : List TerminalString) (token : Token) (t : TerminalString) → IsFirstWrong g start w token → token ≡ TokenOf t → IsBeginning g start w → ⊥
no_beginning g start w _ t (at_terminal before u after e b wrong) same begins = wrong (beginning_before g start before u after (subst (IsBeginning g start) e begins))
no_beginning g start w _ t (at_end b wrong) same begins = cc

-- a list whose end is wrong is no sentence
no_sentence : (g : List Production) (start : NonterminalString) (w : List TerminalString) (token : Token) → IsFirstWrong g start w token → token ≡ Eof → IsSentence g start w → ⊥
no_sentence g start w _ (at_terminal before t after e b wrong) same sentence = cc
no_sentence g start w _ (at_end b wrong) same sentence = wrong sentence

-- the next token, by its bit
terminal_next : (terminals : List TerminalString) (bit : ℕ) → bit < length terminals → (rest : List TerminalString) → IsBitOf terminals (next_token rest) bit → (t : TerminalString) × (after : List TerminalString) × (rest ≡ t ∷ after) × (slice_get terminals bit ≡ Some t)
terminal_next terminals bit within [] e = absurd (omega (arith, e, within))
terminal_next terminals bit within (t ∷ after) e = (t, after, refl, e)

end_next : (terminals : List TerminalString) (rest : List TerminalString) → IsBitOf terminals (next_token rest) (length terminals) → rest ≡ []
end_next terminals [] e = refl
end_next terminals (t ∷ after) e = let within : length terminals < length terminals = slice_get_within terminals (length terminals) t e in absurd (omega (arith, within))

nothing_next : (terminals : List TerminalString) (bit : ℕ) → length terminals < bit → (rest : List TerminalString) → IsBitOf terminals (next_token rest) bit → ⊥
nothing_next terminals bit past [] e = omega (arith, e, past)
nothing_next terminals bit past (t ∷ after) e = let within : bit < length terminals = slice_get_within terminals bit t e in omega (arith, within, past)

-- no token has a bit past that of the end
pub past_follows : (m : Machine) (w : List TerminalString) (bit : ℕ) (may : Bool) → length m.table.now.terminals < bit → MayFollow m w bit may
past_follows m w bit may past states is g start faithful alone rest has = absurd (nothing_next m.table.now.terminals bit past rest has)

-- a copy has read what the machine has read
pub copy_read : (m copy : Machine) → IsCopyOf m copy → (w : List TerminalString) → HasReadList m w → HasReadList copy w
copy_read m copy k w read states is rest =
    let r = read states (subst (λ (b : Bor ParseTable). IsTableOf b.now states) k.table is) rest in (
      r.0,
      r.1,
      r.2,
      record {
        state = k.state ∙ r.3.state;
        below = ap numbers_below k.below ∙ r.3.below;
        starts = ap starts_below k.below ∙ r.3.starts;
        position = k.position ∙ r.3.position;
      },
      r.4,
    )

-- what may follow for a copy may follow
pub copy_follows : (m copy : Machine) → IsCopyOf m copy → (w : List TerminalString) (bit : ℕ) (may : Bool) → MayFollow copy w bit may → MayFollow m w bit may
copy_follows m copy k w bit may f states is g start faithful alone rest has =
    f states (subst (λ (b : Bor ParseTable). IsTableOf b.now states) (sym k.table) is) g start faithful alone rest (subst (λ (b : Bor ParseTable). IsBitOf b.now.terminals (next_token rest) bit) (sym k.table) has)

module _ (m : Machine) (w : List TerminalString) (read : HasReadList m w) where
  module _ (bit : ℕ) (within : bit < length m.table.now.terminals) where
    -- a terminal that is a beginning with the list may follow
    yes : ((states : ℕ → Contents) → IsTableOf m.table.now states → (g : List Production) (start : NonterminalString) → AreFaithful g start states → (t : TerminalString) → slice_get m.table.now.terminals bit ≡ Some t → IsBeginning g start (w ++ t ∷ [])) → MayFollow m w bit true
    yes f states is g start faithful alone rest has =
        let next = terminal_next m.table.now.terminals bit within rest has in
        (λ _. subst (IsRightNext g start w) (sym next.2) (f states is g start faithful next.0 next.3), λ _. refl)

    -- one that is none may not
    no_terminal : ((states : ℕ → Contents) → IsTableOf m.table.now states → (g : List Production) (start : NonterminalString) → AreFaithful g start states → IsOnNoRightSide g start → (t : TerminalString) → slice_get m.table.now.terminals bit ≡ Some t → IsBeginning g start (w ++ t ∷ []) → ⊥) → MayFollow m w bit false
    no_terminal f states is g start faithful alone rest has =
        let next = terminal_next m.table.now.terminals bit within rest has in
        (λ e. absurd (true≢false (sym e)), λ right. absurd (f states is g start faithful alone next.0 next.3 (subst (IsRightNext g start w) next.2 right)))

    -- a terminal that was read
    pub read_follows : {H : Type 0} (takes : H → Event → H → Type 0) (i j : H) (new : Machine) → AtTerminal m bit (λ states c rest. HasRead m.table.now.terminals m.table.now.productions states takes c m i rest new j) → MayFollow m w bit true
    read_follows takes i j new h = yes (λ states is g start faithful t there.
        let r = read states is (t ∷ []) in
        let more = h states r.1 t [] is r.3 there r.4 in
        beginning_read g start states faithful (w ++ t ∷ []) (r.0 + more.steps) more.to (Reaches-append r.2 (handles_reaches more.handled)) more.rest)

    -- a refusal of the terminal t
    wrong_terminal : (states : ℕ → Contents) (g : List Production) (start : NonterminalString) → AreFaithful g start states → IsOnNoRightSide g start → (t : TerminalString) (limit s : ℕ) (rest : List TerminalString) → rest ≡ t ∷ [] → HasOutcome states (w ++ t ∷ []) limit (RefusedIn s (next_token rest)) → IsBeginning g start (w ++ t ∷ []) → ⊥
    wrong_terminal states g start faithful alone t limit s rest next outcome =
        no_beginning g start (w ++ t ∷ []) (next_token rest) t (refused_wrong g start states faithful alone (w ++ t ∷ []) limit s (next_token rest) outcome) (ap next_token next)

    -- a terminal that was refused
    pub refused_follows : {H : Type 0} (takes : H → Event → H → Type 0) (i j : H) (refusal : Refusal) → AtTerminal m bit (λ states c _. IsRefusal m.table.now.terminals m.table.now.productions states takes c m i (λ _. ⊥) bit refusal j) → MayFollow m w bit false
    refused_follows takes i j refusal h = no_terminal (λ states is g start faithful alone t there.
        let r = read states is (t ∷ []) in
        let says = h states r.1 t [] is r.3 there r.4 in
        wrong_terminal states g start faithful alone t (r.0 + m.left) refusal.state r.1.rest r.4
        (refused_outcome m.table.now.terminals m.table.now.productions states takes (w ++ t ∷ []) (r.0 + m.left) r.1 m i j r.0 r.2 refl (λ _. ⊥) bit refusal (λ trees tree one none. not_read t r.1.rest r.4 none) says))
      where
        not_read : (t : TerminalString) (rest : List TerminalString) → rest ≡ t ∷ [] → rest ≡ [] → ⊥
        not_read t rest e f = cc

    -- a terminal on which the state has no action
    pub stands_follows : ((states : ℕ → Contents) (c : Configuration) (t : TerminalString) → IsTableOf m.table.now states → IsAt m c → slice_get m.table.now.terminals bit ≡ Some t → c.rest ≡ t ∷ [] → move states c ≡ Stands) → MayFollow m w bit false
    stands_follows h = no_terminal (λ states is g start faithful alone t there.
        let r = read states is (t ∷ []) in
        wrong_terminal states g start faithful alone t r.0 r.1.state r.1.rest r.4 (stuck r.0 r.1 (omega arith) r.2 (h states r.1 t is r.3 there r.4)))

  -- the end of the input that was parsed
  pub parsed_follows : {H : Type 0} (takes : H → Event → H → Type 0) (i j : H) (new : Machine) → AtEnd m (λ states c. HasParsed m.table.now.terminals m.table.now.productions states takes c m i new j) → MayFollow m w (length m.table.now.terminals) true
  parsed_follows takes i j new h states is g start faithful alone rest has =
      let r = read states is [] in
      let whole : w ++ [] ≡ w = append-nil w in
      let reached = subst (λ v. Reaches states r.0 (begin v) r.1) whole r.2 in
      let p = h states r.1 is r.3 r.4 in
      let outcome = parsed_outcome m.table.now.terminals m.table.now.productions states takes w (r.0 + m.left) r.1 m i j r.0 reached refl new r.4 p in
      let sentence : IsSentence g start w = (sentence_tree g start w).1 (p.tree, answered_is_tree g start states faithful w p.tree (r.0 + m.left) outcome) in
      (λ _. subst (IsRightNext g start w) (sym (end_next m.table.now.terminals rest has)) sentence, λ _. refl)

  -- the end of the input that was refused
  pub end_follows : {H : Type 0} (takes : H → Event → H → Type 0) (i j : H) (refusal : Refusal) → AtEnd m (λ states c. IsRefusal m.table.now.terminals m.table.now.productions states takes c m i (λ trees. (t : Tree) × (trees ≡ t ∷ [])) (length m.table.now.terminals) refusal j) → MayFollow m w (length m.table.now.terminals) false
  end_follows takes i j refusal h states is g start faithful alone rest has =
      let r = read states is [] in
      let whole : w ++ [] ≡ w = append-nil w in
      let reached = subst (λ v. Reaches states r.0 (begin v) r.1) whole r.2 in
      let says = h states r.1 is r.3 r.4 in
      let outcome = refused_outcome m.table.now.terminals m.table.now.productions states takes w (r.0 + m.left) r.1 m i j r.0 reached refl (λ trees. (t : Tree) × (trees ≡ t ∷ [])) (length m.table.now.terminals) refusal (λ trees t one none. (t, one)) says in (
        λ e. absurd (true≢false (sym e)),
        λ right. absurd (no_sentence g start w (next_token r.1.rest) (refused_wrong g start states faithful alone w (r.0 + m.left) refusal.state (next_token r.1.rest) outcome) (ap next_token r.4) (subst (IsRightNext g start w) (end_next m.table.now.terminals rest has) right)),
      )

-- a machine that has read nothing
pub fresh_read : (m : Machine) (limit : ℕ) → IsFresh limit m → HasReadList m []
fresh_read m limit f states is rest = (
  0,
  begin rest,
  here,
  record { state = f.state; below = ap numbers_below f.below; starts = ap starts_below f.below; position = f.position },
  refl,
)

-- a machine that has read one more terminal
pub read_more : {H : Type 0} (takes : H → Event → H → Type 0) (m : Machine) (i j : H) (new : Machine) (w : List TerminalString) (bit : ℕ) (t : TerminalString) → slice_get m.table.now.terminals bit ≡ Some t → new.table ≡ m.table → HasReadList m w
    → AtTerminal m bit (λ states c rest. HasRead m.table.now.terminals m.table.now.productions states takes c m i rest new j) → HasReadList new (w ++ t ∷ [])
read_more takes m i j new w bit t there same read h states is rest =
    let own = subst (λ (b : Bor ParseTable). IsTableOf b.now states) same is in
    let r = read states own (t ∷ rest) in
    let more = h states r.1 t rest own r.3 there r.4 in (
      r.0 + more.steps,
      more.to,
      subst (λ v. Reaches states (r.0 + more.steps) (begin v) more.to) (sym (append_assoc w (t ∷ []) rest)) (Reaches-append r.2 (handles_reaches more.handled)),
      more.at,
      more.rest,
    )

-- a machine that has read terminals with these bits
pub record HasReadBits (table : ParseTable) (bits : List ℕ) (m : Machine) : Type 0 where
  pub same : m.table.now ≡ table
  pub list : List TerminalString
  pub named : AreTerminals table.terminals bits list
  pub read : HasReadList m list

-- one more bit
pub more_bits : {H : Type 0} (takes : H → Event → H → Type 0) (table : ParseTable) (bits : List ℕ) (m : Machine) (i j : H) (new : Machine) (bit : ℕ) → bit < length m.table.now.terminals → new.table ≡ m.table → HasReadBits table bits m
    → AtTerminal m bit (λ states c rest. HasRead m.table.now.terminals m.table.now.productions states takes c m i rest new j) → HasReadBits table (bits ++ bit ∷ []) new
more_bits takes table bits m i j new bit within stays r h =
    let t = listed m.table.now.terminals bit within in
    record {
      same = ap (λ (b : Bor ParseTable). b.now) stays ∙ r.same;
      list = r.list ++ t.0 ∷ [];
      named = named_more table.terminals bits r.list bit t.0 r.named (ap (λ (p : ParseTable). slice_get p.terminals bit) (sym r.same) ∙ t.1);
      read = read_more takes m i j new r.list bit t.0 t.1 stays r.read h;
    }

-- the tokens that are expected after these bits
pub expected_from : (table : ParseTable) (bits : List ℕ) (m : Machine) (tokens : Bits) → HasReadBits table bits m → ((w : List TerminalString) → HasReadList m w → AreExpected m w tokens) → ((bit : ℕ) → has tokens bit ≡ true → bit ≤ length m.table.now.terminals) → AreExpectedAfter table bits tokens
expected_from table bits m tokens r exact within = record {
  list = r.list;
  named = r.named;
  exact = subst (λ (p : ParseTable). (bit : ℕ) → MayComeAfter p r.list bit (has tokens bit)) r.same (exact r.list r.read);
  within = subst (λ (p : ParseTable). (bit : ℕ) → has tokens bit ≡ true → bit ≤ length p.terminals) r.same within;
}

and_none : (b : Bool) → (b && false) ≡ false
and_none true = refl
and_none false = refl

and_alone : (b : Bool) → ((b && true) || false) ≡ b
and_alone true = refl
and_alone false = refl

-- a set to which a bit was added under a condition
module _ (bit : ℕ) (may : Bool) (old new : Bits) (added : (k : ℕ) → has new k ≡ ((may && (k == bit)) || has old k)) where
  other : (k : ℕ) → (k ≡ bit → ⊥) → has new k ≡ has old k
  other k differ = added k ∙ ap (λ b. (may && b) || has old k) (ne_eqb k bit differ) ∙ ap (λ b. b || has old k) (and_none may)

  pub kept_below : (k : ℕ) → k < bit → has new k ≡ has old k
  kept_below k l = other k (λ e. omega (arith, e, l))

  module _ (later : (k : ℕ) → bit ≤ k → has old k ≡ false) where
    pub added_at : has new bit ≡ may
    added_at = added bit ∙ ap (λ b. (may && (bit == bit)) || b) (later bit (omega arith)) ∙ ap (λ b. (may && b) || false) (eq-eqb bit bit refl) ∙ and_alone may

    pub none_later : (k : ℕ) → bit + 1 ≤ k → has new k ≡ false
    none_later k l = other k (λ e. omega (arith, e, l)) ∙ later k (omega (arith, l))

    module _ (m : Machine) (w : List TerminalString) (here : MayFollow m w bit may) (before : (k : ℕ) → k < bit → MayFollow m w k (has old k)) where
      -- up to that bit, and with it, the set has what may follow
      pub follow_up_to : (k : ℕ) → k < bit + 1 → MayFollow m w k (has new k)
      follow_up_to k l = ⊎_elim
          (λ less. subst (MayFollow m w k) (sym (kept_below k less)) (before k less))
          (λ more.
          let same : bit ≡ k = omega (arith, l, more) in
          subst (λ n. MayFollow m w n (has new n)) same (subst (MayFollow m w bit) (sym added_at) here))
          (cases_lt k bit)

      -- if the bit is that of the end, the set has exactly what may follow
      pub follow_all : bit ≡ length m.table.now.terminals → (k : ℕ) → MayFollow m w k (has new k)
      follow_all end k = ⊎_elim
          (λ up_to. follow_up_to k up_to)
          (λ past. past_follows m w k (has new k) (omega (arith, end, past)))
          (cases_lt k (bit + 1))

    -- and it has no bit past it
    pub all_up_to : (k : ℕ) → has new k ≡ true → k ≤ bit
    all_up_to k e = ⊎_elim (λ l. omega (arith, l)) (λ past. absurd (true≢false (sym e ∙ none_later k past))) (cases_lt k (bit + 1))

-- what is said of an error that is a refusal
pub refused_in : {S : Type 0} (P : Refusal → Type 0) {e : TableParseError S} {refusal : Refusal} → e ≡ Refused refusal → IfRefused P e → P refusal
refused_in P same h = subst (IfRefused P) same h
