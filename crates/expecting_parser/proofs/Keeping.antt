-- A refusal, and the terminals before the refused token, from the calls of a machine.
use Rattle.std.proofs.Common.{◌≡◌, inl, inr, ℕ, ◌<◌, slice_get, List, [], ◌∷◌, ◌++◌, length, Option, Some, append-nil, sym, ap, subst, ◌∙◌}
use Rattle.std.specs.Iterator.{Drains, Yields}
use Rattle.lalrpop_base.specs.Words.{Contents, Tree, next_token}
use Rattle.lalrpop_grammar.specs.declared.lookahead.token.Token.TheVariants.{Eof, Terminal as TokenOf}
use Rattle.lalrpop_grammar.specs.declared.repr.TerminalString.{TerminalString}
use Rattle.parse_tables.specs.Tables.{IsTableOf}
use Rattle.parse_tables.specs.declared.table.ParseTable.{ParseTable}
use Rattle.table_parser.specs.Events.{Event}
use Rattle.table_parser.specs.Lists.{HasRun}
use Rattle.table_parser.specs.Runs.{AtEnd, AtTerminal, IsRefusal}
use Rattle.table_parser.specs.declared.error.Refusal.{Refusal}
use Rattle.table_parser.specs.declared.machine.Machine.{Machine}
use Rattle.table_parser.proofs.Lists.{IsReading, refuses}
use Rattle.table_parser.proofs.Reducing.{listed}
use Rattle.expecting_parser.specs.Kept.{AreKept, IsRefusalAfter}
use Rattle.expecting_parser.specs.declared.kept.Kept.{Kept}

module _ {S : Type 0} (gives : S → Option ℕ → S → Type 0) (input : S) (table : ParseTable) {H : Type 0} (takes : H → Event → H → Type 0) (limit : ℕ) (h : H) (bits : List ℕ) (m : Machine) (i : H) (same : m.table.now ≡ table) (r : IsReading table takes limit h bits m i) (kept : Kept) (keeps : AreKept bits kept) where
  -- a table of states is that of the machine
  is_of : (states : ℕ → Contents) → IsTableOf table states → IsTableOf m.table.now states
  is_of states is = subst (λ (p : ParseTable). IsTableOf p states) (sym same) is

  -- what is said of the machine's table is said of the table
  by_table : (P : ParseTable → Type 0) → P m.table.now → P table
  by_table P says = subst P same says

  -- the terminal that was given last was refused
  pub last_after : (bit : ℕ) (left : S) → Yields gives input (bits ++ bit ∷ []) left → bit < length m.table.now.terminals → (j : H) (refusal : Refusal) → (refusal.position ≡ m.position) × (refusal.bit ≡ bit)
      → AtTerminal m bit (λ states c _. IsRefusal m.table.now.terminals m.table.now.productions states takes c m i (λ _. ⊥) bit refusal j) → IsRefusalAfter gives input table takes limit h j kept refusal
  last_after bit left given within j refusal place refuse =
      let t = listed m.table.now.terminals bit within in (
        inl (record {
          bits = bits;
          left = left;
          given = subst (λ n. Yields gives input (bits ++ n ∷ []) left) (sym place.1) given;
          position = place.0 ∙ r.position;
          list = r.list;
          named = r.named;
          terminal = t.0;
          is = by_table (λ (p : ParseTable). slice_get p.terminals refusal.bit ≡ Some t.0) (ap (slice_get m.table.now.terminals) place.1 ∙ t.1);
          refused = λ states is rest.
              let run = r.runs states is (t.0 ∷ rest) in
              let says = by_table (λ (p : ParseTable). IsRefusal p.terminals p.productions states takes run.0 m i (λ _. ⊥) bit refusal j) (refuse states run.0 t.0 rest (is_of states is) run.2 t.1 run.3) in
              refuses table takes limit h states (r.list ++ t.0 ∷ rest) run.0 m i j run.1 (λ _. ⊥) bit refusal (TokenOf t.0) (ap next_token (sym run.3)) (λ trees u one none. not_read t.0 rest (sym run.3 ∙ none)) says;
        }),
        keeps,
      )
    where
      not_read : (t : TerminalString) (rest : List TerminalString) → t ∷ rest ≡ [] → ⊥
      not_read t rest e = cc

  -- the end of the input was refused
  pub end_after : Drains gives input bits → (j : H) (refusal : Refusal) → (refusal.position ≡ m.position) × (refusal.bit ≡ length m.table.now.terminals)
      → AtEnd m (λ states c. IsRefusal m.table.now.terminals m.table.now.productions states takes c m i (λ trees. (t : Tree) × (trees ≡ t ∷ [])) (length m.table.now.terminals) refusal j) → IsRefusalAfter gives input table takes limit h j kept refusal
  end_after drained j refusal place refuse = (
    inr (record {
      bits = bits;
      drained = drained;
      position = place.0 ∙ r.position;
      list = r.list;
      named = r.named;
      is = by_table (λ (p : ParseTable). refusal.bit ≡ length p.terminals) place.1;
      refused = λ states is.
          let run = r.runs states is [] in
          let whole = subst (λ w. HasRun table states takes limit h w m.left run.0 i) (append-nil r.list) run.1 in
          let says = by_table (λ (p : ParseTable). IsRefusal p.terminals p.productions states takes run.0 m i (λ trees. (t : Tree) × (trees ≡ t ∷ [])) (length p.terminals) refusal j) (refuse states run.0 (is_of states is) run.2 run.3) in
          refuses table takes limit h states r.list run.0 m i j whole (λ trees. (t : Tree) × (trees ≡ t ∷ [])) (length table.terminals) refusal Eof (ap next_token (sym run.3)) (λ trees t one none. (t, one)) says;
    }),
    keeps,
  )
