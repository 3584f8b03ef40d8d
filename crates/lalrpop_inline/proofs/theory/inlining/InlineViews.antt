-- Grammars with a nonterminal inlined. The entries keep their names and are well-formed, and every
-- nonterminal keeps its terminal lists.
use Rattle.std.proofs.Common.{◌≡◌, ◌↔◌, ℕ, ◌≤◌, ◌⊎◌, inl, inr, true, false, List, [], ◌∷◌, map, length, Option, None, Some, refl, sym, ◌∙◌, ap, subst, arith}
use Rattle.std.specs.Prelude.{Contains}
use Rattle.std.specs.List.Sorted.{IsStrictlySortedBy}
use Rattle.std.specs.BTreeMap.{is_at}
use Rattle.std.specs.Map.{keys_of, lookup}
use Rattle.std.specs.Cmp.{eq_by_cmp_equiv}
use Rattle.std.specs.Ordering.{eq_by_cmp}
use Rattle.std.proofs.lemmas.List.Elements.{Contains-append_cases}
use Rattle.std.proofs.lemmas.Map.Entries.{place_from_lookup, lookup_from_place}
use Rattle.std.proofs.lemmas.Map.Keys.{IsDistinct-from_sorted}
use Rattle.std.proofs.lemmas.Map.Text.{is_eq-slice_cmp}
use Rattle.lalrpop_base.specs.Words.{name_exact, AllDiffer, IsSentence, name_cmp, HasKnownTerminals, IsWellFormedProduction, IsWellFormedEntry}
use Rattle.lalrpop_grammar.specs.contracts.repr.NonterminalStringOrd.TheImpl.Laws as name_order
use Rattle.lalrpop_inline.proofs.Types.{NonterminalString, Production, Symbol, TerminalString}
use Rattle.lalrpop_grammar.specs.declared.repr.Symbol.TheVariants.{Nonterminal, Terminal}
use Rattle.lalrpop_grammar.specs.declared.repr.inlined.InlinedSymbol.{InlinedSymbol}
use Rattle.lalrpop_grammar.specs.declared.repr.inlined.InlinedSymbol.TheVariants.{Original}
use Rattle.lalrpop_grammar.specs.declared.repr.grammar.ActionFnDefn.{ActionFnDefn}
use Rattle.lalrpop_collections.proofs.theory.lists.Lists.{contains-cons, contains-nil, contains_head, contains_tail, contains_place, place_contains}
use Rattle.lalrpop_inline.specs.Words.{is_named, mentions, choices, part_symbols, laid_out, Made, replaced_all, Entry, View, productions_of_entry, alternatives_in}
use Rattle.lalrpop_inline.specs.Words.{productions_of_view, entry_with, replaced_entries, inlined_of}
use Rattle.lalrpop_inline.proofs.theory.inlining.InlineMembers.{unmentioned}
use Rattle.lalrpop_inline.proofs.theory.inlining.InlineForests.{first_part, which_part, IsReplaced, same_terminal_lists}
use Rattle.lalrpop_inline.proofs.theory.inlining.InlineSteps.{more_longer, replaced_all_more, replaced_entries_more}
use Rattle.lalrpop_inline.proofs.theory.inlining.InlineArising.{Arises, kept, made, arises_wider, replaced_all_sound, replaced_all_complete, own_choice, own_laid_out}
use Rattle.lalrpop_inline.proofs.theory.inlining.InlineApart.{replaced_all_apart}
use Rattle.lalrpop_collections.proofs.theory.lists.Apart.{apart_from, apart_to}
use Rattle.lalrpop_collections.proofs.theory.lists.Members.{of_flat}
use Rattle.lalrpop_collections.proofs.theory.lists.Bounded.{in_flat_map}

-- the names rise, and the productions under each are well-formed
pub record IsProper (terminals : List TerminalString) (v : View) : Type 0 where
  pub ordered : IsStrictlySortedBy name_cmp (keys_of v.entries)
  pub each : (e : NonterminalString × Entry) → Contains v.entries e → IsWellFormedEntry terminals (length v.defns) e.0 e.1.productions

-- a production of a view is in an entry
pub listed_entry : (v : View) (p : Production) → Contains (productions_of_view v) p → (e : NonterminalString × Entry) × Contains v.entries e × Contains e.1.productions p
listed_entry v p c = of_flat (λ (e : NonterminalString × Entry). e.1.productions) v.entries p c

-- a production of an entry is one of the view
pub entry_listed : (v : View) (e : NonterminalString × Entry) (p : Production) → Contains v.entries e → Contains e.1.productions p → Contains (productions_of_view v) p
entry_listed v e p c d = in_flat_map (λ (e : NonterminalString × Entry). e.1.productions) v.entries e p c d

module _ (terminals : List TerminalString) (v : View) (proper : IsProper terminals v) where
  -- each production is well-formed under its name
  pub proper_production : (e : NonterminalString × Entry) (p : Production) → Contains v.entries e → Contains e.1.productions p → IsWellFormedProduction terminals (length v.defns) e.0 p
  proper_production e p c d = let at = contains_place e.1.productions p d in (proper.each e c).each at.0 p at.1

  found_own : (b : NonterminalString) (o : Option Entry) (r : Production) → lookup (is_at (name_cmp b)) v.entries ≡ o → Contains (productions_of_entry o) r → Contains (productions_of_view v) r × (r.nonterminal ≡ b)
  found_own b None r e c = absurd (contains-nil c)
  found_own b (Some entry) r e c =
      let (i, k, at, tied) = place_from_lookup (is_at (name_cmp b)) v.entries entry e in
      let there : Contains v.entries (k, entry) = place_contains v.entries i (k, entry) at in
      let same : b ≡ k = name_exact b k (sym (is_eq-slice_cmp b.text k.text) ∙ tied) in
      (entry_listed v (k, entry) r there c, (proper_production (k, entry) r there c).named ∙ sym same)

  -- an alternative of a name is one of its productions
  pub alternatives_own : (b : NonterminalString) (r : Production) → Contains (alternatives_in v b) r → Contains (productions_of_view v) r × (r.nonterminal ≡ b)
  alternatives_own b r c = found_own b (lookup (is_at (name_cmp b)) v.entries) r refl c

  -- a production of a name is one of its alternatives
  pub alternatives_all : (b : NonterminalString) (r : Production) → Contains (productions_of_view v) r → r.nonterminal ≡ b → Contains (alternatives_in v b) r
  alternatives_all b r c n =
      let (e, there, stands) = listed_entry v r c in
      let at = contains_place v.entries e there in
      let same : e.0 ≡ b = sym (proper_production e r there stands).named ∙ n in
      let found : lookup (eq_by_cmp name_cmp e.0) v.entries ≡ Some e.1 = lookup_from_place (eq_by_cmp_equiv name_order.total-law) v.entries at.0 e.0 e.1 (IsDistinct-from_sorted name_cmp (keys_of v.entries) proper.ordered) at.1 in
      subst (λ (a : NonterminalString). Contains (alternatives_in v a) r) same (subst (λ (o : Option Entry). Contains (productions_of_entry o) r) (sym found) stands)

module _ (b : NonterminalString) (alternatives : List Production) where
  -- the entry from which one with replaced productions comes
  pub record EntryFrom (es : List (NonterminalString × Entry)) (defns : List ActionFnDefn) (new : NonterminalString × Entry) : Type 0 where
    pub entry : NonterminalString × Entry
    pub before : List ActionFnDefn
    pub there : Contains es entry
    pub name : new.0 ≡ entry.0
    pub productions : new.1.productions ≡ (replaced_all b alternatives entry.1.productions before).productions
    pub attributes : new.1.attributes ≡ entry.1.attributes
    pub low : length defns ≤ length before
    pub high : length (replaced_all b alternatives entry.1.productions before).defns ≤ length (replaced_entries b alternatives es defns).defns

  pub entry_from : (es : List (NonterminalString × Entry)) (defns : List ActionFnDefn) (new : NonterminalString × Entry) → Contains (replaced_entries b alternatives es defns).entries new → EntryFrom es defns new
  entry_from [] defns new c = absurd (contains-nil c)
  entry_from (e ∷ es) defns new c =
      let r : Made = replaced_all b alternatives e.1.productions defns in
      let rest : View = replaced_entries b alternatives es r.defns in
      elim (contains-cons (entry_with e r.productions) rest.entries new c) [
        | inl s ↦ record {
          entry = e;
          before = defns;
          there = contains_head e es;
          name = ap (λ (x : NonterminalString × Entry). x.0) (sym s);
          productions = ap (λ (x : NonterminalString × Entry). x.1.productions) (sym s);
          attributes = ap (λ (x : NonterminalString × Entry). x.1.attributes) (sym s);
          low = omega arith;
          high = more_longer r.defns rest.defns (replaced_entries_more b alternatives es r.defns);
        }
        | inr k ↦
            let f = entry_from es r.defns new k in
            record {
              entry = f.entry;
              before = f.before;
              there = contains_tail e es f.entry f.there;
              name = f.name;
              productions = f.productions;
              attributes = f.attributes;
              low = omega (arith, f.low, more_longer defns r.defns (replaced_all_more b alternatives e.1.productions defns));
              high = f.high;
            }
      ]

  -- the entry that an entry becomes
  pub record EntryTo (es : List (NonterminalString × Entry)) (defns : List ActionFnDefn) (entry : NonterminalString × Entry) : Type 0 where
    pub new : NonterminalString × Entry
    pub before : List ActionFnDefn
    pub there : Contains (replaced_entries b alternatives es defns).entries new
    pub productions : new.1.productions ≡ (replaced_all b alternatives entry.1.productions before).productions

  pub entry_to : (es : List (NonterminalString × Entry)) (defns : List ActionFnDefn) (entry : NonterminalString × Entry) → Contains es entry → EntryTo es defns entry
  entry_to [] defns entry c = absurd (contains-nil c)
  entry_to (e ∷ es) defns entry c =
      let r : Made = replaced_all b alternatives e.1.productions defns in
      let rest : View = replaced_entries b alternatives es r.defns in
      elim (contains-cons e es entry c) [
        | inl s ↦ record { new = entry_with e r.productions; before = defns; there = contains_head (entry_with e r.productions) rest.entries; productions = ap (λ (x : NonterminalString × Entry). (replaced_all b alternatives x.1.productions defns).productions) s }
        | inr k ↦ let f = entry_to es r.defns entry k in record { new = f.new; before = f.before; there = contains_tail (entry_with e r.productions) rest.entries f.new f.there; productions = f.productions }
      ]

  -- the names stay
  pub same_keys : (es : List (NonterminalString × Entry)) (defns : List ActionFnDefn) → keys_of (replaced_entries b alternatives es defns).entries ≡ keys_of es
  same_keys [] defns = refl
  same_keys (e ∷ es) defns = ap (λ (ks : List NonterminalString). e.0 ∷ ks) (same_keys es (replaced_all b alternatives e.1.productions defns).defns)

  -- a symbol of a choice comes from the right side or from an alternative
  pub symbol_from : (l : List Symbol) (c : List InlinedSymbol) (y : Symbol) → Contains (choices b alternatives l) c → Contains (laid_out c) y → (Contains l y × (is_named b y ≡ false)) ⊎ ((r : Production) × Contains alternatives r × Contains r.symbols y)
  symbol_from [] c y k d = elim (contains-cons [] [] c k) [ inl e ↦ absurd (contains-nil (subst (λ (z : List InlinedSymbol). Contains (laid_out z) y) (sym e) d)) | inr n ↦ absurd (contains-nil n) ]
  symbol_from (x ∷ l) c y k d =
      let f = first_part b alternatives x l c k in
      let parted : Contains (laid_out (f.part ∷ f.rest)) y = subst (λ (z : List InlinedSymbol). Contains (laid_out z) y) (sym f.joined) d in
      elim (Contains-append_cases (part_symbols f.part) (laid_out f.rest) y parted) [
        | inl h ↦ elim (which_part b alternatives (is_named b x) x f.part f.among) [
          | inl r ↦ inr ((r.1).0, (r.1).1, subst (λ (p : InlinedSymbol). Contains (part_symbols p) y) (sym (r.1).2) h)
          | inr o ↦ elim (contains-cons x [] y (subst (λ (p : InlinedSymbol). Contains (part_symbols p) y) (sym o.1) h)) [
            | inl e ↦ inl (subst (Contains (x ∷ l)) e (contains_head x l), ap (is_named b) (sym e) ∙ o.0)
            | inr n ↦ absurd (contains-nil n)
          ]
        ]
        | inr h ↦ elim (symbol_from l f.rest y f.others h) [ inl s ↦ inl (contains_tail x l y s.0, s.1) | inr r ↦ inr r ]
      ]

-- one nonterminal is inlined that does not mention itself
module _ (terminals : List TerminalString) (v : View) (proper : IsProper terminals v) (b : NonterminalString) (alone : (r : Production) → Contains (alternatives_in v b) r → mentions b r.symbols ≡ false) where
  -- a production of the new grammar, and the one from which it comes
  record Comes (e : NonterminalString × Entry) (p : Production) : Type 0 where
    pub from : EntryFrom b (alternatives_in v b) v.entries v.defns e
    pub arises : Arises b (alternatives_in v b) from.entry.1.productions (length v.defns) (length (inlined_of b v).defns) p

  comes : (e : NonterminalString × Entry) (p : Production) → Contains (inlined_of b v).entries e → Contains e.1.productions p → Comes e p
  comes e p c d =
      let f = entry_from b (alternatives_in v b) v.entries v.defns e c in
      let a = replaced_all_sound b (alternatives_in v b) f.entry.1.productions f.before p (subst (λ (ps : List Production). Contains ps p) f.productions d) in
      record { from = f; arises = arises_wider b (alternatives_in v b) f.entry.1.productions f.entry.1.productions (length f.before) (length (replaced_all b (alternatives_in v b) f.entry.1.productions f.before).defns) (length v.defns) (length (inlined_of b v).defns) p (λ x k. k) f.low f.high a }

  -- the new grammar has choices in the place of the productions that mentioned the nonterminal
  pub is_replaced : IsReplaced b (alternatives_in v b) (productions_of_view v) (productions_of_view (inlined_of b v))
  is_replaced = record { own = alternatives_own terminals v proper b; only = only; sound = sound; complete = complete }
    where
      only_arises : (e : NonterminalString × Entry) (r : Production) (low high : ℕ) → Contains v.entries e → r.nonterminal ≡ b → Arises b (alternatives_in v b) e.1.productions low high r → Contains (alternatives_in v b) r
      only_arises e r low high there n (kept c h) = alternatives_all terminals v proper b r (entry_listed v e r there c) n
      only_arises e r low high there n (made p c h k) =
          let own : Contains (alternatives_in v b) p = alternatives_all terminals v proper b p (entry_listed v e p there c) (sym k.name ∙ n) in
          let both : true ≡ false = sym h ∙ alone p own in
          cc

      only : (r : Production) → Contains (productions_of_view (inlined_of b v)) r → r.nonterminal ≡ b → Contains (alternatives_in v b) r
      only r c n =
          let (e, there, stands) = listed_entry (inlined_of b v) r c in
          let m = comes e r there stands in
          only_arises m.from.entry r (length v.defns) (length (inlined_of b v).defns) m.from.there n m.arises

      sound_arises : (e : NonterminalString × Entry) (p : Production) (low high : ℕ) → Contains v.entries e → Arises b (alternatives_in v b) e.1.productions low high p → (q : Production) × (c : List InlinedSymbol) × Contains (productions_of_view v) q × Contains (choices b (alternatives_in v b) q.symbols) c × (p.nonterminal ≡ q.nonterminal) × (p.symbols ≡ laid_out c)
      sound_arises e p low high there (kept c h) = (p, map Original p.symbols, entry_listed v e p there c, own_choice b (alternatives_in v b) p.symbols h, refl, sym (own_laid_out b (alternatives_in v b) p.symbols))
      sound_arises e p low high there (made q c h k) = (q, k.choice, entry_listed v e q there c, k.among, k.name, k.symbols)

      sound : (p : Production) → Contains (productions_of_view (inlined_of b v)) p → (q : Production) × (c : List InlinedSymbol) × Contains (productions_of_view v) q × Contains (choices b (alternatives_in v b) q.symbols) c × (p.nonterminal ≡ q.nonterminal) × (p.symbols ≡ laid_out c)
      sound p c =
          let (e, there, stands) = listed_entry (inlined_of b v) p c in
          let m = comes e p there stands in
          sound_arises m.from.entry p (length v.defns) (length (inlined_of b v).defns) m.from.there m.arises

      complete : (q : Production) (c : List InlinedSymbol) → Contains (productions_of_view v) q → Contains (choices b (alternatives_in v b) q.symbols) c → (p : Production) × Contains (productions_of_view (inlined_of b v)) p × (p.nonterminal ≡ q.nonterminal) × (p.symbols ≡ laid_out c)
      complete q c k among =
          let (e, there, stands) = listed_entry v q k in
          let t = entry_to b (alternatives_in v b) v.entries v.defns e there in
          let m = replaced_all_complete b (alternatives_in v b) e.1.productions t.before q c stands among in
          (m.made, entry_listed (inlined_of b v) t.new m.made t.there (subst (λ (ps : List Production). Contains ps m.made) (sym t.productions) m.there), m.name, m.symbols)

  -- every nonterminal keeps its terminal lists
  pub step_keeps_lists : (a : NonterminalString) (w : List TerminalString) → IsSentence (productions_of_view v) a w ↔ IsSentence (productions_of_view (inlined_of b v)) a w
  step_keeps_lists = same_terminal_lists b (alternatives_in v b) (productions_of_view v) (productions_of_view (inlined_of b v)) is_replaced

  known_symbol : (l : List Symbol) → HasKnownTerminals terminals l → (t : TerminalString) → Contains l (Terminal t) → Contains terminals t
  known_symbol l known t c = let at = contains_place l (Terminal t) c in known at.0 t at.1

  -- a production of the new grammar is well-formed
  step_production : (e : NonterminalString × Entry) (p : Production) (name : NonterminalString) → Contains v.entries e → name ≡ e.0 → length v.defns ≤ length (inlined_of b v).defns
      → Arises b (alternatives_in v b) e.1.productions (length v.defns) (length (inlined_of b v).defns) p → IsWellFormedProduction terminals (length (inlined_of b v).defns) name p
  step_production e p name there n more (kept c h) =
      let w = proper_production terminals v proper e p there c in
      record { named = w.named ∙ sym n; known = w.known; numbered = omega (arith, w.numbered) }
  step_production e p name there n more (made q c h k) =
      let w = proper_production terminals v proper e q there c in
      record {
        named = k.name ∙ w.named ∙ sym n;
        known = λ i t at. elim (symbol_from b (alternatives_in v b) q.symbols k.choice (Terminal t) k.among (subst (λ (s : List Symbol). Contains s (Terminal t)) k.symbols (place_contains p.symbols i (Terminal t) at))) [
          | inl s ↦ known_symbol q.symbols w.known t s.0
          | inr r ↦
              let (own, named) = alternatives_own terminals v proper b r.0 r.1 in
              let (f, f_there, f_stands) = listed_entry v r.0 own in
              known_symbol (r.0).symbols (proper_production terminals v proper f r.0 f_there f_stands).known t r.2
        ];
        numbered = k.below;
      }

  -- the new grammar is proper
  pub step_proper : IsProper terminals (inlined_of b v)
  step_proper = record {
    ordered = subst (IsStrictlySortedBy name_cmp) (sym (same_keys b (alternatives_in v b) v.entries v.defns)) proper.ordered;
    each = λ e c.
        let f = entry_from b (alternatives_in v b) v.entries v.defns e c in
        let more : length v.defns ≤ length (inlined_of b v).defns = more_longer v.defns (inlined_of b v).defns (replaced_entries_more b (alternatives_in v b) v.entries v.defns) in
        record {
          each = λ k p at.
              let m = comes e p c (place_contains e.1.productions k p at) in
              step_production m.from.entry p e.0 m.from.there m.from.name more m.arises;
          differ = subst (λ (ps : List Production). AllDiffer ps) (sym f.productions)
              (apart_to (replaced_all b (alternatives_in v b) f.entry.1.productions f.before).productions
              (replaced_all_apart b (alternatives_in v b) (length v.defns) f.entry.1.productions f.before f.low (λ x k. (proper_production terminals v proper f.entry x f.there k).numbered) (apart_from f.entry.1.productions (proper.each f.entry f.there).differ)));
        };
  }

  -- a nonterminal that the new grammar mentions is another one, and the old grammar mentioned it
  pub step_mentions : (p : Production) (c : NonterminalString) → Contains (productions_of_view (inlined_of b v)) p → Contains p.symbols (Nonterminal c) →
      (q : Production) × Contains (productions_of_view v) q × ((q.nonterminal ≡ p.nonterminal) ⊎ (q.nonterminal ≡ b)) × Contains q.symbols (Nonterminal c) × (is_named b (Nonterminal c) ≡ false)
  step_mentions p c k m =
      let r = is_replaced.sound p k in
      elim (symbol_from b (alternatives_in v b) (r.0).symbols r.1 (Nonterminal c) r.3 (subst (λ (s : List Symbol). Contains s (Nonterminal c)) r.5 m)) [
        | inl s ↦ (r.0, r.2, inl (sym r.4), s.0, s.1)
        | inr o ↦ let (own, named) = alternatives_own terminals v proper b o.0 o.1 in (o.0, own, inr named, o.2, unmentioned b (o.0).symbols (Nonterminal c) o.2 (alone o.0 o.1))
      ]
