-- The finitely many pairs of a rest of a list and a token of a grammar.
use Rattle.std.proofs.Common.{◌≡◌, ℕ, zero, suc, ◌⊎◌, inl, inr, List, [], ◌∷◌, ◌++◌, drop, length, map, refl, sym, subst, ap, ◌∙◌}
use Rattle.std.specs.Prelude.{Contains}
use Rattle.std.proofs.lemmas.List.Elements.{Contains-append_cases, Contains-append_left, Contains-append_right}
use Rattle.lalrpop_grammar.specs.declared.lookahead.token.Token.{Token}
use Rattle.lalrpop_grammar.specs.declared.lookahead.token.Token.TheVariants.{Eof, Terminal as TokenOf}
use Rattle.lalrpop_grammar.specs.declared.repr.NonterminalString.{NonterminalString}
use Rattle.lalrpop_grammar.specs.declared.repr.Production.{Production}
use Rattle.lalrpop_grammar.specs.declared.repr.Symbol.{Symbol}
use Rattle.lalrpop_grammar.specs.declared.repr.Symbol.TheVariants.{Nonterminal, Terminal}
use Rattle.lalrpop_grammar.specs.declared.repr.TerminalString.{TerminalString}
use Rattle.lalrpop_grammar.specs.Words.{Derives, IsFirst, ValidToken, as_it_is, at_start, begins_behind, kept, passed_on, replace}
use Rattle.lalrpop_collections.proofs.theory.lists.Lists.{contains-cons, contains-nil, contains_head, contains_map, contains_tail, drop_past}
use Rattle.lalrpop_grammar.proofs.theory.closures.Valid.{of_grammar}
use Rattle.run_lengths.proofs.Following.{Follows, by_first, by_valid}

-- the symbols on the right sides
abbrev pub symbols_in : List Production → List Symbol
symbols_in [] = []
symbols_in (p ∷ g) = p.symbols ++ symbols_in g

-- the token of a terminal, and Eof for a nonterminal
abbrev pub token_for : Symbol → Token
token_for (Nonterminal a) = Eof
token_for (Terminal t) = TokenOf t

-- Eof, and the terminals on the right sides
abbrev pub tokens_in : List Production → List Token
tokens_in g = Eof ∷ map token_for (symbols_in g)

-- a symbol of a production's right side is among them
contains_symbol : (g : List Production) (p : Production) (x : Symbol) → Contains g p → Contains p.symbols x → Contains (symbols_in g) x
contains_symbol [] p x h k = absurd (contains-nil h)
contains_symbol (q ∷ g) p x h k = elim (contains-cons q g p h) [
  | inl e ↦ Contains-append_left q.symbols (symbols_in g) x (subst (λ (r : Production). Contains r.symbols x) (sym e) k)
  | inr i ↦ Contains-append_right q.symbols (symbols_in g) x (contains_symbol g p x i k)
]

-- a symbol after a dot is one of the symbols
contains_dropped : (n : ℕ) (l : List Symbol) (x : Symbol) → Contains (drop n l) x → Contains l x
contains_dropped zero l x h = h
contains_dropped (suc n) [] x h = h
contains_dropped (suc n) (y ∷ l) x h = contains_tail y l x (contains_dropped n l x h)

-- each symbol that is derived is one of those at first, or on a right side
derived_symbol : (g : List Production) {l m : List Symbol} → Derives g l m → (x : Symbol) → Contains m x → Contains l x ⊎ Contains (symbols_in g) x
derived_symbol g as_it_is x h = inl h
derived_symbol g (replace before after p k d) x h = elim (derived_symbol g d x h) [
  | inr i ↦ inr i
  | inl i ↦ elim (Contains-append_cases before (p.symbols ++ after) x i) [
    | inl j ↦ inl (Contains-append_left before (Nonterminal p.nonterminal ∷ after) x j)
    | inr j ↦ elim (Contains-append_cases p.symbols after x j) [
      | inl f ↦ inr (contains_symbol g p x k f)
      | inr f ↦ inl (Contains-append_right before (Nonterminal p.nonterminal ∷ after) x (contains_tail (Nonterminal p.nonterminal) after x f))
    ]
  ]
]

-- a terminal with which the symbols after a dot begin is one of the tokens
first_known : (g : List Production) (p : Production) (dot : ℕ) (t : TerminalString) → Contains g p → IsFirst g (drop dot p.symbols) t → Contains (tokens_in g) (TokenOf t)
first_known g p dot t h f =
    let there : Contains (symbols_in g) (Terminal t) = elim (derived_symbol g f.1 (Terminal t) (contains_head (Terminal t) f.0)) [
      | inl i ↦ contains_symbol g p (Terminal t) h (contains_dropped dot p.symbols (Terminal t) i)
      | inr i ↦ i
    ] in
    contains_tail Eof (map token_for (symbols_in g)) (TokenOf t) (contains_map token_for (symbols_in g) (Terminal t) there)

-- a valid token is one of the tokens
valid_known : {g : List Production} {start : NonterminalString} {u : List Symbol} {p : Production} {dot : ℕ} {t : Token} → ValidToken g start u p dot t → Contains (tokens_in g) t
valid_known {g} (at_start p h e) = contains_head Eof (map token_for (symbols_in g))
valid_known (kept x after v e) = valid_known v
valid_known {g} (begins_behind {p = p} {dot = dot} {t = t} q after v e h f) = first_known g p (suc dot) t (of_grammar v) (subst (λ l. IsFirst g l t) (sym (drop_past dot p.symbols e)) f)
valid_known (passed_on q after v e h n) = valid_known v

-- a token that follows is one of the tokens
pub follows_known : {g : List Production} {start : NonterminalString} {u : List Symbol} {p : Production} {dot : ℕ} {t : Token} → Follows g start u p dot t → Contains (tokens_in g) t
follows_known {g} {p = p} {dot = dot} (by_first t v f) = first_known g p dot t (of_grammar v) f
follows_known (by_valid t v n) = valid_known v

-- a rest of a list, and a token
pub record Key : Type 0 where
  pub rest : List TerminalString
  pub token : Token

-- that pair
abbrev pub key : List TerminalString → Token → Key
key rest token = record { rest = rest; token = token }

-- each rest of a list, with each of the tokens
abbrev pub keys : List Token → List TerminalString → List Key
keys tokens [] = map (key []) tokens
keys tokens (t ∷ w) = map (key (t ∷ w)) tokens ++ keys tokens w

-- each rest is there with each token
pub contains_key : (tokens : List Token) (token : Token) → Contains tokens token → (v rest : List TerminalString) → Contains (keys tokens (v ++ rest)) (record { rest = rest; token = token })
contains_key tokens token h [] [] = contains_map (key []) tokens token h
contains_key tokens token h [] (t ∷ rest) = Contains-append_left (map (key (t ∷ rest)) tokens) (keys tokens rest) (key (t ∷ rest) token) (contains_map (key (t ∷ rest)) tokens token h)
contains_key tokens token h (x ∷ v) rest = Contains-append_right (map (key (x ∷ (v ++ rest))) tokens) (keys tokens (v ++ rest)) (key rest token) (contains_key tokens token h v rest)

-- a list without one of its values
pub record Without {A : Type 0} (l : List A) (x : A) : Type 0 where
  pub others : List A
  pub shorter : length l ≡ suc (length others)
  pub remains : (y : A) → Contains l y → (x ≡ y) ⊎ Contains others y

-- each value of a list can be taken out
pub without : {A : Type 0} (l : List A) (x : A) → Contains l x → Without l x
without [] x h = absurd (contains-nil h)
without {A} (y ∷ l) x h = elim (contains-cons y l x h) [
  | inl e ↦ record {
    others = l;
    shorter = refl;
    remains = λ z k. elim (contains-cons y l z k) [ inl f ↦ inl (sym e ∙ f) | inr j ↦ inr j ];
  }
  | inr i ↦
      let r = without l x i in
      record {
        others = y ∷ r.others;
        shorter = ap suc r.shorter;
        remains = λ z k. elim (contains-cons y l z k) [
          | inl f ↦ inr (subst (Contains (y ∷ r.others)) f (contains_head y r.others))
          | inr j ↦ elim (r.remains z j) [ inl e ↦ inl e | inr o ↦ inr (contains_tail y r.others z o) ]
        ];
      }
]
