-- Moves by the action of a state.
use Rattle.std.proofs.Common.{◌≡◌, ◌≢◌, ℕ, List, [], ◌∷◌, Option, Some, None, option_map, refl, sym, ap, ◌∙◌}
use Rattle.lalrpop_base.specs.Words.{Configuration, Contents, Goes, Leaf, ReduceBy, ShiftTo, Stands, TableEntry, Tree, action_on, goes_on, moves_on, next_token, received, reduces, reduction_on, shift_or, shifts_or}
use Rattle.lalrpop_grammar.specs.declared.lookahead.token.Token.TheVariants.{Eof, Terminal as TokenOf}
use Rattle.lalrpop_grammar.specs.declared.repr.Production.{Production}
use Rattle.lalrpop_grammar.specs.declared.repr.TerminalString.{TerminalString}

-- the configuration after a shift
abbrev pub shifted : Configuration → ℕ → TerminalString → List TerminalString → Configuration
shifted c target t rest = record { state = target; below = c.state ∷ c.below; trees = Leaf t ∷ c.trees; rest = rest }

-- a move is a shift of the next terminal
pub record Shifts (states : ℕ → Contents) (c : Configuration) (target : ℕ) (rest : List TerminalString) : Type 0 where
  pub terminal : TerminalString
  pub after : List TerminalString
  pub next : rest ≡ terminal ∷ after
  pub moves : moves_on states c rest ≡ Goes (shifted c target terminal after)

no_shift : (q : Option Production) (target : ℕ) → option_map ReduceBy q ≡ Some (ShiftTo target) → ⊥
no_shift None target e = cc
no_shift (Some p) target e = cc

abbrev target_in : ℕ → Option TableEntry → ℕ
target_in n (Some (ShiftTo target)) = target
target_in n _ = n

abbrev production_in : Production → Option TableEntry → Production
production_in p (Some (ReduceBy q)) = q
production_in p _ = p

module _ (states : ℕ → Contents) (c : Configuration) where
  shifts_by : (o : Option ℕ) (q : Option Production) (target : ℕ) (t : TerminalString) (rest : List TerminalString) → shift_or o q ≡ Some (ShiftTo target) → shifts_or states c t rest o ≡ Goes (shifted c target t rest)
  shifts_by None q target t rest e = absurd (no_shift q target e)
  shifts_by (Some n) q target t rest e = ap (λ k. Goes (shifted c k t rest)) (ap (target_in n) e)

  -- a shift of the action is the move
  pub shift_moves : (rest : List TerminalString) (target : ℕ) → action_on (states c.state) (next_token rest) ≡ Some (ShiftTo target) → Shifts states c target rest
  shift_moves [] target e = absurd (no_shift (reduction_on (states c.state).reductions Eof) target e)
  shift_moves (t ∷ rest) target e = record {
    terminal = t;
    after = rest;
    next = refl;
    moves = shifts_by ((states c.state).shift t) (reduction_on (states c.state).reductions (TokenOf t)) target t rest e;
  }

  by_reduction : (q : Option Production) (p : Production) → option_map ReduceBy q ≡ Some (ReduceBy p) → reduces states c q ≡ reduces states c (Some p)
  by_reduction None p e = cc
  by_reduction (Some q) p e = ap (λ r. reduces states c (Some r)) (ap (production_in q) e)

  by_no_shift : (o : Option ℕ) (q : Option Production) (p : Production) (t : TerminalString) (rest : List TerminalString) → q ≡ reduction_on (states c.state).reductions (TokenOf t) → shift_or o q ≡ Some (ReduceBy p) → shifts_or states c t rest o ≡ reduces states c (Some p)
  by_no_shift None q p t rest same e = ap (reduces states c) (sym same) ∙ by_reduction q p e
  by_no_shift (Some n) q p t rest same e = cc

  -- a reduction of the action is the move
  pub reduction_moves : (rest : List TerminalString) (p : Production) → action_on (states c.state) (next_token rest) ≡ Some (ReduceBy p) → moves_on states c rest ≡ reduces states c (Some p)
  reduction_moves [] p e = by_reduction (reduction_on (states c.state).reductions Eof) p e
  reduction_moves (t ∷ rest) p e = by_no_shift ((states c.state).shift t) (reduction_on (states c.state).reductions (TokenOf t)) p t rest refl e

  by_none : (q : Option Production) → option_map ReduceBy q ≡ None → reduces states c q ≡ Stands
  by_none None e = refl
  by_none (Some p) e = cc

  stands_by : (o : Option ℕ) (q : Option Production) (t : TerminalString) (rest : List TerminalString) → q ≡ reduction_on (states c.state).reductions (TokenOf t) → shift_or o q ≡ None → shifts_or states c t rest o ≡ Stands
  stands_by None q t rest same e = ap (reduces states c) (sym same) ∙ by_none q e
  stands_by (Some n) q t rest same e = cc

  -- without an action there is no move
  pub none_stands : (rest : List TerminalString) → action_on (states c.state) (next_token rest) ≡ None → moves_on states c rest ≡ Stands
  none_stands [] e = by_none (reduction_on (states c.state).reductions Eof) e
  none_stands (t ∷ rest) e = stands_by ((states c.state).shift t) (reduction_on (states c.state).reductions (TokenOf t)) t rest refl e

goes_moves : (o : Option ℕ) (s : ℕ) (below : List ℕ) (trees : List Tree) (rest : List TerminalString) → goes_on o s below trees rest ≡ Stands → ⊥
goes_moves None s below trees rest e = cc
goes_moves (Some n) s below trees rest e = cc

-- a reduction is a step
pub received_moves : (states : ℕ → Contents) (p : Production) (stack : List ℕ) (trees : List Tree) (rest : List TerminalString) → received states p stack trees rest ≢ Stands
received_moves states p [] trees rest e = cc
received_moves states p (s ∷ below) trees rest e = goes_moves ((states s).goto p.nonterminal) s below trees rest e
