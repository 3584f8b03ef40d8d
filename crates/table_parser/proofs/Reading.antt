-- What the calls of a machine do, from what its reductions and shifts do.
use Rattle.std.proofs.Common.{◌≡◌, ◌≢◌, inl, inr, ℕ, suc, List, [], ◌∷◌, length, Bool, true, false, refl, sym, ap, ap₂, subst, ◌∙◌, arith}
use Rattle.lalrpop_base.specs.Words.{Configuration, Contents, Goes, IsBitOf, Stands, Tree, move, next_token}
use Rattle.lalrpop_grammar.specs.declared.repr.Production.{Production}
use Rattle.lalrpop_grammar.specs.declared.repr.TerminalString.{TerminalString}
use Rattle.table_parser.specs.Events.{Event, Shifted, width}
use Rattle.table_parser.specs.Machines.{IsAt, IsProgress, numbers_below, starts_below}
use Rattle.table_parser.specs.Runs.{HasParsed, HasRead, IsCutOff, IsRefusal}
use Rattle.table_parser.specs.Shifts.{IsShifted}
use Rattle.table_parser.specs.Steps.{IsFinal, IsStep, once_more, shifts}
use Rattle.table_parser.specs.declared.error.Refusal.{Refusal}
use Rattle.table_parser.specs.declared.machine.Machine.{Machine}
use Rattle.table_parser.specs.declared.machine.Progress.TheVariants.{CanShift, Ended, Stuck}
use Rattle.table_parser.proofs.Moves.{Shifts, shift_moves, shifted}
use Rattle.table_parser.proofs.Reducing.{left_as}
use Rattle.table_parser.proofs.Stacks.{pushed}

abbrev behind : List TerminalString → List TerminalString
behind [] = []
behind (t ∷ rest) = rest

single : (trees : List Tree) → length trees ≡ 1 → (t : Tree) × (trees ≡ t ∷ [])
single [] e = absurd (omega (arith, e))
single (t ∷ []) e = (t, refl)
single (t ∷ u ∷ trees) e = absurd (omega (arith, e))

module _ (terminals : List TerminalString) (productions : List Production) (states : ℕ → Contents) {H : Type 0} (takes : H → Event → H → Type 0) (c : Configuration) (old : Machine) (h : H) (m : Machine) (i : H) where
  -- a machine that can shift
  module _ (target : ℕ) (made : IsProgress terminals productions states takes c old h m i (CanShift target)) where
    abbrev by : Shifts states made.0 target made.0.rest
    by = shift_moves states made.0 made.0.rest target made.3

    abbrev to : Configuration
    to = shifted made.0 target by.terminal by.after

    pub can_shift : move states made.0 ≢ Stands
    can_shift e = let k : Goes to ≡ Stands = sym by.moves ∙ e in cc

    -- all steps are spent, and there is a shift
    pub cut_off_at_shift : m.left ≡ 0 → IsCutOff terminals productions states takes c old h
    cut_off_at_shift spent = record {
      at = made.0;
      handler = i;
      reduced = left_as terminals productions states takes c made.0 old h i m.left 0 spent made.1;
      another = can_shift;
    }

    pub at_end : c.rest ≡ [] → ⊥
    at_end e = let k : by.terminal ∷ by.after ≡ [] = sym by.next ∙ made.1.rest ∙ e in cc

    module _ (new : Machine) (j : H) (bit : ℕ) (has : IsBitOf terminals (next_token c.rest) bit) (shift : IsShifted takes m target bit i new j) where
      step : IsStep terminals productions states takes made.0 to i j
      step = record {
        event = Shifted (width made.0.trees) bit;
        is = shifts target bit made.3 (subst (λ (ts : List TerminalString). IsBitOf terminals (next_token ts) bit) (sym made.1.rest) has);
        moves = by.moves;
        taken = subst (λ n. takes i (Shifted n bit) j) made.2.position shift.taken;
      }

      at : IsAt new to
      at = record {
        state = shift.state;
        below = ap numbers_below shift.below ∙ pushed (λ (e : ℕ × ℕ). e.0) m.below.items (m.state, m.position) ∙ ap₂ (λ n ns. n ∷ ns) made.2.state made.2.below;
        starts = ap starts_below shift.below ∙ pushed (λ (e : ℕ × ℕ). e.1) m.below.items (m.state, m.position) ∙ ap₂ (λ n ns. n ∷ ns) made.2.position made.2.starts;
        position = let one = shift.position in let before = made.2.position in omega (arith, one, before);
      }

      -- the terminal was read
      pub read : (t : TerminalString) (rest : List TerminalString) → c.rest ≡ t ∷ rest → HasRead terminals productions states takes c old h rest new j
      read t rest next =
          let counted = made.1.counted in
          let spent = shift.counted in
          record {
            steps = suc made.1.steps;
            to = to;
            handled = once_more made.1.handled step;
            at = at;
            rest = ap behind (sym by.next ∙ made.1.rest ∙ next);
            counted = omega (arith, counted, spent);
          }

  module _ (refusal : Refusal) (bit : ℕ) (position : refusal.position ≡ m.position) (state : refusal.state ≡ m.state) (token : refusal.bit ≡ bit) (is_parse : List Tree → Type 0) where
    -- a machine that is stuck refuses
    pub stuck_refuses : IsProgress terminals productions states takes c old h m i Stuck → IsRefusal terminals productions states takes c old h is_parse bit refusal i
    stuck_refuses made = record {
      left = m.left;
      at = made.0;
      handler = i;
      reduced = made.1;
      state = state ∙ made.2.state;
      position = position ∙ made.2.position;
      token = token;
      why = inl (made.3, refl);
    }

    -- so does one whose last reduction leaves no parse
    pub ended_refuses : (alone : Bool) → (made : IsProgress terminals productions states takes c old h m i (Ended alone)) → (is_parse made.3 → ⊥) → IsRefusal terminals productions states takes c old h is_parse bit refusal i
    ended_refuses alone made none = record {
      left = suc m.left;
      at = made.0;
      handler = made.1;
      reduced = made.2;
      state = state ∙ made.6;
      position = position ∙ made.7;
      token = token;
      why = inr (m.left, refl, made.3, made.4, none);
    }

  -- no parse is left if not one tree is
  pub not_alone : (made : IsProgress terminals productions states takes c old h m i (Ended false)) → ((t : Tree) × (made.3 ≡ t ∷ [])) → ⊥
  not_alone made one = let e : false ≡ true = made.5.1 (ap length one.1) in cc

  -- the last reduction leaves a parse
  pub parses : IsProgress terminals productions states takes c old h m i (Ended true) → HasParsed terminals productions states takes c old h m i
  parses made =
      let one = single made.3 (made.5.0 refl) in
      record {
        at = made.0;
        handler = made.1;
        reduced = made.2;
        tree = one.0;
        final = subst (λ (trees : List Tree). IsFinal terminals productions states takes made.0 trees made.1 i) one.1 made.4;
      }
