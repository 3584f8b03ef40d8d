-- Lists of conflicts, in the order in which a loop over the shifted terminals and the reductions of
-- a state makes them.
use Rattle.std.specs.Prelude.{◌≡◌, ◌↔◌, true, List, [], ◌∷◌, ◌++◌}
use Rattle.lalrpop_grammar.specs.declared.repr.TerminalString.{TerminalString}
use Rattle.lalrpop_grammar.specs.declared.lookahead.token.Token.{Token}
use Rattle.lalrpop_grammar.specs.declared.lookahead.token.Token.TheVariants.{Terminal as TokenOf}
use Rattle.lalrpop_grammar.specs.parsing.Validity.{Shift, Reduce}
use Rattle.lalrpop_grammar.specs.states.States.{Reduction}
use Rattle.lalrpop_grammar.specs.conflicts.Conflicts.{ConflictContents}

-- a conflict of the shift of a terminal and a reduction
pub record IsShiftConflict (t : TerminalString) (r : Reduction) (c : ConflictContents) : Type 0 where
  pub holds : r.holds (TokenOf t) ≡ true
  pub production : c.production ≡ r.production
  pub action : c.action ≡ Shift t
  pub exact : (s : Token) → (c.lookahead s ≡ true) ↔ (s ≡ TokenOf t)

-- the conflicts of a shift with the reductions of a list, in their order
pub data ShiftPart (t : TerminalString) : List Reduction → List ConflictContents → Type 0 where
  no_more : ShiftPart t [] []
  in_conflict : {rs : List Reduction} {cs : List ConflictContents} (r : Reduction) (c : ConflictContents) → IsShiftConflict t r c → ShiftPart t rs cs → ShiftPart t (r ∷ rs) (c ∷ cs)
  apart : {rs : List Reduction} {cs : List ConflictContents} (r : Reduction) → (r.holds (TokenOf t) ≡ true → ⊥) → ShiftPart t rs cs → ShiftPart t (r ∷ rs) cs

-- the conflicts of each shifted terminal, in turn
pub data ShiftParts (rs : List Reduction) : List TerminalString → List ConflictContents → Type 0 where
  no_shifts : ShiftParts rs [] []
  shift_first : {ts : List TerminalString} {cs ds : List ConflictContents} (t : TerminalString) → ShiftPart t rs cs → ShiftParts rs ts ds → ShiftParts rs (t ∷ ts) (cs ++ ds)

-- a conflict of two reductions, on exactly the tokens that they share. There is at least one
pub record IsReduceConflict (r q : Reduction) (c : ConflictContents) : Type 0 where
  pub some : (t : Token) × (r.holds t ≡ true) × (q.holds t ≡ true)
  pub production : c.production ≡ r.production
  pub action : c.action ≡ Reduce q.production
  pub exact : (s : Token) → (c.lookahead s ≡ true) ↔ ((r.holds s ≡ true) × (q.holds s ≡ true))

-- the conflicts of a reduction with the later ones
pub data LaterPart (r : Reduction) : List Reduction → List ConflictContents → Type 0 where
  no_later : LaterPart r [] []
  with_later : {rs : List Reduction} {cs : List ConflictContents} (q : Reduction) (c : ConflictContents) → IsReduceConflict r q c → LaterPart r rs cs → LaterPart r (q ∷ rs) (c ∷ cs)
  shares_none : {rs : List Reduction} {cs : List ConflictContents} (q : Reduction) → ((t : Token) → r.holds t ≡ true → q.holds t ≡ true → ⊥) → LaterPart r rs cs → LaterPart r (q ∷ rs) cs

-- the conflicts of each reduction with the later ones, in turn
pub data ReduceParts : List Reduction → List ConflictContents → Type 0 where
  no_reductions : ReduceParts [] []
  reduce_first : {rs : List Reduction} {cs ds : List ConflictContents} (r : Reduction) → LaterPart r rs cs → ReduceParts rs ds → ReduceParts (r ∷ rs) (cs ++ ds)
