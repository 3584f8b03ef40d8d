-- Lane tables as the result of a construction of LR(1) states.
use Rattle.std.proofs.Common.{◌≡◌, ℕ, true, refl, List, Option, None, Some, sym, subst}
use Rattle.std.specs.Prelude.{IfOk, IfSome, IsSomeAnd, MatchOption, is_some}
use Rattle.std.specs.declared.result.Result.{Result}
use Rattle.std.specs.declared.result.Result.TheVariants.{Ok, Err}
use Rattle.lalrpop_base.specs.Words.{AreFaithful, Bits, IsLALR1, IsOnNoRightSide, contents, productions, rules_of}
use Rattle.lalrpop_check.specs.Words.{PassCheck}
use Rattle.lalrpop_tables.proofs.Types.{Grammar, NonterminalString, State}
use Rattle.lalrpop_tables.specs.Words.{AreBuiltTablesOf}
use Rattle.lalrpop_lane_states.specs.Words.{AreCopiedTables, AreLaneTables, AreLalrLaneTables}
use Rattle.lalrpop_construction.specs.declared.options.Method.TheVariants.{Lane}
use Rattle.lalrpop_tables.proofs.theory.answers.Lr1Answers.{Lane-answer}

-- the lane tables of an LALR(1) grammar whose start symbol is on no right side pass the check
pub Lanes-pass : (g : Grammar) (start : NonterminalString) (tables : List (State Bits)) → AreLalrLaneTables (rules_of g) start tables → PassCheck g start tables
Lanes-pass g start tables lalr = record { closed = lalr.checked.closed; reductions = lalr.checked.reductions; carried = lalr.checked.carried; no_conflict = lalr.lanes.free }

module _ {T E : Type 0} (items : T → List (State Bits)) (checked : List (State Bits)) (Said : List (State Bits) → Type 0) (said : Said checked) where
  -- what holds of the tables that were checked holds of those that were kept
  pub Kept-said : (r : Result (Option T) E) → IfOk r (λ answer. IfSome answer (λ kept. items kept ≡ checked)) → IfOk r (λ answer. IfSome answer (λ kept. Said (items kept)))
  Kept-said (Ok (Some kept)) same = subst Said (sym same) said
  Kept-said (Ok None) same = tt
  Kept-said (Err e) same = tt

  -- if the tables pass the check, some were kept, and it holds of these
  pub Passing-said : (r : Result (Option T) E) → IfOk r (λ answer. is_some answer ≡ true) → IfOk r (λ answer. IfSome answer (λ kept. items kept ≡ checked)) → IfOk r (λ answer. IsSomeAnd answer (λ kept. Said (items kept)))
  Passing-said (Ok (Some kept)) passing same = subst Said (sym same) said
  Passing-said (Ok None) passing same = cc
  Passing-said (Err e) passing same = tt

-- ---- a result that is there or not
module _ {X : Type 0} where
  pub there_told : (o : Option X) (x : X) (A : Type 0) (B : X → Type 0) → o ≡ Some x → MatchOption o A B → B x
  there_told None x A B e h = cc
  there_told (Some y) x A B e h = subst (λ (o : Option X). MatchOption o A B) e h

  pub if_told : (o : Option X) (x : X) (B : X → Type 0) → o ≡ Some x → IfSome o B → B x
  if_told o x B e h = subst (λ (p : Option X). IfSome p B) e h

  pub and_told : (o : Option X) (x : X) (B : X → Type 0) → o ≡ Some x → IsSomeAnd o B → B x
  and_told o x B e h = subst (λ (p : Option X). IsSomeAnd p B) e h

  pub not_there : (o : Option X) → o ≡ None → is_some o ≡ true → ⊥
  not_there None e h = cc
  not_there (Some x) e h = cc

  pub nothing_told : (o : Option X) (B : X → Type 0) → o ≡ None → IsSomeAnd o B → ⊥
  nothing_told o B e h = absurd (subst (λ (p : Option X). IsSomeAnd p B) e h)

-- what holds of a grammar and a start symbol holds of equal ones
pub said_of : (Told : Grammar → NonterminalString → Type 0) (h g : Grammar) (first start : NonterminalString) → h ≡ g → first ≡ start → Told h first → Told g start
said_of Told h g first start same is told = subst (Told g) is (subst (λ g. Told g first) same told)

-- ---- what holds of lane tables that are returned
pub Lanes-answer : {T E : Type 0} (items : T → List (State Bits)) (g : Grammar) (start : NonterminalString) (copies : ℕ) (r : Result (Option T) E) → IfOk r (λ answer. IfSome answer (λ tables. AreCopiedTables (rules_of g) start copies (items tables))) →
    IfOk r (λ answer. IfSome answer (λ tables. AreFaithful (productions g) start (contents g.terminals (items tables)))) → (IsOnNoRightSide (productions g) start → IsLALR1 (productions g) start → IfOk r (λ answer. IsSomeAnd answer (λ tables. AreLaneTables (rules_of g) start (items tables)))) →
    IfOk r (λ answer. IfSome answer (λ tables. AreBuiltTablesOf ⊥ Lane copies g start (items tables)))
Lanes-answer items g start copies (Ok (Some tables)) copied faithful lalr = Lane-answer g start (items tables) copies copied faithful lalr
Lanes-answer items g start copies (Ok None) copied faithful lalr = tt
Lanes-answer items g start copies (Err e) copied faithful lalr = tt

pub Lanes-there : {T E : Type 0} (r : Result (Option T) E) (Said : T → Type 0) → IfOk r (λ answer. IsSomeAnd answer Said) → IfOk r (λ answer. is_some answer ≡ true)
Lanes-there (Ok (Some tables)) Said said = refl
Lanes-there (Ok None) Said said = absurd said
Lanes-there (Err e) Said said = tt
