-- What the program finds in a check of a grammar.
use Rattle.std.specs.Prelude.{◌≡◌, ◌↔◌, ◌⊎◌, ℕ, Bool, true, false, List, [], ◌∷◌, ◌++◌, map, Contains, Option, None, codes, position, string_bytes}
use Rattle.std.specs.List.{flat_map}
use Rattle.std.specs.Str.{IsUtf8}
use Rattle.std.specs.BTreeMap.{get}
use Rattle.lalrpop_base.specs.Words.{Bits, name_cmp}
use Rattle.lalrpop_states.specs.declared.lr1_core.state.Conflict.{Conflict}
use Rattle.lalrpop_states.specs.declared.lr1_core.state.State.{State}
use Rattle.lalrpop_grammar.specs.declared.repr.NonterminalString.{NonterminalString}
use Rattle.lalrpop_grammar.specs.declared.repr.Span.{Span}
use Rattle.lalrpop_grammar.specs.declared.repr.grammar.Grammar.{Grammar}
use Rattle.lalrpop_construction.specs.declared.options.Method.{Method}
use Rattle.lalrpop_inline.specs.Words.{HasSpan, HasTooMany, IsOnRing}
use Rattle.grammar_text.specs.Symbols.{name_of}
use Rattle.grammar_text.specs.Lines.{is_fault, lines_of}
use Rattle.grammar_text.specs.Grammar.{StandsFor}
use Rattle.grammar_diagnostics.specs.CyclePaths.{IsUnitCycle}
use Rattle.grammar_diagnostics.specs.Hints.{hint_of}
use Rattle.grammar_diagnostics.specs.Messages.{doubt_text, way_out}
use Rattle.grammar_diagnostics.specs.Nearest.{suggested}
use Rattle.grammar_diagnostics.specs.TextErrors.{TextError, errors_of}
use Rattle.grammar_diagnostics.specs.Texts.{fault_text, hint_text}
use Rattle.grammar_diagnostics.specs.Warnings.{Doubt, Cyclic, IsWarning}
use Rattle.grammar_diagnostics.specs.WarningPlaces.{name_place, warning_place}
use Rattle.grammar_diagnostics.specs.declared.warning_places.Place.{Place}
use Rattle.conflict_causes.specs.CauseLines.{AreCauseLines, CauseLine}
use Rattle.program_answers.specs.declared.answer.Answer.{Answer}
use Rattle.program_answers.specs.declared.answer.Shown.{Shown}
use Rattle.program_answers.specs.declared.answer.Answer.TheVariants.{Output, Fault, Usage, TooManyActions, Memory}
use Rattle.program_answers.specs.Answers.{IsTooMany, OfFile}
use Rattle.program_answers.specs.Inlined.{IsShownInlined}
use Rattle.program_answers.specs.Texts.{line}
use Rattle.lrshow_check.specs.Built.{AreBuilt}
use Rattle.lrshow_check.specs.Findings.{Finding, findings_output, findings_status}
use Rattle.lrshow_check.specs.Output.{IsOutput}
use Rattle.lrshow_arguments.specs.Words.{AskedCheck}

-- ---- errors of the text
-- the finding of an error of the text
abbrev pub error_finding : TextError → Finding
error_finding e = record {
  is_error = true;
  line = e.line;
  column = e.column;
  start = e.span.0;
  end = e.span.1;
  what = fault_text e;
  hint = hint_text (hint_of e.reason e.word);
}

-- ---- warnings
-- names in a row, each after a blank
abbrev pub cycle_names : List NonterminalString → List ℕ
cycle_names names = flat_map (λ (a : NonterminalString). codes " `" ++ (a.text ++ codes "`")) names

-- the text of a way from a nonterminal back to itself
abbrev pub cycle_text : List NonterminalString → List ℕ
cycle_text names = codes ":" ++ cycle_names names

-- a text says what is doubtful. For a cyclic nonterminal it may have a way back to it
abbrev pub IsDoubtText : List ℕ → NonterminalString → Grammar → Doubt → List ℕ → Type 0
IsDoubtText text start g (Cyclic a span) words = (words ≡ doubt_text text start (Cyclic a span)) ⊎ ((names : List NonterminalString) × IsUnitCycle g a names × (words ≡ doubt_text text start (Cyclic a span) ++ cycle_text names))
IsDoubtText text start g w words = words ≡ doubt_text text start w

-- a finding is that of a warning: its place is that of the word that the warning is about
pub record IsDoubtFinding (text : List ℕ) (start : NonterminalString) (g : Grammar) (w : Doubt) (f : Finding) : Type 0 where
  pub kind : f.is_error ≡ false
  pub placed : record { line = f.line; column = f.column; span = record { 0 = f.start; 1 = f.end } } ≡ warning_place text start w
  pub said : IsDoubtText text start g w f.what
  pub hinted : f.hint ≡ way_out (suggested g start w) w

-- findings are those of warnings, in their order
abbrev pub AreDoubtFindings : List ℕ → NonterminalString → Grammar → List Doubt → List Finding → Type 0
AreDoubtFindings text start g [] [] = Unit {0}
AreDoubtFindings text start g [] (f ∷ fs) = ⊥
AreDoubtFindings text start g (w ∷ ws) [] = ⊥
AreDoubtFindings text start g (w ∷ ws) (f ∷ fs) = IsDoubtFinding text start g w f × AreDoubtFindings text start g ws fs

-- findings are those of all warnings that hold of a grammar
pub record AreWarned (text : List ℕ) (start : NonterminalString) (g : Grammar) (fs : List Finding) : Type 0 where
  pub warnings : List Doubt
  pub exact : (w : Doubt) → Contains warnings w ↔ IsWarning g start w
  pub each : AreDoubtFindings text start g warnings fs

-- ---- the causes of conflicts
-- a finding at a place
abbrev pub finding_at : Bool → Place → (what hint : List ℕ) → Finding
finding_at is_error place what hint = record {
  is_error = is_error;
  line = place.line;
  column = place.column;
  start = place.span.0;
  end = place.span.1;
  what = what;
  hint = hint;
}

-- the finding of a cause. Its place is that of the left side of the production of its reduction. The
-- production may have been made by inlining. Then it has the span of the production of the text whose
-- symbols were replaced, so that the place is in the line of that
abbrev pub cause_finding : List ℕ → CauseLine → Finding
cause_finding text l = finding_at false (name_place text l.reduced.nonterminal l.reduced.span) l.text (codes "see `lrshow FILE START conflicts`")

-- the findings of a grammar whose marked nonterminals are inlined: those of the warnings, and then
-- those of the causes of the conflicts, in their order
pub record AreCausesFound (method : Method) (start : NonterminalString) (text : List ℕ) (h : Grammar) (warned fs : List Finding) : Type 0 where
  pub status : ℕ
  pub states : List (State Bits)
  pub conflicts : List (Conflict Bits)
  pub built : AreBuilt method h start status states conflicts
  pub lines : List CauseLine
  pub causes : AreCauseLines h.terminals states conflicts lines
  pub found : fs ≡ warned ++ map (cause_finding text) lines

-- ---- rings of marked nonterminals
-- the finding of a marked nonterminal that would have to be inlined into itself
abbrev pub ring_finding : List ℕ → NonterminalString → Span → Finding
ring_finding text a span = finding_at true (name_place text a span) (codes "`" ++ (a.text ++ codes "` would have to be inlined into itself")) (codes "leave a mark out")

-- the findings of a grammar if a marked nonterminal mentions itself, or marked ones mention each other
-- in a ring: the error first, and then those of the warnings
pub record IsRingFound (text : List ℕ) (g : Grammar) (warned fs : List Finding) : Type 0 where
  pub one : NonterminalString
  pub ring : IsOnRing g one
  pub span : Span
  pub at : HasSpan (get name_cmp g.nonterminals one) span
  pub found : fs ≡ ring_finding text one span ∷ warned

-- ---- all findings
-- the findings of a grammar, with those of its warnings
abbrev pub AreGrammarFindings : Method → NonterminalString → List ℕ → Grammar → (warned fs : List Finding) → Type 0
AreGrammarFindings method start text g warned fs = IsShownInlined (λ h. AreCausesFound method start text h warned fs) g ⊎ IsRingFound text g warned fs

-- the findings of a text without errors: those of the grammar that its lines give
pub record AreRightFindings (method : Method) (start : NonterminalString) (text : List ℕ) (fs : List Finding) : Type 0 where
  pub right : position is_fault (lines_of text) ≡ None
  pub grammar : Grammar
  pub stands : StandsFor (lines_of text) grammar
  pub warned : List Finding
  pub warnings : AreWarned text start grammar warned
  pub whole : AreGrammarFindings method start text grammar warned fs

-- the findings of a text with errors: each of them
pub record AreFaultyFindings (text : List ℕ) (fs : List Finding) : Type 0 where
  pub wrong : position is_fault (lines_of text) ≡ None → ⊥
  pub whole : fs ≡ map error_finding (errors_of text)

-- ---- the result
-- what is shown in a check of a text: its findings, with their status
pub record IsCheckShown (method : Method) (asked : AskedCheck) (name : List ℕ) (s : Shown) (text : List ℕ) : Type 0 where
  pub utf8 : IsUtf8 text
  pub found : List Finding
  pub are : AreFaultyFindings text found ⊎ AreRightFindings method (name_of asked.start) text found
  pub shown : IsOutput (findings_status found) (findings_output asked.is_json name found) [] s

-- a result is right for a check of a file
abbrev pub IsCheckAnswer : Method → AskedCheck → List ℕ → Option (Option (List ℕ)) → Answer → Type 0
IsCheckAnswer method asked name file (Output s) = OfFile (IsCheckShown method asked name s) file
IsCheckAnswer method asked name file (Fault text) = string_bytes text ≡ line (codes "cannot read " ++ name)
IsCheckAnswer method asked name file Usage = ⊥
IsCheckAnswer method asked name file TooManyActions = OfFile IsTooMany file
IsCheckAnswer method asked name file Memory = Unit {0}

-- a result for the grammar of a text without errors, with the findings of its warnings
abbrev pub IsLastAnswer : Method → NonterminalString → AskedCheck → (name text : List ℕ) → List Finding → Grammar → Answer → Type 0
IsLastAnswer method start asked name text warned g (Output s) = (fs : List Finding) × AreGrammarFindings method start text g warned fs × IsOutput (findings_status fs) (findings_output asked.is_json name fs) [] s
IsLastAnswer method start asked name text warned g (Fault words) = ⊥
IsLastAnswer method start asked name text warned g Usage = ⊥
IsLastAnswer method start asked name text warned g TooManyActions = HasTooMany g
IsLastAnswer method start asked name text warned g Memory = Unit {0}
