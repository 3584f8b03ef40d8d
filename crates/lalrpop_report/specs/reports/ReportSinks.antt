-- The bytes that a sink takes, the faults that it counts, and the errors of a report.
use Rattle.std.specs.Prelude.{◌≡◌, ℕ, ◌+◌, ◌<◌, Bool, true, false, List, length, take, Option, None, Some, IsSome, Result, MatchResult}
use Rattle.std.specs.Io.KnownBytes.{Appends, Keeps}
use Rattle.lalrpop_report.specs.declared.report.error.ReportError.{ReportError}
use Rattle.lalrpop_report.specs.declared.report.error.ReportError.TheVariants.{Write, WriteZero, Memory, NoTables}
use Rattle.lalrpop_report.specs.declared.report.sink.Counted.{Counted}

-- a call that returns `Ok k` takes k bytes, and one that returns an error takes none
abbrev pub PutTakes : {E : Type 0} → Option (List ℕ) → Option (List ℕ) → Result ℕ E → List ℕ → Type 0
PutTakes old new r bytes = MatchResult r (λ k. Appends old new (take k bytes)) (λ _. Keeps old new)

-- an error is a fault, and so is a result of 0
abbrev pub PutCounts : {E : Type 0} → ℕ → ℕ → Result ℕ E → Type 0
PutCounts old new r = MatchResult r (λ k. (k ≡ 0 → new ≡ old + 1) × (0 < k → new ≡ old)) (λ _. new ≡ old + 1)

-- the last fault was a result of 0 (true) or an error (false), if that is known
abbrev pub WasLastZero : Bool → Option Bool → Type 0
WasLastZero zero None = Unit {0}
WasLastZero zero (Some last) = last ≡ zero

-- a result of 0 is then the last fault, and so is an error; if bytes were taken, the last fault
-- stays
abbrev pub PutIsLast : {E : Type 0} → Option Bool → Option Bool → Result ℕ E → Type 0
PutIsLast old new r = MatchResult r (λ k. (k ≡ 0 → WasLastZero true new) × (0 < k → new ≡ old)) (λ _. WasLastZero false new)

-- for `WriteZero` the last fault was a result of 0, and for `Write` it was an error
abbrev pub TellsLastFault : Option Bool → ReportError → Type 0
TellsLastFault last (Write e) = WasLastZero false last
TellsLastFault last WriteZero = WasLastZero true last
TellsLastFault last Memory = Unit {0}
TellsLastFault last NoTables = Unit {0}

-- the property holds if the error comes from the sink
abbrev pub IfWriteFault : ReportError → Type 0 → Type 0
IfWriteFault (Write e) P = P
IfWriteFault WriteZero P = P
IfWriteFault Memory P = Unit {0}
IfWriteFault NoTables P = Unit {0}

-- the property holds if no byte was offered to the sink
abbrev pub IfNothingOffered : ReportError → Type 0 → Type 0
IfNothingOffered (Write e) P = Unit {0}
IfNothingOffered WriteZero P = Unit {0}
IfNothingOffered Memory P = P
IfNothingOffered NoTables P = P

-- the error comes from the sink, and is not one of memory or tables
abbrev pub IsWriteFault : ReportError → Type 0
IsWriteFault e = IfNothingOffered e ⊥

-- there is no text if the error is `NoTables`, and there is a text if it is any other
abbrev pub TellsOfText : Option (List ℕ) → ReportError → Type 0
TellsOfText text (Write e) = IsSome text
TellsOfText text WriteZero = IsSome text
TellsOfText text Memory = IsSome text
TellsOfText text NoTables = text ≡ None

-- some bytes from the front of the text were written, but not all
abbrev pub WroteBeginning : Option (List ℕ) → Option (List ℕ) → List ℕ → Type 0
WroteBeginning old new text = (n : ℕ) × (n < length text) × Appends old new (take n text)

-- the writer to which a `Counted` writes
abbrev pub writer_of : {W : Type 0} → Counted W → W
writer_of s = s.writer

-- the number of faults that a `Counted` has had
abbrev pub faults_of : {W : Type 0} → Counted W → ℕ
faults_of s = s.faults
