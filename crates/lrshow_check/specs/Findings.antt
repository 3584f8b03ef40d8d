-- What a check finds, and how it is written.
use Rattle.std.specs.Prelude.{ℕ, Bool, List, [], ◌∷◌, ◌++◌, codes, if◌then◌else◌}
use Rattle.std.specs.List.{flat_map, list_any}
use Rattle.std.specs.Fmt.{decimal}
use Rattle.std.specs.Prelude.{string_bytes}
use Rattle.json.specs.Print.{quoted}
use Rattle.grammar_text.specs.Lines.{is_empty}
use Rattle.table_pictures.specs.Escape.{pictured_text}
use Rattle.lrshow_check.specs.declared.findings.Finding.{Finding as FindingWords}

-- a finding: an error or a warning, its place in the text, what it is, and a way out. The place is
-- a line and a column, counted from 1, and the offsets in bytes of the first byte and of the byte
-- after the last
pub record Finding : Type 0 where
  pub is_error : Bool
  pub line : ℕ
  pub column : ℕ
  pub start : ℕ
  pub end : ℕ
  pub what : List ℕ
  pub hint : List ℕ

-- a finding, from the type of the code
abbrev pub finding_view : FindingWords → Finding
finding_view f = record {
  is_error = f.is_error;
  line = f.line;
  column = f.column;
  start = f.start;
  end = f.end;
  what = string_bytes f.what;
  hint = string_bytes f.hint;
}

-- how bad a finding is
abbrev pub severity : Bool → List ℕ
severity is_error = if is_error then codes "error" else codes "warning"

-- the status of a check: 2 if there is an error, else 1 if there is a warning, else 0
abbrev pub findings_status : List Finding → ℕ
findings_status fs = if list_any (λ (f : Finding). f.is_error) fs then 2 else (if is_empty fs then 0 else 1)

-- ---- as a text
-- a finding in a line of its own, after the name of the file; control characters are shown by their
-- pictures
abbrev pub finding_line : List ℕ → Finding → List ℕ
finding_line name f = name ++ (codes ":" ++ (decimal f.line ++ (codes ":" ++ (decimal f.column ++ (codes ": " ++ (severity f.is_error ++ (codes ": "
    ++ (pictured_text f.what ++ (codes "; " ++ (pictured_text f.hint ++ codes "\n"))))))))))

-- findings, a line for each
abbrev pub findings_text : List ℕ → List Finding → List ℕ
findings_text name fs = flat_map (finding_line name) fs

-- ---- as JSON
-- a finding as an object of JSON
abbrev pub finding_json : Finding → List ℕ
finding_json f = codes "{\"severity\":\"" ++ (severity f.is_error ++ (codes "\",\"line\":" ++ (decimal f.line ++ (codes ",\"column\":" ++ (decimal f.column
    ++ (codes ",\"start\":" ++ (decimal f.start ++ (codes ",\"end\":" ++ (decimal f.end
    ++ (codes ",\"message\":" ++ (quoted f.what ++ (codes ",\"hint\":" ++ (quoted f.hint ++ codes "}")))))))))))))

-- findings after the first one of an array
abbrev pub more_json : List Finding → List ℕ
more_json fs = flat_map (λ (f : Finding). codes ",\n" ++ finding_json f) fs

-- the elements of an array of findings, each in a line of its own
abbrev pub elements_json : List Finding → List ℕ
elements_json [] = []
elements_json (f ∷ fs) = finding_json f ++ more_json fs

-- findings as an array of JSON
abbrev pub findings_json : List Finding → List ℕ
findings_json fs = codes "[" ++ (elements_json fs ++ codes "]\n")

-- what is written of findings: JSON, or a text with the name of the file
abbrev pub findings_output : Bool → List ℕ → List Finding → List ℕ
findings_output is_json name fs = if is_json then findings_json fs else findings_text name fs
