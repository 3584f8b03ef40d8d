use Rattle.std.proofs.Common.{◌≡◌, ◌<◌, ◌≤◌, ◌+◌, ◌-◌, List, arith, filter, length, take}
use Rattle.grammar_diagnostics.specs.declared.pieces.Piece.{Piece}
use Rattle.grammar_diagnostics.specs.Places.{is_line_end}
use Rattle.grammar_diagnostics.proofs.LineNumbers.{line_missing, line_past, line_there}
use Rattle.grammar_diagnostics.proofs.text_lines.TextLines.line_with.Goals as goal

pub returns-then-offset-self : goal.returns-then-offset-self
returns-then-offset-self c = line_past c.args.offset c.args.self.now.text.now (omega (arith, c.if-offset-self.true))

pub returns-then-place-len : goal.returns-then-place-len
returns-then-place-len c =
    let offset = c.args.offset in
    let text = c.args.self.now.text.now in
    let lines : List Piece = c.args.self.now.lines.items in
    let place = c.line_at-place.result - 1 in
    let number : c.line_at-place.result ≡ length (filter is_line_end (take offset text)) + 1 = c.line_at-place.ensures in
    let counted : place ≡ length (filter is_line_end (take offset text)) = omega (arith, number) in
    let within : offset ≤ length text = omega (arith, c.if-offset-self.false) in
    let past : length lines ≤ place = omega (arith, c.if-place-len.true) in
    line_missing offset place text lines c.requires within counted past

pub returns : goal.returns
returns c =
    let offset = c.args.offset in
    let text = c.args.self.now.text.now in
    let lines : List Piece = c.args.self.now.lines.items in
    let place = c.line_at-place.result - 1 in
    let line : Piece = c.index.result.now in
    let number : c.line_at-place.result ≡ length (filter is_line_end (take offset text)) + 1 = c.line_at-place.ensures in
    let counted : place ≡ length (filter is_line_end (take offset text)) = omega (arith, number) in
    let within : offset ≤ length text = omega (arith, c.if-offset-self.false) in
    let less : place < length lines = omega (arith, c.if-place-len.false) in
    line_there offset place text lines c.requires within counted line less c.index.ensures
