use Rattle.std.proofs.Common.{◌≡◌, ◌+◌, ◌≤◌, ◌++◌, length}
use Rattle.request.specs.Lines.{lines_of, read_lines}
use Rattle.request.proofs.reader.read_lines.Given as goal

abbrev pub invariant-loop-line : goal.invariant-loop-line
invariant-loop-line l =
    let left = lines_of l.line-iterator.a.rest.now in
    let number = l.line-iterator.b.start in
    (number + length left ≤ 65538)
    × (l.entries.items ++ read_lines number left ≡ read_lines 2 (lines_of l.lines.rest.now))
