use Rattle.std.proofs.Common.{◌≡◌, ◌+◌, length, ap, arith}
use Rattle.request.specs.Lines.{lines_of, read_lines}
use Rattle.request.proofs.Lining.{turn}
use Rattle.request.proofs.reader.read_lines.Goals as goal

pub loop-line-preserved : goal.loop-line-preserved
loop-line-preserved c =
    let s = c.in-Some.ensures.steps in
    let next : c.next.new.self.b.start ≡ c.in-Some.number + 1 = omega (arith, s.1.1) in (
      omega (arith, s.1.0, ap length s.0),
      rw next
          (turn c.loop-line.entries.items c.push.new.self.items (read_lines 2 (lines_of c.args.lines.rest.now)) c.in-Some.number c.loop-line.line-iterator.a.rest.now c.next.new.self.a.rest.now _ _ s.0 c.line_outcome.ensures c.in_ok-push.ensures.items
          (rw s.1.0 c.loop-line.invariant.1)),
    )
