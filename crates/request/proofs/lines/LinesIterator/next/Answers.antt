use Rattle.std.proofs.Common.{length, ap, ◌∙◌, rules}
use Rattle.request.specs.Lines.{lines_of}
use Rattle.request.proofs.Lining.{line_first, line_only}
use Rattle.request.proofs.lines.LinesIterator.next.Goals as goal

pub returns-in-Some-clause-steps : goal.returns-in-Some-clause-steps
returns-in-Some-clause-steps c = let e = c.in-Some.ensures in ap lines_of e.1 ∙ line_first c.in-Some.bytes.now c.in-Some.rest.now e.0

pub returns-in-Some-clause-goes : goal.returns-in-Some-clause-goes
returns-in-Some-clause-goes c = let e = ap length (returns-in-Some-clause-steps c) in search rules

pub returns-in-None-2-clause-steps : goal.returns-in-None-2-clause-steps
returns-in-None-2-clause-steps c = line_only c.args.self.now.rest.now c.in-None-2.ensures (search rules)

pub returns-in-None-2-clause-goes : goal.returns-in-None-2-clause-goes
returns-in-None-2-clause-goes c = let e = ap length (returns-in-None-2-clause-steps c) in search rules
