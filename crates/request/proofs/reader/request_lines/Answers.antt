use Rattle.std.proofs.Common.{length, ap, arith, rules}
use Rattle.request.proofs.Lining.{lines_most}
use Rattle.request.proofs.reader.request_lines.Goals as goal

pub returns-in-Some : goal.returns-in-Some
returns-in-Some c =
    let e = c.in-Some.ensures.steps in
    (search rules, omega (arith, lines_most c.args.text.now, ap length e))
