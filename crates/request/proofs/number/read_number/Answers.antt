use Rattle.std.proofs.Common.{◌<◌, length, sym, ◌∙◌, arith, rules}
use Rattle.std.proofs.lemmas.Bool.{eqb-false}
use Rattle.request.proofs.Reading.{read_empty, turn, stray, done, narrowed}
use Rattle.request.proofs.number.read_number.Goals as goal

pub returns-then-is_empty : goal.returns-then-is_empty
returns-then-is_empty c = sym (read_empty c.args.word c.args.bytes.now (search rules))

pub returns-then-not-is_ascii_digit : goal.returns-then-not-is_ascii_digit
returns-then-not-is_ascii_digit c = sym (stray c.args.word c.args.bytes.now c.loop-byte.byte-index c.loop-byte.value c.loop-byte-test.true (sym c.if-not-is_ascii_digit.ensures.value) c.loop-byte.invariant)

pub loop-byte-preserved : goal.loop-byte-preserved
loop-byte-preserved c = turn c.args.word c.args.bytes.now c.loop-byte.byte-index c.loop-byte.value _ c.loop-byte-test.true (sym c.if-not-is_ascii_digit.ensures.value) (search rules) c.loop-byte.invariant

pub returns : goal.returns
returns c =
    let p : 0 < length c.args.bytes.now = omega (arith, eqb-false (length c.args.bytes.now) 0 (sym c.if-is_empty.ensures)) in
    sym (done c.args.word c.args.bytes.now c.loop-byte.byte-index c.loop-byte.value p c.loop-byte-test.false c.loop-byte.invariant ∙ (narrowed c.args.word c.loop-byte.value c.try_from.result c.try_from.ensures ∙ sym c.or.ensures))
