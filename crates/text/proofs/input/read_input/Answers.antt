-- The loop ends once the text is one byte too long, or at the reader's end: either way it has what the reader had first.
use Rattle.std.proofs.Common.{vec_items, inl, inr, arith, rules}
use Rattle.text.proofs.Reading.{read_on, front_read}
use Rattle.text.proofs.input.read_input.Goals as goal
use Rattle.text.proofs.input.read_input.Goals.{else-loop-block-test, then-loop-block-test+in_ok-got+then-got-eq0}

pub returns-clause-bytes : goal.returns-clause-bytes
returns-clause-bytes g c =
    elim c.loop-block-test.branch [
      | else-loop-block-test w ↦ rw w.text-is (front_read _ _ (vec_items c.loop-block.text) 65537 c.loop-block.invariant.read (inl (omega (arith, c.loop-block.invariant.few, c.len.ensures, w.loop-block-test.false))))
      | then-loop-block-test+in_ok-got+then-got-eq0 w ↦
          let read = w.in_ok-got.ensures in
          rw w.text-is (front_read _ (g.R.Read.remaining w.read_block.new.source) (vec_items w.read_block.new.text) 65537
          (rw read.items (read_on _ _ _ _ _ c.loop-block.invariant.read read.consumed))
          (inr (omega (arith, c.loop-block.invariant.few, w.in_ok-got.ensures.len, w.if-got-eq0.true), read.end w.if-got-eq0.true (search rules))))
    ]
