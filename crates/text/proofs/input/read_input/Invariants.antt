use Rattle.std.proofs.Common.{◌-◌, ◌≤◌, vec_len, vec_items}
use Rattle.std.specs.Io.KnownBytes.{Consumes}
use Rattle.text.proofs.input.read_input.Given as goal

-- what was read so far is what the reader had first
abbrev pub invariant-loop-block : goal.invariant-loop-block
invariant-loop-block g l = record {
  few : vec_len l.text ≤ 65537;
  read : Consumes (g.R.Read.remaining l.initial.source) (g.R.Read.remaining l.source) (vec_items l.text);
}

abbrev pub decreases-loop-block : goal.decreases-loop-block
decreases-loop-block g l = 65537 - vec_len l.text
