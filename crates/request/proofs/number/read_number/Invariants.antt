use Rattle.std.proofs.Common.{◌≡◌, drop}
use Rattle.request.proofs.Reading.{finish}
use Rattle.request.proofs.number.read_number.Given as goal

abbrev pub invariant-loop-byte : goal.invariant-loop-byte
invariant-loop-byte l = finish l.word l.value (drop l.byte-index l.bytes) ≡ finish l.word 0 l.bytes
