use Rattle.std.proofs.Common.{◌≡◌, ◌++◌, take, string_bytes}
use Rattle.std.specs.List.{flat_map}
use Rattle.text.specs.Lists.{session_bytes}
use Rattle.text.proofs.list.add_list.Given as goal

abbrev pub invariant-loop-session : goal.invariant-loop-session
invariant-loop-session l = string_bytes l.out ≡ string_bytes l.initial.out ++ flat_map session_bytes (take l.session-index l.sessions)
