-- The names line, and one line after the other.
use Rattle.std.proofs.Common.{string_bytes, append_assoc, arith}
use Rattle.std.proofs.lemmas.Grind.{common_steps}
use Rattle.std.proofs.lemmas.List.{flat_map_more, take_all, take_more}
use Rattle.std.specs.List.{flat_map}
use Rattle.text.specs.Lists.{session_bytes, list_names}
use Rattle.text.proofs.list.add_list.Goals as goal

pub loop-session-preserved : goal.loop-session-preserved
loop-session-preserved c = grind (arith, common_steps, flat_map_more, take_more)

pub returns : goal.returns
unfolding list_names
returns c =
    let ss = c.args.sessions.now in
    simp (c.loop-session.invariant, take_all c.loop-session.session-index ss c.loop-session-test.false, c.in_ok-push_str.ensures.bytes) (append_assoc (string_bytes c.args.out.now) list_names (flat_map session_bytes ss))
