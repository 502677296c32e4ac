-- The calls that a text asks for.
use Rattle.std.specs.Prelude.{List, [], ◌∷◌, ◌++◌, filter_map, Some, None, Option, Ok, Err, Result}
use Rattle.request.specs.declared.act.Act.{Act}
use Rattle.request.specs.declared.act.Act.TheVariants as act
use Rattle.request.specs.declared.act.Request.{Request}
use Rattle.request.specs.declared.fault.RunFault.{RunFault}
use Rattle.request.specs.declared.reader.Entry.{Entry}
use Rattle.reckoning.specs.declared.call.Call.{Call}
use Rattle.reckoning.specs.declared.call.Call.TheVariants.{Admit, Release, Quote, Where, List as Rows}

-- the call that an act asks for
abbrev pub call_of : Act → Call
call_of (act.Add s f t l) = Admit s f t l
call_of (act.Drop s) = Release s
call_of (act.Quote s f t) = Quote s f t
call_of (act.Find s) = Where s

-- a line that reads well asks for one call, a fault for none
abbrev pub outcome_call : Result Request RunFault → Option Call
outcome_call (Ok q) = Some (call_of q.act)
outcome_call (Err f) = None

-- the calls of the lines that read well, in order
abbrev pub asked : List Entry → List Call
asked es = filter_map (λ e. outcome_call e.outcome) es

-- with a list behind them, so that a run ends with the sessions that stand
abbrev pub calls_of : List Entry → List Call
calls_of es = asked es ++ (Rows ∷ [])
