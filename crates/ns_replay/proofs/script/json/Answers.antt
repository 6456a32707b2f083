use Rattle.ns_replay.proofs.Prelude.{rules}
use Rattle.ns_replay.proofs.Json.{json_ok, json_err}
use Rattle.ns_replay.proofs.script.json.Goals as goal

pub returns-in-Ok : goal.returns-in-Ok
returns-in-Ok c = json_ok c.args.bytes.now _ c.in-Ok.ensures.ok.0 c.in-Ok.ensures.ok.1

pub returns-in-Err-2 : goal.returns-in-Err-2
returns-in-Err-2 c = json_err c.args.bytes.now (c.in-Err-2.ensures.err (search rules))
