-- The front fits the buffer, or not.
use Rattle.message_start.proofs.Starts.{no_room, put}
use Rattle.message_start.proofs.on_map.Goals as goal

pub returns-in-Some : goal.returns-in-Some
returns-in-Some c = let p = c.in-Some.ensures in put c.args.map.now c.args.buffer.now _ _ p.0 p.1 p.2

pub returns-in-None : goal.returns-in-None
returns-in-None c = let p = c.in-None.ensures in no_room c.args.map.now c.args.buffer.now _ p.0 p.1
