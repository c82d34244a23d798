use Rattle.sudo_parser.specs.Body.Limits.{room_of}
use Rattle.sudo_parser.proofs.ParsedLemmas.{taken_out}
use Rattle.sudo_parser.proofs.room.Room.after.Goals as goal

pub returns-in-Aliases : goal.returns-in-Aliases
returns-in-Aliases c =
    taken_out (room_of c.args.self) (room_of c.less.result) c.args.body.now c.in-Aliases.kind c.in-Aliases.definitions
    c.len.result c.in-Aliases.is c.len.ensures c.less.ensures
