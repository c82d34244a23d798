use Rattle.sudo_parser.specs.Body.Limits.{room_of}
use Rattle.sudo_parser.specs.Body.Unread.{tokens_left}
use Rattle.sudo_parser.proofs.EntryLaws.{entry-written, entry-only, entry-fault}
use Rattle.sudo_parser.proofs.line.entry.Goals as goal

pub returns-clause-written : goal.returns-clause-written
returns-clause-written c = entry-written (room_of c.args.room.now) (tokens_left c.args.unread.now) c.read.result c.read.ensures

pub returns-clause-only : goal.returns-clause-only
returns-clause-only c = λ e w. entry-only (room_of c.args.room.now) (tokens_left c.args.unread.now) c.read.result e c.read.ensures w

pub returns-clause-fault : goal.returns-clause-fault
returns-clause-fault c = entry-fault (room_of c.args.room.now) (tokens_left c.args.unread.now) c.read.result c.read.ensures
