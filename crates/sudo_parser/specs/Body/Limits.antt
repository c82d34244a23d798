-- The limit on definitions. Only proofs of bodies use these.
use Rattle.std.specs.Prelude.{ℕ}
use Rattle.sudo_grammar.specs.declared.kind.Kind.{Kind}
use Rattle.sudo_grammar.specs.declared.kind.Kind.TheVariants as kinds
use Rattle.sudo_parser.specs.declared.room.Room.{Room}

-- the number of definitions of a kind that are still allowed
abbrev pub room_of : Room → Kind → ℕ
room_of room kinds.User = room.user
room_of room kinds.Runas = room.runas
room_of room kinds.Host = room.host
room_of room kinds.Cmnd = room.cmnd
