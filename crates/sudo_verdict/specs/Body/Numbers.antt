-- The numbers under which a rule is found: those of users, of their groups, and of commands. Only proofs of bodies use these.
use Rattle.std.specs.Prelude.{ℕ}
use Rattle.sudo_grammar.specs.declared.kind.Atom.{Atom}
use Rattle.sudo_grammar.specs.declared.kind.Atom.TheVariants as atom
use Rattle.sudo_verdict.specs.Numbers.{user_number, group_number, uid_number, gid_number, path_number}

-- the number under which an atom of a user list or of a command list is found; 0 for atoms that match all, or none
unfoldable pub atom_number : Atom → ℕ
atom_number (atom.Name name) = user_number name
atom_number (atom.Uid uid) = uid_number uid
atom_number (atom.Group name) = group_number name
atom_number (atom.Gid gid) = gid_number gid
atom_number (atom.Command path args) = path_number path
atom_number _ = 0
