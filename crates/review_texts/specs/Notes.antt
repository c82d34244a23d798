-- What decides for sudo and is not judged: the digest of a command's file, the time, another root, a regular expression. In a
-- masked text a command that fits nothing stands for it, in the list before the first command that it is about.
use Rattle.std.specs.Prelude.{ℕ, List, [], ◌∷◌, codes, find, take, if◌then◌else◌, Option, None}
use Rattle.std.specs.Str.{bytes_eq}
use Rattle.sudo_text.specs.declared.token.Ch.{Ch}
use Rattle.sudo_grammar.specs.declared.kind.Atom.{Atom}
use Rattle.sudo_grammar.specs.declared.kind.Atom.TheVariants as atoms
use Rattle.sudo_grammar.specs.Words.{bytes_of, has_no_escape}
use Rattle.review_texts.specs.declared.note.Note.{Note}
use Rattle.review_texts.specs.declared.note.Note.TheVariants.{Digest, Time, Chroot, Regex}

-- the notes, in the order in which they are listed
abbrev pub notes : List Note
notes = Digest ∷ Time ∷ Chroot ∷ Regex ∷ []

abbrev pub note_name : Note → List ℕ
note_name Digest = codes "digest"
note_name Time = codes "time"
note_name Chroot = codes "chroot"
note_name Regex = codes "regex"

-- the seven bytes with which a path begins that stands for a note: no command has such a path, since its brackets have no
-- character. Behind them stands what is noted, so that unlike digests, times, roots and expressions are unlike
-- commands
abbrev pub note_path : Note → List ℕ
note_path Digest = codes "/d[z-a]"
note_path Time = codes "/t[z-a]"
note_path Chroot = codes "/c[z-a]"
note_path Regex = codes "/r[z-a]"

-- the first seven bytes of a path
abbrev pub front_of : List Ch → List ℕ
front_of path = bytes_of (take 7 path)

-- the note for which a path without arguments stands
abbrev pub note_of : List Ch → Option Note
note_of path = if has_no_escape path then find (λ note. bytes_eq (front_of path) (note_path note)) notes else None

-- the note for which a command stands
abbrev pub note_in : Atom → Option Note
note_in (atoms.Command path None) = note_of path
note_in _ = None
