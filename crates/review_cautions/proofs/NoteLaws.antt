-- Paths without an opening bracket stand for no note: lists without marks have none.
use Rattle.std.proofs.Common.{◌≡◌, ◌∙◌, ◌==◌, ◌&&◌, ℕ, zero, suc, Bool, true, false, List, []}
use Rattle.std.proofs.Common.{◌∷◌, take, None, Some, ap, cond, refl, sym, arith}
use Rattle.std.specs.Prelude.{bytes_eq}
use Rattle.std.specs.List.{list_all, list_any}
use Rattle.sudo_base.proofs.IndexLemmas.{bytes_eq-is}
use Rattle.sudo_text.specs.declared.token.Ch.{Ch}
use Rattle.sudo_grammar.specs.Words.{bytes_of, has_no_escape}
use Rattle.sudo_grammar.specs.declared.kind.Atom.{Atom}
use Rattle.sudo_grammar.specs.declared.kind.Atom.TheVariants as atoms
use Rattle.sudo_grammar.specs.declared.kind.Member.{Member}
use Rattle.sudo_policy.specs.Definitions.{MemberList}
use Rattle.review_texts.specs.Notes.{front_of, note_of, note_path}
use Rattle.review_texts.specs.declared.note.Note.{Note}
use Rattle.review_texts.specs.declared.note.Note.TheVariants.{Digest, Time, Chroot, Regex}
use Rattle.review_cautions.specs.ListTests.{is_of_commands}
use Rattle.review_cautions.specs.NoteTests.{is_note, stands_for, list_has_note}
use Rattle.review_cautions.specs.Marks.{is_plain, atom_is_plain, token_is_plain, is_marked, list_is_marked}
use Rattle.review_cautions.proofs.MarkLaws.{both, either, first, second, none_passes, plain_atom, plain_path}

-- a test tells two texts apart that differ in something
differ : {A : Type 0} (f : List ℕ → A) (xs ys : List ℕ) → (f xs ≡ f ys → bytes_eq xs ys ≡ false) → bytes_eq xs ys ≡ false
differ f xs ys apart = by (bytes_eq xs ys) refl
  where
    by : (b : Bool) → bytes_eq xs ys ≡ b → bytes_eq xs ys ≡ false
    by true e = apart (ap f (bytes_eq-is xs ys e))
    by false e = e

none_found : (e d t c r : Bool) → d ≡ false → t ≡ false → c ≡ false → r ≡ false
    → cond e (cond d (Some Digest) (cond t (Some Time) (cond c (Some Chroot) (cond r (Some Regex) None)))) None ≡ None
none_found true false false false false hd ht hc hr = refl
none_found false false false false false hd ht hc hr = refl
none_found e true t c r hd ht hc hr = absurd cc
none_found e d true c r hd ht hc hr = absurd cc
none_found e d t true r hd ht hc hr = absurd cc
none_found e d t c true hd ht hc hr = absurd cc

-- a path that is that of no note stands for none
no_note : (path : List Ch) → ((note : Note) → bytes_eq (front_of path) (note_path note) ≡ false) → note_of path ≡ None
no_note path other = none_found (has_no_escape path) (bytes_eq (front_of path) (note_path Digest))
    (bytes_eq (front_of path) (note_path Time)) (bytes_eq (front_of path) (note_path Chroot))
    (bytes_eq (front_of path) (note_path Regex)) (other Digest) (other Time) (other Chroot) (other Regex)

abbrev is_bracket : ℕ → Bool
is_bracket b = b == 91

bracketed : (note : Note) → list_any is_bracket (note_path note) ≡ true
bracketed Digest = refl
bracketed Time = refl
bracketed Chroot = refl
bracketed Regex = refl

no_bracket : (c : Ch) → is_plain c ≡ true → is_bracket c.byte ≡ false
no_bracket c h = grind arith

no_brackets : (path : List Ch) → list_all is_plain path ≡ true → list_any is_bracket (bytes_of path) ≡ false
no_brackets [] h = refl
no_brackets (c ∷ cs) h = either (is_bracket c.byte) (list_any is_bracket (bytes_of cs))
    (no_bracket c (first (is_plain c) (list_all is_plain cs) h)) (no_brackets cs (second (is_plain c) (list_all is_plain cs) h))

both_pass : (a b : Bool) → a ≡ true → b ≡ true → (a && b) ≡ true
both_pass true b ha hb = hb
both_pass false b ha hb = absurd cc

-- a front of a path is as plain as the path
front_plain : (n : ℕ) (path : List Ch) → list_all is_plain path ≡ true → list_all is_plain (take n path) ≡ true
front_plain zero path h = refl
front_plain (suc n) [] h = refl
front_plain (suc n) (c ∷ cs) h = both_pass (is_plain c) (list_all is_plain (take n cs)) (first (is_plain c) (list_all is_plain cs) h)
    (front_plain n cs (second (is_plain c) (list_all is_plain cs) h))

-- the paths of notes have a bracket
plain_note : (path : List Ch) → list_all is_plain path ≡ true → note_of path ≡ None
plain_note path h = no_note path (λ note. differ (list_any is_bracket) (front_of path) (note_path note)
    (λ same. absurd (let wrong : false ≡ true = sym (no_brackets (take 7 path) (front_plain 7 path h)) ∙ same ∙ bracketed note in cc)))

no_such : (note : Note) → is_note note None ≡ false
no_such Digest = refl
no_such Time = refl
no_such Chroot = refl
no_such Regex = refl

plain_stands : (note : Note) (a : Atom) → atom_is_plain a ≡ true → stands_for note a ≡ false
plain_stands note (atoms.Command path None) h = ap (is_note note) (plain_note path (plain_path path None h)) ∙ no_such note
plain_stands note (atoms.Command path (Some args)) h = no_such note
plain_stands note atoms.All h = no_such note
plain_stands note (atoms.Alias name) h = no_such note
plain_stands note (atoms.Name name) h = no_such note
plain_stands note (atoms.Uid id) h = no_such note
plain_stands note (atoms.Group name) h = no_such note
plain_stands note (atoms.Gid id) h = no_such note
plain_stands note (atoms.Host chars quoted) h = no_such note
plain_stands note (atoms.Address addr) h = no_such note
plain_stands note (atoms.Net addr mask) h = no_such note

-- a list without marks has no note
pub unmarked_notes : (note : Note) (l : MemberList) → list_is_marked l ≡ false → list_has_note note l ≡ false
unmarked_notes note l h = both (is_of_commands l.kind) (list_any (λ (m : Member). stands_for note m.atom) l.members)
    (none_passes (λ (m : Member). stands_for note m.atom) is_marked
    (λ m k. plain_stands note m.atom (plain_atom (atom_is_plain m.atom) (token_is_plain m.token.kind) k)) l.members h)
