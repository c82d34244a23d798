-- Tests of grants that may fail by what is noted: they hold of rows for the target alone, of each that is ALL and has no note, and of
-- none that stands for a note.
use Rattle.std.proofs.Common.{◌≡◌, ◌∙◌, ℕ, Bool, true, false, not, cond, ◌&&◌, List, [], ◌∷◌}
use Rattle.std.proofs.Common.{◌++◌, take, drop, ap, map, refl, sym, Some, None}
use Rattle.std.specs.Prelude.{find, is_some}
use Rattle.std.specs.Str.{bytes_eq}
use Rattle.std.proofs.lemmas.Bool.{and_parts}
use Rattle.std.proofs.lemmas.List.{take-append-drop}
use Rattle.sudo_base.proofs.IndexLemmas.{bytes_eq-is}
use Rattle.sudo_text.specs.declared.token.Ch.{Ch}
use Rattle.sudo_text.specs.Pieces.{plain}
use Rattle.sudo_grammar.specs.declared.kind.Atom.{Atom}
use Rattle.sudo_grammar.specs.declared.kind.Atom.TheVariants as atom
use Rattle.sudo_grammar.specs.declared.policy.Policy.{Policy}
use Rattle.sudo_grammar.specs.Words.{bytes_of, has_no_escape}
use Rattle.sudo_match.specs.Matching.{command_fits}
use Rattle.sudo_verdict.specs.Values.{is_all, user_allowed, host_allowed}
use Rattle.sudo_verdict.specs.RunasForms.{runas_allows}
use Rattle.sudo_verdict.specs.Questions.{Question}
use Rattle.sudo_verdict.specs.Grants.{Grant, applies}
use Rattle.review_texts.specs.declared.note.Note.{Note}
use Rattle.review_texts.specs.declared.note.Note.TheVariants.{Digest, Time, Chroot, Regex}
use Rattle.review_texts.specs.Notes.{front_of, note_in, note_path, notes}
use Rattle.review_texts.proofs.NoPath.{note_fits_nothing}
use Rattle.review_grants.specs.declared.marks.Marks.{Marks}
use Rattle.review_grants.specs.Depends.{is_note_grant, is_noted_at, is_unmarked, joined_marks, marks_at, notes_at, unmarked}
use Rattle.review_grants.specs.Unnoted.{FailsByNotes}
use Rattle.review_grants.specs.Targets.{with_command}
use Rattle.review_grants.proofs.ItemLemmas.{neither}
use Rattle.review_grants.proofs.TargetLemmas.{all_matches, runas_same}

-- ---- No command fits an atom that stands for a note

plain-bytes : (path : List Ch) → has_no_escape path ≡ true → path ≡ map plain (bytes_of path)
plain-bytes [] e = refl
plain-bytes (c ∷ cs) e =
    let both = and_parts (not c.escaped) (has_no_escape cs) e in
    ap (λ (rest : List Ch). c ∷ rest) (plain-bytes cs both.1)
    ∙ ap (λ (d : Ch). d ∷ map plain (bytes_of cs)) (go c.escaped refl both.0)
  where
    go : (b : Bool) → c.escaped ≡ b → not b ≡ true → c ≡ plain c.byte
    go true is e = cc
    go false is e = ap (λ b. record { byte = c.byte; escaped = b }) is

bytes-append : (front back : List Ch) → bytes_of (front ++ back) ≡ bytes_of front ++ bytes_of back
bytes-append [] back = refl
bytes-append (c ∷ front) back = ap (λ (bs : List ℕ). c.byte ∷ bs) (bytes-append front back)

-- the bytes of a path are its front and the rest
fronted : (path : List Ch) → bytes_of path ≡ front_of path ++ bytes_of (drop 7 path)
fronted path = ap bytes_of (sym (take-append-drop 7 path)) ∙ bytes-append (take 7 path) (drop 7 path)

path-unfit : (path : List Ch) (note : Note) → has_no_escape path ≡ true → bytes_eq (front_of path) (note_path note) ≡ true
    → (c x : List ℕ) → command_fits (atom.Command path None) c x ≡ false
path-unfit path note unescaped same c x =
    let front = bytes_eq-is (front_of path) (note_path note) same in
    let rest : List ℕ = bytes_of (drop 7 path) in
    ap (λ p. command_fits (atom.Command p None) c x)
    (plain-bytes path unescaped ∙ ap (map plain) (fronted path ∙ ap (λ (bs : List ℕ). bs ++ rest) front))
    ∙ note_fits_nothing note rest c x

found-unfit : (path : List Ch) (c x : List ℕ) → (b : Bool) → has_no_escape path ≡ b
    → is_some (cond b (find (λ note. bytes_eq (front_of path) (note_path note)) notes) None) ≡ true
    → command_fits (atom.Command path None) c x ≡ false
found-unfit path c x false is e = cc
found-unfit path c x true is e =
    go (bytes_eq (front_of path) (note_path Digest)) refl (bytes_eq (front_of path) (note_path Time)) refl
    (bytes_eq (front_of path) (note_path Chroot)) refl (bytes_eq (front_of path) (note_path Regex)) refl e
  where
    go : (d : Bool) → bytes_eq (front_of path) (note_path Digest) ≡ d → (t : Bool) → bytes_eq (front_of path) (note_path Time) ≡ t
        → (r : Bool) → bytes_eq (front_of path) (note_path Chroot) ≡ r → (y : Bool) → bytes_eq (front_of path) (note_path Regex) ≡ y
        → is_some (cond d (Some Digest) (cond t (Some Time) (cond r (Some Chroot) (cond y (Some Regex) None)))) ≡ true
        → command_fits (atom.Command path None) c x ≡ false
    go true at t is_t r is_r y is_y e = path-unfit path Digest is at c x
    go false is_d true at r is_r y is_y e = path-unfit path Time is at c x
    go false is_d false is_t true at y is_y e = path-unfit path Chroot is at c x
    go false is_d false is_t false is_r true at e = path-unfit path Regex is at c x
    go false is_d false is_t false is_r false is_y e = cc

note-unfit : (a : Atom) (c x : List ℕ) → is_some (note_in a) ≡ true → command_fits a c x ≡ false
note-unfit (atom.Command path None) c x e = found-unfit path c x (has_no_escape path) refl e
note-unfit _ c x e = cc

-- such an atom is not ALL
pub note-not-all : (a : Atom) → is_some (note_in a) ≡ true → is_all a ≡ false
note-not-all (atom.Command path None) e = refl
note-not-all _ e = cc

-- ---- Marks

-- a place without marks has no notes
pub unmarked-unnoted : (p : Policy) (g : Grant) → is_unmarked (marks_at p g.place) ≡ true → notes_at p g.place ≡ []
unmarked-unnoted p g e =
    go (is_noted_at p g.place Digest) refl (is_noted_at p g.place Time) refl (is_noted_at p g.place Chroot) refl
    (is_noted_at p g.place Regex) refl e
  where
    go : (d : Bool) → is_noted_at p g.place Digest ≡ d → (t : Bool) → is_noted_at p g.place Time ≡ t
        → (r : Bool) → is_noted_at p g.place Chroot ≡ r → (x : Bool) → is_noted_at p g.place Regex ≡ x
        → (not d && (not t && (not r && not x))) ≡ true → notes_at p g.place ≡ []
    go false is_d false is_t false is_r false is_x e = rw is_d (rw is_t (rw is_r (rw is_x refl)))
    go true is_d t is_t r is_r x is_x e = cc
    go false is_d true is_t r is_r x is_x e = cc
    go false is_d false is_t true is_r x is_x e = cc
    go false is_d false is_t false is_r true is_x e = cc

all-none : (d t r x : Bool) → d ≡ false → t ≡ false → r ≡ false → x ≡ false → (not d && (not t && (not r && not x))) ≡ true
all-none false false false false h i j k = refl
all-none true t r x h i j k = cc
all-none false true r x h i j k = cc
all-none false false true x h i j k = cc
all-none false false false true h i j k = cc

-- marks that are joined with others that are some are some
pub joined-marked : (a b : Marks) → is_unmarked b ≡ false → joined_marks a b ≡ unmarked → false ≡ true
joined-marked a b some none =
    sym some
    ∙ all-none b.digest b.time b.chroot b.regex
    (neither a.digest b.digest (ap (λ (m : Marks). m.digest) none)).1
    (neither a.time b.time (ap (λ (m : Marks). m.time) none)).1
    (neither a.chroot b.chroot (ap (λ (m : Marks). m.chroot) none)).1
    (neither a.regex b.regex (ap (λ (m : Marks). m.regex) none)).1

-- ---- Tests that may fail by notes

-- the grant's user list allows the user, its host list the host, and its runas the question
abbrev pub grant_stands : Policy → Question → Grant → Bool
grant_stands p q g = user_allowed p g.users q.user && (host_allowed p g.hosts q.host && runas_allows p q g.runas)

both_ways : (a h r : Bool) → ((a && h) && r) ≡ (a && (h && r))
both_ways true h r = refl
both_ways false h r = refl

module _ (p : Policy) (q : Question) (c x : List ℕ) (f : Grant → Bool) (fails : FailsByNotes p (with_command q c x) f) where
  applies-is : (g : Grant) → applies p (with_command q c x) g ≡ (grant_stands p q g && command_fits g.atom c x)
  unfolding applies
  applies-is g =
      ap (λ r. ((user_allowed p g.users q.user && host_allowed p g.hosts q.host) && r) && command_fits g.atom c x)
      (runas_same p q c x g.runas)
      ∙ ap (λ b. b && command_fits g.atom c x)
      (both_ways (user_allowed p g.users q.user) (host_allowed p g.hosts q.host) (runas_allows p q g.runas))

  parts : (g : Grant) → f g ≡ true → (grant_stands p q g ≡ true) × (command_fits g.atom c x ≡ true)
  parts g does =
      and_parts (grant_stands p q g) (command_fits g.atom c x) (sym (applies-is g) ∙ fails.only g does)

  -- it holds of no grant that does not stand
  pub unheld : (g : Grant) → grant_stands p q g ≡ false → f g ≡ false
  unheld g out = go (f g) refl
    where
      go : (b : Bool) → f g ≡ b → f g ≡ false
      go false is = is
      go true is = absurd (let bad : true ≡ false = sym (parts g is).0 ∙ out in cc)

  pub holds-of-all : (g : Grant) → grant_stands p q g ≡ true → is_all g.atom ≡ true → is_unmarked (marks_at p g.place) ≡ true
      → f g ≡ true
  holds-of-all g stands all none =
      fails.unnoted g (unmarked-unnoted p g none)
      (applies-is g ∙ ap (λ b. b && command_fits g.atom c x) stands ∙ all_matches c x g.atom all)

  pub holds-of-no-note : (g : Grant) → is_note_grant g ≡ true → f g ≡ false
  holds-of-no-note g note = go (f g) refl
    where
      go : (b : Bool) → f g ≡ b → f g ≡ false
      go false is = is
      go true is = absurd (let bad : true ≡ false = sym (parts g is).1 ∙ note-unfit g.atom c x note in cc)
