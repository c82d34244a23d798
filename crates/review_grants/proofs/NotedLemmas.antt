-- The notes at the places of grants are those of the written-out commands; and a policy whose lists have none has none.
use Rattle.std.proofs.Common.{◌≡◌, ◌∙◌, ◌+◌, ◌==◌, ℕ, zero, suc, Bool, true, false, cond, ◌&&◌, ◌||◌, if◌then◌else◌}
use Rattle.std.proofs.Common.{List, [], ◌∷◌, ◌++◌, length, map, filter, flat_map, Option, Some, None, ap, refl, sym}
use Rattle.std.specs.Prelude.{find, is_some, option_and_then, unwrap_or}
use Rattle.std.specs.HashMap.{get, hash_map_len}
use Rattle.std.specs.List.{enumerate_from, list_any}
use Rattle.std.proofs.lemmas.Bool.{and_parts, eqb-true}
use Rattle.std.proofs.lemmas.List.Folds.{list_any-append}
use Rattle.sudo_grammar.specs.declared.kind.Kind.{Kind}
use Rattle.sudo_grammar.specs.declared.kind.Kind.TheVariants as kind
use Rattle.sudo_grammar.specs.declared.kind.Member.{Member}
use Rattle.sudo_grammar.specs.declared.kind.Signed.{Signed}
use Rattle.sudo_grammar.specs.declared.policy.CommandSpec.{CommandSpec}
use Rattle.sudo_grammar.specs.declared.policy.Definition.{Definition}
use Rattle.sudo_grammar.specs.declared.policy.Entry.{Entry}
use Rattle.sudo_grammar.specs.declared.policy.EntryBody.{EntryBody}
use Rattle.sudo_grammar.specs.declared.policy.EntryBody.TheVariants.{Aliases, Defaults, Rule, Include}
use Rattle.sudo_grammar.specs.declared.policy.Policy.{Policy}
use Rattle.sudo_grammar.specs.declared.policy.Section.{Section}
use Rattle.sudo_policy.specs.Definitions.{AliasDefinition, alias_named, defines, definition_in, definitions, definitions_of}
use Rattle.sudo_policy.specs.Definitions.{definitions_of_body}
use Rattle.sudo_policy.specs.Definitions.{in_force}
use Rattle.sudo_policy.specs.Following.{definition_of_member, list_reading, member_reading, reading_within}
use Rattle.sudo_policy.specs.Written.{alone_written, is_negated, member_written, negated_if, writing, written_form}
use Rattle.sudo_policy.proofs.FollowingLemmas.{option_join-parts, option_map-some}
use Rattle.sudo_text.specs.declared.line.Place.{Place}
use Rattle.sudo_verdict.specs.Grants.{Grant, body_grants, entry_grants, grant_of, grants, place_grants, section_grants}
use Rattle.review_texts.specs.declared.note.Note.{Note}
use Rattle.review_texts.specs.declared.note.Note.TheVariants.{Digest, Time, Chroot, Regex}
use Rattle.review_texts.specs.Notes.{note_in, notes}
use Rattle.review_grants.specs.declared.marks.Marks.{Marks}
use Rattle.review_grants.specs.declared.depends.NotedPlaces.{NotedPlaces}
use Rattle.review_grants.specs.declared.noted.Noted.{Noted}
use Rattle.review_grants.specs.Depends.{IsNoted, has_mark, has_note, is_marked, is_note, is_noted_at, key_of, noted_in}
use Rattle.review_grants.specs.Depends.{IsMarked, marks_at, marks_in, same_key, same_note, same_place}
use Rattle.review_grants.specs.Body.Noted.{body_has_note, body_notes, command_has_note, command_notes, definition_has_note, entry_has_note}
use Rattle.review_grants.specs.Body.Noted.{entry_notes, is_note_member, is_noted, list_has_note, member_notes, noted_if, policy_notes}
use Rattle.review_grants.specs.Body.Noted.{section_has_note, section_notes}
use Rattle.review_grants.proofs.ItemLemmas.{neither, or-false}

and-no : (b : Bool) → (b && false) ≡ false
and-no true = refl
and-no false = refl

-- ---- The notes of grants

-- two lists that are made side by side pass tests alike
any-flats : {A B X : Type 0} (f : A → Bool) (g : B → Bool) (h : X → List A) (k : X → List B)
    → ((x : X) → list_any f (h x) ≡ list_any g (k x)) → (xs : List X) → list_any f (flat_map h xs) ≡ list_any g (flat_map k xs)
any-flats f g h k same [] = refl
any-flats f g h k same (x ∷ xs) =
    list_any-append f (h x) (flat_map h xs)
    ∙ ap (λ b. b || list_any f (flat_map h xs)) (same x)
    ∙ ap (λ b. list_any g (k x) || b) (any-flats f g h k same xs)
    ∙ sym (list_any-append g (k x) (flat_map k xs))

module _ (p : Policy) (at : Place) (note : Note) where
  abbrev grant_noted : Grant → Bool
  grant_noted g = same_place g.place at && has_note note g

  of-one : (place : Place) (o : Option Note)
      → list_any (is_noted at note) (noted_if place o) ≡ (same_place place at && is_note note o)
  of-one place None = sym (and-no (same_place place at))
  of-one place (Some found) = or-false (same_place place at && same_note note found)

  of-atoms : (place : Place) (users : List Member) (s : Section) (i : ℕ) (ws : List Signed)
      → list_any grant_noted (map (grant_of place users s i) ws) ≡ list_any (is_noted at note) (flat_map (member_notes place) ws)
  of-atoms place users s i [] = refl
  of-atoms place users s i (w ∷ ws) =
      ap (λ b. (same_place place at && is_note note (note_in w.atom)) || b) (of-atoms place users s i ws)
      ∙ ap (λ b. b || list_any (is_noted at note) (flat_map (member_notes place) ws)) (sym (of-one place (note_in w.atom)))
      ∙ sym (list_any-append (is_noted at note) (member_notes place w) (flat_map (member_notes place) ws))

  of-commands : (place : Place) (users : List Member) (s : Section) (i : ℕ) (cs : List CommandSpec)
      → list_any grant_noted (flat_map (place_grants p place users s) (enumerate_from i cs))
      ≡ list_any (is_noted at note) (flat_map (command_notes p place) cs)
  unfolding place_grants
  of-commands place users s i [] = refl
  of-commands place users s i (c ∷ cs) =
      list_any-append grant_noted (place_grants p place users s (i, c))
      (flat_map (place_grants p place users s) (enumerate_from (i + 1) cs))
      ∙ ap (λ b. b || list_any grant_noted (flat_map (place_grants p place users s) (enumerate_from (i + 1) cs)))
      (of-atoms place users s i (written_form kind.Cmnd p (c.command ∷ [])))
      ∙ ap (λ b. list_any (is_noted at note) (command_notes p place c) || b) (of-commands place users s (i + 1) cs)
      ∙ sym (list_any-append (is_noted at note) (command_notes p place c) (flat_map (command_notes p place) cs))

  of-section : (place : Place) (users : List Member) (s : Section)
      → list_any grant_noted (section_grants p place users s) ≡ list_any (is_noted at note) (section_notes p place s)
  unfolding section_grants
  of-section place users s = of-commands place users s 0 s.commands

  of-body : (place : Place) (body : EntryBody)
      → list_any grant_noted (body_grants p place body) ≡ list_any (is_noted at note) (body_notes p place body)
  of-body place (Aliases k definitions) = refl
  of-body place (Defaults binding parameters) = refl
  of-body place (Rule users sections) =
      any-flats grant_noted (is_noted at note) (section_grants p place users) (section_notes p place) (of-section place users) sections
  of-body place (Include folder hash path) = refl

  pub noted-grants : list_any (is_noted at note) (policy_notes p) ≡ is_noted_at p at note
  unfolding grants
  noted-grants =
      sym (any-flats grant_noted (is_noted at note) (entry_grants p) (entry_notes p) (λ (e : Entry). of-body e.place e.body) p.entries)

-- ---- A policy whose lists have no note

-- lists that are made of items without a note are empty
flat-none : {X Y : Type 0} (has : X → Bool) (f : X → List Y) → ((x : X) → has x ≡ false → f x ≡ []) → (xs : List X)
    → list_any has xs ≡ false → flat_map f xs ≡ []
flat-none has f none [] h = refl
flat-none has f none (x ∷ xs) h =
    let k = neither (has x) (list_any has xs) h in
    rw (none x k.0) (flat-none has f none xs k.1)

any-under : {X Y : Type 0} (has : X → Bool) (test : Y → Bool) (f : X → List Y)
    → ((x : X) → has x ≡ false → list_any test (f x) ≡ false) → (xs : List X)
    → list_any has xs ≡ false → list_any test (flat_map f xs) ≡ false
any-under has test f none [] h = refl
any-under has test f none (x ∷ xs) h =
    let k = neither (has x) (list_any has xs) h in
    list_any-append test (f x) (flat_map f xs)
    ∙ ap (λ b. b || list_any test (flat_map f xs)) (none x k.0) ∙ any-under has test f none xs k.1

found-none : {X : Type 0} (has test : X → Bool) (xs : List X) (x : X) → list_any has xs ≡ false → find test xs ≡ Some x
    → has x ≡ false
found-none has test [] x h is = cc
found-none {X} has test (y ∷ ys) x h is =
    let k = neither (has y) (list_any has ys) h in go (test y) k.0 is (found-none has test ys x k.1)
  where
    go : (b : Bool) → has y ≡ false → (if b then Some y else find test ys) ≡ Some x
        → (find test ys ≡ Some x → has x ≡ false) → has x ≡ false
    go true none is rest = let same : y ≡ x = cc in ap has (sym same) ∙ none
    go false none is rest = rest is

-- a written-out command stands for a note
abbrev is_note_atom : Signed → Bool
is_note_atom s = is_some (note_in s.atom)

signs-stay : (b : Bool) (ws : List Signed) → list_any is_note_atom (map (negated_if b) ws) ≡ list_any is_note_atom ws
signs-stay b [] = refl
signs-stay b (w ∷ ws) = ap (λ o. is_note_atom w || o) (signs-stay b ws)

abbrev defines_note : AliasDefinition → Bool
defines_note d = list_has_note d.members

module _ (p : Policy) (none : list_any entry_has_note p.entries ≡ false) where
  of-definitions : (k : Kind) (place : Place) (ds : List Definition) → list_any definition_has_note ds ≡ false
      → list_any defines_note (map (definition_in k place) ds) ≡ false
  of-definitions k place [] h = refl
  of-definitions k place (d ∷ ds) h =
      let parts = neither (definition_has_note d) (list_any definition_has_note ds) h in
      ap (λ b. b || list_any defines_note (map (definition_in k place) ds)) parts.0 ∙ of-definitions k place ds parts.1

  of-lines : (place : Place) (body : EntryBody) → body_has_note body ≡ false
      → list_any defines_note (definitions_of_body place body) ≡ false
  of-lines place (Aliases k ds) h = of-definitions k place ds h
  of-lines place (Defaults binding parameters) h = refl
  of-lines place (Rule users sections) h = refl
  of-lines place (Include folder hash path) h = refl

  no-definition : list_any defines_note (definitions p) ≡ false
  no-definition = any-under entry_has_note defines_note definitions_of (λ (e : Entry) h. of-lines e.place e.body h) p.entries none

  of-name : (name : List ℕ) (ms : List Member) → in_force kind.Cmnd p name ≡ Some ms → list_has_note ms ≡ false
  of-name name ms is =
      let k = option_map-some (λ (d : AliasDefinition). d.members) (find (defines kind.Cmnd name) (definitions p)) ms is in
      ap list_has_note k.2 ∙ found-none defines_note (defines kind.Cmnd name) (definitions p) k.0 no-definition k.1

  of-alias : (o : Option (List ℕ)) (ms : List Member) → option_and_then (in_force kind.Cmnd p) o ≡ Some ms
      → list_has_note ms ≡ false
  of-alias None ms is = cc
  of-alias (Some name) ms is = of-name name ms is

  abbrev KeepsNone : (List Member → Option (List Signed)) → Type 0
  KeepsNone inner = (ms : List Member) (ws : List Signed) → list_has_note ms ≡ false → inner ms ≡ Some ws
      → list_any is_note_atom ws ≡ false

  of-alone : (m : Member) (o : Option (List ℕ)) (ws : List Signed) → is_note_member m ≡ false → alone_written m o ≡ Some ws
      → list_any is_note_atom ws ≡ false
  of-alone m None ws h is =
      let own : ws ≡ record { negated = is_negated m; atom = m.atom } ∷ [] = cc in
      ap (list_any is_note_atom) own ∙ or-false (is_note_member m) ∙ h
  of-alone m (Some name) ws h is = cc

  of-member : (inner : List Member → Option (List Signed)) → KeepsNone inner → (m : Member) (o : Option (List Member))
      → ((ds : List Member) → o ≡ Some ds → list_has_note ds ≡ false) → (ws : List Signed) → is_note_member m ≡ false
      → member_reading writing inner m o ≡ Some ws → list_any is_note_atom ws ≡ false
  of-member inner keeps m None defined ws h is = of-alone m (alias_named m.atom) ws h is
  of-member inner keeps m (Some ds) defined ws h is =
      let k = option_map-some (map (negated_if (is_negated m))) (inner ds) ws is in
      ap (list_any is_note_atom) k.2 ∙ signs-stay (is_negated m) k.0 ∙ keeps ds k.0 (defined ds refl) k.1

  of-list : (inner : List Member → Option (List Signed)) → KeepsNone inner → KeepsNone (list_reading writing kind.Cmnd p inner)
  of-list inner keeps [] ws h is = let own : ws ≡ [] = cc in ap (list_any is_note_atom) own
  of-list inner keeps (m ∷ ms) ws h is =
      let parts = neither (is_note_member m) (list_has_note ms) h in
      let k = option_join-parts ◌++◌ (member_reading writing inner m (definition_of_member kind.Cmnd p m))
      (list_reading writing kind.Cmnd p inner ms) ws is in
      let first = of-member inner keeps m (definition_of_member kind.Cmnd p m) (of-alias (alias_named m.atom)) k.first parts.0
      k.first_is in
      ap (list_any is_note_atom) k.whole ∙ list_any-append is_note_atom k.first k.second
      ∙ ap (λ b. b || list_any is_note_atom k.second) first ∙ of-list inner keeps ms k.second parts.1 k.second_is

  of-reading : (n : ℕ) → KeepsNone (reading_within writing kind.Cmnd p n)
  unfolding reading_within
  of-reading zero = of-list (λ _. None) (λ ms ws h is. cc)
  of-reading (suc n) = of-list (reading_within writing kind.Cmnd p n) (of-reading n)

  of-written : (o : Option (List Signed)) → ((ws : List Signed) → o ≡ Some ws → list_any is_note_atom ws ≡ false)
      → list_any is_note_atom (unwrap_or o []) ≡ false
  of-written None each = refl
  of-written (Some ws) each = each ws refl

  of-form : (m : Member) → is_note_member m ≡ false → list_any is_note_atom (written_form kind.Cmnd p (m ∷ [])) ≡ false
  unfolding written_form
  of-form m h =
      list_any-append is_note_atom (member_written kind.Cmnd p m) []
      ∙ or-false (list_any is_note_atom (member_written kind.Cmnd p m))
      ∙ of-written (reading_within writing kind.Cmnd p 64 (m ∷ []))
      (λ ws is. of-reading 64 (m ∷ []) ws (or-false (is_note_member m) ∙ h) is)

  of-atom : (place : Place) (o : Option Note) → is_some o ≡ false → noted_if place o ≡ []
  of-atom place None h = refl
  of-atom place (Some note) h = cc

  of-command : (place : Place) (c : CommandSpec) → command_has_note c ≡ false → command_notes p place c ≡ []
  of-command place c h =
      flat-none is_note_atom (member_notes place) (λ (s : Signed) k. of-atom place (note_in s.atom) k)
      (written_form kind.Cmnd p (c.command ∷ [])) (of-form c.command h)

  of-rule : (place : Place) (body : EntryBody) → body_has_note body ≡ false → body_notes p place body ≡ []
  of-rule place (Aliases k ds) h = refl
  of-rule place (Defaults binding parameters) h = refl
  of-rule place (Rule users sections) h =
      flat-none section_has_note (section_notes p place)
      (λ (s : Section) k. flat-none command_has_note (command_notes p place) (of-command place) s.commands k) sections h
  of-rule place (Include folder hash path) h = refl

  pub no-notes : policy_notes p ≡ []
  no-notes = flat-none entry_has_note (entry_notes p) (λ (e : Entry) h. of-rule e.place e.body h) p.entries none

-- ---- The table

place-is : (a b : Place) → same_place a b ≡ true → a ≡ b
place-is a b h =
    let k = and_parts (a.file == b.file) (a.line == b.line) h in
    let first = λ (n : ℕ). let made : Place = record { file = n; line = a.line } in made in
    let second = λ (n : ℕ). let made : Place = record { file = b.file; line = n } in made in
    ap first (eqb-true a.file b.file k.0) ∙ ap second (eqb-true a.line b.line k.1)

-- a note more at its place
pub note-more : (x : Noted) (at : Place) (note : Note) (had : ℕ × ℕ → Option Marks) (has : Option Marks) (found : Marks)
    → has_mark found note ≡ (is_marked (had (key_of x.place)) note || same_note note x.note)
    → has ≡ cond (same_place x.place at) (Some found) (had (key_of at))
    → is_marked has note ≡ (is_marked (had (key_of at)) note || is_noted at note x)
note-more x at note had has found marks is =
    ap (λ o. is_marked o note) is ∙ go (same_place x.place at) refl
  where
    go : (b : Bool) → same_place x.place at ≡ b
        → is_marked (cond b (Some found) (had (key_of at))) note
        ≡ (is_marked (had (key_of at)) note || (b && same_note note x.note))
    go true same =
        marks ∙ ap (λ (q : Place). is_marked (had (key_of q)) note || same_note note x.note) (place-is x.place at same)
    go false other = sym (or-false (is_marked (had (key_of at)) note))

filter-alike : {X : Type 0} (f g : X → Bool) → ((x : X) → f x ≡ g x) → (xs : List X) → filter f xs ≡ filter g xs
filter-alike f g same [] = refl
filter-alike f g same (x ∷ xs) =
    ap (λ b. cond b (x ∷ filter f xs) (filter f xs)) (same x)
    ∙ ap (λ (ys : List _). cond (g x) (x ∷ ys) ys) (filter-alike f g same xs)

-- a table of all notes of a policy
-- marks of the same notes are the same
pub same-marks : (a b : Marks) → a.digest ≡ b.digest → a.time ≡ b.time → a.chroot ≡ b.chroot → a.regex ≡ b.regex → a ≡ b
same-marks a b first second third fourth =
    ap (λ d. record { digest = d; time = a.time; chroot = a.chroot; regex = a.regex }) first
    ∙ ap (λ t. record { digest = b.digest; time = t; chroot = a.chroot; regex = a.regex }) second
    ∙ ap (λ c. record { digest = b.digest; time = b.time; chroot = c; regex = a.regex }) third
    ∙ ap (λ r. record { digest = b.digest; time = b.time; chroot = b.chroot; regex = r }) fourth

pub all-noted : (p : Policy) (t : NotedPlaces) (found : List Noted) → found ≡ policy_notes p
    → ((at : Place) (note : Note) → is_marked (get same_key t.marks (key_of at)) note ≡ list_any (is_noted at note) found)
    → IsNoted p t
all-noted p t found are marks = λ at. filter-alike (is_marked (get same_key t.marks (key_of at))) (is_noted_at p at)
    (λ note. marks at note ∙ ap (list_any (is_noted at note)) are ∙ noted-grants p at note) notes

pub all-marked : (p : Policy) (t : NotedPlaces) (found : List Noted) → found ≡ policy_notes p
    → ((at : Place) (note : Note) → is_marked (get same_key t.marks (key_of at)) note ≡ list_any (is_noted at note) found)
    → IsMarked p t
all-marked p t found are marks = λ at.
    same-marks (marks_in t at) (marks_at p at) (one at Digest) (one at Time) (one at Chroot) (one at Regex)
  where
    one : (at : Place) (note : Note) → is_marked (get same_key t.marks (key_of at)) note ≡ is_noted_at p at note
    one at note = marks at note ∙ ap (list_any (is_noted at note)) are ∙ noted-grants p at note

-- an empty table has no note
pub none-in : (t : NotedPlaces) (at : Place) → hash_map_len t.marks ≡ 0 → noted_in t at ≡ []
none-in t at empty = go t.marks.entries empty refl
  where
    go : (es : List ((ℕ × ℕ) × Marks)) → length es ≡ 0 → t.marks.entries ≡ es → noted_in t at ≡ []
    go [] none is = rw is refl
    go (e ∷ es) none is = cc
