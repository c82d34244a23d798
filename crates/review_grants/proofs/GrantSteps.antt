-- The table of grants, section by section, is the table of all grants.
use Rattle.std.proofs.Common.{◌≡◌, ◌∙◌, ℕ, Bool, true, false, cond, not, ◌&&◌, is_some}
use Rattle.std.proofs.Common.{List, [], ◌∷◌, ◌++◌, ap, append_assoc, append-nil, filter, flat_map}
use Rattle.std.proofs.Common.{◌+◌, ◌<◌, ◌≤◌, arith, codes, drop, get_or, length, map, refl, subst, sym, take, zip, Option}
use Rattle.std.specs.List.{enumerate_from, list_all}
use Rattle.std.proofs.lemmas.List.{take-append-drop}
use Rattle.std.proofs.lemmas.List.Elements.{filter-append}
use Rattle.std.proofs.lemmas.List.Concat.{flat_map-append}
use Rattle.std.proofs.lemmas.List.FromFn.{get_or-enumerate_from, length-enumerate_from}
use Rattle.csv.specs.Writing.{default_writer, field_text, fields_text, is_blank}
use Rattle.audit_files.specs.Places.{place_text}
use Rattle.audit_files.specs.Report.{line, tags_text}
use Rattle.sudo_grammar.specs.declared.kind.Kind.TheVariants as kind
use Rattle.sudo_grammar.specs.declared.kind.Member.{Member}
use Rattle.sudo_grammar.specs.declared.kind.Signed.{Signed}
use Rattle.sudo_grammar.specs.declared.policy.CommandSpec.{CommandSpec}
use Rattle.sudo_grammar.specs.declared.policy.Entry.{Entry}
use Rattle.sudo_grammar.specs.declared.policy.Policy.{Policy}
use Rattle.sudo_grammar.specs.declared.policy.Section.{Section}
use Rattle.sudo_match.specs.KnownRows.{KnownRows}
use Rattle.sudo_match.specs.declared.people.Person.{Person}
use Rattle.sudo_match.specs.declared.people.Machine.{Machine}
use Rattle.sudo_match.specs.declared.request.Tags.{Tags}
use Rattle.sudo_parser.specs.Texts.{atom_text, signed_text}
use Rattle.sudo_policy.specs.Written.{negated_if, written_form}
use Rattle.sudo_text.specs.declared.line.Place.{Place}
use Rattle.sudo_verdict.specs.Grants.{Grant, entry_grants, grant_of, grants, place_grants, section_grants}
use Rattle.sudo_verdict.specs.Tagged.{runas_at, tags_at}
use Rattle.review_texts.specs.Masks.{as_written}
use Rattle.review_texts.specs.Notes.{note_in}
use Rattle.review_grants.proofs.ListSteps.{flat_map-next, take-whole}
use Rattle.review_grants.specs.declared.in_force.InForce.{InForce as TheState}
use Rattle.review_grants.specs.Body.Heads.{HoldsBehind, command_head, command_row, command_rows, grant_line, lines_of, place_rows}
use Rattle.review_grants.specs.Body.Heads.{member_row, row_end, rows_on, rule_head, section_head, section_rows, separated}
use Rattle.review_grants.specs.Depends.{depends_at}
use Rattle.review_grants.specs.GrantRows.{hosts_text, is_for_host, is_for_user, is_shown, runas_text}
use Rattle.review_grants.specs.GrantRows.{grants_header, grants_text, joined, marked, marked_text, members_text, sign_text, users_text}

and-no : (b : Bool) → (b && false) ≡ false
and-no true = refl
and-no false = refl

-- a list written out as it stands
pub kept-signs : (ss : List Signed) → map (negated_if false) ss ≡ ss
kept-signs [] = refl
kept-signs (s ∷ ss) = ap (λ (rest : List Signed). s ∷ rest) (kept-signs ss)

pub fields_text-append : (xs ys : List (List ℕ))
    → fields_text default_writer (xs ++ ys) ≡ fields_text default_writer xs ++ fields_text default_writer ys
unfolding fields_text
fields_text-append [] ys = refl
fields_text-append (x ∷ xs) ys =
    ap (λ (t : List ℕ). 44 ∷ (field_text default_writer x ++ t)) (fields_text-append xs ys)
    ∙ ap (λ (t : List ℕ). 44 ∷ t)
    (sym (append_assoc (field_text default_writer x) (fields_text default_writer xs) (fields_text default_writer ys)))

-- the record of a first field and of others, the first of which is there
line_text : (first second : List ℕ) (rest : List (List ℕ))
    → line (first ∷ second ∷ rest) ≡ (field_text default_writer first ++ fields_text default_writer (second ∷ rest)) ++ 10 ∷ []
unfolding is_blank
line_text first second rest = refl

regrouped : (a b c d e f g : List ℕ) → (((a ++ b) ++ c) ++ d) ++ (e ++ (f ++ g)) ≡ (a ++ (b ++ (c ++ (d ++ (e ++ f))))) ++ g
regrouped a b c d e f g = simp append_assoc

module _ (p : Policy) (d : KnownRows) where
  -- the record of a grant is that of its written-out command between the fields of its lists and its runas and the last ones
  row-of : (place : Place) (users : List Member) (s : Section) (i : ℕ) (w : Signed)
      → grant_line p d (grant_of place users s i w)
      ≡ command_row (command_head p (section_head p d (rule_head p d place users) s.hosts) s.commands i)
      (row_end (tags_text (tags_at s.commands i)) (depends_at p place)) w
  row-of place users s i w =
      let text : List (List ℕ) → List ℕ = fields_text default_writer in
      let u : List ℕ = users_text p d users in
      let h : List ℕ = hosts_text p d s.hosts in
      let r : List ℕ = runas_text p (runas_at s.commands i) in
      let own : List (List ℕ) = sign_text w.negated ∷ as_written (atom_text w.atom) ∷ [] in
      let last : List (List ℕ) = tags_text (tags_at s.commands i) ∷ depends_at p place ∷ [] in
      let all : text (u ∷ h ∷ r ∷ (own ++ last)) ≡ text (u ∷ []) ++ (text (h ∷ []) ++ (text (r ∷ []) ++ (text own ++ text last))) =
      fields_text-append (u ∷ []) (h ∷ r ∷ (own ++ last))
      ∙ ap (λ (t : List ℕ). text (u ∷ []) ++ t) (fields_text-append (h ∷ []) (r ∷ (own ++ last))
      ∙ ap (λ (t : List ℕ). text (h ∷ []) ++ t) (fields_text-append (r ∷ []) (own ++ last)
      ∙ ap (λ (t : List ℕ). text (r ∷ []) ++ t) (fields_text-append own last))) in
      line_text (place_text p.files place) u (h ∷ r ∷ (own ++ last))
      ∙ ap (λ (t : List ℕ). (field_text default_writer (place_text p.files place) ++ t) ++ 10 ∷ []) all
      ∙ sym (regrouped (field_text default_writer (place_text p.files place)) (text (u ∷ [])) (text (h ∷ []))
      (text (r ∷ [])) (text own) (text last) (10 ∷ []))

  module _ (u : Option Person) (m : Option Machine) where
    lines-append : (xs ys : List Grant) → lines_of p d u m (xs ++ ys) ≡ lines_of p d u m xs ++ lines_of p d u m ys
    lines-append xs ys =
        ap (flat_map (grant_line p d)) (filter-append (is_shown p u m) xs ys)
        ∙ flat_map-append (grant_line p d) (filter (is_shown p u m) xs) (filter (is_shown p u m) ys)

    pub lines-flat : {X : Type 0} (f : X → List Grant) (xs : List X)
        → lines_of p d u m (flat_map f xs) ≡ flat_map (λ x. lines_of p d u m (f x)) xs
    lines-flat f [] = refl
    lines-flat f (x ∷ xs) = lines-append (f x) (flat_map f xs) ∙ ap (λ (t : List ℕ). lines_of p d u m (f x) ++ t) (lines-flat f xs)

    module _ (place : Place) (users : List Member) (s : Section) where
      abbrev lists_head : List ℕ
      lists_head = section_head p d (rule_head p d place users) s.hosts

      abbrev last_fields : ℕ → List ℕ
      last_fields i = row_end (tags_text (tags_at s.commands i)) (depends_at p place)

      -- the grants of one command, asked about
      asked-atoms : is_for_user p u users ≡ true → is_for_host p m s.hosts ≡ true → (i : ℕ) (ws : List Signed)
          → lines_of p d u m (map (grant_of place users s i) ws)
          ≡ flat_map (member_row (command_head p lists_head s.commands i) (last_fields i)) ws
      asked-atoms for on i [] = refl
      asked-atoms for on i (w ∷ ws) = rw (for, on) (go (is_some (note_in w.atom)) (asked-atoms for on i ws))
        where
          g : Grant
          g = grant_of place users s i w

          own : Signed → List ℕ
          own = member_row (command_head p lists_head s.commands i) (last_fields i)

          shown : List Grant
          shown = filter (is_shown p u m) (map (grant_of place users s i) ws)

          go : (b : Bool) → flat_map (grant_line p d) shown ≡ flat_map own ws
              → flat_map (grant_line p d) (cond (not b) (g ∷ shown) shown)
              ≡ cond b [] (command_row (command_head p lists_head s.commands i) (last_fields i) w) ++ flat_map own ws
          go true rest = rest
          go false rest = ap (λ (t : List ℕ). grant_line p d g ++ t) rest
              ∙ ap (λ (t : List ℕ). t ++ flat_map own ws) (row-of place users s i w)

      asked-places : is_for_user p u users ≡ true → is_for_host p m s.hosts ≡ true → (cs : List (ℕ × CommandSpec))
          → flat_map (λ c. lines_of p d u m (place_grants p place users s c)) cs
          ≡ flat_map (place_rows p lists_head (depends_at p place) s.commands) cs
      unfolding place_grants
      asked-places for on [] = refl
      asked-places for on ((i, c) ∷ cs) =
          ap (λ (t : List ℕ). t ++ flat_map (λ c. lines_of p d u m (place_grants p place users s c)) cs)
          (asked-atoms for on i (written_form kind.Cmnd p (c.command ∷ [])))
          ∙ ap (λ (t : List ℕ). place_rows p lists_head (depends_at p place) s.commands (i, c) ++ t) (asked-places for on cs)

      other-atoms : is_for_host p m s.hosts ≡ false → (i : ℕ) (ws : List Signed)
          → lines_of p d u m (map (grant_of place users s i) ws) ≡ []
      other-atoms off i [] = refl
      other-atoms off i (w ∷ ws) = rw (off, and-no (is_for_user p u users)) (other-atoms off i ws)

      other-places : is_for_host p m s.hosts ≡ false → (cs : List (ℕ × CommandSpec))
          → flat_map (λ c. lines_of p d u m (place_grants p place users s c)) cs ≡ []
      unfolding place_grants
      other-places off [] = refl
      other-places off ((i, c) ∷ cs) =
          rw (other-atoms off i (written_form kind.Cmnd p (c.command ∷ []))) (other-places off cs)

      -- the records of a section of a rule that is for the user
      section-rows : is_for_user p u users ≡ true
          → lines_of p d u m (section_grants p place users s) ≡ rows_on p d m (rule_head p d place users) (depends_at p place) s
      unfolding section_grants
      section-rows for = go (is_for_host p m s.hosts) refl
        where
          go : (b : Bool) → is_for_host p m s.hosts ≡ b
              → lines_of p d u m (flat_map (place_grants p place users s) (enumerate_from 0 s.commands))
              ≡ rows_on p d m (rule_head p d place users) (depends_at p place) s
          go true on = lines-flat (place_grants p place users s) (enumerate_from 0 s.commands)
              ∙ asked-places for on (enumerate_from 0 s.commands) ∙ rw on refl
          go false off = lines-flat (place_grants p place users s) (enumerate_from 0 s.commands)
              ∙ other-places off (enumerate_from 0 s.commands) ∙ rw off refl

      -- a rule for other users has no record
      skipped-atoms : is_for_user p u users ≡ false → (i : ℕ) (ws : List Signed)
          → lines_of p d u m (map (grant_of place users s i) ws) ≡ []
      skipped-atoms other i [] = refl
      skipped-atoms other i (w ∷ ws) = rw other (skipped-atoms other i ws)

      skipped-places : is_for_user p u users ≡ false → (cs : List (ℕ × CommandSpec))
          → flat_map (λ c. lines_of p d u m (place_grants p place users s c)) cs ≡ []
      unfolding place_grants
      skipped-places other [] = refl
      skipped-places other ((i, c) ∷ cs) =
          rw (skipped-atoms other i (written_form kind.Cmnd p (c.command ∷ []))) (skipped-places other cs)

      skipped-section : is_for_user p u users ≡ false → lines_of p d u m (section_grants p place users s) ≡ []
      unfolding section_grants
      skipped-section other =
          lines-flat (place_grants p place users s) (enumerate_from 0 s.commands) ∙ skipped-places other (enumerate_from 0 s.commands)

    pub rule_rows : (place : Place) (users : List Member) → is_for_user p u users ≡ true → (ss : List Section)
        → lines_of p d u m (flat_map (section_grants p place users) ss)
        ≡ flat_map (rows_on p d m (rule_head p d place users) (depends_at p place)) ss
    rule_rows place users for ss = lines-flat (section_grants p place users) ss ∙ go ss
      where
        go : (ts : List Section) → flat_map (λ s. lines_of p d u m (section_grants p place users s)) ts
            ≡ flat_map (rows_on p d m (rule_head p d place users) (depends_at p place)) ts
        go [] = refl
        go (t ∷ ts) = ap (λ (x : List ℕ). x ++ flat_map (λ s. lines_of p d u m (section_grants p place users s)) ts)
            (section-rows place users t for)
            ∙ ap (λ (x : List ℕ). rows_on p d m (rule_head p d place users) (depends_at p place) t ++ x) (go ts)

    pub rule_skipped : (place : Place) (users : List Member) → is_for_user p u users ≡ false → (ss : List Section)
        → lines_of p d u m (flat_map (section_grants p place users) ss) ≡ []
    rule_skipped place users other ss = lines-flat (section_grants p place users) ss ∙ go ss
      where
        go : (ts : List Section) → flat_map (λ s. lines_of p d u m (section_grants p place users s)) ts ≡ []
        go [] = refl
        go (t ∷ ts) = rw (skipped-section place users t other) (go ts)

    -- the records of all entries
    pub all_entries : flat_map (λ e. lines_of p d u m (entry_grants p e)) p.entries ≡ lines_of p d u m (grants p)
    unfolding grants
    all_entries = sym (lines-flat (entry_grants p) p.entries)

-- the names that are marked, each behind a comma and a space
pub marked-separated : (cs : List (Bool × List ℕ))
    → flat_map separated cs ≡ flat_map (λ (t : List ℕ). 44 ∷ 32 ∷ t) (map (λ c. c.1) (filter (λ c. c.0) cs))
marked-separated [] = refl
marked-separated ((true, t) ∷ cs) = ap (λ (x : List ℕ). (44 ∷ 32 ∷ t) ++ x) (marked-separated cs)
marked-separated ((false, t) ∷ cs) = marked-separated cs

pub members-separated : (ss : List Signed)
    → flat_map (λ s. 44 ∷ 32 ∷ signed_text s) ss ≡ flat_map (λ (t : List ℕ). 44 ∷ 32 ∷ t) (map signed_text ss)
members-separated [] = refl
members-separated (s ∷ ss) = ap (λ (x : List ℕ). (44 ∷ 32 ∷ signed_text s) ++ x) (members-separated ss)

-- no name is left
pub no-names-left : {A : Type 0} (whole text : List ℕ) (marks : List Bool) (g : A → List ℕ) (left : List A) → length left ≡ 0
    → whole ≡ text ++ flat_map separated (zip marks (map g left)) → text ≡ whole
no-names-left whole text [] g [] none is = sym (is ∙ append-nil text)
no-names-left whole text (m ∷ ms) g [] none is = sym (is ∙ append-nil text)
no-names-left whole text marks g (x ∷ xs) none is = cc

-- a record from the parts that are written
pub row-of-parts : (old one two three new head sign atom end : List ℕ) → one ≡ old ++ head
    → two ≡ one ++ fields_text default_writer (sign ∷ []) → three ≡ two ++ fields_text default_writer (atom ∷ [])
    → new ≡ three ++ end
    → new ≡ old ++ (head ++ (fields_text default_writer (sign ∷ atom ∷ []) ++ end))
row-of-parts old one two three new head sign atom end first second third last =
    let text : List (List ℕ) → List ℕ = fields_text default_writer in
    last ∙ ap (λ (t : List ℕ). t ++ end) (third ∙ ap (λ (t : List ℕ). t ++ text (atom ∷ []))
    (second ∙ ap (λ (t : List ℕ). t ++ text (sign ∷ [])) first))
    ∙ gathered old head (text (sign ∷ [])) (text (atom ∷ [])) end
    ∙ ap (λ (t : List ℕ). old ++ (head ++ (t ++ end))) (sym (fields_text-append (sign ∷ []) (atom ∷ [])))
  where
    gathered : (a b c d e : List ℕ) → (((a ++ b) ++ c) ++ d) ++ e ≡ a ++ (b ++ ((c ++ d) ++ e))
    gathered a b c d e = simp append_assoc

-- the names that are marked, where not each is
pub names-joined : (marks : List Bool) (names : List (List ℕ)) (text start apart : List ℕ) → list_all (λ m. m) marks ≡ false
    → apart ≡ flat_map separated (zip marks names) → start ≡ [] → text ≡ start ++ drop 2 apart
    → text ≡ marked_text marks names
names-joined marks names text start apart not_all are empty is =
    is ∙ ap (λ (t : List ℕ). t ++ drop 2 apart) empty ∙ ap (drop 2) (are ∙ marked-separated (zip marks names))
    ∙ sym (ap (λ b. cond b (codes "ALL") (joined (marked marks names))) not_all)

pub members-joined : (p : Policy) (members : List Member) (text new start apart : List ℕ) (ss : List Signed)
    → ss ≡ written_form kind.Runas p members → start ≡ [] → apart ≡ start ++ flat_map (λ s. 44 ∷ 32 ∷ signed_text s) ss
    → new ≡ text ++ drop 2 apart → new ≡ text ++ members_text p members
members-joined p members text new start apart ss written empty are is =
    is ∙ ap (λ (t : List ℕ). text ++ drop 2 t) (are
    ∙ ap (λ (t : List ℕ). t ++ flat_map (λ s. 44 ∷ 32 ∷ signed_text s) ss) empty ∙ members-separated ss
    ∙ ap (λ (ws : List Signed). flat_map (λ (t : List ℕ). 44 ∷ 32 ∷ t) (map signed_text ws)) written)

-- the records of a command, by what is in force there
pub placed : (p : Policy) (head depends : List ℕ) (commands : List CommandSpec) (i : ℕ) (spec : CommandSpec) (state : TheState)
    → HoldsBehind p (take (i + 1) commands) state
    → command_rows p (head ++ fields_text default_writer (state.runas.items ∷ [])) (row_end (tags_text state.tags) depends) spec
    ≡ place_rows p head depends commands (i, spec)
unfolding runas_at tags_at
placed p head depends commands i spec state holds =
    ap (λ (t : List ℕ). command_rows p (head ++ fields_text default_writer (t ∷ [])) (row_end (tags_text state.tags) depends) spec)
    holds.runas
    ∙ ap (λ (t : Tags). command_rows p (command_head p head commands i) (row_end (tags_text t) depends) spec) holds.tags

-- one command more of a section
pub next-place : (p : Policy) (head depends : List ℕ) (commands : List CommandSpec) (i : ℕ) (spec : CommandSpec) (old text new : List ℕ)
    → i < length commands → spec ≡ get_or commands i spec
    → text ≡ old ++ flat_map (place_rows p head depends commands) (take i (enumerate_from 0 commands))
    → new ≡ text ++ place_rows p head depends commands (i, spec)
    → new ≡ old ++ flat_map (place_rows p head depends commands) (take (i + 1) (enumerate_from 0 commands))
next-place p head depends commands i spec old text new within is so_far more =
    let there : i < length (enumerate_from 0 commands) = subst (λ n. i < n) (sym (length-enumerate_from 0 commands)) within in
    let from : 0 + i ≡ i = omega arith in
    let item : (i, spec) ≡ get_or (enumerate_from 0 commands) i (i, spec) =
    ap {B = ℕ × CommandSpec} (λ s. (i, s)) is ∙ ap {B = ℕ × CommandSpec} (λ n. (n, get_or commands i spec)) (sym from)
    ∙ sym (get_or-enumerate_from 0 commands i (i, spec) within) in
    flat_map-next (place_rows p head depends commands) (enumerate_from 0 commands) i (i, spec) old text new there item so_far more

pub all-places : (p : Policy) (head depends : List ℕ) (commands : List CommandSpec) (i : ℕ) (old text : List ℕ) → length commands ≤ i
    → text ≡ old ++ flat_map (place_rows p head depends commands) (take i (enumerate_from 0 commands))
    → text ≡ old ++ section_rows p head depends commands
all-places p head depends commands i old text past is =
    is ∙ ap (λ (cs : List (ℕ × CommandSpec)). old ++ flat_map (place_rows p head depends commands) cs)
    (take-whole (enumerate_from 0 commands) i (subst (λ n. n ≤ i) (sym (length-enumerate_from 0 commands)) past))

-- the records of a section that is for the host
pub host-rows : (p : Policy) (d : KnownRows) (m : Option Machine) (head depends own : List ℕ) (s : Section) (text new : List ℕ)
    → is_for_host p m s.hosts ≡ true → own ≡ section_head p d head s.hosts → new ≡ text ++ section_rows p own depends s.commands
    → new ≡ text ++ rows_on p d m head depends s
host-rows p d m head depends own s text new on is more =
    more ∙ ap (λ (t : List ℕ). text ++ section_rows p t depends s.commands) is
    ∙ ap (λ (t : List ℕ). text ++ t) (sym (ap (λ b. cond b (section_rows p (section_head p d head s.hosts) depends s.commands) []) on))

-- the records of a rule that is for the user, and of one that is not
pub user-rows : (p : Policy) (d : KnownRows) (u : Option Person) (m : Option Machine) (place : Place) (users : List Member)
    (ss : List Section) (head depends text new : List ℕ) → is_for_user p u users ≡ true → head ≡ rule_head p d place users
    → depends ≡ depends_at p place → new ≡ text ++ flat_map (rows_on p d m head depends) ss
    → new ≡ text ++ lines_of p d u m (flat_map (section_grants p place users) ss)
user-rows p d u m place users ss head depends text new for is noted more =
    more ∙ ap (λ (h : List ℕ). text ++ flat_map (rows_on p d m h depends) ss) is
    ∙ ap (λ (n : List ℕ). text ++ flat_map (rows_on p d m (rule_head p d place users) n) ss) noted
    ∙ ap (λ (t : List ℕ). text ++ t) (sym (rule_rows p d u m place users for ss))

pub no-rows : (p : Policy) (d : KnownRows) (u : Option Person) (m : Option Machine) (place : Place) (users : List Member)
    (ss : List Section) (text : List ℕ) → is_for_user p u users ≡ false
    → text ≡ text ++ lines_of p d u m (flat_map (section_grants p place users) ss)
no-rows p d u m place users ss text other =
    sym (ap (λ (t : List ℕ). text ++ t) (rule_skipped p d u m place users other ss) ∙ append-nil text)

-- the records of all entries behind the header
pub table-whole : (p : Policy) (d : KnownRows) (u : Option Person) (m : Option Machine) (es : List Entry) (n : ℕ) (text : List ℕ)
    → es ≡ p.entries → length es ≤ n
    → text ≡ line grants_header ++ flat_map (λ e. lines_of p d u m (entry_grants p e)) (take n es) → text ≡ grants_text p d u m
table-whole p d u m es n text are past is =
    is ∙ ap (λ (xs : List Entry). line grants_header ++ flat_map (λ e. lines_of p d u m (entry_grants p e)) xs)
    (take-whole es n past ∙ are)
    ∙ ap (λ (t : List ℕ). line grants_header ++ t) (all_entries p d u m)

-- the header and the records of the first entries
abbrev pub table-part : Policy → KnownRows → Option Person → Option Machine → List Entry → ℕ → List ℕ
table-part p d u m es n =
    line grants_header ++ flat_map (λ e. lines_of p d u m (entry_grants p e)) (take n es)

-- with one entry more
pub table-next : (p : Policy) (d : KnownRows) (u : Option Person) (m : Option Machine) (es : List Entry) (n : ℕ) (e : Entry)
    → n < length es → e ≡ get_or es n e
    → table-part p d u m es n ++ lines_of p d u m (entry_grants p e) ≡ table-part p d u m es (n + 1)
table-next p d u m es n e within is =
    flat_map-next (λ x. lines_of p d u m (entry_grants p x)) es n e (line grants_header) (table-part p d u m es n)
    (table-part p d u m es n ++ lines_of p d u m (entry_grants p e)) within is refl refl

-- the table begins with the records of the first entries
pub table-begins : (p : Policy) (d : KnownRows) (u : Option Person) (m : Option Machine) (es : List Entry) (n : ℕ)
    → es ≡ p.entries → (more : List ℕ) × (table-part p d u m es n ++ more ≡ grants_text p d u m)
table-begins p d u m es n are =
    let own : Entry → List ℕ = λ e. lines_of p d u m (entry_grants p e) in
    let more : List ℕ = flat_map own (drop n es) in
    let all : line grants_header ++ flat_map own es ≡ grants_text p d u m =
    ap (λ (xs : List Entry). line grants_header ++ flat_map own xs) are
    ∙ ap (λ (t : List ℕ). line grants_header ++ t) (all_entries p d u m) in
    let split : flat_map own (take n es) ++ more ≡ flat_map own es =
    sym (flat_map-append own (take n es) (drop n es)) ∙ ap (flat_map own) (take-append-drop n es) in (
      more,
      append_assoc (line grants_header) (flat_map own (take n es)) more
          ∙ ap (λ (t : List ℕ). line grants_header ++ t) split ∙ all,
    )
