-- A rule decides nothing for a test that no atom passes under which the rule is posted.
use Rattle.std.proofs.Common.{◌≡◌, ℕ, zero, suc, ◌+◌, ◌/◌, ◌%◌, ◌<◌, ◌≤◌, Bool, true, false, not, cond, ◌||◌, ◌&&◌}
use Rattle.std.proofs.Common.{List, [], ◌∷◌, ◌++◌, map, length, take, Option, Some, None, refl, sym, ◌∙◌, ap, subst}
use Rattle.std.proofs.Common.{arith, ◌⊎◌, inl, inr}
use Rattle.std.specs.Prelude.{slice_get, slice_index, ◌==◌}
use Rattle.std.proofs.Math.Bool.{or-true}
use Rattle.std.proofs.lemmas.Nat.Bits.{bit_at-lt}
use Rattle.std.specs.Option.{option_or, option_map}
use Rattle.sudo_grammar.specs.declared.kind.Atom.{Atom}
use Rattle.sudo_grammar.specs.declared.kind.Kind.TheVariants as kind
use Rattle.sudo_grammar.specs.declared.kind.Member.{Member}
use Rattle.sudo_grammar.specs.declared.policy.CommandSpec.{CommandSpec}
use Rattle.sudo_grammar.specs.declared.policy.Section.{Section}
use Rattle.sudo_grammar.specs.declared.policy.Entry.{Entry}
use Rattle.sudo_grammar.specs.declared.policy.EntryBody.TheVariants as body
use Rattle.sudo_grammar.specs.declared.policy.Policy.{Policy}
use Rattle.sudo_text.specs.declared.line.Place.{Place}
use Rattle.sudo_match.specs.declared.people.Person.{Person}
use Rattle.sudo_match.specs.Matching.{user_fits, command_fits}
use Rattle.std.proofs.lemmas.Bool.{cases_lt, false_from_ne_true}
use Rattle.sudo_verdict.specs.Questions.{Question}
use Rattle.sudo_verdict.specs.Decided.{list_decision}
use Rattle.sudo_verdict.specs.Values.{allows, user_listed, host_listed}
use Rattle.sudo_verdict.specs.RunasForms.{runas_allows}
use Rattle.sudo_verdict.specs.Tagged.{tags_before, runas_before}
use Rattle.sudo_verdict.specs.Found.{verdict_from, command_found, found_if_any, commands_found, section_found}
use Rattle.sudo_verdict.specs.Found.{rule_found, body_found, entry_found}
use Rattle.sudo_verdict.specs.Last.{last_set}
use Rattle.sudo_verdict.specs.Body.Blocks.{both_have}
use Rattle.sudo_verdict.specs.Postings.{Rows, Index, Indexes, bit, is_in_row, Covers, misses_user, misses_command}
use Rattle.sudo_verdict.specs.Body.Postings.{Grows}
use Rattle.sudo_verdict.specs.Body.Numbers.{atom_number}
use Rattle.sudo_verdict.specs.Body.Silence.{IsSilent, CommandsSilent, SectionsSilent, EntrySilent}
use Rattle.sudo_verdict.proofs.ListDecisions.{value-decided}
use Rattle.sudo_verdict.proofs.UserNumbers.{lacked-user_atom, user-fewer, user-has}
use Rattle.sudo_verdict.proofs.NumberSets.{command-fewer, command-has, lacked-atom}
use Rattle.sudo_text.proofs.OneList.{either}

never : (a b : Bool) → (a ≡ true → b ≡ true) → b ≡ false → a ≡ false
never true b h e = cc (h refl)
never false b h e = refl

-- ---- Tests

pub silent-old : (old new : Rows) (rule : ℕ) (test : Atom → Bool) → Grows old new → IsSilent new rule test → IsSilent old rule test
silent-old old new rule test grows s = record {
  everyone = never (is_in_row old 0 rule) (is_in_row new 0 rule) (grows 0 rule) s.everyone;
  atoms = λ a there. s.atoms a (grows (atom_number a) rule there);
}

pub silent-never : (rows : Rows) (rule : ℕ) (test : Atom → Bool) → is_in_row rows 0 rule ≡ true → IsSilent rows rule test → ⊥
silent-never rows rule test there s = let h : true ≡ false = sym there ∙ s.everyone in cc

pub silent-user : (rows : Rows) (rule : ℕ) (u : Person) → misses_user rows rule u ≡ true → IsSilent rows rule (λ a. user_fits a u)
silent-user rows rule u e = record {
  everyone = false_from_ne_true (is_in_row rows 0 rule) (λ there. user-has (λ n. is_in_row rows n rule) u e there);
  atoms = λ a there. (lacked-user_atom (λ n. is_in_row rows n rule) u a e there).1;
}

pub silent-command : (rows : Rows) (rule : ℕ) (command arguments : List ℕ) → misses_command rows rule command ≡ true →
    IsSilent rows rule (λ a. command_fits a command arguments)
silent-command rows rule command arguments e = record {
  everyone = false_from_ne_true (is_in_row rows 0 rule) (λ there. command-has (λ n. is_in_row rows n rule) command e there);
  atoms = λ a there. (lacked-atom (λ n. is_in_row rows n rule) command arguments a e there).1;
}

-- ---- Lists, from the last item back

more-get : {X : Type 0} (xs : List X) (y : X) (k : ℕ) (x : X) → slice_get (xs ++ y ∷ []) k ≡ Some x → (slice_get xs k ≡ Some x) ⊎ (x ≡ y)
more-get [] y zero x e = inr (let s : x ≡ y = cc in s)
more-get [] y (suc zero) x e = absurd (cc)
more-get [] y (suc (suc k)) x e = absurd (cc)
more-get (z ∷ xs) y zero x e = inl e
more-get (z ∷ xs) y (suc k) x e = more-get xs y k x e

pub each-more : {X : Type 0} (P : X → Type 0) (left rest : List X) (last : X) → left ≡ rest ++ last ∷ [] →
    ((k : ℕ) (x : X) → slice_get rest k ≡ Some x → P x) → P last → (k : ℕ) (x : X) → slice_get left k ≡ Some x → P x
each-more P left rest last is before here k x e = go (more-get rest last k x (ap (λ l. slice_get l k) (sym is) ∙ e))
  where
    go : (slice_get rest k ≡ Some x) ⊎ (x ≡ last) → P x
    go (inl there) = before k x there
    go (inr same) = subst P (sym same) here

pub each-none : {X : Type 0} (P : X → Type 0) (left : List X) → length left ≡ 0 → (k : ℕ) (x : X) → slice_get left k ≡ Some x → P x
each-none P [] h zero x e = absurd (cc)
each-none P [] h (suc k) x e = absurd (cc)
each-none P (y ∷ ys) h k x e = absurd (cc)

all-none : {X Y : Type 0} (f : X → Option Y) (xs : List X) → ((k : ℕ) (x : X) → slice_get xs k ≡ Some x → f x ≡ None)
    → last_set (map f xs) ≡ None
all-none f [] h = refl
all-none f (x ∷ xs) h =
    ap (λ o. option_or o (f x)) (all-none f xs (λ k y e. h (suc k) y e)) ∙ h zero x refl

-- ---- Entries

module _ (p : Policy) (q : Question) (place : Place) where
  cond-none : {X : Type 0} (b : Bool) → ◌≡◌ {A = Option X} (cond b None None) None
  cond-none true = refl
  cond-none false = refl

  command-silent : (before : List CommandSpec) (c : CommandSpec)
      → list_decision kind.Cmnd p (c.command ∷ []) (λ a. command_fits a q.command q.arguments) ≡ None →
      command_found p q place before c ≡ None
  unfolding command_found
  command-silent before c none =
      ap (λ o. cond (runas_allows p q (runas_before before)) (option_map (verdict_from place (tags_before before)) o) None) none
      ∙ cond-none (runas_allows p q (runas_before before))

  commands-silent : (commands : List CommandSpec) → CommandsSilent p (λ a. command_fits a q.command q.arguments) commands → (n : ℕ) →
      commands_found p q place commands n ≡ None
  unfolding commands_found
  commands-silent commands silent zero = refl
  commands-silent commands silent (suc n) =
      ap (λ o. option_or o (commands_found p q place commands n)) (go (slice_get commands n) refl) ∙ commands-silent commands silent n
    where
      go : (o : Option CommandSpec) → slice_get commands n ≡ o → found_if_any p q place (take (n + 1) commands) o ≡ None
      go None e = refl
      go (Some c) e = command-silent (take (n + 1) commands) c (silent n c e)

  section-silent : (s : Section) → CommandsSilent p (λ a. command_fits a q.command q.arguments) s.commands
      → section_found p q place s ≡ None
  unfolding section_found
  section-silent s silent =
      ap (λ o. cond (host_listed p s.hosts q) o None) (commands-silent s.commands silent (length s.commands))
      ∙ cond-none (host_listed p s.hosts q)

  sections-silent : (users : List Member) (sections : List Section)
      → SectionsSilent p (λ a. command_fits a q.command q.arguments) sections →
      rule_found p q place users sections ≡ None
  unfolding rule_found
  sections-silent users sections silent =
      ap (λ o. cond (user_listed p users q) o None) (all-none (section_found p q place) sections (λ k s e. section-silent s (silent k s e)))
      ∙ cond-none (user_listed p users q)

  users-silent : (users : List Member) (sections : List Section) → list_decision kind.User p users (λ a. user_fits a q.user) ≡ None →
      rule_found p q place users sections ≡ None
  unfolding rule_found
  users-silent users sections none =
      ap (λ o. cond (allows o) (last_set (map (section_found p q place) sections)) None)
      (value-decided kind.User p users (λ a. user_fits a q.user) ∙ ap (option_map (λ d. not d.negated)) none)

pub rule-silent :
    (p : Policy) (user_rows command_rows : Rows) (rule : ℕ) (e : Entry) (users : List Member)
    (sections : List Section) → e.body ≡ body.Rule users sections →
    ((t : Atom → Bool) → IsSilent user_rows rule t → list_decision kind.User p users t ≡ None) →
    ((t : Atom → Bool) → IsSilent command_rows rule t → SectionsSilent p t sections) → EntrySilent p user_rows command_rows rule e
rule-silent p user_rows command_rows rule e users sections is by_user by_command q missed =
    ap (body_found p q e.place) is ∙ go (either _ _ missed)
  where
    go : (misses_user user_rows rule q.user ≡ true) ⊎ (misses_command command_rows rule q.command ≡ true)
        → rule_found p q e.place users sections ≡ None
    go (inl u) = users-silent p q e.place users sections (by_user (λ a. user_fits a q.user) (silent-user user_rows rule q.user u))
    go (inr c) = sections-silent p q e.place users sections (by_command (λ a. command_fits a q.command q.arguments)
        (silent-command command_rows rule q.command q.arguments c))

or-mono : (a b c d : Bool) → (a ≡ true → c ≡ true) → (b ≡ true → d ≡ true) → (a || b) ≡ true → (c || d) ≡ true
or-mono true b c d f g e = ap (λ x. x || d) (f refl)
or-mono false true true d f g e = refl
or-mono false true false d f g e = g refl
or-mono false false c d f g e = cc

pub covers-more :
    (p : Policy) (n : ℕ) (users users_more commands commands_more : Rows) (e : Entry) → Covers p n users commands → Grows users users_more →
    Grows commands commands_more → slice_get p.entries n ≡ Some e → EntrySilent p users_more commands_more n e
    → Covers p (n + 1) users_more commands_more
covers-more p n users users_more commands commands_more e covers users_grow commands_grow here silent q rule found
    within there missed = go (cases_lt rule n)
  where
    go : (rule < n) ⊎ (n ≤ rule) → entry_found p q found ≡ None
    go (inl before) =
        covers q rule found before there
        (or-mono (misses_user users_more rule q.user) (misses_command commands_more rule q.command)
        (misses_user users rule q.user) (misses_command commands rule q.command)
        (user-fewer (λ n. is_in_row users n rule) (λ n. is_in_row users_more n rule) (λ n. users_grow n rule) q.user)
        (command-fewer (λ n. is_in_row commands n rule) (λ n. is_in_row commands_more n rule) (λ n. commands_grow n rule) q.command) missed)
    go (inr after) =
        let at : rule ≡ n = omega (arith, after, within) in
        let same : Some found ≡ Some e = sym there ∙ ap (slice_get p.entries) at ∙ here in
        let one : found ≡ e = cc in
        ap (entry_found p q) one
        ∙ silent q (ap (λ k. misses_user users_more k q.user || misses_command commands_more k q.command) (sym at) ∙ missed)

-- ---- Blocks

-- a rule without a bit in one of two blocks, which have each rule of the user and of the command
pub block-silent :
    (p : Policy) (index : Index) (q : Question) (rule i : ℕ) (e : Entry) (users commands : List ℕ) → Indexes p index
    → rule < length p.entries →
    slice_get p.entries rule ≡ Some e → (bit users i ≡ 0 → misses_user index.0 rule q.user ≡ true) →
    (bit commands i ≡ 0 → misses_command index.1.0 rule q.command ≡ true) → both_have users commands i ≡ false → entry_found p q e ≡ None
block-silent p index q rule i e users commands is within there no_user no_command none =
    go (cases_lt (bit users i) 1) (cases_lt (bit commands i) 1)
  where
    go : (bit users i < 1) ⊎ (1 ≤ bit users i) → (bit commands i < 1) ⊎ (1 ≤ bit commands i) → entry_found p q e ≡ None
    go (inl zero_user) _ =
        is.covers q rule e within there (ap (λ b. b || misses_command index.1.0 rule q.command) (no_user (omega (arith, zero_user))))
    go (inr some_user) (inl zero_command) =
        is.covers q rule e within there
        (ap (λ b. misses_user index.0 rule q.user || b) (no_command (omega (arith, zero_command)))
        ∙ or-true (misses_user index.0 rule q.user))
    go (inr some_user) (inr some_command) =
        let user : bit users i ≡ 1 = omega (arith, some_user, bit_at-lt (slice_index users (i / 64)) (i % 64)) in
        let command : bit commands i ≡ 1 = omega (arith, some_command, bit_at-lt (slice_index commands (i / 64)) (i % 64)) in
        let both : true ≡ false = sym (ap (λ b. (b == 1) && (bit commands i == 1)) user ∙ ap (λ b. b == 1) command) ∙ none in
        cc
