-- Numbers that a command lacks: no atom with one of them matches the command.
use Rattle.std.proofs.Common.{◌≡◌, ℕ, Bool, true, false, not, ◌&&◌, ◌||◌, List, [], ◌∷◌, ◌++◌, None, length, refl, sym, ◌∙◌, ap}
use Rattle.std.specs.Prelude.{◌==◌}
use Rattle.std.proofs.lemmas.Bool.{and_parts, eqb-true, and_left, or_parts, and_from}
use Rattle.sudo_text.specs.declared.token.Ch.{Ch}
use Rattle.sudo_grammar.specs.declared.kind.Atom.{Atom}
use Rattle.sudo_grammar.specs.declared.kind.Atom.TheVariants as atom
use Rattle.sudo_match.specs.declared.patterns.Slash.TheVariants.{Not}
use Rattle.sudo_match.specs.Pattern.{is_plain, Part, One, Only, parts, parts_after, any_name, is_folder_path, path_chars, fits}
use Rattle.sudo_match.specs.Matching.{command_fits, arguments_fit, arguments_slash}
use Rattle.sudo_match.proofs.FitsLemmas.{fits-one, fits-one-empty, fits-empty-some}
use Rattle.sudo_policy.specs.Definitions.{alias_named}
use Rattle.sudo_verdict.specs.Numbers.{next_number, number_from, whole_number, beginning_seed, path_number_from}
use Rattle.sudo_verdict.specs.Numbers.{lacks_beginnings, lacks_command}
use Rattle.sudo_verdict.specs.Body.Numbers.{atom_number}
use Rattle.sudo_verdict.proofs.NumberSteps.{path-special, path-more, path-end, numbered_next}
use Rattle.sudo_match.proofs.PartLemmas.{part-byte}
use Rattle.sudo_verdict.proofs.UserNumbers.{fewer, never}

-- a character that is not special is a part of its own, which fits its byte
parts-literal : (c : Ch) (cs : List Ch) → (is_plain 42 c || (is_plain 63 c || is_plain 91 c)) ≡ false
    → parts (c ∷ cs) ≡ One (Only c.byte) ∷ parts cs
unfolding parts_after
parts-literal c cs e =
    let star = or_parts (is_plain 42 c) (is_plain 63 c || is_plain 91 c) e in
    let others = or_parts (is_plain 63 c) (is_plain 91 c) star.1 in
    ap (λ (r : Part × ℕ). r.0 ∷ parts_after r.1 cs) (part-byte c cs star.0 others.0 others.1)

beginnings-here : (has : ℕ → Bool) (number : ℕ) (t : List ℕ) → lacks_beginnings has number t ≡ true → not (has number) ≡ true
unfolding lacks_beginnings
beginnings-here has number [] e = e
beginnings-here has number (b ∷ bs) e = (and_parts (not (has number)) (lacks_beginnings has (next_number number b) bs) e).0

beginnings-next : (has : ℕ → Bool) (number b : ℕ) (bs : List ℕ) → lacks_beginnings has number (b ∷ bs) ≡ true →
    lacks_beginnings has (next_number number b) bs ≡ true
unfolding lacks_beginnings
beginnings-next has number b bs e = (and_parts (not (has number)) (lacks_beginnings has (next_number number b) bs) e).1

whole-none : (has : ℕ → Bool) (number : ℕ) (t : List ℕ) → not (has (next_number (number_from number t) 6)) ≡ true
    → has (next_number number 6) ≡ true → fits [] t Not ≡ false
unfolding number_from
whole-none has number [] e there = absurd (never (has (next_number number 6)) there e)
whole-none has number (b ∷ t) e there = fits-empty-some Not b t

-- one character more, where the rest is silent
path-step :
    (has : ℕ → Bool) (folder : Bool) (number : ℕ) (c : Ch) (cs : List Ch) →
    ((t : List ℕ) → lacks_beginnings has (next_number number c.byte) t ≡ true
    → not (has (next_number (number_from (next_number number c.byte) t) 6)) ≡ true →
    has (path_number_from folder (next_number number c.byte) cs) ≡ true → fits (parts (cs ++ any_name folder)) t Not ≡ false) →
    has (path_number_from folder number (c ∷ cs)) ≡ true → (special : Bool)
    → (is_plain 42 c || (is_plain 63 c || is_plain 91 c)) ≡ special →
    (t : List ℕ) → lacks_beginnings has number t ≡ true → not (has (next_number (number_from number t) 6)) ≡ true →
    fits (parts (c ∷ (cs ++ any_name folder))) t Not ≡ false
path-step has folder number c cs again there true e t missed whole_missed =
    absurd (never (has number) (ap has (sym (path-special folder number c cs e)) ∙ there) (beginnings-here has number t missed))
path-step has folder number c cs again there false e [] missed whole_missed =
    ap (λ p. fits p [] Not) (parts-literal c (cs ++ any_name folder) e) ∙ fits-one-empty Not (Only c.byte) (parts (cs ++ any_name folder))
path-step has folder number c cs again there false e (x ∷ t) missed whole_missed =
    ap (λ p. fits p (x ∷ t) Not) (parts-literal c (cs ++ any_name folder) e)
    ∙ fits-one Not (Only c.byte) (parts (cs ++ any_name folder)) x t ∙ same (x == c.byte) refl
  where
    same : (b : Bool) → (x == c.byte) ≡ b → (b && fits (parts (cs ++ any_name folder)) t Not) ≡ false
    same false f = refl
    same true f =
        let byte : x ≡ c.byte = eqb-true x c.byte f in
        again t
        (ap (λ b. lacks_beginnings has (next_number number b) t) (sym byte) ∙ beginnings-next has number x t missed)
        (ap (λ n. not (has (next_number n 6))) (ap (λ b. number_from (next_number number b) t) (sym byte)
        ∙ sym (numbered_next number x t)) ∙ whole_missed)
        (ap has (sym (path-more folder number c cs e)) ∙ there)

path-lacked :
    (has : ℕ → Bool) (folder : Bool) (number : ℕ) (cs : List Ch) (t : List ℕ) → lacks_beginnings has number t ≡ true →
    not (has (next_number (number_from number t) 6)) ≡ true → has (path_number_from folder number cs) ≡ true
    → fits (parts (cs ++ any_name folder)) t Not ≡ false
unfolding parts_after
path-lacked has true number [] t missed whole_missed there =
    absurd (never (has number) (ap has (sym (path-end true number [] refl)) ∙ there) (beginnings-here has number t missed))
path-lacked has false number [] t missed whole_missed there =
    whole-none has number t whole_missed (ap has (sym (path-end false number [] refl)) ∙ there)
path-lacked has folder number (c ∷ cs) t missed whole_missed there =
    path-step has folder number c cs (λ rest m w h. path-lacked has folder (next_number number c.byte) cs rest m w h)
    there (is_plain 42 c || (is_plain 63 c || is_plain 91 c)) refl t missed whole_missed

command-parts :
    (has : ℕ → Bool) (command : List ℕ) → lacks_command has command ≡ true →
    (not (has 0) ≡ true) × ((not (has (whole_number command)) ≡ true) × (lacks_beginnings has beginning_seed command ≡ true))
unfolding lacks_command
command-parts has command e =
    let a = and_parts (not (has 0)) _ e in
    let b = and_parts (not (has (whole_number command))) (lacks_beginnings has beginning_seed command) a.1 in
    (a.0, (b.0, b.1))

-- no atom with a number that the command lacks is an alias, or fits the command
pub lacked-atom : (has : ℕ → Bool) (command arguments : List ℕ) (a : Atom) → lacks_command has command ≡ true → has (atom_number a) ≡ true →
    (alias_named a ≡ None) × (command_fits a command arguments ≡ false)
unfolding atom_number command_fits
lacked-atom has command arguments (atom.Command path args) e there =
    let parts_of = command-parts has command e in (
      refl,
      and_left (fits (parts (path_chars path)) command Not) (arguments_fit (arguments_slash path) args arguments)
          (path-lacked has (is_folder_path path) beginning_seed path command parts_of.1.1 parts_of.1.0 there),
    )
lacked-atom has command arguments (atom.Name name) e there = (refl, refl)
lacked-atom has command arguments (atom.Uid uid) e there = (refl, refl)
lacked-atom has command arguments (atom.Group name) e there = (refl, refl)
lacked-atom has command arguments (atom.Gid gid) e there = (refl, refl)
lacked-atom has command arguments _ e there = absurd (never (has 0) there (command-parts has command e).0)

pub lacks-more : (has : ℕ → Bool) (number b : ℕ) (bs : List ℕ) → has number ≡ false
    → lacks_beginnings has (next_number number b) bs ≡ true →
    lacks_beginnings has number (b ∷ bs) ≡ true
unfolding lacks_beginnings
lacks-more has number b bs e h = and_from (not (has number)) _ (ap not e) h

pub lacks-end : (has : ℕ → Bool) (number : ℕ) (left : List ℕ) → has number ≡ false → length left ≡ 0
    → lacks_beginnings has number left ≡ true
unfolding lacks_beginnings
lacks-end has number [] e h = ap not e
lacks-end has number (b ∷ bs) e h = cc

pub lacks-all : (has : ℕ → Bool) (command : List ℕ) → has 0 ≡ false → has (whole_number command) ≡ false →
    lacks_beginnings has beginning_seed command ≡ true → lacks_command has command ≡ true
unfolding lacks_command
lacks-all has command e f h =
    and_from (not (has 0)) _ (ap not e) (and_from (not (has (whole_number command))) _ (ap not f) h)

-- ---- What lacks more numbers lacks fewer

module _ (has more : ℕ → Bool) (all : (n : ℕ) → has n ≡ true → more n ≡ true) where
  beginnings-fewer : (number : ℕ) (t : List ℕ) → lacks_beginnings more number t ≡ true → lacks_beginnings has number t ≡ true
  unfolding lacks_beginnings
  beginnings-fewer number [] e = fewer (has number) (more number) (all number) e
  beginnings-fewer number (b ∷ bs) e =
      let parts_of = and_parts (not (more number)) (lacks_beginnings more (next_number number b) bs) e in
      and_from (not (has number)) _ (fewer (has number) (more number) (all number) parts_of.0)
      (beginnings-fewer (next_number number b) bs parts_of.1)

  pub command-fewer : (command : List ℕ) → lacks_command more command ≡ true → lacks_command has command ≡ true
  unfolding lacks_command
  command-fewer command e =
      let parts_of = command-parts more command e in
      let whole = whole_number command in
      and_from (not (has 0)) _ (fewer (has 0) (more 0) (all 0) parts_of.0)
      (and_from (not (has whole)) _ (fewer (has whole) (more whole) (all whole) parts_of.1.0)
      (beginnings-fewer beginning_seed command parts_of.1.1))

-- a number that each command has
pub command-has : (has : ℕ → Bool) (command : List ℕ) → lacks_command has command ≡ true → has 0 ≡ true → ⊥
command-has has command e there = never (has 0) there (command-parts has command e).0
