-- The cautions on a policy, class by class.
use Rattle.std.specs.Prelude.{◌≡◌, ℕ, Bool, false, ◌&&◌, ◌==◌, nat_lt, nat_le, if◌then◌else◌, List, [], ◌∷◌, ◌++◌}
use Rattle.std.specs.Prelude.{map, filter, find, flat_map, length, option_to_list, ◌^◌, Option, None, Some}
use Rattle.std.specs.List.{enumerate_from}
use Rattle.sudo_text.specs.Lines.{cut, place, text_limit}
use Rattle.sudo_text.specs.declared.line.Place.{Place}
use Rattle.sudo_grammar.specs.declared.policy.Parameter.{Parameter}
use Rattle.sudo_grammar.specs.declared.policy.EntryBody.{EntryBody}
use Rattle.sudo_grammar.specs.declared.policy.EntryBody.TheVariants as entries
use Rattle.sudo_grammar.specs.declared.policy.Entry.{Entry}
use Rattle.sudo_grammar.specs.declared.policy.Policy.{Policy}
use Rattle.sudo_policy.specs.Definitions.{MemberList, lists}
use Rattle.review_texts.specs.Notes.{notes, note_name}
use Rattle.review_texts.specs.declared.note.Note.{Note}
use Rattle.review_cautions.specs.declared.caution.Caution.{Caution}
use Rattle.review_cautions.specs.declared.class.CautionClass.{CautionClass}
use Rattle.review_cautions.specs.declared.class.CautionClass.TheVariants.{Return, BlankAfterBackslash, Join, TornMark}
use Rattle.review_cautions.specs.declared.class.CautionClass.TheVariants.{IncludeEscape, IncludeIndent, Comment, EmptyGroup}
use Rattle.review_cautions.specs.declared.class.CautionClass.TheVariants.{Caret, Escape, Case, QuotedHost, QuotedEscape, Linked, Defaults}
use Rattle.review_cautions.specs.declared.class.CautionClass.TheVariants.{UnknownParameter, Sudoedit, Network, Bracket}
use Rattle.review_cautions.specs.declared.class.CautionClass.TheVariants.{Setenv, GroupForm, Reserved, Arguments, Depends}
use Rattle.review_cautions.specs.PhysicalLines.{numbers_of}
use Rattle.review_cautions.specs.declared.link.Link.{Link}
use Rattle.review_cautions.specs.ListTests.{is_of_matching, list_holds, list_is_linked}
use Rattle.review_cautions.specs.NoteTests.{list_has_note}
use Rattle.review_cautions.specs.Uses.{AreDeciding}
use Rattle.review_cautions.specs.Parameters.{decides, name_of}
use Rattle.review_cautions.specs.KnownParameters.{is_unknown, shown_name}
use Rattle.review_cautions.specs.EntryTests.{body_holds, rules_have_alias}

-- a caution on a line
abbrev pub caution_at : CautionClass → Place → Caution
caution_at class at = record { class = class; place = at; subject = [] }

-- a text that a file of a policy can have: no longer than the limit, with a number that a place can hold
abbrev pub is_readable : ℕ → List ℕ → Bool
is_readable file text = nat_lt file (2 ^ 32) && nat_le (length text) text_limit

-- the cautions of the class on the physical lines of a file
abbrev pub file_cautions : CautionClass → ℕ → List ℕ → List Caution
file_cautions class file text = if is_readable file text
    then map (λ number. caution_at class (place file number)) (numbers_of class false 1 (cut text)) else []

-- the cautions of the class on the files of a policy, the main file first
abbrev pub text_cautions : CautionClass → List (List ℕ) → List Caution
text_cautions class texts = flat_map (λ (file : ℕ × List ℕ). file_cautions class file.0 file.1) (enumerate_from 0 texts)

-- the same line of the same file
abbrev pub same_place : Place → Place → Bool
same_place a b = (a.file == b.file) && (a.line == b.line)

-- the place before, if any, is the same
abbrev pub is_at : Option Place → Place → Bool
is_at None at = false
is_at (Some before) at = same_place before at

-- the places without those that are equal to the one directly before them; `before`: the one before the first
abbrev pub distinct_places : Option Place → List Place → List Place
distinct_places before [] = []
distinct_places before (at ∷ rest) =
    if is_at before at then distinct_places (Some at) rest else at ∷ distinct_places (Some at) rest

-- the lines whose lists have the construct of the class, one caution for each
abbrev pub list_cautions : CautionClass → List MemberList → List Caution
list_cautions class lists =
    map (caution_at class) (distinct_places None (map (λ (l : MemberList). l.place) (filter (list_holds class) lists)))

-- the lists that are looked at for the class, of all and of those that decide
abbrev pub looked_at : CautionClass → List MemberList → List MemberList → List MemberList
looked_at class all deciding = if is_of_matching class then deciding else all

-- the cautions of the class on the lists that are looked at for it
abbrev pub class_cautions : CautionClass → List MemberList → List MemberList → List Caution
class_cautions class all deciding = list_cautions class (looked_at class all deciding)

-- the first list of commands that has a linked one, one caution for the whole policy
abbrev pub linked_cautions : List Link → List MemberList → List Caution
linked_cautions links lists =
    map (λ (l : MemberList). caution_at Linked l.place) (option_to_list (find (list_is_linked links) lists))

-- the caution on a line with a command that stands for the note; its subject is the note's name
abbrev pub note_caution : Note → Place → Caution
note_caution note at = record { class = Depends; place = at; subject = note_name note }

-- the lines whose lists have a command that stands for the note, one caution for each
abbrev pub note_cautions : Note → List MemberList → List Caution
note_cautions note lists =
    map (note_caution note) (distinct_places None (map (λ (l : MemberList). l.place) (filter (list_has_note note) lists)))

-- the same note by note
abbrev pub noted_cautions : List MemberList → List Caution
noted_cautions lists = flat_map (λ note. note_cautions note lists) notes

-- the caution on a parameter of a line; its subject is the parameter's name
abbrev pub parameter_caution : Place → Parameter → Caution
parameter_caution at parameter = record { class = Defaults; place = at; subject = name_of parameter }

-- the parameters of a line that decide, one caution for each
abbrev pub parameter_cautions : Place → List Parameter → List Caution
parameter_cautions at parameters = map (parameter_caution at) (filter decides parameters)

-- the cautions on an entry: a `Defaults` line, bound or not, has those on its parameters
abbrev pub body_cautions : Place → EntryBody → List Caution
body_cautions at (entries.Defaults binding parameters) = parameter_cautions at parameters
body_cautions at _ = []

-- the cautions on the `Defaults` lines of a policy, in order
abbrev pub defaults_cautions : List Entry → List Caution
defaults_cautions es = flat_map (λ (e : Entry). body_cautions e.place e.body) es

-- the caution on an unknown parameter of a line; its subject shows the parameter's name
abbrev pub unknown_caution : Place → Parameter → Caution
unknown_caution at parameter = record { class = UnknownParameter; place = at; subject = shown_name (name_of parameter) }

-- the parameters of a line that sudo does not know, one caution for each
abbrev pub unknown_parameters : Place → List Parameter → List Caution
unknown_parameters at parameters = map (unknown_caution at) (filter is_unknown parameters)

-- the same of an entry: a `Defaults` line, bound or not, has those of its parameters
abbrev pub unknown_in : Place → EntryBody → List Caution
unknown_in at (entries.Defaults binding parameters) = unknown_parameters at parameters
unknown_in at _ = []

-- the cautions on the unknown parameters of a policy, in order
abbrev pub unknown_cautions : List Entry → List Caution
unknown_cautions es = flat_map (λ (e : Entry). unknown_in e.place e.body) es

-- those of some entries that have the construct of the class, one caution for each; `used`: a rule of the policy has an
-- alias among its commands
abbrev pub cautions_among : CautionClass → Bool → List Entry → List Caution
cautions_among class used es =
    map (λ (e : Entry). caution_at class e.place) (filter (λ (e : Entry). body_holds class used e.body) es)

-- the entries that have the construct of the class, one caution for each
abbrev pub entry_cautions : CautionClass → List Entry → List Caution
entry_cautions class es = cautions_among class (rules_have_alias es) es

-- the cautions on the physical lines of a policy's files, class by class
abbrev pub all_text_cautions : List (List ℕ) → List Caution
all_text_cautions texts =
    text_cautions Return texts ++ text_cautions BlankAfterBackslash texts ++ text_cautions Join texts
    ++ text_cautions TornMark texts ++ text_cautions IncludeEscape texts ++ text_cautions IncludeIndent texts
    ++ text_cautions Comment texts ++ text_cautions EmptyGroup texts

-- the cautions on a policy whose files have these texts, of whose lists these decide: the classes one after the other, in the
-- order of `CautionClass`; the machine has these links
abbrev pub cautions_by : List Link → List (List ℕ) → Policy → List MemberList → List Caution
cautions_by links texts policy deciding =
    all_text_cautions texts
    ++ class_cautions Caret (lists policy) deciding ++ class_cautions Escape (lists policy) deciding
    ++ class_cautions Case (lists policy) deciding ++ class_cautions QuotedHost (lists policy) deciding
    ++ class_cautions QuotedEscape (lists policy) deciding ++ linked_cautions links (looked_at Linked (lists policy) deciding)
    ++ defaults_cautions policy.entries ++ unknown_cautions policy.entries
    ++ class_cautions Sudoedit (lists policy) deciding ++ class_cautions Network (lists policy) deciding
    ++ class_cautions Bracket (lists policy) deciding
    ++ entry_cautions Setenv policy.entries ++ entry_cautions GroupForm policy.entries ++ entry_cautions Reserved policy.entries
    ++ class_cautions Arguments (lists policy) deciding ++ noted_cautions (looked_at Depends (lists policy) deciding)

-- these are the cautions on a policy whose files have these texts, where the machine has these links
pub record AreCautionsOn (links : List Link) (texts : List (List ℕ)) (policy : Policy) (found : List Caution) : Type 0 where
  pub deciding : List MemberList
  pub are_deciding : AreDeciding policy deciding
  pub found_are : found ≡ cautions_by links texts policy deciding
