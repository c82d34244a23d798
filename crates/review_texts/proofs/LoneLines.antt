-- What the parser says of a line that stands alone.
use Rattle.std.proofs.Common.{◌≡◌, ℕ, ◌+◌, Bool, true, List, [], ◌∷◌, ◌++◌, refl, sym, ◌∙◌, ap, subst, Option}
use Rattle.std.proofs.Common.{None, Some, inl, inr}
use Rattle.std.specs.Prelude.{Decides, MatchOption}
use Rattle.sudo_text.specs.declared.line.Line.{Line}
use Rattle.sudo_text.specs.declared.line.Place.{Place}
use Rattle.sudo_grammar.specs.declared.policy.Entry.{Entry}
use Rattle.sudo_grammar.specs.declared.policy.EntryBody.{EntryBody}
use Rattle.sudo_grammar.specs.declared.fault.Expected.{Expected}
use Rattle.sudo_grammar.specs.declared.fault.ParseFault.{ParseFault}
use Rattle.sudo_grammar.specs.declared.fault.ParseFault.TheVariants as faults
use Rattle.sudo_grammar.specs.declared.fault.Refusal.{Refusal}
use Rattle.sudo_grammar.specs.declared.fault.Refusal.TheVariants as refusals
use Rattle.sudo_grammar.specs.declared.fault.Unsupported.{Unsupported}
use Rattle.sudo_parser.specs.Parsed.{AreEntries, IsFirstFault, IsGrammarFaultOf, fault_at, column}
use Rattle.sudo_parser.proofs.OneReading.{one_entries, one_first_fault, entries-no-fault}
use Rattle.review_texts.specs.declared.mask.Form.{Form}
use Rattle.review_texts.specs.declared.mask.Form.TheVariants as what
use Rattle.review_texts.specs.Body.Faults.{IsFormOf}
use Rattle.review_texts.specs.Places.{whole_room, IsBadNumberAt, IsEntryIn, IsRefusedAs, IsRefusedFor}

-- The entries of a line that stands alone.
pub entries_of : (line : Line) (entry : EntryBody) → IsEntryIn line entry
    → AreEntries (line ∷ []) (record { place = line.first; body = entry } ∷ [])
entries_of line entry is = (Some entry, [], is, refl, refl)

one_last : (front : List Entry) (x y : Entry) → front ++ x ∷ [] ≡ y ∷ [] → x ≡ y
one_last [] x y e = cc
one_last (z ∷ []) x y e = cc
one_last (z ∷ w ∷ front) x y e = cc

no_last : (front : List Entry) (x : Entry) → front ++ x ∷ [] ≡ [] → ⊥
no_last [] x e = cc
no_last (y ∷ front) x e = cc

pub last_read : (line : Line) (front : List Entry) (x : Entry) → AreEntries (line ∷ []) (front ++ x ∷ []) → IsEntryIn line x.body
last_read line front x (None, rest, is, none, whole) = absurd (no_last front x (whole ∙ none))
last_read line front x (Some body, rest, is, none, whole) =
    let same : x ≡ record { place = line.first; body = body } =
    one_last front x (record { place = line.first; body = body })
    (whole ∙ ap (λ r. record { place = line.first; body = body } ∷ r) none) in
    subst (IsEntryIn line) (sym (ap (λ (e : Entry). e.body) same)) is

pub none_read : (line : Line) (entries : List Entry) (entry : EntryBody) → AreEntries (line ∷ []) entries → entries ≡ []
    → IsEntryIn line entry → ⊥
none_read line entries entry are none is =
    let same : entries ≡ record { place = line.first; body = entry } ∷ [] =
    one_entries [] (line ∷ []) entries (record { place = line.first; body = entry } ∷ []) are (entries_of line entry is) in
    absurd cc

-- A line has one entry.
pub one_entry : (line : Line) (a b : EntryBody) → IsEntryIn line a → IsEntryIn line b → a ≡ b
one_entry line a b is other =
    let first : Entry = record { place = line.first; body = a } in
    let second : Entry = record { place = line.first; body = b } in
    let same : first ∷ [] ≡ second ∷ [] =
    one_entries [] (line ∷ []) (first ∷ []) (second ∷ []) (entries_of line a is) (entries_of line b other) in
    ap (λ (e : Entry). e.body) (one_last [] first second same)

-- The refusal of a line that stands alone.
pub fault_of : (line : Line) (form : Unsupported) → IsRefusedFor line form
    → IsFirstFault (line ∷ []) (faults.Unsupported line.first form)
fault_of line form is = inl (inr is)

placed : (first place : Place) (col : ℕ) (form : Unsupported) (refusal : Refusal)
    → faults.Unsupported place form ≡ fault_at first col refusal → place ≡ first
placed first place col form (refusals.Syntax expected) e = cc
placed first place col form (refusals.Unsupported what) e = cc
placed first place col form refusals.NotCommand e = cc
placed first place col form refusals.BadNumber e = cc
placed first place col form refusals.TooMany e = cc

pub refused : (line : Line) (place : Place) (form : Unsupported) → IsFirstFault (line ∷ []) (faults.Unsupported place form)
    → IsRefusedFor line form
refused line place form (inl (inl text)) = let e = text.is in absurd cc
refused line place form (inl (inr grammar)) =
    let at : place ≡ line.first = placed line.first place (column line grammar.stop.rest) form grammar.stop.refusal grammar.is in
    subst (λ p. IsGrammarFaultOf whole_room line (faults.Unsupported p form)) at grammar
refused line place form (inr (entry, says, never)) = absurd never

-- The refusal of a number in a line that stands alone.
pub bad_number_of : (line : Line) (at : ℕ) → IsBadNumberAt line at → IsFirstFault (line ∷ []) (faults.BadNumber line.first (at + 1))
bad_number_of line at is = inl (inr is)

numbered : (first place : Place) (col at : ℕ) (refusal : Refusal) → faults.BadNumber place at ≡ fault_at first col refusal
    → place ≡ first
numbered first place col at (refusals.Syntax expected) e = cc
numbered first place col at (refusals.Unsupported what) e = cc
numbered first place col at refusals.NotCommand e = cc
numbered first place col at refusals.BadNumber e = cc
numbered first place col at refusals.TooMany e = cc

pub bad_number : (line : Line) (place : Place) (at : ℕ) → IsFirstFault (line ∷ []) (faults.BadNumber place (at + 1))
    → IsBadNumberAt line at
bad_number line place at (inl (inl text)) = let e = text.is in absurd cc
bad_number line place at (inl (inr grammar)) =
    let same : place ≡ line.first =
    numbered line.first place (column line grammar.stop.rest) (at + 1) grammar.stop.refusal grammar.is in
    subst (λ p. IsGrammarFaultOf whole_room line (faults.BadNumber p (at + 1))) same grammar
bad_number line place at (inr (entry, says, never)) = absurd never

-- What a call that looks for one says, by the fault of the line.
pub number_found : (line : Line) (fault : ParseFault) (at : ℕ) (is : Bool) → IsFirstFault (line ∷ []) fault
    → Decides is ((place : Place) × (fault ≡ faults.BadNumber place (at + 1))) → Decides is (IsBadNumberAt line at)
number_found line fault at is first found = (
  λ yes. let there = found.0 yes in bad_number line there.0 at (subst (IsFirstFault (line ∷ [])) there.1 first),
  λ refused. found.1 (
    line.first,
    one_first_fault [] (line ∷ []) fault (faults.BadNumber line.first (at + 1)) first (bad_number_of line at refused),
  ),
)

pub read_no_number : (line : Line) (entries : List Entry) (at : ℕ) → AreEntries (line ∷ []) entries → IsBadNumberAt line at → ⊥
read_no_number line entries at are refused =
    entries-no-fault [] (line ∷ []) entries (faults.BadNumber line.first (at + 1)) are (bad_number_of line at refused)

pub same_fault : (line : Line) (fault : ParseFault) (form : Unsupported) → IsFirstFault (line ∷ []) fault → IsRefusedFor line form
    → fault ≡ faults.Unsupported line.first form
same_fault line fault form is refusal =
    one_first_fault [] (line ∷ []) fault (faults.Unsupported line.first form) is (fault_of line form refusal)

pub read_unrefused : (line : Line) (entries : List Entry) (form : Unsupported) → AreEntries (line ∷ []) entries
    → IsRefusedFor line form → ⊥
read_unrefused line entries form are refusal =
    entries-no-fault [] (line ∷ []) entries (faults.Unsupported line.first form) are (fault_of line form refusal)

-- A line is refused for one form.
pub one_form : (line : Line) (a b : Unsupported) → IsRefusedFor line a → IsRefusedFor line b → a ≡ b
one_form line a b is other = let same = same_fault line (faults.Unsupported line.first a) b (fault_of line a is) other in cc

-- The same of what can be masked.
syntax_of : (line : Line) (column : ℕ) (expected : Expected)
    → IsGrammarFaultOf whole_room line (faults.Syntax line.first column expected)
    → IsFirstFault (line ∷ []) (faults.Syntax line.first column expected)
syntax_of line column expected is = inl (inr is)

spelled_at : (first place : Place) (col column : ℕ) (expected : Expected) (refusal : Refusal)
    → faults.Syntax place column expected ≡ fault_at first col refusal → place ≡ first
spelled_at first place col column expected (refusals.Syntax other) e = cc
spelled_at first place col column expected (refusals.Unsupported what) e = cc
spelled_at first place col column expected refusals.NotCommand e = cc
spelled_at first place col column expected refusals.BadNumber e = cc
spelled_at first place col column expected refusals.TooMany e = cc

syntax_refused : (line : Line) (place : Place) (col : ℕ) (expected : Expected)
    → IsFirstFault (line ∷ []) (faults.Syntax place col expected) → IsRefusedAs line what.Ipv6
syntax_refused line place col expected (inl (inl text)) = let e = text.is in absurd cc
syntax_refused line place col expected (inl (inr grammar)) =
    let at : place ≡ line.first =
    spelled_at line.first place (column line grammar.stop.rest) col expected grammar.stop.refusal grammar.is in
    (col, expected, subst (λ p. IsGrammarFaultOf whole_room line (faults.Syntax p col expected)) at grammar)
syntax_refused line place col expected (inr (entry, says, never)) = absurd never

-- the fault of a line that is refused so
fault_as : (line : Line) (form : Form) → IsRefusedAs line form → (fault : ParseFault) × IsFirstFault (line ∷ []) fault × IsFormOf fault form
fault_as line (what.Named form) is = (faults.Unsupported line.first form, fault_of line form is, (line.first, refl))
fault_as line what.Ipv6 (col, expected, is) =
    (faults.Syntax line.first col expected, syntax_of line col expected is, (line.first, col, expected, refl))

refused_as : (line : Line) (fault : ParseFault) (form : Form) → IsFirstFault (line ∷ []) fault → IsFormOf fault form
    → IsRefusedAs line form
refused_as line fault (what.Named form) is (place, e) = refused line place form (subst (IsFirstFault (line ∷ [])) e is)
refused_as line fault what.Ipv6 is (place, col, expected, e) =
    syntax_refused line place col expected (subst (IsFirstFault (line ∷ [])) e is)

one_form_of : (fault : ParseFault) (a b : Form) → IsFormOf fault a → IsFormOf fault b → a ≡ b
one_form_of fault (what.Named a) (what.Named b) (place, is) (other, same) = cc
one_form_of fault (what.Named a) what.Ipv6 (place, is) (other, col, expected, same) = absurd cc
one_form_of fault what.Ipv6 (what.Named b) (place, col, expected, is) (other, same) = absurd cc
one_form_of fault what.Ipv6 what.Ipv6 is same = refl

-- A line is refused as one thing that can be masked, and one that is read as none.
pub one_refusal : (line : Line) (a b : Form) → IsRefusedAs line a → IsRefusedAs line b → a ≡ b
one_refusal line a b is other =
    let first = fault_as line a is in
    let second = fault_as line b other in
    let same : first.0 ≡ second.0 = one_first_fault [] (line ∷ []) first.0 second.0 first.1 second.1 in
    one_form_of second.0 a b (subst (λ (fault : ParseFault). IsFormOf fault a) same first.2) second.2

pub read_unrefused_as : (line : Line) (entries : List Entry) (form : Form) → AreEntries (line ∷ []) entries → IsRefusedAs line form → ⊥
read_unrefused_as line entries form are is =
    let fault = fault_as line form is in
    entries-no-fault [] (line ∷ []) entries fault.0 are fault.1

pub form_found_as : (line : Line) (fault : ParseFault) (found : Option Form) → IsFirstFault (line ∷ []) fault
    → MatchOption found ((form : Form) → IsFormOf fault form → ⊥) (λ form. IsFormOf fault form)
    → MatchOption found ((form : Form) → IsRefusedAs line form → ⊥) (λ form. IsRefusedAs line form)
form_found_as line fault None is says = λ form refusal.
    let other = fault_as line form refusal in
    let same : other.0 ≡ fault = one_first_fault [] (line ∷ []) other.0 fault other.1 is in
    says form (subst (λ (fault : ParseFault). IsFormOf fault form) same other.2)
form_found_as line fault (Some form) is says = refused_as line fault form is says

abbrev pub FoundForm : Line → Option Unsupported → Type 0
FoundForm line found = MatchOption found ((form : Unsupported) → IsRefusedFor line form → ⊥) (λ form. IsRefusedFor line form)

-- A line is refused for the form that is found, and for no other.
pub form_refused : (line : Line) (found : Option Unsupported) (form : Unsupported) → FoundForm line found → found ≡ Some form
    → IsRefusedFor line form
form_refused line None form says e = absurd cc
form_refused line (Some other) form says e = let same : other ≡ form = cc in subst (IsRefusedFor line) same says

pub refused_found : (line : Line) (found : Option Unsupported) (form : Unsupported) → FoundForm line found → IsRefusedFor line form
    → found ≡ Some form
refused_found line None form says is = absurd (says form is)
refused_found line (Some other) form says is = ap Some (one_form line other form says is)

-- What a call that looks for an entry says, by the entry that it found.
abbrev pub FoundEntry : Line → Option EntryBody → Type 0
FoundEntry line found = MatchOption found ((entry : EntryBody) → IsEntryIn line entry → ⊥) (λ entry. IsEntryIn line entry)

pub found_passes : (line : Line) (found : Option EntryBody) (test : EntryBody → Bool) (x entry : EntryBody) → FoundEntry line found
    → found ≡ Some x → IsEntryIn line entry → test entry ≡ true → test x ≡ true
found_passes line None test x entry says e is passes = absurd cc
found_passes line (Some y) test x entry says e is passes =
    let same : y ≡ x = cc in
    ap test (sym same ∙ one_entry line y entry says is) ∙ passes

pub found_none : (line : Line) (found : Option EntryBody) (entry : EntryBody) → FoundEntry line found → found ≡ None
    → IsEntryIn line entry → ⊥
found_none line None entry says e is = says entry is
found_none line (Some y) entry says e is = absurd cc

-- What a call that looks for a form says, by the fault of the line.
pub form_found : (line : Line) (fault : ParseFault) (found : Option Unsupported) → IsFirstFault (line ∷ []) fault
    → MatchOption found ((place : Place) (form : Unsupported) → fault ≡ faults.Unsupported place form → ⊥)
    (λ form. (place : Place) × (fault ≡ faults.Unsupported place form))
    → MatchOption found ((form : Unsupported) → IsRefusedFor line form → ⊥) (λ form. IsRefusedFor line form)
form_found line fault None is says = λ form refusal. says line.first form (same_fault line fault form is refusal)
form_found line fault (Some form) is (place, e) = refused line place form (subst (IsFirstFault (line ∷ [])) e is)
