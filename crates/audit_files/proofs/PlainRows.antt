-- How rows without quotes read.
use Rattle.std.proofs.Common.{◌≡◌, ◌<◌, ◌+◌, ◌∙◌, ℕ, suc, Bool, true, false, List, [], ◌∷◌, ◌++◌, length, refl, sym}
use Rattle.std.proofs.Common.{ap, add-one, arith, append_assoc, Option, None, Some, IfSome}
use Rattle.std.specs.Prelude.{◌==◌, ◌||◌, not}
use Rattle.std.proofs.lemmas.List.{append-nil}
use Rattle.std.proofs.lemmas.Bool.{ne_eqb, and_parts}
use Rattle.std.specs.List.{list_all}
use Rattle.csv.specs.Machine.{next_record, step}
use Rattle.csv.specs.Reading.{default_config, records, records_from, strip_bom}
use Rattle.csv.specs.declared.parser.State.{State}
use Rattle.csv.specs.declared.parser.State.TheVariants as st
use Rattle.csv.specs.declared.parser.Action.TheVariants as act
use Rattle.audit_files.specs.Rows.{Fields, records_of}
use Rattle.audit_files.specs.Body.Plain.{IsBehind, IsFieldBefore, is_field_byte}
use Rattle.audit_files.proofs.RecordsAhead.{enough, left_more}

-- what is no comma, no quote and no end of a line
others : (a b c d : Bool) → not (a || b || c || d) ≡ true → (a ≡ false) × (b ≡ false) × (c ≡ false) × (d ≡ false)
others true b c d e = cc
others false true c d e = cc
others false false true d e = cc
others false false false true e = cc
others false false false false e = (refl, refl, refl, refl)

-- a plain byte is copied, in a field and at its start
abbrev Copies : State → Type 0
Copies s = (b : ℕ) → is_field_byte b ≡ true → step default_config s b ≡ (st.InField, act.Copy)

in_field : Copies st.InField
in_field b e = let (comma, quote, return, feed) = others (b == 44) (b == 34) (b == 13) (b == 10) e in rw (comma, return, feed) refl

at_field : Copies st.StartField
at_field b e = let (comma, quote, return, feed) = others (b == 44) (b == 34) (b == 13) (b == 10) e in rw (quote, comma, return, feed) refl

at_record : Copies st.StartRecord
at_record b e = let (comma, quote, return, feed) = others (b == 44) (b == 34) (b == 13) (b == 10) e in rw (return, feed, quote, comma) refl

-- plain bytes join the field at hand
joins : (fields : Fields) (front field rest : List ℕ) → list_all is_field_byte field ≡ true
    → next_record default_config st.InField fields front (field ++ rest) ≡ next_record default_config st.InField
    fields (front ++ field) rest
unfolding next_record
joins fields front [] rest e = ap (λ (f : List ℕ). next_record default_config st.InField fields f rest) (sym (append-nil front))
joins fields front (b ∷ field) rest e =
    let (here, later) = and_parts (is_field_byte b) (list_all is_field_byte field) e in
    let copy = in_field b here in
    rw copy (joins fields (front ++ b ∷ []) field rest later
    ∙ ap (λ (f : List ℕ). next_record default_config st.InField fields f rest) (append_assoc front (b ∷ []) field))

-- a plain field before a comma
before_comma : (s : State) (fields : Fields) (field rest : List ℕ) → Copies s
    → step default_config s 44 ≡ (st.StartField, act.EndField) → list_all is_field_byte field ≡ true
    → next_record default_config s fields [] (field ++ 44 ∷ rest) ≡ next_record default_config st.StartField (fields ++ field ∷ []) [] rest
unfolding next_record
before_comma s fields [] rest copies ends e = rw ends refl
before_comma s fields (b ∷ field) rest copies ends e =
    let (here, later) = and_parts (is_field_byte b) (list_all is_field_byte field) e in
    let copy = copies b here in
    rw copy (joins fields (b ∷ []) field (44 ∷ rest) later)

-- a plain field at the end of a line
before_feed : (fields : Fields) (field rest : List ℕ) → list_all is_field_byte field ≡ true
    → next_record default_config st.StartField fields [] (field ++ 10 ∷ rest) ≡ Some (fields ++ field ∷ [], st.StartRecord, rest)
unfolding next_record
before_feed fields [] rest e = refl
before_feed fields (b ∷ field) rest e =
    let (here, later) = and_parts (is_field_byte b) (list_all is_field_byte field) e in
    let copy = at_field b here in
    rw copy (joins fields (b ∷ []) field (10 ∷ rest) later)

-- a field behind others
next_field : (text field rest : List ℕ) (fields : Fields) → IsFieldBefore text field (44 ∷ rest)
    → next_record default_config st.StartField fields [] text ≡ next_record default_config st.StartField (fields ++ field ∷ []) [] rest
next_field text field rest fields (plain, same) = rw same (before_comma st.StartField fields field rest at_field refl plain)

-- the end of a line takes nothing from the records behind it
behind_feed : (rest : List ℕ) → records default_config (10 ∷ rest) ≡ records default_config rest
unfolding records_from next_record
behind_feed rest = by (length rest) refl
  where
    by : (n : ℕ) → length rest ≡ n → records_from default_config (suc n + 1) st.StartRecord (10 ∷ rest) ≡ records_from
        default_config (n + 1) st.StartRecord rest
    by n e = rw (add-one, add-one) (enough default_config (suc (suc n)) (suc n) st.StartRecord rest (omega (arith, e)) (omega (arith, e)))

unmarked : (b : ℕ) (rest : List ℕ) → (b == 0xEF) ≡ false → strip_bom (b ∷ rest) ≡ b ∷ rest
unfolding strip_bom
unmarked b [] e = refl
unmarked b (c ∷ []) e = refl
unmarked b (c ∷ d ∷ rest) e = rw e refl

-- the records after the end of a line
pub after_feed : (rest : List ℕ) → records_of (10 ∷ rest) ≡ records default_config rest
after_feed rest = rw (unmarked 10 rest refl) (behind_feed rest)

-- the records of a text without a byte order mark
pub without_mark : (text : List ℕ) (b : ℕ) (rest : List ℕ) → text ≡ b ∷ rest → b < 128 → records_of text ≡ records default_config text
without_mark text b rest e low = let other : (b == 0xEF) ≡ false = ne_eqb b 0xEF (λ same. omega (arith, same)) in
    rw (e, unmarked b rest other) refl

-- a row of seven plain fields
pub seven_plain : (a b c d e f g ta tb tc td te tf tg rest : List ℕ)
    → IsFieldBefore ta a (44 ∷ tb) → IsFieldBefore tb b (44 ∷ tc) → IsFieldBefore tc c (44 ∷ td) → IsFieldBefore td d (44 ∷ te)
    → IsFieldBefore te e (44 ∷ tf) → IsFieldBefore tf f (44 ∷ tg) → IsFieldBefore tg g (10 ∷ rest)
    → records default_config ta ≡ (a ∷ b ∷ c ∷ d ∷ e ∷ f ∷ g ∷ []) ∷ records_of (10 ∷ rest)
seven_plain a b c d e f g ta tb tc td te tf tg rest ha hb hc hd he hf hg =
    let first : next_record default_config st.StartRecord [] [] ta ≡ next_record default_config st.StartField
    (a ∷ []) [] tb = rw ha.1 (before_comma st.StartRecord [] a tb at_record refl ha.0) in
    let last : next_record default_config st.StartField (a ∷ b ∷ c ∷ d ∷ e ∷ f ∷ []) [] tg ≡ Some
    (a ∷ b ∷ c ∷ d ∷ e ∷ f ∷ g ∷ [], st.StartRecord, rest) = rw hg.1 (before_feed (a ∷ b ∷ c ∷ d ∷ e ∷ f ∷ []) g rest hg.0) in
    let read : next_record default_config st.StartRecord [] [] ta ≡ Some (a ∷ b ∷ c ∷ d ∷ e ∷ f ∷ g ∷ [], st.StartRecord, rest) =
    first ∙ next_field tb b tc (a ∷ []) hb ∙ next_field tc c td (a ∷ b ∷ []) hc ∙ next_field td d te (a ∷ b ∷ c ∷ []) hd
    ∙ next_field te e tf (a ∷ b ∷ c ∷ d ∷ []) he ∙ next_field tf f tg (a ∷ b ∷ c ∷ d ∷ e ∷ []) hf ∙ last in
    left_more default_config st.StartRecord ta (a ∷ b ∷ c ∷ d ∷ e ∷ f ∷ g ∷ [], st.StartRecord, rest) read
    ∙ ap (λ (l : List Fields). (a ∷ b ∷ c ∷ d ∷ e ∷ f ∷ g ∷ []) ∷ l) (sym (after_feed rest))

-- what is behind the text after a field is behind the text
pub behind_field : (text field after rest : List ℕ) (end : ℕ) → IsFieldBefore text field (end ∷ after)
    → IsBehind after rest → IsBehind text rest
behind_field text field after rest end (plain, same) (front, behind) =
    (field ++ end ∷ front, same ∙ ap (λ (l : List ℕ). field ++ end ∷ l) behind ∙ sym (append_assoc field (end ∷ front) rest))

-- the text from the end of a line on
pub behind_last : (text field after rest : List ℕ) → IsFieldBefore text field (10 ∷ after) → rest ≡ 10 ∷ after → IsBehind text rest
behind_last text field after rest (plain, same) line = (field, same ∙ ap (λ (l : List ℕ). field ++ l) (sym line))

-- the text from a byte on is behind it
pub behind_byte : (text after rest : List ℕ) (b : ℕ) → text ≡ b ∷ after → IsBehind after rest → IsBehind text rest
behind_byte text after rest b same (front, behind) = (b ∷ front, same ∙ ap (λ (l : List ℕ). b ∷ l) behind)

pub behind_line : {X : Type 0} (rest : X → List ℕ) (text after : List ℕ) (b : ℕ) (found : Option X) → text ≡ b ∷ after
    → IfSome found (λ x. IsBehind after (rest x)) → IfSome found (λ x. IsBehind text (rest x))
behind_line rest text after b None same h = tt
behind_line rest text after b (Some x) same h = behind_byte text after (rest x) b same h
