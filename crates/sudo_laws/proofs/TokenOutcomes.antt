-- A line spells tokens, or it has a fault.
use Rattle.std.proofs.Common.{◌≡◌, ℕ, zero, suc, ◌+◌, ◌<◌, ◌≤◌, Bool, true, false, not, ◌&&◌, ◌||◌, ◌==◌, if◌then◌else◌, List, []}
use Rattle.std.proofs.Common.{◌∷◌, length, drop, get_or, Option, Some, None, refl, ◌∙◌, ap, subst, inl, inr, arith}
use Rattle.std.specs.Prelude.{◌⊎◌, codes, nat_le, nat_lt}
use Rattle.std.specs.Option.{option_and_then}
use Rattle.std.proofs.lemmas.Bool.{eq-eqb}
use Rattle.std.proofs.lemmas.Bool.Decides.{nat_tests}
use Rattle.sudo_laws.proofs.RunOutcomes.{Domain, Flaw, Style, by_run, by_word}
use Rattle.sudo_text.proofs.ClosingQuotes.{quoted_ends, short}
use Rattle.sudo_text.proofs.RunCharacters.{choose}
use Rattle.sudo_text.specs.Bytes.{begins_word, is_digit}
use Rattle.sudo_text.specs.Pieces.{Breaks, ends_run, is_arguments, run_end, skip}
use Rattle.sudo_text.specs.Rules.{before_of, begins_defaults, first_rule, general_rule_at, is_defaults, is_sudoedit}
use Rattle.sudo_text.specs.Rules.{line_kind, mark_at, mark_len, mark_or_word, opens, rule_at, wants_value, word_style}
use Rattle.sudo_text.specs.Tokens.{CommandFlaw, FlawAfter, FlawBy, LeftmostFault, PathFlaw, QuotedFlaw, arguments_end}
use Rattle.sudo_text.specs.Tokens.{closes_line, command_end, defaults_word, fault_of, has_arguments, has_closing, has_join_after}
use Rattle.sudo_text.specs.Tokens.{is_comment, is_offset, keyword_end, mark_code, path_end, quoted_end, spells, spells_from}
use Rattle.sudo_text.specs.Tokens.{stands, token_by, token_end}
use Rattle.sudo_text.specs.declared.fault.TextFault.{TextFault}
use Rattle.sudo_text.specs.declared.line.Line.{Line}
use Rattle.sudo_text.specs.declared.token.Ch.{Ch}
use Rattle.sudo_text.specs.declared.token.Mark.{Mark}
use Rattle.sudo_text.specs.declared.token.Mark.TheVariants as marks
use Rattle.sudo_text.specs.declared.token.Token.{Token}
use Rattle.sudo_text.specs.declared.token.TokenKind.{TokenKind}
use Rattle.sudo_text.specs.declared.token.TokenKind.TheVariants as kinds

abbrev LineKind : Type 0
LineKind = Domain is_defaults

abbrev Before : Type 0
Before = Domain opens

abbrev Rule : Type 0
Rule = Domain is_comment

-- a test of the bytes after the first one
at_first : (at : ℕ) (test : Bool) → (not (at == at) && test) ≡ false
at_first at test = ap (λ b. not b && test) (eq-eqb at at refl)

-- ---- The parts of tokens

-- a text between double quotes
by_quoted : {C : Type 0} (text : List ℕ) (at : ℕ)
    → ((cs : List Ch) (end : ℕ) → at < end → quoted_end text at cs ≡ Some end → C)
    → ((flaw : Flaw) (offset : ℕ) → QuotedFlaw text at flaw offset → C) → C
by_quoted {C = C} text at on_end on_flaw = by (has_closing false (drop (at + 1) text)) refl
  where
    by : (b : Bool) → has_closing false (drop (at + 1) text) ≡ b → C
    by true closes =
        by_run _ text (at + 1)
        (λ cs end after run. on_end cs (end + 1) (omega (arith, after)) (quoted_ends text at end cs run closes))
        (λ flaw offset broke. on_flaw flaw offset (inl (closes, broke)))
    by false closes = on_flaw _ at (inr (ap not closes, refl, refl))

-- a command whose path ends at an offset
by_arguments : {C : Type 0} (style : Style) (kind : LineKind) (text : List ℕ) (at end : ℕ) (path : List Ch) → at < end
    → (command_end kind text at path None ≡ (if has_arguments kind text end then None else Some end))
    → ((cs : List Ch) → command_end kind text at path (Some cs)
    ≡ (if has_arguments kind text end then run_end style text (skip text end) cs else None))
    → ((flaw : Flaw) (offset : ℕ) → has_arguments kind text end ≡ true
    → Breaks style text (skip text end) flaw offset → CommandFlaw kind text at flaw offset)
    → ((args : Option (List Ch)) (last : ℕ) → at < last → command_end kind text at path args ≡ Some last → C)
    → ((flaw : Flaw) (offset : ℕ) → CommandFlaw kind text at flaw offset → C) → C
by_arguments {C = C} style kind text at end path after none some flaws on_end on_flaw = by (has_arguments kind text end) refl
  where
    by : (b : Bool) → has_arguments kind text end ≡ b → C
    by true more =
        by_run style text (skip text end)
        (λ cs last far run. on_end (Some cs) last (omega (arith, after, far))
        (some cs ∙ ap (λ b. if b then run_end style text (skip text end) cs else None) more ∙ run))
        (λ flaw offset broke. on_flaw flaw offset (flaws flaw offset more broke))
    by false more = on_end None end after (none ∙ ap (λ b. if b then None else Some end) more)

by_command : {C : Type 0} (kind : LineKind) (text : List ℕ) (at : ℕ) → at < length text
    → ((path : List Ch) (args : Option (List Ch)) (end : ℕ) → at < end → command_end kind text at path args ≡ Some end → C)
    → ((flaw : Flaw) (offset : ℕ) → CommandFlaw kind text at flaw offset → C) → C
unfolding ends_run command_end
by_command kind text at within on_end on_flaw =
    by_word _ text at within
    (λ path end after run. by_arguments _ kind text at end path after
    (ap (option_and_then (λ n. arguments_end kind text n None)) run)
    (λ cs. ap (option_and_then (λ n. arguments_end kind text n (Some cs))) run)
    (λ flaw offset more broke.
    inr (record { path = path; end = end; path_ends = run; goes_on = more; breaks = broke }))
    (λ args last far is. on_end path args last far is)
    on_flaw)
    (λ flaw offset broke. on_flaw flaw offset (inl broke))
    refl (at_first at _)

-- the path of an include line
by_path : {C : Type 0} (text : List ℕ) (directive : ℕ)
    → ((path : List Ch) (end : ℕ) → directive ≤ end → path_end text directive path ≡ Some end → C)
    → ((flaw : Flaw) (offset : ℕ) → PathFlaw text directive flaw offset → C) → C
unfolding path_end
by_path {C = C} text directive on_end on_flaw = by (nat_le (length text) (skip text directive)) refl
  where
    at : ℕ
    at = skip text directive

    by_first : nat_le (length text) at ≡ false → (b : Bool) → (get_or text at 0 == 34) ≡ b → C
    by_first short_of true quote =
        by_quoted text at
        (λ cs end after is. on_end cs end (omega (arith, after)) (rw (short_of, quote) is))
        (λ flaw offset flawed. on_flaw flaw offset (short (length text) at short_of, inl (quote, flawed)))
    by_first short_of false quote =
        by_run _ text at
        (λ cs end after is. on_end cs end (omega (arith, after)) (rw (short_of, quote) is))
        (λ flaw offset broke. on_flaw flaw offset (short (length text) at short_of, inr (ap not quote, broke)))

    by : (b : Bool) → nat_le (length text) at ≡ b → C
    by true past = on_end [] directive (omega arith) (rw past refl)
    by false past = by_first past (get_or text at 0 == 34) refl

-- ---- One token

-- what a rule reads at an offset: nothing more, if it is that of a comment, a token, or a flaw
data Reading (kind : LineKind) (text joins : List ℕ) (at : ℕ) (rule : Rule) : Type 0 where
  comment : is_comment rule ≡ true → has_join_after joins at ≡ false → Reading kind text joins at rule
  token : (t : TokenKind) (end : ℕ) → at < end → token_by rule kind text at t ≡ Some end → Reading kind text joins at rule
  flawed : (flaw : Flaw) (offset : ℕ) → FlawBy rule kind text joins at flaw offset → Reading kind text joins at rule

-- a word of a line of this kind has a first byte
record HasWords (kind : LineKind) : Type 0 where
  style : is_arguments (word_style kind) ≡ false
  first : (text : List ℕ) (at : ℕ) → ends_run (word_style kind) text at at ≡ false

mark_has_bytes : (mark : Mark) → 0 < mark_len mark
mark_has_bytes marks.PlusEquals = omega arith
mark_has_bytes _ = omega arith

module _ (kind : LineKind) (text joins : List ℕ) (at : ℕ) (within : at < length text) where
  read_as : (rule same : Rule) → rule ≡ same → Reading kind text joins at rule → Reading kind text joins at same
  read_as rule same is reading = subst (λ r. Reading kind text joins at r) is reading

  comment_reading : (rule same : Rule) (flaw : Flaw) → rule ≡ same → is_comment rule ≡ true
      → (has_join_after joins at ≡ true → FlawBy rule kind text joins at flaw at)
      → (b : Bool) → has_join_after joins at ≡ b → Reading kind text joins at same
  comment_reading rule same flaw is commented flaws true later = read_as rule same is (flawed flaw at (flaws later))
  comment_reading rule same flaw is commented flaws false none = read_as rule same is (comment commented none)

  word_or_mark : HasWords kind → (m : Option Mark) → Reading kind text joins at (mark_or_word m)
  word_or_mark words (Some mark) =
      let some = mark_has_bytes mark in
      token (kinds.Mark mark) (at + mark_len mark) (omega (arith, some))
      (ap (λ b. if b then Some (at + mark_len mark) else None) (eq-eqb (mark_code mark) (mark_code mark) refl))
  word_or_mark words None =
      by_word _ text at within (λ cs end after run. token (kinds.Word false cs) end after run) flawed words.style (words.first text at)

  general_reading : HasWords kind → (before : Before) → Reading kind text joins at (general_rule_at kind before text at)
  unfolding general_rule_at ends_run
  general_reading words before =
      choose ((get_or text at 0 == 35) && not (opens before && is_digit (get_or text (at + 1) 0))) _ _
      (general_rule_at kind before text at) refl
      (λ w e. comment_reading _ _ _ e refl (λ later. (later, refl, refl)) (has_join_after joins at) refl)
      (λ w others. choose (get_or text at 0 == 34) _ _ _ others
      (λ v e. read_as _ _ e (by_quoted text at (λ cs end after is. token (kinds.Word true cs) end after is) flawed))
      (λ v others2. choose (is_defaults kind && wants_value before && not (get_or text at 0 == 44)) _ _ _ others2
      (λ u e. read_as _ _ e (by_word _ text at within (λ cs end after run. token (kinds.Word false cs) end after run) flawed refl
      (at_first at _)))
      (λ u others3. choose ((get_or text at 0 == 47) || is_sudoedit kind text at) _ _ _ others3
      (λ y e. read_as _ _ e
      (by_command kind text at within (λ path args end after is. token (kinds.Command path args) end after is) flawed))
      (λ y e. read_as _ _ e (word_or_mark words (mark_at kind text at))))))

-- the rule that applies at the beginning of a line of this kind reads what another one does, or its own token
record IsRead (kind : LineKind) : Type 0 where
  words : HasWords kind
  first : (text joins : List ℕ) (at : ℕ) (rule : Rule) → at < length text → Reading kind text joins at rule
      → Reading kind text joins at (first_rule kind rule)

rule_reading : (kind : LineKind) → IsRead kind → (before : Before) (text joins : List ℕ) (at : ℕ) → at < length text
    → Reading kind text joins at (rule_at kind before text at)
unfolding rule_at
rule_reading kind is before text joins at within =
    let general = general_reading kind text joins at within is.words before in
    choose (nat_lt 0 at) _ _ (rule_at kind before text at) refl
    (λ w e. read_as kind text joins at within _ _ e general)
    (λ w e. read_as kind text joins at within _ _ e (is.first text joins at _ within general))

-- what comes after an offset of a line: its end, a token, or a flaw
data NextToken (kind : LineKind) (text joins : List ℕ) (from : ℕ) (before : Before) : Type 0 where
  closed : closes_line kind text joins from before ≡ true → NextToken kind text joins from before
  stood : (t : Token) → from < t.end → from < length text → stands kind text from before t ≡ true
      → NextToken kind text joins from before
  stopped : (flaw : Flaw) (offset : ℕ) → FlawAfter kind text joins from before [] flaw offset
      → NextToken kind text joins from before

both_true : (a b : Bool) → a ≡ true → b ≡ true → (a && b) ≡ true
both_true a b first second = ap (λ x. x && b) first ∙ second

either_true : (a b : Bool) → b ≡ true → (a || b) ≡ true
either_true true b second = refl
either_true false b second = second

fewer : (a b : ℕ) → a < b → nat_lt a b ≡ true
fewer a b h = grind (arith, nat_tests)

module _ (kind : LineKind) (text joins : List ℕ) (from : ℕ) (before : Before) where
  past_next : nat_le (length text) (skip text from) ≡ true → NextToken kind text joins from before
  unfolding closes_line
  past_next past =
      let comment_ends : Bool =
      is_comment (rule_at kind before text (skip text from)) && not (has_join_after joins (skip text from)) in
      closed (ap (λ b. b || comment_ends) past)

  read_next : skip text from < length text → Reading kind text joins (skip text from) (rule_at kind before text (skip text from))
      → NextToken kind text joins from before
  unfolding closes_line stands token_end
  read_next within (comment is none) =
      closed (either_true (nat_le (length text) (skip text from)) _ (both_true _ _ is (ap not none)))
  read_next within (token t end after is) =
      stood (record { kind = t; start = skip text from; end = end }) (omega (arith, after)) (omega (arith, within))
      (both_true _ _ (both_true _ _ (eq-eqb (skip text from) (skip text from) refl) (fewer (skip text from) (length text) within))
      (ap (λ o. is_offset o end) is ∙ eq-eqb end end refl))
  read_next within (flawed flaw offset is) = stopped flaw offset (within, is)

next_token : (kind : LineKind) → IsRead kind → (before : Before) (text joins : List ℕ) (from : ℕ) → NextToken kind text joins from before
next_token kind is before text joins from = by (nat_le (length text) (skip text from)) refl
  where
    by : (b : Bool) → nat_le (length text) (skip text from) ≡ b → NextToken kind text joins from before
    by true past = past_next kind text joins from before past
    by false within =
        let inside = short (length text) (skip text from) within in
        read_next kind text joins from before inside (rule_reading kind is before text joins (skip text from) inside)

-- ---- A line

-- the tokens that the text spells from an offset on, or those before a flaw
data Tokens (kind : LineKind) (text joins : List ℕ) (from : ℕ) (before : Before) : Type 0 where
  spelled : (ts : List Token) → spells_from kind text joins from before ts ≡ true → Tokens kind text joins from before
  faulty : (ts : List Token) (flaw : Flaw) (offset : ℕ) → FlawAfter kind text joins from before ts flaw offset
      → Tokens kind text joins from before

one_more : (kind : LineKind) (text joins : List ℕ) (from : ℕ) (before : Before) (t : Token) → stands kind text from before t ≡ true
    → Tokens kind text joins t.end (before_of t.kind) → Tokens kind text joins from before
one_more kind text joins from before t stand (spelled ts rest) = spelled (t ∷ ts) (both_true _ _ stand rest)
one_more kind text joins from before t stand (faulty ts flaw offset rest) = faulty (t ∷ ts) flaw offset (stand, rest)

tokens_from : (left : ℕ) (kind : LineKind) → IsRead kind → (before : Before) (text joins : List ℕ) (from : ℕ)
    → length text ≤ from + left → Tokens kind text joins from before
tokens_from zero kind is before text joins from enough = elim (next_token kind is before text joins from) [
  | closed end ↦ spelled [] end
  | stood t more within stand ↦ absurd (omega (arith, within, enough))
  | stopped flaw offset after ↦ faulty [] flaw offset after
]
tokens_from (suc left) kind is before text joins from enough = elim (next_token kind is before text joins from) [
  | closed end ↦ spelled [] end
  | stood t more within stand ↦
      one_more kind text joins from before t stand
      (tokens_from left kind is (before_of t.kind) text joins t.end (omega (arith, more, enough)))
  | stopped flaw offset after ↦ faulty [] flaw offset after
]

read_kind : (kind same : LineKind) → kind ≡ same → is_arguments (word_style kind) ≡ false
    → ((text : List ℕ) (at : ℕ) → ends_run (word_style kind) text at at ≡ false)
    → ((text joins : List ℕ) (at : ℕ) (rule : Rule) → at < length text → Reading kind text joins at rule
    → Reading kind text joins at (first_rule kind rule))
    → IsRead same
read_kind kind same is style word first =
    subst IsRead is (record { words = record { style = style; first = word }; first = first })

each_kind_read : (text : List ℕ) → IsRead (line_kind text)
unfolding line_kind ends_run keyword_end
each_kind_read text =
    choose (begins_word text (codes "@include")) _ _ (line_kind text) refl
    (λ w e. read_kind _ _ e refl (λ text at. at_first at _) (λ text joins at rule within other.
    by_path text (at + 8) (λ path end after is. token (kinds.Include false false path) end (omega (arith, after)) is) flawed))
    (λ w others. choose (begins_word text (codes "@includedir")) _ _ _ others
    (λ v e. read_kind _ _ e refl (λ text at. at_first at _) (λ text joins at rule within other.
    by_path text (at + 11) (λ path end after is. token (kinds.Include true false path) end (omega (arith, after)) is) flawed))
    (λ v others2. choose (begins_word text (codes "#include")) _ _ _ others2
    (λ u e. read_kind _ _ e refl (λ text at. at_first at _) (λ text joins at rule within other.
    by_path text (at + 8) (λ path end after is. token (kinds.Include false true path) end (omega (arith, after)) is) flawed))
    (λ u others3. choose (begins_word text (codes "#includedir")) _ _ _ others3
    (λ y e. read_kind _ _ e refl (λ text at. at_first at _) (λ text joins at rule within other.
    by_path text (at + 11) (λ path end after is. token (kinds.Include true true path) end (omega (arith, after)) is) flawed))
    (λ y others4. choose (begins_defaults text) _ _ _ others4
    (λ z e. read_kind _ _ e refl (λ text at. at_first at _) (λ text joins at rule within other.
    token (kinds.Word false defaults_word) (at + 8) (omega arith) refl))
    (λ z e. read_kind _ _ e refl (λ text at. at_first at _) (λ text joins at rule within other. other))))))

-- each line spells tokens, or it has a leftmost fault
pub tokens_or_fault : (line : Line)
    → ((ts : List Token) × (spells line ts ≡ true)) ⊎ ((fault : TextFault) × LeftmostFault line fault)
unfolding spells
tokens_or_fault line =
    elim (tokens_from (length line.text) (line_kind line.text) (each_kind_read line.text) _ line.text line.joins 0 (omega arith)) [
      | spelled ts is ↦ inl (ts, is)
      | faulty ts flaw offset after ↦
          inr (
            fault_of line.first flaw offset,
            record { before = ts; flaw = flaw; offset = offset; after = after; is = refl },
          )
    ]
