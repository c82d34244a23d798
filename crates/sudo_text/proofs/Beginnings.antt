-- The first bytes of a run, by the rule that reads it.
use Rattle.std.proofs.Common.{◌≡◌, ◌≢◌, ℕ, ◌+◌, Bool, List, length, drop, get_or, true, false, refl, sym, ◌∙◌, inl, inr, Option, Some, None}
use Rattle.std.proofs.lemmas.Bool.{eqb-true, eq-eqb, or_from, or_parts, and_parts, true≢false, false≢true}
use Rattle.std.specs.Prelude.{◌==◌, ◌&&◌, ◌||◌, not, if◌then◌else◌, nat_le, nat_lt, nat_eq, IsTrue, codes}
use Rattle.std.specs.List.{starts_with}
use Rattle.sudo_text.specs.declared.token.Mark.{Mark}
use Rattle.sudo_text.specs.declared.token.Mark.TheVariants as marks
use Rattle.sudo_text.specs.declared.rules.LineKind.{LineKind}
use Rattle.sudo_text.specs.declared.rules.LineKind.TheVariants as lines
use Rattle.sudo_text.specs.declared.rules.Before.{Before}
use Rattle.sudo_text.specs.declared.rules.Rule.{Rule}
use Rattle.sudo_text.specs.declared.rules.Rule.TheVariants as rules
use Rattle.sudo_text.specs.Bytes.{is_blank, is_digit}
use Rattle.sudo_text.specs.Pieces.{skip, is_mark_byte, is_assignment, is_end, piece_at}
use Rattle.sudo_text.specs.Rules.{opens, wants_value, is_defaults, word_style, directive_len, defaults_mark_at}
use Rattle.sudo_text.specs.Rules.{mark_at, is_sudoedit, mark_or_word, general_rule_at, first_rule, rule_at}
use Rattle.sudo_text.specs.Runs.{OnlyNumbers, BeginsWord, Begins}
use Rattle.sudo_text.proofs.RunCharacters.{choose}
use Rattle.sudo_text.proofs.ArgumentBlanks.{skip-no-blank}
use Rattle.sudo_text.proofs.OneList.{either}

-- What holds either way.
pick : {A : Type 0} (P : A → Type 0) (b : Bool) (x y : A) → (b ≡ true → P x) → (b ≡ false → P y) → P (if b then x else y)
pick P true x y on_true on_false = on_true refl
pick P false x y on_true on_false = on_false refl

some_none : (mark : Mark) → Some mark ≡ None → ⊥
some_none mark e = cc

differs : (a b : ℕ) → (a == b) ≡ false → a ≢ b
differs a b h e = true≢false (sym (eq-eqb a b e) ∙ h)

pub not_true : (b : Bool) → not b ≡ true → b ≡ false
not_true true h = absurd (false≢true h)
not_true false h = refl

saved : (a b c : Bool) → (a && not (b && c)) ≡ false → a ≡ true → (b ≡ true) × (c ≡ true)
saved true true true h e = (refl, refl)
saved true true false h e = absurd (true≢false h)
saved true false c h e = absurd (true≢false h)
saved false b c h e = absurd (false≢true e)

one_of_two : (a b c : Bool) → (a && c) ≡ false → (b && c) ≡ false → ((a || b) && c) ≡ false
one_of_two true b c h k = h
one_of_two false b c h k = k

other_place : (a b : Bool) → (a && b) ≡ false → a ≡ true → b ≡ false
other_place true b h e = h
other_place false b h e = absurd (false≢true e)

numbers : (before : Before) (text : List ℕ) (at : ℕ)
    → ((get_or text at 0 == 35) && not (opens before && is_digit (get_or text (at + 1) 0))) ≡ false → OnlyNumbers before text at
numbers before text at h is = saved (get_or text at 0 == 35) (opens before) (is_digit (get_or text (at + 1) 0)) h (eq-eqb _ _ is)

-- No mark of a Defaults line.
record NoDefaultsMark (text : List ℕ) (at : ℕ) : Type 0 where
  no_assignment : is_assignment text at ≡ false
  no_binding : at ≡ 8 → (get_or text at 0 ≢ 64) × (get_or text at 0 ≢ 62)

no_defaults_mark : (text : List ℕ) (at : ℕ) → defaults_mark_at text at ≡ None → NoDefaultsMark text at
unfolding defaults_mark_at
no_defaults_mark text at h =
    let byte : ℕ = get_or text at 0 in
    let equals : Bool = get_or text (at + 1) 0 == 61 in
    let fourth : Option Mark = if (at == 8) && (byte == 62) then Some marks.Greater else None in
    let third : Option Mark = if (at == 8) && (byte == 64) then Some marks.At else fourth in
    let second : Option Mark = if (byte == 45) && equals then Some marks.MinusEquals else third in
    choose ((byte == 43) && equals) (Some marks.PlusEquals) second None h
    (λ w e. absurd (some_none _ e))
    (λ plus h2. choose ((byte == 45) && equals) (Some marks.MinusEquals) third None h2
    (λ w e. absurd (some_none _ e))
    (λ minus h3. choose ((at == 8) && (byte == 64)) (Some marks.At) fourth None h3
    (λ w e. absurd (some_none _ e))
    (λ sign h4. choose ((at == 8) && (byte == 62)) (Some marks.Greater) None None h4
    (λ w e. absurd (some_none _ e))
    (λ greater h5. record {
      no_assignment = one_of_two (byte == 43) (byte == 45) equals plus minus;
      no_binding = λ is. (
        differs byte 64 (other_place (at == 8) (byte == 64) sign (eq-eqb _ _ is)),
        differs byte 62 (other_place (at == 8) (byte == 62) greater (eq-eqb _ _ is)),
      );
    }))))

-- No mark at all.
record NoMark (kind : LineKind) (text : List ℕ) (at : ℕ) : Type 0 where
  no_mark : is_mark_byte (get_or text at 0) ≡ false
  of_defaults : IsTrue (is_defaults kind) → NoDefaultsMark text at

no_mark_at : (kind : LineKind) (text : List ℕ) (at : ℕ) → mark_at kind text at ≡ None → NoMark kind text at
unfolding mark_at
no_mark_at kind text at h =
    let byte : ℕ = get_or text at 0 in
    let seventh : Option Mark = if is_defaults kind then defaults_mark_at text at else None in
    let sixth : Option Mark = if byte == 41 then Some marks.RightParen else seventh in
    let fifth : Option Mark = if byte == 40 then Some marks.LeftParen else sixth in
    let fourth : Option Mark = if byte == 58 then Some marks.Colon else fifth in
    let third : Option Mark = if byte == 44 then Some marks.Comma else fourth in
    let second : Option Mark = if byte == 61 then Some marks.Equals else third in
    choose (byte == 33) (Some marks.Bang) second None h (λ w e. absurd (some_none _ e))
    (λ w1 h1. choose (byte == 61) (Some marks.Equals) third None h1 (λ w e. absurd (some_none _ e))
    (λ w2 h2. choose (byte == 44) (Some marks.Comma) fourth None h2 (λ w e. absurd (some_none _ e))
    (λ w3 h3. choose (byte == 58) (Some marks.Colon) fifth None h3 (λ w e. absurd (some_none _ e))
    (λ w4 h4. choose (byte == 40) (Some marks.LeftParen) sixth None h4 (λ w e. absurd (some_none _ e))
    (λ w5 h5. choose (byte == 41) (Some marks.RightParen) seventh None h5 (λ w e. absurd (some_none _ e))
    (λ w6 h6. record {
      no_mark = or_from _ _ (or_from _ _ (or_from _ _ (or_from _ _ (or_from (byte == 33) (byte == 61) w1 w2) w3) w4) w5) w6;
      of_defaults = λ on. choose (is_defaults kind) (defaults_mark_at text at) None None h6
          (λ w e. no_defaults_mark text at e) (λ w e. absurd (true≢false (sym on ∙ w)));
    }))))))

sudoedit_begins : (kind : LineKind) (text : List ℕ) (at : ℕ) → is_sudoedit kind text at ≡ true
    → starts_with nat_eq (drop at text) (codes "sudoedit") ≡ true
unfolding is_sudoedit
sudoedit_begins kind text at h =
    let front = and_parts (nat_le (at + 8) (length text) && starts_with nat_eq (drop at text) (codes "sudoedit"))
    (is_end (piece_at (word_style kind) text at (at + 8))) h in
    (and_parts (nat_le (at + 8) (length text)) (starts_with nat_eq (drop at text) (codes "sudoedit")) front.0).1

mark-begins : (kind : LineKind) (before : Before) (text : List ℕ) (at : ℕ) (mark : Option Mark)
    → mark_at kind text at ≡ mark → (NoMark kind text at → BeginsWord kind before text at)
    → Begins (mark_or_word mark) kind before text at
mark-begins kind before text at (Some mark) is word = tt
mark-begins kind before text at None is word = word (no_mark_at kind text at is)

general_begins : (kind : LineKind) (before : Before) (text : List ℕ) (at : ℕ) → is_blank (get_or text at 0) ≡ false
    → Begins (general_rule_at kind before text at) kind before text at
unfolding general_rule_at
general_begins kind before text at no_blank =
    let byte : ℕ = get_or text at 0 in
    let P : Rule → Type 0 = λ rule. Begins rule kind before text at in
    let comment : Bool = (byte == 35) && not (opens before && is_digit (get_or text (at + 1) 0)) in
    let value : Bool = is_defaults kind && wants_value before && not (byte == 44) in
    let path : Bool = (byte == 47) || is_sudoedit kind text at in
    let fourth : Rule = mark_or_word (mark_at kind text at) in
    let third : Rule = if path then rules.Command else fourth in
    let second : Rule = if value then rules.Value else third in
    let first : Rule = if byte == 34 then rules.Quoted else second in
    pick P comment rules.Comment first
    (λ w. eqb-true byte 35 (and_parts (byte == 35) (not (opens before && is_digit (get_or text (at + 1) 0))) w).0)
    (λ w. pick P (byte == 34) rules.Quoted second (λ q. eqb-true byte 34 q)
    (λ q. pick P value rules.Value third
    (λ v. record {
      no_blank = no_blank;
      no_comma = differs byte 44 (not_true _ (and_parts (is_defaults kind && wants_value before) (not (byte == 44)) v).1);
      no_quote = differs byte 34 q;
      number = numbers before text at w;
    })
    (λ v. pick P path rules.Command fourth
    (λ p. elim (either (byte == 47) (is_sudoedit kind text at) p) [
      | inl h ↦ inl (eqb-true byte 47 h)
      | inr h ↦ inr (sudoedit_begins kind text at h)
    ])
    (λ p. mark-begins kind before text at (mark_at kind text at) refl (λ unmarked. record {
      no_blank = no_blank;
      no_mark = unmarked.no_mark;
      no_quote = differs byte 34 q;
      number = numbers before text at w;
      no_path = differs byte 47 (or_parts (byte == 47) (is_sudoedit kind text at) p).0;
      no_assignment = λ on. (unmarked.of_defaults on).no_assignment;
      no_binding = λ on. (unmarked.of_defaults on).no_binding;
    })))))

first_begins : (kind : LineKind) (before : Before) (text : List ℕ) (at : ℕ) (rule : Rule)
    → Begins rule kind before text at → Begins (first_rule kind rule) kind before text at
first_begins lines.General before text at rule h = h
first_begins lines.Defaults before text at rule h = tt
first_begins (lines.Include folder hash) before text at rule h = skip-no-blank text (at + directive_len folder)

pub runs_begin : (kind : LineKind) (before : Before) (text : List ℕ) (from : ℕ)
    → Begins (rule_at kind before text (skip text from)) kind before text (skip text from)
unfolding rule_at
runs_begin kind before text from =
    let at : ℕ = skip text from in
    let general = general_begins kind before text at (skip-no-blank text from) in
    pick (λ rule. Begins rule kind before text at) (nat_lt 0 at) (general_rule_at kind before text at)
    (first_rule kind (general_rule_at kind before text at))
    (λ w. general) (λ w. first_begins kind before text at (general_rule_at kind before text at) general)
