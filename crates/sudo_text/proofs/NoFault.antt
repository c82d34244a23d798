-- A line that spells a list of tokens has no fault.
use Rattle.std.proofs.Common.{◌≡◌, ℕ, zero, suc, ◌+◌, ◌<◌, Bool, List, [], ◌∷◌, length, drop, get_or, true, false}
use Rattle.std.proofs.Common.{refl, sym, ◌∙◌, ap, subst, ⊎_elim, inl, inr, Option, Some, None, Result, Ok, Err, arith}
use Rattle.std.proofs.lemmas.Bool.Decides.{nat_tests}
use Rattle.std.specs.Prelude.{◌==◌, ◌&&◌, ◌||◌, not, if◌then◌else◌, ◌⊎◌, ◌≢◌, nat_le, nat_lt, IfOk, IfErr}
use Rattle.std.proofs.lemmas.Bool.{and_parts, true≢false, false≢true}
use Rattle.sudo_base.proofs.Options.{none_some}
use Rattle.sudo_text.specs.declared.token.Ch.{Ch}
use Rattle.sudo_text.specs.declared.token.Token.{Token}
use Rattle.sudo_text.specs.declared.token.TokenKind.{TokenKind}
use Rattle.sudo_text.specs.declared.rules.LineKind.{LineKind}
use Rattle.sudo_text.specs.declared.rules.Before.{Before}
use Rattle.sudo_text.specs.declared.rules.Before.TheVariants as befores
use Rattle.sudo_text.specs.declared.rules.Rule.{Rule}
use Rattle.sudo_text.specs.declared.rules.Rule.TheVariants as rules
use Rattle.sudo_text.specs.declared.line.Line.{Line}
use Rattle.sudo_text.specs.declared.line.Place.{Place}
use Rattle.sudo_text.specs.declared.fault.TextFault.{TextFault}
use Rattle.sudo_text.specs.declared.fault.TextFault.TheVariants as faults
use Rattle.sudo_text.specs.declared.piece.Style.{Style}
use Rattle.sudo_text.specs.declared.piece.Style.TheVariants as styles
use Rattle.sudo_text.specs.declared.piece.Piece.TheVariants.{Char, End, Bad}
use Rattle.sudo_text.specs.declared.piece.Flaw.{Flaw}
use Rattle.sudo_text.specs.Pieces.{piece_at, skip, reach, run_end, Breaks}
use Rattle.sudo_text.specs.Rules.{word_style, directive_len, rule_at, before_of, line_kind}
use Rattle.sudo_text.specs.Faults.{Gives, Fails}
use Rattle.sudo_text.specs.Tokens.{same_chars, quoted_end, has_arguments, arguments_end, command_end, path_end}
use Rattle.sudo_text.specs.Tokens.{is_comment, has_join_after, stands, closes_line, spells_from, spells, takes_next}
use Rattle.sudo_text.specs.Tokens.{has_closing, QuotedFlaw, CommandFlaw, PathFlaw, FlawBy, FlawAfter, LeftmostFault}
use Rattle.sudo_text.proofs.RunCharacters.{choose, bad_char, bad_end, end_char, follow-parts, run_parts}
use Rattle.sudo_text.proofs.ClosingQuotes.{closing_at, reach-keeps}
use Rattle.sudo_text.proofs.Unique.{then_parts, run_unique}
use Rattle.sudo_text.proofs.OneList.{Reads, stand_parts, past_end, closed_no_token, stands_unique, one_list}

-- A run that comes to a flaw has no end.
reach-broken : (style : Style) (text : List ℕ) (start at e f : ℕ) (flaw : Flaw) (offset : ℕ) (xs ys : List Ch)
    → reach style text start at xs ≡ Some e → piece_at style text start e ≡ Bad flaw offset
    → reach style text start at ys ≡ Some f → piece_at style text start f ≡ End → ⊥
unfolding reach
reach-broken style text start at e f flaw offset [] [] h he k kf =
    let s : e ≡ f = cc in
    bad_end _ _ (sym he ∙ ap (λ n. piece_at style text start n) s ∙ kf)
reach-broken style text start at e f flaw offset [] (y ∷ ys) h he k kf =
    let step = follow-parts (piece_at style text start at) y _ f k in
    let same : at ≡ e = cc h in
    bad_char _ _ _ _ (sym he ∙ ap (λ n. piece_at style text start n) (sym same) ∙ step.1)
reach-broken style text start at e f flaw offset (x ∷ xs) [] h he k kf =
    let step = follow-parts (piece_at style text start at) x _ e h in
    let same : at ≡ f = cc k in
    end_char _ _ (sym kf ∙ ap (λ n. piece_at style text start n) (sym same) ∙ step.1)
reach-broken style text start at e f flaw offset (x ∷ xs) (y ∷ ys) h he k kf =
    let a = follow-parts (piece_at style text start at) x _ e h in
    let b = follow-parts (piece_at style text start at) y _ f k in
    let same : Char x a.0 ≡ Char y b.0 = sym a.1 ∙ b.1 in
    let n : a.0 ≡ b.0 = cc same in
    reach-broken style text start b.0 e f flaw offset xs ys (subst (λ m. reach style text start m xs ≡ Some e) n a.2) he b.2 kf

pub breaks_no_run : (style : Style) (text : List ℕ) (start : ℕ) (flaw : Flaw) (offset f : ℕ) (ys : List Ch)
    → Breaks style text start flaw offset → run_end style text start ys ≡ Some f → ⊥
breaks_no_run style text start flaw offset f ys broken run =
    let b = run_parts style text start f ys run in
    reach-broken style text start start broken.end f flaw offset broken.chars ys broken.reached broken.broken b.0 b.1

-- A double quote at an offset is a closing one.
quote_closes : (text : List ℕ) (at : ℕ) → (get_or text at 0 == 34) ≡ true → at < length text → has_closing false (drop at text) ≡ true
quote_closes text at quote lt =
    let P : Bool → Type 0 = λ t. (if t then true else has_closing (takes_next false (get_or text at 0)) (drop (at + 1) text)) ≡ true in
    closing_at false text at lt ∙ subst P (sym quote) refl

byte_within : (text : List ℕ) (at : ℕ) → (get_or text at 0 == 34) ≡ true → at < length text
byte_within [] at h = absurd (true≢false (sym h))
byte_within (b ∷ bs) zero h = omega arith
byte_within (b ∷ bs) (suc at) h = let r : at < length bs = byte_within bs at h in omega arith

quoted_no_end : (text : List ℕ) (at : ℕ) (flaw : Flaw) (offset e : ℕ) (cs : List Ch) → QuotedFlaw text at flaw offset
    → quoted_end text at cs ≡ Some e → ⊥
unfolding quoted_end
quoted_no_end text at flaw offset e cs flawed h =
    let a = then_parts (run_end styles.Quoted text (at + 1) cs) _ e h in
    ⊎_elim
    (λ w. breaks_no_run styles.Quoted text (at + 1) flaw offset a.0 cs w.1 a.1)
    (λ w. choose (get_or text a.0 0 == 34) (Some (a.0 + 1)) None (Some e) a.2
    (λ quote m.
    let parts = run_parts styles.Quoted text (at + 1) a.0 cs a.1 in
    let closed : has_closing false (drop (at + 1) text) ≡ true = reach-keeps text (at + 1) (at + 1) a.0 cs parts.0
    ∙ quote_closes text a.0 quote (byte_within text a.0 quote) in
    false≢true (subst (λ b. not b ≡ true) closed w.0))
    (λ quote m. none_some e m))
    flawed

path_no_end : (text : List ℕ) (at : ℕ) (flaw : Flaw) (offset e : ℕ) (cs : List Ch) → PathFlaw text at flaw offset
    → path_end text at cs ≡ Some e → ⊥
unfolding path_end
path_no_end text at flaw offset e cs flawed h =
    let next : ℕ = skip text at in
    let found : Option ℕ = if get_or text next 0 == 34 then quoted_end text next cs else run_end styles.Include text next cs in
    choose (nat_le (length text) next) (if same_chars cs [] then Some at else None) found (Some e) h
    (λ w m. past_end (length text) next w (below next (length text) flawed.0))
    (λ w m. ⊎_elim
    (λ q. choose (get_or text next 0 == 34) (quoted_end text next cs) (run_end styles.Include text next cs) (Some e) m
    (λ v n. quoted_no_end text next flaw offset e cs q.1 n)
    (λ v n. true≢false (sym q.0 ∙ v)))
    (λ q. choose (get_or text next 0 == 34) (quoted_end text next cs) (run_end styles.Include text next cs) (Some e) m
    (λ v n. false≢true (subst (λ b. not b ≡ true) v q.0))
    (λ v n. breaks_no_run styles.Include text next flaw offset e cs q.1 n))
    flawed.1)
  where
    below : (a b : ℕ) → a < b → nat_lt a b ≡ true
    below a b lt = grind (arith, nat_tests)

arguments_no_end : (kind : LineKind) (text : List ℕ) (end : ℕ) (flaw : Flaw) (offset e : ℕ) (args : Option (List Ch))
    → has_arguments kind text end ≡ true → Breaks styles.Arguments text (skip text end) flaw offset
    → arguments_end kind text end args ≡ Some e → ⊥
arguments_no_end kind text end flaw offset e None on broken h =
    choose (has_arguments kind text end) None (Some end) (Some e) h (λ w m. none_some e m) (λ w m. true≢false (sym on ∙ w))
arguments_no_end kind text end flaw offset e (Some cs) on broken h =
    choose (has_arguments kind text end) (run_end styles.Arguments text (skip text end) cs) None (Some e) h
    (λ w m. breaks_no_run styles.Arguments text (skip text end) flaw offset e cs broken m) (λ w m. none_some e m)

command_no_end : (kind : LineKind) (text : List ℕ) (at : ℕ) (flaw : Flaw) (offset e : ℕ) (path : List Ch) (args : Option (List Ch))
    → CommandFlaw kind text at flaw offset → command_end kind text at path args ≡ Some e → ⊥
unfolding command_end
command_no_end kind text at flaw offset e path args flawed h =
    let a = then_parts (run_end styles.Path text at path) _ e h in
    ⊎_elim
    (λ w. breaks_no_run styles.Path text at flaw offset a.0 path w a.1)
    (λ w.
    let same = run_unique styles.Path text at a.0 w.end path w.path a.1 w.path_ends in
    arguments_no_end kind text w.end flaw offset e args w.goes_on w.breaks
    (subst (λ n. arguments_end kind text n args ≡ Some e) same.1 a.2))
    flawed

-- What comes to a flaw is read as no token.
pub flaw_no_token : (rule : Rule) (kind : LineKind) (text joins : List ℕ) (at : ℕ) (flaw : Flaw) (offset : ℕ) (token : TokenKind) (e : ℕ)
    → FlawBy rule kind text joins at flaw offset → Reads rule kind text at token e → ⊥
flaw_no_token (rules.Include folder hash) kind text joins at flaw offset token e f r =
    path_no_end text (at + directive_len folder) flaw offset e r.0 f r.2
flaw_no_token rules.Keyword kind text joins at flaw offset token e f r = f
flaw_no_token rules.Comment kind text joins at flaw offset token e f r = r
flaw_no_token rules.Quoted kind text joins at flaw offset token e f r = quoted_no_end text at flaw offset e r.0 f r.2
flaw_no_token rules.Value kind text joins at flaw offset token e f r = breaks_no_run styles.Value text at flaw offset e r.0 f r.2
flaw_no_token rules.Command kind text joins at flaw offset token e f r = command_no_end kind text at flaw offset e r.0 r.1 f r.3
flaw_no_token (rules.Mark mark) kind text joins at flaw offset token e f r = f
flaw_no_token rules.Word kind text joins at flaw offset token e f r = breaks_no_run (word_style kind) text at flaw offset e r.0 f r.2

-- A flaw of a rule that is a comment's says that a join lies after the `#`.
comment_flaw : (rule : Rule) (kind : LineKind) (text joins : List ℕ) (at : ℕ) (flaw : Flaw) (offset : ℕ)
    → is_comment rule ≡ true → FlawBy rule kind text joins at flaw offset → has_join_after joins at ≡ true
comment_flaw rules.Comment kind text joins at flaw offset h f = f.0
comment_flaw rule kind text joins at flaw offset h f = absurd (true≢false (sym h))

flaw_not_closed : (kind : LineKind) (text joins : List ℕ) (from : ℕ) (before : Before) (flaw : Flaw) (offset : ℕ)
    → FlawAfter kind text joins from before [] flaw offset → closes_line kind text joins from before ≡ true → ⊥
unfolding closes_line
flaw_not_closed kind text joins from before flaw offset f h =
    let next : ℕ = skip text from in
    ⊎_elim
    (λ (w : nat_le (length text) next ≡ true). past_end (length text) next w (below next (length text) f.0))
    (λ (w : (is_comment (rule_at kind before text next) && not (has_join_after joins next)) ≡ true).
    let parts = and_parts (is_comment (rule_at kind before text next)) (not (has_join_after joins next)) w in
    false≢true (subst (λ b. not b ≡ true) (comment_flaw (rule_at kind before text next) kind text joins next flaw
    offset parts.0 f.1) parts.1))
    (either (nat_le (length text) next) (is_comment (rule_at kind before text next) && not (has_join_after joins next)) h)
  where
    below : (a b : ℕ) → a < b → nat_lt a b ≡ true
    below a b lt = grind (arith, nat_tests)

    either : (a b : Bool) → (a || b) ≡ true → (a ≡ true) ⊎ (b ≡ true)
    either true b h = inl refl
    either false b h = inr h

flaw_no_list : (kind : LineKind) (text joins : List ℕ) (from : ℕ) (before : Before) (ts us : List Token) (flaw : Flaw) (offset : ℕ)
    → FlawAfter kind text joins from before ts flaw offset → spells_from kind text joins from before us ≡ true → ⊥
flaw_no_list kind text joins from before [] [] flaw offset f h = flaw_not_closed kind text joins from before flaw offset f h
flaw_no_list kind text joins from before [] (u ∷ us) flaw offset f h =
    let a = and_parts (stands kind text from before u) (spells_from kind text joins u.end (before_of u.kind) us) h in
    let r = stand_parts kind text from before u a.0 in
    flaw_no_token (rule_at kind before text (skip text from)) kind text joins (skip text from) flaw offset u.kind u.end f.1 r.2
flaw_no_list kind text joins from before (t ∷ ts) [] flaw offset f h = closed_no_token kind text joins from before t h f.0
flaw_no_list kind text joins from before (t ∷ ts) (u ∷ us) flaw offset f h =
    let a = and_parts (stands kind text from before u) (spells_from kind text joins u.end (before_of u.kind) us) h in
    let same = stands_unique kind text from before t u f.0 a.0 in
    flaw_no_list kind text joins u.end (before_of u.kind) ts us flaw offset
    (subst (λ (v : Token). FlawAfter kind text joins v.end (before_of v.kind) ts flaw offset) same f.1) a.1

pub no_fault : (line : Line) (fault : TextFault) (ts : List Token) → LeftmostFault line fault → spells line ts ≡ true → ⊥
unfolding spells
no_fault line fault ts f h = flaw_no_list (line_kind line.text) line.text line.joins 0 befores.Nothing f.before ts f.flaw f.offset f.after h

-- What tokens are spelled are given.
fault_or_memory : (line : Line) (f : TextFault) (ts : List Token) → (f ≢ faults.Memory → LeftmostFault line f)
    → spells line ts ≡ true → Fails f (Ok ts)
fault_or_memory line faults.Memory ts given h = tt
fault_or_memory line (faults.BadQuote l c) ts given h =
    absurd (no_fault line (faults.BadQuote l c) ts (given (λ e. not_memory_quote l c e)) h)
  where
    not_memory_quote : (l : Place) (c : ℕ) → faults.BadQuote l c ≡ faults.Memory → ⊥
    not_memory_quote l c e = cc
fault_or_memory line (faults.BadHex l c) ts given h = absurd (no_fault line (faults.BadHex l c) ts (given (λ e. not_memory l c e)) h)
  where
    not_memory : (l : Place) (c : ℕ) → faults.BadHex l c ≡ faults.Memory → ⊥
    not_memory l c e = cc
fault_or_memory line (faults.BadEscape l c) ts given h = absurd (no_fault line (faults.BadEscape l c) ts (given (λ e. not_memory l c e)) h)
  where
    not_memory : (l : Place) (c : ℕ) → faults.BadEscape l c ≡ faults.Memory → ⊥
    not_memory l c e = cc
fault_or_memory line (faults.NotPrintable l c) ts given h =
    absurd (no_fault line (faults.NotPrintable l c) ts (given (λ e. not_memory l c e)) h)
  where
    not_memory : (l : Place) (c : ℕ) → faults.NotPrintable l c ≡ faults.Memory → ⊥
    not_memory l c e = cc
fault_or_memory line (faults.TooLong file) ts given h = absurd (no_fault line (faults.TooLong file) ts (given (λ e. not_memory file e)) h)
  where
    not_memory : (file : ℕ) → faults.TooLong file ≡ faults.Memory → ⊥
    not_memory file e = cc

pub only_of : {X : Type 0} (items : X → List Token) (line : Line) (result : Result X TextFault)
    → IfOk result (λ v. spells line (items v) ≡ true)
    → IfErr result (λ f. f ≢ faults.Memory → LeftmostFault line f) → (ts : List Token) → spells line ts ≡ true → Gives items result (Ok ts)
only_of items line (Ok v) ok err ts h = ap Ok (one_list line ts (items v) h ok)
only_of items line (Err f) ok err ts h = fault_or_memory line f ts err h
