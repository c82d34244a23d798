-- A line has at most one leftmost fault.
use Rattle.std.proofs.Common.{◌≡◌, ℕ, ◌+◌, Bool, List, [], ◌∷◌, drop, get_or, true, false, sym, ◌∙◌, ap, subst, ⊎_elim, Some}
use Rattle.std.specs.Prelude.{◌==◌, not, IsTrue}
use Rattle.std.proofs.lemmas.Bool.{false≢true}
use Rattle.sudo_text.specs.declared.token.Ch.{Ch}
use Rattle.sudo_text.specs.declared.token.Token.{Token}
use Rattle.sudo_text.specs.declared.rules.LineKind.{LineKind}
use Rattle.sudo_text.specs.declared.rules.Before.{Before}
use Rattle.sudo_text.specs.declared.rules.Before.TheVariants as befores
use Rattle.sudo_text.specs.declared.rules.Rule.{Rule}
use Rattle.sudo_text.specs.declared.rules.Rule.TheVariants as rules
use Rattle.sudo_text.specs.declared.line.Line.{Line}
use Rattle.sudo_text.specs.declared.fault.TextFault.{TextFault}
use Rattle.sudo_text.specs.declared.piece.Style.{Style}
use Rattle.sudo_text.specs.declared.piece.Style.TheVariants as styles
use Rattle.sudo_text.specs.declared.piece.Piece.TheVariants.{Char, Bad}
use Rattle.sudo_text.specs.declared.piece.Flaw.{Flaw}
use Rattle.sudo_text.specs.Pieces.{piece_at, skip, reach, Breaks}
use Rattle.sudo_text.specs.Rules.{word_style, directive_len, rule_at, before_of, line_kind}
use Rattle.sudo_text.specs.Tokens.{stands, has_closing, QuotedFlaw, ArgumentsFlaw, CommandFlaw, PathFlaw, FlawBy}
use Rattle.sudo_text.specs.Tokens.{FlawAfter, LeftmostFault, fault_of}
use Rattle.sudo_text.proofs.RunCharacters.{bad_char, follow-parts}
use Rattle.sudo_text.proofs.Unique.{run_unique}
use Rattle.sudo_text.proofs.OneList.{stand_parts, stands_unique}
use Rattle.sudo_text.proofs.NoFault.{breaks_no_run, flaw_no_token}

-- The same flaw at the same offset.
Same : Flaw → Flaw → ℕ → ℕ → Type 0
Same a b p q = (a ≡ b) × (p ≡ q)

same_flaw : (a b : Flaw) (p q : ℕ) → Bad a p ≡ Bad b q → Same a b p q
unfolding Same
same_flaw a b p q e =
    let f : a ≡ b = cc e in
    let n : p ≡ q = cc e in
    (f, n)

reach-breaks-once : (style : Style) (text : List ℕ) (start at e f : ℕ) (a b : Flaw) (p q : ℕ) (xs ys : List Ch)
    → reach style text start at xs ≡ Some e → piece_at style text start e ≡ Bad a p
    → reach style text start at ys ≡ Some f → piece_at style text start f ≡ Bad b q → Same a b p q
unfolding reach
reach-breaks-once style text start at e f a b p q [] [] h he k kf =
    let s : e ≡ f = cc in
    same_flaw a b p q (sym he ∙ ap (λ n. piece_at style text start n) s ∙ kf)
reach-breaks-once style text start at e f a b p q [] (y ∷ ys) h he k kf =
    let step = follow-parts (piece_at style text start at) y _ f k in
    let same : at ≡ e = cc h in
    absurd (bad_char _ _ _ _ (sym he ∙ ap (λ n. piece_at style text start n) (sym same) ∙ step.1))
reach-breaks-once style text start at e f a b p q (x ∷ xs) [] h he k kf =
    let step = follow-parts (piece_at style text start at) x _ e h in
    let same : at ≡ f = cc k in
    absurd (bad_char _ _ _ _ (sym kf ∙ ap (λ n. piece_at style text start n) (sym same) ∙ step.1))
reach-breaks-once style text start at e f a b p q (x ∷ xs) (y ∷ ys) h he k kf =
    let m = follow-parts (piece_at style text start at) x _ e h in
    let n = follow-parts (piece_at style text start at) y _ f k in
    let same : Char x m.0 ≡ Char y n.0 = sym m.1 ∙ n.1 in
    let i : m.0 ≡ n.0 = cc same in
    reach-breaks-once style text start n.0 e f a b p q xs ys (subst (λ j. reach style text start j xs ≡ Some e) i m.2) he n.2 kf

breaks_once : (style : Style) (text : List ℕ) (start : ℕ) (a b : Flaw) (p q : ℕ) → Breaks style text start a p
    → Breaks style text start b q → Same a b p q
breaks_once style text start a b p q l r =
    reach-breaks-once style text start start l.end r.end a b p q l.chars r.chars l.reached l.broken r.reached r.broken

-- A double quote closes or does not.
closes_or_not : (b : Bool) → IsTrue b → IsTrue (not b) → ⊥
closes_or_not true h k = false≢true k
closes_or_not false h k = false≢true h

quoted_once : (text : List ℕ) (at : ℕ) (a b : Flaw) (p q : ℕ) → QuotedFlaw text at a p → QuotedFlaw text at b q → Same a b p q
unfolding Same
quoted_once text at a b p q l r =
    ⊎_elim
    (λ v. ⊎_elim (λ w. breaks_once styles.Quoted text (at + 1) a b p q v.1 w.1)
    (λ w. absurd (closes_or_not (has_closing false (drop (at + 1) text)) v.0 w.0)) r)
    (λ v. ⊎_elim (λ w. absurd (closes_or_not (has_closing false (drop (at + 1) text)) w.0 v.0)) (λ w. (v.1 ∙ sym w.1, v.2 ∙ sym w.2)) r)
    l

arguments_once : (kind : LineKind) (text : List ℕ) (at : ℕ) (a b : Flaw) (p q : ℕ) → ArgumentsFlaw kind text at a p
    → ArgumentsFlaw kind text at b q → Same a b p q
arguments_once kind text at a b p q l r =
    let same = run_unique styles.Path text at l.end r.end l.path r.path l.path_ends r.path_ends in
    breaks_once styles.Arguments text (skip text r.end) a b p q
    (subst (λ n. Breaks styles.Arguments text (skip text n) a p) same.1 l.breaks) r.breaks

command_once : (kind : LineKind) (text : List ℕ) (at : ℕ) (a b : Flaw) (p q : ℕ) → CommandFlaw kind text at a p
    → CommandFlaw kind text at b q → Same a b p q
command_once kind text at a b p q l r =
    ⊎_elim
    (λ v. ⊎_elim (λ w. breaks_once styles.Path text at a b p q v w)
    (λ w. absurd (breaks_no_run styles.Path text at a p w.end w.path v w.path_ends)) r)
    (λ v. ⊎_elim (λ w. absurd (breaks_no_run styles.Path text at b q v.end v.path w v.path_ends))
    (λ w. arguments_once kind text at a b p q v w) r)
    l

path_once : (text : List ℕ) (at : ℕ) (a b : Flaw) (p q : ℕ) → PathFlaw text at a p → PathFlaw text at b q → Same a b p q
path_once text at a b p q l r =
    let next : ℕ = skip text at in
    ⊎_elim
    (λ v. ⊎_elim (λ w. quoted_once text next a b p q v.1 w.1) (λ w. absurd (closes_or_not (get_or text next 0 == 34) v.0 w.0)) r.1)
    (λ v. ⊎_elim (λ w. absurd (closes_or_not (get_or text next 0 == 34) w.0 v.0))
    (λ w. breaks_once styles.Include text next a b p q v.1 w.1) r.1)
    l.1

rule_once : (rule : Rule) (kind : LineKind) (text joins : List ℕ) (at : ℕ) (a b : Flaw) (p q : ℕ)
    → FlawBy rule kind text joins at a p → FlawBy rule kind text joins at b q → Same a b p q
unfolding Same
rule_once (rules.Include folder hash) kind text joins at a b p q l r = path_once text (at + directive_len folder) a b p q l r
rule_once rules.Keyword kind text joins at a b p q l r = absurd l
rule_once rules.Comment kind text joins at a b p q l r = (l.1 ∙ sym r.1, l.2 ∙ sym r.2)
rule_once rules.Quoted kind text joins at a b p q l r = quoted_once text at a b p q l r
rule_once rules.Value kind text joins at a b p q l r = breaks_once styles.Value text at a b p q l r
rule_once rules.Command kind text joins at a b p q l r = command_once kind text at a b p q l r
rule_once (rules.Mark mark) kind text joins at a b p q l r = absurd l
rule_once rules.Word kind text joins at a b p q l r = breaks_once (word_style kind) text at a b p q l r

-- A token that stands and a flaw at its offset exclude each other.
stands_or_fails : (kind : LineKind) (text joins : List ℕ) (from : ℕ) (before : Before) (u : Token) (a : Flaw) (p : ℕ)
    → FlawBy (rule_at kind before text (skip text from)) kind text joins (skip text from) a p → stands kind text from before u ≡ true → ⊥
stands_or_fails kind text joins from before u a p f h =
    let r = stand_parts kind text from before u h in
    flaw_no_token (rule_at kind before text (skip text from)) kind text joins (skip text from) a p u.kind u.end f r.2

after_once : (kind : LineKind) (text joins : List ℕ) (from : ℕ) (before : Before) (ts us : List Token) (a b : Flaw) (p q : ℕ)
    → FlawAfter kind text joins from before ts a p → FlawAfter kind text joins from before us b q → Same a b p q
after_once kind text joins from before [] [] a b p q l r =
    rule_once (rule_at kind before text (skip text from)) kind text joins (skip text from) a b p q l.1 r.1
after_once kind text joins from before [] (u ∷ us) a b p q l r = absurd (stands_or_fails kind text joins from before u a p l.1 r.0)
after_once kind text joins from before (t ∷ ts) [] a b p q l r = absurd (stands_or_fails kind text joins from before t b q r.1 l.0)
after_once kind text joins from before (t ∷ ts) (u ∷ us) a b p q l r =
    let same = stands_unique kind text from before t u l.0 r.0 in
    after_once kind text joins u.end (before_of u.kind) ts us a b p q
    (subst (λ (v : Token). FlawAfter kind text joins v.end (before_of v.kind) ts a p) same l.1) r.1

-- A line has one leftmost fault.
pub one_fault : (line : Line) (f g : TextFault) → LeftmostFault line f → LeftmostFault line g → f ≡ g
unfolding Same
one_fault line f g l r =
    let same = after_once (line_kind line.text) line.text line.joins 0 befores.Nothing l.before r.before l.flaw r.flaw
    l.offset r.offset l.after r.after in
    l.is ∙ (λ i. fault_of line.first (same.0 i) (same.1 i)) ∙ sym r.is
