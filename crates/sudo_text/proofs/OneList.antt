-- A line spells at most one list of tokens.
use Rattle.std.proofs.Common.{◌≡◌, ℕ, ◌+◌, Bool, List, [], ◌∷◌, length, true, false, refl, sym, ◌∙◌, ap, subst}
use Rattle.std.proofs.Common.{⊎_elim, inl, inr, Option, Some, None, arith}
use Rattle.std.proofs.lemmas.Bool.{eqb-true, and_parts, true≢false}
use Rattle.std.proofs.lemmas.Bool.Decides.{nat_tests}
use Rattle.std.specs.Prelude.{◌==◌, ◌&&◌, ◌||◌, not, ◌⊎◌, nat_le, nat_lt}
use Rattle.sudo_base.proofs.Options.{none_some}
use Rattle.sudo_text.specs.declared.token.Ch.{Ch}
use Rattle.sudo_text.specs.declared.token.Token.{Token}
use Rattle.sudo_text.specs.declared.token.TokenKind.{TokenKind}
use Rattle.sudo_text.specs.declared.token.TokenKind.TheVariants as kinds
use Rattle.sudo_text.specs.declared.rules.LineKind.{LineKind}
use Rattle.sudo_text.specs.declared.rules.Before.{Before}
use Rattle.sudo_text.specs.declared.rules.Before.TheVariants as befores
use Rattle.sudo_text.specs.declared.rules.Rule.{Rule}
use Rattle.sudo_text.specs.declared.rules.Rule.TheVariants as rules
use Rattle.sudo_text.specs.declared.line.Line.{Line}
use Rattle.sudo_text.specs.declared.piece.Style.TheVariants as styles
use Rattle.sudo_text.specs.Pieces.{skip, run_end, same_bool}
use Rattle.sudo_text.specs.Rules.{word_style, mark_len, directive_len, rule_at, before_of, line_kind}
use Rattle.sudo_text.specs.Tokens.{defaults_word, quoted_end, command_end, mark_code, path_end, token_by, token_end}
use Rattle.sudo_text.specs.Tokens.{is_comment, has_join_after, is_offset, stands, closes_line, spells_from, spells}
use Rattle.sudo_text.proofs.RunCharacters.{choose, same_bool-true}
use Rattle.sudo_text.proofs.Unique.{run_unique, quoted_unique, keyword_parts, command_unique, path_unique, same_mark}

-- What a rule reads at an offset, up to an end.
abbrev pub Reads : Rule → LineKind → List ℕ → ℕ → TokenKind → ℕ → Type 0
Reads (rules.Include folder hash) kind text at token end =
    (path : List Ch) × (token ≡ kinds.Include folder hash path) × (path_end text (at + directive_len folder) path ≡ Some end)
Reads rules.Keyword kind text at token end = (token ≡ kinds.Word false defaults_word) × (at + 8 ≡ end)
Reads rules.Comment kind text at token end = ⊥
Reads rules.Quoted kind text at token end = (cs : List Ch) × (token ≡ kinds.Word true cs) × (quoted_end text at cs ≡ Some end)
Reads rules.Value kind text at token end = (cs : List Ch) × (token ≡ kinds.Word false cs) × (run_end styles.Value text at cs ≡ Some end)
Reads rules.Command kind text at token end =
    (path : List Ch) × (args : Option (List Ch)) × (token ≡ kinds.Command path args) × (command_end kind text at path args ≡ Some end)
Reads (rules.Mark mark) kind text at token end = (token ≡ kinds.Mark mark) × (at + mark_len mark ≡ end)
Reads rules.Word kind text at token end = (cs : List Ch) × (token ≡ kinds.Word false cs) × (run_end (word_style kind) text at cs ≡ Some end)

some_is : (m n : ℕ) → Some m ≡ Some n → m ≡ n
some_is m n e = cc

pub reads : (rule : Rule) (kind : LineKind) (text : List ℕ) (at : ℕ) (token : TokenKind) (end : ℕ)
    → token_by rule kind text at token ≡ Some end → Reads rule kind text at token end
reads rules.Quoted kind text at (kinds.Word true cs) end h = (cs, refl, h)
reads rules.Word kind text at (kinds.Word false cs) end h = (cs, refl, h)
reads rules.Value kind text at (kinds.Word false cs) end h = (cs, refl, h)
reads rules.Keyword kind text at (kinds.Word false cs) end h =
    let parts = keyword_parts at end cs h in
    (ap (kinds.Word false) parts.0, parts.1)
reads rules.Command kind text at (kinds.Command path args) end h = (path, args, refl, h)
reads (rules.Mark found) kind text at (kinds.Mark mark) end h =
    choose (mark_code found == mark_code mark) (Some (at + mark_len mark)) None (Some end) h
    (λ w e. let same : mark ≡ found = sym (same_mark found mark w) in
    (ap kinds.Mark same, ap (λ m. at + mark_len m) (sym same) ∙ some_is _ _ e))
    (λ w e. absurd (none_some end e))
reads (rules.Include f g) kind text at (kinds.Include folder hash path) end h =
    choose (same_bool f folder && same_bool g hash) (path_end text (at + directive_len f) path) None (Some end) h
    (λ w e.
    let parts = and_parts (same_bool f folder) (same_bool g hash) w in
    let a : folder ≡ f = sym (same_bool-true f folder parts.0) in
    let b : hash ≡ g = sym (same_bool-true g hash parts.1) in
    (path, (λ i. kinds.Include (a i) (b i) path), e))
    (λ w e. absurd (none_some end e))
reads rule kind text at token end h = absurd (none_some end h)

read_unique : (rule : Rule) (kind : LineKind) (text : List ℕ) (at : ℕ) (t u : TokenKind) (e f : ℕ)
    → Reads rule kind text at t e → Reads rule kind text at u f → (t ≡ u) × (e ≡ f)
read_unique (rules.Include folder hash) kind text at t u e f a b =
    let s = path_unique text (at + directive_len folder) e f a.0 b.0 a.2 b.2 in
    (a.1 ∙ ap (kinds.Include folder hash) s.0 ∙ sym b.1, s.1)
read_unique rules.Keyword kind text at t u e f a b = (a.0 ∙ sym b.0, sym a.1 ∙ b.1)
read_unique rules.Comment kind text at t u e f a b = absurd a
read_unique rules.Quoted kind text at t u e f a b =
    let s = quoted_unique text at e f a.0 b.0 a.2 b.2 in
    (a.1 ∙ ap (kinds.Word true) s.0 ∙ sym b.1, s.1)
read_unique rules.Value kind text at t u e f a b =
    let s = run_unique styles.Value text at e f a.0 b.0 a.2 b.2 in
    (a.1 ∙ ap (kinds.Word false) s.0 ∙ sym b.1, s.1)
read_unique rules.Command kind text at t u e f a b =
    let s = command_unique kind text at e f a.0 b.0 a.1 b.1 a.3 b.3 in
    (a.2 ∙ (λ i. kinds.Command (s.0 i) (s.1 i)) ∙ sym b.2, s.2)
read_unique (rules.Mark mark) kind text at t u e f a b = (a.0 ∙ sym b.0, sym a.1 ∙ b.1)
read_unique rules.Word kind text at t u e f a b =
    let s = run_unique (word_style kind) text at e f a.0 b.0 a.2 b.2 in
    (a.1 ∙ ap (kinds.Word false) s.0 ∙ sym b.1, s.1)

is_offset-true : (o : Option ℕ) (n : ℕ) → is_offset o n ≡ true → o ≡ Some n
is_offset-true None n h = absurd (true≢false (sym h))
is_offset-true (Some m) n h = ap Some (eqb-true m n h)

-- Where a token stands, and what it is.
pub stand_parts : (kind : LineKind) (text : List ℕ) (from : ℕ) (before : Before) (t : Token) → stands kind text from before t ≡ true
    → (t.start ≡ skip text from) × (nat_lt t.start (length text) ≡ true)
    × Reads (rule_at kind before text (skip text from)) kind text (skip text from) t.kind t.end
unfolding stands token_end
stand_parts kind text from before t h =
    let outer = and_parts ((t.start == skip text from) && nat_lt t.start (length text))
    (is_offset (token_by (rule_at kind before text t.start) kind text t.start t.kind) t.end) h in
    let inner = and_parts (t.start == skip text from) (nat_lt t.start (length text)) outer.0 in
    let start : t.start ≡ skip text from = eqb-true t.start (skip text from) inner.0 in
    let read : Reads (rule_at kind before text t.start) kind text t.start t.kind t.end =
    reads (rule_at kind before text t.start) kind text t.start t.kind t.end (is_offset-true _ t.end outer.1) in
    (start, inner.1, subst (λ n. Reads (rule_at kind before text n) kind text n t.kind t.end) start read)

pub stands_unique : (kind : LineKind) (text : List ℕ) (from : ℕ) (before : Before) (t u : Token)
    → stands kind text from before t ≡ true → stands kind text from before u ≡ true → t ≡ u
stands_unique kind text from before t u h k =
    let a = stand_parts kind text from before t h in
    let b = stand_parts kind text from before u k in
    let same = read_unique (rule_at kind before text (skip text from)) kind text (skip text from) t.kind u.kind t.end u.end a.2 b.2 in
    let start : t.start ≡ u.start = a.0 ∙ sym b.0 in
    λ i. record { kind = same.0 i; start = start i; end = same.1 i }

pub either : (a b : Bool) → (a || b) ≡ true → (a ≡ true) ⊎ (b ≡ true)
either true b h = inl refl
either false b h = inr h

comment_reads_none : (rule : Rule) (kind : LineKind) (text : List ℕ) (at : ℕ) (t : TokenKind) (e : ℕ)
    → is_comment rule ≡ true → Reads rule kind text at t e → ⊥
comment_reads_none rules.Comment kind text at t e h r = r
comment_reads_none rule kind text at t e h r = true≢false (sym h)

pub past_end : (a b : ℕ) → nat_le a b ≡ true → nat_lt b a ≡ true → ⊥
past_end a b h k = true≢false (sym k ∙ not_less a b h)
  where
    not_less : (a b : ℕ) → nat_le a b ≡ true → nat_lt b a ≡ false
    not_less a b h = grind (arith, nat_tests)

-- A line that may end at an offset has no token there.
pub closed_no_token : (kind : LineKind) (text joins : List ℕ) (from : ℕ) (before : Before) (t : Token)
    → closes_line kind text joins from before ≡ true → stands kind text from before t ≡ true → ⊥
unfolding closes_line
closed_no_token kind text joins from before t h k =
    let a = stand_parts kind text from before t k in
    let next : ℕ = skip text from in
    ⊎_elim
    (λ (w : nat_le (length text) next ≡ true). past_end (length text) next w (subst (λ n. nat_lt n (length text) ≡ true) a.0 a.1))
    (λ (w : (is_comment (rule_at kind before text next) && not (has_join_after joins next)) ≡ true).
    comment_reads_none (rule_at kind before text next) kind text next t.kind t.end
    (and_parts (is_comment (rule_at kind before text next)) (not (has_join_after joins next)) w).0 a.2)
    (either (nat_le (length text) next) (is_comment (rule_at kind before text next) && not (has_join_after joins next)) h)

list_unique : (kind : LineKind) (text joins : List ℕ) (from : ℕ) (before : Before) (ts us : List Token)
    → spells_from kind text joins from before ts ≡ true → spells_from kind text joins from before us ≡ true → ts ≡ us
list_unique kind text joins from before [] [] h k = refl
list_unique kind text joins from before [] (u ∷ us) h k =
    absurd (closed_no_token kind text joins from before u h (and_parts (stands kind text from before u)
    (spells_from kind text joins u.end (before_of u.kind) us) k).0)
list_unique kind text joins from before (t ∷ ts) [] h k =
    absurd (closed_no_token kind text joins from before t k (and_parts (stands kind text from before t)
    (spells_from kind text joins t.end (before_of t.kind) ts) h).0)
list_unique kind text joins from before (t ∷ ts) (u ∷ us) h k =
    let a = and_parts (stands kind text from before t) (spells_from kind text joins t.end (before_of t.kind) ts) h in
    let b = and_parts (stands kind text from before u) (spells_from kind text joins u.end (before_of u.kind) us) k in
    let same = stands_unique kind text from before t u a.0 b.0 in
    let rest : ts ≡ us = list_unique kind text joins u.end (before_of u.kind) ts us
    (subst (λ (v : Token). spells_from kind text joins v.end (before_of v.kind) ts ≡ true) same a.1) b.1 in
    λ i. same i ∷ rest i

-- No line spells two lists of tokens.
pub one_list : (line : Line) (ts us : List Token) → spells line ts ≡ true → spells line us ≡ true → ts ≡ us
unfolding spells
one_list line ts us h k = list_unique (line_kind line.text) line.text line.joins 0 befores.Nothing ts us h k
