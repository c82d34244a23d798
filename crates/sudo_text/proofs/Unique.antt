-- A line spells at most one list of tokens, and none if it has a fault.
use Rattle.std.proofs.Common.{◌≡◌, ℕ, ◌+◌, List, [], ◌∷◌, length, get_or, true, refl, sym, ◌∙◌, ap, subst, Option, Some, None}
use Rattle.std.proofs.lemmas.Bool.{eqb-true, and_parts, true≢false}
use Rattle.std.specs.Prelude.{◌==◌, if◌then◌else◌, nat_le}
use Rattle.std.specs.Option.{option_and_then}
use Rattle.sudo_base.proofs.Options.{none_some}
use Rattle.sudo_text.specs.declared.token.Ch.{Ch}
use Rattle.sudo_text.specs.declared.token.Mark.{Mark}
use Rattle.sudo_text.specs.declared.token.Mark.TheVariants as marks
use Rattle.sudo_text.specs.declared.rules.LineKind.{LineKind}
use Rattle.sudo_text.specs.declared.piece.Style.{Style}
use Rattle.sudo_text.specs.declared.piece.Style.TheVariants as styles
use Rattle.sudo_text.specs.declared.piece.Piece.TheVariants.{Char, End}
use Rattle.sudo_text.specs.Pieces.{piece_at, skip, reach, run_end, same_ch}
use Rattle.sudo_text.specs.Tokens.{same_chars, defaults_word, quoted_end, keyword_end, has_arguments, arguments_end}
use Rattle.sudo_text.specs.Tokens.{command_end, mark_code, path_end}
use Rattle.sudo_text.proofs.RunCharacters.{choose, end_char, follow-parts, run_parts, same_ch-true}

-- Runs.

reach-unique : (style : Style) (text : List ℕ) (start at e f : ℕ) (xs ys : List Ch)
    → reach style text start at xs ≡ Some e → piece_at style text start e ≡ End
    → reach style text start at ys ≡ Some f → piece_at style text start f ≡ End → (xs ≡ ys) × (e ≡ f)
unfolding reach
reach-unique style text start at e f [] [] h he k kf = let s : e ≡ f = cc in (refl, s)
reach-unique style text start at e f [] (y ∷ ys) h he k kf =
    let step = follow-parts (piece_at style text start at) y _ f k in
    let same : at ≡ e = cc h in
    absurd (end_char _ _ (sym he ∙ ap (λ n. piece_at style text start n) (sym same) ∙ step.1))
reach-unique style text start at e f (x ∷ xs) [] h he k kf =
    let step = follow-parts (piece_at style text start at) x _ e h in
    let same : at ≡ f = cc k in
    absurd (end_char _ _ (sym kf ∙ ap (λ n. piece_at style text start n) (sym same) ∙ step.1))
reach-unique style text start at e f (x ∷ xs) (y ∷ ys) h he k kf =
    let a = follow-parts (piece_at style text start at) x _ e h in
    let b = follow-parts (piece_at style text start at) y _ f k in
    let same : Char x a.0 ≡ Char y b.0 = sym a.1 ∙ b.1 in
    let c : x ≡ y = cc same in
    let n : a.0 ≡ b.0 = cc same in
    let rest = reach-unique style text start b.0 e f xs ys (subst (λ m. reach style text start m xs ≡ Some e) n a.2) he b.2 kf in
    ((λ i. c i ∷ rest.0 i), rest.1)

pub run_unique : (style : Style) (text : List ℕ) (start e f : ℕ) (xs ys : List Ch)
    → run_end style text start xs ≡ Some e → run_end style text start ys ≡ Some f → (xs ≡ ys) × (e ≡ f)
run_unique style text start e f xs ys h k =
    let a = run_parts style text start e xs h in
    let b = run_parts style text start f ys k in
    reach-unique style text start start e f xs ys a.0 a.1 b.0 b.1

-- Steps that may fail.
pub then_parts : {A B : Type 0} (r : Option A) (on : A → Option B) (y : B) → option_and_then on r ≡ Some y
    → (x : A) × (r ≡ Some x) × (on x ≡ Some y)
then_parts None on y h = let f : Some y ≡ None = sym h in cc f
then_parts (Some x) on y h = (x, refl, h)

pub quoted_unique : (text : List ℕ) (at e f : ℕ) (xs ys : List Ch) → quoted_end text at xs ≡ Some e
    → quoted_end text at ys ≡ Some f → (xs ≡ ys) × (e ≡ f)
unfolding quoted_end
quoted_unique text at e f xs ys h k =
    let a = then_parts (run_end styles.Quoted text (at + 1) xs) _ e h in
    let b = then_parts (run_end styles.Quoted text (at + 1) ys) _ f k in
    let same = run_unique styles.Quoted text (at + 1) a.0 b.0 xs ys a.1 b.1 in
    let on : ℕ → Option ℕ = λ end. if get_or text end 0 == 34 then Some (end + 1) else None in
    let ends : Some e ≡ Some f = sym a.2 ∙ ap on same.1 ∙ b.2 in
    let s : e ≡ f = cc ends in
    (same.0, s)

same_chars-true : (cs ds : List Ch) → same_chars cs ds ≡ true → cs ≡ ds
same_chars-true [] [] h = refl
same_chars-true [] (d ∷ ds) h = cc h
same_chars-true (c ∷ cs) [] h = cc h
same_chars-true (c ∷ cs) (d ∷ ds) h =
    let parts = and_parts (same_ch c d) (same_chars cs ds) h in
    λ i. same_ch-true c d parts.0 i ∷ same_chars-true cs ds parts.1 i

pub keyword_parts : (at e : ℕ) (cs : List Ch) → keyword_end at cs ≡ Some e → (cs ≡ defaults_word) × (at + 8 ≡ e)
unfolding keyword_end
keyword_parts at e cs h =
    choose (same_chars cs defaults_word) (Some (at + 8)) None (Some e) h
    (λ w k. let s : at + 8 ≡ e = cc k in (same_chars-true cs defaults_word w, s))
    (λ w k. absurd (none_some e k))

pub arguments_unique : (kind : LineKind) (text : List ℕ) (at e f : ℕ) (xs ys : Option (List Ch))
    → arguments_end kind text at xs ≡ Some e → arguments_end kind text at ys ≡ Some f → (xs ≡ ys) × (e ≡ f)
arguments_unique kind text at e f None None h k = let s : Some e ≡ Some f = sym h ∙ k in let t : e ≡ f = cc s in (refl, t)
arguments_unique kind text at e f None (Some ys) h k =
    choose (has_arguments kind text at) None (Some at) (Some e) h (λ w m. absurd (none_some e m))
    (λ w m. choose (has_arguments kind text at) (run_end styles.Arguments text (skip text at) ys) None (Some f) k
    (λ v n. absurd (true≢false (sym v ∙ w))) (λ v n. absurd (none_some f n)))
arguments_unique kind text at e f (Some xs) None h k =
    choose (has_arguments kind text at) None (Some at) (Some f) k (λ w m. absurd (none_some f m))
    (λ w m. choose (has_arguments kind text at) (run_end styles.Arguments text (skip text at) xs) None (Some e) h
    (λ v n. absurd (true≢false (sym v ∙ w))) (λ v n. absurd (none_some e n)))
arguments_unique kind text at e f (Some xs) (Some ys) h k =
    choose (has_arguments kind text at) (run_end styles.Arguments text (skip text at) xs) None (Some e) h
    (λ w m. choose (has_arguments kind text at) (run_end styles.Arguments text (skip text at) ys) None (Some f) k
    (λ v n. let same = run_unique styles.Arguments text (skip text at) e f xs ys m n in (ap Some same.0, same.1))
    (λ v n. absurd (none_some f n)))
    (λ w m. absurd (none_some e m))

pub command_unique : (kind : LineKind) (text : List ℕ) (at e f : ℕ) (p q : List Ch) (xs ys : Option (List Ch))
    → command_end kind text at p xs ≡ Some e → command_end kind text at q ys ≡ Some f → (p ≡ q) × (xs ≡ ys) × (e ≡ f)
unfolding command_end
command_unique kind text at e f p q xs ys h k =
    let a = then_parts (run_end styles.Path text at p) _ e h in
    let b = then_parts (run_end styles.Path text at q) _ f k in
    let path = run_unique styles.Path text at a.0 b.0 p q a.1 b.1 in
    let rest = arguments_unique kind text b.0 e f xs ys (subst (λ m. arguments_end kind text m xs ≡ Some e) path.1 a.2) b.2 in
    (path.0, rest.0, rest.1)

-- The path of an include line.
pub path_unique : (text : List ℕ) (at e f : ℕ) (xs ys : List Ch) → path_end text at xs ≡ Some e
    → path_end text at ys ≡ Some f → (xs ≡ ys) × (e ≡ f)
unfolding path_end
path_unique text at e f xs ys h k =
    let next : ℕ = skip text at in
    let found : List Ch → Option ℕ = λ cs. if get_or text next 0 == 34 then quoted_end text next cs else run_end
    styles.Include text next cs in
    let none : List Ch → Option ℕ = λ cs. if same_chars cs [] then Some at else None in
    choose (nat_le (length text) next) (none xs) (found xs) (Some e) h
    (λ w m. choose (nat_le (length text) next) (none ys) (found ys) (Some f) k
    (λ v n.
    choose (same_chars xs []) (Some at) None (Some e) m
    (λ a o. choose (same_chars ys []) (Some at) None (Some f) n
    (λ b p. let s : Some e ≡ Some f = sym o ∙ p in let t : e ≡ f = cc s in (same_chars-true xs [] a ∙ sym (same_chars-true ys [] b), t))
    (λ b p. absurd (none_some f p)))
    (λ a o. absurd (none_some e o)))
    (λ v n. absurd (true≢false (sym w ∙ v))))
    (λ w m. choose (nat_le (length text) next) (none ys) (found ys) (Some f) k
    (λ v n. absurd (true≢false (sym v ∙ w)))
    (λ v n. choose (get_or text next 0 == 34) (quoted_end text next xs) (run_end styles.Include text next xs) (Some e) m
    (λ a o. choose (get_or text next 0 == 34) (quoted_end text next ys) (run_end styles.Include text next ys) (Some f) n
    (λ b p. quoted_unique text next e f xs ys o p)
    (λ b p. absurd (true≢false (sym a ∙ b))))
    (λ a o. choose (get_or text next 0 == 34) (quoted_end text next ys) (run_end styles.Include text next ys) (Some f) n
    (λ b p. absurd (true≢false (sym b ∙ a)))
    (λ b p. run_unique styles.Include text next e f xs ys o p))))

-- Marks by number.
abbrev mark_of : ℕ → Mark
mark_of n =
    if n == 0 then marks.Bang else (if n == 1 then marks.Equals else (if n == 2 then marks.Comma else (if n == 3 then marks.Colon
    else (if n == 4 then marks.LeftParen else
    (if n == 5 then marks.RightParen else (if n == 6 then marks.At else (if n == 7 then marks.Greater
    else (if n == 8 then marks.PlusEquals else marks.MinusEquals))))))))

mark_of-mark_code : (m : Mark) → mark_of (mark_code m) ≡ m
mark_of-mark_code marks.Bang = refl
mark_of-mark_code marks.Equals = refl
mark_of-mark_code marks.Comma = refl
mark_of-mark_code marks.Colon = refl
mark_of-mark_code marks.LeftParen = refl
mark_of-mark_code marks.RightParen = refl
mark_of-mark_code marks.At = refl
mark_of-mark_code marks.Greater = refl
mark_of-mark_code marks.PlusEquals = refl
mark_of-mark_code marks.MinusEquals = refl

pub same_mark : (m n : Mark) → (mark_code m == mark_code n) ≡ true → m ≡ n
same_mark m n h = sym (mark_of-mark_code m) ∙ ap mark_of (eqb-true (mark_code m) (mark_code n) h) ∙ mark_of-mark_code n
