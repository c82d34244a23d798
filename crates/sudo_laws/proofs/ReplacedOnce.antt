-- What lines and files give is one list of entries and one of paths.
use Rattle.std.proofs.Common.{◌≡◌, ℕ, ◌+◌, Bool, true, false, List, [], ◌∷◌, ◌++◌, length, map, None, Ok, Option, Result, Some, refl, sym}
use Rattle.std.proofs.Common.{◌∙◌, ap, subst}
use Rattle.std.specs.Prelude.{filter}
use Rattle.sudo_grammar.specs.declared.policy.Entry.{Entry}
use Rattle.sudo_grammar.specs.declared.policy.Policy.{Policy}
use Rattle.sudo_laws.specs.Replaced.{FileGives, FilesGive, IsReplaced, LinesGive, Names, file, include_line, line, no_file, no_line, read}
use Rattle.sudo_load.proofs.ByteOrder.{one_sorted}
use Rattle.sudo_load.specs.Files.{HasContent}
use Rattle.sudo_load.specs.Paths.{in_folder, is_kept}
use Rattle.sudo_load.specs.Unfolding.{IsFolderOrder}
use Rattle.sudo_load.specs.declared.supply.Supply.{Supply}
use Rattle.sudo_parser.proofs.OneReading.{one_entries}
use Rattle.sudo_parser.specs.Parsed.{AreEntries}
use Rattle.sudo_text.specs.Lines.{lines_of}

one_ok : {A E : Type 0} (r : Result A E) (a b : A) → r ≡ Ok a → r ≡ Ok b → a ≡ b
one_ok r a b is other = cc

one_content : (number : ℕ) (text : List ℕ) (a b : List Entry) → HasContent number text (Ok a) → HasContent number text (Ok b) → a ≡ b
one_content number text a b (lines, is, are) (lines2, is2, are2) =
    one_entries [] lines a b are
    (subst (λ ls. AreEntries ls b) (sym (one_ok (lines_of number text) lines lines2 is is2)) are2)

both : {A B : Type 0} (P : A → B → Type 0) {a c : A} {b d : B} → a ≡ c → b ≡ d → P a b → P c d
both P {a} {c} {b} {d} e f h = subst (λ y. P c y) f (subst (λ x. P x b) e h)

one_names : (supplies : List Supply) (folder : Bool) (path : List ℕ) (a b : List (List ℕ)) → Names supplies folder path a
    → Names supplies folder path b → a ≡ b
one_names supplies false path a b is other = is ∙ sym other
one_names supplies true path a b (names, ordered, is, order, are) (names2, ordered2, is2, order2, are2) =
    let same : names ≡ names2 = some_is names names2 (sym is ∙ is2) in
    let again = subst (λ ns. IsFolderOrder ns ordered2) (sym same) order2 in
    are ∙ ap (map (in_folder path)) (one_sorted (filter is_kept names) ordered ordered2 order.0 order.1 again.0 again.1) ∙ sym are2
  where
    some_is : (x y : List (List ℕ)) → Some x ≡ Some y → x ≡ y
    some_is x y e = cc

none_some : {A : Type 0} {x : A} → None ≡ Some x → ⊥
none_some e = cc

some_some : {A : Type 0} {x y : A} → Some (Some x) ≡ Some (Some y) → x ≡ y
some_some e = cc

one_include : (f g : Bool) (p q : List ℕ) → ◌≡◌ {A = Option (Bool × List ℕ)} (Some (f, p)) (Some (g, q)) → (f ≡ g) × (p ≡ q)
one_include f g p q e =
    let pair : ◌≡◌ {A = Bool × List ℕ} (f, p) (g, q) = cc in
    (ap (λ (x : Bool × List ℕ). x.0) pair, ap (λ (x : Bool × List ℕ). x.1) pair)

module _ (supplies : List Supply) where
  mutual
    one_lines : (path : List ℕ) (number : ℕ) (lines a b : List Entry) (xs ys : List (List ℕ))
        → LinesGive supplies path number lines a xs → LinesGive supplies path number lines b ys → (a ≡ b) × (xs ≡ ys)
    one_lines path number lines a b xs ys (no_line _ _) (no_line _ _) = (refl, refl)
    one_lines path number lines a b xs ys (line _ _ entry ls es ps other rest) (line _ _ _ _ es2 ps2 other2 rest2) =
        let k = one_lines path number ls es es2 ps ps2 rest rest2 in
        (ap (λ zs. entry ∷ zs) k.0, k.1)
    one_lines path number lines a b xs ys (line _ _ entry ls es ps other rest)
        (include_line _ _ _ folder target targets _ es2 more2 ps2 later2 is2 named2 files2 rest2) = absurd (none_some (sym other ∙ is2))
    one_lines path number lines a b xs ys (include_line _ _ entry folder target targets ls es more ps later is named files rest)
        (line _ _ _ _ es2 ps2 other2 rest2) = absurd (none_some (sym other2 ∙ is))
    one_lines path number lines a b xs ys (include_line _ _ entry folder target targets ls es more ps later is named files rest)
        (include_line _ _ _ folder2 target2 targets2 _ es2 more2 ps2 later2 is2 named2 files2 rest2) =
        let same = one_include folder folder2 target target2 (sym is ∙ is2) in
        let named_same = both (λ f t. Names supplies f t targets2) (sym same.0) (sym same.1) named2 in
        let targets_same = one_names supplies folder target targets targets2 named named_same in
        let k = one_files number targets es es2 ps ps2 files
        (subst (λ ts. FilesGive supplies number ts es2 ps2) (sym targets_same) files2) in
        let m = one_lines path (number + length ps) ls more more2 later later2 rest
        (subst (λ zs. LinesGive supplies path (number + length zs) ls more2 later2) (sym k.1) rest2) in
        (ap (λ zs. zs ++ more) k.0 ∙ ap (λ zs. es2 ++ zs) m.0, ap (λ zs. zs ++ later) k.1 ∙ ap (λ zs. ps2 ++ zs) m.1)

    one_file : (number : ℕ) (path : List ℕ) (a b : List Entry) (xs ys : List (List ℕ))
        → FileGives supplies number path a xs → FileGives supplies number path b ys → (a ≡ b) × (xs ≡ ys)
    one_file number path a b xs ys (read _ _ text ls _ ps is content gives) (read _ _ text2 ls2 _ ps2 is2 content2 gives2) =
        let texts : text ≡ text2 = some_some (sym is ∙ is2) in
        let same = one_content number text ls ls2 content (subst (λ t. HasContent number t (Ok ls2)) (sym texts) content2) in
        let k = one_lines path (number + 1) ls a b ps ps2 gives
        (subst (λ zs. LinesGive supplies path (number + 1) zs b ps2) (sym same) gives2) in
        (k.0, ap (λ zs. path ∷ zs) k.1)

    one_files : (number : ℕ) (targets : List (List ℕ)) (a b : List Entry) (xs ys : List (List ℕ))
        → FilesGive supplies number targets a xs → FilesGive supplies number targets b ys → (a ≡ b) × (xs ≡ ys)
    one_files number targets a b xs ys (no_file _) (no_file _) = (refl, refl)
    one_files number targets a b xs ys (file _ path rest es more ps later first others) (file _ _ _ es2 more2 ps2 later2 first2 others2) =
        let k = one_file number path es es2 ps ps2 first first2 in
        let m = one_files (number + length ps) rest more more2 later later2 others
        (subst (λ zs. FilesGive supplies (number + length zs) rest more2 later2) (sym k.1) others2) in
        (ap (λ zs. zs ++ more) k.0 ∙ ap (λ zs. es2 ++ zs) m.0, ap (λ zs. zs ++ later) k.1 ∙ ap (λ zs. ps2 ++ zs) m.1)

pub one_replacement : (supplies : List Supply) (path text : List ℕ) (a b : Policy) → IsReplaced supplies path text a
    → IsReplaced supplies path text b → (a.files ≡ b.files) × (a.entries ≡ b.entries)
one_replacement supplies path text a b is other =
    let same = one_content 0 text is.lines other.lines is.content other.content in
    let k = one_lines supplies path 1 is.lines a.entries b.entries is.paths other.paths is.gives
    (subst (λ ls. LinesGive supplies path 1 ls b.entries other.paths) (sym same) other.gives) in
    (is.files ∙ ap (λ ps. path ∷ ps) k.1 ∙ sym other.files, k.0)
