-- The words behind a printed function's linkage are its attributes and its form.
use Rattle.std.proofs.Common.{◌≡◌, ◌↔◌, List, [], ◌∷◌, ◌++◌, length, map, filter, Bool, true, false, not, ◌||◌, cond, if◌then◌else◌, ap, ap₂, sym, refl, ◌∙◌, codes, append-nil}
use Rattle.std.specs.List.{list_any}
use Rattle.std.specs.Str.{bytes_eq}
use Rattle.std.proofs.lemmas.List.Elements.{filter-append}
use Rattle.std.proofs.lemmas.List.Folds.{list_any-append}
use Rattle.sil_ast.specs.declared.function.Block.{Block}
use Rattle.sil_ast.specs.declared.function.Form.{Form}
use Rattle.sil_ast.specs.declared.function.Form.TheVariants.{External, Lowered, Ossa}
use Rattle.sil_grammar_tree.specs.declared.written_tree.written_declarations.WrittenToken.{WrittenToken}
use Rattle.sil_grammar_tree.specs.declared.written_tree.written_functions.WrittenBlock.{WrittenBlock}
use Rattle.sil_grammar_tree.specs.WrittenTree.Places.{is_kept, is_ossa}
use Rattle.sil_grammar_names.specs.NameScopes.Names.{Name, name_of}
use Rattle.sil_grammar_names.specs.NameResolution.Resolved.{form_of}
use Rattle.numbered_form.specs.Lists.{Each}
use Rattle.numbered_form.specs.inner.Functions.{IsAttribute}
use Rattle.sil_printer_laws.proofs.Namings.{no_match}
use Rattle.sil_printer_laws.proofs.Written.{form_words}
use Rattle.sil_grammar.proofs.NumberedReadingLaws.FieldLemmas.{not_empty}

abbrev tells_form : Name → Bool
tells_form name = bytes_eq name (codes "ossa")

abbrev is_attribute : Name → Bool
is_attribute name = not (tells_form name)

-- attributes tell no form
none_tells : (attributes : List Name) → Each IsAttribute attributes → list_any tells_form attributes ≡ false
none_tells [] e = refl
none_tells (name ∷ names) e = ap₂ (λ a b. a || b) (no_match name (codes "ossa") e.0) (none_tells names e.1)

all_kept : (attributes : List Name) → Each IsAttribute attributes → filter is_attribute attributes ≡ attributes
all_kept [] e = refl
all_kept (name ∷ names) e = ap₂ (λ test rest. cond (not test) (name ∷ rest) rest) (no_match name (codes "ossa") e.0) (all_kept names e.1)

kept_cases : (kept : Bool) (token : WrittenToken) (rest : List WrittenToken) → map name_of (cond kept (token ∷ rest) rest) ≡ cond kept (name_of token ∷ map name_of rest) (map name_of rest)
kept_cases true token rest = refl
kept_cases false token rest = refl

kept_names : (words : List WrittenToken) → map name_of (filter is_kept words) ≡ filter is_attribute (map name_of words)
kept_names [] = refl
kept_names (word ∷ words) =
    kept_cases (is_kept word) word (filter is_kept words) ∙ ap (λ rest. cond (is_kept word) (name_of word ∷ rest) rest) (kept_names words)

any_ossa : (words : List WrittenToken) → list_any is_ossa words ≡ list_any tells_form (map name_of words)
any_ossa [] = refl
any_ossa (word ∷ words) = ap (λ rest. is_ossa word || rest) (any_ossa words)

no_form_kept : (form : Form) → filter is_attribute (form_words form) ≡ []
no_form_kept Ossa = refl
no_form_kept Lowered = refl
no_form_kept External = refl

pub attributes_are : (attributes : List Name) (form : Form) (words : List WrittenToken) → Each IsAttribute attributes
    → map name_of words ≡ attributes ++ form_words form → attributes ≡ map name_of (filter is_kept words)
attributes_are attributes form words each e =
    let kept : filter is_attribute (attributes ++ form_words form) ≡ attributes =
    filter-append is_attribute attributes (form_words form) ∙ ap₂ (λ a b. a ++ b) (all_kept attributes each) (no_form_kept form) ∙ append-nil attributes in
    sym (kept_names words ∙ ap (filter is_attribute) e ∙ kept)

form_told : (attributes : List Name) (form : Form) (words : List WrittenToken) → Each IsAttribute attributes → map name_of words ≡ attributes ++ form_words form
    → list_any is_ossa words ≡ list_any tells_form (form_words form)
form_told attributes form words each e =
    any_ossa words ∙ ap (list_any tells_form) e ∙ list_any-append tells_form attributes (form_words form) ∙ ap (λ a. a || list_any tells_form (form_words form)) (none_tells attributes each)

inside_form : (form : Form) (ossa : Bool) → (form ≡ External → ⊥) → ossa ≡ list_any tells_form (form_words form) → form ≡ (if ossa then Ossa else Lowered)
inside_form Ossa ossa h e = sym (ap (λ t. if t then Ossa else Lowered) e)
inside_form Lowered ossa h e = sym (ap (λ t. if t then Ossa else Lowered) e)
inside_form External ossa h e = absurd (h refl)

form_by : (form : Form) (words : List WrittenToken) (blocks : List Block) (ws : List WrittenBlock) → (form ≡ External) ↔ (blocks ≡ []) → length ws ≡ length blocks
    → list_any is_ossa words ≡ list_any tells_form (form_words form) → form ≡ form_of words ws
form_by form words [] [] external long e = external.1 refl
form_by form words [] (w ∷ ws) external long e = absurd (cc)
form_by form words (b ∷ blocks) [] external long e = absurd (cc)
form_by form words (b ∷ blocks) (w ∷ ws) external long e = inside_form form (list_any is_ossa words) (λ is. not_empty b blocks (external.0 is)) e

pub form_is : (attributes : List Name) (form : Form) (words : List WrittenToken) (blocks : List Block) (ws : List WrittenBlock) → Each IsAttribute attributes → (form ≡ External) ↔ (blocks ≡ [])
    → map name_of words ≡ attributes ++ form_words form → length ws ≡ length blocks
    → form ≡ form_of words ws
form_is attributes form words blocks ws each external e long = form_by form words blocks ws external long (form_told attributes form words each e)
