-- The row of the flag: that of its use, or the one that says that it isn't there.
use Rattle.std.proofs.Common.{◌≡◌, ◌∙◌, ◌||◌, Bool, cond, true, false, refl, sym, ap, List, [], ◌∷◌, ◌++◌, Option, Some, None, true≢false, slice_get, find}
use Rattle.std.proofs.Common.{option_and_then, codes}
use Rattle.std.proofs.lemmas.Option.{same_Some}
use Rattle.std.specs.Option.{option_map_or}
use Rattle.std.specs.Str.{bytes_eq}
use Rattle.clap.specs.Facts.{explicit_source}
use Rattle.clap.specs.Takes.{is_given}
use Rattle.clap.specs.Values.{bool_text, reading_of}
use Rattle.clap.specs.Walk.{Row, Text, first_of, has_row, more_values, one_of, row_text, with_default}
use Rattle.clap.specs.declared.builder.value_parser.ValueParser.TheVariants as vp
use Rattle.clap.specs.declared.parser.matches.ValueSource.TheVariants.{DefaultValue}
use Rattle.sil_command_words.specs.CommandLines.{Argument, mode, number, turns, entry, optimize, Given, Gives, nothing, alone, apart, joined, flag, behind, by_themselves}
use Rattle.sil_command_words.specs.CommandLines.{is_option, name_of, values_of}
use Rattle.sil_command_words.proofs.Rows.{at_fresh, first_of_values, given_of_values, is_there, one_of_values, row_of_values, rows, some_value}
use Rattle.sil_command_words.proofs.Parsed.{rule_for}

-- ---- one more row behind the others

abbrev found_row : Text → List Row → Option Row
found_row name = find (λ r. bytes_eq r.id name)

-- where it has another name, it isn't found
found_before : (name : Text) (rs : List Row) (r : Row) → bytes_eq r.id name ≡ false → found_row name (rs ++ r ∷ []) ≡ found_row name rs
found_before name [] r other = ap (λ b. cond b (Some r) None) other
found_before name (x ∷ rs) r other = ap (λ o. cond (bytes_eq x.id name) (Some x) o) (found_before name rs r other)

-- where no other has its name, it is found
found_last : (name : Text) (rs : List Row) (r : Row) → has_row name rs ≡ false → bytes_eq r.id name ≡ true → found_row name (rs ++ r ∷ []) ≡ Some r
found_last name [] r none same = ap (λ b. cond b (Some r) None) same
found_last name (x ∷ rs) r none same = go (bytes_eq x.id name) none (λ n. found_last name rs r n same)
  where
    go : (b : Bool) → (b || has_row name rs) ≡ false → (has_row name rs ≡ false → found_row name (rs ++ r ∷ []) ≡ Some r)
        → cond b (Some x) (found_row name (rs ++ r ∷ [])) ≡ Some r
    go true n rest = absurd (true≢false n)
    go false n rest = rest n

-- ---- the flag's row

-- the row of a flag that isn't there
abbrev pub off_row : Row
off_row = record {
  id = codes "optimize";
  values = codes "false" ∷ [];
  count = None;
  source = Some DefaultValue;
  reading = reading_of vp.Bool;
}

-- the rows, with that one where the flag has none
abbrev pub all_rows : List Row → List Row
all_rows rs = cond (has_row (codes "optimize") rs) rs (rs ++ off_row ∷ [])

pub flag_default : (rs : List Row) → with_default rs (rule_for optimize) ≡ all_rows rs
flag_default rs = go (has_row (codes "optimize") rs) refl
  where
    go : (b : Bool) → has_row (codes "optimize") rs ≡ b → with_default rs (rule_for optimize) ≡ all_rows rs
    go true e = rw e refl
    go false e = rw (e, at_fresh (codes "optimize") (more_values DefaultValue (codes "false" ∷ [])) (off_row ∷ []) rs e) refl

-- what is found of other names stays
other_found : (name : Text) (rs : List Row) → bytes_eq (codes "optimize") name ≡ false → found_row name (all_rows rs) ≡ found_row name rs
other_found name rs other = go (has_row (codes "optimize") rs)
  where
    go : (b : Bool) → found_row name (cond b rs (rs ++ off_row ∷ [])) ≡ found_row name rs
    go true = refl
    go false = found_before name rs off_row other

pub first_of_all : (a : Argument) (given : List Given) → bytes_eq (codes "optimize") (name_of a) ≡ false
    → first_of (name_of a) (all_rows (rows given)) ≡ slice_get (values_of a given) 0
first_of_all a given other = ap (option_and_then (λ (r : Row). slice_get r.values 0)) (other_found (name_of a) (rows given) other) ∙ first_of_values a given

pub mode_of_all : (given : List Given) → is_given (codes "mode") (all_rows (rows given)) ≡ is_there (values_of mode given)
mode_of_all given =
    ap (λ o. option_map_or (λ (r : Row). explicit_source r.source) o false) (other_found (codes "mode") (rows given) refl) ∙ given_of_values mode given

-- ---- whether the flag is there

abbrev pub IsOn : List Given → Type 0
IsOn given = (v : Text) → slice_get (values_of optimize given) 0 ≡ Some v → v ≡ codes "true"

-- the argument stands by itself
abbrev pub stands_alone : Argument → Bool
stands_alone mode = true
stands_alone number = true
stands_alone turns = false
stands_alone entry = false
stands_alone optimize = false

no_flag : (next : Argument) (v : Text) (given : List Given) → stands_alone next ≡ true → values_of optimize ((next, v) ∷ given) ≡ values_of optimize given
no_flag mode v given itself = refl
no_flag number v given itself = refl
no_flag turns v given itself = absurd (true≢false (sym itself))
no_flag entry v given itself = absurd (true≢false (sym itself))
no_flag optimize v given itself = absurd (true≢false (sym itself))

no_flags : (next : Argument) (words : List Text) → stands_alone next ≡ true → values_of optimize (by_themselves next words) ≡ []
no_flags next [] itself = refl
no_flags next (word ∷ words) itself = no_flag next word (by_themselves number words) itself ∙ no_flags number words refl

beside : (a : Argument) (v : Text) (given : List Given) → is_option a ≡ true → values_of optimize ((a, v) ∷ given) ≡ values_of optimize given
beside mode v given opt = absurd (true≢false (sym opt))
beside number v given opt = absurd (true≢false (sym opt))
beside turns v given opt = refl
beside entry v given opt = refl
beside optimize v given opt = absurd (true≢false (sym opt))

none_there : (v : Text) (vs : List Text) → vs ≡ [] → slice_get vs 0 ≡ Some v → v ≡ codes "true"
none_there v [] none e = cc
none_there v (w ∷ vs) none e = cc

-- the value of a flag that is there
pub given_on : (next : Argument) (words : List Text) (given : List Given) → stands_alone next ≡ true → Gives next words given → IsOn given
given_on _ _ _ itself (nothing next) v e = cc
given_on _ _ _ itself (alone next word words given is gives) v e =
    given_on number words given refl gives v (ap (λ vs. slice_get vs 0) (sym (no_flag next word given itself)) ∙ e)
given_on _ _ _ itself (apart next a word words given opt is gives) v e =
    given_on next words given itself gives v (ap (λ vs. slice_get vs 0) (sym (beside a word given opt)) ∙ e)
given_on _ _ _ itself (joined next a word words given opt gives) v e =
    given_on next words given itself gives v (ap (λ vs. slice_get vs 0) (sym (beside a word given opt)) ∙ e)
given_on _ _ _ itself (flag next words given gives) v e = sym (same_Some _ v e)
given_on _ _ _ itself (behind next words) v e = none_there v _ (no_flags next words itself) e

pub flag_of_all : (given : List Given) → IsOn given → one_of (codes "optimize") (all_rows (rows given)) ≡ Some (bool_text (is_there (values_of optimize given)))
flag_of_all given on = go (has_row (codes "optimize") (rows given)) refl
  where
    go : (b : Bool) → has_row (codes "optimize") (rows given) ≡ b
        → one_of (codes "optimize") (cond b (rows given) (rows given ++ off_row ∷ [])) ≡ Some (bool_text (is_there (values_of optimize given)))
    go true e =
        let there : is_there (values_of optimize given) ≡ true = sym (row_of_values optimize given) ∙ e in
        let some = some_value (values_of optimize given) there in
        one_of_values optimize given ∙ some.1 ∙ ap Some (on some.0 some.1) ∙ ap (λ b. Some (bool_text b)) (sym there)
    go false e =
        let none : is_there (values_of optimize given) ≡ false = sym (row_of_values optimize given) ∙ e in
        ap (option_and_then row_text) (found_last (codes "optimize") (rows given) off_row e refl) ∙ ap (λ b. Some (bool_text b)) (sym none)
