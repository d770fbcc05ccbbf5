-- The command as it is built for a parse, and what one use of an argument comes to.
use Rattle.std.proofs.Common.{◌≡◌, ◌∙◌, ◌&&◌, ℕ, Bool, cond, true, false, refl, sym, ap, List, [], ◌∷◌, ◌++◌, Option, Some, None, append-nil, true≢false, codes}
use Rattle.std.proofs.lemmas.List.{map-append}
use Rattle.std.specs.Str.{bytes_eq}
use Rattle.clap.specs.Faults.{settle_fault, use_fault}
use Rattle.clap.specs.Kinds.{Kinds, or_else}
use Rattle.clap.specs.Simple.{Shape, is_simple, new_rule}
use Rattle.clap.specs.Faults.{is_simple_and_free}
use Rattle.clap.specs.Walk.{Held, Row, Rule, Text, arg_by_long, at_row, has_row, more_values, settled, used}
use Rattle.clap.specs.Values.{reading_of}
use Rattle.clap.specs.declared.parser.matches.ValueSource.TheVariants.{CommandLine}
use Rattle.clap.specs.declared.builder.action.ArgAction.TheVariants.{Set, SetTrue}
use Rattle.clap.specs.declared.builder.value_parser.ValueParser.TheVariants as vp
use Rattle.clap.specs.declared.error.kind.ErrorKind.TheVariants as kind
use Rattle.sil_command_words.specs.CommandLines.{Argument, mode, number, turns, entry, optimize, Given, as_flag, is_option, name_of}
use Rattle.sil_command_words.specs.inner.ClapCommand.{bare_app, declared_app}
use Rattle.sil_command_words.proofs.Rows.{AtMostOnce, IsNew, at_fresh, last_new, once_more, row, rows, same_name}

-- an argument with one value a use, which may be any text
abbrev pub built_rule : Text → Option Text → Option ℕ → Bool → Rule
built_rule id long index required = record (new_rule id) {
  long = long;
  index = index;
  required = required;
  action = Some Set;
  parser = Some vp.String;
  range = Some (record { start_inclusive = 1; end_inclusive = 1 });
}

-- a flag, which has no value in a use
abbrev pub built_flag : Rule
built_flag = record (new_rule (codes "optimize")) {
  long = Some (codes "optimize");
  action = Some SetTrue;
  defaults = codes "false" ∷ [];
  missing = codes "true" ∷ [];
  parser = Some vp.Bool;
  range = Some (record { start_inclusive = 0; end_inclusive = 0 });
}

abbrev pub rule_for : Argument → Rule
rule_for mode = built_rule (codes "mode") None (Some 1) true
rule_for number = built_rule (codes "number") None (Some 2) false
rule_for turns = built_rule (codes "turns") (Some (codes "turns")) None false
rule_for entry = built_rule (codes "entry") (Some (codes "entry")) None false
rule_for optimize = built_flag

abbrev pub rules : List Rule
rules = rule_for mode ∷ rule_for number ∷ rule_for turns ∷ rule_for entry ∷ rule_for optimize ∷ []

-- a use has a word as its value
abbrev pub takes_word : Argument → Bool
takes_word mode = true
takes_word number = true
takes_word turns = true
takes_word entry = true
takes_word optimize = false

pub option_takes_word : (a : Argument) → is_option a ≡ true → takes_word a ≡ true
option_takes_word mode opt = absurd (true≢false (sym opt))
option_takes_word number opt = absurd (true≢false (sym opt))
option_takes_word turns opt = refl
option_takes_word entry opt = refl
option_takes_word optimize opt = absurd (true≢false (sym opt))

abbrev pub top : Shape
top = record bare_app.top { rules = rules; is_built = true; disable_help_subcommand = true }

pub is_simple_command : is_simple_and_free declared_app ≡ true
is_simple_command = refl

pub is_simple_app : is_simple declared_app ≡ true
is_simple_app = refl

-- ---- kinds of errors

pub cons_not_nil : {X : Type 0} (x : X) (xs : List X) → x ∷ xs ≡ [] → ⊥
cons_not_nil x xs e = cc

pub none_of : (x y : Kinds) → or_else x y ≡ [] → (x ≡ []) × (y ≡ [])
none_of [] y e = (refl, e)
none_of (k ∷ ks) y e = absurd (cons_not_nil k ks e)

pub none_in : (x y : Kinds) → x ≡ [] → y ≡ [] → or_else x y ≡ []
none_in x y e f = rw e f

-- ---- one use

module _ (id : Text) (long : Option Text) (index : Option ℕ) (required : Bool) (v : Text) (rs : List Row) where
  pub use_new : use_fault false (built_rule id long index required) (v ∷ []) rs ≡ [] → has_row id rs ≡ false
  use_new = go (has_row id rs)
    where
      go : (b : Bool) → or_else (cond (b && true) (kind.ArgumentConflict ∷ []) []) [] ≡ [] → b ≡ false
      go true e = absurd (cons_not_nil _ _ e)
      go false e = refl

  pub new_use : has_row id rs ≡ false → use_fault false (built_rule id long index required) (v ∷ []) rs ≡ []
  new_use e = rw e refl

  abbrev one_row : Row
  one_row = record {
    id = id;
    values = v ∷ [];
    count = None;
    source = Some CommandLine;
    reading = reading_of vp.String;
  }

  pub used_is : has_row id rs ≡ false → used (built_rule id long index required) (v ∷ []) rs ≡ rs ++ one_row ∷ []
  used_is e =
      let same : at_row id (λ _. []) [] rs ≡ rs = at_fresh id (λ _. []) [] rs e ∙ append-nil rs in
      ap (at_row id (more_values CommandLine (v ∷ [])) (one_row ∷ [])) same ∙ at_fresh id (more_values CommandLine (v ∷ [])) (one_row ∷ []) rs e

abbrev pub held : List Row → Option (Text × List Text) → Held
held rs pending = record { rows = rs; pending = pending; skip = 0 }

module _ (a : Argument) (v : Text) (given : List Given) (word : takes_word a ≡ true) where
  pub use_is_new : use_fault false (rule_for a) (v ∷ []) (rows given) ≡ [] → IsNew (a, v) given
  use_is_new = go a word
    where
      go : (b : Argument) → takes_word b ≡ true → use_fault false (rule_for b) (v ∷ []) (rows given) ≡ [] → IsNew (b, v) given
      go mode w = use_new (codes "mode") None (Some 1) true v (rows given)
      go number w = use_new (codes "number") None (Some 2) false v (rows given)
      go turns w = use_new (codes "turns") (Some (codes "turns")) None false v (rows given)
      go entry w = use_new (codes "entry") (Some (codes "entry")) None false v (rows given)
      go optimize w = absurd (true≢false (sym w))

  pub new_is_use : IsNew (a, v) given → use_fault false (rule_for a) (v ∷ []) (rows given) ≡ []
  new_is_use = go a word
    where
      go : (b : Argument) → takes_word b ≡ true → IsNew (b, v) given → use_fault false (rule_for b) (v ∷ []) (rows given) ≡ []
      go mode w = new_use (codes "mode") None (Some 1) true v (rows given)
      go number w = new_use (codes "number") None (Some 2) false v (rows given)
      go turns w = new_use (codes "turns") (Some (codes "turns")) None false v (rows given)
      go entry w = new_use (codes "entry") (Some (codes "entry")) None false v (rows given)
      go optimize w = absurd (true≢false (sym w))

  pub used_row : IsNew (a, v) given → used (rule_for a) (v ∷ []) (rows given) ≡ rows (given ++ (a, v) ∷ [])
  used_row new = go a word new ∙ sym (map-append row given ((a, v) ∷ []))
    where
      go : (b : Argument) → takes_word b ≡ true → IsNew (b, v) given → used (rule_for b) (v ∷ []) (rows given) ≡ rows given ++ row (b, v) ∷ []
      go mode w = used_is (codes "mode") None (Some 1) true v (rows given)
      go number w = used_is (codes "number") None (Some 2) false v (rows given)
      go turns w = used_is (codes "turns") (Some (codes "turns")) None false v (rows given)
      go entry w = used_is (codes "entry") (Some (codes "entry")) None false v (rows given)
      go optimize w = absurd (true≢false (sym w))

  -- what a pending use comes to
  pub pending_fault : settle_fault rules false (held (rows given) (Some (name_of a, v ∷ []))) ≡ use_fault false (rule_for a) (v ∷ []) (rows given)
  pending_fault = go a
    where
      go : (b : Argument) → settle_fault rules false (held (rows given) (Some (name_of b, v ∷ []))) ≡ use_fault false (rule_for b) (v ∷ []) (rows given)
      go mode = refl
      go number = refl
      go turns = refl
      go entry = refl
      go optimize = refl

  pub pending_rows : (settled rules (held (rows given) (Some (name_of a, v ∷ [])))).rows ≡ used (rule_for a) (v ∷ []) (rows given)
  pending_rows = go a
    where
      go : (b : Argument) → (settled rules (held (rows given) (Some (name_of b, v ∷ [])))).rows ≡ used (rule_for b) (v ∷ []) (rows given)
      go mode = refl
      go number = refl
      go turns = refl
      go entry = refl
      go optimize = refl

-- one use of the flag
module _ (given : List Given) where
  pub flag_is_new : use_fault false (rule_for optimize) [] (rows given) ≡ [] → IsNew as_flag given
  flag_is_new = go (has_row (codes "optimize") (rows given))
    where
      go : (b : Bool) → or_else (cond (b && true) (kind.ArgumentConflict ∷ []) []) [] ≡ [] → b ≡ false
      go true e = absurd (cons_not_nil _ _ e)
      go false e = refl

  pub new_is_flag : IsNew as_flag given → use_fault false (rule_for optimize) [] (rows given) ≡ []
  new_is_flag e = rw e refl

  pub flag_row : IsNew as_flag given → used (rule_for optimize) [] (rows given) ≡ rows (given ++ as_flag ∷ [])
  flag_row new = used_is (codes "optimize") (Some (codes "optimize")) None false (codes "true") (rows given) new ∙ sym (map-append row given (as_flag ∷ []))

-- what is held after words that gave these values: a row for each, where the last may be still to be used
pub data Holds : Held → List Given → Type 0 where
  all_used : (given : List Given) → AtMostOnce given → Holds (held (rows given) None) given
  one_pending : (given : List Given) (a : Argument) (v : Text) → takes_word a ≡ true → AtMostOnce given
      → Holds (held (rows given) (Some (name_of a, v ∷ []))) (given ++ (a, v) ∷ [])

-- a use of what is pending is no fault just where each argument was given at most once, and then each has its row
pub settles_once : (h : Held) (given : List Given) → Holds h given → settle_fault rules false h ≡ [] → AtMostOnce given
settles_once _ given (all_used _ once) none = once
settles_once _ _ (one_pending given a v word once) none =
    once_more given (a, v) once (use_is_new a v given word (sym (pending_fault a v given word) ∙ none))

pub once_settles : (h : Held) (given : List Given) → Holds h given → AtMostOnce given → settle_fault rules false h ≡ []
once_settles _ given (all_used _ _) once = refl
once_settles _ _ (one_pending given a v word _) once = pending_fault a v given word ∙ new_is_use a v given word (last_new given (a, v) once)

pub settled_rows_are : (h : Held) (given : List Given) → Holds h given → AtMostOnce given → (settled rules h).rows ≡ rows given
settled_rows_are _ given (all_used _ _) once = refl
settled_rows_are _ _ (one_pending given a v word _) once = pending_rows a v given word ∙ used_row a v given word (last_new given (a, v) once)

pub is_held : (h : Held) (given : List Given) → Holds h given → h ≡ held h.rows h.pending
is_held _ given (all_used _ _) = refl
is_held _ _ (one_pending given a v _ _) = refl

pub nothing_skipped : (h : Held) (given : List Given) → Holds h given → settled rules h ≡ held (settled rules h).rows None
nothing_skipped _ given (all_used _ _) = refl
nothing_skipped _ _ (one_pending given a v _ _) = refl

-- ---- the names of options

-- a long name is that of an option, of the flag, or of nothing
pub data Named (name : Text) : Type 0 where
  of_option : (a : Argument) → is_option a ≡ true → arg_by_long rules name ≡ Some (rule_for a) → name ≡ name_of a → Named name
  of_flag : arg_by_long rules name ≡ Some (rule_for optimize) → name ≡ name_of optimize → Named name
  of_nothing : arg_by_long rules name ≡ None → Named name

pub named : (name : Text) → Named name
named name = go (bytes_eq (codes "turns") name) (bytes_eq (codes "entry") name) (bytes_eq (codes "optimize") name) refl refl refl
  where
    go : (t e o : Bool) → bytes_eq (codes "turns") name ≡ t → bytes_eq (codes "entry") name ≡ e → bytes_eq (codes "optimize") name ≡ o → Named name
    go true e o is_turns is_entry is = of_option turns refl (rw is_turns refl) (sym (same_name _ _ is_turns))
    go false true o not_turns is_entry is = of_option entry refl (rw (not_turns, is_entry) refl) (sym (same_name _ _ is_entry))
    go false false true not_turns not_entry is = of_flag (rw (not_turns, not_entry, is) refl) (sym (same_name _ _ is))
    go false false false not_turns not_entry is = of_nothing (rw (not_turns, not_entry, is) refl)
