-- The kinds of error that `clap` has for words, and its matches, by what a command line says.
use Rattle.std.proofs.Common.{◌≡◌, ◌∙◌, ◌||◌, ◌≤◌, ℕ, Bool, cond, true, false, not, refl, sym, ap, subst, arith, List, [], ◌∷◌, length, Option, Some}
use Rattle.std.proofs.Common.{None, is_some, fold, slice_get, option_to_list, unwrap_or, true≢false, codes}
use Rattle.std.specs.Str.{bytes_eq}
use Rattle.clap.specs.Faults.{check_fault, default_fault, defaults_fault, entered_fault, fault_of, settle_fault, walk_fault}
use Rattle.clap.specs.Kinds.{Kinds, or_else}
use Rattle.clap.specs.Matches.{first_value, one_text}
use Rattle.clap.specs.Simple.{App, entered, matches_of}
use Rattle.clap.specs.Takes.{is_given}
use Rattle.clap.specs.Values.{bool_text}
use Rattle.clap.specs.Walk.{Held, Row, Rule, Text, Walk, finished, first_of, has_row, idle, one_of, rows_of, settled, walked, with_default}
use Rattle.clap.specs.declared.error.kind.ErrorKind.TheVariants as kind
use Rattle.clap.specs.declared.parser.matches.Found.{Found}
use Rattle.clap.proofs.WalkLemmas.{first_value-rows, one_text-rows}
use Rattle.sil_command_words.specs.CommandLines.{Argument, mode, number, turns, entry, optimize, Given, Gives, IsCommandLine, Says, name_of, values_of}
use Rattle.sil_command_words.specs.inner.ClapCommand.{Matches, declared_app}
use Rattle.sil_command_words.proofs.Rows.{AtMostOnce, first_of_values, is_there, once_length, only_value, rows, some_value}
use Rattle.sil_command_words.proofs.Flags.{all_rows, first_of_all, flag_default, flag_of_all, given_on, mode_of_all}
use Rattle.sil_command_words.proofs.Parsed.{all_used, cons_not_nil, held, none_in, none_of, once_settles, rule_for, rules, settled_rows_are, settles_once, takes_word, top}
use Rattle.sil_command_words.proofs.Steps.{stands}
use Rattle.sil_command_words.proofs.Taken.{all_pass, first}
use Rattle.sil_command_words.proofs.Read.{between, read_all}

abbrev app : App
app = record { top = top; subs = [] }

-- ---- nothing but the flag has a default

empty_default : (b : Bool) (ks : Kinds) → cond (b || true) [] ks ≡ []
empty_default true ks = refl
empty_default false ks = refl

abbrev no_kinds : Kinds
no_kinds = []

right_default : (b : Bool) → cond (b || false) no_kinds [] ≡ []
right_default true = refl
right_default false = refl

no_default : (a : Argument) (rs : List Row) → default_fault rs (rule_for a) ≡ []
no_default mode rs = empty_default (has_row (codes "mode") rs) _
no_default number rs = empty_default (has_row (codes "number") rs) _
no_default turns rs = empty_default (has_row (codes "turns") rs) _
no_default entry rs = empty_default (has_row (codes "entry") rs) _
no_default optimize rs = right_default (has_row (codes "optimize") rs)

either : (b : Bool) (rs : List Row) → cond b rs rs ≡ rs
either true rs = refl
either false rs = refl

kept : (a : Argument) (rs : List Row) → takes_word a ≡ true → with_default rs (rule_for a) ≡ rs
kept mode rs word = either (has_row (codes "mode") rs) rs
kept number rs word = either (has_row (codes "number") rs) rs
kept turns rs word = either (has_row (codes "turns") rs) rs
kept entry rs word = either (has_row (codes "entry") rs) rs
kept optimize rs word = absurd (true≢false (sym word))

no_defaults_from : (a : Argument) (rest : List Rule) (rs : List Row) → ((k : List Row) → defaults_fault k rest ≡ []) → defaults_fault rs (rule_for a ∷ rest) ≡ []
unfolding defaults_fault
no_defaults_from a rest rs none = none_in _ _ (no_default a rs) (none (with_default rs (rule_for a)))

no_rules_left : (rs : List Row) → defaults_fault rs [] ≡ []
unfolding defaults_fault
no_rules_left rs = refl

no_defaults : (rs : List Row) → defaults_fault rs rules ≡ []
no_defaults rs =
    no_defaults_from mode _ rs (λ k. no_defaults_from number _ k (λ l. no_defaults_from turns _ l (λ m. no_defaults_from entry _ m (λ n.
    no_defaults_from optimize _ n no_rules_left))))

finished_kept : (h : Held) → finished rules h ≡ all_rows (settled rules h).rows
finished_kept h =
    let rs = (settled rules h).rows in
    ap (λ k. with_default (with_default (with_default (with_default k (rule_for number)) (rule_for turns)) (rule_for entry)) (rule_for optimize)) (kept mode rs refl)
    ∙ ap (λ k. with_default (with_default (with_default k (rule_for turns)) (rule_for entry)) (rule_for optimize)) (kept number rs refl)
    ∙ ap (λ k. with_default (with_default k (rule_for entry)) (rule_for optimize)) (kept turns rs refl)
    ∙ ap (λ k. with_default k (rule_for optimize)) (kept entry rs refl) ∙ flag_default rs

-- ---- the mode has to be there

mode_there : (rs : List Row) → check_fault top rs false ≡ [] → is_given (codes "mode") rs ≡ true
mode_there rs = go (is_given (codes "mode") rs)
  where
    go : (b : Bool) → cond (not b || false) (kind.MissingRequiredArgument ∷ []) [] ≡ [] → b ≡ true
    go true e = refl
    go false e = absurd (cons_not_nil _ _ e)

there_is_mode : (rs : List Row) → is_given (codes "mode") rs ≡ true → check_fault top rs false ≡ []
there_is_mode rs e = rw e refl

-- ---- the whole

once_nothing : AtMostOnce []
once_nothing a = omega arith

abbrev start : Walk
start = stands (held [] None) idle 1 false

-- what is wrong behind the words
abbrev checks : Held → Option (Text × List Text) → Kinds
checks h stop = or_else (entered_fault app stop) (or_else (settle_fault rules false h) (or_else (defaults_fault (settled rules h).rows rules)
    (check_fault top (finished rules h) (is_some (entered app stop)))))

module _ (words : List Text) where
  abbrev pub end : Walk
  end = fold (walked rules []) start words

  -- what the words give where nothing is wrong
  pub record SaidBy : Type 0 where
    pub given : List Given
    pub gives : Gives mode words given
    pub once : AtMostOnce given
    pub has_mode : is_there (values_of mode given) ≡ true
    pub matched : matches_of declared_app words ≡ all_rows (rows given)

  pub said : fault_of declared_app words ≡ [] → SaidBy
  said none =
      let faults = none_of (walk_fault top [] start words) (checks end.held end.stopped) none in
      let behind = none_of (settle_fault rules false end.held) _ (none_of (entered_fault app end.stopped) _ faults.1).1 in
      let reads = read_all words start mode [] None (between (held [] None) 1 mode [] (all_used [] once_nothing) (first []))
      (record { faultless = faults.0; settles = behind.0 }) in
      let once = settles_once end.held reads.more reads.ends.holds behind.0 in
      let rows_are = finished_kept end.held ∙ ap all_rows (settled_rows_are end.held reads.more reads.ends.holds once) in
      let checked = (none_of (defaults_fault (settled rules end.held).rows rules) _ behind.1).1 in
      let here = subst (λ stop. check_fault top (finished rules end.held) (is_some (entered app stop)) ≡ []) reads.ends.stopped checked in
      record {
        given = reads.more;
        gives = reads.gives;
        once = once;
        has_mode = sym (mode_of_all reads.more) ∙ ap (is_given (codes "mode")) (sym rows_are) ∙ mode_there (finished rules end.held) here;
        matched = rows_are;
      }

  pub faultless : (given : List Given) → Gives mode words given → AtMostOnce given → is_there (values_of mode given) ≡ true → fault_of declared_app words ≡ []
  faultless given gives once has_mode =
      let passes = all_pass mode words given gives (held [] None) 1 [] (all_used [] once_nothing) (first []) once in
      none_in (walk_fault top [] start words) (checks end.held end.stopped) passes.0
      (subst (λ stop. checks end.held stop ≡ []) (sym passes.1.stopped)
      (none_in _ _ (once_settles end.held given passes.1.holds once)
      (none_in _ _ (no_defaults (settled rules end.held).rows)
      (there_is_mode (finished rules end.held)
      (ap (is_given (codes "mode")) (finished_kept end.held ∙ ap all_rows (settled_rows_are end.held given passes.1.holds once)) ∙ mode_of_all given ∙ has_mode)))))

-- what is said by matches of words without a fault
module _ (words : List Text) (f : Found) (none : fault_of declared_app words ≡ []) (all : rows_of f ≡ matches_of declared_app words) where
  abbrev by_words : SaidBy words
  by_words = said words none

  value_found : (a : Argument) → bytes_eq (codes "optimize") (name_of a) ≡ false → first_value f (name_of a) ≡ slice_get (values_of a by_words.given) 0
  value_found a other = first_value-rows f (name_of a) ∙ ap (first_of (name_of a)) (all ∙ by_words.matched) ∙ first_of_all a by_words.given other

  values_found : (a : Argument) (v : Option Text) → bytes_eq (codes "optimize") (name_of a) ≡ false → first_value f (name_of a) ≡ v
      → values_of a by_words.given ≡ option_to_list v
  values_found a v other is = only_value (values_of a by_words.given) (by_words.once a) ∙ ap option_to_list (sym (value_found a other) ∙ is)

  flag_found : one_text f (codes "optimize") ≡ Some (bool_text (is_there (values_of optimize by_words.given)))
  flag_found = one_text-rows f (codes "optimize") ∙ ap (one_of (codes "optimize")) (all ∙ by_words.matched)
      ∙ flag_of_all by_words.given (given_on mode words by_words.given refl by_words.gives)

  pub says : (mode_word : Text) (number_word turns_value entry_value : Option Text) (optimises : Bool)
      → Matches f mode_word number_word turns_value entry_value optimises → Says words mode_word number_word turns_value entry_value optimises
  says m n t e o matches = record {
    given = by_words.given;
    gives = by_words.gives;
    mode_once = values_found mode (Some m) refl matches.mode_is;
    number_at_most_once = values_found number n refl matches.number_is;
    turns_at_most_once = values_found turns t refl matches.turns_are;
    entry_at_most_once = values_found entry e refl matches.entry_is;
    flag_at_most_once = once_length (values_of optimize by_words.given) (by_words.once optimize)
        ∙ ap (λ b. cond b 1 0) (sym (matches.flag_is (is_there (values_of optimize by_words.given)) flag_found));
  }

  pub mode_found : first_value f (codes "mode") ≡ None → ⊥
  mode_found is =
      let some = some_value (values_of mode by_words.given) by_words.has_mode in
      true≢false (ap is_some (sym some.1 ∙ sym (value_found mode refl) ∙ is))

at_most_one : (v : Option Text) → length (option_to_list v) ≤ 1
at_most_one None = omega arith
at_most_one (Some v) = omega arith

one_or_none : (b : Bool) → cond b 1 0 ≤ 1
one_or_none true = omega arith
one_or_none false = omega arith

said_once : (words : List Text) (m : Text) (n t e : Option Text) (o : Bool) → (s : Says words m n t e o) → AtMostOnce s.given
said_once words m n t e o s mode = omega (arith, ap length s.mode_once)
said_once words m n t e o s number = omega (arith, ap length s.number_at_most_once, at_most_one n)
said_once words m n t e o s turns = omega (arith, ap length s.turns_at_most_once, at_most_one t)
said_once words m n t e o s entry = omega (arith, ap length s.entry_at_most_once, at_most_one e)
said_once words m n t e o s optimize = omega (arith, s.flag_at_most_once, one_or_none o)

-- of a command line there is no kind of error but want of memory
pub line_faultless : (words : List Text) → IsCommandLine words → fault_of declared_app words ≡ []
line_faultless words line =
    let s = line.5 in
    faultless words s.given s.gives (said_once words line.0 line.1 line.2 line.3 line.4 s) (ap is_there s.mode_once)

-- ---- words say one thing

module _ (words : List Text) where
  held_rows : (given : List Given) → Gives mode words given → AtMostOnce given → (settled rules (end words).held).rows ≡ rows given
  held_rows given gives once =
      let passes = all_pass mode words given gives (held [] None) 1 [] (all_used [] once_nothing) (first []) once in
      settled_rows_are (end words).held given passes.1.holds once

  same_values : (given other : List Given) → Gives mode words given → AtMostOnce given → Gives mode words other → AtMostOnce other → (a : Argument)
      → values_of a given ≡ values_of a other
  same_values given other gives once again once_again a =
      only_value (values_of a given) (once a)
      ∙ ap option_to_list (sym (first_of_values a given)
      ∙ ap (first_of (name_of a)) (sym (held_rows given gives once) ∙ held_rows other again once_again)
      ∙ first_of_values a other)
      ∙ sym (only_value (values_of a other) (once_again a))

listed_first : (v : Option Text) → slice_get (option_to_list v) 0 ≡ v
listed_first None = refl
listed_first (Some v) = refl

same_option : (v w : Option Text) → option_to_list v ≡ option_to_list w → v ≡ w
same_option v w e = sym (listed_first v) ∙ ap (λ l. slice_get l 0) e ∙ listed_first w

abbrev as_number : Bool → ℕ
as_number b = cond b 1 0

same_flag : (b c : Bool) → as_number b ≡ as_number c → b ≡ c
same_flag true true e = refl
same_flag true false e = absurd (omega (arith, e))
same_flag false true e = absurd (omega (arith, e))
same_flag false false e = refl

pub one_thing : (words : List Text) (m n : Text) (k l t u e f : Option Text) (b c : Bool) → Says words m k t e b → Says words n l u f c
    → (m ≡ n) × (k ≡ l) × (t ≡ u) × (e ≡ f) × (b ≡ c)
one_thing words m n k l t u e f b c s o =
    let same = same_values words s.given o.given s.gives (said_once words m k t e b s) o.gives (said_once words n l u f c o) in
    let modes = same_option (Some m) (Some n) (sym s.mode_once ∙ same mode ∙ o.mode_once) in (
      ap (λ v. unwrap_or v []) modes,
      same_option k l (sym s.number_at_most_once ∙ same number ∙ o.number_at_most_once),
      same_option t u (sym s.turns_at_most_once ∙ same turns ∙ o.turns_at_most_once),
      same_option e f (sym s.entry_at_most_once ∙ same entry ∙ o.entry_at_most_once),
      same_flag b c (sym s.flag_at_most_once ∙ ap length (same optimize) ∙ o.flag_at_most_once),
    )
