-- One word of a parse: what is wrong with it, and where the parse stands after it.
use Rattle.std.proofs.Common.{◌≡◌, ◌∙◌, ◌&&◌, ◌||◌, ◌==◌, ℕ, Bool, cond, not, true, false, refl, sym, ap, ap₂, subst, arith, eqb-true, List, [], ◌∷◌}
use Rattle.std.proofs.Common.{length, Option, Some, None, true≢false, slice_get, codes}
use Rattle.std.specs.Str.{bytes_eq, chars}
use Rattle.std.specs.Prelude.{option_and_then}
use Rattle.std.specs.Option.{option_map_or}
use Rattle.std.specs.Str.{chars_after, continuation_len, lead_bits}
use Rattle.clap.specs.Lexer.{long_of, long_of_rest, name_and_value, short_of, short_of_rest, strip_byte}
use Rattle.clap.specs.Faults.{bundle_fault, bundle_step_fault, flag_word_fault, flags_fault, long_fault, option_fault, other_fault, settle_fault}
use Rattle.clap.specs.Faults.{step_fault, turn_fault, use_fault}
use Rattle.clap.specs.Kinds.{or_else}
use Rattle.clap.specs.Walk.{Held, Outcome, Row, Step, Text, Waiting, Walk, after_flag, after_step, arg_by_index, arg_by_long, bundle, bundle_met}
use Rattle.clap.specs.Walk.{bundle_step, idle, is_pending, long_met, long_or_other, option, option_met, plain as plain_outcome, short_or_plain}
use Rattle.clap.specs.Walk.{next, plain_word, pushed, settled, subcommand_met, subcommand_or_other, to_positional, trailing, used, value as a_value, walked}
use Rattle.clap.specs.declared.error.kind.ErrorKind.TheVariants as kind
use Rattle.sil_command_words.specs.CommandLines.{Argument, mode, number, turns, entry, optimize, Given, is_value, name_of}
use Rattle.sil_command_words.proofs.Rows.{AtMostOnce, rows}
use Rattle.sil_command_words.proofs.Parsed.{Holds, held, is_held, nothing_skipped, rule_for, rules, settled_rows_are, takes_word, top}

-- where a parse stands between two words
abbrev pub stands : Held → Waiting → ℕ → Bool → Walk
stands h waiting position is_trailing = record { held = h; waiting = waiting; position = position; is_trailing = is_trailing; stopped = None }

and_false : (b : Bool) → (b && false) ≡ false
and_false true = refl
and_false false = refl

no_subcommand : (waiting : Waiting) (word : Text) → subcommand_met [] waiting word ≡ None
no_subcommand idle word = refl
no_subcommand _ word = refl

module _ (h : Held) (waiting : Waiting) (p : ℕ) (word : Text) where
  abbrev met : Held × Step
  met = subcommand_or_other rules None waiting p word h

  pub turn_is : turn_fault top [] (stands h waiting p false) word ≡ or_else (other_fault top None word h) (step_fault top p met.0 met.1)
  turn_is = rw (no_subcommand waiting word) refl

  pub next_is : walked rules [] (stands h waiting p false) word ≡ after_step rules word (stands h waiting p false) met.0 met.1
  unfolding walked
  next_is = rw (no_subcommand waiting word) refl

  -- behind `--` each word stands by itself
  pub trailing_turn : turn_fault top [] (stands h waiting p true) word ≡ step_fault top p h a_value
  trailing_turn = refl

  pub trailing_next : walked rules [] (stands h waiting p true) word ≡ to_positional rules (arg_by_index rules p) word (stands h waiting p true) h
  unfolding walked
  trailing_next = refl

-- ---- a word that stands by itself

module _ (h : Held) (waiting : Waiting) (word : Text) where
  pub first_place : step_fault top 1 h a_value ≡ settle_fault rules false h
  first_place = ap (λ b. cond b [] (settle_fault rules false h)) (and_false (is_pending (rule_for mode) h.pending))

  pub second_place : step_fault top 2 h a_value ≡ settle_fault rules false h
  second_place = ap (λ b. cond b [] (settle_fault rules false h)) (and_false (is_pending (rule_for number) h.pending))

  pub no_third_place : step_fault top 3 h a_value ≡ kind.UnknownArgument ∷ []
  no_third_place = refl

  taken_first : (t : Bool) → to_positional rules (arg_by_index rules 1) word (stands h waiting 1 t) h
      ≡ stands (pushed (codes "mode") word (settled rules h)) idle 2 (t || false)
  taken_first t = ap (λ b. stands (pushed (codes "mode") word (cond b h (settled rules h))) idle 2 (t || false)) (and_false (is_pending (rule_for mode) h.pending))

  pub mode_taken : (given : List Given) (t : Bool) → Holds h given → AtMostOnce given → to_positional rules (arg_by_index rules 1) word (stands h waiting 1 t) h
      ≡ stands (held (rows given) (Some (name_of mode, word ∷ []))) idle 2 (t || false)
  mode_taken given t holds once =
      taken_first t ∙ ap (λ k. stands (pushed (codes "mode") word k) idle 2 (t || false)) (nothing_skipped h given holds)
      ∙ ap (λ rs. stands (held rs (Some (name_of mode, word ∷ []))) idle 2 (t || false)) (settled_rows_are h given holds once)

  taken_second : (t : Bool) → to_positional rules (arg_by_index rules 2) word (stands h waiting 2 t) h
      ≡ stands (pushed (codes "number") word (settled rules h)) idle 3 (t || false)
  taken_second t = ap (λ b. stands (pushed (codes "number") word (cond b h (settled rules h))) idle 3 (t || false)) (and_false (is_pending (rule_for number) h.pending))

  pub number_taken : (given : List Given) (t : Bool) → Holds h given → AtMostOnce given → to_positional rules (arg_by_index rules 2) word (stands h waiting 2 t) h
      ≡ stands (held (rows given) (Some (name_of number, word ∷ []))) idle 3 (t || false)
  number_taken given t holds once =
      taken_second t ∙ ap (λ k. stands (pushed (codes "number") word k) idle 3 (t || false)) (nothing_skipped h given holds)
      ∙ ap (λ rs. stands (held rs (Some (name_of number, word ∷ []))) idle 3 (t || false)) (settled_rows_are h given holds once)

-- ---- words of each sort

-- a word that doesn't begin with a hyphen, or with one alone
not_hyphens : (x : ℕ) (rest : List ℕ) → (x == 45) ≡ false → bytes_eq (x ∷ rest) (45 ∷ 45 ∷ []) ≡ false
not_hyphens x rest e = ap (λ b. b && bytes_eq rest (45 ∷ [])) e

not_long : (x : ℕ) (rest : List ℕ) → (x == 45) ≡ false → long_of (x ∷ rest) ≡ None
not_long x rest e = ap (λ b. option_and_then long_of_rest (option_and_then (strip_byte 45) (cond b (Some rest) None))) e

not_short : (x : ℕ) (rest : List ℕ) → (x == 45) ≡ false → short_of (x ∷ rest) ≡ None
not_short x rest e = ap (λ b. option_and_then short_of_rest (cond b (Some rest) None)) e

one_hyphen : (y : ℕ) (ys : List ℕ) → (y == 45) ≡ false → bytes_eq (45 ∷ y ∷ ys) (45 ∷ 45 ∷ []) ≡ false
one_hyphen y ys e = ap (λ b. b && bytes_eq ys []) e

one_not_long : (y : ℕ) (ys : List ℕ) → (y == 45) ≡ false → long_of (45 ∷ y ∷ ys) ≡ None
one_not_long y ys e = ap (λ b. option_and_then long_of_rest (cond b (Some ys) None)) e

one_short : (y : ℕ) (ys : List ℕ) → (y == 45) ≡ false → short_of (45 ∷ y ∷ ys) ≡ Some (y ∷ ys)
one_short y ys e = ap (λ b. cond b None (Some (y ∷ ys))) e

module _ (waiting : Waiting) (p : ℕ) (rs : List Row) (pending : Option (Text × List Text)) where
  abbrev h : Held
  h = held rs pending

  abbrev IsPlain : Text → Type 0
  IsPlain word = (other_fault top None word h ≡ []) × (subcommand_or_other rules None waiting p word h ≡ plain_word rules waiting word h)

  -- what a word comes to that is neither `--` nor long
  module _ (word : Text) (other : bytes_eq word (45 ∷ 45 ∷ []) ≡ false) (long : long_of word ≡ None) (flags : Option Text) (short : short_of word ≡ flags) where
    fault_by_flags : other_fault top None word h ≡ option_map_or (λ f. bundle_fault rules false f h) flags []
    fault_by_flags =
        ap (λ b. cond b [] (flag_word_fault rules false (long_of word) word h)) other
        ∙ ap (λ l. flag_word_fault rules false l word h) long ∙ ap (λ f. option_map_or (λ g. bundle_fault rules false g h) f []) short

    met_by_flags : subcommand_or_other rules None waiting p word h ≡ short_or_plain rules waiting word flags h
    met_by_flags =
        ap (λ b. cond b (h, trailing p) (long_or_other rules waiting word (long_of word) h)) other
        ∙ ap (λ l. long_or_other rules waiting word l h) long ∙ ap (λ f. short_or_plain rules waiting word f h) short

  no_char : (cs : List ℕ) → (length cs == 0) ≡ true → cs ≡ []
  no_char [] e = refl
  no_char (c ∷ cs) e = absurd (omega (arith, eqb-true (length (c ∷ cs)) 0 e))

  hyphen_char : (ys : List ℕ) → (length (chars_after 0 45 ys) == 0) ≡ true → ⊥
  hyphen_char [] e = omega (arith, eqb-true (length {A = ℕ} (45 ∷ [])) 0 e)
  hyphen_char (y ∷ ys) e = omega (arith, eqb-true (length {A = ℕ} (45 ∷ chars_after (continuation_len y) (lead_bits y) ys)) 0 e)

  hyphen_has_char : (y : ℕ) (ys : List ℕ) → (y == 45) ≡ true → (length (chars (y ∷ ys)) == 0) ≡ true → ⊥
  unfolding chars
  hyphen_has_char y ys hyphen none = hyphen_char ys (subst (λ z. (length (chars (z ∷ ys)) == 0) ≡ true) (eqb-true y 45 hyphen) none)

  bundle_of_none : (y : ℕ) (ys : List ℕ) → chars (y ∷ ys) ≡ [] → (bundle_fault rules false (y ∷ ys) h ≡ []) × (bundle rules (y ∷ ys) h ≡ (h, plain_outcome))
  unfolding bundle_met flags_fault
  bundle_of_none y ys none = (
    ap (λ cs. bundle_step_fault rules false (slice_get cs 0) (y ∷ ys) 0 h (flags_fault rules false (length ys))) none,
    ap (λ cs. bundle_step rules (slice_get cs 0) (y ∷ ys) 0 plain_outcome h (bundle_met rules (length ys))) none,
  )

  bundle_of_some : (y : ℕ) (ys : List ℕ) (x : ℕ) → slice_get (chars (y ∷ ys)) 0 ≡ Some x → bundle_fault rules false (y ∷ ys) h ≡ kind.UnknownArgument ∷ []
  unfolding flags_fault
  bundle_of_some y ys x first = ap (λ o. bundle_step_fault rules false o (y ∷ ys) 0 h (flags_fault rules false (length ys))) first

  behind_hyphen : (rest : List ℕ) → (length (chars rest) == 0) ≡ true → IsPlain (45 ∷ rest)
  behind_hyphen [] none = (refl, refl)
  behind_hyphen (y ∷ ys) none = go (y == 45) refl
    where
      go : (b : Bool) → (y == 45) ≡ b → IsPlain (45 ∷ y ∷ ys)
      go true e = absurd (hyphen_has_char y ys e none)
      go false e =
          let bundled = bundle_of_none y ys (no_char (chars (y ∷ ys)) none) in (
            fault_by_flags (45 ∷ y ∷ ys) (one_hyphen y ys e) (one_not_long y ys e) (Some (y ∷ ys)) (one_short y ys e) ∙ bundled.0,
            met_by_flags (45 ∷ y ∷ ys) (one_hyphen y ys e) (one_not_long y ys e) (Some (y ∷ ys)) (one_short y ys e)
                ∙ ap (λ (m : Held × Outcome). after_flag rules waiting (45 ∷ y ∷ ys) m.0 m.1) bundled.1,
          )

  pub plain : (word : Text) → is_value word ≡ true → IsPlain word
  plain [] is = (refl, refl)
  plain (x ∷ rest) is = go (x == 45) (length (chars rest) == 0) refl refl is
    where
      go : (b e : Bool) → (x == 45) ≡ b → (length (chars rest) == 0) ≡ e → (not b || e) ≡ true → IsPlain (x ∷ rest)
      go false e other none is = (
        fault_by_flags (x ∷ rest) (not_hyphens x rest other) (not_long x rest other) None (not_short x rest other),
        met_by_flags (x ∷ rest) (not_hyphens x rest other) (not_long x rest other) None (not_short x rest other),
      )
      go true true hyphen none is = subst (λ z. IsPlain (z ∷ rest)) (sym (eqb-true x 45 hyphen)) (behind_hyphen rest none)
      go true false hyphen none is = absurd (true≢false (sym is))

  -- one hyphen and a character: there are no short options
  pub no_short : (y : ℕ) (ys : List ℕ) (x : ℕ) → (y == 45) ≡ false → slice_get (chars (y ∷ ys)) 0 ≡ Some x → other_fault top None (45 ∷ y ∷ ys) h ≡ kind.UnknownArgument ∷ []
  no_short y ys x other first =
      fault_by_flags (45 ∷ y ∷ ys) (one_hyphen y ys other) (one_not_long y ys other) (Some (y ∷ ys)) (one_short y ys other) ∙ bundle_of_some y ys x first

module _ (waiting : Waiting) (p : ℕ) (h : Held) (y : ℕ) (ys : List ℕ) where
  abbrev word : Text
  word = 45 ∷ 45 ∷ y ∷ ys

  abbrev cut : Text × Option Text
  cut = name_and_value (y ∷ ys)

  long_fault_is : other_fault top None word h ≡ long_fault rules false (arg_by_long rules cut.0) cut.1 h
  long_fault_is = refl

  long_met_is : subcommand_or_other rules None waiting p word h
      ≡ after_flag rules waiting word (long_met rules (arg_by_long rules cut.0) cut.1 h).0 (long_met rules (arg_by_long rules cut.0) cut.1 h).1
  long_met_is = refl

  pub unknown_option : arg_by_long rules cut.0 ≡ None → other_fault top None word h ≡ kind.UnknownArgument ∷ []
  unknown_option none = long_fault_is ∙ ap (λ found. long_fault rules false found cut.1 h) none

  abbrev after : Held × Outcome → Held × Step
  after o = after_flag rules waiting word o.0 o.1

  module _ (a : Argument) (v : Option Text) (is : cut ≡ (name_of a, v)) (found : arg_by_long rules (name_of a) ≡ Some (rule_for a)) where
    abbrev met_named : Held × Step
    met_named = after (long_met rules (Some (rule_for a)) v h)

    pub named_fault : other_fault top None word h ≡ long_fault rules false (Some (rule_for a)) v h
    named_fault = long_fault_is ∙ ap (λ (c : Text × Option Text). long_fault rules false (arg_by_long rules c.0) c.1 h) is ∙ ap (λ f. long_fault rules false f v h) found

    named_met : subcommand_or_other rules None waiting p word h ≡ met_named
    named_met =
        long_met_is ∙ ap (λ (c : Text × Option Text). after (long_met rules (arg_by_long rules c.0) c.1 h)) is ∙ ap (λ f. after (long_met rules f v h)) found

    pub named_turn : turn_fault top [] (stands h waiting p false) word ≡ or_else (long_fault rules false (Some (rule_for a)) v h) (step_fault top p met_named.0 met_named.1)
    named_turn = turn_is h waiting p word ∙ ap₂ (λ ks (m : Held × Step). or_else ks (step_fault top p m.0 m.1)) named_fault named_met

    pub named_next : walked rules [] (stands h waiting p false) word ≡ after_step rules word (stands h waiting p false) met_named.0 met_named.1
    named_next = next_is h waiting p word ∙ ap (λ (m : Held × Step). after_step rules word (stands h waiting p false) m.0 m.1) named_met

    module _ (valued : takes_word a ≡ true) where
      fault_by_option : long_fault rules false (Some (rule_for a)) v h ≡ option_fault rules false (rule_for a) v h
      fault_by_option = go a valued
        where
          go : (b : Argument) → takes_word b ≡ true → long_fault rules false (Some (rule_for b)) v h ≡ option_fault rules false (rule_for b) v h
          go mode w = refl
          go number w = refl
          go turns w = refl
          go entry w = refl
          go optimize w = absurd (true≢false (sym w))

      met_by_option : long_met rules (Some (rule_for a)) v h ≡ option_met rules (rule_for a) v h
      met_by_option = go a valued
        where
          go : (b : Argument) → takes_word b ≡ true → long_met rules (Some (rule_for b)) v h ≡ option_met rules (rule_for b) v h
          go mode w = refl
          go number w = refl
          go turns w = refl
          go entry w = refl
          go optimize w = absurd (true≢false (sym w))

      pub option_fault_is : other_fault top None word h ≡ option_fault rules false (rule_for a) v h
      option_fault_is = named_fault ∙ fault_by_option

      pub option_turn : turn_fault top [] (stands h waiting p false) word
          ≡ or_else (option_fault rules false (rule_for a) v h) (step_fault top p (after (option_met rules (rule_for a) v h)).0 (after (option_met rules (rule_for a) v h)).1)
      option_turn = named_turn
          ∙ ap₂ (λ ks (o : Held × Outcome). or_else ks (step_fault top p (after o).0 (after o).1)) fault_by_option met_by_option

      pub option_next : walked rules [] (stands h waiting p false) word
          ≡ after_step rules word (stands h waiting p false) (after (option_met rules (rule_for a) v h)).0 (after (option_met rules (rule_for a) v h)).1
      option_next = named_next ∙ ap (λ (o : Held × Outcome). after_step rules word (stands h waiting p false) (after o).0 (after o).1) met_by_option

-- an option, with its value in the next word or in the same
module _ (h : Held) (p : ℕ) (y : ℕ) (ys : List ℕ) (a : Argument) (valued : takes_word a ≡ true) (found : arg_by_long rules (name_of a) ≡ Some (rule_for a)) where
  abbrev option_text : Text
  option_text = 45 ∷ 45 ∷ y ∷ ys

  id_is : (rule_for a).id ≡ name_of a
  id_is = go a
    where
      go : (b : Argument) → (rule_for b).id ≡ name_of b
      go mode = refl
      go number = refl
      go turns = refl
      go entry = refl
      go optimize = refl

  pub waiting_turn : name_and_value (y ∷ ys) ≡ (name_of a, None) → turn_fault top [] (stands h idle p false) option_text ≡ or_else (settle_fault rules false h) []
  waiting_turn is = option_turn idle p h y ys a None is found valued

  pub waiting_next : name_and_value (y ∷ ys) ≡ (name_of a, None)
      → walked rules [] (stands h idle p false) option_text ≡ stands (record (settled rules h) { pending = Some (name_of a, []) }) (option (name_of a)) p false
  waiting_next is =
      option_next idle p h y ys a None is found valued
      ∙ ap (λ id. stands (record (settled rules h) { pending = Some (id, []) }) (option id) p false) id_is

  pub joined_turn : (v : Text) → name_and_value (y ∷ ys) ≡ (name_of a, Some v) → turn_fault top [] (stands h idle p false) option_text
      ≡ or_else (or_else (settle_fault rules false h) (use_fault false (rule_for a) (v ∷ []) (settled rules h).rows)) []
  joined_turn v is = option_turn idle p h y ys a (Some v) is found valued

  pub joined_next : (v : Text) → name_and_value (y ∷ ys) ≡ (name_of a, Some v) → walked rules [] (stands h idle p false) option_text
      ≡ stands (record h { rows = used (rule_for a) (v ∷ []) (settled rules h).rows; pending = None }) idle p false
  joined_next v is = option_next idle p h y ys a (Some v) is found valued

-- the flag, which has no value
module _ (h : Held) (p : ℕ) (y : ℕ) (ys : List ℕ) (found : arg_by_long rules (name_of optimize) ≡ Some (rule_for optimize)) where
  abbrev flag_text : Text
  flag_text = 45 ∷ 45 ∷ y ∷ ys

  pub flag_turn : name_and_value (y ∷ ys) ≡ (name_of optimize, None) → turn_fault top [] (stands h idle p false) flag_text
      ≡ or_else (or_else (settle_fault rules false h) (use_fault false (rule_for optimize) [] (settled rules h).rows)) []
  flag_turn is = named_turn idle p h y ys optimize None is found

  pub flag_next : name_and_value (y ∷ ys) ≡ (name_of optimize, None) → walked rules [] (stands h idle p false) flag_text
      ≡ stands (record h { rows = used (rule_for optimize) [] (settled rules h).rows; pending = None }) idle p false
  flag_next is = named_next idle p h y ys optimize None is found

  pub flag_alone : name_and_value (y ∷ ys) ≡ (name_of optimize, None)
      → other_fault top None flag_text h ≡ or_else (settle_fault rules false h) (use_fault false (rule_for optimize) [] (settled rules h).rows)
  flag_alone is = named_fault idle p h y ys optimize None is found

  pub flag_valued : (v : Text) → name_and_value (y ∷ ys) ≡ (name_of optimize, Some v) → other_fault top None flag_text h ≡ kind.TooManyValues ∷ []
  flag_valued v is = named_fault idle p h y ys optimize (Some v) is found

-- ---- an option that waits for its value

abbrev pub waits : Argument → List Row → Held
waits a rs = held rs (Some (name_of a, []))

module _ (a : Argument) (rs : List Row) where
  -- without one the use is at fault
  pub no_value : takes_word a ≡ true → settle_fault rules false (waits a rs) ≡ kind.InvalidValue ∷ []
  no_value = go a
    where
      go : (b : Argument) → takes_word b ≡ true → settle_fault rules false (held rs (Some (name_of b, []))) ≡ kind.InvalidValue ∷ []
      go mode w = refl
      go number w = refl
      go turns w = refl
      go entry w = refl
      go optimize w = absurd (true≢false (sym w))

  pub value_word : (word : Text) → plain_word rules (option (name_of a)) word (waits a rs) ≡ (held rs (Some (name_of a, word ∷ [])), next idle)
  value_word word = go a
    where
      go : (b : Argument) → plain_word rules (option (name_of b)) word (held rs (Some (name_of b, []))) ≡ (held rs (Some (name_of b, word ∷ [])), next idle)
      go mode = refl
      go number = refl
      go turns = refl
      go entry = refl
      go optimize = refl

-- ---- a value by itself

module _ (h : Held) (given : List Given) (holds : Holds h given) (p : ℕ) (word : Text) (is : is_value word ≡ true) where
  plain_here : IsPlain idle p h.rows h.pending word
  plain_here = plain idle p h.rows h.pending word is

  pub value_turn : turn_fault top [] (stands h idle p false) word ≡ step_fault top p h a_value
  value_turn = subst (λ k. turn_fault top [] (stands k idle p false) word ≡ step_fault top p k a_value) (sym (is_held h given holds))
      (turn_is (held h.rows h.pending) idle p word ∙ ap₂ (λ ks (m : Held × Step). or_else ks (step_fault top p m.0 m.1)) plain_here.0 plain_here.1)

  pub value_next : walked rules [] (stands h idle p false) word ≡ to_positional rules (arg_by_index rules p) word (stands h idle p false) h
  value_next = subst (λ k. walked rules [] (stands k idle p false) word ≡ to_positional rules (arg_by_index rules p) word (stands k idle p false) k) (sym (is_held h given holds))
      (next_is (held h.rows h.pending) idle p word
      ∙ ap (λ (m : Held × Step). after_step rules word (stands (held h.rows h.pending) idle p false) m.0 m.1) plain_here.1)

-- the value of an option that waits for it
module _ (a : Argument) (given : List Given) (p : ℕ) (word : Text) (is : is_value word ≡ true) where
  waits_here : IsPlain (option (name_of a)) p (rows given) (Some (name_of a, [])) word
  waits_here = plain (option (name_of a)) p (rows given) (Some (name_of a, [])) word is

  met_here : subcommand_or_other rules None (option (name_of a)) p word (waits a (rows given)) ≡ (held (rows given) (Some (name_of a, word ∷ [])), next idle)
  met_here = waits_here.1 ∙ value_word a (rows given) word

  pub awaited_turn : turn_fault top [] (stands (waits a (rows given)) (option (name_of a)) p false) word ≡ []
  awaited_turn = turn_is (waits a (rows given)) (option (name_of a)) p word
      ∙ ap₂ (λ ks (m : Held × Step). or_else ks (step_fault top p m.0 m.1)) waits_here.0 met_here

  pub awaited_next : walked rules [] (stands (waits a (rows given)) (option (name_of a)) p false) word
      ≡ stands (held (rows given) (Some (name_of a, word ∷ []))) idle p false
  awaited_next = next_is (waits a (rows given)) (option (name_of a)) p word
      ∙ ap (λ (m : Held × Step). after_step rules word (stands (waits a (rows given)) (option (name_of a)) p false) m.0 m.1) met_here
