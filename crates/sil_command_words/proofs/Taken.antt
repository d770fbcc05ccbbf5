-- A parse takes words that give each argument at most once, and then holds what they give.
use Rattle.std.proofs.Common.{◌≡◌, ◌∙◌, ◌≤◌, ◌||◌, ◌⊎◌, inl, inr, ℕ, Bool, true, false, refl, sym, ap, subst, arith, List, [], ◌∷◌, ◌++◌, length}
use Rattle.std.proofs.Common.{Some, None, fold, append_assoc, append-nil, ap₂, length-append, true≢false, codes}
use Rattle.clap.specs.Faults.{settle_fault, turn_fault, use_fault, walk_fault}
use Rattle.clap.specs.Kinds.{or_else}
use Rattle.clap.specs.Lexer.{name_and_value}
use Rattle.clap.specs.Faults.{step_fault}
use Rattle.clap.specs.Walk.{Held, Text, Waiting, Walk, arg_by_index, arg_by_long, idle, option, settled, to_positional, used, value as a_value, walked}
use Rattle.clap.specs.declared.error.kind.ErrorKind.TheVariants as kind
use Rattle.sil_command_words.specs.CommandLines.{Argument, mode, number, turns, entry, optimize, Given, Gives, nothing, alone, apart, joined, flag, behind, as_flag}
use Rattle.sil_command_words.specs.CommandLines.{by_themselves, is_option, name_of, option_word, values_of}
use Rattle.sil_command_words.proofs.Rows.{AtMostOnce, first_once, last_new, rows, values-append, IsNew}
use Rattle.sil_command_words.proofs.Parsed.{Holds, all_used, one_pending, flag_row, held, new_is_flag, new_is_use, is_held, nothing_skipped, once_settles, option_takes_word, rule_for, rules}
use Rattle.sil_command_words.proofs.Parsed.{settled_rows_are, takes_word, top, used_row}
use Rattle.sil_command_words.proofs.Steps.{stands, next_is, trailing_turn, trailing_next, first_place, second_place, no_third_place, mode_taken, number_taken, waiting_turn, waiting_next, joined_turn}
use Rattle.sil_command_words.proofs.Steps.{flag_next, flag_turn, joined_next, waits, value_turn, value_next, awaited_turn, awaited_next}

-- the place of the next word that stands by itself, and what that gives; behind the number there is none
pub data IsPlace : ℕ → Argument → List Given → Type 0 where
  first : (given : List Given) → IsPlace 1 mode given
  second : (given : List Given) → IsPlace 2 number given
  third : (given : List Given) → 1 ≤ length (values_of number given) → IsPlace 3 number given

-- a word is taken at this place
pub record IsTaken (p : ℕ) (next : Argument) (h : Held) (given : List Given) : Type 0 where
  pub after : ℕ
  pub word : takes_word next ≡ true
  pub clear : step_fault top p h a_value ≡ settle_fault rules false h
  pub taken : (t : Bool) (v : Text) → Holds h given → AtMostOnce given → to_positional rules (arg_by_index rules p) v (stands h idle p t) h
      ≡ stands (held (rows given) (Some (name_of next, v ∷ []))) idle after (t || false)
  pub place : (v : Text) → IsPlace after number (given ++ (next, v) ∷ [])

-- or none is, and the number was given
pub record IsRefused (p : ℕ) (next : Argument) (h : Held) (given : List Given) : Type 0 where
  pub fault : step_fault top p h a_value ≡ kind.UnknownArgument ∷ []
  pub is : next ≡ number
  pub given_before : 1 ≤ length (values_of number given)

number_there : (given : List Given) (v : Text) → 1 ≤ length (values_of number (given ++ (number, v) ∷ []))
number_there given v = omega (arith, ap length (values-append number given ((number, v) ∷ [])) ∙ length-append (values_of number given) (v ∷ []))

pub room : (p : ℕ) (next : Argument) (h : Held) (given : List Given) → IsPlace p next given → IsTaken p next h given ⊎ IsRefused p next h given
room _ _ h _ (first given) = inl (record {
  after = 2;
  word = refl;
  clear = first_place h idle [];
  taken = λ t v. mode_taken h idle v given t;
  place = λ v. second _;
})
room _ _ h _ (second given) = inl (record {
  after = 3;
  word = refl;
  clear = second_place h idle [];
  taken = λ t v. number_taken h idle v given t;
  place = λ v. third _ (number_there given v);
})
room _ _ h _ (third given some) = inr (record { fault = no_third_place h idle []; is = refl; given_before = some })

-- the parse holds what was given, and met no subcommand
pub record Ends (w : Walk) (given : List Given) : Type 0 where
  pub stopped : w.stopped ≡ None
  pub holds : Holds w.held given

-- nothing is wrong with these words
abbrev pub Passes : Walk → List Text → List Given → Type 0
Passes w words given = (walk_fault top [] w words ≡ []) × Ends (fold (walked rules []) w words) given

pub passes_none : (h : Held) (p : ℕ) (t : Bool) (given : List Given) → Holds h given → Passes (stands h idle p t) [] (given ++ [])
unfolding walk_fault
passes_none h p t given holds = (refl, record { stopped = refl; holds = subst (Holds h) (sym (append-nil given)) holds })

-- nothing is wrong with a word and what comes behind it
pub passes_more : (w after : Walk) (word : Text) (words : List Text) (given : List Given) → turn_fault top [] w word ≡ [] → walked rules [] w word ≡ after
    → Passes after words given → Passes w (word ∷ words) given
unfolding walk_fault
passes_more w after word words given none is rest =
    (rw (none, is) rest.0, rw is rest.1)

-- the place stays behind what doesn't stand by itself
pub place_beside : (p : ℕ) (next : Argument) (given : List Given) (g : Given) → values_of number (g ∷ []) ≡ [] → IsPlace p next given
    → IsPlace p next (given ++ g ∷ [])
place_beside _ _ _ g none (first given) = first _
place_beside _ _ _ g none (second given) = second _
place_beside _ _ _ g none (third given some) =
    let same : values_of number (given ++ g ∷ []) ≡ values_of number given =
    values-append number given (g ∷ []) ∙ ap (λ l. values_of number given ++ l) none ∙ append-nil (values_of number given) in
    third _ (subst (λ vs. 1 ≤ length vs) (sym same) some)

pub next_place : (p : ℕ) (next : Argument) (given : List Given) (a : Argument) (v : Text) → is_option a ≡ true → IsPlace p next given
    → IsPlace p next (given ++ (a, v) ∷ [])
next_place p next given a v opt place = place_beside p next given (a, v) (none a opt) place
  where
    none : (b : Argument) → is_option b ≡ true → values_of number ((b, v) ∷ []) ≡ []
    none mode e = absurd (true≢false (sym e))
    none number e = absurd (true≢false (sym e))
    none turns e = refl
    none entry e = refl
    none optimize e = refl

-- the number isn't given twice
number_once : (given : List Given) (v : Text) → 1 ≤ length (values_of number given) → AtMostOnce (given ++ (number, v) ∷ []) → ⊥
number_once given v some once =
    omega (arith, some, once number, ap length (values-append number given ((number, v) ∷ [])) ∙ length-append (values_of number given) (v ∷ []))

-- the values so far, of more
once_so_far : (given : List Given) (g : Given) (more : List Given) → AtMostOnce (given ++ g ∷ more) → AtMostOnce (given ++ g ∷ [])
once_so_far given g more once = first_once (given ++ g ∷ []) more (subst AtMostOnce (sym (append_assoc given (g ∷ []) more)) once)

regroup : (w : Walk) (words : List Text) (given : List Given) (g : Given) (more : List Given) → Passes w words ((given ++ g ∷ []) ++ more) → Passes w words (given ++ g ∷ more)
regroup w words given g more = subst (Passes w words) (append_assoc given (g ∷ []) more)

once_again : (given : List Given) (g : Given) (more : List Given) → AtMostOnce (given ++ g ∷ more) → AtMostOnce ((given ++ g ∷ []) ++ more)
once_again given g more once = subst AtMostOnce (sym (append_assoc given (g ∷ []) more)) once

-- a word by itself is taken where that gives nothing twice
once_taken : (p : ℕ) (next : Argument) (h : Held) (given : List Given) (word : Text) → IsPlace p next given → AtMostOnce (given ++ (next, word) ∷ [])
    → IsTaken p next h given
once_taken p next h given word place once = by (room p next h given place)
  where
    by : IsTaken p next h given ⊎ IsRefused p next h given → IsTaken p next h given
    by (inl taken) = taken
    by (inr refused) = absurd (number_once given word refused.given_before (subst (λ a. AtMostOnce (given ++ (a, word) ∷ [])) refused.is once))

pub hyphens_from : (h : Held) (waiting : Waiting) (p : ℕ) → walked rules [] (stands h waiting p false) (45 ∷ 45 ∷ []) ≡ stands h waiting p true
hyphens_from h waiting p = next_is h waiting p (45 ∷ 45 ∷ [])

pub hyphens_next : (h : Held) (p : ℕ) → walked rules [] (stands h idle p false) (45 ∷ 45 ∷ []) ≡ stands h idle p true
hyphens_next h p = hyphens_from h idle p

-- behind `--`
all_behind : (next : Argument) (words : List Text) (h : Held) (p : ℕ) (given : List Given) → Holds h given → IsPlace p next given
    → AtMostOnce (given ++ by_themselves next words) → Passes (stands h idle p true) words (given ++ by_themselves next words)
all_behind next [] h p given holds place once = passes_none h p true given holds
all_behind next (word ∷ words) h p given holds place once =
    let so_far = once_so_far given (next, word) (by_themselves number words) once in
    let before = first_once given ((next, word) ∷ []) so_far in
    let step = once_taken p next h given word place so_far in
    regroup _ _ given (next, word) (by_themselves number words)
    (passes_more _ _ word words _ (trailing_turn h idle p word ∙ step.clear ∙ once_settles h given holds before)
    (trailing_next h idle p word ∙ step.taken true word holds before)
    (all_behind number words _ step.after (given ++ (next, word) ∷ []) (one_pending given next word step.word before) (step.place word)
    (once_again given (next, word) (by_themselves number words) once)))

module _ (h : Held) (p : ℕ) (given : List Given) (holds : Holds h given) (once : AtMostOnce given) where
  settles : settle_fault rules false h ≡ []
  settles = once_settles h given holds once

  settled_is : settled rules h ≡ held (rows given) None
  settled_is = nothing_skipped h given holds ∙ ap (λ rs. held rs None) (settled_rows_are h given holds once)

  module _ (a : Argument) (valued : takes_word a ≡ true) (found : arg_by_long rules (name_of a) ≡ Some (rule_for a)) (y : ℕ) (ys : List ℕ) where
    pub waits_passes : name_and_value (y ∷ ys) ≡ (name_of a, None) → turn_fault top [] (stands h idle p false) (45 ∷ 45 ∷ y ∷ ys) ≡ []
    waits_passes is = waiting_turn h p y ys a valued found is ∙ ap (λ ks. or_else ks []) settles

    pub waits_next : name_and_value (y ∷ ys) ≡ (name_of a, None)
        → walked rules [] (stands h idle p false) (45 ∷ 45 ∷ y ∷ ys) ≡ stands (waits a (rows given)) (option (name_of a)) p false
    waits_next is = waiting_next h p y ys a valued found is
        ∙ ap (λ (k : Held). stands (record k { pending = Some (name_of a, []) }) (option (name_of a)) p false) settled_is

    module _ (v : Text) (is : name_and_value (y ∷ ys) ≡ (name_of a, Some v)) (new : IsNew (a, v) given) where
      pub joined_passes : turn_fault top [] (stands h idle p false) (45 ∷ 45 ∷ y ∷ ys) ≡ []
      joined_passes = joined_turn h p y ys a valued found v is
          ∙ ap₂ (λ ks rs. or_else (or_else ks (use_fault false (rule_for a) (v ∷ []) rs)) []) settles (settled_rows_are h given holds once)
          ∙ ap (λ ks. or_else ks []) (new_is_use a v given valued new)

      pub joined_next_is : walked rules [] (stands h idle p false) (45 ∷ 45 ∷ y ∷ ys) ≡ stands (held (rows (given ++ (a, v) ∷ [])) None) idle p false
      joined_next_is = joined_next h p y ys a valued found v is
          ∙ ap₂ (λ (k : Held) rs. stands (record k { rows = used (rule_for a) (v ∷ []) rs; pending = None }) idle p false) (is_held h given holds) (settled_rows_are h given holds once)
          ∙ ap (λ rs. stands (held rs None) idle p false) (used_row a v given valued new)

  module _ (found : arg_by_long rules (name_of optimize) ≡ Some (rule_for optimize)) (y : ℕ) (ys : List ℕ) (is : name_and_value (y ∷ ys) ≡ (name_of optimize, None))
      (new : IsNew as_flag given) where
    pub flag_passes : turn_fault top [] (stands h idle p false) (45 ∷ 45 ∷ y ∷ ys) ≡ []
    flag_passes = flag_turn h p y ys found is
        ∙ ap₂ (λ ks rs. or_else (or_else ks (use_fault false (rule_for optimize) [] rs)) []) settles (settled_rows_are h given holds once)
        ∙ ap (λ ks. or_else ks []) (new_is_flag given new)

    pub flag_next_is : walked rules [] (stands h idle p false) (45 ∷ 45 ∷ y ∷ ys) ≡ stands (held (rows (given ++ as_flag ∷ [])) None) idle p false
    flag_next_is = flag_next h p y ys found is
        ∙ ap₂ (λ (k : Held) rs. stands (record k { rows = used (rule_for optimize) [] rs; pending = None }) idle p false) (is_held h given holds) (settled_rows_are h given holds once)
        ∙ ap (λ rs. stands (held rs None) idle p false) (flag_row given new)

-- `--turns` and `--entry` are found, alone and with `=`, and `--optimize` alone
module _ (h : Held) (p : ℕ) (given : List Given) (holds : Holds h given) (once : AtMostOnce given) where
  option_waits : (a : Argument) → is_option a ≡ true → (turn_fault top [] (stands h idle p false) (option_word a) ≡ [])
      × (walked rules [] (stands h idle p false) (option_word a) ≡ stands (waits a (rows given)) (option (name_of a)) p false)
  option_waits mode opt = absurd (true≢false (sym opt))
  option_waits number opt = absurd (true≢false (sym opt))
  option_waits turns opt = (waits_passes h p given holds once turns refl refl 116 (codes "urns") refl, waits_next h p given holds once turns refl refl 116 (codes "urns") refl)
  option_waits entry opt = (waits_passes h p given holds once entry refl refl 101 (codes "ntry") refl, waits_next h p given holds once entry refl refl 101 (codes "ntry") refl)
  option_waits optimize opt = absurd (true≢false (sym opt))

  option_joined : (a : Argument) (v : Text) → is_option a ≡ true → IsNew (a, v) given → (turn_fault top [] (stands h idle p false) (option_word a ++ codes "=" ++ v) ≡ [])
      × (walked rules [] (stands h idle p false) (option_word a ++ codes "=" ++ v) ≡ stands (held (rows (given ++ (a, v) ∷ [])) None) idle p false)
  option_joined mode v opt new = absurd (true≢false (sym opt))
  option_joined number v opt new = absurd (true≢false (sym opt))
  option_joined turns v opt new = (
    joined_passes h p given holds once turns refl refl 116 (codes "urns=" ++ v) v refl new,
    joined_next_is h p given holds once turns refl refl 116 (codes "urns=" ++ v) v refl new,
  )
  option_joined entry v opt new = (
    joined_passes h p given holds once entry refl refl 101 (codes "ntry=" ++ v) v refl new,
    joined_next_is h p given holds once entry refl refl 101 (codes "ntry=" ++ v) v refl new,
  )
  option_joined optimize v opt new = absurd (true≢false (sym opt))

  flag_stands : IsNew as_flag given → (turn_fault top [] (stands h idle p false) (option_word optimize) ≡ [])
      × (walked rules [] (stands h idle p false) (option_word optimize) ≡ stands (held (rows (given ++ as_flag ∷ [])) None) idle p false)
  flag_stands new = (flag_passes h p given holds once refl 111 (codes "ptimize") refl new, flag_next_is h p given holds once refl 111 (codes "ptimize") refl new)

pub all_pass : (next : Argument) (words : List Text) (more : List Given) → Gives next words more → (h : Held) (p : ℕ) (given : List Given) → Holds h given
    → IsPlace p next given → AtMostOnce (given ++ more) → Passes (stands h idle p false) words (given ++ more)
all_pass _ _ _ (nothing next) h p given holds place once = passes_none h p false given holds
all_pass _ _ _ (alone next word words more is gives) h p given holds place once =
    let so_far = once_so_far given (next, word) more once in
    let before = first_once given ((next, word) ∷ []) so_far in
    let step = once_taken p next h given word place so_far in
    regroup _ _ given (next, word) more
    (passes_more _ _ word words _ (value_turn h given holds p word is ∙ step.clear ∙ once_settles h given holds before)
    (value_next h given holds p word is ∙ step.taken false word holds before)
    (all_pass number words more gives _ step.after (given ++ (next, word) ∷ []) (one_pending given next word step.word before) (step.place word)
    (once_again given (next, word) more once)))
all_pass _ _ _ (apart next a word words more opt is gives) h p given holds place once =
    let so_far : AtMostOnce given = first_once given ((a, word) ∷ more) once in
    let first = option_waits h p given holds so_far a opt in
    regroup _ _ given (a, word) more
    (passes_more _ _ (option_word a) (word ∷ words) _ first.0 first.1
    (passes_more _ _ word words _ (awaited_turn a given p word is) (awaited_next a given p word is)
    (all_pass next words more gives _ p (given ++ (a, word) ∷ []) (one_pending given a word (option_takes_word a opt) so_far) (next_place p next given a word opt place)
    (once_again given (a, word) more once))))
all_pass _ _ _ (joined next a word words more opt gives) h p given holds place once =
    let so_far = once_so_far given (a, word) more once in
    let step = option_joined h p given holds (first_once given ((a, word) ∷ []) so_far) a word opt (last_new given (a, word) so_far) in
    regroup _ _ given (a, word) more
    (passes_more _ _ (option_word a ++ codes "=" ++ word) words _ step.0 step.1
    (all_pass next words more gives _ p (given ++ (a, word) ∷ []) (all_used (given ++ (a, word) ∷ []) so_far) (next_place p next given a word opt place)
    (once_again given (a, word) more once)))
all_pass _ _ _ (flag next words more gives) h p given holds place once =
    let so_far = once_so_far given as_flag more once in
    let step = flag_stands h p given holds (first_once given (as_flag ∷ []) so_far) (last_new given as_flag so_far) in
    regroup _ _ given as_flag more
    (passes_more _ _ (option_word optimize) words _ step.0 step.1
    (all_pass next words more gives _ p (given ++ as_flag ∷ []) (all_used (given ++ as_flag ∷ []) so_far) (place_beside p next given as_flag refl place)
    (once_again given as_flag more once)))
all_pass _ _ _ (behind next words) h p given holds place once =
    passes_more _ _ (codes "--") words _ refl (hyphens_next h p) (all_behind next words h p given holds place once)
