-- Where nothing is wrong with words, they give values, and the parse holds them.
use Rattle.std.proofs.Common.{◌≡◌, ◌∙◌, inl, inr, ℕ, true, refl, sym, ap, subst, List, [], ◌∷◌, ◌++◌, Option, Some, None, fold, append_assoc, append-nil}
use Rattle.std.specs.Prelude.{◌⊎◌, Bool, false}
use Rattle.clap.specs.Faults.{option_fault, other_fault, settle_fault, step_fault, turn_fault, use_fault, walk_fault}
use Rattle.clap.specs.Lexer.{name_and_value}
use Rattle.clap.specs.Walk.{Held, Text, Waiting, Walk, arg_by_long, idle, option, value as a_value, walked}
use Rattle.sil_command_words.specs.CommandLines.{Argument, number, optimize, Given, Gives, nothing, alone, apart, joined, flag, behind, as_flag, by_themselves}
use Rattle.sil_command_words.specs.CommandLines.{is_option, is_value, name_of}
use Rattle.sil_command_words.proofs.Rows.{AtMostOnce, once_more, rows}
use Rattle.sil_command_words.proofs.Parsed.{Holds, all_used, one_pending, Named, of_option, of_flag, of_nothing, named, cons_not_nil, flag_is_new, held, is_held, none_of, option_takes_word, rule_for}
use Rattle.sil_command_words.proofs.Parsed.{rules, settled_rows_are, settles_once, takes_word, top, use_is_new}
use Rattle.sil_command_words.proofs.Sorts.{Sort, value, hyphens, long, short, sort_of, Cut, whole, parts, cut_of}
use Rattle.sil_command_words.proofs.Steps.{stands, turn_is, trailing_turn, trailing_next, no_short, no_value, unknown_option}
use Rattle.sil_command_words.proofs.Steps.{flag_alone, flag_turn, flag_valued, option_fault_is, waiting_turn, joined_turn, waits, value_turn, value_next, awaited_next}
use Rattle.sil_command_words.proofs.Taken.{Ends, IsPlace, IsRefused, IsTaken, flag_next_is, hyphens_from, hyphens_next, joined_next_is, next_place, place_beside, room, waits_next}

-- nothing is wrong with the words, nor with what is still to be used after them
pub record IsClear (w : Walk) (words : List Text) : Type 0 where
  pub faultless : walk_fault top [] w words ≡ []
  pub settles : settle_fault rules false (fold (walked rules []) w words).held ≡ []

first_clear : (w : Walk) (word : Text) (words : List Text) → IsClear w (word ∷ words) → turn_fault top [] w word ≡ []
unfolding walk_fault
first_clear w word words clear = (none_of _ _ clear.faultless).0

rest_clear : (w after : Walk) (word : Text) (words : List Text) → walked rules [] w word ≡ after → IsClear w (word ∷ words) → IsClear after words
unfolding walk_fault
rest_clear w after word words is clear = record {
  faultless = subst (λ v. walk_fault top [] v words ≡ []) is (none_of _ _ clear.faultless).1;
  settles = subst (λ v. settle_fault rules false (fold (walked rules []) v words).held ≡ []) is clear.settles;
}

-- what the walk holds in the end, seen from one word earlier
ends_before : (w after : Walk) (word : Text) (words : List Text) (given : List Given) (g : Given) (more : List Given) → walked rules [] w word ≡ after
    → Ends (fold (walked rules []) after words) ((given ++ g ∷ []) ++ more) → Ends (fold (walked rules []) w (word ∷ words)) (given ++ g ∷ more)
ends_before w after word words given g more is ends =
    subst (λ v. Ends (fold (walked rules []) v words) (given ++ g ∷ more)) (sym is)
    (subst (Ends (fold (walked rules []) after words)) (append_assoc given (g ∷ []) more) ends)

ends_here : (h : Held) (waiting : Waiting) (p : ℕ) (t : Bool) (given : List Given) → Holds h given → Ends (stands h waiting p t) (given ++ [])
ends_here h waiting p t given holds = record { stopped = refl; holds = subst (Holds h) (sym (append-nil given)) holds }

-- ---- a word that stands by itself

-- where nothing is wrong with it, there is room for it
clear_taken : (p : ℕ) (next : Argument) (h : Held) (given : List Given) → IsPlace p next given → step_fault top p h a_value ≡ [] → IsTaken p next h given
clear_taken p next h given place none = by (room p next h given place)
  where
    by : IsTaken p next h given ⊎ IsRefused p next h given → IsTaken p next h given
    by (inl taken) = taken
    by (inr refused) = absurd (cons_not_nil _ _ (sym refused.fault ∙ none))

-- behind `--`
read_behind : (next : Argument) (words : List Text) (h : Held) (p : ℕ) (given : List Given) → Holds h given → IsPlace p next given
    → IsClear (stands h idle p true) words → Ends (fold (walked rules []) (stands h idle p true) words) (given ++ by_themselves next words)
read_behind next [] h p given holds place clear = ends_here h idle p true given holds
read_behind next (word ∷ words) h p given holds place clear =
    let none : step_fault top p h a_value ≡ [] = sym (trailing_turn h idle p word) ∙ first_clear _ word words clear in
    let step = clear_taken p next h given place none in
    let once = settles_once h given holds (sym step.clear ∙ none) in
    let after : walked rules [] (stands h idle p true) word ≡ stands (held (rows given) (Some (name_of next, word ∷ []))) idle step.after true =
    trailing_next h idle p word ∙ step.taken true word holds once in
    ends_before _ _ word words given (next, word) (by_themselves number words) after
    (read_behind number words _ step.after (given ++ (next, word) ∷ []) (one_pending given next word step.word once) (step.place word)
    (rest_clear _ _ word words after clear))

-- ---- words in order

-- what words give where the value of an option may be awaited
abbrev pub GivesFrom : Argument → Option Argument → List Text → List Given → Type 0
GivesFrom next None words more = Gives next words more
GivesFrom next (Some a) words more = (v : Text) × (rest : List Text) × (later : List Given) × (words ≡ v ∷ rest) × (more ≡ (a, v) ∷ later)
    × (is_value v ≡ true) × Gives next rest later

pub data Stands : Walk → Argument → List Given → Option Argument → Type 0 where
  between : (h : Held) (p : ℕ) (next : Argument) (given : List Given) → Holds h given → IsPlace p next given → Stands (stands h idle p false) next given None
  awaits : (a : Argument) (p : ℕ) (next : Argument) (given : List Given) → is_option a ≡ true → AtMostOnce given → IsPlace p next given
      → Stands (stands (waits a (rows given)) (option (name_of a)) p false) next given (Some a)

pub record Reads (w : Walk) (words : List Text) (next : Argument) (given : List Given) (awaited : Option Argument) : Type 0 where
  pub more : List Given
  pub gives : GivesFrom next awaited words more
  pub ends : Ends (fold (walked rules []) w words) (given ++ more)

abbrev pub Reader : List Text → Type 0
Reader words = (w : Walk) (next : Argument) (given : List Given) (awaited : Option Argument) → Stands w next given awaited → IsClear w words
    → Reads w words next given awaited

-- ---- an option that waits for its value

module _ (a : Argument) (valued : takes_word a ≡ true) (p : ℕ) (next : Argument) (given : List Given) where
  abbrev waiting_walk : Bool → Walk
  waiting_walk t = stands (waits a (rows given)) (option (name_of a)) p t

  still_waits : settle_fault rules false (waits a (rows given)) ≡ [] → ⊥
  still_waits none = cons_not_nil _ _ (sym (no_value a (rows given) valued) ∙ none)

  -- no word stands by itself while the option waits
  none_alone : IsPlace p next given → step_fault top p (waits a (rows given)) a_value ≡ [] → ⊥
  none_alone place none = still_waits (sym (clear_taken p next (waits a (rows given)) given place none).clear ∙ none)

  waits_behind : (words : List Text) → IsPlace p next given → IsClear (waiting_walk true) words → ⊥
  waits_behind [] place clear = still_waits clear.settles
  waits_behind (word ∷ words) place clear = none_alone place (sym (trailing_turn (waits a (rows given)) (option (name_of a)) p word) ∙ first_clear _ word words clear)

  -- what is wrong with a word alone
  word_clear : (word : Text) (words : List Text) → IsClear (waiting_walk false) (word ∷ words) → other_fault top None word (waits a (rows given)) ≡ []
  word_clear word words clear = (none_of _ _ (sym (turn_is (waits a (rows given)) (option (name_of a)) p word) ∙ first_clear _ word words clear)).0

  no_option_here : (b : Argument) (v : Option Text) → option_fault rules false (rule_for b) v (waits a (rows given)) ≡ [] → ⊥
  no_option_here b None none = still_waits none
  no_option_here b (Some v) none = still_waits (none_of _ _ none).0

  no_long : (y : ℕ) (ys : List ℕ) (name : Text) (v : Option Text) → name_and_value (y ∷ ys) ≡ (name, v) → Named name
      → other_fault top None (45 ∷ 45 ∷ y ∷ ys) (waits a (rows given)) ≡ [] → ⊥
  no_long y ys name v is (of_nothing none) clear =
      cons_not_nil _ _ (sym (unknown_option idle p (waits a (rows given)) y ys (ap (λ (c : Text × Option Text). arg_by_long rules c.0) is ∙ none)) ∙ clear)
  no_long y ys name v is (of_option b opt found name_is) clear =
      no_option_here b v
      (sym (option_fault_is idle p (waits a (rows given)) y ys b v (is ∙ ap (λ n. (n, v)) name_is) (ap (arg_by_long rules) (sym name_is) ∙ found) (option_takes_word b opt)) ∙ clear)
  no_long y ys name None is (of_flag found name_is) clear =
      still_waits (none_of _ _ (sym (flag_alone (waits a (rows given)) p y ys (ap (arg_by_long rules) (sym name_is) ∙ found) (is ∙ ap (λ n. (n, None)) name_is)) ∙ clear)).0
  no_long y ys name (Some v) is (of_flag found name_is) clear =
      cons_not_nil _ _ (sym (flag_valued (waits a (rows given)) p y ys (ap (arg_by_long rules) (sym name_is) ∙ found) v (is ∙ ap (λ n. (n, Some v)) name_is)) ∙ clear)

  long_clear : (y : ℕ) (ys : List ℕ) → other_fault top None (45 ∷ 45 ∷ y ∷ ys) (waits a (rows given)) ≡ [] → ⊥
  long_clear y ys clear = go (cut_of (y ∷ ys))
    where
      go : Cut (y ∷ ys) → ⊥
      go (whole is) = no_long y ys (y ∷ ys) None is (named (y ∷ ys)) clear
      go (parts name v is all) = no_long y ys name (Some v) is (named name) clear

  read_awaited : (word : Text) (words : List Text) → is_option a ≡ true → AtMostOnce given → IsPlace p next given → Reader words
      → IsClear (waiting_walk false) (word ∷ words) → Sort word → Reads (waiting_walk false) (word ∷ words) next given (Some a)
  read_awaited _ words opt once place rec clear (value word is) =
      let after = awaited_next a given p word is in
      let rest = rec _ next (given ++ (a, word) ∷ []) None (between _ p next _ (one_pending given a word valued once) (next_place p next given a word opt place))
      (rest_clear _ _ word words after clear) in
      record {
        more = (a, word) ∷ rest.more;
        gives = (word, words, rest.more, refl, refl, is, rest.gives);
        ends = ends_before _ _ word words given (a, word) rest.more after rest.ends;
      }
  read_awaited _ words opt once place rec clear hyphens = absurd (waits_behind words place (rest_clear _ _ (45 ∷ 45 ∷ []) words (hyphens_from (waits a (rows given)) (option (name_of a)) p) clear))
  read_awaited _ words opt once place rec clear (long y ys) = absurd (long_clear y ys (word_clear (45 ∷ 45 ∷ y ∷ ys) words clear))
  read_awaited _ words opt once place rec clear (short y ys x other first) =
      absurd (cons_not_nil _ _ (sym (no_short idle p (rows given) (Some (name_of a, [])) y ys x other first) ∙ word_clear (45 ∷ y ∷ ys) words clear))

-- ---- a word where nothing waits

module _ (h : Held) (p : ℕ) (next : Argument) (given : List Given) (holds : Holds h given) (place : IsPlace p next given) (words : List Text) (rec : Reader words) where
  abbrev here : Walk
  here = stands h idle p false

  clear_alone : (word : Text) → IsClear here (word ∷ words) → other_fault top None word h ≡ []
  clear_alone word clear = (none_of _ _ (sym (turn_is h idle p word) ∙ first_clear _ word words clear)).0

  read_alone : (word : Text) → is_value word ≡ true → IsClear here (word ∷ words) → Reads here (word ∷ words) next given None
  read_alone word is clear =
      let none : step_fault top p h a_value ≡ [] = sym (value_turn h given holds p word is) ∙ first_clear _ word words clear in
      let step = clear_taken p next h given place none in
      let once = settles_once h given holds (sym step.clear ∙ none) in
      let after : walked rules [] here word ≡ stands (held (rows given) (Some (name_of next, word ∷ []))) idle step.after false =
      value_next h given holds p word is ∙ step.taken false word holds once in
      let rest = rec _ number (given ++ (next, word) ∷ []) None (between _ step.after number _ (one_pending given next word step.word once) (step.place word))
      (rest_clear _ _ word words after clear) in
      record {
        more = (next, word) ∷ rest.more;
        gives = alone next word words rest.more is rest.gives;
        ends = ends_before _ _ word words given (next, word) rest.more after rest.ends;
      }

  read_apart : (y : ℕ) (ys : List ℕ) (a : Argument) → is_option a ≡ true → name_and_value (y ∷ ys) ≡ (name_of a, None) → arg_by_long rules (name_of a) ≡ Some (rule_for a)
      → y ∷ ys ≡ name_of a → IsClear here ((45 ∷ 45 ∷ y ∷ ys) ∷ words) → Reads here ((45 ∷ 45 ∷ y ∷ ys) ∷ words) next given None
  read_apart y ys a opt is found all clear =
      let once = settles_once h given holds (none_of _ _ (sym (waiting_turn h p y ys a (option_takes_word a opt) found is) ∙ first_clear _ (45 ∷ 45 ∷ y ∷ ys) words clear)).0 in
      let after = waits_next h p given holds once a (option_takes_word a opt) found y ys is in
      let rest = rec _ next given (Some a) (awaits a p next given opt once place) (rest_clear _ _ (45 ∷ 45 ∷ y ∷ ys) words after clear) in
      let g = rest.gives in
      record {
        more = rest.more;
        gives = subst (Gives next ((45 ∷ 45 ∷ y ∷ ys) ∷ words)) (sym g.4)
            (subst (λ ws. Gives next ((45 ∷ 45 ∷ y ∷ ys) ∷ ws) ((a, g.0) ∷ g.2)) (sym g.3)
            (subst (λ l. Gives next ((45 ∷ 45 ∷ l) ∷ g.0 ∷ g.1) ((a, g.0) ∷ g.2)) (sym all) (apart next a g.0 g.1 g.2 opt g.5 g.6)));
        ends = subst (λ v. Ends (fold (walked rules []) v words) (given ++ rest.more)) (sym after) rest.ends;
      }

  read_joined : (y : ℕ) (ys : List ℕ) (a : Argument) (v : Text) → is_option a ≡ true → name_and_value (y ∷ ys) ≡ (name_of a, Some v)
      → arg_by_long rules (name_of a) ≡ Some (rule_for a) → y ∷ ys ≡ name_of a ++ 61 ∷ v → IsClear here ((45 ∷ 45 ∷ y ∷ ys) ∷ words)
      → Reads here ((45 ∷ 45 ∷ y ∷ ys) ∷ words) next given None
  read_joined y ys a v opt is found all clear =
      let uses = (none_of _ _ (sym (joined_turn h p y ys a (option_takes_word a opt) found v is) ∙ first_clear _ (45 ∷ 45 ∷ y ∷ ys) words clear)).0 in
      let once = settles_once h given holds (none_of _ _ uses).0 in
      let new = use_is_new a v given (option_takes_word a opt)
      (subst (λ rs. use_fault false (rule_for a) (v ∷ []) rs ≡ []) (settled_rows_are h given holds once) (none_of _ _ uses).1) in
      let after = joined_next_is h p given holds once a (option_takes_word a opt) found y ys v is new in
      let rest = rec _ next (given ++ (a, v) ∷ []) None (between _ p next _ (all_used _ (once_more given (a, v) once new)) (next_place p next given a v opt place))
      (rest_clear _ _ (45 ∷ 45 ∷ y ∷ ys) words after clear) in
      record {
        more = (a, v) ∷ rest.more;
        gives = subst (λ l. Gives next ((45 ∷ 45 ∷ l) ∷ words) ((a, v) ∷ rest.more)) (sym (all ∙ sym (append_assoc (name_of a) (61 ∷ []) v)))
            (joined next a v words rest.more opt rest.gives);
        ends = ends_before _ _ (45 ∷ 45 ∷ y ∷ ys) words given (a, v) rest.more after rest.ends;
      }

  read_flag : (y : ℕ) (ys : List ℕ) → name_and_value (y ∷ ys) ≡ (name_of optimize, None) → arg_by_long rules (name_of optimize) ≡ Some (rule_for optimize)
      → y ∷ ys ≡ name_of optimize → IsClear here ((45 ∷ 45 ∷ y ∷ ys) ∷ words) → Reads here ((45 ∷ 45 ∷ y ∷ ys) ∷ words) next given None
  read_flag y ys is found all clear =
      let uses = (none_of _ _ (sym (flag_turn h p y ys found is) ∙ first_clear _ (45 ∷ 45 ∷ y ∷ ys) words clear)).0 in
      let once = settles_once h given holds (none_of _ _ uses).0 in
      let new = flag_is_new given (subst (λ rs. use_fault false (rule_for optimize) [] rs ≡ []) (settled_rows_are h given holds once) (none_of _ _ uses).1) in
      let after = flag_next_is h p given holds once found y ys is new in
      let rest = rec _ next (given ++ as_flag ∷ []) None (between _ p next _ (all_used _ (once_more given as_flag once new)) (place_beside p next given as_flag refl place))
      (rest_clear _ _ (45 ∷ 45 ∷ y ∷ ys) words after clear) in
      record {
        more = as_flag ∷ rest.more;
        gives = subst (λ l. Gives next ((45 ∷ 45 ∷ l) ∷ words) (as_flag ∷ rest.more)) (sym all) (flag next words rest.more rest.gives);
        ends = ends_before _ _ (45 ∷ 45 ∷ y ∷ ys) words given as_flag rest.more after rest.ends;
      }

  no_such_option : (y : ℕ) (ys : List ℕ) (name : Text) (v : Option Text) → name_and_value (y ∷ ys) ≡ (name, v) → arg_by_long rules name ≡ None
      → IsClear here ((45 ∷ 45 ∷ y ∷ ys) ∷ words) → ⊥
  no_such_option y ys name v is none clear =
      cons_not_nil _ _ (sym (unknown_option idle p h y ys (ap (λ (c : Text × Option Text). arg_by_long rules c.0) is ∙ none)) ∙ clear_alone (45 ∷ 45 ∷ y ∷ ys) clear)

  read_long : (y : ℕ) (ys : List ℕ) → IsClear here ((45 ∷ 45 ∷ y ∷ ys) ∷ words) → Reads here ((45 ∷ 45 ∷ y ∷ ys) ∷ words) next given None
  read_long y ys clear = by_cut (cut_of (y ∷ ys))
    where
      by_whole : name_and_value (y ∷ ys) ≡ (y ∷ ys, None) → Named (y ∷ ys) → Reads here ((45 ∷ 45 ∷ y ∷ ys) ∷ words) next given None
      by_whole is (of_nothing none) = absurd (no_such_option y ys (y ∷ ys) None is none clear)
      by_whole is (of_option a opt found name_is) =
          read_apart y ys a opt (is ∙ ap (λ n. (n, None)) name_is) (ap (arg_by_long rules) (sym name_is) ∙ found) name_is clear
      by_whole is (of_flag found name_is) = read_flag y ys (is ∙ ap (λ n. (n, None)) name_is) (ap (arg_by_long rules) (sym name_is) ∙ found) name_is clear

      by_parts : (name v : Text) → name_and_value (y ∷ ys) ≡ (name, Some v) → y ∷ ys ≡ name ++ 61 ∷ v → Named name
          → Reads here ((45 ∷ 45 ∷ y ∷ ys) ∷ words) next given None
      by_parts name v is all (of_nothing none) = absurd (no_such_option y ys name (Some v) is none clear)
      by_parts name v is all (of_option a opt found name_is) =
          read_joined y ys a v opt (is ∙ ap (λ n. (n, Some v)) name_is) (ap (arg_by_long rules) (sym name_is) ∙ found) (all ∙ ap (λ n. n ++ 61 ∷ v) name_is) clear
      by_parts name v is all (of_flag found name_is) = absurd (cons_not_nil _ _
          (sym (flag_valued h p y ys (ap (arg_by_long rules) (sym name_is) ∙ found) v (is ∙ ap (λ n. (n, Some v)) name_is)) ∙ clear_alone (45 ∷ 45 ∷ y ∷ ys) clear))

      by_cut : Cut (y ∷ ys) → Reads here ((45 ∷ 45 ∷ y ∷ ys) ∷ words) next given None
      by_cut (whole is) = by_whole is (named (y ∷ ys))
      by_cut (parts name v is all) = by_parts name v is all (named name)

  read_word : (word : Text) → IsClear here (word ∷ words) → Sort word → Reads here (word ∷ words) next given None
  read_word _ clear (value word is) = read_alone word is clear
  read_word _ clear hyphens =
      let after = hyphens_next h p in
      record {
        more = by_themselves next words;
        gives = behind next words;
        ends = subst (λ v. Ends (fold (walked rules []) v words) (given ++ by_themselves next words)) (sym after)
            (read_behind next words h p given holds place (rest_clear _ _ (45 ∷ 45 ∷ []) words after clear));
      }
  read_word _ clear (long y ys) = read_long y ys clear
  read_word _ clear (short y ys x other first) =
      absurd (cons_not_nil _ _ (sym (no_short idle p h.rows h.pending y ys x other first)
      ∙ subst (λ k. other_fault top None (45 ∷ y ∷ ys) k ≡ []) (is_held h given holds) (clear_alone (45 ∷ y ∷ ys) clear)))

pub read_all : (words : List Text) → Reader words
read_all [] _ _ _ _ (between h p next given holds place) clear = record { more = []; gives = nothing next; ends = ends_here h idle p false given holds }
read_all [] _ _ _ _ (awaits a p next given opt once place) clear = absurd (still_waits a (option_takes_word a opt) p next given clear.settles)
read_all (word ∷ words) _ _ _ _ (between h p next given holds place) clear = read_word h p next given holds place words (read_all words) word clear (sort_of word)
read_all (word ∷ words) _ _ _ _ (awaits a p next given opt once place) clear =
    read_awaited a (option_takes_word a opt) p next given word words opt once place (read_all words) clear (sort_of word)
