-- Names that are given by number, none of them twice: where a name stands among them.
use Rattle.std.proofs.Common.{◌≡◌, ℕ, ◌+◌, ◌<◌, zero, suc, List, [], ◌∷◌, length, map, get_or, position, unwrap_or, Some, Bool, true, false, cond, ap, ap₂, sym, refl, ◌∙◌, arith, decimal}
use Rattle.std.specs.List.{enumerate_from, position_from}
use Rattle.std.specs.Str.{bytes_eq}
use Rattle.std.proofs.lemmas.Fmt.{decimal_injective}
use Rattle.std.proofs.lemmas.Iterator.Adapters.{position_from-zero}
use Rattle.std.proofs.lemmas.List.{get_or_default, length-map}
use Rattle.std.proofs.lemmas.List.Folds.{list_any_at}
use Rattle.std.proofs.lemmas.List.FromFn.{length-enumerate_from}
use Rattle.std.proofs.lemmas.Slice.Eq.{bytes_eq-Decides}
use Rattle.sil_ast.specs.declared.function.Function.{Function}
use Rattle.sil_ast.specs.declared.place.ValueId.{ValueId}
use Rattle.sil_printer.specs.CanonicalInsts.{block_name}
use Rattle.sil_grammar_tree.specs.declared.written_tree.written_declarations.WrittenToken.{WrittenToken}
use Rattle.sil_grammar_names.specs.NameScopes.NameFaults.{is_among}
use Rattle.sil_grammar_names.specs.NameScopes.Names.{Name}
use Rattle.sil_grammar_names.specs.NameResolution.Resolved.{has_name, place_among, value_of}
use Rattle.numbered_form.specs.Names.{AreOnce, function_name}
use Rattle.numbered_form.specs.Numbering.{AreCountedFrom}
use Rattle.sil_grammar.proofs.NumberedReadingLaws.OnceLemmas.{same_name}
use Rattle.sil_printer_laws.proofs.Tokens.{IsSmall}
use Rattle.sil_printer_laws.proofs.Written.{name_in}

-- as many names as are counted, each that of its number, and none twice
pub record IsNaming (count : ℕ) (name : ℕ → Name) (names : List Name) : Type 0 where
  pub counted : count ≡ length names
  pub each : (k : ℕ) → k < count → get_or names k [] ≡ name k
  pub once : AreOnce names

-- where a name stands

untrue : (b : Bool) → (b ≡ true → ⊥) → b ≡ false
untrue true h = absurd (h refl)
untrue false h = refl

pub no_match : (text name : Name) → (text ≡ name → ⊥) → bytes_eq text name ≡ false
no_match text name h = untrue (bytes_eq text name) (λ e. h ((bytes_eq-Decides text name).0 e))

stands_at : (names : List Name) (text : Name) (k n : ℕ) → AreOnce names → k < length names → get_or names k [] ≡ text → position_from (bytes_eq text) n names ≡ Some (n + k)
stands_at [] text k n once h e = let no : ⊥ = omega arith in absurd no
stands_at (name ∷ names) text zero n once h e =
    let same : n ≡ n + 0 = omega arith in
    ap (λ b. cond b (Some n) (position_from (bytes_eq text) (n + 1) names)) (ap (λ t. bytes_eq t name) (sym e) ∙ same_name name) ∙ ap (λ m. Some m) same
stands_at (name ∷ names) text (suc k) n once h e =
    let inside : k < length names = omega arith in
    let same : (n + 1) + k ≡ n + suc k = omega arith in
    let other : bytes_eq text name ≡ false = no_match text name (λ f. once.0 (k, inside, get_or_default names k name [] inside ∙ e ∙ f)) in
    ap (λ b. cond b (Some n) (position_from (bytes_eq text) (n + 1) names)) other ∙ stands_at names text k (n + 1) once.1 inside e ∙ ap (λ m. Some m) same

pub placed : {count : ℕ} {name : ℕ → Name} {names : List Name} → IsNaming count name names → (k : ℕ) (token : WrittenToken) → k < count → token.text ≡ name k → place_among names token ≡ k
placed {names = names} n k token h e =
    let c : _ ≡ length names = n.counted in
    let same : 0 + k ≡ k = omega arith in
    ap (λ o. unwrap_or o 0) (position_from-zero (bytes_eq token.text) names ∙ stands_at names token.text k 0 n.once (omega arith) (n.each k h ∙ sym e)) ∙ same

pub known : {count : ℕ} {name : ℕ → Name} {names : List Name} → IsNaming count name names → (k : ℕ) (token : WrittenToken) → k < count → token.text ≡ name k → is_among names token ≡ true
known {names = names} n k token h e =
    let c : _ ≡ length names = n.counted in
    list_any_at (bytes_eq token.text) names k [] (omega arith) (ap (bytes_eq token.text) (n.each k h ∙ sym e) ∙ same_name token.text)

-- among the values, each of which has a name
has_name_from : (text : Name) (n : ℕ) (names : List Name) → position_from (has_name text) n (map (λ name. Some name) names) ≡ position_from (bytes_eq text) n names
has_name_from text n [] = refl
has_name_from text n (name ∷ names) = ap (cond (bytes_eq text name) (Some n)) (has_name_from text (n + 1) names)

pub value_placed : {count : ℕ} {name : ℕ → Name} {names : List Name} → IsNaming count name names
    → (v : ValueId) (token : WrittenToken) → v.0 < count → token.text ≡ name v.0 → value_of (map (λ name. Some name) names) token ≡ v
value_placed {names = names} n v token h e =
    let same : 0 + v.0 ≡ v.0 = omega arith in
    let c : _ ≡ length names = n.counted in
    let at : position (has_name token.text) (map (λ name. Some name) names) ≡ Some (0 + v.0) =
    position_from-zero (has_name token.text) (map (λ name. Some name) names) ∙ has_name_from token.text 0 names ∙ stands_at names token.text v.0 0 n.once (omega arith) (n.each v.0 h ∙ sym e) in
    ap (λ (k : ℕ). let v : ValueId = record { 0 = k } in v) (ap (λ o. unwrap_or o 0) at ∙ same)

-- names made from numbers

-- names of unlike numbers are unlike
abbrev pub TellsNumbers : (ℕ → Name) → Type 0
TellsNumbers name = (a b : ℕ) → IsSmall a → IsSmall b → name a ≡ name b → a ≡ b

-- as many names as there are elements, from the n-th on
abbrev pub names_from : {A : Type 0} → (ℕ → Name) → ℕ → List A → List Name
names_from name n xs = map (λ (k, x). name k) (enumerate_from n xs)

length-names_from : {A : Type 0} (name : ℕ → Name) (n : ℕ) (xs : List A) → length (names_from name n xs) ≡ length xs
length-names_from name n xs = length-map (enumerate_from n xs) (λ (k, x). name k) ∙ length-enumerate_from n xs

get_or-names_from : {A : Type 0} (name : ℕ → Name) (n : ℕ) (xs : List A) (k : ℕ) (d : Name) → k < length xs → get_or (names_from name n xs) k d ≡ name (n + k)
get_or-names_from name n [] k d h = let no : ⊥ = omega arith in absurd no
get_or-names_from name n (x ∷ xs) zero d h = let same : n ≡ n + 0 = omega arith in ap name same
get_or-names_from name n (x ∷ xs) (suc k) d h =
    let same : (n + 1) + k ≡ n + suc k = omega arith in
    get_or-names_from name (n + 1) xs k d (omega arith) ∙ ap name same

names_from_once : {A : Type 0} (name : ℕ → Name) → TellsNumbers name → (n : ℕ) (xs : List A) → IsSmall (n + length xs) → AreOnce (names_from name n xs)
names_from_once name tells n [] small = tt
names_from_once name tells n (x ∷ xs) small = (
  λ found.
      let long : length (names_from name (n + 1) xs) ≡ length xs = length-names_from name (n + 1) xs in
      let inside : found.0 < length xs = (let h = found.1 in omega arith) in
      let e : name n ≡ name ((n + 1) + found.0) = sym found.2 ∙ get_or-names_from name (n + 1) xs found.0 (name n) inside in
      let same : n ≡ (n + 1) + found.0 = tells n ((n + 1) + found.0) (omega arith) (omega arith) e in
      let no : ⊥ = omega arith in
      no,
  names_from_once name tells (n + 1) xs (omega arith),
)

pub numbered_names : {A : Type 0} (name : ℕ → Name) → TellsNumbers name → (xs : List A) → IsSmall (length xs) → IsNaming (length xs) name (names_from name 0 xs)
numbered_names name tells xs small = record {
  counted = sym (length-names_from name 0 xs);
  each = λ k h. let same : 0 + k ≡ k = omega arith in get_or-names_from name 0 xs k [] h ∙ ap name same;
  once = names_from_once name tells 0 xs (omega arith);
}

pub tells_values : TellsNumbers decimal
tells_values a b small few e = decimal_injective a b (omega arith) (omega arith) e

behind_front : (a b : Name) → 98 ∷ 98 ∷ a ≡ 98 ∷ 98 ∷ b → a ≡ b
behind_front a b e = cc

pub tells_blocks : TellsNumbers block_name
tells_blocks a b small few e = tells_values a b small few (behind_front (decimal a) (decimal b) e)

-- the names of values that are numbered from n on
pub counted_names : (n : ℕ) (vs : List ValueId) → AreCountedFrom n vs → map (λ v. decimal v.0) vs ≡ names_from decimal n vs
counted_names n [] c = refl
counted_names n (v ∷ vs) c = ap₂ (λ a rest. a ∷ rest) (ap decimal c.0) (counted_names (n + 1) vs c.1)

-- the functions of a module

function_at : (functions : List Function) (k : ℕ) → k < length functions → get_or (map function_name functions) k [] ≡ name_in functions (record { 0 = k })
function_at [] k h = let no : ⊥ = omega arith in absurd no
function_at (f ∷ functions) zero h = refl
function_at (f ∷ functions) (suc k) h = function_at functions k (omega arith)

pub named_functions : (functions : List Function) → AreOnce (map function_name functions) → IsNaming (length functions) (λ k. name_in functions (record { 0 = k })) (map function_name functions)
named_functions functions once = record { counted = sym (length-map functions function_name); each = function_at functions; once = once }
