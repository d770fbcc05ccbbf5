-- The names in the generated module are spelled, and none is given twice.
use Rattle.std.proofs.Common.{◌≡◌, ◌⊎◌, inl, inr, ℕ, zero, suc, ◌+◌, ◌<◌, ◌≤◌, List, [], ◌∷◌, ◌++◌, length, Bool, true, false, not, ◌&&◌, IsTrue, ◌==◌, get_or, drop, map}
use Rattle.std.proofs.Common.{codes, decimal, refl, ap, arith, le-leb, subst}
use Rattle.std.specs.List.{Contains, list_all, range_with_len}
use Rattle.std.proofs.lemmas.Bool.{and_parts}
use Rattle.std.proofs.lemmas.Bool.Decides.{nat_tests}
use Rattle.std.proofs.lemmas.Fmt.{decimal_injective, decimal_is_IsNumeral, length-decimal-le}
use Rattle.std.proofs.lemmas.Str.Parse.{digit_from_value}
use Rattle.std.specs.Int.{IsInRange}
use Rattle.std.specs.Str.Parse.{AllDigits}
use Rattle.numbered_form.specs.Names.{AreOnce, IsFunctionSpelled, Name, function_name, is_at_name}
use Rattle.sil_ast.specs.TextBytes.Bytes.{is_name_byte}
use Rattle.sil_ast.specs.declared.function.Function.{Function}
use Rattle.sil_command_generator.specs.GeneratedModules.{functions_of, main}
use Rattle.sil_command_generator.specs.WorkFunctions.{work}

-- ---- names that a number tells apart

-- the first byte and the length, which are different for the names that are declared
abbrev mark : Name → ℕ
mark name = get_or name 0 0 + length name

contained : {X : Type 0} (y x : X) (xs : List X) → Contains (y ∷ xs) x → (y ≡ x) ⊎ Contains xs x
contained y x xs (zero, within, is) = inl is
contained y x xs (suc k, within, is) = inr (k, omega (arith, within), is)

none_of_none : (x : Name) → Contains [] x → ⊥
none_of_none x (k, within, is) = omega (arith, within)

abbrev marked_else : Name → Name → Bool
marked_else x y = not (mark y == mark x)

same_mark : (n : ℕ) → IsTrue (not (n == n)) → ⊥
same_mark n h = grind (arith, nat_tests)

absent : (x : Name) (xs : List Name) → IsTrue (list_all (marked_else x) xs) → Contains xs x → ⊥
absent x [] h c = none_of_none x c
absent x (y ∷ ys) h c =
    let both = and_parts (marked_else x y) (list_all (marked_else x) ys) h in
    elim (contained y x ys c) [
      | inl is ↦ same_mark (mark x) (subst (λ z. IsTrue (marked_else x z)) is both.0)
      | inr rest ↦ absent x ys both.1 rest
    ]

abbrev pub marked_apart : List Name → Bool
marked_apart [] = true
marked_apart (x ∷ xs) = list_all (marked_else x) xs && marked_apart xs

pub once_by_marks : (xs : List Name) → IsTrue (marked_apart xs) → AreOnce xs
once_by_marks [] h = tt
once_by_marks (x ∷ xs) h = let both = and_parts (list_all (marked_else x) xs) (marked_apart xs) h in (absent x xs both.0, once_by_marks xs both.1)

-- ---- the names of functions

abbrev work_name : ℕ → Name
work_name k = codes "work" ++ decimal k

names_differ : (a b : ℕ) → a < 500 → b < 500 → work_name a ≡ work_name b → a ≡ b
names_differ a b low high e = decimal_injective a b (omega arith) (omega arith) (ap (drop 4) e)

main_differs : (k : ℕ) → codes "main" ≡ work_name k → ⊥
main_differs k e = let same : 109 ≡ 119 = ap (λ name. get_or name 0 0) e in omega (arith, same)

abbrev names_from : ℕ → ℕ → List Function → List Name
names_from a n rest = map function_name (map work (range_with_len a n) ++ rest)

module _ (m : ℕ) where
  not_behind : (k a n : ℕ) → k < a → a + n ≤ 500 → Contains (names_from a n (main m ∷ [])) (work_name k) → ⊥
  not_behind k a zero before within c =
      elim (contained (codes "main") (work_name k) [] c) [
        | inl is ↦ main_differs k is
        | inr rest ↦ none_of_none (work_name k) rest
      ]
  not_behind k a (suc n) before within c =
      elim (contained (work_name a) (work_name k) (names_from (a + 1) n (main m ∷ [])) c) [
        | inl is ↦ absurd (omega (arith, names_differ a k (omega (arith, within)) (omega (arith, before, within)) is, before))
        | inr rest ↦ not_behind k (a + 1) n (omega (arith, before)) (omega (arith, within)) rest
      ]

  once_from : (a n : ℕ) → a + n ≤ 500 → AreOnce (names_from a n (main m ∷ []))
  once_from a zero within = (none_of_none (codes "main"), tt)
  once_from a (suc n) within = (not_behind a (a + 1) n (omega arith) (omega (arith, within)), once_from (a + 1) n (omega (arith, within)))

pub functions_once : (n : ℕ) → n ≤ 500 → AreOnce (map function_name (functions_of n))
functions_once n within = once_from n 0 n (omega (arith, within))

-- ---- and their spelling

is_byte : (d : ℕ) → IsInRange 48 57 d → is_name_byte d ≡ true
is_byte d h = grind (arith, nat_tests)

both_true : (a b : Bool) → a ≡ true → b ≡ true → (a && b) ≡ true
both_true true b e f = f
both_true false b e f = e

name_bytes : (ds : List ℕ) → AllDigits 10 ds → IsTrue (list_all is_name_byte ds)
name_bytes [] h = refl
name_bytes (d ∷ ds) h = both_true (is_name_byte d) (list_all is_name_byte ds) (is_byte d (digit_from_value d h.0)) (name_bytes ds h.1)

name_is_spelled : (k : ℕ) → k < 500 → IsTrue (is_at_name (work_name k))
name_is_spelled k low =
    let few : length (decimal k) ≤ 3 = length-decimal-le 3 k (omega arith) (omega (arith, low)) (omega (arith, low)) in
    both_true (list_all is_name_byte (decimal k)) _ (name_bytes (decimal k) (decimal_is_IsNumeral k (omega (arith, low))).0.1)
    (le-leb (length (work_name k)) 255 (omega (arith, few)))

pub work_spelled : (k : ℕ) → k < 500 → IsFunctionSpelled (work k)
work_spelled k low = record { name = name_is_spelled k low; attributes = tt }

pub main_spelled : (n : ℕ) → IsFunctionSpelled (main n)
main_spelled n = record { name = refl; attributes = tt }
