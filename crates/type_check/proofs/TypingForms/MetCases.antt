-- What is marked as met is what was met: the marks of cases that `cases_met` makes.
use Rattle.std.proofs.Common.{◌≡◌, ℕ, zero, suc, ◌+◌, ◌-◌, ◌<◌, List, [], ◌∷◌, length, get_or, drop, set, replicate, refl, sym, ap, ◌∙◌, arith}
use Rattle.std.proofs.Common.{Bool, true, false, not, inl, inr, get_or-set_same, get_or-set_other}
use Rattle.std.specs.Prelude.{◌&&◌, ◌||◌, ◌==◌, ◌⊎◌, slice_index_or}
use Rattle.std.specs.List.{list_all, range_with_len, cons_option}
use Rattle.std.proofs.lemmas.Bool.Decides.{eqb_tells}
use Rattle.std.proofs.lemmas.List.{drop_more}
use Rattle.sil_ast.specs.declared.inst.Edge.{Edge}
use Rattle.sil_ast.specs.declared.type_name.TypeName.{TypeName}
use Rattle.sil_types.specs.sil_types_declarations.TypeDefinitions.Declarations.{Declarations}
use Rattle.sil_types.specs.Typing.SwitchRules.{are_once, has_number, place_in_enum, places_of}

-- the place isn't met
abbrev pub is_free : List Bool → ℕ → Bool
is_free met k = not (slice_index_or met k false)

none_met : (n k : ℕ) → slice_index_or (replicate n false) k false ≡ false
none_met zero k = refl
none_met (suc n) zero = refl
none_met (suc n) (suc k) = none_met n k

all_free : (n : ℕ) (ns : List ℕ) → list_all (is_free (replicate n false)) ns ≡ true
all_free n [] = refl
all_free n (k ∷ ns) = ap (λ b. not b && list_all (is_free (replicate n false)) ns) (none_met n k) ∙ all_free n ns

always : (a : Bool) → (a && true) ≡ a
always true = refl
always false = refl

-- where nothing is met, all are free
pub once_at_first : (n : ℕ) (ns : List ℕ) → are_once ns ≡ (are_once ns && list_all (is_free (replicate n false)) ns)
once_at_first n ns = sym (ap (λ b. are_once ns && b) (all_free n ns) ∙ always (are_once ns))

pub met_at_first : (n k : ℕ) (ns : List ℕ) → has_number ns k ≡ (slice_index_or (replicate n false) k false || has_number ns k)
met_at_first n k ns = sym (ap (λ b. b || has_number ns k) (none_met n k))

swapped : (a b c : Bool) → (a && (b && c)) ≡ (b && (a && c))
swapped true true c = refl
swapped true false c = refl
swapped false true c = refl
swapped false false c = refl

free-set-step : (met : List Bool) (p k : ℕ) (ns : List ℕ) → p < length met → list_all (is_free (set met p true)) ns ≡ (not (has_number ns p) && list_all (is_free met) ns) →
    list_all (is_free (set met p true)) (k ∷ ns) ≡ (not (has_number (k ∷ ns) p) && list_all (is_free met) (k ∷ ns))
free-set-step met p k ns lt behind = at (eqb_tells k p)
  where
    at : (((k == p) ≡ true) × (k ≡ p)) ⊎ (((k == p) ≡ false) × (k ≡ p → ⊥)) → list_all (is_free (set met p true)) (k ∷ ns) ≡ (not (has_number (k ∷ ns) p) && list_all (is_free met) (k ∷ ns))
    at (inl (test, e)) =
        let hit : slice_index_or (set met p true) k false ≡ true = ap (λ j. slice_index_or (set met p true) j false) e ∙ get_or-set_same met p true false lt in
        ap (λ b. not b && list_all (is_free (set met p true)) ns) hit
        ∙ sym (ap (λ b. not (b || has_number ns p) && list_all (is_free met) (k ∷ ns)) test)
    at (inr (test, ne)) =
        let miss : slice_index_or (set met p true) k false ≡ slice_index_or met k false = get_or-set_other met p k true false ne in
        ap (λ b. not b && list_all (is_free (set met p true)) ns) miss
        ∙ ap (λ b. is_free met k && b) behind
        ∙ swapped (is_free met k) (not (has_number ns p)) (list_all (is_free met) ns)
        ∙ sym (ap (λ b. not (b || has_number ns p) && list_all (is_free met) (k ∷ ns)) test)

-- once a place is met, those are free that were and aren't this one
free-set : (met : List Bool) (p : ℕ) (ns : List ℕ) → p < length met → list_all (is_free (set met p true)) ns ≡ (not (has_number ns p) && list_all (is_free met) ns)
free-set met p [] lt = refl
free-set met p (k ∷ ns) lt = free-set-step met p k ns lt (free-set met p ns lt)

moved : (a b c : Bool) → ((a && b) && c) ≡ (b && (a && c))
moved true b c = refl
moved false true c = refl
moved false false c = refl

-- a case that was free is met: no place stands twice just where none does behind it, and it isn't there
pub once_more : (met : List Bool) (p : ℕ) (here ns : List ℕ) → here ≡ p ∷ ns → p < length met → slice_index_or met p false ≡ false →
    (are_once here && list_all (is_free met) here) ≡ (are_once ns && list_all (is_free (set met p true)) ns)
once_more met p here ns e lt free =
    ap (λ here. are_once here && list_all (is_free met) here) e
    ∙ ap (λ b. (not (has_number ns p) && are_once ns) && (not b && list_all (is_free met) ns)) free
    ∙ moved (not (has_number ns p)) (are_once ns) (list_all (is_free met) ns)
    ∙ ap (λ b. are_once ns && b) (sym (free-set met p ns lt))

either : (a b : Bool) → (a || (true || b)) ≡ true
either true b = refl
either false b = refl

-- what was met, or is met here and behind
pub met_more : (met : List Bool) (p k : ℕ) (here ns : List ℕ) → here ≡ p ∷ ns → p < length met →
    (slice_index_or met k false || has_number here k) ≡ (slice_index_or (set met p true) k false || has_number ns k)
met_more met p k here ns e lt = ap (λ here. slice_index_or met k false || has_number here k) e ∙ at (eqb_tells p k)
  where
    at : (((p == k) ≡ true) × (p ≡ k)) ⊎ (((p == k) ≡ false) × (p ≡ k → ⊥)) → (slice_index_or met k false || has_number (p ∷ ns) k) ≡ (slice_index_or (set met p true) k false || has_number ns k)
    at (inl (test, same)) =
        let hit : slice_index_or (set met p true) k false ≡ true = ap (λ j. slice_index_or (set met p true) j false) (sym same) ∙ get_or-set_same met p true false lt in
        ap (λ b. slice_index_or met k false || (b || has_number ns k)) test
        ∙ either (slice_index_or met k false) (has_number ns k)
        ∙ sym (ap (λ b. b || has_number ns k) hit)
    at (inr (test, ne)) =
        let miss : slice_index_or (set met p true) k false ≡ slice_index_or met k false = get_or-set_other met p k true false (λ back. ne (sym back)) in
        ap (λ b. slice_index_or met k false || (b || has_number ns k)) test
        ∙ sym (ap (λ b. b || has_number ns k) miss)

-- the places of the edges from an index on are that of the edge there, if it has one, and those behind it
pub places_from : (d : Declarations) (t : TypeName) (es : List Edge) (i : ℕ) (e : Edge) → i < length es → e ≡ get_or es i e →
    places_of d t (drop i es) ≡ cons_option (place_in_enum d t e) (places_of d t (drop (i + 1) es))
places_from d t es i e lt is =
    ap (places_of d t) (drop_more es i e lt)
    ∙ ap (λ x. cons_option (place_in_enum d t x) (places_of d t (drop (i + 1) es))) (sym is)

-- places from one on below a number, the first of which passes the test
pub all_more : (test : ℕ → Bool) (a n : ℕ) → a < n → test a ≡ true → list_all test (range_with_len a (n - a)) ≡ list_all test (range_with_len (a + 1) (n - (a + 1)))
all_more test a n lt e =
    let one : n - a ≡ suc (n - (a + 1)) = omega arith in
    ap (λ m. list_all test (range_with_len a m)) one ∙ ap (λ b. b && list_all test (range_with_len (a + 1) (n - (a + 1)))) e

-- tests that agree below a number pass the same places below it
pub same_below : (p q : ℕ → Bool) (a n : ℕ) → ((k : ℕ) → k < a + n → p k ≡ q k) → list_all p (range_with_len a n) ≡ list_all q (range_with_len a n)
same_below p q a zero h = refl
same_below p q a (suc n) h =
    ap (λ b. b && list_all p (range_with_len (a + 1) n)) (h a (omega arith))
    ∙ ap (λ b. q a && b) (same_below p q (a + 1) n (λ k lt. h k (omega arith)))

-- each case has an edge where no default stands for it
pub without_default : (once default all : Bool) → once ≡ true → default ≡ false → (once && (default || all)) ≡ all
without_default once default all e f = ap (λ b. b && (default || all)) e ∙ ap (λ b. b || all) f
