-- What upcasts a building borrow is a building borrow: as many steps as there are values lead to the borrow, since each value on the way was made before.
use Rattle.std.proofs.Common.{◌≡◌, ◌⊎◌, inl, inr, ℕ, zero, suc, ◌+◌, ◌-◌, ◌<◌, ◌≤◌, List, [], ◌∷◌, length, refl, sym, ap, ◌∙◌, subst, arith, Bool, true, false, ◌||◌, Some}
use Rattle.std.proofs.Common.{None, eq-eqb}
use Rattle.std.specs.Prelude.{cond}
use Rattle.std.specs.List.{list_any}
use Rattle.std.proofs.lemmas.Bool.{cases_lt, false≢true, true≢false}
use Rattle.sil_verifier_frames.specs.sil_verifier_trails.AcceptedTrails.inner.Defined.{IsDefinedOn, makes}
use Rattle.sil_verifier_frames.specs.memory_rules_accesses.Locations.{below, below_by, is_object, upcast_from}
use Rattle.sil_verifier_frames.specs.memory_rules_accesses.Sources.{source_at, sources_of}
use Rattle.sil_verifier_frames.specs.memory_rules_accesses.declared.source.Source.{Source}
use Rattle.sil_verifier_frames.specs.memory_rules_accesses.declared.source.Source.TheVariants as source
use Rattle.sil_verifier_frames.specs.memory_rules_parts.Building.{builds, is_object_of}
use Rattle.sil_verifier_frames.specs.sil_verifier_trails.RunTrails.inner.RunTrails.{IsTurnedTrail}
use Rattle.sil_verifier_frames.proofs.sil_verifier_trails.AcceptedTrails.Tests.{or_right}
use Rattle.sil_verifier_frames.proofs.sil_verifier_trails.RunTrails.TurnedTrails.{turned_older}
use Rattle.sil_verifier_frames.specs.sil_verifier_values.inner.Known.{IsAcceptedBody}
use Rattle.sil_verifier_frames.specs.ownership_kinds_chains.OwnershipChains.Facts.{value_of}
use Rattle.sil_ast.specs.declared.function.Function.{Function}
use Rattle.sil_ast.specs.declared.module.Module.{Module}
use Rattle.sil_ast.specs.declared.place.ValueId.{ValueId}
use Rattle.sil_cfg.specs.declared.item.Item.{Item}
use Rattle.sil_types_declarations.specs.TypeDefinitions.Declarations.{Declarations, declarations_of}
use Rattle.sil_verifier_frames.proofs.sil_verifier_trails.AcceptedPlaces.PartsThere.{has_row}
use Rattle.sil_verifier_runs.proofs.Built.About.{before_item, borrow_stays, builder, lends, lent, lent_more, operand_of, taken_for}

-- ---- how many of some numbers pass

abbrev one_if : Bool → ℕ
one_if true = 1
one_if false = 0

abbrev counted : (ℕ → Bool) → ℕ → ℕ → ℕ
counted p a zero = 0
counted p a (suc n) = one_if (p a) + counted p (a + 1) n

one_more : (p q : ℕ → Bool) → ((k : ℕ) → p k ≡ true → q k ≡ true) → (k : ℕ) → one_if (p k) ≤ one_if (q k)
one_more p q more k = by (p k) (q k) (more k)
  where
    by : (x y : Bool) → (x ≡ true → y ≡ true) → one_if x ≤ one_if y
    by true true h = omega arith
    by true false h = absurd (false≢true (h refl))
    by false y h = omega arith

counted_more : (p q : ℕ → Bool) → ((k : ℕ) → p k ≡ true → q k ≡ true) → (a n : ℕ) → counted p a n ≤ counted q a n
counted_more p q more a zero = omega arith
counted_more p q more a (suc n) = let here = one_more p q more a in let rest = counted_more p q more (a + 1) n in omega (arith, here, rest)

counted_up : (p q : ℕ → Bool) → ((k : ℕ) → p k ≡ true → q k ≡ true) → (v : ℕ) → p v ≡ false → q v ≡ true → (a n : ℕ) → a ≤ v → v < a + n
    → counted p a n < counted q a n
counted_up p q more v not_p is_q a zero le lt = absurd (omega arith)
counted_up p q more v not_p is_q a (suc n) le lt = by (cases_lt a v) (λ l t. counted_up p q more v not_p is_q (a + 1) n l t)
  where
    by : (a < v) ⊎ (v ≤ a) → (a + 1 ≤ v → v < (a + 1) + n → counted p (a + 1) n < counted q (a + 1) n) → counted p a (suc n) < counted q a (suc n)
    by (inl less) further = let here = one_more p q more a in let rest = further (omega arith) (omega arith) in omega (arith, here, rest)
    by (inr not_less) further =
        let same : a ≡ v = omega arith in
        let none : one_if (p a) ≡ 0 = ap (λ k. one_if (p k)) same ∙ ap (λ b. one_if b) not_p in
        let some : one_if (q a) ≡ 1 = ap (λ k. one_if (q k)) same ∙ ap (λ b. one_if b) is_q in
        let rest = counted_more p q more (a + 1) n in
        omega (arith, none, some, rest)

counted_within : (p : ℕ → Bool) (a n : ℕ) → counted p a n ≤ n
counted_within p a zero = omega arith
counted_within p a (suc n) = let rest = counted_within p (a + 1) n in by (p a) rest
  where
    by : (b : Bool) → counted p (a + 1) n ≤ n → one_if b + counted p (a + 1) n ≤ suc n
    by true rest = omega arith
    by false rest = omega arith

-- ---- a borrow is found in as many steps, or more

module _ (sources : List Source) (object : ValueId) where
  lent_more_by : (k n : ℕ) (v : ValueId) → lent sources object n v ≡ true → lent sources object (k + n) v ≡ true
  lent_more_by zero n v e = ap (λ j. lent sources object j v) (let same : 0 + n ≡ n = omega arith in same) ∙ e
  lent_more_by (suc k) n v e =
      ap (λ j. lent sources object j v) (let same : suc k + n ≡ suc (k + n) = omega arith in same)
      ∙ lent_more sources object (k + n) v (lent_more_by k n v e)

  lent_within : (n k : ℕ) → n ≤ k → (v : ValueId) → lent sources object n v ≡ true → lent sources object k v ≡ true
  lent_within n k le v e = let same : k ≡ (k - n) + n = omega arith in ap (λ j. lent sources object j v) same ∙ lent_more_by (k - n) n v e

  borrow_lent : (n : ℕ) (v : ValueId) (is_new : is_object (source_at sources object) ≡ true) → source_at sources v ≡ source.Borrow object → lent sources object n v ≡ true
  borrow_lent n v is_new is =
      ap (λ w. lends sources object (source_at sources w)) (borrow_stays sources object n v is)
      ∙ ap (lends sources object) is ∙ ap (λ b. is_object_of object (cond b (Some object) None)) is_new ∙ eq-eqb object.0 object.0 refl

  upcast_lent : (n : ℕ) (v of : ValueId) → source_at sources v ≡ source.Upcast of → lent sources object n of ≡ true → lent sources object (suc n) v ≡ true
  upcast_lent n v of is e = ap (λ s. lends sources object (source_at sources (below_by (below sources n) v s))) is ∙ e

  all_built : (v : ValueId) → builds sources object v ≡ lent sources object (length sources) v
  unfolding upcast_from
  all_built v = refl

  -- a borrow of a new object is a building borrow
  pub borrow_builds : (v : ValueId) → is_object (source_at sources object) ≡ true → source_at sources v ≡ source.Borrow object → builds sources object v ≡ true
  borrow_builds v is_new is = all_built v ∙ borrow_lent (length sources) v is_new is

module _ (m : Module) (n : ℕ) (f : Function) (a : IsAcceptedBody m n f) (object : ValueId) where
  abbrev d : Declarations
  d = declarations_of m

  abbrev sources : List Source
  sources = sources_of d f

  module _ (is_new : is_object (source_at sources object) ≡ true) where
    -- how many values are defined on the trail
    abbrev defined_on : List Item → ℕ → Bool
    defined_on t k = list_any (makes f (value_of k)) t

    abbrev steps : List Item → ℕ
    steps t = counted (defined_on t) 0 (length sources)

    still : (t : List Item) (i : Item) (k : ℕ) → defined_on t k ≡ true → defined_on (i ∷ t) k ≡ true
    still t i k e = or_right (makes f (value_of k) i) (defined_on t k) e

    abbrev BuiltIn : List Item → ValueId → Type 0
    BuiltIn t v = lent sources object (steps t) v ≡ true

    first : (x y : Bool) → y ≡ false → (x || y) ≡ true → x ≡ true
    first true y e h = refl
    first false y e h = absurd (true≢false (sym h ∙ e))

    built_on : (t : List Item) → IsTurnedTrail f t → (v : ValueId) → IsDefinedOn f t v → builds sources object v ≡ true → BuiltIn t v
    built_on [] h v made built = absurd (false≢true made)
    built_on (i ∷ t) h v made built = at (list_any (makes f v) t) refl (built_on t (turned_older f i t h))
      where
        at : (b : Bool) → list_any (makes f v) t ≡ b → ((w : ValueId) → IsDefinedOn f t w → builds sources object w ≡ true → BuiltIn t w) → BuiltIn (i ∷ t) v
        at true is before =
            lent_within sources object (steps t) (steps (i ∷ t)) (counted_more (defined_on t) (defined_on (i ∷ t)) (still t i) 0 (length sources)) v (before v is built)
        at false is before = by (builder sources object v built)
          where
            now : makes f v i ≡ true
            now = first (makes f v i) (list_any (makes f v) t) is made

            by : (source_at sources v ≡ source.Borrow object) ⊎ ((of : ValueId) × (source_at sources v ≡ source.Upcast of) × (builds sources object of ≡ true)) → BuiltIn (i ∷ t) v
            by (inl borrows) = borrow_lent sources object (steps (i ∷ t)) v is_new borrows
            by (inr (of, upcasts, more)) =
                let within : v.0 < length sources = has_row sources v (λ e. let two : source.Upcast of ≡ source.Other = sym upcasts ∙ e in cc) in
                let up : steps t < steps (i ∷ t) =
                counted_up (defined_on t) (defined_on (i ∷ t)) (still t i) v.0 is made 0 (length sources) (omega arith) (omega (arith, within)) in
                let y = taken_for m n f a i v of now (ap operand_of upcasts) in
                let earlier = before of (subst (IsDefinedOn f t) y.2 (before_item m n f a object t i h y.0 y.1)) more in
                lent_within sources object (suc (steps t)) (steps (i ∷ t)) (omega (arith, up)) v (upcast_lent sources object (steps t) v of upcasts earlier)

    -- what upcasts one is one
    pub upcast_builds : (t : List Item) → IsTurnedTrail f t → (v of : ValueId) → IsDefinedOn f t v → source_at sources v ≡ source.Upcast of
        → builds sources object of ≡ true → builds sources object v ≡ true
    upcast_builds [] h v of made upcasts built = absurd (false≢true made)
    upcast_builds (i ∷ t) h v of made upcasts built = at (list_any (makes f v) t) refl (λ is. upcast_builds t (turned_older f i t h) v of is upcasts built)
      where
        at : (b : Bool) → list_any (makes f v) t ≡ b → (IsDefinedOn f t v → builds sources object v ≡ true) → builds sources object v ≡ true
        at true is before = before is
        at false is before =
            let now : makes f v i ≡ true = first (makes f v i) (list_any (makes f v) t) is made in
            let within : v.0 < length sources = has_row sources v (λ e. let two : source.Upcast of ≡ source.Other = sym upcasts ∙ e in cc) in
            let up : steps t < steps (i ∷ t) =
            counted_up (defined_on t) (defined_on (i ∷ t)) (still t i) v.0 is made 0 (length sources) (omega arith) (omega (arith, within)) in
            let most = counted_within (defined_on (i ∷ t)) 0 (length sources) in
            let y = taken_for m n f a i v of now (ap operand_of upcasts) in
            let earlier = built_on t (turned_older f i t h) of (subst (IsDefinedOn f t) y.2 (before_item m n f a object t i h y.0 y.1)) built in
            all_built sources object v
            ∙ lent_within sources object (suc (steps t)) (length sources) (omega (arith, up, most)) v (upcast_lent sources object (steps t) v of upcasts earlier)
