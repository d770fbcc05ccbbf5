-- How the accesses of an item leave the switch of a field of a new object.
use Rattle.std.proofs.Common.{◌≡◌, ◌⊎◌, inl, inr, ℕ, List, [], ◌∷◌, refl, sym, ap, ap₂, ◌∙◌, Bool, true, false, not, ◌&&◌, ◌||◌, Option, Some}
use Rattle.std.specs.Prelude.{flat_map, option_and_then, option_to_list}
use Rattle.std.specs.List.{list_any}
use Rattle.std.proofs.lemmas.Bool.{false≢true, true≢false}
use Rattle.std.proofs.lemmas.Option.{none-some, same_Some}
use Rattle.sil_ast.specs.declared.function.Function.{Function}
use Rattle.sil_ast.specs.declared.place.ValueId.{ValueId}
use Rattle.sil_rules.specs.declared.rule.Rule.TheVariants as rule
use Rattle.sil_verifier_trails.specs.memory_rules_accesses.Locations.{location_of}
use Rattle.sil_verifier_trails.specs.memory_rules_accesses.declared.access.Access.{Access}
use Rattle.sil_verifier_trails.specs.memory_rules_accesses.declared.access.Access.TheVariants.{Allocates, Begins, Deallocates, Does, Ends, Given, Mentions}
use Rattle.sil_verifier_trails.specs.memory_rules_accesses.declared.source.Source.{Source}
use Rattle.sil_verifier_trails.specs.memory_rules_parts.Building.{builds, fills, goes_by_borrow, is_forbidden, takes_borrow, takes_object}
use Rattle.sil_verifier_trails.specs.memory_rules_parts.Shown.{marks_of_access}
use Rattle.sil_verifier_trails.specs.memory_rules_parts.Switches.{is_same, when}
use Rattle.sil_verifier_trails.specs.memory_rules_parts.declared.part.Part.TheVariants.{Building}
use Rattle.ownership_kinds_chains.specs.OwnershipChains.Facts.{known_or}
use Rattle.ownership_kinds_chains.specs.declared.ownership_chains.facts.Facts.{Facts}
use Rattle.reach_engine_marks.specs.PathPatterns.Marks.{needs_off, turns_off, turns_on}
use Rattle.reach_engine_marks.specs.declared.path_patterns.mark.Mark.{Mark}
use Rattle.sil_verifier_trails.specs.RunTrails.inner.Switched.{switched_over}
use Rattle.sil_verifier_trails.proofs.AcceptedMemory.Switching.{and_then_some, over_append}
use Rattle.copy_pairing_acceptance.proofs.LentMemory.Items.{allocates}
use Rattle.copy_pairing_acceptance.proofs.LentMemory.Means.{AlikeAccess, AreAlike, AreLentFacts, WeakerMark, building_weaker, copied, destroyed, gone, kept, lends, mentions, same}
use Rattle.copy_pairing_acceptance.proofs.LentMemory.Sources.{AreLentSources}

-- the access takes the object where it may be no unfinished one
abbrev pub refuses : ValueId → Access → Bool
refuses o (Ends v) = false
refuses o (Begins v) = false
refuses o (Allocates v) = false
refuses o (Deallocates v) = false
refuses o (Given v content) = false
refuses o (Does x) = false
refuses o (Mentions v a) = is_same v o && not (takes_object a)

neither : (a b : Bool) → (a || b) ≡ false → (a ≡ false) × (b ≡ false)
neither true b e = absurd (true≢false e)
neither false b e = (refl, e)

-- a mark that asks the switch to be off finds it so
asks_off : (b on d : Bool) → b ≡ true → switched_over (option_to_list (when b (needs_off rule.FieldNotBuilt))) on ≡ Some d → d ≡ false
asks_off true true d is e = absurd (none-some d e)
asks_off true false d is e = sym (same_Some false d e)
asks_off false on d is e = absurd (false≢true is)

module _ (sources : List Source) (facts : ValueId → Option Facts) (f : Function) (o : ValueId) (field : ℕ) where
  abbrev each : Access → List Mark
  each a = marks_of_access sources facts f (Building o field) a

  filled : (b : Bool) → switched_over (option_to_list (when b (turns_off rule.FieldNotBuilt))) false ≡ Some false
  filled true = refl
  filled false = refl

  asked : (b : Bool) → switched_over (option_to_list (when b (needs_off rule.FieldNotBuilt))) false ≡ Some false
  asked true = refl
  asked false = refl

  quiet_one : (a : Access) → allocates o a ≡ false → switched_over (each a) false ≡ Some false
  quiet_one (Ends w) e = refl
  quiet_one (Begins w) e = refl
  quiet_one (Allocates w) e = ap (λ b. switched_over (option_to_list (when b (turns_on rule.FieldNotBuilt))) false) e
  quiet_one (Deallocates w) e = refl
  quiet_one (Given w content) e = refl
  quiet_one (Does x) e = filled (fills sources (record { subject = o; field = Some field }) x.operation (location_of sources x.address))
  quiet_one (Mentions w a) e = asked (is_forbidden sources (known_or facts) o w a)

  -- off it stays where the object isn't allocated
  pub quiet : (xs : List Access) → list_any (allocates o) xs ≡ false → switched_over (flat_map each xs) false ≡ Some false
  quiet [] e = refl
  quiet (x ∷ xs) e =
      let none = neither (allocates o x) (list_any (allocates o) xs) e in
      over_append (each x) (flat_map each xs) false
      ∙ ap (option_and_then (switched_over (flat_map each xs))) (quiet_one x none.0)
      ∙ quiet xs none.1

  refused_off : (a : Access) → refuses o a ≡ true → (on d : Bool) → switched_over (each a) on ≡ Some d → d ≡ false
  refused_off (Ends w) e on d s = absurd (false≢true e)
  refused_off (Begins w) e on d s = absurd (false≢true e)
  refused_off (Allocates w) e on d s = absurd (false≢true e)
  refused_off (Deallocates w) e on d s = absurd (false≢true e)
  refused_off (Given w content) e on d s = absurd (false≢true e)
  refused_off (Does x) e on d s = absurd (false≢true e)
  refused_off (Mentions w a) e on d s =
      let by : Bool = goes_by_borrow sources (known_or facts w) o && not (builds sources o w && takes_borrow a) in
      asks_off (is_forbidden sources (known_or facts) o w a) on d (ap (λ b. b || by) e) s

  -- where an access refuses the object it is off behind all
  pub off_behind : (xs : List Access) → list_any (allocates o) xs ≡ false → list_any (refuses o) xs ≡ true → (on d : Bool)
      → switched_over (flat_map each xs) on ≡ Some d → d ≡ false
  off_behind [] e h on d s = absurd (false≢true h)
  off_behind (x ∷ xs) e h on d s =
      let none = neither (allocates o x) (list_any (allocates o) xs) e in
      let first = and_then_some (switched_over (flat_map each xs)) (switched_over (each x) on) d (sym (over_append (each x) (flat_map each xs) on) ∙ s) in
      at (refuses o x) refl h none first (off_behind xs none.1)
    where
      at : (b : Bool) → refuses o x ≡ b → (b || list_any (refuses o) xs) ≡ true → (allocates o x ≡ false) × (list_any (allocates o) xs ≡ false)
          → (y : Bool) × (switched_over (each x) on ≡ Some y) × (switched_over (flat_map each xs) y ≡ Some d)
          → (list_any (refuses o) xs ≡ true → (on d : Bool) → switched_over (flat_map each xs) on ≡ Some d → d ≡ false) → d ≡ false
      at true is h none first more =
          let off : first.0 ≡ false = refused_off x is on first.0 first.1 in
          sym (same_Some false d (sym (quiet xs none.1) ∙ ap (switched_over (flat_map each xs)) (sym off) ∙ first.2))
      at false is h none first more = more h first.0 d first.2

over_weaker : (o q : Option Mark) → WeakerMark o q → (on b : Bool) → switched_over (option_to_list o) on ≡ Some b → switched_over (option_to_list q) on ≡ Some b
over_weaker _ _ (kept o) on b e = e
over_weaker _ _ gone true b e = absurd (none-some b e)
over_weaker _ _ gone false b e = e

pub allocates_alike : (o c v : ValueId) (xs ys : List Access) → AreAlike c v xs ys → list_any (allocates o) ys ≡ list_any (allocates o) xs
allocates_alike o c v [] [] h = refl
allocates_alike o c v [] (y ∷ ys) h = absurd h
allocates_alike o c v (x ∷ xs) [] h = absurd h
allocates_alike o c v (x ∷ xs) (y ∷ ys) h = ap₂ (λ a b. a || b) (one x y h.0) (allocates_alike o c v xs ys h.1)
  where
    one : (x y : Access) → AlikeAccess c v x y → allocates o y ≡ allocates o x
    one _ _ (same a) = refl
    one _ _ copied = refl
    one _ _ destroyed = refl

module _ (S T : List Source) (facts lent_facts : ValueId → Option Facts) (f g : Function) (c v : ValueId) (h : AreLentSources S T c v)
    (k : AreLentFacts (known_or facts) (known_or lent_facts) c) (o : ValueId) (field : ℕ) where
  -- accesses that ask no more leave the switch as it was left
  pub over_alike : (xs ys : List Access) → AreAlike c v xs ys → (list_any (mentions c) xs ≡ false) ⊎ (lends S v o ≡ false) → (on b : Bool)
      → switched_over (flat_map (each S facts f o field) xs) on ≡ Some b → switched_over (flat_map (each T lent_facts g o field) ys) on ≡ Some b
  over_alike [] [] alike e on b s = s
  over_alike [] (y ∷ ys) alike e on b s = absurd alike
  over_alike (x ∷ xs) [] alike e on b s = absurd alike
  over_alike (x ∷ xs) (y ∷ ys) alike e on b s =
      let before = each S facts f o field in
      let after = each T lent_facts g o field in
      let first = and_then_some (switched_over (flat_map before xs)) (switched_over (before x) on) b (sym (over_append (before x) (flat_map before xs) on) ∙ s) in
      let weaker = building_weaker S T (known_or facts) (known_or lent_facts) c v h k o field x y alike.0 (here e) in
      let one : switched_over (after y) on ≡ Some first.0 = over_weaker _ _ weaker on first.0 first.1 in
      over_append (after y) (flat_map after ys) on ∙ ap (option_and_then (switched_over (flat_map after ys))) one ∙ over_alike xs ys alike.1 (later e) first.0 b first.2
    where
      here : (list_any (mentions c) (x ∷ xs) ≡ false) ⊎ (lends S v o ≡ false) → (mentions c x ≡ false) ⊎ (lends S v o ≡ false)
      here (inl e) = inl (neither (mentions c x) (list_any (mentions c) xs) e).0
      here (inr none) = inr none

      later : (list_any (mentions c) (x ∷ xs) ≡ false) ⊎ (lends S v o ≡ false) → (list_any (mentions c) xs ≡ false) ⊎ (lends S v o ≡ false)
      later (inl e) = inl (neither (mentions c x) (list_any (mentions c) xs) e).1
      later (inr none) = inr none
