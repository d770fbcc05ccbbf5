-- What an access means to each part of memory, in a function and in the one where the copy c of v is lent.
use Rattle.std.proofs.Common.{◌≡◌, ◌⊎◌, inl, inr, ℕ, List, [], ◌∷◌, refl, sym, ap, ap₂, ◌∙◌, subst, Bool, true, false, cond, not, ◌&&◌, ◌||◌, Option, Some, None}
use Rattle.std.specs.Prelude.{◌==◌}
use Rattle.std.specs.List.{list_any}
use Rattle.std.proofs.lemmas.Bool.{cases_eq, eqb-false, false≢true}
use Rattle.sil_ast.specs.declared.place.ValueId.{ValueId}
use Rattle.sil_rules.specs.declared.rule.Rule.TheVariants as rule
use Rattle.sil_verifier_trails.specs.memory_rules_accesses.Locations.{is_object, location_of}
use Rattle.sil_verifier_trails.specs.memory_rules_accesses.Rows.{is_part}
use Rattle.sil_verifier_trails.specs.memory_rules_accesses.Sources.{source_at}
use Rattle.sil_verifier_trails.specs.memory_rules_accesses.declared.access.Access.{Access}
use Rattle.sil_verifier_trails.specs.memory_rules_accesses.declared.access.Access.TheVariants.{Allocates, Begins, Deallocates, Does, Ends, Given, Mentions}
use Rattle.sil_verifier_trails.specs.memory_rules_accesses.declared.access.Operation.{Operation}
use Rattle.sil_verifier_trails.specs.memory_rules_accesses.declared.columns.Allowance.{Allowance}
use Rattle.sil_verifier_trails.specs.memory_rules_accesses.declared.columns.Allowance.TheVariants.{BuildingBorrow, FreshObject, NeitherOfThem}
use Rattle.sil_verifier_trails.specs.memory_rules_accesses.declared.location.Cell.{Cell}
use Rattle.sil_verifier_trails.specs.memory_rules_accesses.declared.location.Location.{Location}
use Rattle.sil_verifier_trails.specs.memory_rules_accesses.declared.source.Source.{Source}
use Rattle.sil_verifier_trails.specs.memory_rules_parts.Building.{builds, building_mark, fills, goes_by_borrow, is_forbidden, is_object_of, takes_borrow, takes_object}
use Rattle.sil_verifier_trails.specs.memory_rules_parts.Contents.{at_location, contents_mark, deallocation_mark, operation_mark, same_cell}
use Rattle.sil_verifier_trails.specs.memory_rules_parts.Loans.{disturbed_mark, disturbs, loan_mark, writes_at}
use Rattle.sil_verifier_trails.specs.memory_rules_parts.Parts.{means}
use Rattle.sil_verifier_trails.specs.memory_rules_parts.Switches.{is_same, is_turned_on, when}
use Rattle.sil_verifier_trails.specs.memory_rules_parts.declared.part.Part.{Part}
use Rattle.sil_verifier_trails.specs.memory_rules_parts.declared.part.Part.TheVariants.{Allocation, Building, Contents, InScope, InSlot, Lent}
use Rattle.ownership_kinds_chains.specs.OwnershipChains.Facts.{has, is_guaranteed}
use Rattle.ownership_kinds_chains.specs.declared.ownership_chains.facts.Facts.{Facts}
use Rattle.reach_engine_marks.specs.PathPatterns.Marks.{needs_off, turns_off}
use Rattle.reach_engine_marks.specs.declared.path_patterns.mark.Mark.{Mark}
use Rattle.copy_pairing_acceptance.proofs.LentMemory.Sources.{AreLentSources, built_alike, cell_alike, copy_built, has_alike, location_alike, overlap_alike, same_value, slot_alike, trivial_alike}

-- an access of an item, and what it becomes where the copy is lent: the copy takes v as a borrow does, and a destroy takes c as the end of one
pub data AlikeAccess (c v : ValueId) : Access → Access → Type 0 where
  same : (a : Access) → AlikeAccess c v a a
  copied : AlikeAccess c v (Mentions v NeitherOfThem) (Mentions v FreshObject)
  destroyed : AlikeAccess c v (Mentions c NeitherOfThem) (Mentions c BuildingBorrow)

-- the accesses of an item, and what they become where the copy is lent
abbrev pub AreAlike : ValueId → ValueId → List Access → List Access → Type 0
AreAlike c v [] [] = Unit {0}
AreAlike c v [] (y ∷ ys) = ⊥
AreAlike c v (x ∷ xs) [] = ⊥
AreAlike c v (x ∷ xs) (y ∷ ys) = AlikeAccess c v x y × AreAlike c v xs ys

-- F are the facts of the function's values, G those where c is lent: the same, but for the kind of c, which alone has c as a base
pub record AreLentFacts (F G : ValueId → Facts) (c : ValueId) : Type 0 where
  pub others : (w : ValueId) → (w.0 ≡ c.0 → ⊥) → G w ≡ F w
  pub own : (F c).bases ≡ c ∷ []
  pub bases : (G c).bases ≡ c ∷ []
  pub alone : (w : ValueId) → has (F w).bases c.0 ≡ true → w.0 ≡ c.0
  pub owned : is_guaranteed (F c).kind ≡ false

abbrev pub is_building : Part → Bool
is_building (Contents cell trivial left) = false
is_building (Allocation slot) = false
is_building (Lent scope address) = false
is_building (Building object field) = true
is_building (InScope address scope) = false
is_building (InSlot address slot) = false

-- the access takes the value as an operand
abbrev pub mentions : ValueId → Access → Bool
mentions c (Ends v) = false
mentions c (Begins v) = false
mentions c (Allocates v) = false
mentions c (Deallocates v) = false
mentions c (Given v content) = false
mentions c (Does x) = false
mentions c (Mentions v a) = is_same v c

-- a mark stays, or one goes that asks a part to be off
pub data WeakerMark : Option Mark → Option Mark → Type 0 where
  kept : (o : Option Mark) → WeakerMark o o
  gone : WeakerMark (Some (needs_off rule.FieldNotBuilt)) None

kept_by : (o q : Option Mark) → q ≡ o → WeakerMark o q
kept_by o q e = subst (λ x. WeakerMark o x) (sym e) (kept o)

-- the base list of another value lacks c
pub lacks : (F G : ValueId → Facts) (c : ValueId) → AreLentFacts F G c → (w : ValueId) → (w.0 ≡ c.0 → ⊥) → has (F w).bases c.0 ≡ false
lacks F G c h w other = at (has (F w).bases c.0) refl
  where
    at : (b : Bool) → has (F w).bases c.0 ≡ b → b ≡ false
    at true e = absurd (other (h.alone w e))
    at false e = refl

-- an object is asked of as it is refused: by itself, or by a borrow of it
allowed : (s g b q : Bool) → WeakerMark (when ((s && true) || (g && not (b && false))) (needs_off rule.FieldNotBuilt))
    (when ((s && false) || (g && not (q && false))) (needs_off rule.FieldNotBuilt))
allowed true true true true = kept _
allowed true true true false = kept _
allowed true true false true = kept _
allowed true true false false = kept _
allowed true false b q = gone
allowed false true true true = kept _
allowed false true true false = kept _
allowed false true false true = kept _
allowed false true false false = kept _
allowed false false b q = kept _

-- v is the new object, which the copy as a borrow lends
abbrev pub lends : List Source → ValueId → ValueId → Bool
lends S v o = is_object_of o (cond (is_object (source_at S v)) (Some v) None)

module _ (S T : List Source) (F G : ValueId → Facts) (c v : ValueId) (h : AreLentSources S T c v) (k : AreLentFacts F G c) where
  -- ---- all parts but those of new objects

  pub at_location_alike : (cell : Cell) (o : Operation) (l : Option Location) → at_location T cell o l ≡ at_location S cell o l
  at_location_alike cell o None = refl
  at_location_alike cell o (Some l) =
      λ i. when (same_cell (cell_alike S T c v h l.root i) cell) (operation_mark (trivial_alike S T c v h l.root i) (has_alike S T c v h l o i && is_part l) o)

  contents_alike : (cell : Cell) (trivial : Bool) (a : Access) → contents_mark T cell trivial a ≡ contents_mark S cell trivial a
  contents_alike cell trivial (Ends w) = refl
  contents_alike cell trivial (Begins w) = refl
  contents_alike cell trivial (Allocates w) = refl
  contents_alike cell trivial (Deallocates w) = ap (λ b. when (b && is_same w cell.subject) (deallocation_mark trivial)) (slot_alike S T c v h w)
  contents_alike cell trivial (Given w content) = refl
  contents_alike cell trivial (Does x) = ap (at_location T cell x.operation) (location_alike S T c v h x.address) ∙ at_location_alike cell x.operation (location_of S x.address)
  contents_alike cell trivial (Mentions w a) = refl

  pub disturbs_alike : (address : ValueId) (a : Access) → disturbs T address a ≡ disturbs S address a
  disturbs_alike address (Ends w) = refl
  disturbs_alike address (Begins w) = refl
  disturbs_alike address (Allocates w) = refl
  disturbs_alike address (Deallocates w) = overlap_alike S T c v h w address
  disturbs_alike address (Given w content) = refl
  disturbs_alike address (Does x) =
      ap₂ (λ l b. writes_at l x.operation && b) (location_alike S T c v h x.address) (overlap_alike S T c v h x.address address)
  disturbs_alike address (Mentions w a) = refl

  loan_alike : (scope address : ValueId) (a : Access) → loan_mark T scope address a ≡ loan_mark S scope address a
  loan_alike scope address (Ends w) = refl
  loan_alike scope address (Begins w) = refl
  loan_alike scope address (Allocates w) = refl
  loan_alike scope address (Deallocates w) = ap disturbed_mark (disturbs_alike address (Deallocates w))
  loan_alike scope address (Given w content) = refl
  loan_alike scope address (Does x) = ap disturbed_mark (disturbs_alike address (Does x))
  loan_alike scope address (Mentions w a) = refl

  -- an access means the same
  pub means_alike : (p : Part) → is_building p ≡ false → (a b : Access) → AlikeAccess c v a b → means T G p b ≡ means S F p a
  means_alike (Contents cell trivial left) none _ _ (same a) = contents_alike cell trivial a
  means_alike (Contents cell trivial left) none _ _ copied = refl
  means_alike (Contents cell trivial left) none _ _ destroyed = refl
  means_alike (Allocation slot) none _ _ (same a) = refl
  means_alike (Allocation slot) none _ _ copied = refl
  means_alike (Allocation slot) none _ _ destroyed = refl
  means_alike (Lent scope address) none _ _ (same a) = loan_alike scope address a
  means_alike (Lent scope address) none _ _ copied = refl
  means_alike (Lent scope address) none _ _ destroyed = refl
  means_alike (Building object field) none a b x = absurd (false≢true (sym none))
  means_alike (InScope address scope) none _ _ (same a) = refl
  means_alike (InScope address scope) none _ _ copied = refl
  means_alike (InScope address scope) none _ _ destroyed = refl
  means_alike (InSlot address slot) none _ _ (same a) = refl
  means_alike (InSlot address slot) none _ _ copied = refl
  means_alike (InSlot address slot) none _ _ destroyed = refl

  -- ---- a field of a new object

  module _ (o : ValueId) (field : ℕ) where
    any_alike : (bs : List ValueId) → has bs c.0 ≡ false → list_any (builds T o) bs ≡ list_any (builds S o) bs
    any_alike [] e = refl
    any_alike (b ∷ bs) e = at (b.0 == c.0) refl e (any_alike bs)
      where
        at : (x : Bool) → (b.0 == c.0) ≡ x → (x || has bs c.0) ≡ false → (has bs c.0 ≡ false → list_any (builds T o) bs ≡ list_any (builds S o) bs)
            → (builds T o b || list_any (builds T o) bs) ≡ (builds S o b || list_any (builds S o) bs)
        at true is e more = absurd (false≢true (sym e))
        at false is e more = ap₂ (λ x y. x || y) (ap (is_object_of o) (built_alike S T c v h b (eqb-false b.0 c.0 is))) (more e)

    goes_alike : (w : ValueId) → (w.0 ≡ c.0 → ⊥) → goes_by_borrow T (G w) o ≡ goes_by_borrow S (F w) o
    goes_alike w other = ap (λ f. goes_by_borrow T f o) (k.others w other) ∙ ap (λ b. is_guaranteed (F w).kind && b) (any_alike (F w).bases (lacks F G c k w other))

    builds_alike : (w : ValueId) → (w.0 ≡ c.0 → ⊥) → builds T o w ≡ builds S o w
    builds_alike w other = ap (is_object_of o) (built_alike S T c v h w other)

    forbidden_alike : (w : ValueId) → (w.0 ≡ c.0 → ⊥) → (a : Allowance) → is_forbidden T G o w a ≡ is_forbidden S F o w a
    forbidden_alike w other a =
        ap₂ (λ x y. (is_same w o && not (takes_object a)) || (x && not (y && takes_borrow a))) (goes_alike w other) (builds_alike w other)

    goes_copied : goes_by_borrow S (F c) o ≡ false
    goes_copied = ap (λ b. b && list_any (builds S o) (F c).bases) k.owned

    pub goes_borrowed : lends S v o ≡ false → goes_by_borrow T (G c) o ≡ false
    goes_borrowed none =
        ap (λ bs. is_guaranteed (G c).kind && list_any (builds T o) bs) k.bases
        ∙ ap (λ b. is_guaranteed (G c).kind && (b || false)) (ap (is_object_of o) (copy_built S T c v h) ∙ none)
        ∙ and_false (is_guaranteed (G c).kind)
      where
        and_false : (b : Bool) → (b && false) ≡ false
        and_false true = refl
        and_false false = refl

    -- elsewhere the copy is refused as it was
    copy_forbidden : lends S v o ≡ false → (a b : Allowance) → takes_object a ≡ takes_object b → is_forbidden T G o c b ≡ is_forbidden S F o c a
    copy_forbidden none a b e =
        ap (λ g. (is_same c o && not (takes_object b)) || (g && not (builds T o c && takes_borrow b))) (goes_borrowed none)
        ∙ ap (λ x. (is_same c o && not x) || false) (sym e)
        ∙ sym (ap (λ g. (is_same c o && not (takes_object a)) || (g && not (builds S o c && takes_borrow a))) goes_copied)

    fills_alike : (op : Operation) (l : Option Location) (cell : Cell) → fills T cell op l ≡ fills S cell op l
    fills_alike op l cell = ap is_turned_on (at_location_alike cell op l)

    abbrev asks : Bool → Option Mark
    asks b = when b (needs_off rule.FieldNotBuilt)

    same_weaker : (a : Access) → (mentions c a ≡ false) ⊎ (lends S v o ≡ false) → WeakerMark (building_mark S F o field a) (building_mark T G o field a)
    same_weaker (Ends w) e = kept _
    same_weaker (Begins w) e = kept _
    same_weaker (Allocates w) e = kept _
    same_weaker (Deallocates w) e = kept _
    same_weaker (Given w content) e = kept _
    same_weaker (Does x) e =
        let cell : Cell = record { subject = o; field = Some field } in
        kept_by _ _
        (ap (λ b. when b (turns_off rule.FieldNotBuilt))
        (ap (fills T cell x.operation) (location_alike S T c v h x.address) ∙ fills_alike x.operation (location_of S x.address) cell))
    same_weaker (Mentions w a) (inl e) = kept_by _ _ (ap asks (forbidden_alike w (eqb-false w.0 c.0 e) a))
    same_weaker (Mentions w a) (inr none) = at (cases_eq w.0 c.0)
      where
        at : (w.0 ≡ c.0) ⊎ (w.0 ≡ c.0 → ⊥) → WeakerMark (asks (is_forbidden S F o w a)) (asks (is_forbidden T G o w a))
        at (inl is) =
            let P : ValueId → Type 0 = λ x. WeakerMark (asks (is_forbidden S F o x a)) (asks (is_forbidden T G o x a)) in
            subst P (sym (same_value w c is)) (kept_by _ _ (ap asks (copy_forbidden none a a refl)))
        at (inr other) = kept_by _ _ (ap asks (forbidden_alike w other a))

    copied_weaker : (mentions c (Mentions v NeitherOfThem) ≡ false) ⊎ (lends S v o ≡ false) → WeakerMark (asks (is_forbidden S F o v NeitherOfThem)) (asks (is_forbidden T G o v FreshObject))
    copied_weaker e = at (cases_eq v.0 c.0) e
      where
        at : (v.0 ≡ c.0) ⊎ (v.0 ≡ c.0 → ⊥) → (is_same v c ≡ false) ⊎ (lends S v o ≡ false) → WeakerMark (asks (is_forbidden S F o v NeitherOfThem)) (asks (is_forbidden T G o v FreshObject))
        at (inl is) (inl e) = absurd (eqb-false v.0 c.0 e is)
        at (inl is) (inr none) =
            let P : ValueId → Type 0 = λ x. WeakerMark (asks (is_forbidden S F o x NeitherOfThem)) (asks (is_forbidden T G o x FreshObject)) in
            subst P (sym (same_value v c is))
            (subst (λ g. WeakerMark (asks ((is_same c o && true) || (g && not (builds S o c && false)))) (asks ((is_same c o && false) || (goes_by_borrow T (G c) o && not (builds T o c && false)))))
            (sym goes_copied)
            (subst (λ g. WeakerMark (asks ((is_same c o && true) || (false && not (builds S o c && false)))) (asks ((is_same c o && false) || (g && not (builds T o c && false)))))
            (sym (goes_borrowed none)) (allowed (is_same c o) false (builds S o c) (builds T o c))))
        at (inr other) e =
            subst (λ g. WeakerMark (asks (is_forbidden S F o v NeitherOfThem)) (asks ((is_same v o && false) || (g && not (builds T o v && false)))))
            (sym (goes_alike v other)) (allowed (is_same v o) (goes_by_borrow S (F v) o) (builds S o v) (builds T o v))

    -- an access asks no more, but where it takes the copy and v is the new object
    pub building_weaker : (a b : Access) → AlikeAccess c v a b → (mentions c a ≡ false) ⊎ (lends S v o ≡ false) → WeakerMark (building_mark S F o field a) (building_mark T G o field b)
    building_weaker _ _ (same a) e = same_weaker a e
    building_weaker _ _ copied e = copied_weaker e
    building_weaker _ _ destroyed (inl e) = absurd (eqb-false c.0 c.0 e refl)
    building_weaker _ _ destroyed (inr none) = kept_by _ _ (ap asks (copy_forbidden none NeitherOfThem BuildingBorrow refl))
