-- No part of memory is broken where a copy is lent.
use Rattle.std.proofs.Common.{◌≡◌, ◌⊎◌, inl, inr, ℕ, List, [], ◌∷◌, ◌++◌, refl, sym, ap, ap₂, ◌∙◌, subst, Bool, true, false, cond, Some, None, Contains, reverse}
use Rattle.std.specs.Prelude.{flat_map, option_and_then, option_to_list}
use Rattle.std.specs.List.{list_any}
use Rattle.std.proofs.lemmas.Bool.{cases_Bool, eqb-true, false≢true}
use Rattle.std.proofs.lemmas.List.{append-nil}
use Rattle.std.proofs.lemmas.Option.{same_Some}
use Rattle.sil_verifier_trails.specs.memory_rules_accesses.Locations.{is_object}
use Rattle.sil_verifier_trails.specs.memory_rules_accesses.Sources.{source_at, sources_of}
use Rattle.sil_verifier_trails.specs.memory_rules_accesses.declared.access.Access.{Access}
use Rattle.sil_verifier_trails.specs.memory_rules_parts.Building.{is_object_of}
use Rattle.sil_verifier_trails.specs.memory_rules_parts.Parts.{at_return, parts_of}
use Rattle.sil_verifier_trails.specs.memory_rules_parts.Shown.{marks_of_access, part_marks}
use Rattle.sil_verifier_trails.specs.memory_rules_parts.declared.part.Part.{Part}
use Rattle.sil_verifier_trails.specs.memory_rules_parts.declared.part.Part.TheVariants.{Allocation, Building, Contents, InScope, InSlot, Lent}
use Rattle.ownership_kinds_chains.specs.OwnershipChains.Facts.{known_or}
use Rattle.copy_pairing_model.specs.ownership_kinds_origins.Facts.{facts_in}
use Rattle.ownership_kinds_chains.specs.OwnershipMarks.Marks.{marks_of}
use Rattle.reach_engine_marks.specs.PathPatterns.Along.{Shows}
use Rattle.reach_engine_marks.specs.PathPatterns.Switch.{IsInPlace, code_of}
use Rattle.reach_engine_marks.specs.declared.path_patterns.mark.Mark.{Mark}
use Rattle.sil_ast.specs.declared.function.Function.{Function}
use Rattle.sil_ast.specs.declared.place.ValueId.{ValueId}
use Rattle.sil_cfg.specs.Flow.{Flow, point_of}
use Rattle.sil_cfg.specs.Items.{IsItem, flow_of}
use Rattle.sil_cfg.specs.Returns.{is_return}
use Rattle.sil_cfg.specs.Walk.{IsTrail}
use Rattle.sil_cfg.specs.declared.item.Item.{Item}
use Rattle.sil_rules.specs.Rules.{index_of}
use Rattle.sil_types_declarations.specs.TypeDefinitions.Declarations.{Declarations}
use Rattle.sil_verifier_trails.specs.RunTrails.inner.RunTrails.{IsTurnedTrail}
use Rattle.sil_verifier_trails.specs.RunTrails.inner.Switched.{IsFollowed, IsUnbroken, switched, switched_over}
use Rattle.sil_verifier_trails.proofs.RunTrails.SwitchedTrails.{followed_turned}
use Rattle.sil_verifier_trails.proofs.RunTrails.TurnedTrails.{turned_item, turned_older}
use Rattle.sil_verifier_trails.specs.AcceptedTrails.inner.Defined.{makes}
use Rattle.sil_verifier_trails.specs.AcceptedTrails.inner.Accepted.{IsAcceptedIn}
use Rattle.sil_verifier_trails.specs.AcceptedMemory.inner.PartTrails.{IsPartOf, accesses_in}
use Rattle.sil_verifier_trails.proofs.AcceptedMemory.PartsFollowed.{part_unbroken}
use Rattle.copy_pairing_acceptance.proofs.LentMemory.Alike.{AreLentAlike}
use Rattle.copy_pairing_acceptance.proofs.LentMemory.Following.{IsCopyOfObject, written_where_taken}
use Rattle.copy_pairing_acceptance.proofs.LentMemory.Items.{unallocated}
use Rattle.copy_pairing_acceptance.proofs.LentMemory.Means.{AreAlike, is_building, lends, means_alike, mentions}
use Rattle.copy_pairing_acceptance.proofs.LentMemory.Parts.{parts_alike}
use Rattle.copy_pairing_acceptance.proofs.LentMemory.Quiet.{allocates_alike, over_alike, quiet}
use Rattle.copy_pairing_acceptance.proofs.LentMemory.Sources.{same_value}
use Rattle.copy_pairing_acceptance.proofs.LentMemory.Transport.{same_shows}
use Rattle.copy_pairing_acceptance.proofs.LentMemory.Switches.{unbroken_where_followed}

module _ (d : Declarations) (f g : Function) (c v : ValueId) (alike : AreLentAlike d f g c v) where
  abbrev marks_before : Part → Item → List Mark
  marks_before p = part_marks (sources_of d f) (facts_in d f) f p

  abbrev marks_after : Part → Item → List Mark
  marks_after p = part_marks (sources_of d g) (facts_in d g) g p

  pub trail_before : (t : List Item) → IsTurnedTrail g t → IsTurnedTrail f t
  trail_before [] h = tt
  trail_before (i ∷ t) h = (h.0, subst (λ (x : Flow Item). IsTrail x h.0 (reverse t ++ i ∷ [])) alike.flow h.1)

  -- ---- a part that goes by no object

  all_alike : (p : Part) → is_building p ≡ false → (xs ys : List Access) → AreAlike c v xs ys
      → flat_map (marks_of_access (sources_of d g) (facts_in d g) g p) ys ≡ flat_map (marks_of_access (sources_of d f) (facts_in d f) f p) xs
  all_alike p none [] [] h = refl
  all_alike p none [] (y ∷ ys) h = absurd h
  all_alike p none (x ∷ xs) [] h = absurd h
  all_alike p none (x ∷ xs) (y ∷ ys) h =
      ap₂ (λ o (ms : List Mark). option_to_list o ++ ms)
      (means_alike (sources_of d f) (sources_of d g) (known_or (facts_in d f)) (known_or (facts_in d g)) c v alike.sources alike.facts p none x y h.0)
      (all_alike p none xs ys h.1)

  marks_alike : (p : Part) → is_building p ≡ false → (i : Item) → IsItem f i → marks_after p i ≡ marks_before p i
  marks_alike p none i is =
      ap₂ (λ (ms : List Mark) b. ms ++ cond b (option_to_list (at_return p)) [])
      (all_alike p none (accesses_in d f i) (accesses_in d g i) (alike.accesses i is)) (alike.returns i)

  module _ (accepted : IsAcceptedIn d f) where
    unbroken_alike : (p : Part) → IsPartOf d f p → is_building p ≡ false → IsUnbroken g (marks_after p)
    unbroken_alike p there none rule walk point item shown =
        part_unbroken d f accepted p there rule walk (point_of (flow_of f) item) item (record {
          point_is = refl;
          shows = same_shows f (marks_after p) (marks_before p) (marks_alike p none) IsInPlace code_of walk (index_of rule) item
              (subst (λ (x : Flow Item). Shows x (marks_after p) IsInPlace code_of walk (index_of rule) item) alike.flow shown.shows);
        })

    -- ---- a field of a new object

    module _ (copies : is_object (source_at (sources_of d f) v) ≡ true → IsCopyOfObject d f c v) (o : ValueId) (field : ℕ) (there : IsPartOf d f (Building o field)) where
      abbrev each_before : Item → List Mark
      each_before i = flat_map (marks_of_access (sources_of d f) (facts_in d f) f (Building o field)) (accesses_in d f i)

      abbrev each_after : Item → List Mark
      each_after i = flat_map (marks_of_access (sources_of d g) (facts_in d g) g (Building o field)) (accesses_in d g i)

      -- a `return` asks nothing
      asked_nothing : (ms : List Mark) (b : Bool) → ms ++ cond b [] [] ≡ ms
      asked_nothing ms true = append-nil ms
      asked_nothing ms false = append-nil ms

      followed_before : (t : List Item) → IsTurnedTrail f t → IsFollowed (marks_before (Building o field)) t
      followed_before t h = followed_turned f (marks_before (Building o field)) (part_unbroken d f accepted (Building o field) there) t h

      abbrev LeavesAlike : Item → Bool → Bool → Type 0
      LeavesAlike i on b = switched_over (each_after i) on ≡ Some b

      over_asking : (i : Item) → IsItem f i → (on b : Bool) → switched_over (each_before i) on ≡ Some b
          → (list_any (mentions c) (accesses_in d f i) ≡ false) ⊎ (lends (sources_of d f) v o ≡ false) → LeavesAlike i on b
      over_asking i is on b s e =
          over_alike (sources_of d f) (sources_of d g) (facts_in d f) (facts_in d g) f g c v alike.sources alike.facts o field (accesses_in d f i) (accesses_in d g i)
          (alike.accesses i is) e on b s

      -- where it is off, and the object isn't allocated, it stays off
      over_written : (i : Item) → IsItem f i → (on b : Bool) → switched_over (each_before i) on ≡ Some b → on ≡ false → makes f o i ≡ false → LeavesAlike i on b
      over_written i is on b s off none =
          let unmade = unallocated (sources_of d f) (marks_of (facts_in d f) f i) f i o none in
          let before : switched_over (each_before i) false ≡ Some false = quiet (sources_of d f) (facts_in d f) f o field (accesses_in d f i) unmade in
          let after : switched_over (each_after i) false ≡ Some false =
          quiet (sources_of d g) (facts_in d g) g o field (accesses_in d g i)
          (allocates_alike o c v (accesses_in d f i) (accesses_in d g i) (alike.accesses i is) ∙ unmade) in
          ap (switched_over (each_after i)) off ∙ after ∙ sym before ∙ sym (ap (switched_over (each_before i)) off) ∙ s

      lent_object : (b : Bool) → is_object_of o (cond b (Some v) None) ≡ true → (b ≡ true) × (v ≡ o)
      lent_object true e = (refl, same_value v o (eqb-true v.0 o.0 e))
      lent_object false e = absurd (false≢true e)

      over_lent : (t : List Item) (i : Item) → IsTurnedTrail f (i ∷ t) → (on b : Bool) → switched (marks_before (Building o field)) t ≡ Some on
          → switched_over (each_before i) on ≡ Some b → LeavesAlike i on b
      over_lent t i h on b was s = at (cases_Bool (lends (sources_of d f) v o)) (cases_Bool (list_any (mentions c) (accesses_in d f i)))
        where
          at : (lends (sources_of d f) v o ≡ true) ⊎ (lends (sources_of d f) v o ≡ false)
              → (list_any (mentions c) (accesses_in d f i) ≡ true) ⊎ (list_any (mentions c) (accesses_in d f i) ≡ false) → LeavesAlike i on b
          at (inr none) m = over_asking i (turned_item f i t h) on b s (inr none)
          at (inl is) (inr none) = over_asking i (turned_item f i t h) on b s (inl none)
          at (inl is) (inl mentioned) =
              let object = lent_object (is_object (source_at (sources_of d f) v)) is in
              let Q : ValueId → Type 0 = λ w. IsPartOf d f (Building w field) → (switched (marks_before (Building w field)) t ≡ Some false) × (makes f w i ≡ false) in
              let w = subst Q object.1 (λ part. written_where_taken d f accepted c v (copies object.0) field part t i h mentioned) there in
              over_written i (turned_item f i t h) on b s (same_Some on false (sym was ∙ w.0)) w.1

      follows : (t : List Item) → IsTurnedTrail f t → switched (marks_after (Building o field)) t ≡ switched (marks_before (Building o field)) t
      follows [] h = refl
      follows (i ∷ t) h =
          let was = followed_before t (turned_older f i t h) in
          let is = followed_before (i ∷ t) h in
          let before : switched_over (each_before i) was.0 ≡ Some is.0 =
          ap (λ ms. switched_over ms was.0) (sym (asked_nothing (each_before i) (is_return f i)))
          ∙ ap (option_and_then (switched_over (marks_before (Building o field) i))) (sym was.1) ∙ is.1 in
          ap (option_and_then (switched_over (marks_after (Building o field) i))) (follows t (turned_older f i t h) ∙ was.1)
          ∙ ap (λ ms. switched_over ms was.0) (asked_nothing (each_after i) (is_return g i))
          ∙ over_lent t i h was.0 is.0 was.1 before ∙ sym is.1

      unbroken_building : IsUnbroken g (marks_after (Building o field))
      unbroken_building =
          unbroken_where_followed g (marks_after (Building o field))
          (λ t h. let was = followed_before t (trail_before t h) in (was.0, follows t (trail_before t h) ∙ was.1))

    -- each part of g is broken on no walk
    pub unbroken_lent : (is_object (source_at (sources_of d f) v) ≡ true → IsCopyOfObject d f c v) → (p : Part) → IsPartOf d g p → IsUnbroken g (marks_after p)
    unbroken_lent copies p there = at p (subst (λ (ps : List Part). Contains ps p) same there)
      where
        same : parts_of (sources_of d g) (known_or (facts_in d g)) ≡ parts_of (sources_of d f) (known_or (facts_in d f))
        same = parts_alike (sources_of d f) (sources_of d g) (known_or (facts_in d f)) (known_or (facts_in d g)) c v alike.sources alike.facts

        at : (p : Part) → IsPartOf d f p → IsUnbroken g (marks_after p)
        at (Contents cell trivial left) is = unbroken_alike (Contents cell trivial left) is refl
        at (Allocation slot) is = unbroken_alike (Allocation slot) is refl
        at (Lent scope address) is = unbroken_alike (Lent scope address) is refl
        at (Building o field) is = unbroken_building copies o field is
        at (InScope address scope) is = unbroken_alike (InScope address scope) is refl
        at (InSlot address slot) is = unbroken_alike (InSlot address slot) is refl
