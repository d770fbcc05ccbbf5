-- Parts of memory where a copy became a move: the marks of a part along a trail are those along the function's own, without some that turn nothing.
use Rattle.std.proofs.Common.{◌≡◌, List, [], ◌∷◌, ◌++◌, length, refl, sym, ap, ap₂, ◌∙◌, subst, Bool, true, false, Option, Some, None}
use Rattle.std.specs.Prelude.{Contains, cond, option_to_list, ⊤}
use Rattle.std.specs.List.{flat_map, range_with_len}
use Rattle.argument_conventions.specs.declared.row.AddressRow.{AddressRow}
use Rattle.sil_verifier_trails.specs.memory_rules_accesses.Accesses.{accesses_of}
use Rattle.sil_verifier_trails.specs.memory_rules_accesses.Locations.{location_of}
use Rattle.sil_verifier_trails.specs.memory_rules_accesses.Sources.{source_at}
use Rattle.sil_verifier_trails.specs.memory_rules_accesses.declared.access.Access.{Access}
use Rattle.sil_verifier_trails.specs.memory_rules_accesses.declared.access.Access.TheVariants.{Ends, Mentions}
use Rattle.sil_verifier_trails.specs.memory_rules_accesses.declared.columns.Allowance.{Allowance}
use Rattle.sil_verifier_trails.specs.memory_rules_accesses.declared.columns.Allowance.TheVariants.{NeitherOfThem}
use Rattle.sil_verifier_trails.specs.memory_rules_accesses.declared.location.Location.{Location}
use Rattle.sil_verifier_trails.specs.memory_rules_accesses.declared.source.Source.{Source}
use Rattle.sil_verifier_trails.specs.memory_rules_accesses.declared.source.Source.TheVariants as source
use Rattle.sil_verifier_trails.specs.memory_rules_parts.Building.{is_forbidden}
use Rattle.sil_verifier_trails.specs.memory_rules_parts.Parts.{address_parts, at_return, field_parts, is_scope, is_scope_source, means, parts_by, parts_of, scope_part, scope_parts, slot_part}
use Rattle.sil_verifier_trails.specs.memory_rules_parts.Parts.{slot_part_at}
use Rattle.sil_verifier_trails.specs.memory_rules_parts.Shown.{marks_of_access, part_marks}
use Rattle.sil_verifier_trails.specs.memory_rules_parts.Switches.{is_same, when}
use Rattle.sil_verifier_trails.specs.memory_rules_parts.declared.part.Part.{Part}
use Rattle.sil_verifier_trails.specs.memory_rules_parts.declared.part.Part.TheVariants.{Allocation, Building, Contents, InScope, InSlot, Lent}
use Rattle.numbered_form.specs.Lists.{Each}
use Rattle.ownership_kinds_chains.specs.OwnershipChains.Facts.{is_owned, known_or, value_of}
use Rattle.ownership_kinds_chains.specs.declared.ownership_chains.facts.Facts.{Facts}
use Rattle.reach_engine_marks.specs.declared.path_patterns.mark.Mark.{Mark}
use Rattle.sil_ast.specs.declared.function.Function.{Function}
use Rattle.sil_ast.specs.declared.place.ValueId.{ValueId}
use Rattle.sil_cfg.specs.Returns.{is_return}
use Rattle.sil_cfg.specs.declared.item.Item.{Item}
use Rattle.std.proofs.lemmas.Bool.{eqb-true}
use Rattle.copy_pairing_acceptance.specs.MovedMemory.inner.Items.{Cut, IsGone, IsMoved, IsSame, gone, moved, none, same}
use Rattle.copy_pairing_acceptance.proofs.MovedMemory.EachOf.{each_append, each_contained, each_flat}
use Rattle.copy_pairing_acceptance.proofs.MovedMemory.MovedAccesses.{gone_accesses, moved_accesses, same_accesses}
use Rattle.copy_pairing_acceptance.proofs.MovedMemory.Thinned as thinned
use Rattle.copy_pairing_acceptance.proofs.MovedMemory.Thinned.{Thinned, TurnsNothing, both_thinned, none_kept, same_kept}

-- ---- what holds of each part

module _ (sources : List Source) (facts : ValueId → Facts) where
  -- the scope of a part is a borrow
  abbrev HasScope : Part → Type 0
  HasScope (Contents cell trivial left) = ⊤
  HasScope (Allocation slot) = ⊤
  HasScope (Lent scope address) = is_scope sources scope ≡ true
  HasScope (Building object field) = ⊤
  HasScope (InScope address scope) = is_scope sources scope ≡ true
  HasScope (InSlot address slot) = ⊤

  scope_has : (address base : ValueId) → Each HasScope (scope_part sources address base)
  scope_has address base = at (is_scope sources base) refl
    where
      at : (b : Bool) → is_scope sources base ≡ b → Each HasScope (cond b (InScope address base ∷ []) [])
      at true e = (e, tt)
      at false e = tt

  slot_has : (address root : ValueId) (s : Source) → Each HasScope (slot_part address root s)
  slot_has address root (source.Slot trivial) = (tt, tt)
  slot_has address root (source.Argument row trivial) = tt
  slot_has address root (source.Object fields) = tt
  slot_has address root (source.Borrow of) = tt
  slot_has address root (source.Upcast of) = tt
  slot_has address root (source.Loan of) = tt
  slot_has address root (source.Field of k trivial) = tt
  slot_has address root (source.Part of k) = tt
  slot_has address root source.Other = tt

  slot_has_at : (address : ValueId) (o : Option Location) → Each HasScope (slot_part_at sources address o)
  slot_has_at address None = tt
  slot_has_at address (Some l) = slot_has address l.root (source_at sources l.root)

  address_has : (f : Facts) (address : ValueId) → Each HasScope (address_parts sources f address)
  address_has f address =
      each_append HasScope (scope_parts sources address f.bases) (slot_part_at sources address (location_of sources address))
      (each_flat HasScope (scope_part sources address) (scope_has address) f.bases) (slot_has_at address (location_of sources address))

  argument_has : (v : ValueId) (row : AddressRow) (trivial : Bool) → Each HasScope (parts_by sources (facts v) v (source.Argument row trivial))
  argument_has v row trivial = at row.shared
    where
      at : (b : Bool) → Each HasScope (cond b [] (Contents (record { subject = v; field = None }) trivial (Some row.after) ∷ []))
      at true = tt
      at false = (tt, tt)

  by_source : (v : ValueId) (s : Source) → source_at sources v ≡ s → Each HasScope (parts_by sources (facts v) v s)
  by_source v (source.Slot trivial) e = (tt, (tt, address_has (facts v) v))
  by_source v (source.Argument row trivial) e = argument_has v row trivial
  by_source v (source.Object fields) e = each_flat HasScope (field_parts v) (λ k. (tt, (tt, tt))) (range_with_len 0 fields)
  by_source v (source.Borrow of) e = tt
  by_source v (source.Upcast of) e = tt
  by_source v (source.Loan of) e = (ap is_scope_source e, tt)
  by_source v (source.Field of k trivial) e = address_has (facts v) v
  by_source v (source.Part of k) e = address_has (facts v) v
  by_source v source.Other e = tt

  parts_have : Each HasScope (parts_of sources facts)
  parts_have =
      each_flat HasScope (λ n. parts_by sources (facts (value_of n)) (value_of n) (source_at sources (value_of n)))
      (λ n. by_source (value_of n) (source_at sources (value_of n)) refl) (range_with_len 0 (length sources))

  module _ (v : ValueId) (unscoped : is_scope sources v ≡ false) where
    when_other : (scope : ValueId) (m : Mark) → is_scope sources scope ≡ true → when (is_same v scope) m ≡ None
    when_other scope m scoped = at (is_same v scope) refl
      where
        at : (b : Bool) → is_same v scope ≡ b → when b m ≡ None
        at true e =
            let here : v ≡ scope = ap value_of (eqb-true v.0 scope.0 e) in
            absurd (let wrong : false ≡ true = sym unscoped ∙ ap (is_scope sources) here ∙ scoped in cc)
        at false e = refl

    -- that the value ends means nothing to a part
    end_means_nothing : (q : Part) → HasScope q → means sources facts q (Ends v) ≡ None
    end_means_nothing (Contents cell trivial left) h = refl
    end_means_nothing (Allocation slot) h = refl
    end_means_nothing (Lent scope address) h = when_other scope _ h
    end_means_nothing (Building object field) h = refl
    end_means_nothing (InScope address scope) h = when_other scope _ h
    end_means_nothing (InSlot address slot) h = refl

    pub ends_unheard : (q : Part) → Contains (parts_of sources facts) q → means sources facts q (Ends v) ≡ None
    ends_unheard q there = end_means_nothing q (each_contained HasScope (parts_of sources facts) q parts_have there)

  when_quiet : (b : Bool) (m : Mark) → TurnsNothing m → Each TurnsNothing (option_to_list (when b m))
  when_quiet true m e = (e, tt)
  when_quiet false m e = tt

  -- where a value is mentioned nothing is turned
  pub mention_quiet : (q : Part) (v : ValueId) (a : Allowance) → Each TurnsNothing (option_to_list (means sources facts q (Mentions v a)))
  mention_quiet (Contents cell trivial left) v a = tt
  mention_quiet (Allocation slot) v a = tt
  mention_quiet (Lent scope address) v a = tt
  mention_quiet (Building object field) v a = when_quiet (is_forbidden sources facts object v a) _ refl
  mention_quiet (InScope address scope) v a = when_quiet (is_same v address) _ refl
  mention_quiet (InSlot address slot) v a = when_quiet (is_same v address) _ refl

-- ---- the marks of a part

module _ (sources : List Source) (facts : ValueId → Option Facts) (f other : Function) (c v : ValueId)
    (owned : is_owned (known_or facts v).kind ≡ true) (q : Part) (unheard : means sources (known_or facts) q (Ends v) ≡ None) where
  abbrev each : Access → List Mark
  each = marks_of_access sources facts f q

  abbrev last : Bool → List Mark
  last b = cond b (option_to_list (at_return q)) []

  same_marks : (i j : Item) → IsSame f other c v i j → part_marks sources facts other q j ≡ part_marks sources facts f q i
  same_marks i j h = ap₂ (λ xs b. flat_map each xs ++ last b) (same_accesses sources facts f other c v i j h) h.returns

  moved_marks : (i j : Item) → IsMoved f other c v i j → part_marks sources facts other q j ≡ part_marks sources facts f q i
  moved_marks i j h =
      ap₂ (λ xs b. flat_map each xs ++ last b) (moved_accesses sources facts f other c v owned i j h) (h.returns ∙ sym h.stays)
      ∙ ap (λ o. (option_to_list o ++ flat_map each (accesses_of sources facts f i)) ++ last (is_return f i)) unheard

  gone_marks : (i : Item) → IsGone f other c v i → Each TurnsNothing (part_marks sources facts f q i)
  gone_marks i h =
      let mention : List Mark = each (Mentions v NeitherOfThem) in
      let is : part_marks sources facts f q i ≡ (mention ++ []) ++ [] =
      ap₂ (λ xs b. flat_map each xs ++ last b) (gone_accesses sources facts f other c v owned i h) h.stays
      ∙ ap (λ o. (option_to_list o ++ (mention ++ [])) ++ []) unheard in
      subst (Each TurnsNothing) (sym is)
      (each_append TurnsNothing (mention ++ []) [] (each_append TurnsNothing mention [] (mention_quiet sources (known_or facts) q v NeitherOfThem) tt) tt)

  -- along a trail that is cut
  pub cut_thinned : {t u : List Item} → Cut f other c v t u → Thinned (flat_map (part_marks sources facts f q) t) (flat_map (part_marks sources facts other q) u)
  cut_thinned none = thinned.none
  cut_thinned (same i j h k) = both_thinned (same_kept (part_marks sources facts f q i) (part_marks sources facts other q j) (same_marks i j h)) (cut_thinned k)
  cut_thinned (moved i j h k) = both_thinned (same_kept (part_marks sources facts f q i) (part_marks sources facts other q j) (moved_marks i j h)) (cut_thinned k)
  cut_thinned (gone i h k) = both_thinned (none_kept (part_marks sources facts f q i) (gone_marks i h)) (cut_thinned k)
