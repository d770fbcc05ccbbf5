-- What each check finds is the first of all that is wrong, where the checks before it found nothing.
use Rattle.std.proofs.Common.{◌≡◌, ℕ, zero, suc, ◌+◌, ◌-◌, ◌<◌, ◌≤◌, List, [], ◌∷◌, ◌++◌, length, get_or, map, refl, sym, ap, subst, arith, Bool, true, false, inl, inr}
use Rattle.std.specs.Prelude.{◌⊎◌, All, IsSomeAnd, slice_get}
use Rattle.std.specs.List.{flat_map}
use Rattle.std.proofs.lemmas.Bool.{cases_lt}
use Rattle.std.proofs.lemmas.Option.{slice_get-get_or}
use Rattle.number_tables.specs.ContainmentOrder.Chains.{Chain, one, more, IsCyclic, IsFirstCyclic, parts_of}
use Rattle.sil_ast.specs.declared.decl.Decl.{Decl}
use Rattle.sil_ast.specs.declared.module.Module.{Module}
use Rattle.sil_rules.specs.Order.{NotAfter, IsLeast, stage_of}
use Rattle.sil_rules.specs.Rules.{number_of, group_of}
use Rattle.sil_rules.specs.declared.limit_word.LimitWord.TheVariants as word
use Rattle.sil_rules.specs.declared.rule.Rule.{Rule}
use Rattle.sil_rules.specs.declared.rule.Rule.TheVariants as rule
use Rattle.std.specs.Prelude.{Contains}
use Rattle.sil_types_declarations.specs.TypeDefinitions.Contained.{containment, lower_places, place_list}
use Rattle.sil_types_declarations.specs.TypeDefinitions.Declarations.{Declarations, declarations_of, swift_structs, all_names}
use Rattle.sil_types_declarations.specs.TypeDefinitions.Mentions.{items_of}
use Rattle.sil_types_declarations.specs.TypeDefinitions.Rules.{HoldsItself, IsWellNamed, Declared, exceeds_depth, exceeds_leaves}
use Rattle.sil_types_items.proofs.TypeMeasures.Agreement.{names-Int}
use Rattle.sil_types_items.specs.declared.type_item_rules.by_item.ItemFault.{ItemFault}
use Rattle.sil_types_items.specs.TypeItemRules.Faults.{Breaks, BreaksIn, fault_key}
use Rattle.sil_types_items.specs.TypeItemRules.Faults.Breaks.{unknown_type, bad_member, misplaced_storage}
use Rattle.sil_types_items.proofs.TypeItemRules.FirstFaults.{stage_at}
use Rattle.sil_types.specs.declared.refusal.TypeRefusal.{TypeRefusal}
use Rattle.sil_types.specs.declared.refusal.TypeRefusal.TheVariants as refusal
use Rattle.sil_types.specs.Refusals.{ShownIn, refusal_key, IsRefusal, IsRule}
use Rattle.sil_types.specs.Refusals.ShownIn.{item, infinite, too_deep, too_wide}

pub refused_rule : (m : Module) (r : Rule) (n : ℕ) (e : TypeRefusal) → IsRule r n e → IsLeast refusal_key (ShownIn m) (refusal.Rule r n) → IsRefusal m e
refused_rule m r n (refusal.Rule s k) (es, ek) least =
    subst (λ s. IsLeast refusal_key (ShownIn m) (refusal.Rule s k)) (sym es) (subst (λ k. IsLeast refusal_key (ShownIn m) (refusal.Rule r k)) (sym ek) least)
refused_rule m r n (refusal.Limit what) h least = absurd h
refused_rule m r n refusal.Memory h least = tt

not_true : (b : Bool) → (b ≡ true → ⊥) → b ≡ false
not_true true h = absurd (h refl)
not_true false h = refl

-- the structs of `Swift` hold no declaration
no_swift_parts : (d : Declarations) (swift : Bool) (decls : List Decl) (v : ℕ) → v < length (swift_structs swift) → parts_of (map (lower_places d) (swift_structs swift ++ decls)) v ≡ []
no_swift_parts d false decls v lt = absurd (omega arith)
no_swift_parts d true decls zero lt = ap (λ ns. flat_map (place_list (all_names d)) (ns ++ [])) (names-Int 64)
no_swift_parts d true decls (suc zero) lt = ap (λ ns. flat_map (place_list (all_names d)) (ns ++ [])) (names-Int 1)
no_swift_parts d true decls (suc (suc v)) lt = absurd (omega arith)

no_chain : (graph : List (List ℕ)) (v w : ℕ) → parts_of graph v ≡ [] → Chain graph v w → ⊥
no_chain graph v w e (one _ _ c) = let none : Contains [] w = subst (λ xs. Contains xs w) e c in let lt : none.0 < 0 = none.1 in omega arith
no_chain graph v w e (more _ u _ c h) = let none : Contains [] u = subst (λ xs. Contains xs u) e c in let lt : none.0 < 0 = none.1 in omega arith

module _ (m : Module) where
  abbrev d : Declarations
  d = declarations_of m

  abbrev offset : ℕ
  offset = length (swift_structs m.imports.swift)

  -- 101, 103 and 104 come before all else
  pub first_item : (f : ItemFault) → IsLeast fault_key (BreaksIn d m) f → IsLeast refusal_key (ShownIn m) (refusal.Rule f.rule f.item)
  first_item f l = record { shown = item f.rule f.item l.shown; first = earlier }
    where
      early : stage_of (group_of f.rule) ≡ 1
      early = stage_at d (items_of m) f f.item l.shown

      earlier : (other : TypeRefusal) → ShownIn m other → NotAfter (refusal_key (refusal.Rule f.rule f.item)) (refusal_key other)
      earlier _ (item r n b) = l.first (record { item = n; rule = r }) b
      earlier _ (infinite n h) = inl (omega (arith, early))
      earlier _ (too_deep e) = inl (omega (arith, early))
      earlier _ (too_wide e) = inl (omega (arith, early))

  module _ (clean : (f : ItemFault) → BreaksIn d m f → ⊥) where
    behind_swift : (v : ℕ) → IsCyclic (containment d) v → offset ≤ v
    behind_swift v h = at (cases_lt v offset)
      where
        at : (v < offset) ⊎ (offset ≤ v) → offset ≤ v
        at (inl lt) = absurd (no_chain (containment d) v v (no_swift_parts d m.imports.swift m.decls v lt) h)
        at (inr le) = le

    -- then the first declaration that holds itself
    pub first_ring : (v : ℕ) → IsFirstCyclic (containment d) v → IsLeast refusal_key (ShownIn m) (refusal.Rule rule.InfiniteType (v - offset))
    first_ring v c = record { shown = infinite (v - offset) (subst (IsCyclic (containment d)) place c.cyclic); first = earlier }
      where
        place : v ≡ offset + (v - offset)
        place = let le = behind_swift v c.cyclic in omega (arith, le)

        not_later : (n : ℕ) → HoldsItself d n → v - offset ≤ n
        not_later n h = at (cases_lt (offset + n) v)
          where
            at : (offset + n < v) ⊎ (v ≤ offset + n) → v - offset ≤ n
            at (inl lt) = absurd (c.first (offset + n) lt h)
            at (inr le) = omega (arith, le)

        ordered : (k n : ℕ) → k ≤ n → NotAfter (k ∷ number_of rule.InfiniteType ∷ []) (n ∷ number_of rule.InfiniteType ∷ [])
        ordered k n le = at (cases_lt k n)
          where
            at : (k < n) ⊎ (n ≤ k) → NotAfter (k ∷ number_of rule.InfiniteType ∷ []) (n ∷ number_of rule.InfiniteType ∷ [])
            at (inl lt) = inl lt
            at (inr ge) = inr (omega (arith, le, ge), inr (refl, tt))

        earlier : (other : TypeRefusal) → ShownIn m other → NotAfter (refusal_key (refusal.Rule rule.InfiniteType (v - offset))) (refusal_key other)
        earlier _ (item r n b) = absurd (clean (record { item = n; rule = r }) b)
        earlier _ (infinite n h) = inr (refl, ordered (v - offset) n (not_later n h))
        earlier _ (too_deep e) = inl (omega arith)
        earlier _ (too_wide e) = inl (omega arith)

    module _ (finite : (n : ℕ) → HoldsItself d n → ⊥) where
      -- then the limit on depth
      pub first_deep : exceeds_depth m ≡ true → IsLeast refusal_key (ShownIn m) (refusal.Limit word.Depth)
      first_deep deep = record { shown = too_deep deep; first = earlier }
        where
          earlier : (other : TypeRefusal) → ShownIn m other → NotAfter (refusal_key (refusal.Limit word.Depth)) (refusal_key other)
          earlier _ (item r n b) = absurd (clean (record { item = n; rule = r }) b)
          earlier _ (infinite n h) = absurd (finite n h)
          earlier _ (too_deep e) = inr (refl, inr (refl, tt))
          earlier _ (too_wide e) = inr (refl, inl (omega arith))

      -- and the limit on leaves
      pub first_wide : exceeds_depth m ≡ false → exceeds_leaves m ≡ true → IsLeast refusal_key (ShownIn m) (refusal.Limit word.Leaves)
      first_wide flat wide = record { shown = too_wide wide; first = earlier }
        where
          earlier : (other : TypeRefusal) → ShownIn m other → NotAfter (refusal_key (refusal.Limit word.Leaves)) (refusal_key other)
          earlier _ (item r n b) = absurd (clean (record { item = n; rule = r }) b)
          earlier _ (infinite n h) = absurd (finite n h)
          earlier _ (too_deep e) = absurd (cc (flat, e))
          earlier _ (too_wide e) = inr (refl, inr (refl, tt))

      well_named : All (IsWellNamed d) (items_of m)
      well_named k e lt = record {
        known = not_true _ (λ h. clean (record { item = k; rule = rule.UnknownType }) (at rule.UnknownType (unknown_type h)));
        members = not_true _ (λ h. clean (record { item = k; rule = rule.BadMember }) (at rule.BadMember (bad_member h)));
        storage = not_true _ (λ h. clean (record { item = k; rule = rule.WeakOrUnownedOutsideStorage }) (at rule.WeakOrUnownedOutsideStorage (misplaced_storage h)));
      }
        where
          at : (r : Rule) → Breaks d (get_or (items_of m) k e) r → IsSomeAnd (slice_get (items_of m) k) (λ i. Breaks d i r)
          at r b = subst (λ o. IsSomeAnd o (λ i. Breaks d i r)) (sym (slice_get-get_or (items_of m) k e lt)) b

      -- where nothing was found, the module is declared
      pub all_declared : Declared m
      all_declared = record { items = well_named; finite = finite }
