-- An item ends no object that has a field to be written.
use Rattle.std.proofs.Common.{◌≡◌, ◌⊎◌, inl, inr, ℕ, zero, suc, List, [], ◌∷◌, length, refl, sym, ap, ◌∙◌, subst, Bool, true, false, not, ◌&&◌, ◌||◌, Option, Some, None, eq-eqb}
use Rattle.std.specs.Prelude.{◌==◌, Contains, cond, replicate}
use Rattle.std.specs.List.{list_any}
use Rattle.std.proofs.lemmas.Bool.{eqb-true, false≢true, true≢false}
use Rattle.std.proofs.lemmas.List.Elements.{Contains-append_cases}
use Rattle.argument_conventions.specs.declared.convention.ArgumentConvention.{ArgumentConvention}
use Rattle.instruction_table.specs.Forms.{is_terminator, roles_of}
use Rattle.instruction_table.specs.declared.entries.Role.{Role}
use Rattle.instruction_table.specs.declared.entries.Role.TheVariants as role
use Rattle.instruction_table.specs.declared.op.Op.{Op}
use Rattle.instruction_table.specs.declared.op.Op.TheVariants as op
use Rattle.sil_verifier_frames.specs.sil_verifier_trails.AcceptedTrails.inner.Passing.{is_end}
use Rattle.sil_verifier_frames.specs.holder_model.Frames.{Gone, entry_at, ends, has_any}
use Rattle.sil_verifier_frames.specs.memory_rules_accesses.Accesses.{allowance_of}
use Rattle.sil_verifier_frames.specs.memory_rules_accesses.Operations.{access_kind_of, deallocates, deallocates_by}
use Rattle.sil_verifier_frames.specs.memory_rules_accesses.Sources.{sources_of}
use Rattle.sil_verifier_frames.specs.memory_rules_parts.Building.{goes_by_borrow, builds, takes_borrow, takes_object}
use Rattle.sil_verifier_frames.specs.memory_rules_parts.Switches.{is_same}
use Rattle.sil_verifier_frames.specs.memory_rules_parts.declared.part.Part.TheVariants.{Building}
use Rattle.sil_verifier_frames.specs.ownership_kinds_origins.Facts.{facts_in}
use Rattle.sil_verifier_frames.specs.sil_verifier_trails.RunTrails.inner.RunTrails.{IsRunTrail}
use Rattle.sil_verifier_frames.specs.sil_verifier_trails.AcceptedMemory.inner.PartTrails.{is_on}
use Rattle.sil_verifier_frames.proofs.sil_verifier_trails.AcceptedPlaces.Fields.{unfinished_allowed}
use Rattle.sil_verifier_frames.specs.sil_verifier_values.inner.Known.{IsAcceptedBody}
use Rattle.sil_verifier_frames.proofs.sil_verifier_values.Accepted.{typed}
use Rattle.sil_verifier_frames.proofs.sil_verifier_values.Counted.{nothing_in}
use Rattle.sil_cfg_items.specs.Items.{item_taken, taken_along_in, taken_in}
use Rattle.sil_cfg_items.specs.Parts.{edge_in, item_edge, item_inst}
use Rattle.sil_cfg_items.specs.Roles.{by_row, conventions_in, last_roles, roles_for, taken_as, taken_by, taken_each}
use Rattle.sil_cfg_items.specs.declared.taken.Taken.{Taken}
use Rattle.numbered_form.specs.Lists.{Each}
use Rattle.sil_verifier_frames.specs.ownership_kinds_chains.OwnershipChains.Facts.{known_or, value_of}
use Rattle.sil_verifier_frames.specs.ownership_kinds_chains.declared.ownership_chains.facts.Facts.{Facts}
use Rattle.sil_verifier_frames.specs.ownership_kinds_chains.OwnershipMarks.Marks.{ended_by, ended_with, end_of, ends_owned, ends_scope}
use Rattle.numbered_form.proofs.PointChecks.Among.{among_contained, contained_among}
use Rattle.sil_verifier_frames.proofs.sil_verifier_trails.AcceptedPlaces.PartsThere.{each_where_among}
use Rattle.sil_ast.specs.declared.function.Function.{Function}
use Rattle.sil_ast.specs.declared.inst.Inst.{Inst}
use Rattle.sil_ast.specs.declared.module.Module.{Module}
use Rattle.sil_ast.specs.declared.operands.Operand.{Operand}
use Rattle.sil_ast.specs.declared.place.ValueId.{ValueId}
use Rattle.sil_cfg.specs.declared.item.Item.{Item}
use Rattle.sil_cfg.specs.declared.item.Item.TheVariants as item
use Rattle.sil_types_declarations.specs.declared.type_definitions.kind.Kind.{Kind}
use Rattle.sil_types_declarations.specs.declared.type_definitions.kind.Kind.TheVariants as kind
use Rattle.sil_types_declarations.specs.TypeDefinitions.Declarations.{Declarations, declarations_of}
use Rattle.sil_verifier_runs.specs.inner.Built.Said.{IsUnfinishedOn}
use Rattle.sil_verifier_runs.specs.inner.Built.Laws.{LoseOthers}
use Rattle.sil_verifier_runs.proofs.Built.Steps.{new_field_told, there, told}

-- ---- instructions that take an unfinished object, or a slot, end nothing

abbrev may_take : Op → Bool
may_take o = deallocates_by (access_kind_of o) || takes_object (allowance_of o)

-- a role that ends nothing
record IsQuiet (r : Role) : Type 0 where
  owned : ends_owned r ≡ false
  scope : ends_scope r ≡ false
  each : (cs : List ArgumentConvention) (n : ℕ) → last_roles r cs n ≡ replicate n (by_row r)

quiet_row : (o : Op) → may_take o ≡ true → (r : Role) × (roles_of o ≡ r ∷ []) × IsQuiet r
quiet_row op.DeallocStack e = (role.AddressRole, refl, record { owned = refl; scope = refl; each = λ cs n. refl })
quiet_row op.BeginBorrow e = (role.Used, refl, record { owned = refl; scope = refl; each = λ cs n. refl })
quiet_row op.DebugValue e = (role.AnyRole, refl, record { owned = refl; scope = refl; each = λ cs n. refl })
quiet_row _ e = absurd (false≢true e)

ending_takes_none : (o : Op) → is_terminator o ≡ true → may_take o ≡ false
ending_takes_none op.DeallocStack e = absurd (false≢true e)
ending_takes_none op.BeginBorrow e = absurd (false≢true e)
ending_takes_none op.DebugValue e = absurd (false≢true e)
ending_takes_none _ e = refl

module _ (facts : ValueId → Option Facts) (r : Role) (quiet : IsQuiet r) where
  kind_quiet : (k : Kind) (v : ValueId) → has_any (ended_by k r v) ≡ false
  kind_quiet kind.Owned v = ap (λ b. has_any (cond b (end_of v ∷ []) [])) quiet.owned
  kind_quiet kind.Guaranteed v = ap (λ b. has_any (cond b (end_of v ∷ []) [])) quiet.scope
  kind_quiet kind.Plain v = refl

  one_quiet : (o : Operand) → ends facts (taken_as o (by_row r)) ≡ false
  one_quiet o = at (facts o.value)
    where
      at : (x : Option Facts) → has_any (ended_with x (taken_as o (by_row r))) ≡ false
      at None = refl
      at (Some x) = kind_quiet x.kind o.value

  each_quiet : (os : List Operand) (n : ℕ) → Each (λ y. ends facts y ≡ false) (taken_each os (replicate n (by_row r)))
  each_quiet [] n = tt
  each_quiet (o ∷ os) zero = tt
  each_quiet (o ∷ os) (suc n) = (one_quiet o, each_quiet os n)

taken_quiet : (facts : ValueId → Option Facts) (x : Inst) → may_take x.op ≡ true → Each (λ y. ends facts y ≡ false) (taken_by x)
taken_quiet facts x e =
    let row = quiet_row x.op e in
    subst (λ ts. Each (λ y. ends facts y ≡ false) (taken_each x.operands ts))
    (sym (ap (λ rs. roles_for rs (conventions_in x) (length x.operands)) row.1 ∙ row.2.each (conventions_in x) (length x.operands)))
    (each_quiet facts row.0 row.2 x.operands (length x.operands))

-- ---- the next item

module _ (m : Module) (n : ℕ) (f : Function) (a : IsAcceptedBody m n f) (t : List Item) (i : Item) (h : IsRunTrail f (i ∷ t)) (object : ValueId) where
  abbrev d : Declarations
  d = declarations_of m

  module _ (u : IsUnfinishedOn d f t object) where
    is_unwritten : is_on d f (Building object u.field) t ≡ Some true
    is_unwritten = sym (told m n f a object u.field t (new_field_told (sources_of d f) object u.field u.of)) ∙ u.unwritten

    takes : (x : Inst) → item_inst f i ≡ Some x → (y : Taken) → Contains (item_taken f i) y → y.value ≡ object → may_take x.op ≡ true
    takes x is y c same = at (deallocates x) refl
      where
        owns : (b : Bool) (e : Bool) → ((true && not b) || e) ≡ false → b ≡ true
        owns true e k = refl
        owns false e k = absurd (true≢false k)

        at : (b : Bool) → deallocates x ≡ b → may_take x.op ≡ true
        at true e = ap (λ b. b || takes_object (allowance_of x.op)) e
        at false e =
            let allowed =
            unfinished_allowed m n f a object u.field (there m n f a object u.field (new_field_told (sources_of d f) object u.field u.of)) t i h is_unwritten x is e y c in
            let itself : is_same y.value object ≡ true = eq-eqb y.value.0 object.0 (ap (λ (v : ValueId). v.0) same) in
            let borrowed : Bool = goes_by_borrow (sources_of d f) (known_or (facts_in d f) y.value) object
            && not (builds (sources_of d f) object y.value && takes_borrow (allowance_of x.op)) in
            let has_object : takes_object (allowance_of x.op) ≡ true =
            owns (takes_object (allowance_of x.op)) borrowed
            (ap (λ b. (b && not (takes_object (allowance_of x.op))) || borrowed) (sym itself) ∙ allowed) in
            ap (λ b. b || takes_object (allowance_of x.op)) e ∙ has_object

    -- an edge's terminator takes no object
    along : (i : Item) (x : Inst) → item_inst f i ≡ Some x → may_take x.op ≡ true → (y : Taken) → Contains (taken_along_in (item_edge f i)) y → ⊥
    along item.Entry x is e y c = nothing_in y c
    along (item.Inst p) x is e y c = nothing_in y c
    along (item.Edge g) x is e y c = true≢false (sym e ∙ ending_takes_none x.op ((typed m n f a).ends g.block.0 x is).1.ends)
    along (item.Exit p) x is e y c = nothing_in y c

    none_along : (i : Item) → item_inst f i ≡ None → (y : Taken) → Contains (taken_along_in (item_edge f i)) y → ⊥
    none_along item.Entry e y c = nothing_in y c
    none_along (item.Inst p) e y c = nothing_in y c
    none_along (item.Edge x) e y c = nothing_in y (subst (λ o. Contains (taken_along_in (edge_in o x.index)) y) e c)
    none_along (item.Exit p) e y c = nothing_in y c

    unended : (y : Taken) → Contains (item_taken f i) y → y.value ≡ object → ends (facts_in d f) y ≡ false
    unended y c same = by (item_inst f i) refl (Contains-append_cases (taken_in (item_inst f i)) (taken_along_in (item_edge f i)) y c)
      where
        by : (o : Option Inst) → item_inst f i ≡ o → Contains (taken_in (item_inst f i)) y ⊎ Contains (taken_along_in (item_edge f i)) y → ends (facts_in d f) y ≡ false
        by None is (inl k) = absurd (nothing_in y (subst (λ o. Contains (taken_in o) y) is k))
        by None is (inr k) = absurd (none_along i is y k)
        by (Some x) is (inl k) =
            each_where_among (λ y. ends (facts_in d f) y ≡ false) (taken_by x) y (taken_quiet (facts_in d f) x (takes x is y c same))
            (among_contained y (taken_by x) (subst (λ o. Contains (taken_in o) y) is k))
        by (Some x) is (inr k) = absurd (along i x is (takes x is y c same) y k)

    none_ended : list_any (is_end (facts_in d f) object) (item_taken f i) ≡ false
    none_ended = over (item_taken f i) (λ y c. at y c (y.value.0 == object.0) refl)
      where
        never : (b : Bool) → (b && false) ≡ false
        never true = refl
        never false = refl

        at : (y : Taken) → Contains (item_taken f i) y → (b : Bool) → (y.value.0 == object.0) ≡ b → is_end (facts_in d f) object y ≡ false
        at y c true e =
            ap (λ b. b && (y.value.0 == object.0)) (unended y c (ap value_of (eqb-true y.value.0 object.0 e)))
        at y c false e = ap (λ b. ends (facts_in d f) y && b) e ∙ never (ends (facts_in d f) y)

        over : (ys : List Taken) → ((y : Taken) → Contains ys y → is_end (facts_in d f) object y ≡ false) → list_any (is_end (facts_in d f) object) ys ≡ false
        over [] k = refl
        over (y ∷ ys) k =
            ap (λ b. b || list_any (is_end (facts_in d f) object) ys) (k y (contained_among y (y ∷ ys) (inl refl)))
            ∙ over ys (λ z c. k z (contained_among z (y ∷ ys) (inr (among_contained z ys c))))

pub lose_others : LoseOthers
lose_others m n f a t i h entries left ended = record {
  gone = λ v. at v (list_any (is_end (facts_in (declarations_of m) f) v) (item_taken f i)) refl;
  kept = λ object u. ended.others object (none_ended m n f a t i h object u);
}
  where
    at : (v : ValueId) (b : Bool) → list_any (is_end (facts_in (declarations_of m) f) v) (item_taken f i) ≡ b
        → (entry_at left v ≡ entry_at entries v) ⊎ (entry_at left v ≡ Gone)
    at v true e = inr (ended.gone v e)
    at v false e = inl (ended.others v e)
