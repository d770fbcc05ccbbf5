-- How full the roots on the stack are behind an item: as its operation leaves them, or as they were.
use Rattle.std.proofs.Common.{◌≡◌, ℕ, ◌==◌, ◌&&◌, List, [], ◌∷◌, Bool, true, false, Option, Some, None, refl, sym, ap, ◌∙◌, subst}
use Rattle.std.specs.Prelude.{cond, unwrap_or}
use Rattle.std.specs.List.{list_any}
use Rattle.std.proofs.lemmas.Bool.{and_left, and_right, or_from}
use Rattle.holder_model_laws.specs.memory_rules_accesses.Locations.{cell_by, cell_of, field_cell, location_of, object_built}
use Rattle.holder_model_laws.specs.memory_rules_accesses.Operations.{addresses_of, deallocates, operated, operations_of}
use Rattle.holder_model_laws.specs.memory_rules_accesses.Sources.{is_slot, source_at, sources_of}
use Rattle.holder_model_laws.specs.memory_rules_accesses.declared.access.Operated.{Operated}
use Rattle.holder_model_laws.specs.memory_rules_accesses.declared.access.Operation.{Operation}
use Rattle.holder_model_laws.specs.memory_rules_accesses.declared.location.Cell.{Cell}
use Rattle.holder_model_laws.specs.memory_rules_accesses.declared.location.Location.{Location}
use Rattle.holder_model_laws.specs.memory_rules_accesses.declared.source.Source.{Source}
use Rattle.holder_model_laws.specs.memory_rules_accesses.declared.source.Source.TheVariants as source
use Rattle.holder_model_laws.specs.memory_rules_parts.Contents.{same_cell}
use Rattle.holder_model_laws.specs.memory_rules_parts.Parts.{whole_cell}
use Rattle.holder_model_laws.specs.memory_rules_parts.Switches.{is_same}
use Rattle.holder_model_laws.specs.memory_rules_parts.declared.part.Part.{Part}
use Rattle.holder_model_laws.specs.memory_rules_parts.declared.part.Part.TheVariants.{Contents}
use Rattle.sil_verifier_trails.specs.RunTrails.inner.RunTrails.{IsRunTrail}
use Rattle.sil_verifier_trails.specs.RunTrails.inner.Switched.{finds}
use Rattle.sil_verifier_trails.specs.AcceptedMemory.inner.PartTrails.{IsPartOf, is_on}
use Rattle.sil_verifier_trails.specs.AcceptedPlaces.inner.Cells.{IsDoneAt, is_at_cell, mark_at, operates_on, part_at, part_by, touches}
use Rattle.sil_verifier_trails.specs.sil_verifier_values.inner.Known.{IsAcceptedBody}
use Rattle.argument_conventions.specs.declared.row.AddressRow.{AddressRow}
use Rattle.argument_conventions.specs.declared.row.Content.{Content}
use Rattle.sil_cfg_items.specs.Items.{item_defined}
use Rattle.sil_cfg_items.specs.Parts.{item_inst}
use Rattle.holder_model_laws.specs.ownership_kinds_chains.OwnershipChains.Facts.{has}
use Rattle.sil_ast.specs.declared.function.Function.{Function}
use Rattle.sil_ast.specs.declared.inst.Inst.{Inst}
use Rattle.sil_ast.specs.declared.module.Module.{Module}
use Rattle.sil_ast.specs.declared.place.PointId.{PointId}
use Rattle.sil_ast.specs.declared.place.ValueId.{ValueId}
use Rattle.sil_cfg.specs.declared.item.Item.{Item}
use Rattle.sil_cfg.specs.declared.item.Item.TheVariants as item
use Rattle.sil_types_declarations.specs.TypeDefinitions.Declarations.{declarations_of}
use Rattle.sil_verifier_frames.specs.inner.Placed.Roots.{IsThere, argument, full_by, is_full_on, slot}
use Rattle.sil_verifier_frames.proofs.Placed.Naming.{other_way}
use Rattle.sil_verifier_frames.specs.inner.Placed.TrailLaws.{TrailLaws}

-- a slot or an argument
pub data IsOnStack : Source → Type 0 where
  a_slot : (trivial : Bool) → IsOnStack (source.Slot trivial)
  an_argument : (row : AddressRow) (trivial : Bool) → IsOnStack (source.Argument row trivial)

module _ (laws : TrailLaws) (m : Module) (number : ℕ) (f : Function) (body : IsAcceptedBody m number f) where
  abbrev sources : List Source
  sources = sources_of (declarations_of m) f

  -- the source of a root that is there
  pub on_stack : (t : List Item) (v : ValueId) → IsThere (declarations_of m) f t v → IsOnStack (source_at (sources_of (declarations_of m) f) v)
  on_stack t v (slot trivial is there) = subst IsOnStack (sym is) (IsOnStack.a_slot trivial)
  on_stack t v (argument row trivial is) = subst IsOnStack (sym is) (IsOnStack.an_argument row trivial)

  -- what follows a root on the stack: nothing, where it may be shared, or the part of its cell
  pub data IsRootPart (v : ValueId) : Option Part → Type 0 where
    full : IsRootPart v None
    followed : (trivial : Bool) (left : Option Content) → IsPartOf (declarations_of m) f (Contents (whole_cell v) trivial left)
        → IsRootPart v (Some (Contents (whole_cell v) trivial left))

  pub root_part : (v : ValueId) → IsOnStack (source_at sources v) → IsRootPart v (part_at (declarations_of m) f v)
  root_part v h = at (source_at sources v) refl h
    where
      at : (s : Source) → source_at sources v ≡ s → IsOnStack s → IsRootPart v (part_by sources v s)
      at _ e (IsOnStack.a_slot trivial) =
          IsRootPart.followed trivial None (laws.followed m number f body v (Contents (whole_cell v) trivial None) (ap (part_by sources v) e) (λ of k b is. not_field of k b (sym e ∙ is)))
        where
          not_field : (of : ValueId) (k : ℕ) (b : Bool) → source.Slot trivial ≡ source.Field of k b → ⊥
          not_field of k b e = cc
      at _ e (IsOnStack.an_argument row trivial) = by row.shared refl
        where
          not_field : (of : ValueId) (k : ℕ) (b : Bool) → source.Argument row trivial ≡ source.Field of k b → ⊥
          not_field of k b e = cc

          by : (b : Bool) → row.shared ≡ b → IsRootPart v (cond b None (Some (Contents (whole_cell v) trivial (Some row.after))))
          by true shared = IsRootPart.full
          by false own = IsRootPart.followed trivial (Some row.after)
              (laws.followed m number f body v (Contents (whole_cell v) trivial (Some row.after))
              (ap (part_by sources v) e ∙ ap (λ b. cond b None (Some (Contents (whole_cell v) trivial (Some row.after)))) own)
              (λ of k b is. not_field of k b (sym e ∙ is)))

  -- what an item neither touches nor makes is as full behind it as it was
  pub stays_full : (t : List Item) (i : Item) → IsRunTrail f (i ∷ t) → (v : ValueId) → IsOnStack (source_at sources v)
      → touches sources (whole_cell v) (item_inst f i) ≡ false → has (item_defined f i) v.0 ≡ false
      → is_full_on (declarations_of m) f v (i ∷ t) ≡ is_full_on (declarations_of m) f v t
  stays_full t i h v on untouched old = at (part_at (declarations_of m) f v) (root_part v on)
    where
      at : (o : Option Part) → IsRootPart v o → full_by (declarations_of m) f (i ∷ t) o ≡ full_by (declarations_of m) f t o
      at _ IsRootPart.full = refl
      at _ (IsRootPart.followed trivial left there) = laws.kept m number f body t i h (whole_cell v) trivial left there untouched old

  -- an operation finds the root of its location as full as its mark needs it, and leaves it as the mark turns it
  pub record FoundAt (t : List Item) (i : Item) (l : Location) (o : Operation) : Type 0 where
    pub on : Bool
    pub was : is_full_on (declarations_of m) f l.root t ≡ Some on
    pub found : finds (mark_at (declarations_of m) f l o).needs on ≡ true
    pub left : is_full_on (declarations_of m) f l.root (i ∷ t) ≡ Some (unwrap_or (mark_at (declarations_of m) f l o).turns on)

  pub own_cell : (v : ValueId) → IsOnStack (source_at sources v) → cell_of sources v ≡ whole_cell v
  own_cell v h = at (source_at sources v) h
    where
      at : (s : Source) → IsOnStack s → cell_by sources v s ≡ whole_cell v
      at _ (IsOnStack.a_slot trivial) = refl
      at _ (IsOnStack.an_argument row trivial) = refl

  pub found_at : (t : List Item) (p : PointId) → IsRunTrail f (item.Inst p ∷ t) → (o : Operated) (l : Location) → IsDoneAt (declarations_of m) f p o l
      → IsOnStack (source_at sources l.root) → FoundAt t (item.Inst p) l o.operation
  found_at t p h o l done on = at (part_at (declarations_of m) f l.root) refl (root_part l.root on)
    where
      at : (x : Option Part) → part_at (declarations_of m) f l.root ≡ x → IsRootPart l.root x → FoundAt t (item.Inst p) l o.operation
      at _ e IsRootPart.full =
          let all = laws.others m number f body p o l done e in
          record {
            on = true;
            was = ap (full_by (declarations_of m) f t) e;
            found = all.found;
            left = ap (full_by (declarations_of m) f (item.Inst p ∷ t)) e ∙ ap Some (sym all.left);
          }
      at _ e (IsRootPart.followed trivial left there) =
          let same = own_cell l.root on in
          let so = laws.operations m number f body t p h o l done trivial left
          (subst (λ c. IsPartOf (declarations_of m) f (Contents c trivial left)) (sym same) there) in
          record {
            on = so.on;
            was = ap (full_by (declarations_of m) f t) e ∙ ap (λ c. is_on (declarations_of m) f (Contents c trivial left) t) (sym same) ∙ so.was;
            found = so.found;
            left = ap (full_by (declarations_of m) f (item.Inst p ∷ t)) e ∙ ap (λ c. is_on (declarations_of m) f (Contents c trivial left) (item.Inst p ∷ t)) (sym same) ∙ so.left;
          }

  -- ---- what an instruction touches

  -- at one location
  pub record OperatesAt (x : Inst) (v : ValueId) (o : Operation) : Type 0 where
    pub operations : operations_of x ≡ operated v o ∷ []
    pub kept : deallocates x ≡ false

  -- a location's cell is that of another root on the stack
  other_cell : (root v : ValueId) → (v.0 == root.0) ≡ false → IsOnStack (source_at sources v) → same_cell (cell_of sources root) (whole_cell v) ≡ false
  other_cell root v other on = at (source_at sources root)
    where
      apart : (w : ValueId) → (v.0 == w.0) ≡ false → is_same w v ≡ false
      apart w e = other_way v.0 w.0 e

      at : (s : Source) → same_cell (cell_by sources root s) (whole_cell v) ≡ false
      at (source.Slot trivial) = and_left (is_same root v) true (apart root other)
      at (source.Argument row trivial) = and_left (is_same root v) true (apart root other)
      at (source.Object fields) = and_left (is_same root v) true (apart root other)
      at (source.Borrow of) = and_left (is_same root v) true (apart root other)
      at (source.Upcast of) = and_left (is_same root v) true (apart root other)
      at (source.Loan of) = and_left (is_same root v) true (apart root other)
      at (source.Field of k trivial) = by (object_built sources of)
        where
          by : (b : Option ValueId) → same_cell (field_cell b root k) (whole_cell v) ≡ false
          by None = and_left (is_same root v) true (apart root other)
          by (Some object) = and_right (is_same object v) false refl
      at (source.Part of k) = and_left (is_same root v) true (apart root other)
      at source.Other = and_left (is_same root v) true (apart root other)

  pub untouched_by : (cell : Cell) (x : Inst) → list_any (operates_on sources cell) (operations_of x) ≡ false → deallocates x ≡ false
      → touches sources cell (Some x) ≡ false
  untouched_by cell x none kept =
      or_from (list_any (operates_on sources cell) (operations_of x)) _ none
      (and_left (deallocates x) (list_any (λ v. is_slot sources v && is_same v cell.subject) (addresses_of x)) kept)

  pub others_untouched : (x : Inst) (w : ValueId) (o : Operation) (l : Location) → OperatesAt x w o → location_of sources w ≡ Some l
      → (v : ValueId) → (v.0 == l.root.0) ≡ false → IsOnStack (source_at sources v) → touches sources (whole_cell v) (Some x) ≡ false
  others_untouched x w o l at is v other on = untouched_by (whole_cell v) x
      (ap (list_any (operates_on sources (whole_cell v))) at.operations
      ∙ or_from (operates_on sources (whole_cell v) (operated w o)) false (ap (is_at_cell sources (whole_cell v)) is ∙ other_cell l.root v other on) refl)
      at.kept

  pub nothing_touched : (x : Inst) → operations_of x ≡ [] → deallocates x ≡ false → (cell : Cell) → touches sources cell (Some x) ≡ false
  nothing_touched x none kept cell = untouched_by cell x (ap (list_any (operates_on sources cell)) none) kept
