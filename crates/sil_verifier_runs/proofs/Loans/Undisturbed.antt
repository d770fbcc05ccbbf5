-- What an instruction does at the place of an operand leaves the cells that open scopes lend, and those that the frames below keep for themselves.
use Rattle.std.proofs.Common.{◌≡◌, ◌⊎◌, ⊎_elim, inl, inr, ◌==◌, ◌&&◌, ℕ, List, [], ◌∷◌, Bool, true, false, Contains, Option, Some, refl, sym, ap, ◌∙◌, subst, slice_get}
use Rattle.std.proofs.lemmas.Bool.{false_from_ne_true, true≢false}
use Rattle.std.proofs.lemmas.List.Elements.{Contains-push}
use Rattle.std.proofs.lemmas.Option.{same_Some}
use Rattle.sil_verifier_frames.specs.holder_model.Frames.{Frame}
use Rattle.sil_verifier_frames.specs.holder_model.States.{Task}
use Rattle.sil_verifier_frames.specs.memory_rules_accesses.Operations.{operated}
use Rattle.sil_verifier_frames.specs.memory_rules_accesses.Rows.{has_operation, is_part}
use Rattle.sil_verifier_frames.specs.memory_rules_accesses.Sources.{is_trivial_at, source_at, sources_of}
use Rattle.sil_verifier_frames.specs.memory_rules_accesses.declared.access.Operation.{Operation}
use Rattle.sil_verifier_frames.specs.memory_rules_accesses.declared.access.Operation.TheVariants.{FirstWrite, Take, TrivialStore}
use Rattle.sil_verifier_frames.specs.memory_rules_parts.Loans.{writes}
use Rattle.sil_verifier_frames.specs.memory_rules_parts.declared.part.Part.{Part}
use Rattle.sil_verifier_frames.specs.memory_rules_parts.declared.part.Part.TheVariants.{Contents}
use Rattle.sil_verifier_frames.specs.sil_verifier_trails.AcceptedMemory.inner.PartTrails.{IsPartOf, is_on}
use Rattle.sil_verifier_frames.specs.sil_verifier_trails.RunTrails.inner.RunTrails.{GoesOn, IsRunTrail}
use Rattle.sil_verifier_frames.specs.sil_verifier_trails.RunTrails.inner.Switched.{finds}
use Rattle.sil_verifier_frames.proofs.sil_verifier_trails.AcceptedPlaces.Apart.{apart_by_cells}
use Rattle.sil_verifier_frames.proofs.sil_verifier_trails.AcceptedPlaces.LoansFull.{loans_full}
use Rattle.sil_verifier_frames.proofs.sil_verifier_trails.AcceptedPlaces.LoansKept.{loans_unwritten}
use Rattle.sil_verifier_frames.specs.sil_verifier_trails.AcceptedPlaces.inner.Cells.{IsDoneAt, mark_at, part_at}
use Rattle.sil_verifier_frames.specs.sil_verifier_trails.AcceptedPlaces.inner.Loans.{IsLentOn}
use Rattle.sil_verifier_frames.specs.sil_types.Typing.Shapes.{is_trivial_object, target}
use Rattle.sil_verifier_frames.specs.sil_verifier_values.inner.Known.{IsAcceptedBody, type_in}
use Rattle.sil_cfg_items.specs.Parts.{inst_at}
use Rattle.sil_verifier_frames.specs.holder_model_laws.HolderLaws.inner.Cells.Cells.{ChangesAt, cell_at, has_cell}
use Rattle.sil_verifier_frames.proofs.holder_model_laws.HolderLaws.Cells.PlaceCells.{not_cell}
use Rattle.sil_verifier_frames.proofs.holder_model_laws.HolderLaws.Cells.Writes.{emptied_changes, filled_changes}
use Rattle.holder_model_values.specs.RunValues.inner.Fits.{fits}
use Rattle.holder_model_values.specs.RunValues.Memory.{Memory}
use Rattle.holder_model_values.specs.RunValues.Places.{OnStack, Place, emptied, filled}
use Rattle.holder_model_values.specs.RunValues.Values.{Value}
use Rattle.sil_ast.specs.declared.function.Function.{Function}
use Rattle.sil_ast.specs.declared.inst.Inst.{Inst}
use Rattle.sil_ast.specs.declared.module.Module.{Module}
use Rattle.sil_ast.specs.declared.place.PointId.{PointId}
use Rattle.sil_ast.specs.declared.place.ValueId.{ValueId}
use Rattle.sil_ast.specs.declared.type_name.TypeName.{TypeName}
use Rattle.sil_cfg.specs.declared.item.Item.{Item}
use Rattle.sil_cfg.specs.declared.item.Item.TheVariants as item
use Rattle.sil_types_declarations.specs.TypeDefinitions.Declarations.{declarations_of}
use Rattle.sil_verifier_frames.specs.inner.Placed.FramePlaces.{HoldsPlaces, IsFree, Names}
use Rattle.sil_verifier_frames.specs.inner.Placed.Roots.{IsThere, full_by, is_full_on, is_shared}
use Rattle.sil_verifier_frames.specs.inner.Placed.TrailLaws.{TrailLaws}
use Rattle.sil_verifier_frames.proofs.Placed.AtPlaces.{StandsAt}
use Rattle.sil_verifier_frames.proofs.Placed.AtPlaces as at_places
use Rattle.sil_verifier_frames.proofs.Placed.Contents.{FoundAt, IsOnStack, IsRootPart, OperatesAt, on_stack, own_cell, root_part}
use Rattle.sil_verifier_frames.proofs.Placed.Lending.{off_needed}
use Rattle.sil_verifier_frames.proofs.Placed.Locating.{IsInObject, IsOperandAt}
use Rattle.sil_verifier_frames.proofs.Placed.Operating.{Fills, leaves_empty, leaves_full}
use Rattle.sil_verifier_frames.proofs.Placed.Reading.{IsWithin, root_itself}
use Rattle.sil_verifier_frames.proofs.Placed.RootsShaped.{root_trivial}
use Rattle.sil_verifier_frames.proofs.Placed.RowsHeld.{stack_stays}
use Rattle.sil_verifier_runs.proofs.Loans.Clear.{other_location, other_root, same_root}
use Rattle.sil_verifier_runs.proofs.Loans.LoanAt.{LendsCell}

-- what changes what is at its place
pub data Changes : Operation → Type 0 where
  fills : {o : Operation} → Fills o → Changes o
  takes : Changes Take

module _ (laws : TrailLaws) (m : Module) (number : ℕ) (f : Function) (body : IsAcceptedBody m number f) (memory : Memory) (frame : Frame) (rest : List (Task Frame))
    (h : HoldsPlaces m memory f frame rest) (i : Item) (trail : IsRunTrail f (i ∷ frame.trail)) where
  -- a cell that a scope lends which is open behind the ends of the item
  pub record IsLentCell (n : ℕ) : Type 0 where
    pub scope : ValueId
    pub cell : LendsCell m f frame scope n
    pub on : IsLentOn (declarations_of m) f frame.trail i scope cell.address

  -- its root is full
  pub full_root : (n : ℕ) (x : IsLentCell n) → is_full_on (declarations_of m) f x.cell.location.root frame.trail ≡ Some true
  full_root n x = at (part_at (declarations_of m) f x.cell.location.root) refl (root_part laws m number f body x.cell.location.root on)
    where
      on : IsOnStack (source_at (sources_of (declarations_of m) f) x.cell.location.root)
      on = on_stack laws m number f body frame.trail x.cell.location.root x.cell.root.there

      at : (o : Option Part) → part_at (declarations_of m) f x.cell.location.root ≡ o → IsRootPart laws m number f body x.cell.location.root o
          → is_full_on (declarations_of m) f x.cell.location.root frame.trail ≡ Some true
      at _ e IsRootPart.full = ap (full_by (declarations_of m) f frame.trail) e
      at _ e (IsRootPart.followed trivial left there) =
          let same = own_cell laws m number f body x.cell.location.root on in
          ap (full_by (declarations_of m) f frame.trail) e
          ∙ ap (λ c. is_on (declarations_of m) f (Contents c trivial left) frame.trail) (sym same)
          ∙ loans_full m number f body frame.trail trail.1 x.scope x.cell.address x.on.there x.on.lent x.cell.location x.cell.at trivial left
          (subst (λ c. IsPartOf (declarations_of m) f (Contents c trivial left)) (sym same) there)

module _ (laws : TrailLaws) (m : Module) (number : ℕ) (f : Function) (body : IsAcceptedBody m number f) (memory : Memory) (frame : Frame) (rest : List (Task Frame))
    (h : HoldsPlaces m memory f frame rest) (point : PointId) (trail : IsRunTrail f (item.Inst point ∷ frame.trail)) (x : Inst) (v : ValueId) (o : Operation) (p : Place)
    (operand : IsOperandAt laws m number f body frame.trail v) (names : Names frame.entries v p) where
  abbrev IsLent : ℕ → Type 0
  IsLent n = IsLentCell laws m number f body memory frame rest h (item.Inst point) trail n

  -- the instruction does this one thing, at the place of the operand; a trivial store is one at a trivial type
  pub record DoesThere : Type 0 where
    pub inst : inst_at f point ≡ Some x
    pub goes : GoesOn frame.trail
    pub none_lent : frame.lent ≡ []
    pub does : OperatesAt laws m number f body x v o
    pub trivially : o ≡ TrivialStore → (ty t : TypeName) → type_in (declarations_of m) f v ≡ Some ty → target ty ≡ Some t → is_trivial_object (declarations_of m) t ≡ true
    pub address : (ty t : TypeName) × (type_in (declarations_of m) f v ≡ Some ty) × (target ty ≡ Some t)

  module _ (s : DoesThere) where
    done : IsDoneAt (declarations_of m) f point (operated v o) operand.location
    done = record {
      inst = x;
      is = s.inst;
      among = subst (λ os. Contains os (operated v o)) (sym s.does.operations) (Contains-push [] (operated v o));
      at = operand.is;
    }

    module _ (there : IsThere (declarations_of m) f frame.trail operand.location.root) where
      stands : StandsAt laws m number f body frame frame rest memory point x v o operand.location p
      unfolding done
      stands = record {
        holds = h;
        none_lent = s.none_lent;
        goes = s.goes;
        inst = s.inst;
        trail = trail;
        does = s.does;
        location = operand.is;
        row = laws.rows (declarations_of m) f (laws.accepted m number f body) (item.Inst point) x s.inst (operated v o) done.among operand.location operand.is;
        there = there;
        made = operand.made;
        names = names;
      }

      found : FoundAt laws m number f body frame.trail (item.Inst point) operand.location o
      found = at_places.found laws m number f body frame frame rest memory point x v o operand.location p stands

      w : IsWithin m memory f frame rest v operand.location p
      w = at_places.within laws m number f body frame frame rest memory point x v o operand.location p stands

      abbrev is_trivial_root : Bool
      is_trivial_root = is_trivial_at (sources_of (declarations_of m) f) operand.location.root

      -- who changes something is alone there
      alone : Changes o → is_shared (declarations_of m) f operand.location.root ≡ false
      alone how = by o how stands.row found.found
        where
          by : (z : Operation) → Changes z → has_operation (sources_of (declarations_of m) f) operand.location z ≡ true
              → finds (mark_at (declarations_of m) f operand.location z).needs found.on ≡ true → is_shared (declarations_of m) f operand.location.root ≡ false
          by z (fills how) row needs =
              (leaves_full (sources_of (declarations_of m) f) (source_at (sources_of (declarations_of m) f) operand.location.root)
              (on_stack laws m number f body frame.trail operand.location.root there) is_trivial_root (is_part operand.location) found.on z how row needs).alone
          by _ takes row needs =
              (leaves_empty (sources_of (declarations_of m) f) (source_at (sources_of (declarations_of m) f) operand.location.root)
              (on_stack laws m number f body frame.trail operand.location.root there) is_trivial_root (is_part operand.location) found.on row).alone

      -- the cell of another root
      apart_root : Changes o → (n : ℕ) (l : IsLent n) → (operand.location.root.0 == l.cell.location.root.0) ≡ false → has_cell p n ≡ true → ⊥
      apart_root how n l differ has =
          other_root m f memory frame rest h l.scope n l.cell operand.location.root there differ
          (ap (λ b. b && is_shared (declarations_of m) f l.cell.location.root) (alone how)) w.whole w.names (w.within n has)

      differ_where : (n : ℕ) (l : IsLent n) → (operand.location.root ≡ l.cell.location.root → ⊥) → (operand.location.root.0 == l.cell.location.root.0) ≡ false
      differ_where n l never = false_from_ne_true _ (λ e. never (same_root operand.location.root l.cell.location.root e))

      -- what is written doesn't overlap
      unwritten : Changes o → (n : ℕ) (l : IsLent n) → writes (is_part operand.location) o ≡ true → has_cell p n ≡ true → ⊥
      unwritten how n l writing has =
          other_location m f memory frame rest h l.scope n l.cell apart_by_cells v operand.location operand.is there operand.made (alone how) p names
          (loans_unwritten m number f body frame.trail point trail l.scope l.cell.address l.on (operated v o) operand.location done writing) has

      -- a first write finds its root empty
      first_write : o ≡ FirstWrite → Changes o → (n : ℕ) (l : IsLent n) → has_cell p n ≡ true → ⊥
      first_write is how n l has = apart_root how n l (differ_where n l (λ same. at same)) has
        where
          off : found.on ≡ false
          off = off_needed found.on (subst (λ z. finds (mark_at (declarations_of m) f operand.location z).needs found.on ≡ true) is found.found)

          at : operand.location.root ≡ l.cell.location.root → ⊥
          at same = true≢false (sym (same_Some found.on true (sym found.was
              ∙ ap (λ r. is_full_on (declarations_of m) f r frame.trail) same
              ∙ full_root laws m number f body memory frame rest h (item.Inst point) trail n l)) ∙ off)

      -- a trivial store to the whole is at a trivial root
      trivial_store : o ≡ TrivialStore → is_part operand.location ≡ false → Changes o → (n : ℕ) (l : IsLent n) → has_cell p n ≡ true → ⊥
      trivial_store is whole how n l has = apart_root how n l (differ_where n l (λ same. at same)) has
        where
          itself : operand.location.root ≡ v
          itself = root_itself (sources_of (declarations_of m) f) v operand.location operand.is whole

          at : operand.location.root ≡ l.cell.location.root → ⊥
          at same =
              let ty = s.address in
              let trivial = s.trivially is ty.0 ty.1 ty.2 ty.3 in
              let of_root = root_trivial m number f body frame.trail v (subst (IsThere (declarations_of m) f frame.trail) itself there) ty.0 ty.1 ty.2 ty.3 in
              true≢false (sym (of_root ∙ trivial)
              ∙ ap (is_trivial_at (sources_of (declarations_of m) f)) (sym itself ∙ same) ∙ l.cell.root.nontrivial)

      pub cell_clear : Changes o → (n : ℕ) → IsLent n → has_cell p n ≡ true → ⊥
      cell_clear how n l has = by o refl how
        where
          by : (z : Operation) → o ≡ z → Changes z → ⊥
          by _ e (fills Fills.first) = first_write e how n l has
          by _ e (fills Fills.write) = unwritten how n l (ap (writes (is_part operand.location)) e) has
          by _ e (fills Fills.store) = part (is_part operand.location) refl
            where
              part : (b : Bool) → is_part operand.location ≡ b → ⊥
              part true k = unwritten how n l (ap (writes (is_part operand.location)) e ∙ k) has
              part false k = trivial_store e k how n l has
          by _ e takes = unwritten how n l (ap (writes (is_part operand.location)) e) has

      pub cell_free : Changes o → (n : ℕ) → has_cell p n ≡ true → IsFree m rest n
      cell_free how n has = h.free operand.location.root there (alone how) w.whole w.names n (w.within n has)

    -- ---- memory behind it

    pub record IsUndisturbed (after : Memory) : Type 0 where
      pub lent : (n : ℕ) → IsLent n → cell_at after OnStack n ≡ cell_at memory OnStack n
      pub below : (n : ℕ) → IsFree m rest n ⊎ (cell_at after OnStack n ≡ cell_at memory OnStack n)

    stays : (after : Memory) → after.stack ≡ memory.stack → IsUndisturbed after
    stays after same = record { lent = λ n l. ap (λ cells. slice_get cells n) same; below = λ n. inr (ap (λ cells. slice_get cells n) same) }

    at_place : Changes o → (after : Memory) → (IsThere (declarations_of m) f frame.trail operand.location.root → ChangesAt p memory after)
        → (IsInObject laws m number f body operand.location.root → after.stack ≡ memory.stack) → IsUndisturbed after
    at_place how after changes inner = ⊎_elim
        (λ (there : IsThere (declarations_of m) f frame.trail operand.location.root). record {
          lent = λ n l. (changes there).others OnStack n (λ e. not_cell p n (λ has. cell_clear there how n l has));
          below = λ n. by there n (has_cell p n) refl;
        })
        (λ (field : IsInObject laws m number f body operand.location.root). stays after (inner field))
        operand.root
      where
        by : (there : IsThere (declarations_of m) f frame.trail operand.location.root) (n : ℕ) (b : Bool) → has_cell p n ≡ b
            → IsFree m rest n ⊎ (cell_at after OnStack n ≡ cell_at memory OnStack n)
        by there n true has = inl (cell_free there how n has)
        by there n false out = inr ((changes there).others OnStack n (λ e. out))

    no_stack : IsInObject laws m number f body operand.location.root → p.home ≡ OnStack → ⊥
    no_stack field home = h.fields v operand.location operand.is field.of field.place field.trivial field.source p names home

    pub filled_undisturbed : (y : Value) → Fills o → fits p.shape y ≡ true → IsUndisturbed (filled memory p y)
    filled_undisturbed y how fit =
        at_place (fills how) (filled memory p y) (λ there. filled_changes memory p y (w there).inside fit) (λ field. stack_stays memory p.home _ (no_stack field))

    pub emptied_undisturbed : o ≡ Take → IsUndisturbed (emptied memory p)
    emptied_undisturbed how =
        at_place (subst Changes (sym how) takes) (emptied memory p) (λ there. emptied_changes memory p (w there).inside) (λ field. stack_stays memory p.home _ (no_stack field))
