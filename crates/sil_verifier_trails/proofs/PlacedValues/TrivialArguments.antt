-- An argument of a trivial type stays full where it was given so: nothing is taken from it.
use Rattle.std.proofs.Common.{◌≡◌, inl, inr, ℕ, zero, suc, List, [], ◌∷◌, ◌++◌, refl, sym, ap, ◌∙◌, subst, Bool, true, false, not, ◌&&◌, ◌||◌, Option, Some, None}
use Rattle.std.specs.Prelude.{Contains, cond, is_some, length, option_and_then, slice_get}
use Rattle.std.proofs.lemmas.Bool.{and_parts, eqb-true, false≢true, not-false, not-true, true≢false}
use Rattle.std.proofs.lemmas.Option.{none-some, same_Some}
use Rattle.argument_conventions.specs.Arguments.{argument_type, arguments_of, handed_type}
use Rattle.argument_conventions.specs.Rows.{address_row}
use Rattle.argument_conventions.specs.declared.convention.ArgumentConvention.{ArgumentConvention}
use Rattle.argument_conventions.specs.declared.convention.ArgumentConvention.TheVariants as convention
use Rattle.argument_conventions.specs.declared.row.AddressRow.{AddressRow}
use Rattle.argument_conventions.specs.declared.row.Content.{Content}
use Rattle.argument_conventions.specs.declared.row.Content.TheVariants.{Empty, Full}
use Rattle.sil_verifier_values.specs.memory_rules_accesses.Accesses.{made_by}
use Rattle.sil_verifier_values.specs.memory_rules_accesses.Locations.{cell_by, cell_of, extended, field_cell, locate, located_by, location_of, object_built, whole}
use Rattle.sil_verifier_values.specs.memory_rules_accesses.Operations.{access_kind_of, load_operation, operated, operation_by, operations_of, store_operation}
use Rattle.sil_verifier_values.specs.memory_rules_accesses.Rows.{has_by, has_operation, has_steps, is_part, shared_has, slot_has}
use Rattle.sil_verifier_values.specs.memory_rules_accesses.Sources.{is_slot, is_slot_source, is_trivial_at, is_trivial_source, source_at, sources_of}
use Rattle.sil_verifier_values.specs.memory_rules_accesses.declared.access.Access.TheVariants.{Deallocates, Does}
use Rattle.sil_verifier_values.specs.memory_rules_accesses.declared.access.Operated.{Operated}
use Rattle.sil_verifier_values.specs.memory_rules_accesses.declared.access.Operation.{Operation}
use Rattle.sil_verifier_values.specs.memory_rules_accesses.declared.access.Operation.TheVariants.{FirstWrite, Handed, Lend, Read, Take, TrivialStore, Write}
use Rattle.sil_verifier_values.specs.memory_rules_accesses.declared.location.Location.{Location}
use Rattle.sil_verifier_values.specs.memory_rules_accesses.declared.source.Source.{Source}
use Rattle.sil_verifier_values.specs.memory_rules_accesses.declared.source.Source.TheVariants as source
use Rattle.sil_verifier_values.specs.memory_rules_parts.Contents.{at_location, counts_at_part, deallocation_mark, given_mark, handed_mark, operation_mark, same_cell}
use Rattle.sil_verifier_values.specs.memory_rules_parts.Parts.{at_return, whole_cell}
use Rattle.sil_verifier_values.specs.memory_rules_parts.Switches.{is_same, when}
use Rattle.sil_verifier_values.specs.memory_rules_parts.declared.part.Part.{Part}
use Rattle.sil_verifier_values.specs.memory_rules_parts.declared.part.Part.TheVariants.{Contents}
use Rattle.sil_verifier_values.specs.ownership_kinds_origins.Facts.{facts_in}
use Rattle.sil_verifier_trails.specs.RunTrails.inner.RunTrails.{GoesOn, IsNext, IsRunTrail}
use Rattle.sil_verifier_trails.specs.AcceptedMemory.inner.PartTrails.{IsPartOf, accesses_in, is_on}
use Rattle.sil_verifier_trails.proofs.AcceptedMemory.PartsTurned.{turn_by}
use Rattle.sil_verifier_values.specs.sil_types.Typing.FormRules.{has_word_by, has_wrong_qualifier, is_owned_form, is_read_word}
use Rattle.sil_verifier_values.specs.sil_types.Typing.RowTypes.{given_by, passes, type_of, written}
use Rattle.sil_verifier_values.specs.sil_types.Typing.Shapes.{in_unowned, in_weak, is_nontrivial, is_object}
use Rattle.sil_verifier_values.specs.sil_types.Typing.Shapes.{is_object_layer, is_storage, is_storage_layer, is_trivial_object}
use Rattle.sil_verifier_values.specs.sil_types.Typing.Shapes.{target, unowned_at, unowned_in, weak_at, weak_in, where_it}
use Rattle.sil_verifier_values.specs.sil_types.Typing.OperandTypes.{is_as_written}
use Rattle.sil_verifier_values.specs.sil_types.Typing.Typed.{BreaksAtPoint, at_point, point}
use Rattle.sil_verifier_values.specs.sil_types.Typing.Values.{value_types}
use Rattle.sil_verifier_values.specs.inner.Known.{IsAcceptedBody, type_in}
use Rattle.sil_verifier_values.proofs.holder_model_typing.RunTypingLaws.Rows.Layers.{target-Address}
use Rattle.sil_verifier_values.proofs.Accepted.{in_ownership_form, typed, well_typed}
use Rattle.sil_verifier_values.proofs.TableRows.{argument_rows}
use Rattle.sil_verifier_values.proofs.Parameters.{entry_pairs, pair_at, told_of}
use Rattle.sil_verifier_values.proofs.Written.{written_type}
use Rattle.sil_verifier_values.proofs.holder_model_typing.RunTypingLaws.FunctionFacts.{TypedInst}
use Rattle.sil_verifier_values.proofs.holder_model_typing.RunTypingLaws.Rows.Finding.{found_behind, mapped_some, never_passes, passed, passes_at, where_found}
use Rattle.numbered_form.proofs.Lists.{mapped_from}
use Rattle.sil_verifier_values.proofs.holder_model_typing.RunTypingLaws.ValueForms.{operands_written, row_kept}
use Rattle.sil_verifier_values.specs.sil_types.Typing.SignatureRules.{is_argument_for}
use Rattle.instruction_table.specs.Forms.{type_words_of}
use Rattle.instruction_table.specs.declared.op.Op.{Op}
use Rattle.instruction_table.specs.declared.op.Op.TheVariants as op
use Rattle.sil_cfg_items.specs.Items.{item_defined}
use Rattle.sil_cfg_items.specs.Parts.{item_inst}
use Rattle.numbered_form.specs.Lists.{Each}
use Rattle.numbered_form.specs.inner.Parts.{has_operands, is_typed}
use Rattle.sil_verifier_values.specs.reach_engine_marks.declared.path_patterns.mark.Mark.{Mark}
use Rattle.numbered_form.proofs.PointChecks.Among.{Among, among_contained}
use Rattle.numbered_form.specs.PointChecks.Points.{IsAt}
use Rattle.sil_ast.specs.Blocks.{args_of}
use Rattle.sil_ast.specs.declared.function.Form.TheVariants.{Ossa}
use Rattle.sil_ast.specs.declared.function.Function.{Function}
use Rattle.sil_ast.specs.declared.inst.Inst.{Inst}
use Rattle.sil_ast.specs.declared.inst.Qualifier.{Qualifier}
use Rattle.sil_ast.specs.declared.inst.Qualifier.TheVariants as word
use Rattle.sil_ast.specs.declared.module.Module.{Module}
use Rattle.sil_ast.specs.declared.operands.Operand.{Operand}
use Rattle.sil_ast.specs.declared.place.ValueId.{ValueId}
use Rattle.sil_ast.specs.declared.type_name.TypeName.{TypeName, out-TypeName}
use Rattle.sil_ast.specs.declared.type_name.TypeName.TheOpen.{TypeName-F, Unowned, Weak}
use Rattle.sil_cfg.specs.declared.item.Item.{Item}
use Rattle.sil_cfg.specs.declared.item.Item.TheVariants as item
use Rattle.sil_rules.specs.declared.rule.Rule.TheVariants as rule
use Rattle.sil_verifier_values.specs.sil_types_declarations.TypeDefinitions.Declarations.{Declarations, declarations_of}
use Rattle.sil_verifier_values.specs.sil_types_declarations.TypeDefinitions.Measures.{is_trivial}
use Rattle.sil_verifier_trails.specs.PlacedValues.inner.Arguments.{AreTrivialFull}
use Rattle.sil_verifier_trails.specs.AcceptedPlaces.inner.Cells.{is_full}
use Rattle.sil_verifier_trails.proofs.PlacedValues.ArgumentsTold.{arguments_told}
use Rattle.sil_verifier_trails.proofs.AcceptedPlaces.CellsKept.{given_so}
use Rattle.sil_verifier_trails.proofs.AcceptedPlaces.Done.{IsDoneBy, done_by, done_with, of_call, of_row, one_operand}
use Rattle.sil_verifier_trails.proofs.AcceptedPlaces.Followed.{item_leaves}
use Rattle.sil_verifier_trails.proofs.AcceptedPlaces.ItemStacks.{accepted_in}
use Rattle.sil_verifier_trails.proofs.AcceptedPlaces.Items.{accesses_each}
use Rattle.sil_verifier_trails.proofs.AcceptedPlaces.Made.{argument_there}
use Rattle.sil_verifier_trails.proofs.AcceptedPlaces.MadeOnce.{StaysOn, stays_on}
use Rattle.sil_verifier_trails.proofs.AcceptedPlaces.OperationsRight.{rows_right, stands_somewhere}
use Rattle.sil_verifier_trails.proofs.AcceptedPlaces.PartsThere.{part_there}
use Rattle.sil_verifier_trails.proofs.PlacedValues.Sourcing.{has_contained}

-- ---- which rows take from a place

data TakesBy (o : Op) (q : Qualifier) : Type 0 where
  load : o ≡ op.Load → q ≡ word.Take → TakesBy o q
  weak : o ≡ op.LoadWeak → TakesBy o q
  unowned : o ≡ op.LoadUnowned → TakesBy o q
  destroys : o ≡ op.DestroyAddr → TakesBy o q

load_take : (q : Qualifier) → load_operation q ≡ Take → q ≡ word.Take
load_take word.Plain e = absurd (cc)
load_take word.Copy e = absurd (cc)
load_take word.Take e = refl
load_take word.Trivial e = absurd (cc)
load_take word.Init e = absurd (cc)
load_take word.Assign e = absurd (cc)

store_take : (q : Qualifier) → store_operation q ≡ Take → ⊥
store_take word.Plain e = cc
store_take word.Copy e = cc
store_take word.Take e = cc
store_take word.Trivial e = cc
store_take word.Init e = cc
store_take word.Assign e = cc

takes_by : (o : Op) (q : Qualifier) → operation_by (access_kind_of o) q ≡ Some Take → TakesBy o q
takes_by op.Load q e = load refl (load_take q (same_Some (load_operation q) Take e))
takes_by op.LoadWeak q e = weak refl
takes_by op.LoadUnowned q e = unowned refl
takes_by op.DestroyAddr q e = destroys refl
takes_by op.LoadBorrow q e = absurd (cc)
takes_by op.Store q e = absurd (store_take q (same_Some (store_operation q) Take e))
takes_by op.StoreWeak q e = absurd (store_take q (same_Some (store_operation q) Take e))
takes_by op.StoreUnowned q e = absurd (store_take q (same_Some (store_operation q) Take e))
takes_by _ q e = absurd (none-some Take e)

-- ---- types that aren't those of trivial objects

nontrivial_not : (o t : Bool) → (o && not t) ≡ true → (o && t) ≡ false
nontrivial_not true true e = absurd (false≢true e)
nontrivial_not true false e = refl
nontrivial_not false t e = absurd (false≢true e)

no_object : (o t : Bool) → o ≡ false → (o && t) ≡ false
no_object true t e = absurd (true≢false e)
no_object false t e = refl

weak_layer : (l : TypeName-F TypeName) (t : TypeName) → weak_in l ≡ Some t → is_object_layer l ≡ false
weak_layer (Weak inner) t e = refl
weak_layer _ t e = absurd (none-some t e)

unowned_layer : (l : TypeName-F TypeName) (t : TypeName) → unowned_in l ≡ Some t → is_object_layer l ≡ false
unowned_layer (Unowned inner) t e = refl
unowned_layer _ t e = absurd (none-some t e)

storage_layer : (l : TypeName-F TypeName) → is_storage_layer l ≡ true → is_object_layer l ≡ false
storage_layer (Weak inner) e = refl
storage_layer (Unowned inner) e = refl
storage_layer _ e = absurd (false≢true e)

contained_among_at : (vs : List ValueId) (k : ℕ) (v : ValueId) → slice_get vs k ≡ Some v → Among v vs
contained_among_at [] k v e = absurd (cc)
contained_among_at (w ∷ vs) zero v e = inl (cc)
contained_among_at (w ∷ vs) (suc k) v e = inr (contained_among_at vs k v e)

-- what is taken isn't of the type of a trivial object
module _ (d : Declarations) where
  taken_types : (o b t : Bool) → (b ≡ true → o ≡ false) → ((o && not t) || b) ≡ true → (o && t) ≡ false
  taken_types true true t storage e = absurd (true≢false (storage refl))
  taken_types true false true storage e = absurd (false≢true e)
  taken_types true false false storage e = refl
  taken_types false b t storage e = refl

  not_trivial : (t : TypeName) → (is_nontrivial d t || is_storage t) ≡ true → is_trivial_object d t ≡ false
  not_trivial t = taken_types (is_object t) (is_storage t) (is_trivial d t) (storage_layer (out-TypeName t))

module _ (m : Module) (n : ℕ) (f : Function) (a : IsAcceptedBody m n f) where
  abbrev d : Declarations
  d = declarations_of m

  abbrev sources : List Source
  sources = sources_of d f

  module _ (b k : ℕ) (x : Inst) (here : IsAt f b k x) where
    known : TypedInst m f x
    known = (typed m n f a).insts b k x here

    -- the type at the first operand's address is one of which something may be taken
    record Taken : Type 0 where
      at : TypeName
      is : option_and_then target (written 0 x) ≡ Some at
      kept : is_trivial_object d at ≡ false

    word_kept : has_wrong_qualifier d f x ≡ false
    word_kept = never_passes _ (λ e. (well_typed m a.verified).typed (at_point n b k) rule.Qualifier (point n f b k x rule.Qualifier a.body.there here (BreaksAtPoint.qualifier e)))

    word_by : (o : Op) → x.op ≡ o → has_word_by (type_words_of o) d x ≡ true
    word_by o is =
        subst (λ y. has_word_by (type_words_of y) d x ≡ true) is
        (not-false (has_word_by (type_words_of x.op) d x)
        (subst (λ y. (is_owned_form y && not (has_word_by (type_words_of x.op) d x)) ≡ false) (in_ownership_form m n f a) word_kept))

    kept_by : (o : Op) → x.op ≡ o → is_some (given_by o d x) ≡ true
    kept_by o is = subst (λ y. is_some (given_by y d x) ≡ true) is (row_kept m f x known)

    takes_type : TakesBy x.op x.qualifier → Taken
    takes_type (load is q) =
        let fits : passes (is_read_word d word.Take) (option_and_then target (written 0 x)) ≡ true =
        subst (λ y. passes (is_read_word d y) (option_and_then target (written 0 x)) ≡ true) q (word_by op.Load is) in
        let it = passed (is_read_word d word.Take) (option_and_then target (written 0 x)) fits in
        record { at = it.0; is = it.1; kept = nontrivial_not (is_object it.0) (is_trivial d it.0) it.2 }
    takes_type (weak is) =
        let given = mapped_some (λ t. t ∷ []) (option_and_then weak_at (written 0 x)) (kept_by op.LoadWeak is) in
        let ty = found_behind weak_at (written 0 x) given.0 given.1 in
        let at = found_behind in_weak (target ty.0) given.0 ty.2 in
        record {
          at = at.0;
          is = ap (option_and_then target) ty.1 ∙ at.1;
          kept = no_object (is_object at.0) (is_trivial d at.0) (weak_layer (out-TypeName at.0) given.0 at.2);
        }
    takes_type (unowned is) =
        let given = mapped_some (λ t. t ∷ []) (option_and_then unowned_at (written 0 x)) (kept_by op.LoadUnowned is) in
        let ty = found_behind unowned_at (written 0 x) given.0 given.1 in
        let at = found_behind in_unowned (target ty.0) given.0 ty.2 in
        record {
          at = at.0;
          is = ap (option_and_then target) ty.1 ∙ at.1;
          kept = no_object (is_object at.0) (is_trivial d at.0) (unowned_layer (out-TypeName at.0) given.0 at.2);
        }
    takes_type (destroys is) =
        let given = mapped_some (λ t. []) (where_it (λ t. is_nontrivial d t || is_storage t) (option_and_then target (written 0 x))) (kept_by op.DestroyAddr is) in
        let at = where_found (λ t. is_nontrivial d t || is_storage t) (option_and_then target (written 0 x)) given.0 given.1 in
        record { at = given.0; is = at.0; kept = not_trivial d given.0 at.1 }

    -- it has one operand, the address
    record Alone : Type 0 where
      operand : Operand
      only : x.operands ≡ operand ∷ []
      does : Operation
      done : operations_of x ≡ operated operand.value does ∷ []

    has_by_op : (o : Op) → x.op ≡ o → has_operands o x.operands ≡ true
    has_by_op o is = subst (λ y. has_operands y x.operands ≡ true) is known.parts.operands

    one_with : (o : Op) → x.op ≡ o → (y : Operand) → x.operands ≡ y ∷ [] → (z : Operation) → done_with x o (y ∷ []) ≡ operated y.value z ∷ [] → Alone
    one_with o is y only z e = record { operand = y; only = only; does = z; done = ap (λ w. done_with x w x.operands) is ∙ ap (done_with x o) only ∙ e }

    takes_alone : TakesBy x.op x.qualifier → Alone
    takes_alone (load is q) = let one = one_operand is_typed x.operands (has_by_op op.Load is) in one_with op.Load is one.0 one.1 (load_operation x.qualifier) refl
    takes_alone (weak is) = let one = one_operand is_typed x.operands (has_by_op op.LoadWeak is) in one_with op.LoadWeak is one.0 one.1 (load_operation x.qualifier) refl
    takes_alone (unowned is) = let one = one_operand is_typed x.operands (has_by_op op.LoadUnowned is) in one_with op.LoadUnowned is one.0 one.1 (load_operation x.qualifier) refl
    takes_alone (destroys is) = let one = one_operand is_typed x.operands (has_by_op op.DestroyAddr is) in one_with op.DestroyAddr is one.0 one.1 Take refl

    one_address : (o : Operated) (w : ValueId) (z : Operation) → operations_of x ≡ operated w z ∷ [] → Contains (operations_of x) o → o.address ≡ w
    one_address o w z only c = by (subst (Among o) only (among_contained o (operations_of x) c))
      where
        by : Among o (operated w z ∷ []) → o.address ≡ w
        by (inl e) = ap (λ (y : Operated). y.address) e
        by (inr more) = absurd more

    -- so no address of a trivial object is taken from
    pub none_taken : (o : Operated) → Contains (operations_of x) o → o.operation ≡ Take → (ty t : TypeName) → type_in d f o.address ≡ Some ty → target ty ≡ Some t
        → is_trivial_object d t ≡ true → ⊥
    none_taken o c take ty t has_type points trivial = by (done_by x o c)
      where
        of_type : TakesBy x.op x.qualifier → ⊥
        of_type row =
            let one = takes_alone row in
            let given = takes_type row in
            let wrote = found_behind target (written 0 x) given.at given.is in
            let own : one.operand.ty ≡ Some wrote.0 = sym (ap (λ os. option_and_then type_of (slice_get os 0)) one.only) ∙ wrote.1 in
            let address : o.address ≡ one.operand.value = one_address o one.operand.value one.does one.done c in
            let kept : is_as_written (value_types d f) one.operand ≡ true =
            passes_at (is_as_written (value_types d f)) x.operands 0 one.operand (operands_written m f x known) (ap (λ os. slice_get os 0) one.only) in
            let as_written : type_in d f one.operand.value ≡ Some wrote.0 = written_type d f one.operand wrote.0 own kept in
            let same : ty ≡ wrote.0 = same_Some ty wrote.0 (sym has_type ∙ ap (type_in d f) address ∙ as_written) in
            let target_same : t ≡ given.at = same_Some t given.at (sym points ∙ ap target same ∙ wrote.2) in
            true≢false (sym trivial ∙ ap (is_trivial_object d) target_same ∙ given.kept)

        by : IsDoneBy x o → ⊥
        by (of_row e row) = of_type (takes_by x.op x.qualifier (row ∙ ap (λ y. Some y) take))
        by (of_call row is so e) = let two : Handed row ≡ Take = sym is ∙ take in cc

  -- ---- an argument of a trivial type

  module _ (v : ValueId) (row : AddressRow) (is : source_at sources v ≡ source.Argument row true) (full : row.before ≡ Full) (alone : row.shared ≡ false) where
    abbrev p : Part
    p = Contents (whole_cell v) true (Some row.after)

    p_there : IsPartOf d f p
    p_there = part_there d f v (source.Argument row true) is (λ x. cc) p (subst (λ b. Among p (cond b [] (p ∷ []))) (sym alone) (inl refl))

    unturned : (c : Content) → option_and_then (λ (y : Mark). y.turns) (at_return (Contents (whole_cell v) true (Some c))) ≡ None
    unturned Empty = refl
    unturned Full = refl

    of_told : (c : ArgumentConvention) (t : TypeName) → address_row c ≡ Some row → target (handed_type c t) ≡ Some t
    of_told convention.Plain t e = absurd (none-some row e)
    of_told convention.Owned t e = absurd (none-some row e)
    of_told convention.Guaranteed t e = absurd (none-some row e)
    of_told (convention.Address c) t e = target-Address t

    -- its type
    typed_so : (ty t : TypeName) × (type_in d f v ≡ Some ty) × (target ty ≡ Some t) × (is_trivial_object d t ≡ true)
    typed_so =
        let told = arguments_told m n f a v row true is in
        let x = argument_there (args_of f 0) told.number v told.is in
        let pair = pair_at (is_argument_for Ossa) (args_of f 0) (arguments_of f.signature) told.number x.0 (entry_pairs m n f a) x.1 in
        let same : pair.0 ≡ told.told = same_Some pair.0 told.told (sym pair.1 ∙ told.told_is) in
        let so = told_of m n f a told.number pair.0 x.0 pair.1 x.1 pair.2 in (
          x.0.ty,
          told.told.ty,
          ap (type_in d f) (sym x.2) ∙ (argument_rows m n f a 0 told.number x.0 x.1).typed,
          ap target (so.typed ∙ ap argument_type same) ∙ of_told told.told.convention told.told.ty told.row_is,
          sym told.trivial_is,
        )

    -- whose cell is at the argument lies at the argument itself
    itself_by : (root : ValueId) (s : Source) → source_at sources root ≡ s → same_cell (cell_by sources root s) (whole_cell v) ≡ true → root.0 ≡ v.0
    itself_by root (source.Slot trivial) at e = eqb-true root.0 v.0 (and_parts (is_same root v) true e).0
    itself_by root (source.Argument r trivial) at e = eqb-true root.0 v.0 (and_parts (is_same root v) true e).0
    itself_by root (source.Object fields) at e = eqb-true root.0 v.0 (and_parts (is_same root v) true e).0
    itself_by root (source.Borrow of) at e = eqb-true root.0 v.0 (and_parts (is_same root v) true e).0
    itself_by root (source.Upcast of) at e = eqb-true root.0 v.0 (and_parts (is_same root v) true e).0
    itself_by root (source.Loan of) at e = eqb-true root.0 v.0 (and_parts (is_same root v) true e).0
    itself_by root (source.Field of k trivial) at e = by (object_built sources of) e
      where
        by : (o : Option ValueId) → same_cell (field_cell o root k) (whole_cell v) ≡ true → root.0 ≡ v.0
        by None h = eqb-true root.0 v.0 (and_parts (is_same root v) true h).0
        by (Some object) h = absurd (false≢true (and_parts (is_same object v) false h).1)
    itself_by root (source.Part k j) at e = eqb-true root.0 v.0 (and_parts (is_same root v) true e).0
    itself_by root source.Other at e = eqb-true root.0 v.0 (and_parts (is_same root v) true e).0

    same_number : (u w : ValueId) → u.0 ≡ w.0 → u ≡ w
    same_number u w e = ap (λ (j : ℕ). record { 0 = j }) e

    -- a location of the whole is the address of the root alone
    whole_only : (u : ValueId) (l : Location) → location_of sources u ≡ Some l → l.root ≡ v → is_part l ≡ false → u ≡ v
    whole_only u l at root none = by (length sources) at
      where
        steps_behind : (path : List ℕ) (j : ℕ) → has_steps (path ++ j ∷ []) ≡ true
        steps_behind [] j = refl
        steps_behind (i ∷ path) j = refl

        located : (others : ValueId → Option Location) (s : Source) → located_by others u s ≡ Some l → u ≡ v
        located others (source.Slot trivial) e = ap (λ (y : Location). y.root) (same_Some (whole u) l e) ∙ root
        located others (source.Argument r trivial) e = ap (λ (y : Location). y.root) (same_Some (whole u) l e) ∙ root
        located others (source.Object fields) e = absurd (none-some l e)
        located others (source.Borrow of) e = absurd (none-some l e)
        located others (source.Upcast of) e = absurd (none-some l e)
        located others (source.Loan of) e = absurd (none-some l e)
        located others (source.Field of k trivial) e = ap (λ (y : Location). y.root) (same_Some (whole u) l e) ∙ root
        located others (source.Part of j) e =
            let from = mapped_from (extended j) (others of) l e in
            absurd (true≢false (sym (steps_behind from.0.path j) ∙ ap is_part from.2 ∙ none))
        located others source.Other e = absurd (none-some l e)

        by : (j : ℕ) → locate sources j u ≡ Some l → u ≡ v
        by zero e = absurd (none-some l e)
        by (suc j) e = located (locate sources j) (source_at sources u) e

    takes_none : (part : Bool) (o : Operation) → (o ≡ Take → ⊥) → (operation_mark true part o).turns ≡ Some false → ⊥
    takes_none part FirstWrite other e = cc
    takes_none part Read other e = cc
    takes_none part Lend other e = cc
    takes_none part Write other e = cc
    takes_none true TrivialStore other e = cc
    takes_none false TrivialStore other e = cc
    takes_none part (Handed r) other e = by r.before r.after e
      where
        by : (b c : Content) → (handed_mark true b c).turns ≡ Some false → ⊥
        by Full Full h = cc
        by Full Empty h = cc
        by Empty Full h = cc
        by Empty Empty h = cc
    takes_none part Take other e = other refl

    abbrev mark_at : Operated → Location → Mark
    mark_at o l = operation_mark (is_trivial_at sources l.root) (counts_at_part sources l o.operation) o.operation

    -- an operation there doesn't empty it
    does_stay : (i : Item) (x : Inst) → item_inst f i ≡ Some x → (o : Operated) → Contains (operations_of x) o → StaysOn (turn_by d f p (Does o))
    does_stay i x at o c e = by (location_of sources o.address) refl e
      where
        there : (l : Location) → location_of sources o.address ≡ Some l → l.root ≡ v → (mark_at o l).turns ≡ Some false → ⊥
        there l is_at root turns =
            takes_none (counts_at_part sources l o.operation) o.operation take
            (subst (λ t. (operation_mark t (counts_at_part sources l o.operation) o.operation).turns ≡ Some false)
            (ap (λ u. is_trivial_at sources u) root ∙ ap is_trivial_source is) turns)
          where
            take : o.operation ≡ Take → ⊥
            take taken =
                let row_has : has_operation sources l Take ≡ true = subst (λ y. has_operation sources l y ≡ true) taken (rows_right d f (accepted_in m n f a) i x at o c l is_at) in
                let as_argument : has_by sources (source.Argument row true) (is_part l) Take ≡ true =
                subst (λ s. has_by sources s (is_part l) Take ≡ true) (ap (source_at sources) root ∙ is) row_has in
                let no_part : is_part l ≡ false = not-true (is_part l) (subst (λ b. cond b (shared_has Take) (slot_has (is_part l) Take) ≡ true) alone as_argument) in
                let address : o.address ≡ v = whole_only o.address l is_at root no_part in
                let at_x = stands_somewhere f i x at in
                none_taken at_x.0 at_x.1 x at_x.2 o c taken typed_so.0 typed_so.1 (ap (type_in d f) address ∙ typed_so.2) typed_so.3 typed_so.4

        by : (q : Option Location) → location_of sources o.address ≡ q → option_and_then (λ (y : Mark). y.turns) (at_location sources (whole_cell v) o.operation q) ≡ Some false → ⊥
        by None located h = cc
        by (Some l) located h = at_cell (same_cell (cell_of sources l.root) (whole_cell v)) refl h
          where
            at_cell : (y : Bool) → same_cell (cell_of sources l.root) (whole_cell v) ≡ y → option_and_then (λ (z : Mark). z.turns) (when y (mark_at o l)) ≡ Some false → ⊥
            at_cell true same turns = there l located (same_number l.root v (itself_by l.root (source_at sources l.root) refl same)) turns
            at_cell false same turns = cc

    -- nor does anything else
    closes_stay : (w : ValueId) → StaysOn (turn_by d f p (Deallocates w))
    closes_stay w e = by (is_slot sources w) (is_same w v) refl refl e
      where
        by : (x y : Bool) → is_slot sources w ≡ x → is_same w v ≡ y
            → option_and_then (λ (z : Mark). z.turns) (when (x && y) (deallocation_mark true)) ≡ Some false → ⊥
        by true true slot same h =
            false≢true (sym (ap is_slot_source is) ∙ ap (is_slot sources) (sym (same_number w v (eqb-true w.0 v.0 same))) ∙ slot)
        by true false slot same h = cc
        by false y slot same h = cc

    same_source : (w : ValueId) (s : Source) → source_at sources w ≡ s → is_same w v ≡ true → s ≡ source.Argument row true
    same_source w s at same = sym at ∙ ap (source_at sources) (same_number w v (eqb-true w.0 v.0 same)) ∙ is

    turns_when : (y : Bool) (k : Mark) → (y ≡ true → k.turns ≡ Some false → ⊥) → option_and_then (λ (z : Mark). z.turns) (when y k) ≡ Some false → ⊥
    turns_when true k none h = none refl h
    turns_when false k none h = cc

    full_on_given : (r : AddressRow) → r.before ≡ Full → (given_mark r.before).turns ≡ Some false → ⊥
    full_on_given r e h = let two : (given_mark Full).turns ≡ Some false = ap (λ c. (given_mark c).turns) (sym e) ∙ h in cc

    makes_stay : (w : ValueId) (s : Source) → source_at sources w ≡ s → Each (λ x. StaysOn (turn_by d f p x)) (made_by w s)
    makes_stay w (source.Slot trivial) at =
        (turns_when (is_same w v) _ (λ same h. let two : source.Slot trivial ≡ source.Argument row true = same_source w (source.Slot trivial) at same in cc), tt)
    makes_stay w (source.Argument r trivial) at = (
      turns_when (is_same w v) (given_mark r.before) (λ same h.
          let two : source.Argument r trivial ≡ source.Argument row true = same_source w (source.Argument r trivial) at same in
          let rows : r ≡ row = cc in
          full_on_given r (ap (λ (y : AddressRow). y.before) rows ∙ full) h),
      tt,
    )
    makes_stay w (source.Object fields) at =
        (turns_when (is_same w v) _ (λ same h. let two : source.Object fields ≡ source.Argument row true = same_source w (source.Object fields) at same in cc), tt)
    makes_stay w (source.Borrow of) at = tt
    makes_stay w (source.Upcast of) at = tt
    makes_stay w (source.Loan of) at = tt
    makes_stay w (source.Field of k trivial) at = tt
    makes_stay w (source.Part k j) at = tt
    makes_stay w source.Other at = tt

    all_stay : (i : Item) → Each (λ x. StaysOn (turn_by d f p x)) (accesses_in d f i)
    all_stay i =
        accesses_each (λ x. StaysOn (turn_by d f p x)) sources (facts_in d f) f i (λ w e. cc) (λ w e. cc) (λ w b e. cc)
        (λ x at o c. does_stay i x at o c) (λ x at closes w c. closes_stay w) (λ w c. makes_stay w (source_at sources w) refl)

    goes_before : (j : Item) (t : List Item) (i : Item) → IsNext f (j ∷ t) i → GoesOn (j ∷ t)
    goes_before item.Entry t i h = tt
    goes_before (item.Inst q) t i h = tt
    goes_before (item.Edge q) t i h = tt
    goes_before (item.Exit q) t i h = absurd h

    first_full : (i : Item) → IsRunTrail f (i ∷ []) → is_on d f p (i ∷ []) ≡ Some true
    first_full item.Entry h =
        let told = arguments_told m n f a v row true is in
        given_so m n f a v row true is alone
        (has_contained (item_defined f item.Entry) v (contained_among_at (item_defined f item.Entry) told.number v told.is))
        ∙ ap (λ c. Some (is_full c)) full
    first_full (item.Inst q) h = absurd h.0
    first_full (item.Edge q) h = absurd h.0
    first_full (item.Exit q) h = absurd h.0

    pub full_on : (t : List Item) → IsRunTrail f t → GoesOn t → is_on d f p t ≡ Some true
    full_on [] h goes = absurd goes
    full_on (i ∷ []) h goes = first_full i h
    full_on (i ∷ j ∷ t) h goes =
        item_leaves d f (accepted_in m n f a) p p_there (unturned row.after) (j ∷ t) i h true (full_on (j ∷ t) h.1 (goes_before j t i h.0))
        ∙ ap Some (stays_on (turn_by d f p) (accesses_in d f i) (all_stay i))

pub trivial_full : AreTrivialFull
trivial_full m n f a t h goes v row is full alone = full_on m n f a v row is full alone t h goes
