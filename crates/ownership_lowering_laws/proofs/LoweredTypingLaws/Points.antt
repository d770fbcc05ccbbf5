-- The instructions that stand in the place of one are typed with new numbers, and of lowered form.
use Rattle.std.proofs.Common.{◌≡◌, ℕ, ◌+◌, List, [], ◌∷◌, ◌++◌, length, map, refl, sym, ap, ap₂, ◌∙◌, subst, arith, cond, Bool, true, false, not, Option, Some}
use Rattle.std.proofs.Common.{None}
use Rattle.std.specs.Prelude.{◌&&◌, ◌<◌, ◌==◌, pos, is_some, option_and_then, option_map, slice_get, unwrap_or, if◌then◌else◌}
use Rattle.std.specs.List.{flat_map, list_all, range_with_len}
use Rattle.std.proofs.lemmas.Bool.{and_from, and_parts}
use Rattle.instruction_table.specs.Forms.{bare_operands_of, ending_of, ends, forms_of, is_terminator, results_of}
use Rattle.instruction_table.specs.declared.entries.BareOperands.TheVariants.{NoBare}
use Rattle.instruction_table.specs.declared.entries.Ending.{Ending}
use Rattle.instruction_table.specs.declared.entries.Ending.TheVariants as ending
use Rattle.instruction_table.specs.declared.entries.InForms.TheVariants.{LoweredForm}
use Rattle.instruction_table.specs.declared.entries.Results.TheVariants.{NoResult}
use Rattle.instruction_table.specs.declared.op.Op.{Op}
use Rattle.instruction_table.specs.declared.op.Op.TheVariants as op
use Rattle.numbered_form.specs.Lists.{Each}
use Rattle.numbered_form.specs.Names.{Name}
use Rattle.numbered_form.specs.Numbering.{results_of as values_of_results}
use Rattle.numbered_form.specs.inner.Parts.{are_edges_by}
use Rattle.sil_ast.specs.declared.decl.Field.{Field}
use Rattle.sil_ast.specs.declared.function.Function.{Function}
use Rattle.sil_ast.specs.declared.inst.Edge.{Edge}
use Rattle.sil_ast.specs.declared.inst.Inst.{Inst}
use Rattle.sil_ast.specs.declared.inst.Qualifier.TheVariants as word
use Rattle.sil_ast.specs.declared.member.Member.{Member}
use Rattle.sil_ast.specs.declared.module.Module.{Module}
use Rattle.sil_ast.specs.declared.operands.Operand.{Operand}
use Rattle.sil_ast.specs.declared.place.ValueId.{ValueId}
use Rattle.sil_ast.specs.declared.type_name.TypeName.{TypeName}
use Rattle.sil_types_declarations.specs.TypeDefinitions.Declarations.{Declarations, declarations_of}
use Rattle.sil_types_declarations.specs.TypeDefinitions.Rules.{is_class_type}
use Rattle.holder_model_typing.specs.sil_types.Typing.FormRules.{has_no_word, is_of_form, may_stand_lowered, may_stand_owned}
use Rattle.holder_model_typing.specs.sil_types.Typing.OperandTypes.{are_as_asked_by, are_as_written, edge_is_as_written, has_operand_types, is_as_written_by}
use Rattle.holder_model_typing.specs.sil_types.Typing.ResultCounts.{is_count_by}
use Rattle.holder_model_typing.specs.sil_types.Typing.RowTypes.{MadeTypes, given_by, gives, is_counted_value, passes, row_types, takes, type_of}
use Rattle.holder_model_typing.specs.sil_types.Typing.Same.{is_same_type}
use Rattle.holder_model_typing.specs.sil_types.Typing.Shapes.{element_at, element_of, elements, field_type, is_nontrivial, is_object, object_at, struct_field, target, where_it}
use Rattle.holder_model_typing.specs.sil_types.Typing.Values.{arg_has, result_types, type_at, value_types}
use Rattle.ownership_lowering_model.specs.Extracts.{element_extracts, field_extracts, member_of}
use Rattle.ownership_lowering_model.specs.LoweredBlocks.{value_with}
use Rattle.ownership_lowering_model.specs.LoweredInsts.{becomes, lowering_of, plain_load, plain_store}
use Rattle.ownership_lowering_model.specs.NewInsts.{load, loaded_from, release, retain, struct_extract, tuple_extract, with_operands}
use Rattle.ownership_lowering_model.specs.Numbers.{renumbered_edge, renumbered_inst, renumbered_operand}
use Rattle.ownership_lowering_model.specs.declared.lowering.Lowering.TheVariants as lowering
use Rattle.holder_model_typing.proofs.RunTypingLaws.Found.{each_at}
use Rattle.holder_model_typing.proofs.RunTypingLaws.ListFacts.{get_below}
use Rattle.numbered_form.proofs.Lists.{empty_is}
use Rattle.ownership_lowering_laws.proofs.LoweredTypingLaws.Becomes.{Becomes, IsCounted, IsLoad, IsOne, at_storage, assigns, becomes_so, by_elements, by_fields, copies, destroys}
use Rattle.ownership_lowering_laws.proofs.LoweredTypingLaws.Becomes.{loads, object_there, releases, retains, stays, stores, vanishes}
use Rattle.ownership_lowering_laws.proofs.LoweredTypingLaws.Fields.{fields_again}
use Rattle.ownership_lowering_laws.proofs.LoweredTypingLaws.NewTypes.{spare_destroyed, spare_stored, spare_type}
use Rattle.ownership_lowering_laws.proofs.LoweredTypingLaws.Operands.{typed_at}
use Rattle.ownership_lowering_laws.proofs.LoweredTypingLaws.Renumbered.{AreSameAlong, IsSame, typed_alike}
use Rattle.ownership_lowering_laws.proofs.LoweredTypingLaws.SelfSame.{same_self}
use Rattle.ownership_lowering_laws.proofs.LoweredTypingLaws.Sound.{Sound, SoundInside, Source}
use Rattle.ownership_lowering_laws.proofs.LoweredTypingLaws.Told.{InstTold}

-- the instructions that lowering writes anew
abbrev pub is_made : Op → Bool
is_made op.Load = true
is_made op.Store = true
is_made op.StructExtract = true
is_made op.TupleExtract = true
is_made op.StrongRetain = true
is_made op.StrongRelease = true
is_made op.RetainValue = true
is_made op.ReleaseValue = true
is_made _ = false

-- an instruction that stays may stand in lowered code, where it may stand in ownership form
stays_form : (o : Op) (i : Inst) → lowering_of o ≡ lowering.Stays → may_stand_owned (forms_of o) ≡ true → may_stand_lowered (forms_of o) i ≡ true
stays_form op.CopyValue i e form = cc
stays_form op.DestroyValue i e form = cc
stays_form op.MoveValue i e form = cc
stays_form op.BeginBorrow i e form = cc
stays_form op.EndBorrow i e form = cc
stays_form op.Load i e form = cc
stays_form op.Store i e form = cc
stays_form op.LoadBorrow i e form = cc
stays_form op.DestroyAddr i e form = cc
stays_form op.DestructureStruct i e form = cc
stays_form op.DestructureTuple i e form = cc
stays_form _ i e form = refl

no_edges : (x : Ending) (es : List Edge) → ends x ≡ false → are_edges_by x es ≡ true → es ≡ []
no_edges ending.Inside es e h = empty_is es h
no_edges ending.OneBranch es e h = cc
no_edges ending.TwoBranches es e h = cc
no_edges ending.Cases es e h = cc
no_edges ending.Return es e h = cc
no_edges ending.Unreachable es e h = cc

-- an instruction, in old names, that is typed with new numbers where values have the types of this table
module _ (m : Module) (f : Function) (num : ValueId → ValueId) (new : List (Option TypeName)) where
  abbrev d : Declarations
  d = declarations_of m

  -- it stood in the function, or is one of those that lowering writes
  pub data Rest (j : Inst) : Type 0 where
    same : Sound m f j → is_terminator j.op ≡ false → Rest j
    made : is_made j.op ≡ true → Rest j

  pub record Low (j : Inst) : Type 0 where
    pub operands : has_operand_types d new (renumbered_inst num j) ≡ true
    pub results : is_count_by (results_of j.op) (row_types d j) (length j.results) ≡ true
    pub form : may_stand_lowered (forms_of j.op) j ≡ true
    pub edges : j.edges ≡ []
    pub rest : Rest j

  -- ---- the instructions that lowering writes

  has_type_here : (o : Operand) (t : TypeName) → o.ty ≡ Some t → type_at new (num o.value).0 ≡ Some t
      → are_as_written new (renumbered_operand num o ∷ []) ≡ true
  has_type_here o t typed value =
      and_from (is_as_written_by new (renumbered_operand num o) o.ty) true
      (ap (is_as_written_by new (renumbered_operand num o)) typed ∙ ap (passes (is_same_type t)) value ∙ same_self t) refl

  four : (a b c e : Bool) → a ≡ true → b ≡ true → c ≡ true → e ≡ true → (a && b && c && e) ≡ true
  four a b c e x y z w = and_from (a && b && c) e (and_from (a && b) c (and_from a b x y) z) w

  counted_low : (c : Op) (o : Operand) (t : TypeName) → o.ty ≡ Some t → type_at new (num o.value).0 ≡ Some t → bare_operands_of c ≡ NoBare
      → results_of c ≡ NoResult
      → forms_of c ≡ LoweredForm → is_made c ≡ true
      → is_some (given_by c d (renumbered_inst num (with_operands c [] (o ∷ [])))) ≡ true → Low (with_operands c [] (o ∷ []))
  counted_low c o t typed value bare none form is keeps =
      let j = with_operands c [] (o ∷ []) in
      record {
        operands = four _ _ _ _ keeps (has_type_here o t typed value) refl (ap (λ b. are_as_asked_by b new (renumbered_inst num j)) bare);
        results = ap (λ r. is_count_by r (row_types d j) 0) none;
        form = ap (λ x. may_stand_lowered x j) form;
        edges = refl;
        rest = made is;
      }

  pub retain_low : (o : Operand) (t : TypeName) → o.ty ≡ Some t → is_nontrivial d t ≡ true → type_at new (num o.value).0 ≡ Some t → Low (retain d o)
  retain_low o t typed nontrivial value =
      subst (λ w. Low (with_operands (cond (passes (is_class_type d) w) op.StrongRetain op.RetainValue) [] (o ∷ []))) (sym typed) (at (is_class_type d t) refl)
    where
      at : (b : Bool) → is_class_type d t ≡ b → Low (with_operands (cond b op.StrongRetain op.RetainValue) [] (o ∷ []))
      at true e = counted_low op.StrongRetain o t typed value refl refl refl refl
          (ap (λ w. is_some (takes (where_it (is_class_type d) w))) typed ∙ ap (λ b. is_some (takes (if b then Some t else None))) e)
      at false e = counted_low op.RetainValue o t typed value refl refl refl refl
          (ap (λ w. is_some (takes (where_it (is_counted_value d) w))) typed ∙ ap₂ (λ a b. is_some (takes (if a && not b then Some t else None))) nontrivial e)

  pub release_low : (o : Operand) (t : TypeName) → o.ty ≡ Some t → is_nontrivial d t ≡ true → type_at new (num o.value).0 ≡ Some t → Low (release d o)
  release_low o t typed nontrivial value =
      subst (λ w. Low (with_operands (cond (passes (is_class_type d) w) op.StrongRelease op.ReleaseValue) [] (o ∷ []))) (sym typed)
      (at (is_class_type d t) refl)
    where
      at : (b : Bool) → is_class_type d t ≡ b → Low (with_operands (cond b op.StrongRelease op.ReleaseValue) [] (o ∷ []))
      at true e = counted_low op.StrongRelease o t typed value refl refl refl refl
          (ap (λ w. is_some (takes (where_it (is_class_type d) w))) typed ∙ ap (λ b. is_some (takes (if b then Some t else None))) e)
      at false e = counted_low op.ReleaseValue o t typed value refl refl refl refl
          (ap (λ w. is_some (takes (where_it (is_counted_value d) w))) typed ∙ ap₂ (λ a b. is_some (takes (if a && not b then Some t else None))) nontrivial e)

  pub load_low : (j : Inst) (place : Operand) (p t : TypeName) (v : ValueId) → j.op ≡ op.Load → j.qualifier ≡ word.Plain → j.operands ≡ place ∷ []
      → place.ty ≡ Some p → object_at p ≡ Some t
      → j.results ≡ v ∷ [] → j.edges ≡ [] → type_at new (num place.value).0 ≡ Some p → Low j
  load_low j place p t v is plain only typed at result none value = record {
    operands = four _ _ _ _
        (ap (λ o. is_some (given_by o d (renumbered_inst num j))) is
        ∙ ap (λ os. is_some (gives (option_and_then object_at (option_and_then type_of (slice_get (map (renumbered_operand num) os) 0))))) only
        ∙ ap (λ w. is_some (gives (option_and_then object_at w))) typed ∙ ap (λ w. is_some (gives w)) at)
        (ap (λ os. are_as_written new (map (renumbered_operand num) os)) only ∙ has_type_here place p typed value)
        (ap (λ es. list_all (edge_is_as_written new) (map (renumbered_edge num) es)) none)
        (ap (λ o. are_as_asked_by (bare_operands_of o) new (renumbered_inst num j)) is);
    results = ap (λ o. is_count_by (results_of o) (row_types d j) (length j.results)) is ∙ ap (λ (vs : List ValueId). length vs == 1) result;
    form = ap (λ o. may_stand_lowered (forms_of o) j) is ∙ ap has_no_word plain;
    edges = none;
    rest = made (ap is_made is);
  }

  field_low : (o : Operand) (t : TypeName) (named : Member) (v : ValueId) (x : Field) → o.ty ≡ Some t → type_at new (num o.value).0 ≡ Some t
      → struct_field d named t ≡ Some x
      → Low (struct_extract o named v)
  field_low o t named v x typed value found = record {
    operands = four _ _ _ _
        (ap (λ w. is_some (gives (option_map field_type (option_and_then (struct_field d named) w)))) typed
        ∙ ap (λ w. is_some (gives (option_map field_type w))) found)
        (has_type_here o t typed value) refl refl;
    results = refl;
    form = refl;
    edges = refl;
    rest = made refl;
  }

  part_low : (o : Operand) (t : TypeName) (ts : List TypeName) (n : ℕ) (v : ValueId) → o.ty ≡ Some t → type_at new (num o.value).0 ≡ Some t
      → elements t ≡ Some ts → n < length ts
      → Low (tuple_extract o n v)
  part_low o t ts n v typed value are lt =
      let u = get_below ts n lt in
      record {
        operands = four _ _ _ _
            (ap (λ w. is_some (gives (option_and_then (element_of (Some (pos n))) w))) typed
            ∙ ap (λ w. is_some (gives (option_and_then (λ xs. element_at xs (Some (pos n))) w))) are ∙ ap (λ w. is_some (gives w)) u.1)
            (has_type_here o t typed value) refl refl;
        results = refl;
        form = refl;
        edges = refl;
        rest = made refl;
      }

  fields_low : (o : Operand) (t : TypeName) (name : Name) (fs : List Field) (vs : List ValueId) → o.ty ≡ Some t → type_at new (num o.value).0 ≡ Some t
      → Each (λ x. struct_field d (member_of name x) t ≡ Some x) fs → Each Low (field_extracts o (map (member_of name) fs) vs)
  fields_low o t name [] vs typed value found = tt
  fields_low o t name (x ∷ fs) [] typed value found = tt
  fields_low o t name (x ∷ fs) (v ∷ vs) typed value found =
      (field_low o t (member_of name x) v x typed value found.0, fields_low o t name fs vs typed value found.1)

  parts_low : (o : Operand) (t : TypeName) (ts : List TypeName) (n : ℕ) (vs : List ValueId) → o.ty ≡ Some t → type_at new (num o.value).0 ≡ Some t
      → elements t ≡ Some ts
      → n + length vs ≡ length ts → Each Low (element_extracts o n vs)
  parts_low o t ts n [] typed value are size = tt
  parts_low o t ts n (v ∷ vs) typed value are size =
      (part_low o t ts n v typed value are (omega arith), parts_low o t ts (n + 1) vs typed value are (omega arith))

  -- ---- what stands in the place of an instruction

  module _ (source : Source m f) (i : Inst) (here : SoundInside m f i)
      (g : ValueId → Option TypeName) (s : ℕ) (told : InstTold arg_has (result_types d) spare_type g s i)
      (alike : Each (IsSame num (value_types d f) new) i.operands) where
    abbrev IsPlaced : ValueId → Type 0
    IsPlaced v = type_at new (num v).0 ≡ g v

    no_edge : i.edges ≡ []
    no_edge = no_edges (ending_of i.op) i.edges here.inside here.sound.parts.edges

    value_at : (k : ℕ) (o : Operand) (t : TypeName) → slice_get i.operands k ≡ Some o → o.ty ≡ Some t → type_at new (num o.value).0 ≡ Some t
    value_at k o t at typed =
        each_at (IsSame num (value_types d f) new) i.operands k o alike at ∙ typed_at (value_types d f) i.operands here.sound.written k o t at typed

    value_one : (o : Operand) (t : TypeName) → IsOne i o t → type_at new (num o.value).0 ≡ Some t
    value_one o t one = value_at 0 o t (ap (λ os. slice_get os 0) one.only) one.typed

    own_operands : has_operand_types d new (renumbered_inst num i) ≡ true
    own_operands =
        typed_alike num (value_types d f) new d i alike (subst (λ es. Each (AreSameAlong num (value_types d f) new) es) (sym no_edge) tt) ∙ here.sound.operands

    kept_low : may_stand_lowered (forms_of i.op) i ≡ true → Low i
    kept_low form = record { operands = own_operands; results = here.sound.results; form = form; edges = no_edge; rest = same here.sound here.inside }

    plain_load_low : (place : Operand) (p t : TypeName) (v : ValueId) → IsLoad d i place p t v → Low (plain_load i)
    plain_load_low place p t v l = load_low (plain_load i) place p t v refl refl l.one.only l.one.typed l.at l.result no_edge (value_one place p l.one)

    -- 201 of an instruction, were it this one
    abbrev typed_as : Op → Inst → Bool
    typed_as o j =
        is_some (given_by o d j) && are_as_written new j.operands && list_all (edge_is_as_written new) j.edges && are_as_asked_by (bare_operands_of o) new j

    store_low : i.op ≡ op.Store → Low (plain_store i)
    store_low is = record {
      operands = ap (λ o. typed_as o (renumbered_inst num (plain_store i))) is ∙ sym (ap (λ o. typed_as o (renumbered_inst num i)) is) ∙ own_operands;
      results = ap (λ o. is_count_by (results_of o) (given_by o d (plain_store i)) (length i.results)) is
          ∙ sym (ap (λ o. is_count_by (results_of o) (given_by o d i) (length i.results)) is) ∙ here.sound.results;
      form = ap (λ o. may_stand_lowered (forms_of o) (plain_store i)) is;
      edges = no_edge;
      rest = made (ap is_made is);
    }

    -- what was loaded from a place under this name
    loaded_type : (place : Operand) (p t : TypeName) → IsCounted d place p t → (v : ValueId) → (loaded_from place v).ty ≡ Some t
    loaded_type place p t c v = ap (option_and_then target) c.typed ∙ c.at

    spare_low : (place : Operand) (p t : TypeName) (k : ℕ) → slice_get i.operands k ≡ Some place → IsCounted d place p t → Low (load place (value_with s))
    spare_low place p t k at c =
        load_low (load place (value_with s)) place p t (value_with s) refl refl refl c.typed (object_there p t c.at (is_object_of t c.nontrivial)) refl refl
        (value_at k place p at c.typed)
      where
        is_object_of : (t : TypeName) → is_nontrivial d t ≡ true → is_object t ≡ true
        is_object_of t e = (and_parts (is_object t) _ e).0

    lows : (js : List Inst) → Becomes d i (value_with s) js → Each IsPlaced (flat_map values_of_results js) → Each Low js
    lows _ (stays e) placed = (kept_low (stays_form i.op i e (subst (λ x. is_of_form x i ≡ true) source.owned here.sound.form)), tt)
    lows _ (at_storage is e) placed = (kept_low (ap (λ o. may_stand_lowered (forms_of o) i) is ∙ e), tt)
    lows _ vanishes placed = tt
    lows _ (retains o t one nontrivial) placed = (retain_low o t one.typed nontrivial (value_one o t one), tt)
    lows _ (releases o t one nontrivial) placed = (release_low o t one.typed nontrivial (value_one o t one), tt)
    lows _ (loads place p t v l) placed = (plain_load_low place p t v l, tt)
    lows _ (copies place p t v l c) placed =
        let first : Each IsPlaced ((v ∷ []) ++ []) = subst (λ vs. Each IsPlaced (vs ++ [])) l.result placed in
        let own : map g (v ∷ []) ≡ map (slice_get (t ∷ [])) (range_with_len 0 (length (v ∷ []))) =
        ap (map g) (sym l.result) ∙ told.own
        ∙ ap₂ (λ (r : MadeTypes) (vs : List ValueId). map (slice_get (unwrap_or r [])) (range_with_len 0 (length vs))) l.row l.result in
        let loaded : g v ≡ Some t = cc in
        (plain_load_low place p t v l, (retain_low (loaded_from place v) t (loaded_type place p t c v) c.nontrivial (first.0 ∙ loaded), tt))
    lows _ (stores is) placed = (store_low is, tt)
    lows _ (assigns x place p t is both c) placed = (
      spare_low place p t 1 (ap (λ os. slice_get os 1) both) c,
      (
        store_low is,
        (
          release_low (loaded_from place (value_with s)) t (loaded_type place p t c (value_with s)) c.nontrivial
              (placed.0 ∙ told.new ∙ spare_stored m f source i here.sound g s told x place p t is both c),
          tt,
        ),
      ),
    )
    lows _ (destroys place p t is one c) placed = (
      spare_low place p t 0 (ap (λ os. slice_get os 0) one) c,
      (
        release_low (loaded_from place (value_with s)) t (loaded_type place p t c (value_with s)) c.nontrivial
            (placed.0 ∙ told.new ∙ spare_destroyed m f source i here.sound g s told place p t is one c),
        tt,
      ),
    )
    lows _ (by_fields o t fs struct is one size) placed =
        fields_low o t struct.name fs i.results one.typed (value_one o t one)
        (fields_again d t fs struct (source.once struct.name struct.declared struct.is_declared))
    lows _ (by_elements o t ts is one are size) placed =
        parts_low o t ts 0 i.results one.typed (value_one o t one) are (let all : 0 + length i.results ≡ length ts = omega arith in all)

    pub becomes_low : Each IsPlaced (flat_map values_of_results (becomes d (value_with s) i)) → Each Low (becomes d (value_with s) i)
    becomes_low placed = lows (becomes d (value_with s) i) (becomes_so m f source i here.sound (value_with s)) placed
