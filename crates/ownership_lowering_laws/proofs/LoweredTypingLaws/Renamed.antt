-- A value has the type of the value for which it is another name, and none that stands for a function is another name.
use Rattle.std.proofs.Common.{◌≡◌, ℕ, zero, suc, ◌+◌, List, [], ◌∷◌, ◌++◌, length, map, replicate, refl, sym, ap, ◌∙◌, subst, arith, cond, Bool, true, false}
use Rattle.std.proofs.Common.{Option, Some, None}
use Rattle.std.specs.Prelude.{is_some, option_and_then, option_map, slice_get, unwrap_or}
use Rattle.std.specs.List.{AllZip, flat_map, range_with_len}
use Rattle.std.proofs.lemmas.Bool.{eqb-true}
use Rattle.std.proofs.lemmas.Option.{slice_get-map}
use Rattle.instruction_table.specs.Forms.{results_of}
use Rattle.instruction_table.specs.declared.entries.Results.TheVariants.{OneResult}
use Rattle.instruction_table.specs.declared.op.Op.{Op}
use Rattle.instruction_table.specs.declared.op.Op.TheVariants as op
use Rattle.numbered_form.specs.Insts.{insts_of}
use Rattle.numbered_form.specs.Lists.{Each}
use Rattle.numbered_form.specs.inner.Parts.{is_callee, row_has}
use Rattle.ownership_kinds_chains.specs.OwnershipChains.Chains.{operands_at}
use Rattle.ownership_kinds_chains.specs.declared.ownership_chains.definition.Definition.{Definition}
use Rattle.ownership_kinds.specs.ownership_kinds_origins.Renamings.{arg_renaming, arg_renamings, renamed, renames, renamings_of, result_renamings}
use Rattle.ownership_kinds.specs.ownership_kinds_origins.Switched.{switch_to}
use Rattle.ownership_kinds.specs.ownership_kinds_origins.declared.switched.Switched.{Switched}
use Rattle.sil_ast.specs.Blocks.{args_in, args_of}
use Rattle.sil_ast.specs.declared.function.Block.{Block}
use Rattle.sil_ast.specs.declared.function.BlockArg.{BlockArg}
use Rattle.sil_ast.specs.declared.function.Function.{Function}
use Rattle.sil_ast.specs.declared.inst.Inst.{Inst}
use Rattle.sil_ast.specs.declared.module.Module.{Module}
use Rattle.sil_ast.specs.declared.place.FuncId.{FuncId}
use Rattle.sil_ast.specs.declared.place.ValueId.{ValueId}
use Rattle.sil_ast.specs.declared.type_name.TypeName.{TypeName}
use Rattle.sil_types_declarations.specs.TypeDefinitions.Declarations.{declarations_of}
use Rattle.numbered_form.specs.ValueTables.FirstValue.{value_of}
use Rattle.numbered_form.specs.ValueTables.ValueRows.{rows_from, value_rows}
use Rattle.holder_model_typing.specs.sil_types.Typing.ResultCounts.{is_count_by}
use Rattle.holder_model_typing.specs.sil_types.Typing.RowTypes.{given_by, made_types, type_of, written}
use Rattle.holder_model_typing.specs.sil_types.Typing.Shapes.{is_nontrivial, is_object, where_it}
use Rattle.holder_model_typing.specs.sil_types.Typing.Values.{arg_has, functions_by, result_functions, result_types, type_at, value_types}
use Rattle.ownership_lowering_model.specs.Names.{renamed_from, stands_for, stands_within, unless_renamed}
use Rattle.holder_model_typing.proofs.RunTypingLaws.Declared.{each_from}
use Rattle.holder_model_typing.proofs.RunTypingLaws.Rows.Finding.{mapped_some, where_found}
use Rattle.numbered_form.proofs.Lists.{each_weaker, mapped_from}
use Rattle.holder_model_typing.proofs.RunTypingLaws.Rows.Points.{in_front}
use Rattle.ownership_lowering_laws.proofs.LoweredTypingLaws.Lists.{zip_append, zip_at, zip_flat, zip_maps, zip_repeat}
use Rattle.ownership_lowering_laws.proofs.LoweredTypingLaws.NewFunctions.{no_function}
use Rattle.ownership_lowering_laws.proofs.LoweredTypingLaws.Operands.{typed_at}
use Rattle.ownership_lowering_laws.proofs.LoweredTypingLaws.Sound.{Sound, SoundBlock, SoundFunction, SoundInside}
use Rattle.ownership_lowering_laws.proofs.LoweredTypingLaws.Switches.{default_typed, sound_block}

-- rows of two tables, side by side
zip_rows : {A B : Type 0} (R : A → B → Type 0) (args : ℕ → List BlockArg → List A) (others : ℕ → List BlockArg → List B) (results : Inst → List A)
    (more : Inst → List B) (n : ℕ) (bs : List Block)
    → ((k : ℕ) (b : Block) → slice_get bs k ≡ Some b
    → AllZip R (args (n + k) b.args) (others (n + k) b.args) × Each (λ i. AllZip R (results i) (more i)) (insts_of b))
    → AllZip R (rows_from args results n bs) (rows_from others more n bs)
zip_rows R args others results more n [] h = tt
zip_rows R args others results more n (b ∷ bs) h =
    let here = h 0 b refl in
    let same : n + 0 ≡ n = omega arith in
    zip_append R (args n b.args ++ flat_map results (insts_of b)) (rows_from args results (n + 1) bs) (others n b.args ++ flat_map more (insts_of b))
    (rows_from others more (n + 1) bs)
    (zip_append R (args n b.args) (flat_map results (insts_of b)) (others n b.args) (flat_map more (insts_of b))
    (subst (λ k. AllZip R (args k b.args) (others k b.args)) same here.0) (zip_flat R results more (insts_of b) here.1))
    (zip_rows R args others results more (n + 1) bs (λ k c is.
    let next : n + suc k ≡ (n + 1) + k = omega arith in
    let there = h (suc k) c is in
    (subst (λ j. AllZip R (args j c.args) (others j c.args)) next there.0, there.1)))

pub operands_row : (defs : List Definition) (k : ℕ) (def : Definition) → slice_get defs k ≡ Some def
    → unwrap_or (slice_get (map (λ (x : Definition). x.operands) defs) k) [] ≡ def.operands
operands_row defs k def e =
    ap (λ o. unwrap_or o []) (slice_get-map (λ (x : Definition). x.operands) defs k ∙ ap (option_map (λ (x : Definition). x.operands)) e)

no_operands_row : (defs : List Definition) (k : ℕ) → slice_get defs k ≡ None → unwrap_or (slice_get (map (λ (x : Definition). x.operands) defs) k) [] ≡ []
no_operands_row defs k e = ap (λ o. unwrap_or o []) (slice_get-map (λ (x : Definition). x.operands) defs k ∙ ap (option_map (λ (x : Definition). x.operands)) e)

-- a value that is another name has its row among the renamings
renaming_row : (defs : List Definition) (v w : ValueId) → renamed_from defs v ≡ Some w
    → (def : Definition) × (slice_get defs v.0 ≡ Some def) × (slice_get def.operands 0 ≡ Some w)
renaming_row defs v w e = at (slice_get defs v.0) refl
  where
    at : (o : Option Definition) → slice_get defs v.0 ≡ o → (def : Definition) × (o ≡ Some def) × (slice_get def.operands 0 ≡ Some w)
    at None is = let none : slice_get (operands_at defs v) 0 ≡ None = ap (λ l. slice_get l 0) (no_operands_row defs v.0 is) in cc
    at (Some def) is = (def, refl, ap (λ l. slice_get l 0) (sym (operands_row defs v.0 def is)) ∙ e)

-- ---- instructions whose result is another name

-- it has one result, of the type that is written at its operand
record Renames (m : Module) (i : Inst) : Type 0 where
  ty : TypeName
  typed : written 0 i ≡ Some ty
  gives : made_types (declarations_of m) i ≡ ty ∷ []
  count : length i.results ≡ 1

renames_one : (m : Module) (f : Function) (i : Inst) → Sound m f i → renames i.op ≡ true → Renames m i
renames_one m f i sound renaming = at i.op refl renaming
  where
    with_type : (o : Op) → i.op ≡ o → results_of o ≡ OneResult → (t : TypeName) → written 0 i ≡ Some t → given_by o (declarations_of m) i ≡ Some (t ∷ [])
        → Renames m i
    with_type o is one t typed given = record {
      ty = t;
      typed = typed;
      gives = ap (λ x. unwrap_or (given_by x (declarations_of m) i) []) is ∙ ap (λ g. unwrap_or g []) given;
      count = eqb-true (length i.results) 1
          (ap (λ r. is_count_by r (given_by o (declarations_of m) i) (length i.results)) (sym one)
          ∙ subst (λ x. is_count_by (results_of x) (given_by x (declarations_of m) i) (length i.results) ≡ true) is sound.results);
    }

    tested : (o : Op) → i.op ≡ o → results_of o ≡ OneResult → (test : TypeName → Bool)
        → given_by o (declarations_of m) i ≡ option_map (λ ty. ty ∷ []) (where_it test (written 0 i)) → Renames m i
    tested o is one test gives =
        let it =
        mapped_some (λ ty. ty ∷ []) (where_it test (written 0 i))
        (ap is_some (sym gives) ∙ subst (λ x. is_some (given_by x (declarations_of m) i) ≡ true) is sound.keeps) in
        let found = where_found test (written 0 i) it.0 it.1 in
        with_type o is one it.0 found.0 (gives ∙ ap (option_map (λ ty. ty ∷ [])) it.1)

    at : (o : Op) → i.op ≡ o → renames o ≡ true → Renames m i
    at op.CopyValue is e = tested op.CopyValue is refl (is_nontrivial (declarations_of m)) refl
    at op.MoveValue is e = tested op.MoveValue is refl is_object refl
    at op.BeginBorrow is e = tested op.BeginBorrow is refl (is_nontrivial (declarations_of m)) refl
    at _ is e = cc

module _ (m : Module) (f : Function) (sound : SoundFunction m f) where
  abbrev types : List (Option TypeName)
  types = value_types (declarations_of m) f

  -- the value is another name only for one of its own type
  abbrev HasNameOf : Definition → Option TypeName → Type 0
  HasNameOf def t = (w : ValueId) → slice_get def.operands 0 ≡ Some w → (u : TypeName) × (t ≡ Some u) × (type_at types w.0 ≡ Some u)

  no_name : (t : Option TypeName) → HasNameOf (renamed []) t
  no_name t w e = cc

  abbrev IsNamed : Option Switched → BlockArg → Type 0
  IsNamed o a = HasNameOf (arg_renaming o a) (Some a.ty)

  args_named : (k : ℕ) (b : Block) → slice_get f.blocks k ≡ Some b → AllZip HasNameOf (arg_renamings f k b.args) (map arg_has b.args)
  args_named k b is = zip_maps HasNameOf (arg_renaming (switch_to f k)) arg_has b.args (at (switch_to f k) refl)
    where
      at : (o : Option Switched) → switch_to f k ≡ o → Each (IsNamed o) b.args
      at None e = each_from (IsNamed None) b.args (λ j a at. no_name (Some a.ty))
      at (Some s) e = by s.is_default refl
        where
          by : (d : Bool) → s.is_default ≡ d → Each (IsNamed (Some s)) b.args
          by true d =
              let it = default_typed m f sound k s e d in
              let same : args_of f k ≡ b.args = ap args_in is in
              each_weaker (λ a. a.ty ≡ it.ty) (IsNamed (Some s)) (λ a ty w there.
              let one : slice_get (s.operand ∷ []) 0 ≡ Some w = ap (λ x. slice_get (cond x (s.operand ∷ []) []) 0) (sym d) ∙ there in
              let value : s.operand ≡ w = cc in
              (it.ty, ap Some ty, ap (λ v. type_at types v.0) (sym value) ∙ it.value))
              b.args (subst (Each (λ a. a.ty ≡ it.ty)) same it.args)
          by false d = each_from (IsNamed (Some s)) b.args (λ j a at w there.
              let none : slice_get (cond false (s.operand ∷ []) []) 0 ≡ Some w = ap (λ x. slice_get (cond x (s.operand ∷ []) []) 0) (sym d) ∙ there in
              cc)

  results_named : (i : Inst) → Sound m f i → AllZip HasNameOf (result_renamings i) (result_types (declarations_of m) i)
  results_named i s = at (renames i.op) refl
    where
      at : (b : Bool) → renames i.op ≡ b
          → AllZip HasNameOf (replicate (length i.results) (renamed (cond b (map value_of i.operands) []))) (result_types (declarations_of m) i)
      at false e = zip_repeat HasNameOf (renamed []) (slice_get (made_types (declarations_of m) i)) (λ k. no_name _) 0 (length i.results)
      at true e =
          let r = renames_one m f i s e in
          let made = made_types (declarations_of m) i in
          subst (λ n. AllZip HasNameOf (replicate n (renamed (map value_of i.operands))) (map (slice_get made) (range_with_len 0 n))) (sym r.count)
          ((λ w there. one r w there), tt)
        where
          one : (r : Renames m i) → HasNameOf (renamed (map value_of i.operands)) (slice_get (made_types (declarations_of m) i) 0)
          one r w there =
              let o = mapped_from value_of (slice_get i.operands 0) w (sym (slice_get-map value_of i.operands 0) ∙ there) in
              let typed : o.0.ty ≡ Some r.ty = ap (option_and_then type_of) (sym o.1) ∙ r.typed in
              (r.ty, ap (λ ts. slice_get ts 0) r.gives, ap (λ v. type_at types v.0) (sym o.2) ∙ typed_at types i.operands s.written 0 o.0 r.ty o.1 typed)

  each_sound : (b : Block) → SoundBlock m f b → (P : Inst → Type 0) → ((i : Inst) → Sound m f i → P i) → Each P (insts_of b)
  each_sound b s P of = all b.insts s.insts
    where
      all : (is : List Inst) → Each (SoundInside m f) is → Each P (is ++ b.terminator ∷ [])
      all [] h = (of b.terminator s.end.sound, tt)
      all (i ∷ is) h = (of i h.0.sound, all is h.1)

  all_named : AllZip HasNameOf (renamings_of f) types
  all_named = zip_rows HasNameOf (arg_renamings f) (λ k. map arg_has) result_renamings (result_types (declarations_of m)) 0 f.blocks (λ k b is.
      let here : 0 + k ≡ k = omega arith in (
        subst (λ n. AllZip HasNameOf (arg_renamings f n b.args) (map arg_has b.args)) (sym here) (args_named k b is),
        each_sound b (sound_block m f sound k b is) (λ i. AllZip HasNameOf (result_renamings i) (result_types (declarations_of m) i)) results_named,
      ))

  some_row : (rows : List (Option TypeName)) (k : ℕ) (u : TypeName) → type_at rows k ≡ Some u → slice_get rows k ≡ Some (Some u)
  some_row rows k u e = at (slice_get rows k) refl e
    where
      at : (o : Option (Option TypeName)) → slice_get rows k ≡ o → unwrap_or o None ≡ Some u → o ≡ Some (Some u)
      at None is h = cc
      at (Some x) is h = ap (λ y. Some y) h

  -- in each table that begins with the types of values
  module _ (behind : List (Option TypeName)) where
    abbrev type_in : ValueId → Option TypeName
    type_in v = unwrap_or (slice_get (types ++ behind) v.0) None

    renamed_same : (v w : ValueId) → renamed_from (renamings_of f) v ≡ Some w → type_in w ≡ type_in v
    renamed_same v w e =
        let row = renaming_row (renamings_of f) v w e in
        let t = zip_at HasNameOf (renamings_of f) types v.0 row.0 all_named row.1 in
        let u = t.2 w row.2 in
        ap (λ o. unwrap_or o None) (in_front types behind w.0 (Some u.0) (some_row types w.0 u.0 u.2))
        ∙ sym (ap (λ o. unwrap_or o None) (in_front types behind v.0 t.0 t.1) ∙ u.1)

    within_same : (n : ℕ) (v : ValueId) → type_in (stands_within (renamings_of f) n v) ≡ type_in v
    within_same zero v = refl
    within_same (suc n) v = at (renamed_from (renamings_of f) v) refl (within_same n)
      where
        at : (o : Option ValueId) → renamed_from (renamings_of f) v ≡ o → ((w : ValueId) → type_in (stands_within (renamings_of f) n w) ≡ type_in w)
            → type_in (unless_renamed (stands_within (renamings_of f) n) v o) ≡ type_in v
        at None e further = refl
        at (Some w) e further = further w ∙ renamed_same v w e

    pub stands_same : (v : ValueId) → type_in (stands_for (renamings_of f) v) ≡ type_in v
    stands_same v = within_same (length (renamings_of f)) v

  -- ---- functions

  abbrev functions : List (Option FuncId)
  functions = value_rows (λ k. map no_function) result_functions f

  abbrev HasNoName : Definition → Option FuncId → Type 0
  HasNoName def x = (g : FuncId) → x ≡ Some g → slice_get def.operands 0 ≡ None

  callee_named : (o : Op) → row_has is_callee o ≡ true → renames o ≡ false
  callee_named op.FunctionRef e = refl
  callee_named _ e = cc

  no_functions : (def : Definition) (n : ℕ) → AllZip HasNoName (replicate n def) (replicate n None)
  no_functions def zero = tt
  no_functions def (suc n) = ((λ g e. cc), no_functions def n)

  results_unnamed : (i : Inst) → Sound m f i → AllZip HasNoName (result_renamings i) (result_functions i)
  results_unnamed i s = at i.results
    where
      first : HasNoName (renamed (cond (renames i.op) (map value_of i.operands) [])) i.function
      first g e =
          let callee : row_has is_callee i.op ≡ true = sym s.parts.function ∙ ap is_some e in
          ap (λ b. slice_get (cond b (map value_of i.operands) []) 0) (callee_named i.op callee)

      at : (vs : List ValueId)
          → AllZip HasNoName (replicate (length vs) (renamed (cond (renames i.op) (map value_of i.operands) []))) (functions_by i.function vs)
      at [] = tt
      at (v ∷ vs) = (first, no_functions _ (length vs))

  all_unnamed : AllZip HasNoName (renamings_of f) functions
  all_unnamed = zip_rows HasNoName (arg_renamings f) (λ k. map no_function) result_renamings result_functions 0 f.blocks (λ k b is. (
    zip_maps HasNoName (arg_renaming (switch_to f (0 + k))) no_function b.args
        (each_from (λ a. HasNoName (arg_renaming (switch_to f (0 + k)) a) (no_function a)) b.args (λ j a at g e. cc)),
    each_sound b (sound_block m f sound k b is) (λ i. AllZip HasNoName (result_renamings i) (result_functions i)) results_unnamed,
  ))

  -- what stands for a function stands for itself
  pub function_stands : (v : ValueId) (g : FuncId) → unwrap_or (slice_get functions v.0) None ≡ Some g → stands_for (renamings_of f) v ≡ v
  function_stands v g e = stays (length (renamings_of f))
    where
      none : (o : Option ValueId) → renamed_from (renamings_of f) v ≡ o → o ≡ None
      none None is = refl
      none (Some w) is =
          let row = renaming_row (renamings_of f) v w is in
          let x = zip_at HasNoName (renamings_of f) functions v.0 row.0 all_unnamed row.1 in
          let function : x.0 ≡ Some g = ap (λ o. unwrap_or o None) (sym x.1) ∙ e in
          let nothing : slice_get row.0.operands 0 ≡ None = x.2 g function in
          let something : slice_get row.0.operands 0 ≡ Some w = row.2 in
          cc

      stays : (n : ℕ) → stands_within (renamings_of f) n v ≡ v
      stays zero = refl
      stays (suc n) = ap (unless_renamed (stands_within (renamings_of f) n) v) (none (renamed_from (renamings_of f) v) refl)
