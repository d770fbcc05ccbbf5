-- The types of a function's values have sizes.
use Rattle.std.proofs.Common.{◌≡◌, ℕ, zero, suc, ◌+◌, List, [], ◌∷◌, map, length, refl, subst, Option, Some, None}
use Rattle.std.specs.Prelude.{IfSome, slice_get, unwrap_or}
use Rattle.std.specs.List.{flat_map, range_with_len}
use Rattle.numbered_form.specs.Insts.{insts_of}
use Rattle.numbered_form.specs.Lists.{Each}
use Rattle.holder_model_typing.specs.holder_model.RunTyping.Runnable.{IsRunnable}
use Rattle.sil_ast.specs.declared.function.Block.{Block}
use Rattle.sil_ast.specs.declared.function.BlockArg.{BlockArg}
use Rattle.sil_ast.specs.declared.function.Function.{Function}
use Rattle.sil_ast.specs.declared.inst.Inst.{Inst}
use Rattle.sil_ast.specs.declared.module.Module.{Module}
use Rattle.sil_ast.specs.declared.type_name.TypeName.{TypeName}
use Rattle.sil_types.specs.Typing.RowTypes.{MadeTypes, row_types}
use Rattle.sil_types.specs.Typing.Values.{arg_has, arg_types, result_types, value_types}
use Rattle.sil_types_declarations.specs.TypeDefinitions.Declarations.{declarations_of}
use Rattle.sil_types_declarations.specs.TypeDefinitions.Mentions.{target_of}
use Rattle.numbered_form.specs.ValueTables.ValueRows.{block_rows, rows_from}
use Rattle.holder_model_typing.proofs.RunTypingLaws.Declared.{each_append}
use Rattle.holder_model_typing.proofs.RunTypingLaws.Rows.Finding.{each_at}
use Rattle.count_machine_layouts.specs.FrameLayouts.inner.Sized.{HasSize, HaveSizes}
use Rattle.count_machine_layouts.proofs.FrameLayouts.Fitting.{Fits, args_fit, has_size}
use Rattle.count_machine_layouts.proofs.FrameLayouts.RowsFit.{ValueFits, row_fits}

module _ (m : Module) where
  abbrev RowFits : Option TypeName → Type 0
  RowFits o = IfSome o (ValueFits m)

  some_each : (ts : List TypeName) (k : ℕ) → Each (ValueFits m) ts → RowFits (slice_get ts k)
  some_each [] k h = tt
  some_each (t ∷ ts) zero h = h.0
  some_each (t ∷ ts) (suc k) h = some_each ts k h.1

  picked : (ts : List TypeName) → Each (ValueFits m) ts → (ks : List ℕ) → Each RowFits (map (slice_get ts) ks)
  picked ts h [] = tt
  picked ts h (k ∷ ks) = (some_each ts k h, picked ts h ks)

  made : (o : MadeTypes) → ((ts : List TypeName) → o ≡ Some ts → Each (ValueFits m) ts) → Each (ValueFits m) (unwrap_or o [])
  made None h = tt
  made (Some ts) h = h ts refl

  args_told : (xs : List BlockArg) → Each (λ (a : BlockArg). Fits m (target_of a.ty)) xs → Each RowFits (map arg_has xs)
  args_told [] h = tt
  args_told (x ∷ xs) h = (h.0, args_told xs h.1)

  insts_told : (is : List Inst) → ((j : ℕ) (i : Inst) → slice_get is j ≡ Some i → Each RowFits (result_types (declarations_of m) i))
      → Each RowFits (flat_map (result_types (declarations_of m)) is)
  insts_told [] h = tt
  insts_told (i ∷ is) h =
      each_append RowFits (result_types (declarations_of m) i) (flat_map (result_types (declarations_of m)) is)
      (h 0 i refl) (insts_told is (λ j x e. h (suc j) x e))

  rows_told : (k : ℕ) (bs : List Block) → ((j : ℕ) (b : Block) → slice_get bs j ≡ Some b → (q : ℕ)
      → Each RowFits (block_rows arg_types (result_types (declarations_of m)) q b))
      → Each RowFits (rows_from arg_types (result_types (declarations_of m)) k bs)
  rows_told k [] h = tt
  rows_told k (b ∷ bs) h =
      each_append RowFits (block_rows arg_types (result_types (declarations_of m)) k b)
      (rows_from arg_types (result_types (declarations_of m)) (k + 1) bs) (h 0 b refl k)
      (rows_told (k + 1) bs (λ j x e q. h (suc j) x e q))

  module _ (r : IsRunnable m) (n : ℕ) (f : Function) (there : slice_get m.functions n ≡ Some f) where
    block_told : (k : ℕ) (b : Block) → slice_get f.blocks k ≡ Some b → (q : ℕ) → Each RowFits (block_rows arg_types (result_types (declarations_of m)) q b)
    block_told k b is_block q =
        each_append RowFits (arg_types q b.args) (flat_map (result_types (declarations_of m)) (insts_of b))
        (args_told b.args (args_fit m r n f there k b is_block))
        (insts_told (insts_of b) (λ j i is_inst.
        let given = made (row_types (declarations_of m) i) (row_fits m r n f there k b is_block j i is_inst i.op refl) in
        picked (unwrap_or (row_types (declarations_of m) i) []) given (range_with_len 0 (length i.results))))

    pub value_sizes : HaveSizes (declarations_of m) (value_types (declarations_of m) f)
    value_sizes v t e = at (slice_get (value_types (declarations_of m) f) v) refl e
      where
        at : (o : Option (Option TypeName)) → slice_get (value_types (declarations_of m) f) v ≡ o
            → unwrap_or o None ≡ Some t → HasSize (declarations_of m) (target_of t)
        at None is e = absurd (cc)
        at (Some o) is e =
            has_size m r (target_of t)
            (subst RowFits e (each_at RowFits (value_types (declarations_of m) f) v o (rows_told 0 f.blocks block_told) is))
