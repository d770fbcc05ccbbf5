-- What the tables of a lowered function tell of a new number, they told of the old one.
use Rattle.std.proofs.Common.{◌≡◌, ℕ, suc, ◌+◌, ◌<◌, List, [], ◌∷◌, ◌++◌, length, map, replicate, refl, sym, ap, ap₂, ◌∙◌, Option, Some, None}
use Rattle.std.specs.Prelude.{slice_get, unwrap_or}
use Rattle.std.specs.List.{flat_map}
use Rattle.std.proofs.lemmas.List.{length-map, length-replicate, map-append}
use Rattle.std.proofs.lemmas.List.FromFn.{length-map-range_with_len}
use Rattle.numbered_form.specs.Insts.{insts_of}
use Rattle.numbered_form.specs.Lists.{Each}
use Rattle.numbered_form.specs.Numbering.{IsValueBelow, values_of}
use Rattle.ownership_kinds.specs.ownership_kinds_origins.Renamings.{renamings_of}
use Rattle.sil_ast.specs.declared.function.Block.{Block}
use Rattle.sil_ast.specs.declared.function.BlockArg.{BlockArg}
use Rattle.sil_ast.specs.declared.function.Function.{Function}
use Rattle.sil_ast.specs.declared.inst.Inst.{Inst}
use Rattle.sil_ast.specs.declared.module.Module.{Module}
use Rattle.sil_ast.specs.declared.operands.Operand.{Operand}
use Rattle.sil_ast.specs.declared.place.FuncId.{FuncId}
use Rattle.sil_ast.specs.declared.place.ValueId.{ValueId}
use Rattle.sil_ast.specs.declared.type_name.TypeName.{TypeName}
use Rattle.sil_types_declarations.specs.TypeDefinitions.Declarations.{Declarations, declarations_of}
use Rattle.numbered_form.proofs.ValueTables.Rows.{same_args}
use Rattle.numbered_form.specs.ValueTables.ValueRows.{rows_from, value_rows}
use Rattle.holder_model_typing.specs.sil_types.Typing.RowTypes.{made_types}
use Rattle.holder_model_typing.specs.sil_types.Typing.Values.{arg_functions, arg_has, function_at, functions_by, result_functions, result_types, type_at, value_functions}
use Rattle.holder_model_typing.specs.sil_types.Typing.Values.{value_types}
use Rattle.ownership_lowering_model.specs.LoweredBlocks.{lowered_blocks, value_with}
use Rattle.ownership_lowering_model.specs.LoweredModules.{lowered_body}
use Rattle.ownership_lowering_model.specs.Names.{stands_for}
use Rattle.ownership_lowering_model.specs.Numbers.{new_number, numbering_of, renumbered, renumbered_arg, renumbered_inst}
use Rattle.ownership_lowering_laws.proofs.LoweringLaws.Placed.{defined_are_placed, old_are_placed}
use Rattle.holder_model_typing.proofs.RunTypingLaws.Declared.{each_from}
use Rattle.numbered_form.proofs.Lists.{each_weaker}
use Rattle.ownership_lowering_laws.proofs.LoweredTypingLaws.Lists.{mapped_at}
use Rattle.ownership_lowering_laws.proofs.LoweredTypingLaws.NewFunctions.{new_functions, no_function, no_spare}
use Rattle.ownership_lowering_laws.proofs.LoweredTypingLaws.NewTypes.{new_types, spare_type}
use Rattle.ownership_lowering_laws.proofs.LoweredTypingLaws.Renamed.{function_stands, stands_same}
use Rattle.ownership_lowering_laws.proofs.LoweredTypingLaws.Renumbered.{IsSame, result_types_same}
use Rattle.ownership_lowering_laws.proofs.LoweredTypingLaws.Sound.{SoundBlock, SoundInside, Source}
use Rattle.ownership_lowering_laws.proofs.LoweredTypingLaws.Told.{BlocksTold, all_told, blocks_rows, spare_rows, told, told_own}

-- ---- new numbers change no row

module _ {A : Type 0} (num : ValueId → ValueId) (arg : BlockArg → Option A) (results : Inst → List (Option A))
    (same_arg : (a : BlockArg) → arg (renumbered_arg num a) ≡ arg a)
    (same_results : (i : Inst) → results (renumbered_inst num i) ≡ results i) where
  args_same : (args : List BlockArg) → map arg (map (renumbered_arg num) args) ≡ map arg args
  args_same [] = refl
  args_same (a ∷ args) = ap₂ (λ x xs. x ∷ xs) (same_arg a) (args_same args)

  insts_same : (is : List Inst) → flat_map results (map (renumbered_inst num) is) ≡ flat_map results is
  insts_same [] = refl
  insts_same (i ∷ is) = ap₂ (λ x xs. x ++ xs) (same_results i) (insts_same is)

  pub rows_same : (n : ℕ) (bs : List Block) → rows_from (λ k. map arg) results n (renumbered num bs) ≡ rows_from (λ k. map arg) results n bs
  rows_same n [] = refl
  rows_same n (b ∷ bs) =
      ap₂ (λ x y. x ++ y)
      (ap₂ (λ x y. x ++ y) (args_same b.args)
      (ap (flat_map results) (sym (map-append (renumbered_inst num) b.insts (b.terminator ∷ []))) ∙ insts_same (insts_of b)))
      (rows_same (n + 1) bs)

pub types_level : (d : Declarations) (i : Inst) → length (result_types d i) ≡ length i.results
types_level d i = length-map-range_with_len (slice_get (made_types d i)) 0 (length i.results)

pub functions_level : (i : Inst) → length (result_functions i) ≡ length i.results
functions_level i = at i.function i.results
  where
    at : (g : Option FuncId) (vs : List ValueId) → length (functions_by g vs) ≡ length vs
    at g [] = refl
    at g (v ∷ vs) = ap suc (length-replicate (length vs) None)

-- arguments stand for no functions
functions_rows : (f : Function) → value_functions f ≡ value_rows (λ k. map no_function) result_functions f
functions_rows f = same_args arg_functions (λ k. map no_function) result_functions 0 f.blocks (λ k xs le lt. none xs)
  where
    none : (xs : List BlockArg) → arg_functions 0 xs ≡ map no_function xs
    none [] = refl
    none (x ∷ xs) = ap (λ ys. None ∷ ys) (none xs)

module _ (m : Module) (f : Function) (source : Source m f) where
  abbrev d : Declarations
  d = declarations_of m

  abbrev num : ValueId → ValueId
  num = new_number (numbering_of d f)

  abbrev defined : List ValueId
  defined = values_of (lowered_blocks d f)

  abbrev count : ℕ
  count = length (values_of f.blocks)

  abbrev old_types : List (Option TypeName)
  old_types = value_types d f

  abbrev pub new_table : List (Option TypeName)
  new_table = value_types d (lowered_body d f)

  -- the type of a value by its old number, or of a spare one
  abbrev pub type_told : ValueId → Option TypeName
  type_told = told arg_has (result_types d) spare_type (types_level d) f source.sound.numbered.values

  abbrev function_told : ValueId → Option FuncId
  function_told = told no_function result_functions no_spare functions_level f source.sound.numbered.values

  pub blocks_typed : BlocksTold arg_has (result_types d) spare_type type_told count f.blocks
  blocks_typed = all_told arg_has (result_types d) spare_type (types_level d) f source.sound.numbered.values

  blocks_functions : BlocksTold no_function result_functions no_spare function_told count f.blocks
  blocks_functions = all_told no_function result_functions no_spare functions_level f source.sound.numbered.values

  insts_sound : Each (λ b. Each (SoundInside m f) b.insts) f.blocks
  insts_sound = each_weaker (SoundBlock m f) (λ b. Each (SoundInside m f) b.insts) (λ b s. s.insts) f.blocks source.sound.blocks

  -- ---- the tables

  types_are : new_table ≡ map type_told defined
  types_are =
      rows_same num arg_has (result_types d) (λ a. refl) (result_types_same num d) 0 (lowered_blocks d f)
      ∙ sym (blocks_rows arg_has (result_types d) spare_type type_told d (renamings_of f) (λ a. refl) (SoundInside m f)
      (λ s i h t. new_types m f source i h.sound type_told s t) 0 count f.blocks insts_sound blocks_typed)

  functions_same : (i : Inst) → result_functions (renumbered_inst num i) ≡ result_functions i
  functions_same i = at i.results
    where
      at : (vs : List ValueId) → functions_by i.function (map num vs) ≡ functions_by i.function vs
      at [] = refl
      at (v ∷ vs) = ap (λ n. i.function ∷ replicate n None) (length-map vs num)

  functions_are : value_functions (lowered_body d f) ≡ map function_told defined
  functions_are =
      functions_rows (lowered_body d f)
      ∙ rows_same num no_function result_functions (λ a. refl) functions_same 0 (lowered_blocks d f)
      ∙ sym (blocks_rows no_function result_functions no_spare function_told d (renamings_of f) (λ a. refl) (SoundInside m f)
      (λ s i h t. new_functions m f source i h.sound function_told s t) 0 count f.blocks insts_sound blocks_functions)

  -- ---- what they tell

  type_at_place : (k : ℕ) (u v : ValueId) → slice_get defined k ≡ Some u → num v ≡ value_with k → type_at new_table (num v).0 ≡ type_told u
  type_at_place k u v at place =
      ap (λ w. type_at new_table w.0) place ∙ ap (λ rows. type_at rows k) types_are ∙ ap (λ o. unwrap_or o None) (mapped_at type_told defined k u at)

  pub defined_typed : Each (λ v. type_at new_table (num v).0 ≡ type_told v) defined
  defined_typed =
      each_from (λ v. type_at new_table (num v).0 ≡ type_told v) defined
      (λ k v at. type_at_place k v v at (defined_are_placed (length m.functions) d f k v source.lowerable at).1)

  pub type_kept : (v : ValueId) → v.0 < count → type_at new_table (num v).0 ≡ type_at old_types v.0
  type_kept v lt =
      let it = old_are_placed (length m.functions) d f v source.lowerable lt in
      type_at_place it.0 (stands_for (renamings_of f) v) v it.1 it.2
      ∙ stands_same m f source.sound (spare_rows arg_has (result_types d) spare_type (types_level d) f source.sound.numbered.values) v
      ∙ sym (told_own arg_has (result_types d) spare_type (types_level d) f source.sound.numbered.values v lt)

  pub operands_kept : (os : List Operand) → Each (IsValueBelow count) os → Each (IsSame num old_types new_table) os
  operands_kept os below = each_weaker (IsValueBelow count) (IsSame num old_types new_table) (λ o lt. type_kept o.value lt) os below

  pub function_kept : (v : ValueId) (g : FuncId) → v.0 < count → function_at (value_functions f) v.0 ≡ Some g
      → function_at (value_functions (lowered_body d f)) (num v).0 ≡ Some g
  function_kept v g lt e =
      let it = old_are_placed (length m.functions) d f v source.lowerable lt in
      let own : unwrap_or (slice_get (value_rows (λ k. map no_function) result_functions f) v.0) None ≡ Some g =
      ap (λ rows. function_at rows v.0) (sym (functions_rows f)) ∙ e in
      ap (λ w. function_at (value_functions (lowered_body d f)) w.0) it.2
      ∙ ap (λ rows. function_at rows it.0) functions_are
      ∙ ap (λ o. unwrap_or o None) (mapped_at function_told defined it.0 (stands_for (renamings_of f) v) it.1)
      ∙ ap function_told (function_stands m f source.sound v g own)
      ∙ sym (told_own no_function result_functions no_spare functions_level f source.sound.numbered.values v lt)
      ∙ own
